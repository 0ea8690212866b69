use native.Mathlib.Omega.{arith}
use Rattle.rows.proofs.Turns.{opposes_0, opposes_1, opposes-X}
use Rattle.rows.proofs.opposing.Goals as goal

pub returns-in-0 : goal.returns-in-0
returns-in-0 c = opposes_0 _ _ c.in-0.is

pub returns-in-1 : goal.returns-in-1
returns-in-1 c = opposes_1 _ _ c.in-1.is

pub returns-in_default : goal.returns-in_default
returns-in_default c = opposes-X _ _ (omega arith)
