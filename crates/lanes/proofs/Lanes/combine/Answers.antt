use Rattle.lanes.proofs.Laws.{more_1, more_2, more_3, more_4}
use native.Mathlib.Omega.{arith}
use Rattle.lanes.proofs.Lanes.combine.Goals as goal

pub returns-in-0-to-3 : goal.returns-in-0-to-3
returns-in-0-to-3 c = λ t v ws h g. more_1 t _ _ _ v ws (omega arith) h

pub returns-in-4-to-5 : goal.returns-in-4-to-5
returns-in-4-to-5 c = λ t v ws h g. more_2 t _ _ _ v ws (omega arith) (λ w e. c.and.ensures t v w h (rw e g))

pub returns-in-6-to-7 : goal.returns-in-6-to-7
returns-in-6-to-7 c = λ t v ws h g. more_3 t _ _ _ v ws (omega arith) (λ e. c.or.ensures t v ws h (rw e g))

pub returns-in_default : goal.returns-in_default
returns-in_default c = λ t v ws h g. more_4 t _ _ _ v ws (omega arith) (λ w e. c.xor.ensures t v w h (rw e g))
