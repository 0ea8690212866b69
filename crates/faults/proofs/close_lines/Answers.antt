use mathlib.Core.Path.{◌≡◌}
use Prim.Native.Nat.{◌+◌, ◌-◌}
use native.Mathlib.Omega.{arith}
use Rattle.faults.proofs.close_lines.Goals as goal

-- number j is that of fault j - from of the batch
pub bounds-hits-n : goal.bounds-hits-n
bounds-hits-n c =
    let j = c.loop-j.j in
    let from = c.args.from in
    let same : from + (j - from) ≡ j = omega arith in
    omega (arith, c.fault_of-n.ensures.line, rw same at (c.requires.0.line (j - from) (omega arith)))
