use mathlib.Core.Path.{refl}
use Prim.Native.Nat.{◌*◌}
use native.Mathlib.Omega.{arith}
use borrow.Author.Tests.{ne_eqb}
use Rattle.model.specs.Values.{X}
use Rattle.lanes.proofs.Laws.{shows-x}
use Rattle.trial.proofs.Laws.{pair-value}
use Rattle.trial.proofs.both_values.Goals as goal

pub returns : goal.returns
returns c = λ t h.
    let p = c.args.p in
    rw (← pair-value p t)
    (c.with-2.ensures t _ h (c.with.ensures t X h (shows-x t X (omega arith)) (λ e. refl)) (λ e. rw (ne_eqb t (2 * p) (λ q. (let z : ⊥ = omega arith in z)))))
