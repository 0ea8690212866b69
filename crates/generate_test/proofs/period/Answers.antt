-- One step more, and not back yet.
use Rattle.std.proofs.Common.{ℕ, suc, ◌≡◌, ◌≤◌, ◌<◌, ◌∙◌, ap, arith, add-one}
use native.Mathlib.Decide.{dec_le}
use Rattle.model.specs.Generate.{step, stepped}
use Rattle.generate_test.proofs.period.Goals as goal

further : (seed x r n : ℕ) → x ≡ stepped seed n → r ≡ step x → r ≡ stepped seed (suc n)
unfolding stepped
further seed x r n e s = s ∙ ap step e

-- it was not back before, and is not now
not_yet : (seed n : ℕ) → ((m : ℕ) → 1 ≤ m → m < n → stepped seed m ≡ seed → ⊥) → (stepped seed n ≡ seed → ⊥) → (m : ℕ) → 1 ≤ m → m < suc n → stepped seed m ≡ seed → ⊥
not_yet seed n before here m low high = elim (dec_le (suc m) n) [
  | yes h ↦ before m low h
  | no h ↦ (let e : m ≡ n = omega arith in rw e here)
]

pub loop-n-init : goal.loop-n-init
unfolding stepped
loop-n-init c = (c.step-x.ensures, λ m low high. absurd (let z : ⊥ = omega arith in z))

pub loop-n-preserved : goal.loop-n-preserved
loop-n-preserved c =
    let inv = c.loop-n.invariant in
    rw (add-one c.loop-n.n) (further _ _ _ _ inv.0 c.step-x-in-loop-n.ensures, not_yet _ _ inv.1 (λ e. c.if-x-seed.false (inv.0 ∙ e)))
