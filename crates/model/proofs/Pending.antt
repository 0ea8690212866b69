-- Nout from each unit to the one before it; and stage 2's condition: some unit has both Nsv and Nout above 0 exactly where Nout(0) is above
-- 0, for at unit 0 every state bit is X, and with no flip-flop no output ever is.
use mathlib.Core.Path.{◌≡◌, refl, sym, ◌∙◌}
use Prim.Native.Nat.{ℕ, zero, suc, ◌+◌, ◌-◌, ◌≤◌, ◌<◌}
use mathlib.Core.Bool.{true, and-false}
use mathlib.Core.List.{List, [], ◌∷◌}
use lib.ListN.{length-replicate}
use lib.Dec.{ltb}
use native.Mathlib.Omega.{arith}
use native.Mathlib.Decide.{dec_le}
use borrow.Author.Tests.{ne_eqb, ltb-true, ltb-false, lt-ltb}
use Rattle.lists.specs.Scan.{any_below}
use Rattle.lists.proofs.Tests.{by-test}
use Rattle.lists.proofs.Scan.{any_below-none, any_below-stop, select-all}
use Rattle.model.specs.Inputs.{N, is_output, output_lines, F, L, Fault}
use Rattle.model.specs.Accepted.{ValidCircuit, ValidTest, ValidFault}
use Rattle.model.specs.Values.{X, is_specified}
use Rattle.model.specs.Simulation.{shown, outputs, power_up, plain_outputs, outputs_at, free_outputs}
use Rattle.model.specs.Expansion.{count_open, nsv, open_places, nout, both_open}
use Rattle.model.proofs.Total.{TotalRow, nil-total, total-bit, get_or_total}
use Rattle.model.proofs.Runs.{map-total}
use Rattle.model.proofs.Sound.{FaultJob, values-total, nout-zero, nsv-start}
use Rattle.model.proofs.Accepted.{valid_job}

-- no place is open where the second row has no X
closed-total : (os xs : List ℕ) → TotalRow xs → count_open os xs ≡ 0
unfolding count_open TotalRow
closed-total [] xs h = refl
closed-total (o ∷ os) [] h = refl
closed-total (o ∷ os) (x ∷ xs) h =
    rw (ne_eqb x X (λ e. let z : ⊥ = omega (arith, total-bit x h.0) in z), and-false (is_specified o)) (omega (arith, closed-total os xs h.1))

module _ (c t : List ℕ) (f : Fault) where
  pub nout-step : (u : ℕ) → u < L c t → nout c t f u ≡ count_open (free_outputs c t u) (plain_outputs c t f u) + nout c t f (suc u)
  unfolding nout open_places
  nout-step u h = let left : L c t - u ≡ suc (L c t - suc u) = omega arith in rw left

  pub nout-end : nout c t f (L c t) ≡ 0
  unfolding nout open_places
  nout-end = let left : L c t - L c t ≡ 0 = omega arith in rw left

  open_places-none : (k u : ℕ) → ((v : ℕ) → v < u + k → count_open (free_outputs c t v) (plain_outputs c t f v) ≡ 0) → open_places c t f u k ≡ 0
  unfolding open_places
  open_places-none zero u h = refl
  open_places-none (suc k) u h = omega (arith, h u (omega arith), open_places-none k (suc u) (λ v q. h v (omega arith)))

  nout-none : (u : ℕ) → u ≤ L c t → ((v : ℕ) → v < L c t → count_open (free_outputs c t v) (plain_outputs c t f v) ≡ 0) → nout c t f u ≡ 0
  unfolding nout
  nout-none u l h = open_places-none (L c t - u) u (λ v q. h v (omega arith))

  module _ (job : FaultJob c t f) where
    -- with no flip-flop the plain run is total
    no-flip-flop : F c ≡ 0 → (u : ℕ) → u < L c t → TotalRow (plain_outputs c t f u)
    unfolding plain_outputs outputs_at outputs shown power_up output_lines
    no-flip-flop e u h =
        let whole : TotalRow (power_up c) = rw e nil-total in
        let values = values-total c t f job (power_up c) whole (length-replicate (F c) X) u h in
        map-total _ (λ n. (n < N c) × (is_output c n ≡ true)) _ (select-all (λ n. is_output c n) (N c) (N c) (omega arith))
        (λ n q. get_or_total _ n values.0 (omega (arith, values.1)))

    some-flip-flop : 0 < nout c t f 0 → 0 < F c
    some-flip-flop h = elim (dec_le 1 (F c)) [
      | yes g ↦ g
      | no g ↦ (
          let none : nout c t f 0 ≡ 0 = nout-none 0 (omega arith) (λ v q. closed-total _ _ (no-flip-flop (let z : F c ≡ 0 = omega arith in z) v q)) in
          omega arith)
    ]

    none-later : nout c t f 0 ≡ 0 → (u : ℕ) → u < L c t → nout c t f u ≡ 0
    none-later e u h = nout-none u (omega arith) (λ v q. nout-zero c t f job v e q)

  -- stage 2's condition
  pub both_open_somewhere : ValidCircuit c → ValidTest c t → ValidFault c f → any_below (λ u. both_open c t f u) (L c t) ≡ ltb 0 (nout c t f 0)
  both_open_somewhere circuit test fault =
      let job : FaultJob c t f = valid_job circuit test fault in
      by-test (ltb 0 (nout c t f 0))
      (λ e.
      let unknown : ltb 0 (nsv c t f 0) ≡ true = lt-ltb 0 (nsv c t f 0) (omega (arith, nsv-start c t f job, some-flip-flop job (ltb-true _ _ e))) in
      any_below-stop (λ u. both_open c t f u) 0 (L c t) (rw unknown e) test.some ∙ sym e)
      (λ e.
      let none : nout c t f 0 ≡ 0 = omega (arith, ltb-false 0 (nout c t f 0) e) in
      any_below-none (λ u. both_open c t f u) (L c t) (λ u h. rw (none-later job none u h) (and-false (ltb 0 (nsv c t f u)))) ∙ sym e)
