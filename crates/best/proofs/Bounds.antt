-- How large the criteria are: no Nout is above 262144 in a job within the limits, and no other above the number of flip-flops.
use mathlib.Core.Path.{◌≡◌, ◌∙◌}
use Prim.Native.Nat.{ℕ, zero, suc, ◌+◌, ◌*◌, ◌-◌, ◌<◌, ◌≤◌}
use mathlib.Core.Bool.{◌&&◌}
use mathlib.Core.List.{List, [], ◌∷◌}
use lib.Dec.{eqb}
use lib.ListN.{get_or, length, set, replicate, length-set, length-replicate, length-map}
use native.Mathlib.Omega.{arith}
use Rattle.lists.proofs.Tests.{cond_cases}
use Rattle.lists.proofs.Scan.{length-select}
use Rattle.model.specs.Inputs.{N, F, O, L, is_output, output_lines, Fault}
use Rattle.model.specs.Values.{X, is_specified}
use Rattle.model.specs.Simulation.{power_up, next_state, state_at, outputs, outputs_at, plain_state, plain_outputs, free_outputs}
use Rattle.model.specs.Implication.{nothing, where_x, implied_at, marked, extra}
use Rattle.model.specs.Expansion.{count_x, count_open, nsv, open_places, nout}
use Rattle.model.specs.Choose.{size, smaller_extra, larger_extra}
use Rattle.model.proofs.Runs.{length-next_state}
use Rattle.best.specs.Best.{AtMost, most_nout}

pub count_x-bound : (row : List ℕ) → count_x row ≤ length row
unfolding count_x
count_x-bound [] = omega arith
count_x-bound (a ∷ row) =
    let rest : count_x row ≤ length row = count_x-bound row in
    cond_cases (λ n. n + count_x row ≤ suc (length row)) (eqb a X) 1 0 (λ _. omega arith) (λ _. omega arith)

size-bound : (row : List ℕ) → size row ≤ length row
unfolding size
size-bound [] = omega arith
size-bound (a ∷ row) =
    let rest : size row ≤ length row = size-bound row in
    cond_cases (λ n. n + size row ≤ suc (length row)) (is_specified a) 1 0 (λ _. omega arith) (λ _. omega arith)

where_x-bound : (row new : List ℕ) → length (where_x row new) ≤ length row
unfolding where_x
where_x-bound [] new = omega arith
where_x-bound (a ∷ row) [] = omega arith
where_x-bound (a ∷ row) (b ∷ new) = omega (arith, where_x-bound row new)

open_bound : (free row : List ℕ) → count_open free row ≤ length free
unfolding count_open
open_bound [] row = omega arith
open_bound (a ∷ free) [] = omega arith
open_bound (a ∷ free) (b ∷ row) =
    let rest : count_open free row ≤ length free = open_bound free row in
    cond_cases (λ n. n + count_open free row ≤ suc (length free)) (is_specified a && eqb b X) 1 0 (λ _. omega arith) (λ _. omega arith)

module _ (c t : List ℕ) (f : Fault) where
  -- ---- Nout
  length-free : (u : ℕ) → length (free_outputs c t u) ≡ O c
  unfolding free_outputs plain_outputs outputs_at outputs output_lines O
  length-free u = length-map (output_lines c) _ ∙ length-select (λ n. is_output c n) (N c)

  open_places-bound : (u units : ℕ) → O c ≤ 256 → open_places c t f u units ≤ 256 * units
  unfolding open_places
  open_places-bound u zero h = omega arith
  open_places-bound u (suc units) h = omega (arith, open_bound (free_outputs c t u) (plain_outputs c t f u), length-free u, open_places-bound (suc u) units h)

  nout-bound : (u : ℕ) → O c ≤ 256 → L c t ≤ 1024 → nout c t f u ≤ most_nout
  unfolding nout
  nout-bound u h l = omega (arith, open_places-bound u (L c t - u) h)

  -- what set_merits asks of a table of Nout
  pub nouts_small : (units : ℕ) (nouts : List ℕ) → O c ≤ 256 → L c t ≤ 1024 → ((u : ℕ) → u < units → get_or nouts u 0 ≡ nout c t f u) → AtMost most_nout units nouts
  nouts_small units nouts h l is = record { at = λ u k. rw (is u k) (nout-bound u h l) }

  -- ---- the other criteria
  length-plain : (u : ℕ) → length (plain_state c t f u) ≡ F c
  unfolding plain_state state_at power_up
  length-plain zero = length-replicate (F c) X
  length-plain (suc u) = length-next_state c f _

  pub nsv-bound : (u : ℕ) → nsv c t f u ≤ F c
  unfolding nsv
  nsv-bound u = omega (arith, count_x-bound (plain_state c t f u), length-plain u)

  extra-bound : (u i α : ℕ) → size (extra c t f u i α) ≤ F c
  unfolding extra nothing
  extra-bound zero i α = omega (arith, size-bound (set (replicate (F c) X) i α), length-set (replicate (F c) X) i α, length-replicate (F c) X)
  extra-bound (suc u) i α = cond_cases (λ (row : List ℕ). size row ≤ F c) (marked c t f (suc u) i α) (replicate (F c) X) _
      (λ _. omega (arith, size-bound (replicate (F c) X), length-replicate (F c) X))
      (λ _. omega (arith, size-bound (where_x (plain_state c t f (suc u)) (next_state c f (implied_at c t f u i α))), where_x-bound (plain_state c t f (suc u)) (next_state c f (implied_at c t f u i α)), length-plain (suc u)))

  pub smaller-bound : (u i : ℕ) → smaller_extra c t f u i ≤ F c
  unfolding smaller_extra
  smaller-bound u i = omega (arith, extra-bound u i 0, extra-bound u i 1)

  pub larger-bound : (u i : ℕ) → larger_extra c t f u i ≤ F c
  unfolding larger_extra
  larger-bound u i = omega (arith, extra-bound u i 0, extra-bound u i 1)
