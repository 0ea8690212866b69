-- Choose: up to k plan records, each the best of the pairs that stage 5 would take next, those already written counting as taken.
use Rattle.std.specs.Prelude.{ℕ, zero, suc, ◌+◌, min, max, Bool, true, false, cond, ◌&&◌, List, [], ◌∷◌, ◌++◌, length, ltb}
use Rattle.std.proofs.Math.Option.{Option, none, some}
use Rattle.lists.specs.Field.{bytes16, overwritten}
use Rattle.model.specs.Inputs.{F, L, Fault, fault_at}
use Rattle.model.specs.Refusals.{Answer, answer, unless_refused, choose_refusal}
use Rattle.model.specs.Values.{is_specified}
use Rattle.model.specs.Implication.{extra}
use Rattle.model.specs.Expansion.{nsv, nout}
use Rattle.model.specs.Sequences.{takes}
use Rattle.model.specs.Grade.{Verdict, before_stage5}

-- how many bits an extra gives
unfoldable pub size : List ℕ → ℕ
size [] = 0
size (a ∷ row) = cond (is_specified a) 1 0 + size row

-- the larger number comes first; where they are equal the rest decides
unfoldable pub larger : ℕ → ℕ → Bool → Bool
larger a b rest = cond (ltb b a) true (cond (ltb a b) false rest)

unfoldable pub smaller : ℕ → ℕ → Bool → Bool
smaller a b rest = larger b a rest

module _ (c t : List ℕ) (f : Fault) where
  unfoldable pub smaller_extra : ℕ → ℕ → ℕ
  smaller_extra u i = min (size (extra c t f u i 0)) (size (extra c t f u i 1))

  unfoldable pub larger_extra : ℕ → ℕ → ℕ
  larger_extra u i = max (size (extra c t f u i 0)) (size (extra c t f u i 1))

  -- (u, i) is better than (v, j): largest Nout(u), smallest plain Nsv(u), largest smaller size of the two extras, largest larger size,
  -- lowest u, lowest i
  unfoldable pub better : ℕ → ℕ → ℕ → ℕ → Bool
  better u i v j =
      larger (nout c t f u) (nout c t f v)
      (smaller (nsv c t f u) (nsv c t f v)
      (larger (smaller_extra u i) (smaller_extra v j)
      (larger (larger_extra u i) (larger_extra v j)
      (smaller u v
      (smaller i j false)))))

  -- the better of the best so far and (u, i), if stage 5 would take (u, i) next
  unfoldable pub best_of : List (ℕ × ℕ) → Option (ℕ × ℕ) → ℕ → ℕ → Option (ℕ × ℕ)
  best_of pairs none u i = cond (takes c t f pairs u i) (some (u, i)) none
  best_of pairs (some q) u i = cond (takes c t f pairs u i && better u i q.0 q.1) (some (u, i)) (some q)

  -- the same over the flip-flops below i at u
  unfoldable pub best_at : List (ℕ × ℕ) → ℕ → ℕ → Option (ℕ × ℕ) → Option (ℕ × ℕ)
  best_at pairs u zero best = best
  best_at pairs u (suc i) best = best_of pairs (best_at pairs u i best) u i

  -- the best over the units below u
  unfoldable pub best_below : List (ℕ × ℕ) → ℕ → Option (ℕ × ℕ)
  best_below pairs zero = none
  best_below pairs (suc u) = best_at pairs u (F c) (best_below pairs u)

  -- among pairs stage 5 would take next
  unfoldable pub next_pair : List (ℕ × ℕ) → Option (ℕ × ℕ)
  next_pair pairs = best_below pairs (L c t)

  unfoldable pub with_pair : List (ℕ × ℕ) → Option (ℕ × ℕ) → List (ℕ × ℕ)
  with_pair pairs none = pairs
  with_pair pairs (some q) = pairs ++ (q ∷ [])

  -- repeatedly, up to k pairs
  unfoldable pub best_pairs : ℕ → List (ℕ × ℕ)
  best_pairs zero = []
  best_pairs (suc k) = let pairs = best_pairs k in with_pair pairs (next_pair pairs)

  unfoldable pub unless_decided : Option Verdict → List (ℕ × ℕ) → List (ℕ × ℕ)
  unless_decided none pairs = pairs
  unless_decided (some v) pairs = []

  -- after stage 4; none for verdicts 1, 2, 5
  unfoldable pub chosen : ℕ → List (ℕ × ℕ)
  chosen k = unless_decided (before_stage5 c t f) (best_pairs k)

-- as plan records
unfoldable pub plan_bytes : List (ℕ × ℕ) → List ℕ
plan_bytes [] = []
plan_bytes (q ∷ pairs) = bytes16 q.0 ++ bytes16 q.1 ++ plan_bytes pairs

-- what Choose returns: how many records it wrote
unfoldable pub choose_answer : List ℕ → List ℕ → List ℕ → ℕ → ℕ → ℕ → Answer
choose_answer c t fs k work result = answer (choose_refusal c t fs k work result) (length (chosen c t (fault_at fs 0) k))

-- what its result area holds afterwards, where it held `old`
unfoldable pub choose_area : List ℕ → List ℕ → List ℕ → ℕ → ℕ → List ℕ → List ℕ
choose_area c t fs k work old =
    unless_refused (choose_refusal c t fs k work (length old)) (overwritten (plan_bytes (chosen c t (fault_at fs 0) k)) old) old
