-- What one place, and one unit, adds to the merits.
use mathlib.Core.Path.{◌≡◌, refl, sym, ap, ◌∙◌}
use Prim.Native.Nat.{ℕ, ◌+◌, ◌*◌, ◌-◌, ◌≤◌, ◌<◌}
use mathlib.Core.List.{List}
use lib.Dec.{eqb}
use lib.ListN.{get_or, length, set, take, drop}
use lib.Seq.{get_or-set_same, get_or-set_other}
use native.Mathlib.Omega.{arith}
use Rattle.std.proofs.lemmas.List.Recursion.{is_count_by}
use Rattle.std.specs.Prelude.{count_by, ◌==◌}
use Rattle.lists.specs.Field.{row_of}
use Rattle.lists.proofs.Tests.{by-eq, by-test}
use Rattle.std.proofs.Common.{zero-add}
use Rattle.model.specs.Values.{X}
use Rattle.model.specs.Expansion.{count_x, nsv, nout}
use Rattle.best.specs.Weights.{merit}
use Rattle.best.specs.Best.{AtMost, MeritsSet, most_nout}

-- ---- the places of a row
-- those that pass the test are those at X
pub unknown_counted : (row : List ℕ) → count_by (λ v. v == 2) row ≡ count_x row
unfolding count_x
unknown_counted row = sym (is_count_by count_x (λ v. v == 2) refl (λ a rest. by-test (eqb a X) (λ e. rw e) (λ e. rw e (zero-add (count_x rest)))) row)

-- ---- the loop over the units
module _ (units size : ℕ) (states nouts : List ℕ) where
  pub merits_none : (merits : List ℕ) → MeritsSet 0 size states nouts merits
  merits_none merits = record {
    small = record { at = λ u h. absurd (let z : ⊥ = omega arith in z) };
    right = λ c t f es rows ns. record { at = λ u h. absurd (let z : ⊥ = omega arith in z) };
  }

  pub merits_more : (u unknown : ℕ) (merits : List ℕ) → u < units → units ≤ length merits → size ≤ 256 → size * u + size ≤ length states → AtMost most_nout units nouts
      → unknown ≡ count_x (take (size * u + size - size * u) (drop (size * u) states))
      → MeritsSet u size states nouts merits → MeritsSet (u + 1) size states nouts (set merits u (get_or nouts u 0 * 512 + (256 - unknown)))
  unfolding merit nsv row_of
  merits_more u unknown merits h room few fits bound counted done =
      let v = get_or nouts u 0 * 512 + (256 - unknown) in
      let width : size * u + size - size * u ≡ size = omega arith in record {
        small = record {
          at = λ w l. by-eq w u
              (λ e. rw (e, get_or-set_same merits u v 0 (omega arith)) (omega (arith, bound.at u h)))
              (λ e. rw (get_or-set_other merits u w v 0 e) (done.small.at w (omega arith)));
        };
        right = λ c t f es rows ns. record {
          at = λ w l. by-eq w u
              (λ e. rw e (get_or-set_same merits u v 0 (omega arith)
              ∙ ap (λ n. n * 512 + (256 - unknown)) (ns u (omega arith))
              ∙ ap (λ n. nout c t f u * 512 + (256 - n)) ((rw width at counted) ∙ ap count_x (rw es (rows.at u (omega arith))))))
              (λ e. get_or-set_other merits u w v 0 e
              ∙ (done.right c t f es (record { at = λ x k. rows.at x (omega arith) }) (λ x k. ns x (omega arith))).at w (omega arith));
        };
      }
