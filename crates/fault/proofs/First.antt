-- Stage 1 by rows of responses.
use mathlib.Core.Path.{◌≡◌, refl, sym, ◌∙◌}
use mathlib.Core.Bool.{Bool, true, false, true≢false}
use mathlib.Core.List.{List, [], ◌∷◌, ◌++◌}
use mathlib.Core.Option.{Option, none, some}
use Prim.Native.Nat.{ℕ, ◌<◌, ◌≤◌}
use native.Mathlib.Omega.{arith}
use lib.ListN.{length}
use Rattle.lists.specs.Field.{overwritten}
use Rattle.lists.proofs.Scan.{any_below-false, any_below-none, first_pair-some, first_pair-none}
use Rattle.model.specs.Inputs.{N, F, L, inputs_at, Fault}
use Rattle.model.specs.Accepted.{ValidCircuit, ValidTest, ThreeValued}
use Rattle.model.specs.Values.{some_oppose}
use Rattle.model.specs.Simulation.{no_fault, power_up, line_values, state_at, values_at, outputs_at, plain_outputs, free_outputs}
use Rattle.model.specs.Grade.{Verdict, opposed_at, stage1, at_pair}
use Rattle.model.proofs.Runs.{length-line_values}
use Rattle.model.proofs.ThreeValued.{power_up-three}
use Rattle.model.proofs.Sound.{outputs-opposed}
use Rattle.model.proofs.Stages.{at_pair-none}
use Rattle.lanes.specs.Lane.{Lane}
use Rattle.unit.specs.Unit.{Stuck}
use Rattle.run.proofs.Laws.{stuck-binary, values-three, length-state, length-power_up}
use Rattle.fault.specs.Fault.{ShownBoth}

-- what stands behind the row makes no difference
opposes-before : (xs end ys : List ℕ) → length ys ≤ length xs → some_oppose (xs ++ end) ys ≡ some_oppose xs ys
unfolding some_oppose
opposes-before [] [] [] h = refl
opposes-before [] (e ∷ end) [] h = refl
opposes-before [] end (y ∷ ys) h = absurd (let z : ⊥ = omega arith in z)
opposes-before (x ∷ xs) end [] h = refl
opposes-before (x ∷ xs) end (y ∷ ys) h = rw (opposes-before xs end ys (omega arith))

pub opposes-written : (row xs old ys : List ℕ) → row ≡ overwritten xs old → length ys ≤ length xs → some_oppose row ys ≡ some_oppose xs ys
unfolding overwritten
opposes-written row xs old ys e h = rw e (opposes-before xs _ ys h)

no-pair : (make : ℕ → ℕ → Verdict) (o : Option (ℕ × ℕ)) → ((q : ℕ × ℕ) → o ≡ some q → ⊥) → at_pair make o ≡ none
unfolding at_pair
no-pair make none h = refl
no-pair make (some q) h = absurd (h q refl)

module _ (c t : List ℕ) (f : Fault) where
  -- no row opposes
  pub first-none : ((u : ℕ) → u < L c t → some_oppose (free_outputs c t u) (plain_outputs c t f u) ≡ false) → stage1 c t f ≡ none
  unfolding stage1
  first-none never = no-pair _ _ (λ q e.
      let met = first_pair-some (λ u n. opposed_at c t f u n) (L c t) (N c) q e in
      true≢false (sym met.passes ∙ any_below-false (λ n. opposed_at c t f q.0 n) (N c) q.1 (sym (outputs-opposed c t f q.0) ∙ never q.0 met.row) met.place))

  -- a row opposes
  pub first-met : (u : ℕ) → u < L c t → some_oppose (free_outputs c t u) (plain_outputs c t f u) ≡ true → stage1 c t f ≡ none → ⊥
  unfolding stage1
  first-met u h opposed e =
      true≢false
      (sym opposed
      ∙ outputs-opposed c t f u
      ∙ any_below-none (λ n. opposed_at c t f u n) (N c) (λ n l. first_pair-none (λ u n. opposed_at c t f u n) (L c t) (N c) u n (at_pair-none _ _ e) h l))

-- ---- what lanes 0 and 1 show at unit u, one with the fault and one without
module _ {c t hits masks : List ℕ} (f : Fault) (u : ℕ) (circuit : ValidCircuit c) (test : ValidTest c t) (room : N c ≤ length hits) (stuck : Stuck 0 hits masks f) (idle : Stuck 1 hits masks no_fault) where
  pub both-shown : (state : List ℕ) {words free free' faulty faulty' : List ℕ} {opposed : Bool} → Lane 0 state (state_at c t f (power_up c) u) → Lane 1 state (state_at c t no_fault (power_up c) u)
      → ((lane : ℕ) (g : Fault) (st : List ℕ) → Stuck lane hits masks g → Lane lane state st → length st ≡ F c → Lane lane words (line_values c g (inputs_at c t u) st))
      → ShownBoth c hits masks words free free' faulty faulty' opposed
      → (free' ≡ overwritten (outputs_at c t no_fault (power_up c) u) free) × (faulty' ≡ overwritten (outputs_at c t f (power_up c) u) faulty)
      × (opposed ≡ some_oppose (free_outputs c t u) (plain_outputs c t f u))
  unfolding free_outputs plain_outputs outputs_at values_at
  both-shown state low high values shows =
      shows.at f no_fault _ _ stuck idle (values 0 f _ stuck low (long f)) (values 1 no_fault _ idle high (long no_fault)) (length-line_values c f _ _) (length-line_values c no_fault _ _)
      (three 0 f stuck) (three 1 no_fault idle)
    where
      long : (g : Fault) → length (state_at c t g (power_up c) u) ≡ F c
      long g = length-state c t g (power_up c) u (length-power_up c)

      three : (lane : ℕ) (g : Fault) → Stuck lane hits masks g → ThreeValued (line_values c g (inputs_at c t u) (state_at c t g (power_up c) u))
      three lane g s = values-three c t g (power_up c) u (stuck-binary c lane hits masks g circuit room s) test (power_up-three c)
