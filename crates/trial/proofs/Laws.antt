-- Lanes of pairs, and what is carried from pair to pair.
use mathlib.Core.Path.{◌≡◌, refl, ap, ◌∙◌}
use mathlib.Core.Bool.{Bool, true, false, cond, not, ◌&&◌, ◌||◌}
use mathlib.Core.List.{List}
use Prim.Native.Nat.{ℕ, zero, suc, ◌+◌, ◌*◌, ◌-◌, ◌/◌, ◌%◌, ◌<◌, ◌≤◌}
use native.Mathlib.Omega.{arith}
use native.Mathlib.Decide.{dec_le}
use lib.Bits.{bit_and, bit_or}
use lib.Dec.{eqb, leb, ltb}
use lib.ListN.{length, length-set}
use borrow.Author.Tests.{eq-eqb, ne_eqb, le-leb, lt-leb, lt-ltb, le-ltb}
use Rattle.lists.specs.Field.{row_of}
use Rattle.lists.proofs.Tests.{by-test, by-eq, or_left_false}
use Rattle.lists.proofs.Field.{row_fits}
use Rattle.model.specs.Inputs.{N, pin_line, flip_flop_line, I, F, L, inputs_at, Fault}
use Rattle.model.specs.Accepted.{ValidTest, ThreeValued}
use Rattle.model.specs.Values.{X, some_oppose, has_conflict}
use Rattle.model.specs.Simulation.{line_values, outputs, next_state, power_up, values_at, plain_state, plain_values, free_outputs}
use Rattle.model.specs.Implication.{give_line, implied, where_x, implied_at, marked, extra}
use Rattle.model.proofs.Runs.{length-line_values}
use Rattle.model.proofs.ThreeValued.{inputs-three, power_up-three, line_values-three, state_at-three}
use Rattle.model.proofs.Apart.{three-clear}
use Rattle.lanes.specs.declared.Lanes.{Lanes}
use Rattle.lanes.specs.Lane.{bit, Holds, Conflict, lanes_at, stored, Room, Follows, Given}
use Rattle.lanes.proofs.Bits.{bit-and, bit-or}
use Rattle.lanes.proofs.Laws.{lane-read}
use Rattle.lanes.proofs.Follows.{clear_at, conflict_as, follows-give, follows-X}
use Rattle.run.proofs.Laws.{length-inputs, length-state, length-power_up}
use Rattle.imply.proofs.Pins.{length-give}
use Rattle.imply.proofs.Steps.{length-down, length_up}
use Rattle.trial.specs.declared.Pair.{Pair}
use Rattle.trial.specs.Trial.{pair_of, Carried, tried_to}

sides : (a b : Bool) → (((a && true) || (b && false)) ≡ a) × (((a && false) || (b && true)) ≡ b)
sides true true = (refl, refl)
sides true false = (refl, refl)
sides false true = (refl, refl)
sides false false = (refl, refl)

-- ---- the lanes of a pair
pub from-pair : (p t : ℕ) → not (ltb t (2 * p)) ≡ leb p (t / 2)
from-pair p t = elim (dec_le p (t / 2)) [
  | yes h ↦ rw (le-leb p (t / 2) h, le-ltb t (2 * p) (omega arith))
  | no h ↦ rw (lt-leb p (t / 2) (omega arith), lt-ltb t (2 * p) (omega arith))
]

pub pair-value : (p t : ℕ) → cond (eqb t (2 * p + 1)) 1 (cond (eqb t (2 * p)) 0 X) ≡ cond (eqb (t / 2) p) (t % 2) X
pair-value p t = by-eq (t / 2) p
    (λ h. by-eq t (2 * p)
    (λ e. rw (eq-eqb (t / 2) p h, ne_eqb t (2 * p + 1) (λ q. (let z : ⊥ = omega arith in z)), eq-eqb t (2 * p) e) (let z : 0 ≡ t % 2 = omega arith in z))
    (λ e. rw (eq-eqb (t / 2) p h, eq-eqb t (2 * p + 1) (omega arith)) (let z : 1 ≡ t % 2 = omega arith in z)))
    (λ h. rw (ne_eqb (t / 2) p h, ne_eqb t (2 * p + 1) (λ q. h (omega arith)), ne_eqb t (2 * p) (λ q. h (omega arith))))

-- ---- what is carried from pair to pair
module _ (pairs : List Pair) where
  -- the lanes from pair p on get what is so for its unit, and all others keep what they have
  pub carried-more : (Has Has' : ℕ → ℕ → Type 0) (p : ℕ) → ((lane v : ℕ) → lane < 64 → lane / 2 < p → Has lane v → Has' lane v)
      → ((lane : ℕ) → lane < 64 → p ≤ lane / 2 → Has' lane (pair_of pairs p).unit) → Carried p pairs Has → Carried (p + 1) pairs Has'
  carried-more Has Has' p keep get old = record {
    pair = λ lane h l. elim (dec_le (suc (lane / 2)) p) [
      | yes g ↦ keep lane _ l g (old.pair lane g l)
      | no g ↦ (let here : lane / 2 ≡ p = omega arith in rw here (get lane l (omega arith)))
    ];
    rest = λ q lane e h l. let here : q ≡ p = omega arith in rw here (get lane l (omega arith));
  }

-- ---- pin lines that are given what their lanes try
module _ (c : List ℕ) (pairs : List Pair) (vs : List ℕ) (p lane : ℕ) where
  tried-length : (p : ℕ) → length (tried_to c pairs p lane vs) ≡ length vs
  unfolding tried_to give_line
  tried-length p = by-test (ltb (lane / 2) p) (λ e. rw e (simp length-set)) (λ e. rw e)

  tried_here : lane / 2 ≡ p → give_line (tried_to c pairs p lane vs) (pin_line c (flip_flop_line c (pair_of pairs p).bit) 1) (lane % 2) ≡ tried_to c pairs (p + 1) lane vs
  unfolding tried_to
  tried_here e = rw (e, le-ltb p p (omega arith), lt-ltb p (p + 1) (omega arith))

  tried_else : (lane / 2 ≡ p → ⊥) → tried_to c pairs p lane vs ≡ tried_to c pairs (p + 1) lane vs
  unfolding tried_to
  tried_else n = elim (dec_le (suc (lane / 2)) p) [
    | yes h ↦ rw (lt-ltb (lane / 2) p h, lt-ltb (lane / 2) (p + 1) (omega arith))
    | no h ↦ rw (le-ltb (lane / 2) p (omega arith), le-ltb (lane / 2) (p + 1) (let z : p + 1 ≤ lane / 2 = elim (dec_le (p + 1) (lane / 2)) [ yes g ↦ g | no g ↦ absurd (n (omega arith)) ] in z))
  ]

  pub pair-given : (ws ws' : List ℕ) (m : ℕ) (x both r : Lanes) → m ≡ pin_line c (flip_flop_line c (pair_of pairs p).bit) 1 → m < length vs → Room (m + 1) ws → x ≡ lanes_at ws m
      → Holds lane both (cond (eqb (lane / 2) p) (lane % 2) X)
      → ((t v w : ℕ) → v < 3 → w < 3 → Holds t x v → Holds t both w → Given t r v w) × ((t : ℕ) → Conflict t x → Conflict t r) → ws' ≡ stored ws m r
      → Follows lane ws (tried_to c pairs p lane vs) → Follows lane ws' (tried_to c pairs (p + 1) lane vs)
  pair-given ws ws' m x both r em inside room ex hb give es old = rw es (by-eq (lane / 2) p
      (λ h. rw (← tried_here h, ← em) (given (lane % 2) (omega arith) (rw (eq-eqb (lane / 2) p h) at hb)))
      (λ n. rw (← tried_else n) (follows-X lane _ _ m (given X (omega arith) (rw (ne_eqb (lane / 2) p n) at hb)))))
    where
      given : (w : ℕ) → w < 3 → Holds lane both w → Follows lane (stored ws m r) (give_line (tried_to c pairs p lane vs) m w)
      given w few h =
          let long : length (tried_to c pairs p lane vs) ≡ length vs = tried-length p in
          follows-give lane ws (tried_to c pairs p lane vs) old m w r (omega arith) room
          (λ e. (few, give.0 lane _ _ (clear_at (tried_to c pairs p lane vs) m e) few (lane-read lane ws (tried_to c pairs p lane vs) x m m ex refl (old.holds e) (omega arith)) h))
          (λ k. give.1 lane (conflict_as lane x _ ex k))

-- ---- the rows of a pair's unit
pub tried-none : (c : List ℕ) (pairs : List Pair) (lane : ℕ) (vs ws : List ℕ) → Follows lane ws vs → Follows lane ws (tried_to c pairs 0 lane vs)
unfolding tried_to
tried-none c pairs lane vs ws h = rw (le-ltb (lane / 2) 0 (omega arith)) h

-- ---- a word whose lanes from pair p on are another's
module _ (lane found wanted more out p q : ℕ) (taken : bit lane out ≡ (bit lane found && not (bit lane wanted))) (from : bit lane wanted ≡ leb p q) where
  pub word_below : q < p → bit lane (bit_or out (bit_and more wanted)) ≡ bit lane found
  word_below h =
      let away : bit lane wanted ≡ false = from ∙ lt-leb p q h in
      bit-or lane out (bit_and more wanted) ∙ rw (taken, bit-and lane more wanted, away) (sides (bit lane found) (bit lane more)).0

  pub word-above : p ≤ q → bit lane (bit_or out (bit_and more wanted)) ≡ bit lane more
  word-above h =
      let here : bit lane wanted ≡ true = from ∙ le-leb p q h in
      bit-or lane out (bit_and more wanted) ∙ rw (taken, bit-and lane more wanted, here) (sides (bit lane found) (bit lane more)).1

-- ---- a lane's trial
-- line values of plain simulation, as the lane's rows give them
pub plain_lane : (c t states : List ℕ) (f : Fault) (v : ℕ) → row_of (F c) states v ≡ plain_state c t f v → line_values c f (row_of (I c) t v) (row_of (F c) states v) ≡ plain_values c t f v
unfolding plain_values values_at plain_state inputs_at row_of
plain_lane c t states f v e = rw e

pub input_size : (c t : List ℕ) (v : ℕ) → ValidTest c t → v < L c t → length (row_of (I c) t v) ≡ I c
unfolding row_of inputs_at
input_size c t v valid h = length-inputs c t (I c) v refl (let fits : I c * v + I c ≤ L c t * I c = row_fits (I c) v (L c t) h in omega (arith, valid.whole))

pub state-size : (c t : List ℕ) (f : Fault) (v : ℕ) (row : List ℕ) → row ≡ plain_state c t f v → length row ≡ F c
unfolding plain_state
state-size c t f v row e = ap length e ∙ length-state c t f (power_up c) v (length-power_up c)

pub length-plain : (c t : List ℕ) (f : Fault) (v : ℕ) → length (plain_values c t f v) ≡ N c
unfolding plain_values values_at
length-plain c t f v = length-line_values c f _ _

pub plain-clear : (c t : List ℕ) (f : Fault) (v : ℕ) → ValidTest c t → f.value < 2 → has_conflict (plain_values c t f v) ≡ false
unfolding plain_values values_at
plain-clear c t f v valid binary =
    three-clear (plain_values c t f v) (line_values-three c f binary _ _ (inputs-three c t v valid.bytes) (state_at-three c f binary t (power_up c) v valid.bytes (power_up-three c))).at

module _ (c t : List ℕ) (f : Fault) (v i α : ℕ) where
  pub length-given : length (give_line (plain_values c t f v) (pin_line c (flip_flop_line c i) 1) α) ≡ N c
  length-given = length-give _ _ _ ∙ length-plain c t f v

  pub length-implied : length (implied_at c t f v i α) ≡ N c
  unfolding implied_at implied
  length-implied = length_up c f (N c) _ ∙ length-down c f (N c) _ ∙ length-given

  -- the lane is marked, and what it holds where it is not
  pub lane-marked : (lane found more : ℕ) (row : List ℕ) → row ≡ free_outputs c t v → bit lane found ≡ has_conflict (implied_at c t f v i α)
      → (has_conflict (implied_at c t f v i α) ≡ false → bit lane more ≡ some_oppose row (outputs c f (implied_at c t f v i α))) → bit lane (bit_or found more) ≡ marked c t f (suc v) i α
  unfolding marked
  lane-marked lane found more row er ef em = bit-or lane found more ∙ by-test (has_conflict (implied_at c t f v i α))
      (λ e. rw (ef, e))
      (λ e. rw (ef, e) (em e ∙ ap (λ r. some_oppose r (outputs c f (implied_at c t f v i α))) er))

  pub unmarked-clear : marked c t f (suc v) i α ≡ false → has_conflict (implied_at c t f v i α) ≡ false
  unfolding marked
  unmarked-clear e = or_left_false _ _ e

-- what an unmarked value gives: its extra, and line values that are 0, 1 or X
pub extra-shown : (c t : List ℕ) (f : Fault) (u i α : ℕ) → 1 ≤ u → marked c t f u i α ≡ false → extra c t f u i α ≡ where_x (plain_state c t f u) (next_state c f (implied_at c t f (u - 1) i α))
unfolding extra
extra-shown c t f zero i α h e = absurd (let z : ⊥ = omega arith in z)
extra-shown c t f (suc u) i α h e = let same : suc u - 1 ≡ u = omega arith in rw (e, same)

pub implied-three : (c t : List ℕ) (f : Fault) (u i α : ℕ) → 1 ≤ u → marked c t f u i α ≡ false → ThreeValued (implied_at c t f (u - 1) i α)
implied-three c t f zero i α h e = absurd (let z : ⊥ = omega arith in z)
implied-three c t f (suc u) i α h e =
    let same : suc u - 1 ≡ u = omega arith in
    rw same record { at = λ m. omega (arith, clear_at (implied_at c t f u i α) m (unmarked-clear c t f u i α e)) }

pub tried-all : (c : List ℕ) (pairs : List Pair) (count lane : ℕ) (vs : List ℕ) → lane / 2 < count → tried_to c pairs count lane vs ≡ give_line vs (pin_line c (flip_flop_line c (pair_of pairs (lane / 2)).bit) 1) (lane % 2)
unfolding tried_to
tried-all c pairs count lane vs h = rw (lt-ltb (lane / 2) count h)
