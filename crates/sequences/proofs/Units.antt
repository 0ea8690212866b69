-- How a lane's sequence goes on from unit to unit, and how it ends.
use mathlib.Core.Path.{◌≡◌, sym, ap, ◌∙◌}
use Prim.Native.Nat.{ℕ, suc, ◌+◌, ◌-◌, ◌<◌, ◌≤◌}
use mathlib.Core.Bool.{Bool, true, false, cond, true≢false, or-false}
use mathlib.Core.List.{List}
use borrow.Author.Tests.{lt-ltb, le-ltb}
use lib.ListN.{length}
use native.Mathlib.Numerals.{add-one}
use native.Mathlib.Omega.{arith}
use Rattle.lists.proofs.Tests.{by-test}
use Rattle.model.specs.Inputs.{F, L, inputs_at, Fault}
use Rattle.model.specs.Accepted.{ThreeValued, ValidTest}
use Rattle.model.specs.Values.{give_row, has_conflict, some_oppose}
use Rattle.model.specs.Simulation.{power_up, line_values, outputs, next_state, free_outputs}
use Rattle.model.specs.Sequences.{sequence_row, ending, end_of, ends_differing, ends_clashing, ends_surviving}
use Rattle.model.proofs.Apart.{three-clear}
use Rattle.model.proofs.Runs.{length-next_state}
use Rattle.model.proofs.ThreeValued.{power_up-three, inputs-three, line_values-three, next_state-three}
use Rattle.lanes.specs.Lane.{bit, Lane, Follows}
use Rattle.lanes.proofs.Bits.{bit-none}
use Rattle.lanes.proofs.Follows.{clear_at, follows-start}
use Rattle.rows.proofs.Laws.{length-give_row, give_row-nothing}
use Rattle.sequences.specs.declared.Ends.{Ends}
use Rattle.sequences.specs.Ends.{list_at, Turned, Ended}
use Rattle.sequences.proofs.Lists.{give_row-unknown}

-- ---- rows without a conflict
clear-valued : (vs : List ℕ) → has_conflict vs ≡ false → ThreeValued vs
clear-valued vs e = record { at = λ m. omega (arith, clear_at vs m e) }

pub clear-power_up : (c : List ℕ) → has_conflict (power_up c) ≡ false
clear-power_up c = three-clear (power_up c) (power_up-three c).at

pub clear_next : (c t : List ℕ) (f : Fault) (u : ℕ) (st : List ℕ) → f.value < 2 → ValidTest c t → has_conflict st ≡ false → has_conflict (next_state c f (line_values c f (inputs_at c t u) st)) ≡ false
clear_next c t f u st b valid e =
    three-clear _ (next_state-three c f b _ (line_values-three c f b _ st (inputs-three c t u valid.bytes) (clear-valued st e))).at

-- ---- into a unit
module _ (c t : List ℕ) (f : Fault) (pairs : List (ℕ × ℕ)) (b : ℕ) (lane : ℕ) (ws : List ℕ) where
  -- the state of unit 0: nothing was known
  pub started : length (sequence_row c t f pairs b 0) ≡ F c → has_conflict (sequence_row c t f pairs b 0) ≡ false → Follows lane ws (give_row (power_up c) (sequence_row c t f pairs b 0)) → Lane lane ws (sequence_row c t f pairs b 0)
  started long clear h = let row : give_row (power_up c) (sequence_row c t f pairs b 0) ≡ sequence_row c t f pairs b 0 = unknown in (rw row at h).holds clear
    where
      unknown : give_row (power_up c) (sequence_row c t f pairs b 0) ≡ sequence_row c t f pairs b 0
      unknown = unfold power_up in give_row-unknown (F c) _ long

  module _ (u : ℕ) (vs : List ℕ) where
    -- past unit L - 1 it is given nothing
    pub entered-end : L c t ≤ u → has_conflict vs ≡ false → Lane lane ws vs
        → Follows lane ws (give_row vs (list_at c t f pairs b u)) × (bit lane 0 ≡ has_conflict (give_row vs (list_at c t f pairs b u)))
    entered-end h clear l = rw same (follows-start lane ws vs clear l, bit-none lane ∙ sym clear)
      where
        same : give_row vs (list_at c t f pairs b u) ≡ vs
        same = unfold list_at in rw (le-ltb u (L c t) h) (give_row-nothing c vs (clear-valued vs clear))

    -- before that its list
    pub entered-list : (r : ℕ) → u < L c t → ((now : List ℕ) → length now ≡ length vs → Follows lane ws now → bit lane r ≡ has_conflict now) → Follows lane ws (give_row vs (sequence_row c t f pairs b u))
        → Follows lane ws (give_row vs (list_at c t f pairs b u)) × (bit lane r ≡ has_conflict (give_row vs (list_at c t f pairs b u)))
    unfolding list_at
    entered-list r h found old = rw (lt-ltb u (L c t) h) (old, found _ (length-give_row vs _) old)

-- ---- one unit of the definition
module _ (c t : List ℕ) (f : Fault) (pairs : List (ℕ × ℕ)) (b u : ℕ) (st : List ℕ) where
  abbrev pub opposed : Bool
  opposed = some_oppose (free_outputs c t u) (outputs c f (line_values c f (inputs_at c t u) st))

  abbrev pub entering : List ℕ
  entering = give_row (next_state c f (line_values c f (inputs_at c t u) st)) (list_at c t f pairs b (u + 1))

  one_unit : u < L c t → ending c t f pairs b u (L c t - u) st ≡ cond opposed ends_differing (cond (has_conflict entering) ends_clashing (ending c t f pairs b (u + 1) (L c t - (u + 1)) entering))
  unfolding ending list_at
  one_unit h = let left : L c t - u ≡ suc (L c t - (u + 1)) = omega arith in rw (left, add-one u)

  pub ends-differing : u < L c t → opposed ≡ true → ending c t f pairs b u (L c t - u) st ≡ ends_differing
  ends-differing h o = one_unit h ∙ rw o

  pub ends-clashing : u < L c t → opposed ≡ false → has_conflict entering ≡ true → ending c t f pairs b u (L c t - u) st ≡ ends_clashing
  ends-clashing h o k = one_unit h ∙ rw (o, k)

  pub goes_on : u < L c t → opposed ≡ false → has_conflict entering ≡ false → ending c t f pairs b u (L c t - u) st ≡ ending c t f pairs b (u + 1) (L c t - (u + 1)) entering
  goes_on h o k = one_unit h ∙ rw (o, k)

-- ---- one unit of a lane
-- a lane that goes on has a state with no conflict, from which it ends as from unit 0
pub record RunsOn (c t : List ℕ) (f : Fault) (pairs : List (ℕ × ℕ)) (b u lane : ℕ) (state : List ℕ) : Type 0 where
  pub values : List ℕ
  pub long : length values ≡ F c
  pub clear : has_conflict values ≡ false
  pub holds : Lane lane state values
  pub same : ending c t f pairs b u (L c t - u) values ≡ end_of c t f pairs b

-- a lane goes on, or its end is told
pub record LaneAt (c t : List ℕ) (f : Fault) (pairs : List (ℕ × ℕ)) (b u lane wanted : ℕ) (state : List ℕ) (ends : Ends) : Type 0 where
  pub runs : bit lane ends.surviving ≡ true → RunsOn c t f pairs b u lane state
  pub going : bit lane ends.surviving ≡ true → (bit lane wanted ≡ true) × (bit lane ends.differing ≡ false) × (bit lane ends.clashing ≡ false)
  pub over : bit lane ends.surviving ≡ false → Ended lane wanted (end_of c t f pairs b) ends

-- an end that is told
module _ (lane wanted end : ℕ) (r : Ends) (want : bit lane wanted ≡ true) where
  differs : end ≡ ends_differing → bit lane r.differing ≡ true → bit lane r.clashing ≡ false → bit lane r.surviving ≡ false → Ended lane wanted end r
  differs e d k s = rw e record { differing = d ∙ rw want; clashing = k ∙ rw want; surviving = s ∙ rw want }

  clashes : end ≡ ends_clashing → bit lane r.differing ≡ false → bit lane r.clashing ≡ true → bit lane r.surviving ≡ false → Ended lane wanted end r
  clashes e d k s = rw e record { differing = d ∙ rw want; clashing = k ∙ rw want; surviving = s ∙ rw want }

  survives : end ≡ ends_surviving → bit lane r.differing ≡ false → bit lane r.clashing ≡ false → bit lane r.surviving ≡ true → Ended lane wanted end r
  survives e d k s = rw e record { differing = d ∙ rw want; clashing = k ∙ rw want; surviving = s ∙ rw want }

-- the words after a turn
module _ (lane opp con : ℕ) (a z : Ends) (turned : Turned lane opp con a z) where
  stays-over : bit lane a.surviving ≡ false → (bit lane z.differing ≡ bit lane a.differing) × (bit lane z.clashing ≡ bit lane a.clashing) × (bit lane z.surviving ≡ bit lane a.surviving)
  stays-over s = (turned.differing ∙ rw s (or-false _), turned.clashing ∙ rw s (or-false _), turned.surviving ∙ rw s)

  module _ (s : bit lane a.surviving ≡ true) (d : bit lane a.differing ≡ false) (k : bit lane a.clashing ≡ false) where
    turned-differing : bit lane opp ≡ true → (bit lane z.differing ≡ true) × (bit lane z.clashing ≡ false) × (bit lane z.surviving ≡ false)
    turned-differing o = (turned.differing ∙ rw (s, d, o), turned.clashing ∙ rw (s, k, o), turned.surviving ∙ rw (s, o))

    turned-clashing : bit lane opp ≡ false → bit lane con ≡ true → (bit lane z.differing ≡ false) × (bit lane z.clashing ≡ true) × (bit lane z.surviving ≡ false)
    turned-clashing o h = (turned.differing ∙ rw (s, d, o), turned.clashing ∙ rw (s, k, o, h), turned.surviving ∙ rw (s, o, h))

    turned_on : bit lane opp ≡ false → bit lane con ≡ false → (bit lane z.differing ≡ false) × (bit lane z.clashing ≡ false) × (bit lane z.surviving ≡ true)
    turned_on o h = (turned.differing ∙ rw (s, d, o), turned.clashing ∙ rw (s, k, o, h), turned.surviving ∙ rw (s, o, h))

module _ (c t : List ℕ) (f : Fault) (pairs : List (ℕ × ℕ)) (b lane wanted : ℕ) where
  pub lane-starts : (state : List ℕ) → length (sequence_row c t f pairs b 0) ≡ F c → has_conflict (sequence_row c t f pairs b 0) ≡ false → Lane lane state (sequence_row c t f pairs b 0)
      → LaneAt c t f pairs b 0 lane wanted state record { differing = 0; clashing = 0; surviving = wanted }
  lane-starts state long clear l = record {
    runs = λ w. record { values = sequence_row c t f pairs b 0; long = long; clear = clear; holds = l; same = from_start_lem };
    going = λ w. (w, bit-none lane, bit-none lane);
    over = λ w. record { differing = bit-none lane ∙ rw w; clashing = bit-none lane ∙ rw w; surviving = w ∙ rw w };
  }
    where
      from_start_lem : ending c t f pairs b 0 (L c t - 0) (sequence_row c t f pairs b 0) ≡ end_of c t f pairs b
      from_start_lem = unfold end_of in (let all : L c t - 0 ≡ L c t = omega arith in rw all)

  module _ (u opp con : ℕ) (row state mid state' : List ℕ) (a z : Ends) (below : u < L c t) (free : row ≡ free_outputs c t u) (value : f.value < 2) (valid : ValidTest c t)
      (pass : (st : List ℕ) → Lane lane state st → length st ≡ F c → Lane lane mid (next_state c f (line_values c f (inputs_at c t u) st)) × (bit lane opp ≡ some_oppose row (outputs c f (line_values c f (inputs_at c t u) st))))
      (enter : (vs : List ℕ) → length vs ≡ F c → has_conflict vs ≡ false → Lane lane mid vs
      → Follows lane state' (give_row vs (list_at c t f pairs b (u + 1))) × (bit lane con ≡ has_conflict (give_row vs (list_at c t f pairs b (u + 1)))))
      (turned : Turned lane opp con a z) where
    told : bit lane z.surviving ≡ false → Ended lane wanted (end_of c t f pairs b) z → LaneAt c t f pairs b (u + 1) lane wanted state' z
    told s end = record { runs = λ y. absurd (true≢false (sym y ∙ s)); going = λ y. absurd (true≢false (sym y ∙ s)); over = λ y. end }

    pub lane-turn : LaneAt c t f pairs b u lane wanted state a → LaneAt c t f pairs b (u + 1) lane wanted state' z
    lane-turn at = by-test (bit lane a.surviving)
        (λ s.
        let run = at.runs s in
        let go = at.going s in
        let passed = pass run.values run.holds run.long in
        let opposing : bit lane opp ≡ opposed c t f pairs b u run.values = rw free at passed.1 in
        let entered = enter (next_state c f (line_values c f (inputs_at c t u) run.values)) (length-next_state c f _) (clear_next c t f u run.values value valid run.clear) passed.0 in
        by-test (bit lane opp)
        (λ o.
        let words = turned-differing lane opp con a z turned s go.1 go.2 o in
        told words.2 (differs lane wanted _ z go.0 (sym run.same ∙ ends-differing c t f pairs b u run.values below (sym opposing ∙ o)) words.0 words.1 words.2))
        (λ o. by-test (bit lane con)
        (λ k.
        let words = turned-clashing lane opp con a z turned s go.1 go.2 o k in
        told words.2
        (clashes lane wanted _ z go.0 (sym run.same ∙ ends-clashing c t f pairs b u run.values below (sym opposing ∙ o) (sym entered.1 ∙ k)) words.0 words.1 words.2))
        (λ k.
        let words = turned_on lane opp con a z turned s go.1 go.2 o k in
        let clear : has_conflict (entering c t f pairs b u run.values) ≡ false = sym entered.1 ∙ k in
        record {
          runs = λ y. record {
            values = entering c t f pairs b u run.values;
            long = length-give_row (next_state c f (line_values c f (inputs_at c t u) run.values)) _ ∙ length-next_state c f _;
            clear = clear;
            holds = entered.0.holds clear;
            same = sym (goes_on c t f pairs b u run.values below (sym opposing ∙ o) clear) ∙ run.same;
          };
          going = λ y. (go.0, words.0, words.1);
          over = λ y. absurd (true≢false (sym words.2 ∙ y));
        })))
        (λ s.
        let words = stays-over lane opp con a z turned s in
        let end = at.over s in
        told (words.2 ∙ s) record { differing = words.0 ∙ end.differing; clashing = words.1 ∙ end.clashing; surviving = words.2 ∙ end.surviving })

  -- no lane goes on
  pub all-over : (u : ℕ) (state : List ℕ) (ends : Ends) → ends.surviving ≡ 0 → LaneAt c t f pairs b u lane wanted state ends → Ended lane wanted (end_of c t f pairs b) ends
  all-over u state ends e at = at.over (ap (bit lane) e ∙ bit-none lane)

  -- the last unit is behind
  pub last-unit : (u : ℕ) (state : List ℕ) (ends : Ends) → u ≡ L c t → LaneAt c t f pairs b u lane wanted state ends → Ended lane wanted (end_of c t f pairs b) ends
  last-unit u state ends e at = by-test (bit lane ends.surviving)
      (λ s.
      let run = at.runs s in
      let go = at.going s in
      survives lane wanted _ ends go.0 (sym run.same ∙ none run.values) go.1 go.2 s)
      at.over
    where
      none : (st : List ℕ) → ending c t f pairs b u (L c t - u) st ≡ ends_surviving
      none st = unfold ending in (let left : L c t - u ≡ 0 = omega arith in rw left)
