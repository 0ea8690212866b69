-- The scan of the outputs, unit by unit, and what is noted of it: in each lane below count the first place that opposes, if there is one yet,
-- and whether something is left to show.
use mathlib.Core.Path.{◌≡◌, sym, ap, ◌∙◌}
use mathlib.Core.Bool.{Bool, true, false, cond, not, ◌&&◌, ◌||◌, or-false}
use mathlib.Core.List.{List}
use mathlib.Core.Option.{Option, none, some, or_else}
use Prim.Native.Nat.{ℕ, suc, ◌+◌, ◌*◌, ◌<◌, ◌≤◌}
use lib.Bits.{bit_and, bit_or, bit_xor}
use lib.Dec.{eqb, ltb}
use lib.ListN.{get_or, length, take}
use lib.Seq.{take_all}
use native.Mathlib.Omega.{arith}
use native.Mathlib.Numerals.{add-one}
use borrow.Author.Tests.{lt-ltb}
use Rattle.lists.specs.Scan.{◌else◌, first_pair, first_answer, any_below}
use Rattle.lists.specs.Field.{row_of, Rows}
use Rattle.lists.proofs.Tests.{clash}
use Rattle.lists.proofs.Scan.{get_or_any}
use Rattle.lists.proofs.Nested.{scan_to, scan-none, scan-turn, scan-row, scan-stop, scan-all, first_answer-same, first_pair-select}
use Rattle.lists.proofs.Field.{byte-of-part, length-row}
use Rattle.model.specs.Inputs.{N, O, L, is_output, output_lines, inputs_at, Fault}
use Rattle.model.specs.Values.{X, is_specified, opposes}
use Rattle.model.specs.Simulation.{no_fault, shown, power_up, line_values, outputs, state_at, values_at, outputs_at, plain_values, plain_outputs, free_values, free_outputs}
use Rattle.model.specs.Expansion.{count_open}
use Rattle.model.specs.Grade.{opposed_at}
use Rattle.lanes.specs.Lane.{bit, Lane}
use Rattle.lanes.proofs.Bits.{xor_b, bit-and, bit-or, bit-xor, bit-none}
use Rattle.unit.specs.Unit.{Stuck}
use Rattle.run.proofs.Laws.{length-output_lines, length-outputs, shown-at}
use Rattle.plain.specs.declared.Firsts.{Firsts}
use Rattle.plain.specs.Places.{place_at, Noted, Places}
use Rattle.plain.proofs.Left.{open_none, left-more, some_left}

-- ---- the scan that the definition is
module _ (c t free : List ℕ) (size : ℕ) (f : Fault) where
  -- output o at unit u, if it opposes the response there
  unfoldable pub answer_at : ℕ → ℕ → Option (ℕ × ℕ)
  answer_at u o = cond (opposes (get_or free (size * u + o) 0) (get_or (plain_outputs c t f u) o X)) (some (u, get_or (output_lines c) o 0)) none

-- which is said of the output's line by the definition, of its place among the outputs by the tables
answer-listed : (c t free : List ℕ) (f : Fault) (u o : ℕ) → row_of (O c) free u ≡ free_outputs c t u → o < O c
    → cond (opposes (shown no_fault (free_values c t u) (get_or (output_lines c) o 0)) (shown f (plain_values c t f u) (get_or (output_lines c) o 0))) (some (u, get_or (output_lines c) o 0)) none
    ≡ answer_at c t free (O c) f u o
unfolding answer_at row_of shown free_values free_outputs plain_values plain_outputs outputs_at
answer-listed c t free f u o row h =
    let vs = values_at c t no_fault (power_up c) u in
    let fault-free : get_or vs (get_or (output_lines c) o 0) X ≡ get_or free (O c * u + o) 0 =
    shown-at c no_fault vs o h ∙ get_or_any (outputs c no_fault vs) o X 0 (rw (length-outputs c no_fault vs) h) ∙ ap (λ x. get_or x o 0) (sym row) ∙ sym (byte-of-part free (O c * u) (O c) o h) in
    rw (fault-free, shown-at c f (values_at c t f (power_up c) u) o h)

pub first_scanned : (c t free : List ℕ) (size units : ℕ) (f : Fault) → size ≡ O c → units ≤ L c t → Rows (O c) (L c t) free (free_outputs c t)
    → first_pair (λ u n. opposed_at c t f u n) units (N c) ≡ first_answer (λ u. first_answer (λ o. answer_at c t free size f u o) size) units
unfolding opposed_at output_lines
first_scanned c t free size units f e most rows =
    let listed = first_pair-select (λ n. is_output c n) (λ u n. opposes (shown no_fault (free_values c t u) n) (shown f (plain_values c t f u) n)) units (N c) in
    rw e
    (listed
    ∙ rw (length-output_lines c) (first_answer-same _ _ units (λ u h. first_answer-same _ _ (O c) (λ o l. answer-listed c t free f u o (rows.at u (omega arith)) l))))

-- ---- rows
row-byte : (size u o : ℕ) (free : List ℕ) → o < size → get_or free (size * u + o) 0 ≡ get_or (row_of size free u) o 0
unfolding row_of
row-byte size u o free h = byte-of-part free (size * u) size o h

length-plain : (c t : List ℕ) (f : Fault) (u : ℕ) → length (plain_outputs c t f u) ≡ O c
unfolding plain_outputs outputs_at
length-plain c t f u = length-outputs c f (values_at c t f (power_up c) u)

-- ---- what is noted of it
-- a lane that has a place keeps it; else the place is noted if it opposes
place-step : (found opposing opposed : Bool) (before : Option (ℕ × ℕ)) (p p' q : ℕ × ℕ) → opposing ≡ opposed → before ≡ cond found (some p) none → p' ≡ cond (opposing && not found) q p
    → before else cond opposed (some q) none ≡ cond (found || (opposing && not found)) (some p') none
unfolding or_else
place-step true true opposed before p p' q h e n = rw (e, n)
place-step true false opposed before p p' q h e n = rw (e, n)
place-step false true opposed before p p' q h e n = rw (e, n, ← h)
place-step false false opposed before p p' q h e n = rw (e, ← h)

-- a new lane is a wanted one that opposes and has no place
module _ (lane opposing wanted found : ℕ) where
  new-bit : bit lane wanted ≡ true → bit lane (bit_and opposing (bit_xor wanted found)) ≡ (bit lane opposing && not (bit lane found))
  unfolding xor_b
  new-bit w = bit-and lane opposing (bit_xor wanted found) ∙ rw (bit-xor lane wanted found, w)

-- the first place before output o of unit u is the one noted for the lane, which has its bit, or there is none; the bit of the lane in `left` says
-- whether an output before it is X where its response is specified
pub record Scanned (c t free : List ℕ) (size : ℕ) (f : Fault) (lane u o found left : ℕ) (times lines : List ℕ) : Type 0 where
  pub place : scan_to (λ u o. answer_at c t free size f u o) size u o ≡ cond (bit lane found) (some (place_at times lines lane)) none
  pub unknown : bit lane left ≡ (any_below (λ v. ltb 0 (count_open (row_of size free v) (plain_outputs c t f v))) u || ltb 0 (count_open (row_of size free u) (take o (plain_outputs c t f u))))

module _ (c t free : List ℕ) (size : ℕ) (f : Fault) (lane : ℕ) where
  pub scanned_none : (times lines : List ℕ) → Scanned c t free size f lane 0 0 0 0 times lines
  unfolding any_below
  scanned_none times lines = record {
    place = scan-none (λ u o. answer_at c t free size f u o) size ∙ rw (bit-none lane);
    unknown = bit-none lane ∙ sym (open_none (row_of size free 0) (plain_outputs c t f 0));
  }

  module _ (u o found left : ℕ) (times lines : List ℕ) (h : Scanned c t free size f lane u o found left times lines) where
    -- output o is looked at
    pub scanned_turn : (times' lines' : List ℕ) (n opposing wanted unknown : ℕ) → lane < 64 → bit lane wanted ≡ true → n ≡ get_or (output_lines c) o 0 → o < size → o < O c → size * u + size ≤ length free
        → bit lane opposing ≡ opposes (get_or free (size * u + o) 0) (get_or (outputs c f (line_values c f (inputs_at c t u) (state_at c t f (power_up c) u))) o X)
        → bit lane unknown ≡ (is_specified (get_or free (size * u + o) 0) && eqb (get_or (outputs c f (line_values c f (inputs_at c t u) (state_at c t f (power_up c) u))) o X) X)
        → Noted (bit_and opposing (bit_xor wanted found)) u n times lines times' lines'
        → Scanned c t free size f lane u (o + 1) (bit_or found (bit_and opposing (bit_xor wanted found))) (bit_or left unknown) times' lines'
    unfolding answer_at plain_outputs outputs_at values_at
    scanned_turn times' lines' n opposing wanted unknown low w at inside below fits opposed unknown-here noted =
        let new = new-bit lane opposing wanted found w in
        record {
          place = scan-turn (λ u o. answer_at c t free size f u o) size u o
              ∙ rw (bit-or lane found (bit_and opposing (bit_xor wanted found)), new)
              (place-step (bit lane found) (bit lane opposing) _ _ (place_at times lines lane) (place_at times' lines' lane) (u, get_or (output_lines c) o 0) opposed h.place
              (noted.at lane low ∙ rw (new, at)));
          unknown = left-more lane left unknown (any_below (λ v. ltb 0 (count_open (row_of size free v) (plain_outputs c t f v))) u) (row_of size free u) (plain_outputs c t f u) o _ (rw (length-outputs c f _) below) (rw (length-row size u free fits) inside) (row-byte size u o free inside) h.unknown unknown-here;
        }

    -- the unit is at its end
    pub scanned_row : o ≡ size → size ≡ O c → Scanned c t free size f lane (u + 1) 0 found left times lines
    unfolding any_below
    scanned_row e all = record {
      place = scan-row (λ u o. answer_at c t free size f u o) size u o e ∙ h.place;
      unknown =
          let whole : take o (plain_outputs c t f u) ≡ plain_outputs c t f u = take_all o (plain_outputs c t f u) (omega (arith, length-plain c t f u)) in
          h.unknown ∙ rw (whole, add-one u, open_none (row_of size free (suc u)) (plain_outputs c t f (suc u))) (sym (or-false _));
    }

-- ---- the lanes below count, when the loops are left
module _ (c t free : List ℕ) (size count units : ℕ) (hits masks state : List ℕ) (u : ℕ) (r : Firsts) (times lines : List ℕ)
    (e : size ≡ O c) (most : units ≤ L c t) where
  -- each of them has a place
  pub places-stop : (o : ℕ) → ((lane : ℕ) → lane < 64 → bit lane r.found ≡ ltb lane count) → u < units → o ≤ size
      → ((lane : ℕ) (f : Fault) → lane < count → Stuck lane hits masks f → Lane lane state (power_up c) → Scanned c t free size f lane u o r.found r.left times lines)
      → Places c t free count units hits masks state times lines r
  places-stop o all i j lanes = record {
    first = λ lane f l s st rows.
        let has : bit lane r.found ≡ true = all lane s.lane ∙ lt-ltb lane count l in
        first_scanned c t free size units f e most rows
        ∙ rw has (scan-stop (λ u o. answer_at c t free size f u o) size u o units (place_at times lines lane) i j ((lanes lane f l s st).place ∙ rw has));
    left = λ lane f l s st rows whole no. clash _ (all lane s.lane ∙ lt-ltb lane count l) no;
  }

  -- no unit is left
  pub places-all : u ≡ units
      → ((lane : ℕ) (f : Fault) → lane < count → Stuck lane hits masks f → Lane lane state (power_up c) → Scanned c t free size f lane u 0 r.found r.left times lines)
      → Places c t free count units hits masks state times lines r
  places-all i lanes = record {
    first = λ lane f l s st rows.
        first_scanned c t free size units f e most rows ∙ scan-all (λ u o. answer_at c t free size f u o) size u units i ∙ (lanes lane f l s st).place;
    left = λ lane f l s st rows whole no.
        (lanes lane f l s st).unknown
        ∙ rw (open_none (row_of size free u) (plain_outputs c t f u), or-false (any_below (λ v. ltb 0 (count_open (row_of size free v) (plain_outputs c t f v))) u), i, whole, e)
        (some_left c t f free rows);
  }
