-- The table of refusals, row by row, and for each call the first row that applies, with its number and position.
-- An area is given by its length.
use Rattle.std.specs.Prelude.{ℕ, ◌+◌, ◌*◌, ◌/◌, ◌%◌, Bool, true, false, cond, not, ◌&&◌, ◌||◌, List, get_or, length, eqb, leb, ltb}
use Rattle.std.proofs.Math.Option.{Option, none, some}
use Rattle.lists.specs.Scan.{◌else◌, first_answer, any_below}
use Rattle.model.specs.Inputs.{N, kind, pin_count, output_mark, spare_byte, pin_line, is_gate, I, F, O, L, Fault, fault_count, fault_at, plan_count}

-- the number and position of a rule that is broken, or none
abbrev pub Refusal : Type 0
Refusal = Option (ℕ × ℕ)

unfoldable pub refuse : Bool → ℕ → ℕ → Refusal
refuse true number position = some (number, position)
refuse false number position = none

-- circuit length | 1 | 0, not a multiple of 12, or above 49,152
unfoldable pub row1 : List ℕ → Refusal
row1 c = refuse (eqb (length c) 0 || not (eqb (length c % 12) 0) || ltb 49152 (length c)) 1 0

-- kind 0 has none, kinds 1 to 3 have one pin, kinds 4 to 9 two to four
unfoldable pub pins_fit : ℕ → ℕ → Bool
pins_fit k pins = cond (eqb k 0) (eqb pins 0) (cond (leb k 3) (eqb pins 1) (leb 2 pins && leb pins 4))

-- pin i + 1 is unused and not 0
unfoldable pub unused_named : List ℕ → ℕ → ℕ → Bool
unused_named c n i = leb (pin_count c n) i && ltb 0 (pin_line c n (i + 1))

-- 4 | byte 2 above 1, byte 3 or an unused pin not 0
unfoldable pub stray_bytes : List ℕ → ℕ → Bool
stray_bytes c n = ltb 1 (output_mark c n) || ltb 0 (spare_byte c n) || any_below (λ i. unused_named c n i) 4

-- pin i + 1 breaks the naming rule or is N or more: a gate (kinds 2 to 9) names only lower lines; a flip-flop names any line, itself
-- included
unfoldable pub misnamed : List ℕ → ℕ → ℕ → Bool
misnamed c n i = leb (cond (is_gate c n) n (N c)) (pin_line c n (i + 1))

-- 5 | a used pin breaks the naming rule or is N or more
unfoldable pub misnames : List ℕ → ℕ → Bool
misnames c n = any_below (λ i. misnamed c n i) (pin_count c n)

-- each record in turn, 2 to 5
unfoldable pub rows2to5 : List ℕ → ℕ → Refusal
rows2to5 c n =
    refuse (ltb 9 (kind c n)) 2 n
    else refuse (not (pins_fit (kind c n) (pin_count c n))) 3 n
    else refuse (stray_bytes c n) 4 n
    else refuse (misnames c n) 5 n

-- circuit end | 6 | I or O is 0, or I, F or O above 256
unfoldable pub row6 : List ℕ → Refusal
row6 c = refuse (eqb (I c) 0 || eqb (O c) 0 || ltb 256 (I c) || ltb 256 (F c) || ltb 256 (O c)) 6 0

unfoldable pub circuit_rows : List ℕ → Refusal
circuit_rows c = row1 c else first_answer (λ n. rows2to5 c n) (N c) else row6 c

-- test length | 7 | 0, not a multiple of I, or L above 1,024
unfoldable pub row7 : List ℕ → List ℕ → Refusal
row7 c t = refuse (eqb (length t) 0 || not (eqb (length t % I c) 0) || ltb 1024 (L c t)) 7 0

-- test bytes | 8 | above 1 | byte
unfoldable pub row8 : List ℕ → Refusal
row8 t = first_answer (λ b. refuse (ltb 1 (get_or t b 0)) 8 b) (length t)

-- fault length | 9 | not a multiple of 4, or above 32,768 records; Simulate takes at most one, Choose exactly one
unfoldable pub row9 : ℕ → ℕ → List ℕ → Refusal
row9 least most fs = refuse (not (eqb (length fs % 4) 0) || ltb (fault_count fs) least || ltb most (fault_count fs)) 9 0

-- line, pin and value are as they should be
unfoldable pub fault_fits : List ℕ → Fault → Bool
fault_fits c f = ltb f.line (N c) && leb f.pin (pin_count c f.line) && leb f.value 1

-- each fault | 10 | line, pin or value not as above | record
unfoldable pub row10 : List ℕ → List ℕ → Refusal
row10 c fs = first_answer (λ j. refuse (not (fault_fits c (fault_at fs j))) 10 j) (fault_count fs)

-- plan length | 11 | not a multiple of 4, or above 4,096 records
unfoldable pub row11 : List ℕ → Refusal
row11 p = refuse (not (eqb (length p % 4) 0) || ltb 4096 (plan_count p)) 11 0

-- k | 12 | above 12
unfoldable pub row12 : ℕ → Refusal
row12 k = refuse (ltb 12 k) 12 0

-- verdicts lent to Group | 15 | length not a multiple of 16, or above 524,288
unfoldable pub row15 : List ℕ → Refusal
row15 vs = refuse (not (eqb (length vs % 16) 0) || ltb 524288 (length vs)) 15 0

-- document 02, of Generate: seed | 16 | zero
unfoldable pub row16 : ℕ → Refusal
row16 seed = refuse (eqb seed 0) 16 0

-- document 02, of Generate: time units | 17 | 0 or above 1,024
unfoldable pub row17 : ℕ → Refusal
row17 units = refuse (eqb units 0 || ltb 1024 units) 17 0

-- the bytes that number 13 asks for
unfoldable pub work_bytes : List ℕ → List ℕ → ℕ
work_bytes c t = 4 * N c + L c t * (4 * O c + 16 * F c + 8)

-- work area | 13 | under that many bytes
unfoldable pub row13 : List ℕ → List ℕ → ℕ → Refusal
row13 c t work = refuse (ltb work (work_bytes c t)) 13 0

-- result area | 14 | too short for the call's result
unfoldable pub row14 : ℕ → ℕ → Refusal
row14 size result = refuse (ltb result size) 14 0

-- The first that applies, down the table, is returned; a call skips rows on what it does not take.

-- rows 1 to 10, which Simulate, Grade and Choose share
unfoldable pub input_rows : List ℕ → List ℕ → ℕ → ℕ → List ℕ → Refusal
input_rows c t least most fs = circuit_rows c else row7 c t else row8 t else row9 least most fs else row10 c fs

unfoldable pub simulate_refusal : List ℕ → List ℕ → List ℕ → ℕ → ℕ → Refusal
simulate_refusal c t fs work result = input_rows c t 0 1 fs else row13 c t work else row14 (L c t * O c) result

unfoldable pub grade_refusal : List ℕ → List ℕ → List ℕ → List ℕ → ℕ → ℕ → ℕ → Refusal
grade_refusal c t fs p k work result =
    input_rows c t 0 32768 fs else row11 p else row12 k else row13 c t work else row14 (16 * fault_count fs) result

unfoldable pub choose_refusal : List ℕ → List ℕ → List ℕ → ℕ → ℕ → ℕ → Refusal
choose_refusal c t fs k work result = input_rows c t 1 1 fs else row12 k else row13 c t work else row14 (4 * k) result

unfoldable pub group_refusal : List ℕ → ℕ → Refusal
group_refusal vs result = row15 vs else row14 (2 * (length vs / 16)) result

-- 16 is checked after the circuit, 17 next, then 14 for the area
unfoldable pub generate_refusal : List ℕ → ℕ → ℕ → ℕ → Refusal
generate_refusal c seed units result = circuit_rows c else row16 seed else row17 units else row14 (units * I c) result

-- What a call returns: how much it did, or number and position of the rule that the input breaks.
pub data Answer : Type 0 where
  done : ℕ → Answer
  refused : ℕ → ℕ → Answer

unfoldable pub answer : Refusal → ℕ → Answer
answer none size = done size
answer (some r) size = refused r.0 r.1

-- What an area holds after a call: what the call wrote, or where it refused what the area held before.
unfoldable pub unless_refused : Refusal → List ℕ → List ℕ → List ℕ
unless_refused none written old = written
unless_refused (some r) written old = old
