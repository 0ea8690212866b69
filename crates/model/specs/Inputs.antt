-- The four lent inputs: circuit, test, faults and plan. Each is records of one fixed size with no header; multi-byte fields are unsigned,
-- low byte first. An input is the list of its bytes; every field is defined for every list, so that a refusal can speak of any input.
use Rattle.std.specs.Prelude.{ℕ, ◌+◌, ◌*◌, ◌/◌, Bool, List, get_or, length, take, drop, eqb, leb}
use Rattle.lists.specs.Scan.{count_below, select}
use Rattle.lists.specs.Field.{word16}

-- Circuit, 12 bytes a line; a line's number is its position from 0.

-- N lines
unfoldable pub N : List ℕ → ℕ
N c = length c / 12

-- byte 0 kind: 0 input, 1 flip-flop, 2 buffer, 3 NOT, 4 AND, 5 NAND, 6 OR, 7 NOR, 8 XOR, 9 XNOR
unfoldable pub kind : List ℕ → ℕ → ℕ
kind c n = get_or c (12 * n) 0

-- byte 1 pin count
unfoldable pub pin_count : List ℕ → ℕ → ℕ
pin_count c n = get_or c (12 * n + 1) 0

-- byte 2: 1 if the line is an output, else 0
unfoldable pub output_mark : List ℕ → ℕ → ℕ
output_mark c n = get_or c (12 * n + 2) 0

-- byte 3: 0
unfoldable pub spare_byte : List ℕ → ℕ → ℕ
spare_byte c n = get_or c (12 * n + 3) 0

-- bytes 4 to 11: four 16-bit line numbers, pins 1 to 4
unfoldable pub pin_line : List ℕ → ℕ → ℕ → ℕ
pin_line c n pin = word16 c (12 * n + 2 + 2 * pin)

unfoldable pub is_input : List ℕ → ℕ → Bool
is_input c n = eqb (kind c n) 0

unfoldable pub is_flip_flop : List ℕ → ℕ → Bool
is_flip_flop c n = eqb (kind c n) 1

-- a gate (kinds 2 to 9)
unfoldable pub is_gate : List ℕ → ℕ → Bool
is_gate c n = leb 2 (kind c n)

unfoldable pub is_output : List ℕ → ℕ → Bool
is_output c n = eqb (output_mark c n) 1

-- the lines of the flip-flops, and those of the outputs, in line order
unfoldable pub flip_flops : List ℕ → List ℕ
flip_flops c = select (λ n. is_flip_flop c n) (N c)

unfoldable pub output_lines : List ℕ → List ℕ
output_lines c = select (λ n. is_output c n) (N c)

-- flip-flop i's line
unfoldable pub flip_flop_line : List ℕ → ℕ → ℕ
flip_flop_line c i = get_or (flip_flops c) i 0

-- I inputs
unfoldable pub I : List ℕ → ℕ
I c = count_below (λ n. is_input c n) (N c)

-- F flip-flops
unfoldable pub F : List ℕ → ℕ
F c = count_below (λ n. is_flip_flop c n) (N c)

-- O outputs
unfoldable pub O : List ℕ → ℕ
O c = count_below (λ n. is_output c n) (N c)

-- Test: a record is one byte, 0 or 1, per input in line order; record u is time unit u.

-- L time units
unfoldable pub L : List ℕ → List ℕ → ℕ
L c t = length t / I c

unfoldable pub inputs_at : List ℕ → List ℕ → ℕ → List ℕ
inputs_at c t u = take (I c) (drop (I c * u) t)

-- Faults, 4 bytes: line (16 bits), pin (0 the line itself, else a pin that it has), stuck value 0 or 1.

pub record Fault : Type 0 where
  pub line : ℕ
  pub pin : ℕ
  pub value : ℕ

unfoldable pub fault_count : List ℕ → ℕ
fault_count fs = length fs / 4

unfoldable pub fault_at : List ℕ → ℕ → Fault
fault_at fs j = record { line = word16 fs (4 * j); pin = get_or fs (4 * j + 2) 0; value = get_or fs (4 * j + 3) 0 }

-- Plan, 4 bytes: time (16 bits), flip-flop index (16 bits, in line order from 0).

unfoldable pub plan_count : List ℕ → ℕ
plan_count p = length p / 4

unfoldable pub plan_pair : List ℕ → ℕ → ℕ × ℕ
plan_pair p n = (word16 p (4 * n), word16 p (4 * n + 2))
