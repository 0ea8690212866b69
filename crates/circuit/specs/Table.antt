-- What the sizes and tables of this crate stand for.
use Rattle.std.specs.Prelude.{ℕ, ◌+◌, ◌*◌, ◌/◌, ◌%◌, ◌<◌, ◌≤◌, ◌≡◌, Bool, true, false, cond, List, get_or, length, eqb, leb}
use Rattle.lists.specs.Scan.{count_below}
use Rattle.model.specs.Inputs.{N, I, F, O, kind, pin_count, output_mark, spare_byte, pin_line, is_input, is_flip_flop, is_gate, flip_flops, output_lines, Fault}
use Rattle.circuit.specs.declared.Sizes.{Sizes}
use Rattle.circuit.specs.declared.Fault as fault

-- a table begins with these line numbers
pub record Listed (lines table : List ℕ) : Type 0 where
  pub room : length lines ≤ length table
  pub same : (i : ℕ) → i < length lines → get_or table i 0 ≡ get_or lines i 0

-- this byte of line n's record; the first four have names
pub record FieldOf (c : List ℕ) (n byte r : ℕ) : Type 0 where
  pub at : r ≡ get_or c (12 * n + byte) 0
  pub kind : byte ≡ 0 → r ≡ kind c n
  pub pins : byte ≡ 1 → r ≡ pin_count c n
  pub mark : byte ≡ 2 → r ≡ output_mark c n
  pub spare : byte ≡ 3 → r ≡ spare_byte c n

-- this byte of line n's record is 1: byte 0 of a flip-flop, byte 2 of an output
unfoldable pub byte_is_one : List ℕ → ℕ → ℕ → Bool
byte_is_one c byte n = eqb (get_or c (12 * n + byte) 0) 1

-- pin p of a gate with so many pins; one that it does not have is pin 1 again, which changes no AND and no OR
unfoldable pub pin_read : ℕ → ℕ → ℕ
pin_read count p = cond (leb p count) p 1

-- OR and NOR, kinds 6 and 7: by De Morgan an AND of inverted pins
unfoldable pub is_or : List ℕ → ℕ → Bool
is_or c n = eqb (kind c n / 2) 3

-- the number by which pin p of gate n is read: twice its line's, plus 1 if it is read inverted
unfoldable pub pin_number : List ℕ → ℕ → ℕ → ℕ
pin_number c n p = 2 * pin_line c n (pin_read (pin_count c n) p) + cond (is_or c n) 1 0

-- where the value of a line that is no gate stands: how many inputs, or else how many flip-flops, are below it
unfoldable pub place_of : List ℕ → ℕ → ℕ
place_of c n = cond (is_input c n) (count_below (λ m. is_input c m) n) (count_below (λ m. is_flip_flop c m) n)

-- Four numbers a line: of a gate those of its pins, of another line its place, which is the first.
pub record PinTable (c table : List ℕ) : Type 0 where
  pub room : 4 * N c ≤ length table
  pub same : (e : ℕ) → e < 4 * N c → is_gate c (e / 4) ≡ true → get_or table e 0 ≡ pin_number c (e / 4) (e % 4 + 1)
  pub place : (n : ℕ) → n < N c → is_gate c n ≡ false → get_or table (4 * n) 0 ≡ place_of c n

-- the sizes of a circuit
pub record SizesOf (c : List ℕ) (s : Sizes) : Type 0 where
  pub lines : s.lines ≡ N c
  pub inputs : s.inputs ≡ I c
  pub flops : s.flops ≡ F c
  pub outputs : s.outputs ≡ O c

-- a fault of the definitions, as the code has it
pub record FaultOf (f : Fault) (r : fault.Fault) : Type 0 where
  pub line : r.line ≡ f.line
  pub pin : r.pin ≡ f.pin
  pub value : r.value ≡ f.value

-- the tables of a circuit
pub record Tables (c pins flops outs : List ℕ) : Type 0 where
  pub pin_table : PinTable c pins
  pub flop_table : Listed (flip_flops c) flops
  pub output_table : Listed (output_lines c) outs
