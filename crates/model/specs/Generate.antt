-- Generate, document 02's request Two: from a 16-bit seed and a length L it fills a test for a given circuit, one step per byte, in file
-- order.
use Rattle.std.specs.Prelude.{ℕ, zero, suc, ◌*◌, ◌/◌, ◌%◌, cond, List, length, eqb}
use Rattle.std.specs.Int.Bits.{bit_xor}
use Rattle.lists.specs.Scan.{tabulate}
use Rattle.lists.specs.Field.{overwritten}
use Rattle.model.specs.Inputs.{I}
use Rattle.model.specs.Refusals.{Answer, answer, unless_refused, generate_refusal}

-- a step shifts the number right by one; if the bit shifted out was 1, it is combined by exclusive or with hexadecimal B400
unfoldable pub step : ℕ → ℕ
step x = cond (eqb (x % 2) 1) (bit_xor (x / 2) 0xb400) (x / 2)

-- the number after so many steps
unfoldable pub stepped : ℕ → ℕ → ℕ
stepped seed zero = seed
stepped seed (suc n) = step (stepped seed n)

-- byte b is the lowest bit of the number that step b, counted from 0, makes
unfoldable pub generate_byte : ℕ → ℕ → ℕ
generate_byte seed b = stepped seed (suc b) % 2

-- one for each input in each time unit
unfoldable pub generate_bytes : List ℕ → ℕ → ℕ → List ℕ
generate_bytes c seed units = tabulate (λ b. generate_byte seed b) 0 (units * I c)

-- what Generate returns: the number of bytes written
unfoldable pub generate_answer : List ℕ → ℕ → ℕ → ℕ → Answer
generate_answer c seed units result = answer (generate_refusal c seed units result) (units * I c)

-- what its result area holds afterwards, where it held `old`
unfoldable pub generate_area : List ℕ → ℕ → ℕ → List ℕ → List ℕ
generate_area c seed units old =
    unless_refused (generate_refusal c seed units (length old)) (overwritten (generate_bytes c seed units) old) old
