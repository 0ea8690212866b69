-- A number as an argument of a program gives it: decimal digits, or 0x and hexadecimal digits.
use Rattle.std.specs.Prelude.{ℕ, ◌+◌, ◌*◌, ◌-◌, min, Option, None, Some, Bool, cond, ◌&&◌, List, [], ◌∷◌, get_or, length, drop, eqb, leb, ltb}

-- b is one of the bytes from a to z
unfoldable pub between : ℕ → ℕ → ℕ → Bool
between a z b = leb a b && leb b z

-- the value of a digit, 0 to 9, a to f or A to F, and 16 for any other byte
unfoldable pub digit_of : ℕ → ℕ
digit_of b = cond (between 48 57 b) (b - 48) (cond (between 97 102 b) (b - 87) (cond (between 65 70 b) (b - 55) 16))

-- the number that v becomes with these digits behind its own, or none where one of them is no digit of the base
unfoldable pub with_digits : ℕ → ℕ → List ℕ → Option ℕ
with_digits base v [] = Some v
with_digits base v (b ∷ bs) = cond (ltb (digit_of b) base) (with_digits base (base * v + digit_of b) bs) None

-- 0x and something behind it
unfoldable pub is_hex : List ℕ → Bool
is_hex text = ltb 2 (length text) && eqb (get_or text 0 0) 48 && eqb (get_or text 1 0) 120

-- at least one byte, and all of them digits, or but for 0x
unfoldable pub numeral : List ℕ → Option ℕ
numeral text = cond (eqb (length text) 0) None (cond (is_hex text) (with_digits 16 0 (drop 2 text)) (with_digits 10 0 text))

-- 65,536 for every number above it: a text may tell one that no word holds
unfoldable pub capped : Option ℕ → Option ℕ
capped None = None
capped (Some n) = Some (min n 65536)
