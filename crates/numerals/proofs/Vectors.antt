-- Numbers of some texts, computed.
use mathlib.Core.Path.{◌≡◌, refl}
use mathlib.Core.List.{[], ◌∷◌}
use Rattle.std.specs.Prelude.{None, Some}
use Rattle.numerals.specs.Numeral.{between, digit_of, with_digits, is_hex, numeral, capped}

pub numbers :
    -- 0xACE1 and 0xace1
    (numeral (48 ∷ 120 ∷ 65 ∷ 67 ∷ 69 ∷ 49 ∷ []) ≡ Some 44257)
    × (numeral (48 ∷ 120 ∷ 97 ∷ 99 ∷ 101 ∷ 49 ∷ []) ≡ Some 44257)
    -- 007, 0 and 90
    × (numeral (48 ∷ 48 ∷ 55 ∷ []) ≡ Some 7)
    × (numeral (48 ∷ []) ≡ Some 0)
    × (numeral (57 ∷ 48 ∷ []) ≡ Some 90)
    -- the empty text, 0x, 0X1, 1a, -1 and a space behind 1
    × (numeral [] ≡ None)
    × (numeral (48 ∷ 120 ∷ []) ≡ None)
    × (numeral (48 ∷ 88 ∷ 49 ∷ []) ≡ None)
    × (numeral (49 ∷ 97 ∷ []) ≡ None)
    × (numeral (45 ∷ 49 ∷ []) ≡ None)
    × (numeral (49 ∷ 32 ∷ []) ≡ None)
    -- 0xg, and the bytes beside the digits and letters: / : @ G ` g
    × (numeral (48 ∷ 120 ∷ 103 ∷ []) ≡ None)
    × (digit_of 47 ≡ 16) × (digit_of 58 ≡ 16) × (digit_of 64 ≡ 16) × (digit_of 71 ≡ 16) × (digit_of 96 ≡ 16) × (digit_of 103 ≡ 16)
    -- 65537 and 20 digits are taken as 65,536
    × (capped (numeral (54 ∷ 53 ∷ 53 ∷ 51 ∷ 55 ∷ [])) ≡ Some 65536)
    × (capped (numeral (57 ∷ 57 ∷ 57 ∷ 57 ∷ 57 ∷ 57 ∷ 57 ∷ 57 ∷ 57 ∷ 57 ∷ 57 ∷ 57 ∷ 57 ∷ 57 ∷ 57 ∷ 57 ∷ 57 ∷ 57 ∷ 57 ∷ 57 ∷ [])) ≡ Some 65536)
unfolding between digit_of with_digits is_hex numeral capped
numbers = (refl, refl, refl, refl, refl, refl, refl, refl, refl, refl, refl, refl, refl, refl, refl, refl, refl, refl, refl, refl)
