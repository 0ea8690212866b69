-- Values are 0, 1, X (unknown). A gate's value from what its pins see; what is known of one line from two sources; opposite values.
use Rattle.std.specs.Prelude.{ℕ, zero, suc, ◌/◌, ◌%◌, Bool, true, false, ◌||◌, List, [], ◌∷◌, get_or, eqb, leb}

abbrev pub X : ℕ
X = 2

-- specified means 0 or 1
abbrev pub is_specified : ℕ → Bool
is_specified v = leb v 1

-- X staying X
unfoldable pub invert : ℕ → ℕ
invert zero = 1
invert (suc zero) = 0
invert (suc (suc v)) = X

-- AND: 0 if a pin is 0, 1 if all are 1, else X
unfoldable pub and_pair : ℕ → ℕ → ℕ
and_pair zero b = 0
and_pair (suc zero) zero = 0
and_pair (suc zero) (suc zero) = 1
and_pair (suc zero) (suc (suc b)) = X
and_pair (suc (suc a)) zero = 0
and_pair (suc (suc a)) (suc zero) = X
and_pair (suc (suc a)) (suc (suc b)) = X

unfoldable pub and_of : List ℕ → ℕ
and_of [] = 1
and_of (a ∷ pins) = and_pair a (and_of pins)

unfoldable pub invert_all : List ℕ → List ℕ
invert_all [] = []
invert_all (a ∷ pins) = invert a ∷ invert_all pins

-- OR the dual
unfoldable pub or_of : List ℕ → ℕ
or_of pins = invert (and_of (invert_all pins))

-- XOR: X if a pin is X, else the parity
unfoldable pub xor_pair : ℕ → ℕ → ℕ
xor_pair zero zero = 0
xor_pair zero (suc zero) = 1
xor_pair zero (suc (suc b)) = X
xor_pair (suc zero) zero = 1
xor_pair (suc zero) (suc zero) = 0
xor_pair (suc zero) (suc (suc b)) = X
xor_pair (suc (suc a)) b = X

unfoldable pub xor_of : List ℕ → ℕ
xor_of [] = 0
xor_of (a ∷ pins) = xor_pair a (xor_of pins)

-- the even kinds, by half their number: 1 buffer, 2 AND, 3 OR, 4 XOR
unfoldable pub even_gate : ℕ → List ℕ → ℕ
even_gate zero pins = X
even_gate (suc zero) pins = get_or pins 0 X
even_gate (suc (suc zero)) pins = and_of pins
even_gate (suc (suc (suc zero))) pins = or_of pins
even_gate (suc (suc (suc (suc zero)))) pins = xor_of pins
even_gate (suc (suc (suc (suc (suc half))))) pins = X

unfoldable pub invert_if : Bool → ℕ → ℕ
invert_if true v = invert v
invert_if false v = v

-- NOT, NAND, NOR and XNOR, the odd kinds, invert the even kind below them
abbrev pub inverts : ℕ → Bool
inverts k = eqb (k % 2) 1

-- the value of a gate of kind k (2 to 9) whose pins see these values
unfoldable pub gate : ℕ → List ℕ → ℕ
gate k pins = invert_if (inverts k) (even_gate (k / 2) pins)

-- one is 0 and the other 1; nothing is opposite to X
unfoldable pub opposes : ℕ → ℕ → Bool
opposes zero zero = false
opposes zero (suc zero) = true
opposes zero (suc (suc b)) = false
opposes (suc zero) zero = true
opposes (suc zero) (suc b) = false
opposes (suc (suc a)) b = false

-- at some place
unfoldable pub some_oppose : List ℕ → List ℕ → Bool
some_oppose [] bs = false
some_oppose (a ∷ row) [] = false
some_oppose (a ∷ row) (b ∷ bs) = opposes a b || some_oppose row bs

-- a line at a, given the value b: an X is filled, the opposite is a conflict, written 3. A conflict stays; a buffer passes it on, and every
-- other gate sees it as X.
unfoldable pub give : ℕ → ℕ → ℕ
give zero zero = 0
give zero (suc zero) = 3
give zero (suc (suc zero)) = 0
give zero (suc (suc (suc b))) = 3
give (suc zero) zero = 3
give (suc zero) (suc zero) = 1
give (suc zero) (suc (suc zero)) = 1
give (suc zero) (suc (suc (suc b))) = 3
give (suc (suc zero)) b = b
give (suc (suc (suc a))) b = 3

-- place by place
unfoldable pub give_row : List ℕ → List ℕ → List ℕ
give_row [] bs = []
give_row (a ∷ row) [] = a ∷ row
give_row (a ∷ row) (b ∷ bs) = give a b ∷ give_row row bs

unfoldable pub has_conflict : List ℕ → Bool
has_conflict [] = false
has_conflict (a ∷ row) = leb 3 a || has_conflict row
