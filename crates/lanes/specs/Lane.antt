-- What 64 lanes hold: lane t of two words is bit t of `zeros` (known to be 0) and of `ones` (known to be 1).
use Rattle.std.specs.Prelude.{ℕ, zero, suc, ◌+◌, ◌*◌, ◌/◌, ◌%◌, ◌^◌, ◌<◌, ◌≤◌, ◌≡◌, Bool, true, false, List, eqb, get_or, length, set}
use Rattle.model.specs.Values.{X, opposes, give, has_conflict}
use Rattle.lanes.specs.declared.Lanes.{Lanes}

-- bit t of x
unfoldable pub bit : ℕ → ℕ → Bool
bit t x = eqb (x / 2 ^ t % 2) 1

unfoldable pub is0 : ℕ → Bool
is0 zero = true
is0 (suc v) = false

unfoldable pub is1 : ℕ → Bool
is1 zero = false
is1 (suc zero) = true
is1 (suc (suc v)) = false

-- lane t of the words z and o holds the value v: the bit of z says that v is 0, the bit of o that v is 1
pub record Shows (t z o v : ℕ) : Type 0 where
  pub zero? : bit t z ≡ is0 v
  pub one? : bit t o ≡ is1 v

abbrev pub Holds : ℕ → Lanes → ℕ → Type 0
Holds t x v = Shows t x.zeros x.ones v

-- X in all lanes
abbrev pub all_x : Lanes
all_x = record { zeros = 0; ones = 0 }

-- lane t of x holds a conflict: it is known to be 0 and known to be 1
pub record Conflict (t : ℕ) (x : Lanes) : Type 0 where
  pub zero? : bit t x.zeros ≡ true
  pub one? : bit t x.ones ≡ true

-- The lanes at place m of a list of words, two to a place. How words are laid out is said here, and in `stored` and `Room` below.
unfoldable pub lanes_at : List ℕ → ℕ → Lanes
lanes_at words m = record { zeros = get_or words (2 * m) 0; ones = get_or words (2 * m + 1) 0 }

-- lane t holds v at place m
abbrev pub At : ℕ → List ℕ → ℕ → ℕ → Type 0
At t words m v = Holds t (lanes_at words m) v

-- the list with x at place m
unfoldable pub stored : List ℕ → ℕ → Lanes → List ℕ
stored words m x = set (set words (2 * m) x.zeros) (2 * m + 1) x.ones

-- the list has words for so many places
abbrev pub Room : ℕ → List ℕ → Type 0
Room places words = 2 * places ≤ length words

-- the inverse where `turned`: the same two words, in the other order
unfoldable pub turned_if : Bool → Lanes → Lanes
turned_if true x = record { zeros = x.ones; ones = x.zeros }
turned_if false x = x

-- lane t of a list of words holds the values vs at its first places
unfoldable pub Lane : ℕ → List ℕ → List ℕ → Type 0
Lane t words vs = (m : ℕ) → m < length vs → At t words m (get_or vs m X)

-- Lane t of a list of words follows values that an implication gives: it holds them while no conflict is met, and once one is, some place
-- holds a conflict. What else it holds then is no matter, so that the gates need not look for conflicts.
pub record Follows (t : ℕ) (words vs : List ℕ) : Type 0 where
  pub holds : has_conflict vs ≡ false → Lane t words vs
  pub conflict : has_conflict vs ≡ true → (m : ℕ) × (m < length vs) × Conflict t (lanes_at words m)

-- a line at v is given w: it holds what `give` says, or a conflict
pub record Given (t : ℕ) (x : Lanes) (v w : ℕ) : Type 0 where
  pub holds : opposes v w ≡ false → Holds t x (give v w)
  pub conflict : opposes v w ≡ true → Conflict t x
