-- The gates in one lane, and words stored and read.
use mathlib.Core.Path.{◌≡◌, refl, sym, ◌∙◌, ap}
use mathlib.Core.Bool.{Bool, true, false, cond, ◌&&◌, ◌||◌, not, true≢false, and-true, and-false, or-false}
use mathlib.Core.List.{List, [], ◌∷◌, ◌++◌}
use Prim.Native.Nat.{ℕ, zero, suc, ◌/◌, ◌+◌, ◌-◌, ◌*◌, ◌%◌, ◌^◌, ◌<◌, ◌≤◌}
use native.Mathlib.Omega.{arith}
use native.Mathlib.Decide.{dec_le}
use lib.Dec.{eqb}
use borrow.Author.Tests.{eqb-true, eq-eqb, lt-leb, le-leb}
use lib.ListN.{get_or, length, set, length-set, length-append, get_or-append}
use lib.Seq.{get_or_at, get_or-set_same, get_or-set_other}
use lib.Bits.{bit_and, bit_or, bit_xor, or_lt}
use Rattle.lists.proofs.Tests.{by-test}
use Rattle.model.specs.Values.{X, is_specified, invert, and_pair, xor_pair, and_of, or_of, invert_all, xor_of, even_gate, invert_if, opposes, give}
use Rattle.lanes.specs.declared.Lanes.{Lanes}
use Rattle.lanes.specs.Lane.{bit, is0, is1, Shows, Holds, Conflict, lanes_at, At, stored, Room, turned_if, Lane, Given}
use Rattle.lanes.proofs.Bits.{bit-and, bit-or, bit-but, bit-not, bit-none, bit-all, bit-one, other-odd, other_even}

pub is0-inv : (v : ℕ) → is0 (invert v) ≡ is1 v
unfolding is0 is1 invert
is0-inv zero = refl
is0-inv (suc zero) = refl
is0-inv (suc (suc v)) = refl

pub is1-inv : (v : ℕ) → is1 (invert v) ≡ is0 v
unfolding is0 is1 invert
is1-inv zero = refl
is1-inv (suc zero) = refl
is1-inv (suc (suc v)) = refl

pub is-and : (v w : ℕ) → ((is0 v || is0 w) ≡ is0 (and_pair v w)) × ((is1 v && is1 w) ≡ is1 (and_pair v w))
unfolding is0 is1 and_pair
is-and zero w = (refl, refl)
is-and (suc zero) zero = (refl, refl)
is-and (suc zero) (suc zero) = (refl, refl)
is-and (suc zero) (suc (suc w)) = (refl, refl)
is-and (suc (suc v)) zero = (refl, refl)
is-and (suc (suc v)) (suc zero) = (refl, refl)
is-and (suc (suc v)) (suc (suc w)) = (refl, refl)

is-xor : (v w : ℕ) → (((is0 v && is0 w) || (is1 v && is1 w)) ≡ is0 (xor_pair v w)) × (((is0 v && is1 w) || (is1 v && is0 w)) ≡ is1 (xor_pair v w))
unfolding is0 is1 xor_pair
is-xor zero zero = (refl, refl)
is-xor zero (suc zero) = (refl, refl)
is-xor zero (suc (suc w)) = (refl, refl)
is-xor (suc zero) zero = (refl, refl)
is-xor (suc zero) (suc zero) = (refl, refl)
is-xor (suc zero) (suc (suc w)) = (refl, refl)
is-xor (suc (suc v)) w = (refl, refl)

module _ (t z o v : ℕ) (h : Shows t z o v) where
  pub shows-inv : Shows t o z (invert v)
  shows-inv = record { zero? = h.one? ∙ sym (is0-inv v); one? = h.zero? ∙ sym (is1-inv v) }

  -- OR is AND between two inversions
  pub shows_uninv : (a : ℕ) → v ≡ invert a → Shows t o z a
  shows_uninv a e = record { zero? = h.one? ∙ ap is1 e ∙ is1-inv a; one? = h.zero? ∙ ap is0 e ∙ is0-inv a }

module _ (t z o v z' o' w : ℕ) (h : Shows t z o v) (g : Shows t z' o' w) where
  pub shows-and : Shows t (bit_or z z') (bit_and o o') (and_pair v w)
  shows-and = record {
    zero? = bit-or t z z' ∙ rw (h.zero?, g.zero?) (is-and v w).0;
    one? = bit-and t o o' ∙ rw (h.one?, g.one?) (is-and v w).1;
  }

  pub shows-xor : Shows t (bit_or (bit_and z z') (bit_and o o')) (bit_or (bit_and z o') (bit_and o z')) (xor_pair v w)
  shows-xor = record {
    zero? = bit-or t (bit_and z z') (bit_and o o') ∙ rw (bit-and t z z', bit-and t o o', h.zero?, g.zero?, h.one?, g.one?) (is-xor v w).0;
    one? = bit-or t (bit_and z o') (bit_and o z') ∙ rw (bit-and t z o', bit-and t o z', h.zero?, g.zero?, h.one?, g.one?) (is-xor v w).1;
  }

pub shows-or : (t z o v z' o' : ℕ) (ws : List ℕ) → Shows t z o v → Shows t z' o' (or_of ws) → Shows t (bit_and z z') (bit_or o o') (or_of (v ∷ ws))
unfolding or_of and_of invert_all
shows-or t z o v z' o' ws h g =
    shows-inv t _ _ _ (shows-and t o z (invert v) o' z' (and_of (invert_all ws)) (shows-inv t z o v h) (shows_uninv t z' o' _ g _ refl))

-- the same value in all lanes
module _ (t : ℕ) where
  pub shows_0 : t < 64 → Shows t 0xffffffffffffffff 0 0
  unfolding is0 is1
  shows_0 h = record { zero? = bit-all t h; one? = bit-none t }

  pub shows_1 : t < 64 → Shows t 0 0xffffffffffffffff 1
  unfolding is0 is1
  shows_1 h = record { zero? = bit-none t; one? = bit-all t h }

  pub shows-x : (v : ℕ) → 1 < v → Shows t 0 0 v
  unfolding is0 is1
  shows-x zero h = absurd (let z : ⊥ = omega arith in z)
  shows-x (suc zero) h = absurd (let z : ⊥ = omega arith in z)
  shows-x (suc (suc v)) h = record { zero? = bit-none t; one? = bit-none t }

-- a stuck place: set in one word, taken out of the other
masked : (x on off : Bool) → Bool
masked x on off = (x && not off) || on

is_stuck_lem : (hit : Bool) (s v : ℕ) → s < 2
    → (masked (is0 v) (is0 (cond hit s 2)) (is1 (cond hit s 2)) ≡ is0 (cond hit s v)) × (masked (is1 v) (is1 (cond hit s 2)) (is0 (cond hit s 2)) ≡ is1 (cond hit s v))
unfolding is0 is1 masked
is_stuck_lem false s zero h = (refl, refl)
is_stuck_lem false s (suc zero) h = (refl, refl)
is_stuck_lem false s (suc (suc v)) h = (refl, refl)
is_stuck_lem true zero zero h = (refl, refl)
is_stuck_lem true zero (suc zero) h = (refl, refl)
is_stuck_lem true zero (suc (suc v)) h = (refl, refl)
is_stuck_lem true (suc zero) zero h = (refl, refl)
is_stuck_lem true (suc zero) (suc zero) h = (refl, refl)
is_stuck_lem true (suc zero) (suc (suc v)) h = (refl, refl)
is_stuck_lem true (suc (suc s)) v h = absurd (let z : ⊥ = omega arith in z)

pub shows-stuck : (t z o v a b : ℕ) (hit : Bool) (s : ℕ) → z < 2 ^ 64 → o < 2 ^ 64 → a < 2 ^ 64 → b < 2 ^ 64
    → s < 2 → Shows t a b (cond hit s 2) → Shows t z o v → Shows t (bit_or (bit_and z (0xffffffffffffffff - b)) a) (bit_or (bit_and o (0xffffffffffffffff - a)) b) (cond hit s v)
unfolding masked
shows-stuck t z o v a b hit s hz ho ha hb l m h = record {
  zero? = rw (bit-or t (bit_and z (0xffffffffffffffff - b)) a, bit-but t z b hz hb, m.zero?, m.one?, h.zero?) (is_stuck_lem hit s v l).0;
  one? = rw (bit-or t (bit_and o (0xffffffffffffffff - a)) b, bit-but t o a ho ha, m.zero?, m.one?, h.one?) (is_stuck_lem hit s v l).1;
}

-- a place that is X where another is known
known : (a : ℕ) → (is0 a || is1 a) ≡ is_specified a
unfolding is0 is1
known zero = refl
known (suc zero) = refl
known (suc (suc a)) = sym (lt-leb (suc (suc a)) 1 (omega arith))

is-unless : (v : ℕ) (k : Bool) → ((is0 v && not k) ≡ is0 (cond k 2 v)) × ((is1 v && not k) ≡ is1 (cond k 2 v))
unfolding is0 is1
is-unless v true = (and-false _, and-false _)
is-unless v false = (and-true _, and-true _)

pub shows-unless : (t z o v p q a : ℕ) → z < 2 ^ 64 → o < 2 ^ 64 → p < 2 ^ 64 → q < 2 ^ 64 → Shows t z o v → Shows t p q a
    → Shows t (bit_and z (0xffffffffffffffff - bit_or p q)) (bit_and o (0xffffffffffffffff - bit_or p q)) (cond (is_specified a) 2 v)
shows-unless t z o v p q a hz ho hp hq h g =
    let either : bit t (bit_or p q) ≡ is_specified a = bit-or t p q ∙ rw (g.zero?, g.one?) (known a) in
    let low = or_lt 64 p q hp hq in
    record {
      zero? = rw (bit-but t z (bit_or p q) hz low, h.zero?, either) (is-unless v (is_specified a)).0;
      one? = rw (bit-but t o (bit_or p q) ho low, h.one?, either) (is-unless v (is_specified a)).1;
    }

-- another's value in the lanes wanted
module _ (t k : ℕ) (hk : k < 2 ^ 64) where
  merged : (x y : ℕ) (b : Bool) → x < 2 ^ 64 → (bit t k ≡ false → bit t x ≡ b) → (bit t k ≡ true → bit t y ≡ b)
      → bit t (bit_or (bit_and x (0xffffffffffffffff - k)) (bit_and y k)) ≡ b
  merged x y b hx f g =
      rw (bit-or t (bit_and x (0xffffffffffffffff - k)) (bit_and y k), bit-but t x k hx hk, bit-and t y k)
      (by-test (bit t k)
      (λ e. rw (e, and-false (bit t x)) (and-true (bit t y) ∙ g e))
      (λ e. rw (e, and-true (bit t x), and-false (bit t y)) (or-false (bit t x) ∙ f e)))

  pub shows-merge : (z o z' o' v : ℕ) → z < 2 ^ 64 → o < 2 ^ 64 → (bit t k ≡ false → Shows t z o v) → (bit t k ≡ true → Shows t z' o' v)
      → Shows t (bit_or (bit_and z (0xffffffffffffffff - k)) (bit_and z' k)) (bit_or (bit_and o (0xffffffffffffffff - k)) (bit_and o' k)) v
  shows-merge z o z' o' v hz ho f g = record {
    zero? = merged z z' (is0 v) hz (λ e. (f e).zero?) (λ e. (g e).zero?);
    one? = merged o o' (is1 v) ho (λ e. (f e).one?) (λ e. (g e).one?);
  }

-- ---- lists of words
-- what stands at a place once another place, and once this place, was stored
pub stored_other : (ws : List ℕ) (n m : ℕ) (x : Lanes) → (m ≡ n → ⊥) → lanes_at (stored ws n x) m ≡ lanes_at ws m
unfolding stored lanes_at
stored_other ws n m x ne =
    rw (
      get_or-set_other (set ws (2 * n) x.zeros) (2 * n + 1) (2 * m) x.ones 0 (λ e. omega arith),
      get_or-set_other (set ws (2 * n) x.zeros) (2 * n + 1) (2 * m + 1) x.ones 0 (λ e. ne (omega arith)),
      get_or-set_other ws (2 * n) (2 * m) x.zeros 0 (λ e. ne (omega arith)),
      get_or-set_other ws (2 * n) (2 * m + 1) x.zeros 0 (λ e. omega arith),
    )

pub stored_same : (ws : List ℕ) (n : ℕ) (x : Lanes) → Room (n + 1) ws → lanes_at (stored ws n x) n ≡ x
unfolding stored lanes_at
stored_same ws n x l =
    rw (
      get_or-set_other (set ws (2 * n) x.zeros) (2 * n + 1) (2 * n) x.ones 0 (λ e. omega arith),
      get_or-set_same ws (2 * n) x.zeros 0 (omega arith),
      get_or-set_same (set ws (2 * n) x.zeros) (2 * n + 1) x.ones 0 (omega (arith, length-set ws (2 * n) x.zeros)),
    )

pub holds_as : (t : ℕ) (x y : Lanes) (v : ℕ) → x ≡ y → Holds t y v → Holds t x v
holds_as t x y v e h = rw e h

pub length-stored : (ws ws' : List ℕ) (n : ℕ) (x : Lanes) → ws' ≡ stored ws n x → length ws' ≡ length ws
unfolding stored
length-stored ws ws' n x e = ap length e ∙ simp length-set

module _ (t : ℕ) (ws vs : List ℕ) where
  pub lane-at : (m : ℕ) → Lane t ws vs → m < length vs → At t ws m (get_or vs m 2)
  unfolding Lane
  lane-at m h l = h m l

  -- the lanes that were read at place m, which is place i
  pub lane-read : (r : Lanes) (m i : ℕ) → r ≡ lanes_at ws m → m ≡ i → Lane t ws vs → i < length vs → Holds t r (get_or vs i 2)
  lane-read r m i e s h l = holds_as t r _ _ e (rw s (lane-at i h l))

  -- one place more
  pub lane-add : (n : ℕ) (x : Lanes) (v : ℕ) → length vs ≡ n → Room (n + 1) ws → Lane t ws vs → Holds t x v → Lane t (stored ws n x) (vs ++ (v ∷ []))
  unfolding Lane
  lane-add n x v e l h g m k = elim (dec_le (suc m) n) [
    | yes q ↦ holds_as t _ _ _ (stored_other ws n m x (λ s. omega arith)) (rw (get_or-append vs (v ∷ []) 2 m (omega arith)) (h m (omega arith)))
    | no q ↦ (let s : m ≡ n = omega (arith, length-append vs (v ∷ [])) in rw s (holds_as t _ _ _ (stored_same ws n x l) (rw (get_or_at vs v [] 2 n e) g)))
  ]

  pub lane-none : length vs ≡ 0 → Lane t ws vs
  unfolding Lane
  lane-none e m h = absurd (let z : ⊥ = omega arith in z)

pub holds-turned : (t : ℕ) (x : Lanes) (v : ℕ) (turned : Bool) → Holds t x v → Holds t (turned_if turned x) (invert_if turned v)
unfolding turned_if invert_if
holds-turned t x v true h = shows-inv t _ _ v h
holds-turned t x v false h = h

-- the two words of a place, read in either order
pub turned-read : (ws : List ℕ) (x m : ℕ) (turned : Bool) → x ≡ 2 * m + cond turned 1 0
    → ◌≡◌ {A = Lanes} record { zeros = get_or ws x 0; ones = get_or ws (bit_xor x 1) 0 } (turned_if turned (lanes_at ws m))
unfolding turned_if lanes_at
turned-read ws x m true e = rw (other_even x m e, e)
turned-read ws x m false e = let f : x ≡ 2 * m = omega arith in rw (other-odd x m f, f)

-- the halves of the kinds: one pin alone, and one more
module _ (t z o v : ℕ) (h : Shows t z o v) where
  same : (w : ℕ) → (is0 v ≡ is0 w) × (is1 v ≡ is1 w) → Shows t z o w
  same w e = record { zero? = h.zero? ∙ e.0; one? = h.one? ∙ e.1 }

  pub shows-single : (k : ℕ) → 1 ≤ k → k ≤ 4 → Shows t z o (even_gate k (v ∷ []))
  shows-single zero a b = absurd (let z : ⊥ = omega arith in z)
  shows-single (suc zero) a b = unfold even_gate in h
  shows-single (suc (suc zero)) a b = unfold even_gate and_of in same _ (alone v)
    where
      alone : (v : ℕ) → (is0 v ≡ is0 (and_pair v 1)) × (is1 v ≡ is1 (and_pair v 1))
      alone zero = unfold and_pair in (refl, refl)
      alone (suc zero) = unfold and_pair in (refl, refl)
      alone (suc (suc v)) = unfold and_pair is0 is1 in (refl, refl)
  shows-single (suc (suc (suc zero))) a b = unfold even_gate or_of invert_all and_of in same _ (alone v)
    where
      alone : (v : ℕ) → (is0 v ≡ is0 (invert (and_pair (invert v) 1))) × (is1 v ≡ is1 (invert (and_pair (invert v) 1)))
      alone zero = unfold and_pair invert in (refl, refl)
      alone (suc zero) = unfold and_pair invert in (refl, refl)
      alone (suc (suc v)) = unfold and_pair invert is0 is1 in (refl, refl)
  shows-single (suc (suc (suc (suc zero)))) a b = unfold even_gate xor_of in same _ (alone v)
    where
      alone : (v : ℕ) → (is0 v ≡ is0 (xor_pair v 0)) × (is1 v ≡ is1 (xor_pair v 0))
      alone zero = unfold xor_pair in (refl, refl)
      alone (suc zero) = unfold xor_pair in (refl, refl)
      alone (suc (suc v)) = unfold xor_pair is0 is1 in (refl, refl)
  shows-single (suc (suc (suc (suc (suc k))))) a b = absurd (let z : ⊥ = omega arith in z)

module _ (t z o k v : ℕ) (ws : List ℕ) where
  pub more_1 : k ≡ 1 → Shows t z o v → Shows t z o (even_gate k (v ∷ ws))
  unfolding even_gate
  more_1 e h = rw e h

  pub more_2 : k ≡ 2 → ((w : ℕ) → w ≡ even_gate k ws → Shows t z o (and_pair v w)) → Shows t z o (even_gate k (v ∷ ws))
  unfolding even_gate and_of
  more_2 e h = rw e (h (and_of ws) (rw e))

  pub more_3 : k ≡ 3 → (or_of ws ≡ even_gate k ws → Shows t z o (or_of (v ∷ ws))) → Shows t z o (even_gate k (v ∷ ws))
  unfolding even_gate
  more_3 e h = rw e (h (rw e))

  pub more_4 : k ≡ 4 → ((w : ℕ) → w ≡ even_gate k ws → Shows t z o (xor_pair v w)) → Shows t z o (even_gate k (v ∷ ws))
  unfolding even_gate xor_of
  more_4 e h = rw e (h (xor_of ws) (rw e))

-- one lane is given a value
module _ (s t z o w v : ℕ) (hs : s < 64) (ht : t < 64) (h : Shows s z o w) (free : s ≡ t → w ≡ 2) where
  pub with_0 : v ≡ 0 → Shows s (bit_or z (1 * 2 ^ t % 0x10000000000000000)) o (cond (eqb s t) v w)
  unfolding is0 is1
  with_0 e = by-test (eqb s t)
      (λ y. let x = free (eqb-true s t y) in rw (y, e) record {
        zero? = rw (bit-or s z (1 * 2 ^ t % 0x10000000000000000), bit-one s t hs ht, y, h.zero?, x);
        one? = rw (h.one?, x);
      })
      (λ y. rw y record { zero? = rw (bit-or s z (1 * 2 ^ t % 0x10000000000000000), bit-one s t hs ht, y) (or-false _ ∙ h.zero?); one? = h.one? })

  pub with_1 : v ≡ 1 → Shows s z (bit_or o (1 * 2 ^ t % 0x10000000000000000)) (cond (eqb s t) v w)
  unfolding is0 is1
  with_1 e = by-test (eqb s t)
      (λ y. let x = free (eqb-true s t y) in rw (y, e) record {
        one? = rw (bit-or s o (1 * 2 ^ t % 0x10000000000000000), bit-one s t hs ht, y, h.one?, x);
        zero? = rw (h.zero?, x);
      })
      (λ y. rw y record { one? = rw (bit-or s o (1 * 2 ^ t % 0x10000000000000000), bit-one s t hs ht, y) (or-false _ ∙ h.one?); zero? = h.zero? })

-- a lane read out
pub read-zero : (t z o v : ℕ) → Shows t z o v → z / 2 ^ t % 2 ≡ 1 → v ≡ 0
unfolding bit is0
read-zero t z o zero h e = refl
read-zero t z o (suc v) h e = absurd (true≢false (sym (eq-eqb _ _ e) ∙ h.zero?))

pub read_one : (t z o v : ℕ) → Shows t z o v → o / 2 ^ t % 2 ≡ 1 → v ≡ 1
unfolding bit is1
read_one t z o zero h e = absurd (true≢false (sym (eq-eqb _ _ e) ∙ h.one?))
read_one t z o (suc zero) h e = refl
read_one t z o (suc (suc v)) h e = absurd (true≢false (sym (eq-eqb _ _ e) ∙ h.one?))

pub read-X : (t z o v : ℕ) → Shows t z o v → v < 3 → (z / 2 ^ t % 2 ≡ 1 → ⊥) → (o / 2 ^ t % 2 ≡ 1 → ⊥) → v ≡ 2
unfolding bit is0 is1
read-X t z o zero h l a b = absurd (a (eqb-true _ _ h.zero?))
read-X t z o (suc zero) h l a b = absurd (b (eqb-true _ _ h.one?))
read-X t z o (suc (suc zero)) h l a b = refl
read-X t z o (suc (suc (suc v))) h l a b = absurd (let z : ⊥ = omega arith in z)

-- opposite to 0, to 1, to X
module _ (t z o v g : ℕ) (h : Shows t z o v) where
  pub opposing_0 : g ≡ 0 → bit t o ≡ opposes g v
  opposing_0 e = rw e (h.one? ∙ is1-opposes v)
    where
      is1-opposes : (v : ℕ) → is1 v ≡ opposes 0 v
      is1-opposes zero = unfold is1 opposes in refl
      is1-opposes (suc zero) = unfold is1 opposes in refl
      is1-opposes (suc (suc v)) = unfold is1 opposes in refl

  pub opposing_1 : g ≡ 1 → bit t z ≡ opposes g v
  opposing_1 e = rw e (h.zero? ∙ is0-opposes v)
    where
      is0-opposes : (v : ℕ) → is0 v ≡ opposes 1 v
      is0-opposes zero = unfold is0 opposes in refl
      is0-opposes (suc v) = unfold is0 opposes in refl

pub opposing_X : (t v g : ℕ) → 1 < g → bit t 0 ≡ opposes g v
unfolding opposes
opposing_X t v zero h = absurd (let z : ⊥ = omega arith in z)
opposing_X t v (suc zero) h = absurd (let z : ⊥ = omega arith in z)
opposing_X t v (suc (suc g)) h = bit-none t

-- X, where a value is specified
neither : (v : ℕ) → v < 3 → not (is0 v || is1 v) ≡ eqb v X
unfolding is0 is1
neither zero h = refl
neither (suc zero) h = refl
neither (suc (suc zero)) h = refl
neither (suc (suc (suc v))) h = absurd (let z : ⊥ = omega arith in z)

module _ (t g v : ℕ) where
  pub unknown-X : 1 < g → bit t 0 ≡ (is_specified g && eqb v X)
  unknown-X h = rw (lt-leb g 1 h) (bit-none t)

  pub unknown-specified : (z o : ℕ) → z < 2 ^ 64 → o < 2 ^ 64 → g ≤ 1 → t < 64 → v < 3 → Shows t z o v → bit t (0xffffffffffffffff - bit_or z o) ≡ (is_specified g && eqb v X)
  unknown-specified z o hz ho h low three s = rw (le-leb g 1 h) (bit-not t (bit_or z o) low (or_lt 64 z o hz ho) ∙ rw (bit-or t z o, s.zero?, s.one?) (neither v three))

-- ---- giving a value
is-give : (v w : ℕ) → v < 3 → w < 3 → opposes v w ≡ false → ((is0 v || is0 w) ≡ is0 (give v w)) × ((is1 v || is1 w) ≡ is1 (give v w))
unfolding is0 is1 opposes give
is-give zero zero a b e = (refl, refl)
is-give zero (suc zero) a b e = absurd (true≢false e)
is-give zero (suc (suc zero)) a b e = (refl, refl)
is-give zero (suc (suc (suc w))) a b e = absurd (let z : ⊥ = omega arith in z)
is-give (suc zero) zero a b e = absurd (true≢false e)
is-give (suc zero) (suc zero) a b e = (refl, refl)
is-give (suc zero) (suc (suc zero)) a b e = (refl, refl)
is-give (suc zero) (suc (suc (suc w))) a b e = absurd (let z : ⊥ = omega arith in z)
is-give (suc (suc zero)) w a b e = (refl, refl)
is-give (suc (suc (suc v))) w a b e = absurd (let z : ⊥ = omega arith in z)

is-conflict : (v w : ℕ) → opposes v w ≡ true → ((is0 v || is0 w) ≡ true) × ((is1 v || is1 w) ≡ true)
unfolding is0 is1 opposes
is-conflict zero zero e = absurd (true≢false (sym e))
is-conflict zero (suc zero) e = (refl, refl)
is-conflict zero (suc (suc w)) e = absurd (true≢false (sym e))
is-conflict (suc zero) zero e = (refl, refl)
is-conflict (suc zero) (suc w) e = absurd (true≢false (sym e))
is-conflict (suc (suc v)) w e = absurd (true≢false (sym e))

module _ (t : ℕ) (x y : Lanes) where
  abbrev joined : Lanes
  joined = record { zeros = bit_or x.zeros y.zeros; ones = bit_or x.ones y.ones }

  pub given : (v w : ℕ) → v < 3 → w < 3 → Holds t x v → Holds t y w → Given t joined v w
  given v w a b h g =
      let zeros : bit t (bit_or x.zeros y.zeros) ≡ (is0 v || is0 w) = bit-or t x.zeros y.zeros ∙ rw (h.zero?, g.zero?) in
      let ones : bit t (bit_or x.ones y.ones) ≡ (is1 v || is1 w) = bit-or t x.ones y.ones ∙ rw (h.one?, g.one?) in
      record {
        holds = λ e. record { zero? = zeros ∙ (is-give v w a b e).0; one? = ones ∙ (is-give v w a b e).1 };
        conflict = λ e. record { zero? = zeros ∙ (is-conflict v w e).0; one? = ones ∙ (is-conflict v w e).1 };
      }

  pub conflict-stays : Conflict t x → Conflict t joined
  conflict-stays h = record { zero? = bit-or t x.zeros y.zeros ∙ rw h.zero?; one? = bit-or t x.ones y.ones ∙ rw h.one? }
