-- A gate with no fault, of kind 8 or 9, as an XOR of four pins. A pin that it does not have is read as pin 1 again; a gate with an odd number of
-- pins so reads pin 1 an even number of times, and takes it once more.
use mathlib.Core.Path.{◌≡◌, refl}
use mathlib.Core.List.{List}
use Prim.Native.Nat.{ℕ, zero, suc, ◌/◌, ◌%◌, ◌≤◌}
use native.Mathlib.Omega.{arith}
use Rattle.lists.specs.Scan.{tabulate}
use Rattle.model.specs.Values.{xor_pair, xor_of, even_gate}
use Rattle.lanes.specs.Lane.{Shows}
use Rattle.circuit.specs.Table.{pin_read}

-- ---- the pins read, by how many there are
one : (a : ℕ) → xor_pair a (xor_pair a (xor_pair a (xor_pair a a))) ≡ xor_pair a 0
unfolding xor_pair
one zero = refl
one (suc zero) = refl
one (suc (suc a)) = refl

two : (a b : ℕ) → xor_pair a (xor_pair b (xor_pair a a)) ≡ xor_pair a (xor_pair b 0)
unfolding xor_pair
two zero b = refl
two (suc zero) b = refl
two (suc (suc a)) b = refl

-- the last pin alone
last : (a b : ℕ) → xor_pair a (xor_pair b 0) ≡ xor_pair a b
unfolding xor_pair
last zero zero = refl
last zero (suc zero) = refl
last zero (suc (suc b)) = refl
last (suc zero) zero = refl
last (suc zero) (suc zero) = refl
last (suc zero) (suc (suc b)) = refl
last (suc (suc a)) b = refl

-- pin 1 at both ends, and once more
ends : (a b c : ℕ) → xor_pair a (xor_pair a (xor_pair b (xor_pair c a))) ≡ xor_pair a (xor_pair b (xor_pair c 0))
unfolding xor_pair
ends zero zero zero = refl
ends zero zero (suc zero) = refl
ends zero zero (suc (suc c)) = refl
ends zero (suc zero) zero = refl
ends zero (suc zero) (suc zero) = refl
ends zero (suc zero) (suc (suc c)) = refl
ends zero (suc (suc b)) c = refl
ends (suc zero) zero zero = refl
ends (suc zero) zero (suc zero) = refl
ends (suc zero) zero (suc (suc c)) = refl
ends (suc zero) (suc zero) zero = refl
ends (suc zero) (suc zero) (suc zero) = refl
ends (suc zero) (suc zero) (suc (suc c)) = refl
ends (suc zero) (suc (suc b)) c = refl
ends (suc (suc a)) b c = refl

-- the four pins that are read of a gate with m
abbrev pub xor_four : (ℕ → ℕ) → ℕ → ℕ
xor_four w m = xor_pair (w (pin_read m 1)) (xor_pair (w (pin_read m 2)) (xor_pair (w (pin_read m 3)) (w (pin_read m 4))))

module _ (w : ℕ → ℕ) where
  pub odd-pins : (m : ℕ) → m ≤ 4 → m % 2 ≡ 1 → xor_pair (w (pin_read m 1)) (xor_four w m) ≡ xor_of (tabulate w 1 m)
  unfolding pin_read tabulate xor_of
  odd-pins zero l e = absurd (let z : ⊥ = omega arith in z)
  odd-pins (suc zero) l e = one (w 1)
  odd-pins (suc (suc zero)) l e = absurd (let z : ⊥ = omega arith in z)
  odd-pins (suc (suc (suc zero))) l e = ends (w 1) (w 2) (w 3)
  odd-pins (suc (suc (suc (suc zero)))) l e = absurd (let z : ⊥ = omega arith in z)
  odd-pins (suc (suc (suc (suc (suc m))))) l e = absurd (let z : ⊥ = omega arith in z)

  pub even_pins : (m : ℕ) → 1 ≤ m → m ≤ 4 → (m % 2 ≡ 1 → ⊥) → xor_four w m ≡ xor_of (tabulate w 1 m)
  unfolding pin_read tabulate xor_of
  even_pins zero g l e = absurd (let z : ⊥ = omega arith in z)
  even_pins (suc zero) g l e = absurd (e refl)
  even_pins (suc (suc zero)) g l e = two (w 1) (w 2)
  even_pins (suc (suc (suc zero))) g l e = absurd (e refl)
  even_pins (suc (suc (suc (suc zero)))) g l e = rw (last (w 3) (w 4))
  even_pins (suc (suc (suc (suc (suc m))))) g l e = absurd (let z : ⊥ = omega arith in z)

pub shows_parity : (t z o k v : ℕ) (pins : List ℕ) → k / 2 ≡ 4 → v ≡ xor_of pins → Shows t z o v → Shows t z o (even_gate (k / 2) pins)
unfolding even_gate
shows_parity t z o k v pins e g h = rw (e, ← g) h
