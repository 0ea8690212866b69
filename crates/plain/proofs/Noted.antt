-- A place noted for the lanes of a word, from the lowest on.
use mathlib.Core.Path.{◌≡◌}
use mathlib.Core.Bool.{cond}
use mathlib.Core.List.{List}
use Prim.Native.Nat.{ℕ, ◌<◌, ◌≤◌}
use native.Mathlib.Omega.{arith}
use Rattle.lanes.specs.Lane.{bit}
use Rattle.lanes.proofs.Bits.{bit-none}
use Rattle.plain.specs.Places.{place_at, Noted}

-- no lane is new
pub none_noted : (u line : ℕ) (times lines : List ℕ) → Noted 0 u line times lines times lines
none_noted u line times lines = record { at = λ lane l. rw (bit-none lane) }

-- the lanes of a word, of which those below t have been seen to
pub record NotedBelow (new u line t : ℕ) (times lines times' lines' : List ℕ) : Type 0 where
  pub done : (lane : ℕ) → lane < t → place_at times' lines' lane ≡ cond (bit lane new) (u, line) (place_at times lines lane)
  pub later : (lane : ℕ) → t ≤ lane → place_at times' lines' lane ≡ place_at times lines lane

pub noted-all : (new u line t : ℕ) (times₀ lines₀ times lines : List ℕ) → NotedBelow new u line t times₀ lines₀ times lines → 64 ≤ t → Noted new u line times₀ lines₀ times lines
noted-all new u line t times₀ lines₀ times lines h e = record { at = λ lane l. h.done lane (omega arith) }
