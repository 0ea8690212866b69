-- The fault of Simulate's list, and the bytes that it writes.
use mathlib.Core.Path.{◌≡◌, refl}
use Prim.Native.Nat.{ℕ, ◌/◌, ◌<◌, ◌≤◌}
use mathlib.Core.List.{List}
use lib.ListN.{length}
use native.Mathlib.Omega.{arith}
use borrow.Author.Tests.{eq-eqb, ne_eqb}
use Rattle.lists.specs.Scan.{gather}
use Rattle.model.specs.Inputs.{L, fault_at, fault_count}
use Rattle.model.specs.Simulation.{no_fault, power_up, outputs_at, plain_outputs}
use Rattle.model.specs.Simulate.{only_fault, simulate_bytes}

pub only_one : (fs : List ℕ) → 4 ≤ length fs → only_fault fs ≡ fault_at fs 0
unfolding only_fault fault_count
only_one fs h = rw (ne_eqb (length fs / 4) 0 (λ e. (let z : ⊥ = omega arith in z)))

pub only_none : (fs : List ℕ) → length fs < 4 → only_fault fs ≡ no_fault
unfolding only_fault fault_count
only_none fs h = rw (eq-eqb (length fs / 4) 0 (omega arith))

pub some-fault : (fs : List ℕ) → 4 ≤ length fs → 0 < fault_count fs
unfolding fault_count
some-fault fs h = omega arith

pub responses-plain : (c t fs : List ℕ) → gather (λ u. outputs_at c t (only_fault fs) (power_up c) u) (L c t) ≡ simulate_bytes c t fs
unfolding simulate_bytes plain_outputs
responses-plain c t fs = refl
