-- The test that Generate writes lies within its area and is accepted, and its number is never zero.
use mathlib.Core.Path.{◌≡◌, ap}
use Prim.Native.Nat.{ℕ, zero, suc, ◌*◌, ◌/◌, ◌%◌, ◌^◌, ◌≤◌, ◌<◌}
use mathlib.Core.List.{List}
use mathlib.Core.Option.{none}
use lib.ListN.{get_or, length}
use lib.Bits.{bit_xor, xor_lt, xor_shr}
use native.Mathlib.Omega.{arith}
use native.Mathlib.Decide.{dec_le}
use native.Mathlib.Nat.{mul-div_cancel, mul-mod_left, mul-le-mul}
use borrow.Author.Tests.{eq-eqb, ne_eqb, le-ltb}
use Rattle.lists.proofs.Scan.{first_answer-passed, length-tabulate, get_or_tabulate}
use Rattle.model.specs.Inputs.{I, L}
use Rattle.model.specs.Refusals.{refuse, row7, row8, done, generate_refusal}
use Rattle.model.specs.Generate.{step, stepped, generate_byte, generate_bytes, generate_answer}
use Rattle.model.specs.Promises.{TestOf, NeverZero}
use Rattle.model.proofs.Accepted.{generate_ready, answered}

-- ---- the test
module _ (c : List ℕ) (seed units : ℕ) where
  pub length-generated : length (generate_bytes c seed units) ≡ units * I c
  unfolding generate_bytes
  length-generated = length-tabulate _ 0 (units * I c)

  low : (b : ℕ) → b < units * I c → get_or (generate_bytes c seed units) b 0 ≤ 1
  unfolding generate_bytes generate_byte
  low b h = rw (get_or_tabulate (λ b. generate_byte seed b) 0 (units * I c) b 0 h) (omega arith)

  whole : 0 < I c → L c (generate_bytes c seed units) ≡ units
  unfolding L
  whole h = rw length-generated (mul-div_cancel units h)

  pub accepted-test : 0 < I c → 0 < units → units ≤ 1024 → TestOf c units (generate_bytes c seed units)
  unfolding row7 row8 refuse
  accepted-test h some most =
      record {
        size = rw (
          length-generated,
          mul-mod_left units (I c),
          ne_eqb (units * I c) 0 (λ e. (let z : ⊥ = omega (arith, mul-le-mul some h) in z)),
          whole h,
          le-ltb 1024 units most,
        );
        bytes = first_answer-passed _ _ (λ b l. ap (λ broken. refuse broken 8 b) (le-ltb 1 _ (low b (rw length-generated at l))));
        whole = whole h;
      }

-- as many bytes as the answer says lie within the result area
pub generated-within : (c : List ℕ) (seed units result n : ℕ) → generate_answer c seed units result ≡ done n → n ≤ result
unfolding generate_answer
generated-within c seed units result n e =
    let told = answered (generate_refusal c seed units result) (units * I c) n e in
    omega (arith, (generate_ready c seed units result told.0).result_room, told.1)

-- ---- the number
-- the mask's highest bit is the 16th, and no other number has it after the shift
masked : (x : ℕ) → x < 65536 → (0 < bit_xor (x / 2) 0xb400) × (bit_xor (x / 2) 0xb400 < 65536)
masked x h =
    let high : bit_xor (x / 2) 0xb400 / 2 ^ 15 ≡ bit_xor (x / 2 / 2 ^ 15) (0xb400 / 2 ^ 15) = xor_shr (x / 2) 0xb400 15 in
    let none : x / 2 / 2 ^ 15 ≡ 0 = omega arith in
    let one : bit_xor (x / 2) 0xb400 / 32768 ≡ 1 = rw none at high in
    (omega arith, xor_lt 16 (x / 2) 0xb400 (omega arith) (omega arith))

step-above : (x : ℕ) → 0 < x → x < 65536 → (0 < step x) × (step x < 65536)
unfolding step
step-above x some h = elim (dec_le 1 (x % 2)) [
  | yes g ↦ rw (eq-eqb (x % 2) 1 (omega arith)) (masked x h)
  | no g ↦ rw (ne_eqb (x % 2) 1 (λ e. (let z : ⊥ = omega arith in z))) (omega arith, omega arith)
]

pub stays-above : (seed : ℕ) → 0 < seed → seed < 65536 → NeverZero seed
unfolding stepped
stays-above seed some h zero = (some, h)
stays-above seed some h (suc n) = let before = stays-above seed some h n in step-above (stepped seed n) before.0 before.1
