-- A starting state is read back as its number, and every setting of the state bits has one.
use mathlib.Core.Path.{◌≡◌, refl, sym, ap, ◌∙◌}
use Prim.Native.Nat.{ℕ, zero, suc, ◌+◌, ◌*◌, ◌/◌, ◌%◌, ◌^◌, ◌≤◌, ◌<◌}
use mathlib.Core.List.{List, [], ◌∷◌}
use lib.ListN.{get_or, length}
use native.Mathlib.Omega.{arith}
use Rattle.model.specs.Inputs.{F}
use Rattle.model.specs.Values.{X}
use Rattle.model.specs.Starts.{bits, free_bits, starting_state, start_count}
use Rattle.model.specs.Promises.{EveryStart}
use Rattle.model.proofs.Total.{total-bit, get_or_total}
use Rattle.model.proofs.Rows.{length-bits, bits-total}

number : List ℕ → ℕ
number [] = 0
number (a ∷ st) = a + 2 * number st

number-bits : (n s : ℕ) → s < 2 ^ n → number (bits n s) ≡ s
unfolding number bits
number-bits zero s h = omega arith
number-bits (suc n) s h = omega (arith, number-bits n (s / 2) (omega arith))

-- each bit is 0 or 1
Bits : List ℕ → Type 0
Bits st = (i : ℕ) → i < length st → get_or st i X ≤ 1

number-less : (st : List ℕ) → Bits st → number st < 2 ^ length st
unfolding number Bits
number-less [] h = omega arith
number-less (a ∷ st) h =
    let all : a + 2 * number st < 2 ^ suc (length st) = omega (arith, h 0 (omega arith), number-less st (λ i k. h (suc i) (omega arith))) in
    all

bits-number : (st : List ℕ) → Bits st → bits (length st) (number st) ≡ st
unfolding number bits Bits
bits-number [] h = refl
bits-number (a ∷ st) h =
    let low : a ≤ 1 = h 0 (omega arith) in
    let bit : (a + 2 * number st) % 2 ≡ a = omega arith in
    let rest : (a + 2 * number st) / 2 ≡ number st = omega arith in
    rw (bit, rest) (ap (◌∷◌ a) (bits-number st (λ i k. h (suc i) (omega arith))))

pub every-start : (c : List ℕ) → EveryStart c
unfolding start_count free_bits starting_state Bits
every-start c = record {
  settings = λ s _. record {
    size = length-bits (F c) s;
    low = λ i k. (let z : get_or (bits (F c) s) i X < 2 = total-bit _ (get_or_total _ i (bits-total (F c) s) k) in omega arith);
  };
  every = λ st h. (number st, rw (← h.size) (number-less st h.low), rw (← h.size) (bits-number st h.low));
  once = λ s r h k e. sym (number-bits (F c) s h) ∙ ap number e ∙ number-bits (F c) r k;
}
