-- A number's bits one by one, the lanes of a block that never differ, and the search from block to block.
use mathlib.Core.Path.{◌≡◌, refl, sym, ap, ◌∙◌}
use mathlib.Core.Bool.{Bool, true, false, not, ◌&&◌}
use mathlib.Core.List.{List, [], ◌∷◌, ◌++◌}
use mathlib.Core.Option.{none, some}
use Prim.Native.Nat.{ℕ, zero, suc, ◌+◌, ◌-◌, ◌*◌, ◌/◌, ◌%◌, ◌^◌, ◌<◌, ◌≤◌}
use native.Mathlib.Omega.{arith}
use native.Mathlib.Decide.{dec_le}
use native.Mathlib.Nat.{div-one, div-div-eq-div-mul, pow-succ'}
use native.Mathlib.Numerals.{add-one}
use borrow.Author.Tests.{lt-ltb}
use lib.Dec.{ltb}
use lib.Pow.{pow_mono, shl_exact}
use Rattle.lists.specs.Scan.{first, any_below}
use Rattle.lists.specs.Field.{row_of, Rows}
use Rattle.lists.proofs.Scan.{first-none, first-fails, any_below-same}
use Rattle.model.specs.Inputs.{F, O, L, Fault}
use Rattle.model.specs.Values.{some_oppose}
use Rattle.model.specs.Simulation.{outputs_at, free_outputs}
use Rattle.model.specs.Starts.{bits, free_bits, starting_state, start_count, differs}
use Rattle.model.proofs.Rows.{length-bits}
use Rattle.lanes.specs.declared.Lanes.{Lanes}
use Rattle.lanes.specs.Lane.{bit, Holds, stored, Room, Lane}
use Rattle.lanes.proofs.Laws.{lane-add, lane-none}
use Rattle.tally.proofs.Laws.{none_more, first_found}

-- ---- the bits of a number
bits-more : (n s : ℕ) → bits (suc n) s ≡ bits n s ++ (s / 2 ^ n % 2 ∷ [])
unfolding bits
bits-more zero s = rw (div-one s)
bits-more (suc n) s = ap (◌∷◌ (s % 2)) (bits-more n (s / 2) ∙ rw (div-div-eq-div-mul s 2 (2 ^ n), pow-succ' 2 n))

module _ (lane s : ℕ) where
  pub start_none : (ws : List ℕ) → Lane lane ws (bits 0 s)
  unfolding bits
  start_none ws = lane-none lane ws [] refl

  -- one bit more
  pub start-more : (ws ws' : List ℕ) (i : ℕ) (x : Lanes) → ws' ≡ stored ws i x → Room (i + 1) ws → Holds lane x (s / 2 ^ i % 2) → Lane lane ws (bits i s) → Lane lane ws' (bits (i + 1) s)
  start-more ws ws' i x e room h l = rw (e, add-one i, bits-more i s) (lane-add lane ws (bits i s) i x (s / 2 ^ i % 2) (length-bits i s) room l h)

  -- as many bits as there are flip-flops
  pub start-all : (ws : List ℕ) (n m : ℕ) → n ≡ m → Lane lane ws (bits n s) → Lane lane ws (bits m s)
  start-all ws n m e l = rw (← e) l

-- ---- the lanes that never differ
taken_out : (w d : Bool) → (w && not (w && d)) ≡ (w && not d)
taken_out true d = refl
taken_out false d = refl

module _ (c t free : List ℕ) (f : Fault) (rows : Rows (O c) (L c t) free (free_outputs c t)) where
  -- a state differs where its run opposes the rows at some unit
  differs-rows : (s : ℕ) → any_below (λ u. some_oppose (row_of (O c) free u) (outputs_at c t f (bits (F c) s) u)) (L c t) ≡ differs c t f s
  unfolding differs starting_state
  differs-rows s =
      any_below-same (λ u. some_oppose (row_of (O c) free u) (outputs_at c t f (bits (F c) s) u)) (λ u. some_oppose (free_outputs c t u) (outputs_at c t f (bits (F c) s) u)) (L c t)
      (λ u h. rw (rows.at u h))

  -- the lanes wanted, and those that differ taken out
  pub never-left : (lane s left units wanted differing r : ℕ) → units ≡ L c t → bit lane wanted ≡ ltb lane left
      → bit lane differing ≡ (bit lane wanted && any_below (λ u. some_oppose (row_of (O c) free u) (outputs_at c t f (bits (F c) s) u)) units)
      → bit lane r ≡ (bit lane wanted && not (bit lane differing)) → bit lane r ≡ (ltb lane left && not (differs c t f s))
  never-left lane s left units wanted differing r all w d e =
      e ∙ rw (d, w, all, differs-rows s) (taken_out (ltb lane left) (differs c t f s))

-- ---- from block to block
-- how many starting states there are
pub record Counted (c : List ℕ) (count : ℕ) : Type 0 where
  pub all : count ≡ start_count c
  pub most : count ≤ 4096

pub shifted-count : (c : List ℕ) (n : ℕ) → n ≡ F c → F c ≤ 12 → Counted c (1 * 2 ^ n % 0x10000000000000000)
unfolding start_count free_bits
shifted-count c n e h =
    let whole : 1 * 2 ^ n % 0x10000000000000000 ≡ 1 * 2 ^ n = shl_exact {a = 1} 1 n 64 (omega arith) (omega arith) in
    let few : 2 ^ n ≤ 4096 = pow_mono {i = n} {j = 12} (omega arith) in
    record { all = rw (whole, ← e) (omega arith); most = omega arith }

-- of the numbers below both bounds none passes
abbrev pub NoneBelow : (ℕ → Bool) → ℕ → ℕ → Type 0
NoneBelow P base count = (n : ℕ) → n ≤ base → n ≤ count → first P n ≡ none

pub none_yet : (P : ℕ → Bool) (count : ℕ) → NoneBelow P 0 count
unfolding first
none_yet P count n l k = let z : n ≡ 0 = omega arith in rw z

-- d lanes of a block stand for a number: all 64, or as many as are left
record Block (left d : ℕ) : Type 0 where
  few : d ≤ 64
  within : d ≤ left
  whole : (n : ℕ) → n ≤ 64 → n ≤ left → n ≤ d
  lanes : (t : ℕ) → t < 64 → ltb t left ≡ ltb t d

block_of : (left : ℕ) → (d : ℕ) × Block left d
block_of left = elim (dec_le 64 left) [
  | yes g ↦ (64, record { few = omega arith; within = g; whole = λ n l k. l; lanes = λ t h. lt-ltb t left (omega arith) ∙ sym (lt-ltb t 64 h) })
  | no g ↦ (left, record { few = omega arith; within = omega arith; whole = λ n l k. k; lanes = λ t h. refl })
]

module _ (P : ℕ → Bool) (base count word : ℕ) (inside : base < count) (has : (t : ℕ) → t < 64 → bit t word ≡ (ltb t (count - base) && P (base + t)))
    (before : NoneBelow P base count) where
  -- no lane of the block is left: the search goes on
  pub block_none : first (λ t. bit t word) 64 ≡ none → NoneBelow P (base + 64) count
  block_none e n l k =
      let block = block_of (count - base) in
      let none_here = none_more P base block.0 word block.1.few (λ t g. has t g ∙ rw (block.1.lanes t g)) (before base (omega arith) (omega arith)) e in
      first-fails P n (λ m g. first-none P (base + block.0) m none_here (omega (arith, block.1.whole (n - base) (omega arith) (omega arith))))

  -- the lowest lane of the block: the search ends
  pub block_found : (lane : ℕ) → first (λ t. bit t word) 64 ≡ some lane → first P count ≡ some (base + lane)
  block_found lane e =
      let block = block_of (count - base) in
      first_found P base block.0 word block.1.few (λ t g. has t g ∙ rw (block.1.lanes t g)) (before base (omega arith) (omega arith)) count lane (omega arith) e
