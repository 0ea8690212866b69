-- Tokens kept one behind the other, and how the tokens of a line go on behind a byte.
use mathlib.Core.Path.{◌≡◌, refl, sym, ap, ◌∙◌}
use mathlib.Core.Bool.{true, false, cond, not}
use mathlib.Core.List.{List, [], ◌∷◌, ◌++◌, append_assoc}
use Prim.Native.Nat.{ℕ, zero, suc, ◌+◌, ◌-◌, ◌≤◌, ◌<◌}
use native.Mathlib.Omega.{arith}
use native.Mathlib.Decide.{dec_le}
use lib.Dec.{eqb}
use lib.ListN.{get_or, length, set, take, drop, length-append, get_or-append}
use lib.Seq.{get_or-take, length-take-le, drop-cons, get_or-set_same, get_or-set_other, get_or-append-add}
use Rattle.std.specs.Int.{from_bool}
use Rattle.lists.proofs.Tests.{by-test}
use Rattle.bench_text.specs.Text.{Part, is_name_byte, run_before, byte_at, tokens}
use Rattle.bench_text.specs.Sentence.{no_part}
use Rattle.parts.specs.declared.Part as code
use Rattle.parts.specs.Place.{text_part}
use Rattle.tokens.specs.Kept.{part_of, kept, all_kept, part_if, Scanned}

-- ---- what is kept
pub length-kept : (parts : List code.Part) (n : ℕ) → length (kept parts n) ≡ n
unfolding kept
length-kept parts zero = refl
length-kept parts (suc n) = length-append (kept parts n) _ ∙ rw (length-kept parts n) (omega arith)

pub get_or_kept : (parts : List code.Part) (n i : ℕ) → i < n → get_or (kept parts n) i no_part ≡ part_of parts i
unfolding kept
get_or_kept parts zero i h = absurd (let z : ⊥ = omega arith in z)
get_or_kept parts (suc n) i h = elim (dec_le (suc i) n) [
  | yes g ↦ get_or-append (kept parts n) _ no_part i (rw length-kept g) ∙ get_or_kept parts n i g
  | no g ↦ (
      let here : i ≡ length (kept parts n) + 0 = omega (arith, length-kept parts n) in
      let same : i ≡ n = omega arith in
      ap (λ k. get_or (kept parts n ++ (part_of parts n ∷ [])) k no_part) here ∙ get_or-append-add (kept parts n) _ 0 no_part ∙ ap (part_of parts) (sym same))
]

-- one behind them changes none
kept_set : (parts : List code.Part) (n i : ℕ) (p : code.Part) → n ≤ i → kept (set parts i p) n ≡ kept parts n
unfolding kept part_of
kept_set parts zero i p h = refl
kept_set parts (suc n) i p h = rw (
  kept_set parts n i p (omega arith),
  get_or-set_other parts i n p (record { at = 0; size = 0 }) (λ e. (let z : ⊥ = omega arith in z)),
)

-- one more
pub kept_put : (parts : List code.Part) (n : ℕ) (p : code.Part) → n < length parts → kept (set parts n p) (suc n) ≡ kept parts n ++ (text_part p ∷ [])
unfolding kept part_of
kept_put parts n p h = rw (kept_set parts n n p (omega arith), get_or-set_same parts n p (record { at = 0; size = 0 }) h)

-- the first n are all that is kept of a part that has no others
pub part_take : (parts : List code.Part) (n i : ℕ) → i < n → part_of (take n parts) i ≡ part_of parts i
unfolding part_of
part_take parts n i h = rw get_or-take

first_kept : (parts : List code.Part) (n k : ℕ) → k ≤ n → kept (take n parts) k ≡ kept parts k
unfolding kept
first_kept parts n zero h = refl
first_kept parts n (suc k) h = rw (first_kept parts n k (omega arith), part_take parts n k h)

pub kept_take : (parts : List code.Part) (n : ℕ) → n ≤ length parts → all_kept (take n parts) ≡ kept parts n
kept_take parts n h = rw (length-take-le n parts h) (first_kept parts n n (omega arith))

-- ---- how the tokens go on
-- the bytes from a place up to the end
abbrev pub rest : List ℕ → ℕ → ℕ → List ℕ
rest text to i = take (to - i) (drop i text)

-- the bytes from place i up to `to`
pub rest-cons : (text : List ℕ) (i to : ℕ) → i < to → to ≤ length text
    → take (to - i) (drop i text) ≡ get_or text i 0 ∷ take (to - suc i) (drop (suc i) text)
rest-cons text i to h l =
    let more : to - i ≡ suc (to - suc i) = omega arith in
    rw (more, drop-cons text i 0 (omega arith))

module _ (done : List Part) (at run b : ℕ) (bs : List ℕ) {ts : List Part} (known : done ++ tokens at run (b ∷ bs) ≡ ts) where
  -- at a byte of a name
  pub goes_on : is_name_byte b ≡ true → done ++ tokens (suc at) (suc run) bs ≡ ts
  unfolding tokens
  goes_on e = sym (ap (λ t. done ++ cond t (tokens (suc at) (suc run) bs) (run_before at run ++ byte_at at b ++ tokens (suc at) 0 bs)) e) ∙ known

  -- at any other
  pub ends : is_name_byte b ≡ false → done ++ run_before at run ++ byte_at at b ++ tokens (suc at) 0 bs ≡ ts
  unfolding tokens
  ends e =
      append_assoc (done ++ run_before at run) (byte_at at b) _ ∙ append_assoc done (run_before at run) _
      ∙ ap (λ l. done ++ l) (sym (append_assoc (run_before at run) (byte_at at b) _))
      ∙ sym (ap (λ t. done ++ cond t (tokens (suc at) (suc run) bs) (run_before at run ++ byte_at at b ++ tokens (suc at) 0 bs)) e) ∙ known

-- the byte as a part that is empty where it is a space
pub byte-part : (at b : ℕ) → part_if at (from_bool (not (eqb b 32))) ≡ byte_at at b
unfolding part_if byte_at
byte-part at b = by-test (eqb b 32) (λ e. rw e) (λ e. rw e)

-- ---- what a scan answers
pub scanned_all : (parts : List code.Part) (count : ℕ) (ts : List Part) → kept parts count ≡ ts → Scanned ts parts count
scanned_all parts count ts e = record { all = λ h. e; more = λ h. rw (← e, length-kept parts count) h }

pub scanned_more : (parts : List code.Part) (count : ℕ) (more ts : List Part) → 12 < count → kept parts count ++ more ≡ ts → Scanned ts parts count
scanned_more parts count more ts l e =
    record {
      all = λ h. absurd (let z : ⊥ = omega arith in z);
      more = λ h. rw (← e, length-append (kept parts count) more) (omega (arith, length-kept parts count));
    }
