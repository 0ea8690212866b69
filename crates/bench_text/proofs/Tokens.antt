-- The tokens of a text line lie where its bytes stand, each with a byte at least, and one that begins with a letter, digit or underscore has
-- no other bytes.
use mathlib.Core.Path.{◌≡◌, refl, sym, ap, ◌∙◌}
use Prim.Native.Nat.{ℕ, suc, ◌+◌, ◌-◌, ◌≤◌, ◌<◌}
use mathlib.Core.Bool.{Bool, true, ◌||◌}
use mathlib.Core.List.{List, [], ◌∷◌, ◌++◌}
use lib.ListN.{get_or, length, take, drop, length-take, length-drop, drop_of_length-le}
use lib.Seq.{get_or-take, get_or-drop}
use lib.Dec.{eqb, ltb}
use borrow.Author.Tests.{eqb-false, lt-ltb, le-ltb}
use native.Mathlib.Omega.{arith}
use native.Mathlib.Decide.{dec_le}
use Rattle.lists.proofs.Tests.{cond_cases}
use Rattle.bench_text.specs.Text.{Part, up_to, line_bytes, is_name_byte, run_before, byte_at, tokens, line_tokens}
use Rattle.bench_text.specs.Sentence.{no_part}
use Rattle.bench_text.proofs.Scans.{Each, each_append, each-one, each_none, each-any}

-- a part of what stands from one place to another, with a byte at least
pub record Within (from end : ℕ) (p : Part) : Type 0 where
  pub begins : from ≤ p.at
  pub some : 1 ≤ p.size
  pub ends : p.at + p.size ≤ end

-- and one that is a name as a whole where its first byte is a name's; `name` tells the places of such bytes
pub record Token (name : ℕ → Bool) (from end : ℕ) (p : Part) : Type 0 where
  pub lies : Within from end p
  pub alike : name p.at ≡ true → (k : ℕ) → p.at ≤ k → k < p.at + p.size → name k ≡ true

-- ---- the tokens of bytes
module _ (name : ℕ → Bool) (from end : ℕ) where
  abbrev Tokens : List Part → Type 0
  Tokens ts = Each (Token name from end) ts no_part

  -- the last `run` bytes before `at` are of a name
  abbrev Run : ℕ → ℕ → Type 0
  Run at run = (k : ℕ) → at - run ≤ k → k < at → name k ≡ true

  -- these bytes stand at `at`
  abbrev Stand : ℕ → List ℕ → Type 0
  Stand at bs = (i : ℕ) → i < length bs → name (at + i) ≡ is_name_byte (get_or bs i 0)

  -- the run that ends before `at`
  run-token : (at run : ℕ) → run ≤ at → from ≤ at - run → at ≤ end → Run at run → Tokens (run_before at run)
  unfolding run_before
  run-token at run l f h before =
      cond_cases Tokens (eqb run 0) [] _ (λ _. each_none (Token name from end) no_part)
      (λ e. each-one (Token name from end) no_part _ record {
        lies = record { begins = f; some = positive (eqb-false run 0 e); ends = omega arith };
        alike = λ _ k g u. before k g (omega arith);
      })
    where
      positive : (run ≡ 0 → ⊥) → 1 ≤ run
      positive n = elim (dec_le 1 run) [ yes g ↦ g | no g ↦ absurd (n (omega arith)) ]

  -- a byte by itself
  byte-token : (at b : ℕ) → from ≤ at → at < end → Tokens (byte_at at b)
  unfolding byte_at
  byte-token at b f h =
      cond_cases Tokens (eqb b 32) [] _ (λ _. each_none (Token name from end) no_part)
      (λ _. each-one (Token name from end) no_part _ record {
        lies = record { begins = f; some = omega arith; ends = omega arith };
        alike = λ n k g u. (let here : k ≡ at = omega arith in rw here n);
      })

  -- the first byte is looked at
  stand_first : (at b : ℕ) (bs : List ℕ) → Stand at (b ∷ bs) → name at ≡ is_name_byte b
  stand_first at b bs here = let place : at + 0 ≡ at = omega arith in rw place at (here 0 (omega arith))

  stand_next : (at b : ℕ) (bs : List ℕ) → Stand at (b ∷ bs) → Stand (suc at) bs
  stand_next at b bs here i l = let place : at + suc i ≡ suc at + i = omega arith in rw place at (here (suc i) (omega arith))

  run-next : (at run : ℕ) → Run at run → name at ≡ true → Run (suc at) (suc run)
  run-next at run before e k g u = elim (dec_le (suc k) at) [ yes q ↦ before k (omega arith) q | no q ↦ (let last : k ≡ at = omega arith in rw last e) ]

  no_run : (at : ℕ) → Run at 0
  no_run at k g u = absurd (let z : ⊥ = omega arith in z)

  tokens-lie : (at run : ℕ) (bs : List ℕ) → run ≤ at → from ≤ at - run → at + length bs ≤ end → Run at run → Stand at bs → Tokens (tokens at run bs)
  unfolding tokens
  tokens-lie at run [] l f h before here = run-token at run l f (omega arith) before
  tokens-lie at run (b ∷ bs) l f h before here =
      cond_cases Tokens (is_name_byte b) _ _
      (λ e.
      let longer : Run (suc at) (suc run) = run-next at run before (stand_first at b bs here ∙ e) in
      tokens-lie (suc at) (suc run) bs (omega arith) (omega arith) (omega arith) longer (stand_next at b bs here))
      (λ _.
      let run_ends : Tokens (run_before at run) = run-token at run l f (omega arith) before in
      let byte : Tokens (byte_at at b) = byte-token at b (omega arith) (omega arith) in
      each_append (Token name from end) no_part (run_before at run ++ byte_at at b) _ (each_append (Token name from end) no_part (run_before at run) _ run_ends byte)
      (tokens-lie (suc at) 0 bs (omega arith) (omega arith) (omega arith) (no_run (suc at)) (stand_next at b bs here)))

-- whatever the text is
pub tokens-within : (at run : ℕ) (bs : List ℕ) → run ≤ at → (i : ℕ) → i < length (tokens at run bs)
    → Within (at - run) (at + length bs) (get_or (tokens at run bs) i no_part)
tokens-within at run bs l i h =
    (tokens-lie (λ k. ltb k at || is_name_byte (get_or bs (k - at) 0)) (at - run) (at + length bs) at run bs l (omega arith) (omega arith)
    (λ k _ u. rw (lt-ltb k at u))
    (λ k _. (let place : at + k - at ≡ k = omega arith in rw (le-ltb (at + k) at (omega arith), place)))
    i h).lies

-- ---- the tokens of a text line
pub up_to-take : (end : ℕ) (bs : List ℕ) → up_to end bs ≡ take (length (up_to end bs)) bs
unfolding up_to
up_to-take end [] = refl
up_to-take end (b ∷ bs) =
    cond_cases (λ (front : List ℕ). front ≡ take (length front) (b ∷ bs)) (eqb b end) [] _ (λ _. refl) (λ _. ap (◌∷◌ b) (up_to-take end bs))

pub up_to-length : (end : ℕ) (bs : List ℕ) → length (up_to end bs) ≤ length bs
up_to-length end bs = omega (arith, ap length (up_to-take end bs), length-take (length (up_to end bs)) bs)

pub up_to-byte : (end : ℕ) (bs : List ℕ) (i : ℕ) → i < length (up_to end bs) → get_or (up_to end bs) i 0 ≡ get_or bs i 0
up_to-byte end bs i h = ap (λ (front : List ℕ). get_or front i 0) (up_to-take end bs) ∙ get_or-take (length (up_to end bs)) bs i 0 h

-- a letter, digit or underscore stands there
abbrev pub name_byte_at : List ℕ → ℕ → Bool
name_byte_at text k = is_name_byte (get_or text k 0)

module _ (text : List ℕ) (at : ℕ) where
  -- behind the text there are none
  no-tokens : length text ≤ at → line_tokens text at ≡ []
  unfolding line_tokens line_bytes up_to tokens run_before
  no-tokens h = rw (drop_of_length-le text h)

  -- the bytes that they are made of, with no comment
  content_long : at ≤ length text → at + length (up_to 35 (line_bytes text at)) ≤ length text
  unfolding line_bytes
  content_long h = omega (arith, up_to-length 35 (up_to 10 (drop at text)), up_to-length 10 (drop at text), length-drop at text)

  content_byte : (i : ℕ) → i < length (up_to 35 (line_bytes text at)) → get_or text (at + i) 0 ≡ get_or (up_to 35 (line_bytes text at)) i 0
  unfolding line_bytes
  content_byte i h =
      sym (up_to-byte 35 (up_to 10 (drop at text)) i h
      ∙ up_to-byte 10 (drop at text) i (omega (arith, up_to-length 35 (up_to 10 (drop at text))))
      ∙ get_or-drop at text i 0)

  pub line-token : (i : ℕ) → i < length (line_tokens text at) → Token (name_byte_at text) at (length text) (get_or (line_tokens text at) i no_part)
  unfolding line_tokens
  line-token = elim (dec_le (length text) at) [
    | yes g ↦ rw (no-tokens g) (each_none (Token (name_byte_at text) at (length text)) no_part)
    | no g ↦ tokens-lie (name_byte_at text) at (length text) at 0 (up_to 35 (line_bytes text at)) (omega arith) (omega arith) (content_long (omega arith))
        (no_run (name_byte_at text) at (length text) at) (λ i h. ap is_name_byte (content_byte i h))
  ]

  -- and behind the last of them stands the empty part
  pub line-token-ends : (i : ℕ) → (get_or (line_tokens text at) i no_part).at + (get_or (line_tokens text at) i no_part).size ≤ length text
  line-token-ends = each-any (λ p. p.at + p.size ≤ length text) no_part (line_tokens text at) (λ i h. (line-token i h).lies.ends) (omega arith)
