-- Where a text line ends, where its comment begins, and its tokens.
use mathlib.Core.Path.{◌≡◌, sym, ap, ◌∙◌}
use mathlib.Core.List.{List, [], ◌∷◌}
use Prim.Native.Nat.{ℕ, ◌+◌, ◌-◌, ◌≤◌, ◌<◌}
use native.Mathlib.Numerals.{add-one}
use Rattle.std.proofs.Common.{add-zero}
use borrow.Author.Tests.{eq-eqb, ne_eqb}
use native.Mathlib.Omega.{arith}
use lib.ListN.{get_or, length, take, drop, length-drop, length-take}
use lib.Seq.{take_all, take-take}
use Rattle.bench_text.specs.Text.{up_to, line_bytes, next_line, line_tokens}
use Rattle.bench_text.proofs.Tokens.{up_to-take, up_to-length, line-token}
use Rattle.parts.specs.declared.Part.{Part}
use Rattle.tokens.specs.Kept.{all_kept}
use Rattle.tokens.proofs.Laws.{length-kept, get_or_kept, rest-cons}
use Rattle.sentences.specs.Line.{TokensKept}

-- from place i on, the first place of a byte before `end`
module _ (text : List ℕ) (byte i end : ℕ) where
  abbrev pub first_place : ℕ
  first_place = i + length (up_to byte (take (end - i) (drop i text)))

  pub place_here : i < end → end ≤ length text → get_or text i 0 ≡ byte → first_place ≡ i
  unfolding up_to
  place_here more within e = rw (rest-cons text i end more within, eq-eqb _ _ e, add-zero)

  -- further on
  pub place_behind : i < end → end ≤ length text → (get_or text i 0 ≡ byte → ⊥) → first_place ≡ i + 1 + length (up_to byte (take (end - (i + 1)) (drop (i + 1) text)))
  unfolding up_to
  place_behind more within e = rw (rest-cons text i end more within, ne_eqb _ _ e, add-one i) (omega arith)

  -- nowhere
  pub place_end : i ≡ end → first_place ≡ end
  unfolding up_to
  place_end e = let none : end - i ≡ 0 = omega arith in rw (none, add-zero) e

  pub place_within : i ≤ end → end ≤ length text → first_place ≤ end
  place_within h within =
      omega (arith, up_to-length byte (take (end - i) (drop i text)), length-take (end - i) (drop i text), length-drop i text)

-- the line of which `end` is the end
module _ (text : List ℕ) (at end : ℕ) (h : at ≤ length text) (found : end ≡ at + length (up_to 10 (take (length text - at) (drop at text)))) where
  long : end ≡ at + length (line_bytes text at)
  unfolding line_bytes
  long = found ∙ ap (λ xs. at + length (up_to 10 xs)) (take_all (length text - at) (drop at text) (omega (arith, length-drop at text)))

  pub next-line : end + 1 ≡ next_line text at
  unfolding next_line
  next-line = ap (λ n. n + 1) long

  pub line-within : end ≤ length text
  unfolding line_bytes
  line-within = omega (arith, long, up_to-length 10 (drop at text), length-drop at text)

  line-part : take (end - at) (drop at text) ≡ line_bytes text at
  unfolding line_bytes
  line-part =
      let size : end - at ≡ length (up_to 10 (drop at text)) = omega (arith, long) in
      ap (λ n. take n (drop at text)) size ∙ sym (up_to-take 10 (drop at text))

  -- and `to` where its comment begins
  module _ (to : ℕ) (comment : to ≡ at + length (up_to 35 (take (end - at) (drop at text)))) where
    content_long : to ≡ at + length (up_to 35 (line_bytes text at))
    content_long = comment ∙ ap (λ xs. at + length (up_to 35 xs)) line-part

    pub content_part : take (to - at) (drop at text) ≡ up_to 35 (line_bytes text at)
    content_part =
        let size : to - at ≡ length (up_to 35 (line_bytes text at)) = omega (arith, content_long) in
        let less : to - at ≤ end - at = omega (arith, size, long, up_to-length 35 (line_bytes text at)) in
        sym (take-take (to - at) (end - at) (drop at text) less) ∙ ap (take (to - at)) line-part ∙ ap (λ n. take n (line_bytes text at)) size ∙ sym (up_to-take 35 (line_bytes text at))

-- what is kept of a line lies within the text
pub tokens-kept : (text : List ℕ) (at : ℕ) (parts : List Part) → length parts ≤ 12 → all_kept parts ≡ line_tokens text at → TokensKept text parts
tokens-kept text at parts few e =
    record {
      few = few;
      some = λ i h. rw (← get_or_kept parts (length parts) i h, e) (line-token text at i (rw (← e, length-kept) h)).lies.some;
      ends = λ i h. rw (← get_or_kept parts (length parts) i h, e) (line-token text at i (rw (← e, length-kept) h)).lies.ends;
    }
