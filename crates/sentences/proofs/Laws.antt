-- A token as it is kept is the token of the line.
use Rattle.std.proofs.Common.{◌≡◌, ℕ, ◌+◌, ◌*◌, ◌-◌, ◌/◌, ◌≤◌, ◌<◌, true, ◌&&◌, eqb, leb, List, length, get_or, refl, take, sym, ap, ◌∙◌, arith}
use borrow.Author.Tests.{eqb-true, ne_eqb, le-leb}
use Rattle.lists.proofs.Tests.{and_left}
use Rattle.bench_text.specs.Text.{is_name_byte}
use Rattle.bench_text.specs.Sentence.{MALFORMED, Sentence, token, is_name, pin_tokens, is_head}
use Rattle.parts.specs.declared.Part.{Part}
use Rattle.tokens.specs.Kept.{part_of, all_kept}
use Rattle.tokens.proofs.Laws.{length-kept, get_or_kept, part_take}
use Rattle.sentences.specs.declared.Line.{Line}
use Rattle.sentences.specs.declared.Sort.{Sort}
use Rattle.sentences.specs.declared.Sort.TheVariants.{Defines, Output, Nothing, Malformed}
use Rattle.sentences.specs.Line.{sort_of, defines, is_malformed, Tells}

module _ (text : List ℕ) (parts : List Part) where
  pub token-kept : (i : ℕ) → i < length parts → token text (all_kept parts) i ≡ part_of parts i
  unfolding token
  token-kept i h = get_or_kept parts (length parts) i h

  pub name-kept : (i : ℕ) → i < length parts
      → is_name text (all_kept parts) i ≡ (is_name_byte (get_or text (part_of parts i).at 0) && leb (part_of parts i).size 32)
  unfolding is_name
  name-kept i h = rw (token-kept i h)

  pub pins-kept : pin_tokens text (all_kept parts) ≡ (length parts - 4) / 2
  unfolding pin_tokens
  pins-kept = ap (λ n. (n - 4) / 2) (length-kept parts (length parts))

  -- the tokens of a gate or flip-flop are as many as its pins tell
  pub head-length : is_head text (all_kept parts) ≡ true → 4 + 2 * pin_tokens text (all_kept parts) ≡ length parts
  unfolding is_head
  head-length e =
      let n = pin_tokens text (all_kept parts) in
      let same = eqb-true _ _ (and_left _ _ (and_left _ _ (and_left _ _ (and_left _ _ (and_left _ _ e))))) in
      sym same ∙ length-kept parts (length parts)

-- what the first n tokens tell, where they have all the pins, all tell
pub tells-all : (parts : List Part) (n : ℕ) (s : Sentence) (l : Line) → l.first + 2 * l.pins ≤ n + 1 → Tells (take n parts) s l → Tells parts s l
tells-all parts n s l h tells =
    record {
      sort = tells.sort;
      kind = tells.kind;
      name = tells.name;
      count = tells.count;
      room = tells.room;
      pin = λ i k. tells.pin i k ∙ part_take parts n (l.first + 2 * i) (omega arith);
    }

-- ---- the number of a sort
-- one that defines no line has a number above 9
high : (sort : Sort) → ((k : ℕ) → sort ≡ Defines k → ⊥) → 9 < sort_of sort
high (Defines k) h = absurd (h k refl)
high Output h = omega arith
high Nothing h = omega arith
high Malformed h = omega arith

defines_as : (sort : Sort) → ((k : ℕ) → sort ≡ Defines k → k ≤ 9) → defines sort ≡ leb (sort_of sort) 9
defines_as (Defines k) low = sym (le-leb k 9 (low k refl))
defines_as Output low = refl
defines_as Nothing low = refl
defines_as Malformed low = refl

malformed_as : (sort : Sort) → ((k : ℕ) → sort ≡ Defines k → k ≤ 9) → is_malformed sort ≡ eqb (sort_of sort) MALFORMED
malformed_as (Defines k) low = sym (ne_eqb k MALFORMED (λ e. (let z : k ≤ 9 = low k refl in (let y : ⊥ = omega arith in y))))
malformed_as Output low = refl
malformed_as Nothing low = refl
malformed_as Malformed low = refl

module _ {parts : List Part} {s : Sentence} {l : Line} (tells : Tells parts s l) where
  pub defines-sort : defines l.sort ≡ leb s.sort 9
  defines-sort = rw (← tells.sort) (defines_as l.sort tells.kind)

  pub malformed-sort : is_malformed l.sort ≡ eqb s.sort MALFORMED
  malformed-sort = rw (← tells.sort) (malformed_as l.sort tells.kind)

  pub defines-low : (k : ℕ) → l.sort ≡ Defines k → s.sort ≤ 9
  defines-low k e =
      let own : k ≡ s.sort = ap sort_of (sym e) ∙ tells.sort in
      rw (← own) (tells.kind k e)

  pub other-high : ((k : ℕ) → l.sort ≡ Defines k → ⊥) → 9 < s.sort
  other-high h = rw (← tells.sort) (high l.sort h)
