-- A text line as the code tells it, and what is refused and written there.
use mathlib.Core.Path.{◌≡◌, refl, sym, ap, ap₂, ◌∙◌}
use mathlib.Core.Bool.{Bool, false, cond, ◌&&◌}
use mathlib.Core.List.{List}
use mathlib.Core.Option.{none}
use Prim.Native.Nat.{ℕ, suc, ◌+◌, ◌≤◌, ◌<◌}
use native.Mathlib.Omega.{arith}
use lib.Dec.{leb, ltb}
use lib.ListN.{get_or, length}
use borrow.Author.Tests.{leb-false}
use Rattle.lists.specs.Scan.{◌else◌, any_below}
use Rattle.lists.proofs.Scan.{any_below-same, any_below-false}
use Rattle.model.specs.Refusals.{refuse}
use Rattle.bench_text.specs.Text.{bytes_of, next_line}
use Rattle.bench_text.specs.Sentence.{sentence_from, sentence_at}
use Rattle.bench_text.specs.Bench.{line_count, line_named, pin_names, reach, defined_again, undefined_pin, sentence_refusal, line_refusal}
use Rattle.bench_text.proofs.Sentences.{pins-few, output-pin, name-ends, pin-ends}
use Rattle.parts.specs.declared.Part.{Part}
use Rattle.parts.proofs.Laws.{part-within}
use Rattle.sentences.specs.declared.Line.{Line}
use Rattle.sentences.specs.declared.Sort.{Sort}
use Rattle.sentences.specs.declared.Sort.TheVariants.{Defines, Output, Nothing, Malformed}
use Rattle.sentences.specs.Line.{sort_of, defines, is_malformed, Tells}
use Rattle.sentences.proofs.Laws.{defines-sort, malformed-sort, defines-low, other-high}
use Rattle.definitions.specs.Reached.{Reached}
use Rattle.definitions.proofs.Laws.{sentence-reached, reached-passed, reached-defined, reached-below, reached_definition}
use Rattle.bench_line.specs.Pins.{PinsKept, pin_line_of, own_line, reach_of}
use Rattle.bench_line.proofs.Laws.{last-passed, reach-sort}
use Rattle.read_bench.specs.Noted.{Noted, Noting, NotesLine}
use Rattle.read_bench.proofs.Rows.{noted-passed, noted-output, noted-defined}

rows_same : {a b c a' b' c' : Bool} (m n k at : ℕ) → a ≡ a' → b ≡ b' → c ≡ c'
    → (refuse a m at else refuse b n at else refuse c k at) ≡ (refuse a' m at else refuse b' n at else refuse c' k at)
rows_same m n k at ea eb ec = rw (ea, eb, ec)

-- what the text line that begins at `at` says, as the code tells it
module _ (text : List ℕ) (parts : List Part) (at : ℕ) (l : Line) (tells : Tells parts (sentence_from text at) l) where
  few : l.pins ≤ 4
  unfolding sentence_from
  few = rw tells.count (pins-few text _)

  pub pins-held : length parts ≡ 16 → PinsKept text parts l.first l.pins
  pins-held size = record { size = size; room = tells.room; few = few; within = λ i h. rw (← tells.pin i h) (pin-ends text at i) }

  pub name-within : l.name.at + l.name.size ≤ length text
  name-within = part-within text l.name _ tells.name (name-ends text at)

  -- the lines that its name and its pins name
  own_name : own_line text l ≡ line_named text (bytes_of text (sentence_from text at).name)
  unfolding own_line
  own_name = ap (λ p. line_named text (bytes_of text p)) tells.name

  pub pin-line : (i : ℕ) → i < l.pins → pin_line_of text parts l.first i ≡ pin_names text (sentence_from text at) i
  unfolding pin_line_of pin_names
  pin-line i h = ap (λ p. line_named text (bytes_of text p)) (sym (tells.pin i h))

  module _ (above count : ℕ) (all : count ≡ line_count text) where
    again : (defines l.sort && ltb (own_line text l) above) ≡ defined_again text (sentence_from text at) above
    unfolding defined_again
    again = ap₂ (λ line n. line && ltb n above) (defines-sort tells) own_name

    out-of-reach : any_below (λ i. leb (reach_of l above count) (pin_line_of text parts l.first i)) l.pins ≡ undefined_pin text (sentence_from text at) above
    unfolding undefined_pin reach
    out-of-reach =
        any_below-same _ (λ i. leb (cond (leb 2 (sentence_from text at).sort && leb (sentence_from text at).sort 9) above (line_count text)) (pin_names text (sentence_from text at) i)) l.pins
        (λ i h. rw (pin-line i h, reach-sort tells above count, all))
        ∙ ap (any_below (λ i. leb (cond (leb 2 (sentence_from text at).sort && leb (sentence_from text at).sort 9) above (line_count text)) (pin_names text (sentence_from text at) i))) tells.count

    -- what it is refused by
    module _ (j : ℕ) (r : Reached text j at above) where
      pub refused-here : (refuse (is_malformed l.sort) 18 j
          else refuse (defines l.sort && ltb (own_line text l) above) 19 j
          else refuse (any_below (λ i. leb (reach_of l above count) (pin_line_of text parts l.first i)) l.pins) 20 j)
          ≡ line_refusal text j
      unfolding line_refusal sentence_refusal
      refused-here =
          rows_same 18 19 20 j (malformed-sort tells) again out-of-reach
          ∙ ap₂ (λ s n. sentence_refusal text s n j) (sym (sentence-reached text j at above r)) r.above

      -- where it is not, OUTPUT names a line
      pub output-names : line_refusal text j ≡ none → l.sort ≡ Output → (lines : List ℕ) → ((i : ℕ) → i < l.pins → get_or lines i 0 ≡ pin_line_of text parts l.first i)
          → (get_or lines 0 0 ≡ pin_names text (sentence_from text at) 0) × (get_or lines 0 0 < line_count text)
      unfolding sentence_from undefined_pin reach
      output-names passed is lines found =
          let s = sentence_from text at in
          let ten : s.sort ≡ 10 = sym tells.sort ∙ ap sort_of is in
          let one : length s.pins ≡ 1 = output-pin text _ ten in
          let first : 0 < l.pins = omega (arith, tells.count, one) in
          let rows = refused-here ∙ passed in
          let none = sym out-of-reach ∙ last-passed _ _ _ 18 19 20 j rows in
          let names = found 0 first ∙ pin-line 0 first in
          let end : ℕ = cond (leb 2 s.sort && leb s.sort 9) above (line_count text) in
          let high : leb end (pin_names text s 0) ≡ false = any_below-false (λ i. leb end (pin_names text s i)) (length s.pins) 0 none (omega arith) in
          let all : end ≡ line_count text = rw ten refl in
          (names, omega (arith, leb-false end (pin_names text s 0) high, all, names))

-- ---- the walk, one text line further
-- how many definitions there are then
abbrev pub counted : Sort → ℕ → ℕ
counted (Defines kind) above = above + 1
counted Output above = above
counted Nothing above = above
counted Malformed above = above

pub counted_other : (sort : Sort) (above : ℕ) → ((k : ℕ) → sort ≡ Defines k → ⊥) → counted sort above ≡ above
counted_other (Defines kind) above h = absurd (h kind refl)
counted_other Output above h = refl
counted_other Nothing above h = refl
counted_other Malformed above h = refl

by_sort : (P : Sort → Type 0) (sort : Sort) → ((k : ℕ) → sort ≡ Defines k → P (Defines k)) → (sort ≡ Output → P Output) → (sort ≡ Nothing → P Nothing) → (sort ≡ Malformed → P Malformed) → P sort
by_sort P (Defines kind) defined output nothing malformed = defined kind refl
by_sort P Output defined output nothing malformed = output refl
by_sort P Nothing defined output nothing malformed = nothing refl
by_sort P Malformed defined output nothing malformed = malformed refl

module _ (text : List ℕ) (j at above : ℕ) (r : Reached text j at above) (h : at < length text) (to : ℕ) (next : to ≡ next_line text at)
    (parts : List Part) (l : Line) (tells : Tells parts (sentence_from text at) l) where
  pub reached-next : Reached text (suc j) to (counted l.sort above)
  reached-next = by_sort (λ sort. Reached text (suc j) to (counted sort above)) l.sort
      (λ k e. reached-defined text j at above r h (defines-low tells k e) to next)
      (λ e. reached-passed text j at above r h to next (other-high tells (λ k f. absurd (cc))))
      (λ e. reached-passed text j at above r h to next (other-high tells (λ k f. absurd (cc))))
      (λ e. reached-passed text j at above r h to next (other-high tells (λ k f. absurd (cc))))

  -- and the records with it
  module _ (count : ℕ) (all : count ≡ line_count text) (passed : line_refusal text j ≡ none) (lines : List ℕ)
      (found : (i : ℕ) → i < l.pins → get_or lines i 0 ≡ pin_line_of text parts l.first i) where
    said : sentence_at text j ≡ sentence_from text at
    said = sentence-reached text j at above r

    named : l.sort ≡ Output → (get_or lines 0 0 ≡ pin_names text (sentence_from text at) 0) × (get_or lines 0 0 < line_count text)
    named is = output-names text parts at l tells above count all j r passed is lines found

    pub noting : (records : List ℕ) → length records ≡ 49152 → length lines ≡ 4 → Noting records count above l lines
    noting records size room =
        record {
          size = size;
          room = room;
          few = few text parts at l tells;
          output = λ fits is. omega (arith, (named is).1);
          line = λ k fits e. omega (arith, reached-below text j at above r h (defines-low tells k e));
        }

    defined-next : (old new : List ℕ) → NotesLine old new count above l lines → line_count text ≤ 4096 → Noted text old j above → (k : ℕ) → l.sort ≡ Defines k → Noted text new (suc j) (above + 1)
    defined-next old new notes room noted k e =
        let low = defines-low tells k e in
        let kind : k ≡ (sentence_from text at).sort = ap sort_of (sym e) ∙ tells.sort in
        let below : above < 4096 = omega (arith, reached-below text j at above r h low) in
        noted-defined text old new lines j above noted (rw said low) (reached_definition text j at above r h low) notes.size below
        (λ m g. rw (said, ← kind, ← tells.count) (notes.line k (omega arith) e m g))
        (λ i g. rw said (found i (rw (tells.count, ← said) g) ∙ pin-line text parts at l tells i (rw (tells.count, ← said) g)))

    pub noted-next : (old new : List ℕ) → NotesLine old new count above l lines → line_count text ≤ 4096 → Noted text old j above → Noted text new (suc j) (counted l.sort above)
    noted-next old new notes room noted = by_sort (λ sort. Noted text new (suc j) (counted sort above)) l.sort
        (defined-next old new notes room noted)
        (λ is. noted-output text old new j above noted (rw (said, ← tells.sort, is) refl) notes.size (λ m g. rw (said, ← (named is).0) (notes.output (omega arith) is m g)))
        (λ is. rw (notes.nothing is) (noted-passed text old j above noted (rw (said, ← tells.sort, is) (omega arith))))
        (λ is. rw (notes.malformed is) (noted-passed text old j above noted (rw (said, ← tells.sort, is) (omega arith))))
