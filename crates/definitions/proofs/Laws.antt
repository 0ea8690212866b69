-- A walk over the text lines, one further: what the text line here defines, and what is known behind the last.
use mathlib.Core.Path.{◌≡◌, refl, sym, ap, ◌∙◌}
use mathlib.Core.Bool.{true, false}
use mathlib.Core.List.{List}
use mathlib.Core.Option.{get_or}
use Prim.Native.Nat.{ℕ, suc, ◌+◌, ◌-◌, ◌≤◌, ◌<◌}
use native.Mathlib.Omega.{arith}
use native.Mathlib.Decide.{dec_le}
use lib.ListN.{length}
use borrow.Author.Tests.{le-leb, lt-leb}
use Rattle.lists.specs.Scan.{count_below}
use Rattle.lists.proofs.Scan.{first-fails, first-lowest, count_below-bound}
use Rattle.bench_text.specs.Text.{next_line, line_start, text_lines}
use Rattle.bench_text.specs.Sentence.{Sentence, sentence_from, sentence_at}
use Rattle.bench_text.specs.Bench.{defines, lines_above, line_count, definition_of, name_at, named, line_named}
use Rattle.bench_text.proofs.Laws.{line-least, lines-within, lines_end, above-all, above_within, sentence-here, name-here}
use Rattle.definitions.specs.Reached.{Reached}

pub reached-first : (text : List ℕ) → Reached text 0 0 0
unfolding line_start lines_above count_below
reached-first text = record { begins = refl; above = refl; within = λ i h. absurd (let z : ⊥ = omega arith in z) }

pub reached_as : (text : List ℕ) (j at n m : ℕ) → m ≡ n → Reached text j at n → Reached text j at m
reached_as text j at n m e r = rw e r

-- the next text line begins further on, so that less of the text is left
pub less-left : (text : List ℕ) (at to : ℕ) → at < length text → to ≡ next_line text at → length text - to < length text - at
unfolding next_line
less-left text at to h e = omega arith

module _ (text : List ℕ) (j at n : ℕ) (r : Reached text j at n) where
  -- the text line's sentence
  pub sentence-reached : sentence_at text j ≡ sentence_from text at
  unfolding sentence_at
  sentence-reached = ap (sentence_from text) (sym r.begins)

  -- there are no more text lines, and no more definitions, than bytes
  pub reached-least : j ≤ at
  reached-least = omega (arith, r.begins, line-least text j)

  pub reached-most : n ≤ at
  unfolding lines_above
  reached-most = omega (arith, r.above, r.begins, count_below-bound (λ i. defines text i) j, line-least text j)

  -- behind the last text line all definitions are above
  pub reached-end : length text ≤ at → (text_lines text ≡ j) × (n ≡ line_count text)
  reached-end h =
      let all : text_lines text ≡ j = lines_end text j r.within (omega (arith, r.begins)) in
      (all, r.above ∙ ap (lines_above text) (sym all) ∙ above-all text)

  -- a text line that begins within the text
  module _ (h : at < length text) where
    pub reached-line : j < text_lines text
    reached-line = lines-within text j (omega (arith, r.begins))

    within : (i : ℕ) → i < suc j → line_start text i < length text
    within i l = elim (dec_le (suc i) j) [ yes g ↦ r.within i g | no g ↦ (let z : i ≡ j = omega arith in rw (z, ← r.begins) h) ]

    next : (m to : ℕ) → to ≡ next_line text at → m ≡ lines_above text (suc j) → Reached text (suc j) to m
    unfolding line_start
    next m to e above = record { begins = e ∙ ap (next_line text) r.begins; above = above; within = within }

    -- that defines nothing
    pub reached-passed : (to : ℕ) → to ≡ next_line text at → 9 < (sentence_from text at).sort → Reached text (suc j) to n
    unfolding lines_above count_below defines
    reached-passed to e other = next n to e (rw (sentence-reached, lt-leb _ 9 other) (omega (arith, r.above)))

    -- that defines a line
    module _ (line : (sentence_from text at).sort ≤ 9) where
      here : defines text j ≡ true
      unfolding defines
      here = rw sentence-reached (le-leb _ 9 line)

      pub reached-defined : (to : ℕ) → to ≡ next_line text at → Reached text (suc j) to (n + 1)
      unfolding lines_above count_below
      reached-defined to e = next (n + 1) to e (rw here (omega (arith, r.above)))

      pub reached-below : n < line_count text
      reached-below = rw r.above (above_within text j here reached-line)

      pub reached_definition : definition_of text n ≡ sentence_at text j
      reached_definition = ap (definition_of text) r.above ∙ sentence-here text j here reached-line

      pub reached-name : name_at text n ≡ (sentence_from text at).name
      reached-name = ap (name_at text) r.above ∙ name-here text j here reached-line ∙ ap (λ (s : Sentence). s.name) sentence-reached

-- ---- the line of a name
module _ (text name : List ℕ) (n : ℕ) (below : (m : ℕ) → m < n → named text name m ≡ false) where
  pub line-found : n < line_count text → named text name n ≡ true → n ≡ line_named text name
  unfolding line_named
  line-found h e = sym (ap (λ o. get_or o (line_count text)) (first-lowest _ (line_count text) n (record { below = h; passes = e; fails = below })))

  -- one more that does not have it
  pub none_more : named text name n ≡ false → (m : ℕ) → m < n + 1 → named text name m ≡ false
  none_more e m h = elim (dec_le (suc m) n) [ yes g ↦ below m g | no g ↦ (let z : m ≡ n = omega arith in rw z e) ]

  pub line-missing : n ≡ line_count text → n ≡ line_named text name
  unfolding line_named
  line-missing e = e ∙ sym (ap (λ o. get_or o (line_count text)) (first-fails _ (line_count text) (λ m h. below m (omega arith))))

-- where there is room for all lines, all are held
pub held_all : (held lines : ℕ) → held ≤ 4096 → held ≤ lines → (held < 4096 → held ≡ lines) → lines ≤ 4096 → held ≡ lines
held_all held lines few less all h = elim (dec_le (suc held) 4096) [ yes g ↦ all g | no g ↦ omega arith ]
