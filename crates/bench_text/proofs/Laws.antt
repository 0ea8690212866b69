-- Where text lines begin and how many there are, which of them define a line, and which line has a name.
use mathlib.Core.Path.{◌≡◌, refl, sym, ap, ap₂}
use Prim.Native.Nat.{ℕ, zero, suc, ◌≤◌, ◌<◌}
use mathlib.Core.Bool.{Bool, true, false, false≢true}
use mathlib.Core.List.{List, [], ◌∷◌}
use lib.ListN.{get_or, length}
use lib.Dec.{eqb, ltb}
use borrow.Author.Tests.{lt-ltb, le-ltb, eqb-true, eq-eqb}
use native.Mathlib.Omega.{arith}
use native.Mathlib.Decide.{dec_le}
use Rattle.lists.specs.Scan.{first, count_below}
use Rattle.lists.proofs.Tests.{and_left, and_right}
use Rattle.lists.proofs.Scan.{first_some, first-none, given-first, given-cases, count_below-less, length-select, all-at, select-all}
use Rattle.bench_text.specs.Text.{same, next_line, line_start, text_lines}
use Rattle.bench_text.specs.Sentence.{Sentence, sentence_at}
use Rattle.bench_text.specs.Bench.{defines, lines_above, definitions, line_count, definition_of, name_at, named, line_named}
use Rattle.bench_text.proofs.Scans.{select-here, count-here, count-all, count_most}

-- ---- text lines
module _ (text : List ℕ) where
  pub line-grows : (j : ℕ) → line_start text j < line_start text (suc j)
  unfolding line_start next_line
  line-grows j = omega arith

  -- a later one begins no earlier
  pub line-order : (i j : ℕ) → i ≤ j → line_start text i ≤ line_start text j
  line-order i zero h = let z : i ≡ 0 = omega arith in rw z (omega arith)
  line-order i (suc j) h = elim (dec_le i j) [
    | yes g ↦ omega (arith, line-order i j g, line-grows j)
    | no g ↦ (let q : i ≡ suc j = omega arith in rw q (omega arith))
  ]

  pub line-least : (j : ℕ) → j ≤ line_start text j
  line-least zero = omega arith
  line-least (suc j) = omega (arith, line-least j, line-grows j)

  -- where one begins within the text, so do all above it
  begins : (i j : ℕ) → i ≤ j → line_start text j < length text → ltb (line_start text i) (length text) ≡ true
  begins i j l h = lt-ltb (line_start text i) (length text) (omega (arith, line-order i j l))

  pub lines-within : (j : ℕ) → line_start text j < length text → j < text_lines text
  unfolding text_lines
  lines-within j h =
      let P : ℕ → Bool = λ i. ltb (line_start text i) (length text) in
      let above : count_below P j ≡ j = count-all P j (λ i l. begins i j (omega arith) h) in
      omega (arith, count_below-less P j (length text) (omega (arith, line-least j)) (begins j j (omega arith) h))

  -- where one begins behind the text, no more than those above it are within
  lines-most : (j : ℕ) → length text ≤ line_start text j → text_lines text ≤ j
  unfolding text_lines
  lines-most j h = count_most _ (length text) j (λ i l. le-ltb (line_start text i) (length text) (omega (arith, line-order j i l)))

  -- and where those above it are, just these
  pub lines_end : (j : ℕ) → ((i : ℕ) → i < j → line_start text i < length text) → length text ≤ line_start text j → text_lines text ≡ j
  lines_end zero h l = omega (arith, lines-most 0 l)
  lines_end (suc j) h l = omega (arith, lines-most (suc j) l, lines-within j (h j (omega arith)))

  pub line-begins : (j : ℕ) → j < text_lines text → line_start text j < length text
  line-begins j h = elim (dec_le (length text) (line_start text j)) [
    | yes g ↦ absurd (let z : ⊥ = omega (arith, lines-most j g) in z)
    | no g ↦ omega arith
  ]

-- ---- definitions
module _ (text : List ℕ) where
  -- as many as there are lines
  pub above-all : lines_above text (text_lines text) ≡ line_count text
  unfolding lines_above line_count definitions
  above-all = sym (length-select _ (text_lines text))

  -- a text line that defines, defines the line with the number of those above it
  module _ (j : ℕ) (e : defines text j ≡ true) (h : j < text_lines text) where
    pub definition_here : get_or (definitions text) (lines_above text j) 0 ≡ j
    unfolding definitions lines_above
    definition_here = select-here (λ i. defines text i) (text_lines text) j e h

    pub above_within : lines_above text j < line_count text
    unfolding lines_above
    above_within = rw (← above-all) (count_below-less (λ i. defines text i) j (text_lines text) h e)

    pub sentence-here : definition_of text (lines_above text j) ≡ sentence_at text j
    unfolding definition_of
    sentence-here = ap (sentence_at text) definition_here

    pub name-here : name_at text (lines_above text j) ≡ (sentence_at text j).name
    unfolding name_at
    name-here = ap (λ (s : Sentence). s.name) sentence-here

  -- line n is defined in the text line with n definitions above it
  module _ (n : ℕ) (h : n < line_count text) where
    passes : (get_or (definitions text) n 0 < text_lines text) × (defines text (get_or (definitions text) n 0) ≡ true)
    unfolding definitions line_count
    passes =
        all-at (λ j. (j < text_lines text) × (defines text j ≡ true)) (definitions text) n 0
        (select-all (λ j. defines text j) (text_lines text) (text_lines text) (omega arith)) h

    pub definition_within : get_or (definitions text) n 0 < text_lines text
    definition_within = passes.0

    pub definition_defines : defines text (get_or (definitions text) n 0) ≡ true
    definition_defines = passes.1

    pub above_definition : lines_above text (get_or (definitions text) n 0) ≡ n
    unfolding lines_above definitions line_count
    above_definition = count-here (λ j. defines text j) (text_lines text) n h

-- ---- names
pub same-eq : (xs ys : List ℕ) → same xs ys ≡ true → xs ≡ ys
unfolding same
same-eq [] [] e = refl
same-eq [] (y ∷ ys) e = absurd (false≢true e)
same-eq (x ∷ xs) [] e = absurd (false≢true e)
same-eq (x ∷ xs) (y ∷ ys) e = ap₂ (λ a rest. a ∷ rest) (eqb-true x y (and_left _ _ e)) (same-eq xs ys (and_right (eqb x y) _ e))

pub same_self : (xs : List ℕ) → same xs xs ≡ true
unfolding same
same_self [] = refl
same_self (x ∷ xs) = rw (eq-eqb x x refl) (same_self xs)

pub eq-same : (xs ys : List ℕ) → xs ≡ ys → same xs ys ≡ true
eq-same xs ys e = rw (← e) (same_self xs)

-- the line of a name
module _ (text name : List ℕ) where
  pub line-named-most : line_named text name ≤ line_count text
  unfolding line_named
  line-named-most = given-cases (λ m. m ≤ line_count text) (first (λ n. named text name n) (line_count text)) (line_count text)
      (λ m e. (let l : m < line_count text = (first_some _ _ m e).below in omega arith)) (λ _. omega arith)

  pub line-named : line_named text name < line_count text → named text name (line_named text name) ≡ true
  unfolding line_named
  line-named h = (first_some (λ n. named text name n) (line_count text) _ (given-first _ (line_count text) _ refl h)).passes

  -- no lower one has it
  pub line-named-lowest : (m : ℕ) → m < line_named text name → m < line_count text → named text name m ≡ false
  unfolding line_named
  line-named-lowest =
      given-cases (λ r. (m : ℕ) → m < r → m < line_count text → named text name m ≡ false) (first (λ n. named text name n) (line_count text)) (line_count text)
      (λ r e m h _. (first_some _ _ r e).fails m h) (λ e m _ l. first-none _ _ m e l)
