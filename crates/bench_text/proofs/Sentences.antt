-- What a text line says is in bounds: its sort, how many pins it has, where its names stand, and what a name is made of.
use mathlib.Core.Path.{◌≡◌, refl, ◌∙◌}
use Prim.Native.Nat.{ℕ, suc, ◌+◌, ◌*◌, ◌≤◌, ◌<◌}
use mathlib.Core.Bool.{true, ◌&&◌}
use mathlib.Core.List.{List, [], ◌∷◌}
use lib.ListN.{get_or, length, drop, length-drop}
use lib.Seq.{get_or-take, get_or-drop, length-take-le}
use lib.Dec.{eqb, leb}
use borrow.Author.Tests.{ne_eqb, eqb-true, leb-true}
use native.Mathlib.Omega.{arith}
use Rattle.lists.specs.Scan.{tabulate}
use Rattle.lists.proofs.Tests.{and_left, and_right, cond_cases, is_false}
use Rattle.lists.proofs.Scan.{length-tabulate}
use Rattle.model.specs.Refusals.{pins_fit}
use Rattle.model.proofs.Accepted.{few-pins}
use Rattle.bench_text.specs.Text.{Part, bytes_of, same, line_start, line_tokens}
use Rattle.bench_text.specs.Sentence.{Sentence, OUTPUT, NOTHING, MALFORMED, no_part, input_word, output_word, keywords, kind_from, kind_of, token, is, is_name, is_call, pin_tokens, line_kind, is_head, is_line, gate_sentence, sentence, sentence_from, sentence_at}
use Rattle.bench_text.specs.Bench.{defines, definitions, line_count, definition_of, name_at}
use Rattle.bench_text.specs.Promises.{ProperName}
use Rattle.bench_text.proofs.Scans.{each-one, each-any, each-tabulate}
use Rattle.bench_text.proofs.Laws.{definition_defines}
use Rattle.bench_text.proofs.Tokens.{Token, name_byte_at, line-token, line-token-ends}

-- ---- the five cases
module _ (text : List ℕ) (ts : List Part) where
  -- the names in the parentheses of `a = NAND(b, c)`
  abbrev pin_parts : List Part
  pin_parts = tabulate (λ i. token text ts (4 + 2 * i)) 0 (pin_tokens text ts)

  length-pin_parts : length pin_parts ≡ pin_tokens text ts
  length-pin_parts = length-tabulate (λ i. token text ts (4 + 2 * i)) 0 (pin_tokens text ts)

  pub sentence-cases : (Q : Sentence → Type 0)
      → Q record { sort = NOTHING; name = no_part; pins = [] }
      → (is_call text ts input_word ≡ true → Q record { sort = 0; name = token text ts 2; pins = [] })
      → (is_call text ts output_word ≡ true → Q record { sort = OUTPUT; name = no_part; pins = token text ts 2 ∷ [] })
      → (is_line text ts ≡ true → Q record { sort = line_kind text ts; name = token text ts 0; pins = pin_parts })
      → Q record { sort = MALFORMED; name = no_part; pins = [] }
      → Q (sentence text ts)
  unfolding sentence gate_sentence
  sentence-cases Q nothing input output line other =
      cond_cases Q (eqb (length ts) 0) _ _ (λ _. nothing) (λ _.
      cond_cases Q (is_call text ts input_word) _ _ input (λ _.
      cond_cases Q (is_call text ts output_word) _ _ output (λ _.
      cond_cases Q (is_line text ts) _ _ line (λ _. other))))

  -- the two that define a line
  defining_cases : (Q : Sentence → Type 0)
      → (is_call text ts input_word ≡ true → Q record { sort = 0; name = token text ts 2; pins = [] })
      → (is_line text ts ≡ true → Q record { sort = line_kind text ts; name = token text ts 0; pins = pin_parts })
      → (sentence text ts).sort ≤ 9 → Q (sentence text ts)
  defining_cases Q input line = sentence-cases (λ s. s.sort ≤ 9 → Q s)
      (λ h. absurd (let z : ⊥ = omega arith in z))
      (λ e _. input e)
      (λ _ h. absurd (let z : ⊥ = omega arith in z))
      (λ e _. line e)
      (λ h. absurd (let z : ⊥ = omega arith in z))

  -- the name in `INPUT(a)` or `OUTPUT(a)` is the third of its four tokens
  pub call-name : (word : List ℕ) → is_call text ts word ≡ true → (length ts ≡ 4) × (is_name text ts 2 ≡ true)
  unfolding is_call
  call-name word e =
      let front : eqb (length ts) 4 && is text ts 0 word && is text ts 1 (40 ∷ []) && is_name text ts 2 ≡ true = and_left _ _ e in
      let four : length ts ≡ 4 = eqb-true (length ts) 4 (and_left _ _ (and_left _ _ (and_left _ _ front))) in
      (four, and_right (eqb (length ts) 4 && is text ts 0 word && is text ts 1 (40 ∷ [])) _ front)

  -- that of `a = NAND(b, c)` its first
  pub line-name : is_line text ts ≡ true → (length ts ≡ 4 + 2 * pin_tokens text ts) × (is_name text ts 0 ≡ true)
  unfolding is_line is_head
  line-name e =
      let head : is_head text ts ≡ true = and_left (is_head text ts) _ e in
      let front : eqb (length ts) (4 + 2 * pin_tokens text ts) && is_name text ts 0 ≡ true
      = and_left _ _ (and_left _ _ (and_left _ _ (and_left _ _ head))) in
      let long : length ts ≡ 4 + 2 * pin_tokens text ts = eqb-true _ _ (and_left _ _ front) in
      (long, and_right (eqb (length ts) (4 + 2 * pin_tokens text ts)) _ front)

  -- which has as many pins as its kind
  pub line-pins : is_line text ts ≡ true → pins_fit (line_kind text ts) (pin_tokens text ts) ≡ true
  unfolding is_line is_head
  line-pins e =
      and_right
      (eqb (length ts) (4 + 2 * pin_tokens text ts) && is_name text ts 0 && is text ts 1 (61 ∷ []) && is text ts 3 (40 ∷ []) && leb 1 (line_kind text ts))
      _ (and_left (is_head text ts) _ e)

-- ---- sorts and pin counts
kind-low : (k : ℕ) (ws : List (List ℕ)) (word : List ℕ) → 1 ≤ k → kind_from k ws word < k + length ws
unfolding kind_from
kind-low k [] word h = omega arith
kind-low k (w ∷ ws) word h =
    cond_cases (λ (n : ℕ). n < k + suc (length ws)) (same word w) k _ (λ _. omega arith) (λ _. omega (arith, kind-low (suc k) ws word (omega arith)))

module _ (text : List ℕ) (ts : List Part) where
  line-kind-low : line_kind text ts ≤ 9
  unfolding line_kind kind_of
  line-kind-low = omega (arith, kind-low 1 keywords (bytes_of text (token text ts 2)) (omega arith))

  pub sort-low : (sentence text ts).sort ≤ 12
  sort-low =
      sentence-cases text ts (λ s. s.sort ≤ 12) (omega arith) (λ _. omega arith) (λ _. omega arith) (λ _. omega (arith, line-kind-low)) (omega arith)

  -- a line that is defined has as many pins as its kind
  pub pins-fit : (sentence text ts).sort ≤ 9 → pins_fit (sentence text ts).sort (length (sentence text ts).pins) ≡ true
  unfolding pins_fit
  pins-fit =
      defining_cases text ts (λ s. pins_fit s.sort (length s.pins) ≡ true) (λ _. refl) (λ e. rw (length-pin_parts text ts) (line-pins text ts e))

  pub pins-few : length (sentence text ts).pins ≤ 4
  pins-few = sentence-cases text ts (λ s. length s.pins ≤ 4) (omega arith) (λ _. omega arith) (λ _. omega arith)
      (λ e. rw (length-pin_parts text ts) (few-pins (line_kind text ts) (pin_tokens text ts) (line-pins text ts e))) (omega arith)

  -- OUTPUT has one
  pub output-pin : (sentence text ts).sort ≡ OUTPUT → length (sentence text ts).pins ≡ 1
  output-pin = sentence-cases text ts (λ s. s.sort ≡ OUTPUT → length s.pins ≡ 1)
      (λ h. absurd (let z : ⊥ = omega arith in z))
      (λ _ h. absurd (let z : ⊥ = omega arith in z))
      (λ _ _. refl)
      (λ _ h. absurd (let z : ⊥ = omega (arith, line-kind-low) in z))
      (λ h. absurd (let z : ⊥ = omega arith in z))

  -- more tokens than twelve are of none of the forms
  pub many_malformed : 12 < length ts → sentence text ts ≡ record { sort = MALFORMED; name = no_part; pins = [] }
  unfolding sentence gate_sentence
  many_malformed h = rw (
    ne_eqb (length ts) 0 (λ e. (let z : ⊥ = omega arith in z)),
    is_false (is_call text ts input_word) (λ e. (let z : ⊥ = omega (arith, (call-name text ts input_word e).0) in z)),
    is_false (is_call text ts output_word) (λ e. (let z : ⊥ = omega (arith, (call-name text ts output_word e).0) in z)),
    is_false (is_line text ts) (λ e. (let z : ⊥ = omega (arith, (line-name text ts e).0, few-pins (line_kind text ts) (pin_tokens text ts) (line-pins text ts e)) in z)),
  )

  -- ---- where the names stand
  -- what is so of every token and of the empty part, is so of the name and of every pin
  module _ (P : Part → Type 0) (each : (i : ℕ) → P (token text ts i)) (empty : P no_part) where
    name-token : P (sentence text ts).name
    name-token = sentence-cases text ts (λ s. P s.name) empty (λ _. each 2) (λ _. empty) (λ _. each 0) empty

    pin-token : (i : ℕ) → P (get_or (sentence text ts).pins i no_part)
    pin-token i = sentence-cases text ts (λ s. P (get_or s.pins i no_part)) empty (λ _. empty)
        (λ _. each-any P no_part (token text ts 2 ∷ []) (each-one P no_part _ (each 2)) empty i)
        (λ _. each-any P no_part (pin_parts text ts) (each-tabulate P no_part _ (λ k. each (4 + 2 * k)) 0 (pin_tokens text ts)) empty i)
        empty

module _ (text : List ℕ) (at : ℕ) where
  ends : (i : ℕ) → (token text (line_tokens text at) i).at + (token text (line_tokens text at) i).size ≤ length text
  unfolding token
  ends i = line-token-ends text at i

  pub name-ends : (sentence_from text at).name.at + (sentence_from text at).name.size ≤ length text
  unfolding sentence_from
  name-ends = name-token text (line_tokens text at) (λ p. p.at + p.size ≤ length text) ends (omega arith)

  pub pin-ends : (i : ℕ) → (get_or (sentence_from text at).pins i no_part).at + (get_or (sentence_from text at).pins i no_part).size ≤ length text
  unfolding sentence_from
  pin-ends = pin-token text (line_tokens text at) (λ p. p.at + p.size ≤ length text) ends (omega arith)

-- ---- what a name is made of
pub length-bytes_of : (text : List ℕ) (p : Part) → p.at + p.size ≤ length text → length (bytes_of text p) ≡ p.size
unfolding bytes_of
length-bytes_of text p h = length-take-le p.size (drop p.at text) (rw length-drop (omega arith))

pub byte-bytes_of : (text : List ℕ) (p : Part) (i : ℕ) → i < p.size → get_or (bytes_of text p) i 0 ≡ get_or text (p.at + i) 0
unfolding bytes_of
byte-bytes_of text p i h = get_or-take p.size (drop p.at text) i 0 h ∙ get_or-drop p.at text i 0

module _ (text : List ℕ) (at : ℕ) where
  -- a token that is a name
  token-proper : (i : ℕ) → i < length (line_tokens text at) → is_name text (line_tokens text at) i ≡ true
      → ProperName (bytes_of text (token text (line_tokens text at) i))
  unfolding is_name token
  token-proper i h e =
      let p : Part = get_or (line_tokens text at) i no_part in
      let t : Token (name_byte_at text) at (length text) p = line-token text at i h in
      let long : length (bytes_of text p) ≡ p.size = length-bytes_of text p t.lies.ends in
      record {
        some = omega (arith, t.lies);
        most = omega (arith, leb-true p.size 32 (and_right (name_byte_at text p.at) _ e));
        bytes = λ k l. rw (byte-bytes_of text p k (omega arith)) (t.alike (and_left _ _ e) (p.at + k) (omega arith) (omega arith));
      }

  -- the name that a text line defines
  pub name-proper : (sentence_from text at).sort ≤ 9 → ProperName (bytes_of text (sentence_from text at).name)
  unfolding sentence_from
  name-proper = defining_cases text (line_tokens text at) (λ s. ProperName (bytes_of text s.name))
      (λ e. (let found = call-name text (line_tokens text at) input_word e in token-proper 2 (omega (arith, found.0)) found.1))
      (λ e. (let found = line-name text (line_tokens text at) e in token-proper 0 (omega (arith, found.0)) found.1))

-- ---- the same of line n
module _ (text : List ℕ) (n : ℕ) where
  pub line-name-ends : (name_at text n).at + (name_at text n).size ≤ length text
  unfolding name_at definition_of sentence_at
  line-name-ends = name-ends text (line_start text (get_or (definitions text) n 0))

  pub line-pins-few : length (definition_of text n).pins ≤ 4
  unfolding definition_of sentence_at sentence_from
  line-pins-few = pins-few text (line_tokens text (line_start text (get_or (definitions text) n 0)))

  module _ (h : n < line_count text) where
    pub line-kind : (definition_of text n).sort ≤ 9
    unfolding definition_of defines
    line-kind = leb-true _ 9 (definition_defines text n h)

    pub line-pins-fit : pins_fit (definition_of text n).sort (length (definition_of text n).pins) ≡ true
    unfolding definition_of sentence_at sentence_from
    line-pins-fit = pins-fit text (line_tokens text (line_start text (get_or (definitions text) n 0))) line-kind

    pub line-name-proper : ProperName (bytes_of text (name_at text n))
    unfolding name_at definition_of sentence_at
    line-name-proper = name-proper text (line_start text (get_or (definitions text) n 0)) line-kind
