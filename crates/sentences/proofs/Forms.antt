-- What the tokens of a line say, form by form, as the code tells it.
use Rattle.std.proofs.Common.{◌≡◌, ℕ, ◌+◌, ◌*◌, ◌-◌, ◌/◌, ◌≤◌, ◌<◌, true, false, ◌&&◌, eqb, List, [], ◌∷◌, length, get_or, refl, sym, ap, ◌∙◌, arith}
use borrow.Author.Tests.{leb-true}
use Rattle.lists.specs.Scan.{tabulate}
use Rattle.lists.proofs.Tests.{and_left, and_right, is_false}
use Rattle.lists.proofs.Scan.{length-tabulate, get_or_tabulate, tabulate-same}
use Rattle.model.proofs.Accepted.{few-pins}
use Rattle.bench_text.specs.Sentence.{Sentence, OUTPUT, MALFORMED, no_part, token, is, is_name, is_call, pin_tokens, line_kind, is_head, is_line, gate_sentence}
use Rattle.bench_text.proofs.Sentences.{call-name, line-name, line-pins}
use Rattle.parts.specs.declared.Part.{Part}
use Rattle.tokens.specs.Kept.{part_of, all_kept}
use Rattle.tokens.proofs.Laws.{length-kept}
use Rattle.sentences.specs.declared.Line.{Line}
use Rattle.sentences.specs.declared.Sort.{Sort}
use Rattle.sentences.specs.declared.Sort.TheVariants.{Defines, Output}
use Rattle.sentences.specs.Line.{sort_of, Tells}
use Rattle.sentences.proofs.Laws.{token-kept, pins-kept, head-length}

-- ---- the code's answers
abbrev empty : Part
empty = record { at = 0; size = 0 }

module _ (parts : List Part) (s : Sentence) (next : ℕ) where
  -- no name and no pins
  pub tells_none : (sort : Sort) (l : Line) → ((k : ℕ) → sort ≡ Defines k → k ≤ 9) → l ≡ record { sort = sort; name = empty; first = 0; pins = 0; next = next }
      → s ≡ record { sort = sort_of sort; name = no_part; pins = [] } → Tells parts s l
  tells_none sort l low is e = rw (is, e) (record {
    sort = refl;
    kind = low;
    name = refl;
    count = refl;
    room = omega arith;
    pin = λ i h. absurd (let z : ⊥ = omega arith in z);
  })

  -- `INPUT(a)`
  pub tells_input : s ≡ record { sort = 0; name = part_of parts 2; pins = [] }
      → Tells parts s (record { sort = Defines 0; name = get_or parts 2 empty; first = 0; pins = 0; next = next })
  unfolding part_of
  tells_input e = rw e (record {
    sort = refl;
    kind = λ k same. (let none : k ≡ 0 = cc in omega arith);
    name = refl;
    count = refl;
    room = omega arith;
    pin = λ i h. absurd (let z : ⊥ = omega arith in z);
  })

  -- `OUTPUT(a)`
  pub tells-output : s ≡ record { sort = OUTPUT; name = no_part; pins = part_of parts 2 ∷ [] }
      → Tells parts s (record { sort = Output; name = empty; first = 2; pins = 1; next = next })
  tells-output e = rw e (record {
    sort = refl;
    kind = λ k same. absurd (cc);
    name = refl;
    count = refl;
    room = omega arith;
    pin = λ i h. (let z : i ≡ 0 = omega arith in rw z);
  })

  -- `a = DFF(b)`, `a = NAND(b, c)`
  pub tells-gate : (sort pins : ℕ) → sort ≤ 9 → pins ≤ 4 → s ≡ record { sort = sort; name = part_of parts 0; pins = tabulate (λ i. part_of parts (4 + 2 * i)) 0 pins }
      → Tells parts s (record { sort = Defines sort; name = get_or parts 0 empty; first = 4; pins = pins; next = next })
  unfolding part_of
  tells-gate sort pins low few e = rw e (record {
    sort = refl;
    kind = λ k same. (let own : k ≡ sort = cc in omega arith);
    name = refl;
    count = sym (length-tabulate _ 0 pins);
    room = omega arith;
    pin = λ i h. get_or_tabulate (λ i. part_of parts (4 + 2 * i)) 0 pins i no_part h ∙ ap (λ k. part_of parts (4 + 2 * k)) (let z : 0 + i ≡ i = omega arith in z);
  })

-- ---- the sentence of tokens that are kept
module _ (text : List ℕ) (parts : List Part) where
  -- `INPUT(a)` or `OUTPUT(a)` has four tokens, and the name is the third
  pub call-length : (word : List ℕ) → is_call text (all_kept parts) word ≡ true → length parts ≡ 4
  call-length word e = sym (length-kept parts (length parts)) ∙ (call-name text (all_kept parts) word e).0

  pub call_token : (word : List ℕ) → is_call text (all_kept parts) word ≡ true → token text (all_kept parts) 2 ≡ part_of parts 2
  call_token word e = token-kept text parts 2 (omega (arith, call-length word e))

  -- of none of the forms
  pub gate_none : is_line text (all_kept parts) ≡ false → gate_sentence text (all_kept parts) ≡ record { sort = MALFORMED; name = no_part; pins = [] }
  unfolding gate_sentence
  gate_none e = rw e

  -- with too few tokens
  pub gate-short : length parts < 4 → gate_sentence text (all_kept parts) ≡ record { sort = MALFORMED; name = no_part; pins = [] }
  unfolding is_line
  gate-short h = gate_none (is_false _ (λ e. (let z : ⊥ = omega (arith, head-length text parts (and_left _ _ e)) in z)))

  -- a keyword's kind is not 0
  line-kind : is_line text (all_kept parts) ≡ true → 1 ≤ line_kind text (all_kept parts)
  unfolding is_line is_head
  line-kind e =
      let ts = all_kept parts in
      let head : is_head text ts ≡ true = and_left (is_head text ts) _ e in
      leb-true 1 _ (and_right (eqb (length ts) (4 + 2 * pin_tokens text ts) && is_name text ts 0 && is text ts 1 (61 ∷ []) && is text ts 3 (40 ∷ [])) _ (and_left _ _ head))

  -- or with no keyword
  pub no_keyword : line_kind text (all_kept parts) ≡ 0 → is_line text (all_kept parts) ≡ false
  no_keyword none = is_false _ (λ e. (let z : ⊥ = omega (arith, line-kind e) in z))

  module _ (e : is_line text (all_kept parts) ≡ true) where
    pub line-length : 4 + 2 * ((length parts - 4) / 2) ≡ length parts
    line-length = ap (λ n. 4 + 2 * n) (sym (pins-kept text parts)) ∙ sym (line-name text (all_kept parts) e).0 ∙ length-kept parts (length parts)

    pub line-few : (length parts - 4) / 2 ≤ 4
    line-few = rw (pins-kept text parts) at (few-pins (line_kind text (all_kept parts)) _ (line-pins text (all_kept parts) e))

    -- a gate or flip-flop
    pub gate-some : gate_sentence text (all_kept parts)
        ≡ record { sort = line_kind text (all_kept parts); name = part_of parts 0; pins = tabulate (λ i. part_of parts (4 + 2 * i)) 0 ((length parts - 4) / 2) }
    unfolding gate_sentence
    gate-some =
        let pins = tabulate-same (λ i. token text (all_kept parts) (4 + 2 * i)) (λ i. part_of parts (4 + 2 * i)) 0 ((length parts - 4) / 2)
        (λ j l h. token-kept text parts (4 + 2 * j) (omega (arith, line-length))) in
        rw (e, token-kept text parts 0 (omega (arith, line-length)), pins-kept text parts, pins)
