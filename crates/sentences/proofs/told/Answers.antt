use Rattle.std.proofs.Common.{◌≡◌, sym, ◌∙◌, true, false, eqb, length, arith}
use Rattle.bench_text.specs.Sentence.{input_word, output_word, is_call, sentence}
use Rattle.tokens.specs.Kept.{all_kept}
use Rattle.tokens.proofs.Laws.{length-kept}
use Rattle.sentences.proofs.Forms.{tells_none, tells_input, tells-output, call-length, call_token}
use Rattle.sentences.proofs.told.Goals.{After-is_call, After-is_call-2}
use Rattle.sentences.proofs.told.Goals as goal

-- there are tokens
some : (c : After-is_call) → eqb (length (all_kept c.args.parts.now)) 0 ≡ false
some c = rw length-kept (sym c.is_empty.ensures ∙ c.if-is_empty.false)

-- and it is no input
other : (c : After-is_call-2) → is_call c.args.text.now (all_kept c.args.parts.now) input_word ≡ false
other c = sym c.is_call.ensures ∙ c.if-is_call.false

pub returns-then-is_empty-clause-tells : goal.returns-then-is_empty-clause-tells
unfolding sentence
returns-then-is_empty-clause-tells c =
    let none : eqb (length c.args.parts.now) 0 ≡ true = sym c.is_empty.ensures ∙ c.if-is_empty.true in
    tells_none _ _ _ _ _ (λ k e. absurd (cc)) c.without.ensures (rw (length-kept, none))

pub bounds-parts-2 : goal.bounds-parts-2
bounds-parts-2 c =
    let four = call-length c.args.text.now c.args.parts.now input_word (sym c.is_call.ensures ∙ c.if-is_call.true) in
    omega (arith, four)

pub returns-then-is_call-clause-tells : goal.returns-then-is_call-clause-tells
unfolding sentence
returns-then-is_call-clause-tells c =
    let input = sym c.is_call.ensures ∙ c.if-is_call.true in
    tells_input _ _ _ (rw (some (goal.at.returns-then-is_call-clause-tells c).After-is_call, input, call_token c.args.text.now c.args.parts.now input_word input))

pub returns-then-is_call-2-clause-tells : goal.returns-then-is_call-2-clause-tells
unfolding sentence
returns-then-is_call-2-clause-tells c =
    let d = goal.at.returns-then-is_call-2-clause-tells c in
    let output = sym c.is_call-2.ensures ∙ c.if-is_call-2.true in
    tells-output _ _ _ (rw (some d.After-is_call, other d.After-is_call-2, output, call_token c.args.text.now c.args.parts.now output_word output))

pub returns-then-is_call-2-clause-kept : goal.returns-then-is_call-2-clause-kept
returns-then-is_call-2-clause-kept c =
    omega (arith, call-length c.args.text.now c.args.parts.now output_word (sym c.is_call-2.ensures ∙ c.if-is_call-2.true))

pub returns-clause-tells : goal.returns-clause-tells
unfolding sentence
returns-clause-tells c =
    let d = goal.at.returns-clause-tells c in
    let none = sym c.is_call-2.ensures ∙ c.if-is_call-2.false in
    rw (some d.After-is_call, other d.After-is_call-2, none) c.gate_told.ensures.tells
