use Rattle.std.proofs.Common.{◌≤◌, arith, length}
use borrow.Author.Tests.{le-leb}
use Rattle.std.proofs.lemmas.Grind.{common_steps}
use Rattle.bench_text.specs.Sentence.{is_head}
use Rattle.tokens.proofs.Laws.{length-kept}
use Rattle.sentences.proofs.Laws.{pins-kept}
use Rattle.sentences.proofs.is_head.Goals as goal

-- there are few pins
pub overflow_mul-pins : goal.overflow_mul-pins
overflow_mul-pins c =
    let few : c.args.pins ≤ 4 = omega (arith, c.requires.0.few, c.requires.2, pins-kept c.args.text.now c.args.parts.now) in
    omega arith

pub overflow_add-pins : goal.overflow_add-pins
overflow_add-pins c =
    let few : c.args.pins ≤ 4 = omega (arith, c.requires.0.few, c.requires.2, pins-kept c.args.text.now c.args.parts.now) in
    omega arith

pub returns-then-is-2 : goal.returns-then-is-2
unfolding is_head
returns-then-is-2 c = grind (arith, common_steps, length-kept c.args.parts.now (length c.args.parts.now), le-leb _ _ c.requires.4)

pub returns-else-is-2 : goal.returns-else-is-2
unfolding is_head
returns-else-is-2 c = grind (arith, common_steps, length-kept c.args.parts.now (length c.args.parts.now))
