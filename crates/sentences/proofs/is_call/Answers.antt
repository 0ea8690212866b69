use Rattle.std.proofs.Common.{arith, length}
use Rattle.std.proofs.lemmas.Grind.{common_steps}
use Rattle.bench_text.specs.Sentence.{is_call}
use Rattle.tokens.proofs.Laws.{length-kept}
use Rattle.sentences.proofs.is_call.Goals as goal

pub returns-then-is_name : goal.returns-then-is_name
unfolding is_call
returns-then-is_name c = grind (arith, common_steps, length-kept c.args.parts.now (length c.args.parts.now))

pub returns-else-is_name : goal.returns-else-is_name
unfolding is_call
returns-else-is_name c = grind (arith, common_steps, length-kept c.args.parts.now (length c.args.parts.now))
