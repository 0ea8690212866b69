use Rattle.std.proofs.Common.{◌≡◌, suc, ◌≤◌, ◌<◌, length, sym, ap, ◌∙◌, arith, rules}
use Rattle.bench_text.specs.Text.{bytes_of, same}
use Rattle.bench_text.specs.Sentence.{sentence_from}
use Rattle.bench_text.specs.Bench.{named}
use Rattle.bench_text.proofs.Sentences.{name-ends}
use Rattle.parts.proofs.Laws.{part-within}
use Rattle.sentences.proofs.Laws.{defines-low, other-high}
use Rattle.definitions.proofs.Laws.{less-left, reached-end, reached-passed, reached-defined, reached-below, reached-name, reached-most, none_more, line-found, line-missing}
use Rattle.definitions.proofs.find_behind.Goals.{After-same}
use Rattle.definitions.proofs.find_behind.Goals as goal

pub loop-at-init : goal.loop-at-init
loop-at-init c = record { reached = c.requires.by_index_2; below = c.requires.by_index }

-- less of the text is left
pub loop-at-smaller-in_default : goal.loop-at-smaller-in_default
loop-at-smaller-in_default c = less-left _ _ _ c.loop-at-test.true c.read_line-said.ensures.next

pub loop-at-preserved-in_default : goal.loop-at-preserved-in_default
loop-at-preserved-in_default c =
    let inv = c.loop-at.invariant in
    let told = c.read_line-said.ensures in
    record {
      reached = (suc inv.reached.0, reached-passed _ _ _ _ inv.reached.1 c.loop-at-test.true _ told.next (other-high told.tells c.in_default.not-Defines));
      below = inv.below;
    }

-- the name that the text line defines ends within the text
pub bytes-requires : goal.bytes-requires
bytes-requires c = part-within c.args.text.now _ _ c.read_line-said.ensures.tells.name (name-ends c.args.text.now c.loop-at.at)

-- the text line defines a line
line : (c : After-same) → (sentence_from c.args.text.now c.loop-at.at).sort ≤ 9
line c = defines-low c.read_line-said.ensures.tells _ c.in-Defines.is

-- and whether it has the name was asked
asked : (c : After-same) → c.same.result ≡ named c.args.text.now c.args.name.now c.loop-at.line
unfolding named
asked c =
    let here = reached-name _ _ _ _ c.loop-at.invariant.reached.1 c.loop-at-test.true (line c) in
    c.same.ensures ∙ ap (λ b. same b c.args.name.now) (c.bytes.ensures.bytes ∙ ap (bytes_of c.args.text.now) (c.read_line-said.ensures.tells.name ∙ sym here))

pub returns-then-same : goal.returns-then-same
returns-then-same c =
    let d = (goal.at.returns-then-same c).After-same in
    let inv = c.loop-at.invariant in
    line-found _ _ _ inv.below (reached-below _ _ _ _ inv.reached.1 c.loop-at-test.true (line d)) (sym (asked d) ∙ c.if-same.true)

-- there are fewer definitions than bytes
pub overflow_add-line : goal.overflow_add-line
overflow_add-line c =
    let few : c.loop-at.line < length c.args.text.now = omega (arith, c.loop-at-test.true, reached-most _ _ _ _ c.loop-at.invariant.reached.1) in
    search rules

pub loop-at-smaller : goal.loop-at-smaller
loop-at-smaller c = less-left _ _ _ c.loop-at-test.true c.read_line-said.ensures.next

pub loop-at-preserved : goal.loop-at-preserved
loop-at-preserved c =
    let d = (goal.at.loop-at-preserved c).After-same in
    let inv = c.loop-at.invariant in
    let told = c.read_line-said.ensures in
    record {
      reached = (suc inv.reached.0, reached-defined _ _ _ _ inv.reached.1 c.loop-at-test.true (line d) _ told.next);
      below = none_more c.args.text.now c.args.name.now c.loop-at.line inv.below (sym (asked d) ∙ c.if-same.false);
    }

pub returns : goal.returns
returns c =
    let inv = c.loop-at.invariant in
    line-missing _ _ _ inv.below (reached-end _ _ _ _ inv.reached.1 (omega (arith, c.loop-at-test.false))).1
