use Rattle.std.proofs.Common.{◌≡◌, suc, ◌+◌, ◌≤◌, ◌<◌, length, refl, sym, ap, ◌∙◌, arith, rules}
use Rattle.bench_text.specs.Sentence.{sentence_from}
use Rattle.bench_text.specs.Bench.{name_at}
use Rattle.bench_text.proofs.Sentences.{line-name-ends}
use Rattle.parts.proofs.Laws.{part-within}
use Rattle.sentences.proofs.Laws.{defines-low, other-high}
use Rattle.definitions.specs.Reached.{Reached}
use Rattle.definitions.proofs.Laws.{reached-first, reached_as, reached-end, reached-passed, reached-defined, reached-name, reached-most, less-left, held_all}
use Rattle.definitions.proofs.collect.Goals.{In-Defines}
use Rattle.definitions.proofs.collect.Goals as goal

pub loop-at-init : goal.loop-at-init
loop-at-init c = record { held = c.requires; few = omega arith; all = λ h. refl; reached = (0, reached-first _); rest = (0, reached-first _) }

-- less of the text is left
pub loop-at-smaller-in_default : goal.loop-at-smaller-in_default
loop-at-smaller-in_default c = less-left _ _ _ c.loop-at-test.true c.read_line-line.ensures.next

pub loop-at-preserved-in_default : goal.loop-at-preserved-in_default
loop-at-preserved-in_default c =
    let inv = c.loop-at.invariant in
    let told = c.read_line-line.ensures in
    record {
      held = inv.held;
      few = inv.few;
      all = inv.all;
      reached = (suc inv.reached.0, reached-passed _ _ _ _ inv.reached.1 c.loop-at-test.true _ told.next (other-high told.tells c.in_default.not-Defines));
      rest = inv.rest;
    }

-- there are fewer definitions than bytes
pub overflow_add-lines : goal.overflow_add-lines
overflow_add-lines c =
    let few : c.loop-at.lines < length c.args.text.now = omega (arith, c.loop-at-test.true, reached-most _ _ _ _ c.loop-at.invariant.reached.1) in
    search rules

-- the text line defines a line
line : (c : In-Defines) → (sentence_from c.args.text.now c.loop-at.at).sort ≤ 9
line c = defines-low c.read_line-line.ensures.tells _ c.in-Defines.is

-- and the walk goes on behind it
passed : (c : In-Defines) → Reached c.args.text.now (suc c.loop-at.invariant.reached.0) c.read_line-line.result.next (c.loop-at.lines + 1)
passed c = reached-defined _ _ _ _ c.loop-at.invariant.reached.1 c.loop-at-test.true (line c) _ c.read_line-line.ensures.next

pub loop-at-smaller-then-held-ge-HELD : goal.loop-at-smaller-then-held-ge-HELD
loop-at-smaller-then-held-ge-HELD c = less-left _ _ _ c.loop-at-test.true c.read_line-line.ensures.next

pub loop-at-preserved-then-held-ge-HELD : goal.loop-at-preserved-then-held-ge-HELD
loop-at-preserved-then-held-ge-HELD c =
    let inv = c.loop-at.invariant in
    record {
      held = inv.held;
      few = omega (arith, inv.few);
      all = λ h. absurd (let z : ⊥ = omega (arith, c.if-held-ge-HELD.true) in z);
      reached = (suc inv.reached.0, passed (goal.at.loop-at-preserved-then-held-ge-HELD c).In-Defines);
      rest = inv.rest;
    }

-- where there is room, all lines above are held, and the name is that of the next
pub hold-requires : goal.hold-requires
hold-requires c =
    let text = c.args.text.now in
    let inv = c.loop-at.invariant in
    let told = c.read_line-line.ensures.tells in
    let all : c.loop-at.held ≡ c.loop-at.lines = inv.all (omega (arith, c.if-held-ge-HELD.false)) in
    let named : name_at text c.loop-at.held ≡ (sentence_from text c.loop-at.at).name =
    ap (name_at text) all ∙ reached-name _ _ _ _ inv.reached.1 c.loop-at-test.true (line (goal.at.hold-requires c).In-Defines) in
    let same = told.name ∙ sym named in
    (inv.held, omega (arith, c.if-held-ge-HELD.false), same, part-within text _ _ same (line-name-ends text c.loop-at.held))

pub loop-at-smaller : goal.loop-at-smaller
loop-at-smaller c = less-left _ _ _ c.loop-at-test.true c.read_line-line.ensures.next

pub loop-at-preserved : goal.loop-at-preserved
loop-at-preserved c =
    let d = (goal.at.loop-at-preserved c).In-Defines in
    let inv = c.loop-at.invariant in
    let all : c.loop-at.held ≡ c.loop-at.lines = inv.all (omega (arith, c.if-held-ge-HELD.false)) in
    record {
      held = c.hold.ensures;
      few = omega arith;
      all = λ h. ap (λ n. n + 1) all;
      reached = (suc inv.reached.0, passed d);
      rest = (suc inv.reached.0, reached_as _ _ _ _ _ (ap (λ n. n + 1) all) (passed d));
    }

pub returns : goal.returns
returns c =
    let inv = c.loop-at.invariant in
    record {
      lines = (reached-end _ _ _ _ inv.reached.1 (omega (arith, c.loop-at-test.false))).1;
      held = inv.held;
      few = inv.few;
      all = λ h. held_all _ _ inv.held.few inv.few inv.all h;
      rest = inv.rest;
    }
