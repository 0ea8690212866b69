use Rattle.std.specs.Prelude.{Result, ⊤, List, ℕ}
use Rattle.std.proofs.Common.{◌≡◌, ◌<◌, length, refl, sym, ◌∙◌, add-one, arith, rules}
use Rattle.std.proofs.lemmas.Result.{err_from_is_err_and}
use Rattle.model.specs.Refusals.{Refusal}
use Rattle.lists.specs.Scan.{first_answer}
use Rattle.lists.proofs.Scan.{first_answer-turn, first_answer-stop}
use Rattle.bench_text.specs.Bench.{line_refusal, text_rows}
use Rattle.rules.specs.Check.{refusal_of}
use Rattle.rules.specs.declared.Refusal as rules
use Rattle.rules.proofs.Laws.{ended}
use Rattle.bench_line.specs.Pins.{LineChecked}
use Rattle.bench_line.proofs.Laws.{not_passed}
use Rattle.definitions.proofs.Laws.{less-left, reached-first, reached-line, reached-least, reached-most, reached-end}
use Rattle.read_bench.proofs.Laws.{pins-held, name-within, refused-here, counted, counted_other, reached-next, noting, noted-next}
use Rattle.read_bench.proofs.check_lines.Goals.{After-read_line-line, in-Defines, in_default}
use Rattle.read_bench.proofs.check_lines.Goals as goal

pub loop-at-init : goal.loop-at-init
unfolding first_answer
loop-at-init c = record { reached = reached-first _; passed = refl; noted = λ few. c.requires.1 }

pub check_line-requires : goal.check_line-requires
check_line-requires c =
    let text = c.args.defined.text.now in
    let told = c.read_line-line.ensures in
    (c.requires.0, pins-held text _ c.loop-at.at _ told.tells told.room, omega arith, name-within text _ c.loop-at.at _ told.tells)

-- what a check's answer says of the text line's rows
told : (c : After-read_line-line) → {rows : Refusal} {lines : List ℕ} {r : Result ⊤ rules.Refusal} → LineChecked c.args.defined.text.now c.read_line-line.new.parts c.args.defined.known.lines c.read_line-line.result c.loop-at.above c.loop-at.j lines r
    → refusal_of r ≡ rows → rows ≡ line_refusal c.args.defined.text.now c.loop-at.j
told c checked e =
    let l = c.loop-at in
    sym e ∙ checked.refusal ∙ refused-here c.args.defined.text.now _ l.at _ c.read_line-line.ensures.tells l.above c.args.defined.known.lines c.requires.0.lines l.j l.invariant.reached

pub returns-in_err-check_line : goal.returns-in_err-check_line
unfolding refusal_of text_rows
returns-in_err-check_line c =
    let inv = c.loop-at.invariant in
    let h = err_from_is_err_and c.from_residual.result c.from_residual.ensures.1 in
    let broken = told (goal.at.returns-in_err-check_line c).After-read_line-line c.in_err-check_line.ensures.checks refl in
    record {
      refusal = ended h (sym (first_answer-stop _ _ _ _ inv.passed (sym broken) (reached-line _ _ _ _ inv.reached c.loop-at-test.true)));
      writes = record { size = omega (arith, c.requires.1.size); all = λ e. absurd (not_passed h e) };
    }

-- where the text line passes, the lines that its pins name are found
pub note-requires : goal.note-requires
unfolding refusal_of
note-requires c =
    let l = c.loop-at in
    let checked = c.in_ok-check_line.ensures in
    let passed = sym (told (goal.at.note-requires c).After-read_line-line checked.checks refl) in
    noting c.args.defined.text.now l.j l.at l.above l.invariant.reached c.loop-at-test.true _ c.read_line-line.ensures.next
    _ _ c.read_line-line.ensures.tells c.args.defined.known.lines c.requires.0.lines passed _ (checked.checks.pins refl) _ (omega (arith, c.requires.1.size)) checked.room

-- there are fewer text lines and definitions than bytes
pub overflow_add-above : goal.overflow_add-above
overflow_add-above c =
    let few : c.loop-at.above < length c.args.defined.text.now = omega (arith, c.loop-at-test.true, reached-most _ _ _ _ c.loop-at.invariant.reached) in
    search rules

pub overflow_add-j : goal.overflow_add-j
overflow_add-j c =
    let few : c.loop-at.j < length c.args.defined.text.now = omega (arith, c.loop-at-test.true, reached-least _ _ _ _ c.loop-at.invariant.reached) in
    search rules

-- less of the text is left
pub loop-at-smaller : goal.loop-at-smaller
loop-at-smaller c = less-left _ _ _ c.loop-at-test.true c.read_line-line.ensures.next

pub loop-at-preserved : goal.loop-at-preserved
unfolding refusal_of
loop-at-preserved c =
    let l = c.loop-at in
    let inv = l.invariant in
    let text = c.args.defined.text.now in
    let taken = c.loop-at-test.true in
    let says = c.read_line-line.ensures.tells in
    let next = c.read_line-line.ensures.next in
    let checked = c.in_ok-check_line.ensures.checks in
    let passed = sym (told (goal.at.loop-at-preserved c).After-read_line-line checked refl) in
    let above : c.match-line.above ≡ counted c.read_line-line.result.sort l.above = elim c.match-line.branch [
      | in-Defines w ↦ rw (w.above-is, w.in-Defines.is)
      | in_default w ↦ w.above-is ∙ sym (counted_other c.read_line-line.result.sort l.above w.in_default.not-Defines)
    ] in
    record {
      reached = rw (add-one l.j, above) (reached-next text l.j l.at l.above inv.reached taken _ next _ _ says);
      passed = first_answer-turn _ _ inv.passed passed;
      noted = λ few. rw (add-one l.j, above) (
          noted-next text l.j l.at l.above inv.reached taken _ next _ _ says c.args.defined.known.lines c.requires.0.lines passed _ (checked.pins refl) _ _ c.note.ensures few (inv.noted few));
    }

pub returns : goal.returns
unfolding refusal_of text_rows
returns c =
    let inv = c.loop-at.invariant in
    let end = reached-end _ _ _ _ inv.reached (omega (arith, c.loop-at-test.false)) in
    record {
      refusal = rw end.0 (sym inv.passed);
      writes = record { size = omega (arith, c.requires.1.size); all = λ e few. rw (end.0, ← end.1) (inv.noted few) };
    }
