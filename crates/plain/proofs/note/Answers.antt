use Rattle.plain.proofs.Noted.{none_noted, noted-all}
use Rattle.plain.proofs.note.Goals as goal

pub returns-then-new-eq0 : goal.returns-then-new-eq0
returns-then-new-eq0 c = rw c.if-new-eq0.true (none_noted _ _ _ _)

pub returns : goal.returns
returns c = noted-all _ _ _ _ _ _ _ _ c.loop-t.invariant c.loop-t-test.false
