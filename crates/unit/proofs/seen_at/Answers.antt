use native.Mathlib.Omega.{arith}
use Rattle.lanes.proofs.Laws.{holds_as}
use Rattle.unit.proofs.Laws.{seen-free, seen-held}
use Rattle.unit.proofs.seen_at.Goals as goal

pub returns-then-row-eq0 : goal.returns-then-row-eq0
returns-then-row-eq0 c = λ t f n v s h. seen-free t _ _ v _ _ f n _ s c.if-row-eq0.true h

pub returns : goal.returns
returns c = λ t f n v s h.
    seen-held t _ _ v _ _ f n _ s c.if-row-eq0.false (omega arith)
    (λ hit w l m. c.stuck.ensures t v hit w l (holds_as t _ _ _ c.read.ensures m) h)
