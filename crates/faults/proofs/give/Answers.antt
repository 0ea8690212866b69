use native.Mathlib.Omega.{arith}
use Rattle.lanes.proofs.Laws.{holds_as}
use Rattle.faults.proofs.Laws.{Rowed, rowed_now, rowed_before, lane-given}
use Rattle.faults.proofs.give.Goals.{After-from, then-hits-line-eq0, else-hits-line-eq0}
use Rattle.faults.proofs.give.Goals as goal

-- past the branch the line has a row
with_row : (c : After-from) → Rowed c.args.t c.args.hits.now c.if-hits-line-eq0.hits c.args.masks.now c.args.line
with_row c =
    elim c.if-hits-line-eq0.branch [
      | then-hits-line-eq0 w ↦ rowed_now _ _ _ (omega arith) w.hits-is w.if-hits-line-eq0.true
      | else-hits-line-eq0 w ↦ rowed_before w.hits-is w.if-hits-line-eq0.false
    ]

pub returns : goal.returns
returns c =
    let row = with_row (goal.at.returns c).After-from in
    let pre = c.requires in (
      row.kept,
      lane-given _ row pre.0 pre.1 pre.2 pre.3 pre.4 pre.5 c.from.ensures c.store.ensures
          (λ s w hs h g. c.with.ensures s w hs (holds_as s _ _ _ c.read-x.ensures h) g),
    )
