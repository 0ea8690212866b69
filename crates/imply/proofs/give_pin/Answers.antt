use mathlib.Core.Path.{ap, ◌∙◌}
use native.Mathlib.Omega.{arith}
use Rattle.model.specs.Values.{X}
use Rattle.model.specs.Simulation.{is_stuck}
use Rattle.lanes.specs.Lane.{lanes_at}
use Rattle.lanes.proofs.Laws.{shows-x, lane-read}
use Rattle.lanes.proofs.Follows.{clear_at, conflict_as}
use Rattle.imply.proofs.Pins.{stuck-known, follows-unless, unless-three}
use Rattle.imply.proofs.give_pin.Goals as goal

pub returns : goal.returns
returns c = λ t f vs v s inside few given old.
    let stuck = is_stuck f c.args.n c.args.p in
    let line = c.pin_of-m.ensures.0 in
    let give = c.give-y.ensures in
    let held = c.seen_at.ensures t f _ X s (shows-x t X (omega arith)) in
    follows-unless t _ _ vs _ _ v stuck _ old inside c.requires.5
    (λ e. (
      few,
      give.0 t _ _ (clear_at vs _ e) (unless-three stuck v few) (lane-read t _ vs _ _ _ c.read.ensures line (old.holds e) inside)
          (rw (stuck-known f _ _ s.binary) at (c.unless-told.ensures t v _ (given e) held)),
    ))
    (λ k. give.1 t (conflict_as t _ _ (c.read.ensures ∙ ap (lanes_at _) line) k)) line c.store.ensures
