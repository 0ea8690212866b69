use Rattle.std.proofs.Common.{arith, ap, ◌∙◌}
use Rattle.lists.proofs.Tests.{clash}
use Rattle.take.specs.Take.{with_row}
use Rattle.take.proofs.Table.{lent_row}
use Rattle.take.proofs.Extras.{unknown-row, plain-part}
use Rattle.take.proofs.lane_extra.Goals as goal

pub returns-then-has_lane : goal.returns-then-has_lane
returns-then-has_lane c = record {
  marked = λ e cs es. lent_row c.args.size c.args.r c.args.extras.now _ _ (omega (arith, c.requires.4)) c.one_bit.ensures ∙ ap (λ x. with_row c.args.size c.args.r x c.args.extras.now) (unknown-row cs c.args.size es);
  shown = λ e. clash _ c.if-has_lane.true (c.has_lane.ensures ∙ e);
}

pub returns : goal.returns
returns c = record {
  marked = λ e. clash _ (c.has_lane.ensures ∙ e) c.if-has_lane.false;
  shown = λ e st holds long three.
      lent_row c.args.size c.args.r c.args.extras.now _ _ (omega (arith, c.requires.4)) (c.extra_row.ensures st holds long three)
      ∙ ap (λ x. with_row c.args.size c.args.r x c.args.extras.now) (plain-part c.args.size c.args.u c.args.states.now st c.requires.1);
}
