use Rattle.std.proofs.Common.{◌≡◌, false, arith, refl, sym, ◌∙◌}
use Rattle.lanes.specs.Lane.{bit}
use Rattle.stages.proofs.Laws.{before_5, graded-before}
use Rattle.places.proofs.Laws.{graded_1, open_first, none_left}
use Rattle.decide.proofs.grade_fault.Goals as goal

pub returns-then-has_lane : goal.returns-then-has_lane
returns-then-has_lane c = record {
  verdict = λ known. c.placed.ensures ∙ graded_1 known (omega arith) (sym c.has_lane.ensures ∙ c.if-has_lane.true) _ _;
  blank = c.requires.2;
  stands = c.requires.1;
}

pub returns-then-not-has_lane : goal.returns-then-not-has_lane
returns-then-not-has_lane c =
    let g = c.requires.0.tabled in
    let unplaced : bit c.args.lane c.args.firsts.now.found ≡ false = sym c.has_lane.ensures ∙ c.if-has_lane.false in record {
      verdict = λ known.
          c.placed-then-not-has_lane.ensures
          ∙ sym (graded-before _ _ _ _ _ _ (before_5 _ _ _ (open_first known refl unplaced) g.circuit g.test c.requires.6
          (none_left known refl unplaced (sym c.has_lane-2.ensures ∙ c.if-not-has_lane.true))));
      blank = c.requires.2;
      stands = c.requires.1;
    }

pub returns : goal.returns
returns c =
    let unplaced : bit c.args.lane c.args.firsts.now.found ≡ false = sym c.has_lane.ensures ∙ c.if-has_lane.false in
    let done = c.settle.ensures in record {
      verdict = λ known. done.verdict (open_first known refl unplaced);
      blank = done.blank;
      stands = done.stands;
    }
