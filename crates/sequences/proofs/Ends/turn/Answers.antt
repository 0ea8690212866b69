use mathlib.Core.Bool.{◌||◌, ◌&&◌}
use mathlib.Core.Path.{ap, ◌∙◌}
use Rattle.lanes.proofs.Bits.{bit-and, bit-or}
use Rattle.lanes.specs.Lane.{bit}
use Rattle.sequences.proofs.Ends.turn.Goals as goal

pub returns : goal.returns
returns c = λ lane.
    let ends = c.args.self in
    let left = c.take_out-left in
    record {
      differing = bit-or lane ends.differing _ ∙ rw (bit-and lane ends.surviving _);
      clashing = bit-or lane ends.clashing _ ∙ ap (λ x. bit lane ends.clashing || x) (bit-and lane _ c.args.conflicts ∙ ap (λ x. x && bit lane c.args.conflicts) (left.ensures lane));
      surviving = c.take_out.ensures lane ∙ rw (left.ensures lane);
    }
