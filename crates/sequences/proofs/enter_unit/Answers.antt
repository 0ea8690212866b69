use mathlib.Core.Path.{sym, ◌∙◌}
use Prim.Native.Nat.{◌<◌}
use native.Mathlib.Omega.{arith}
use Rattle.model.specs.Inputs.{L}
use Rattle.lanes.proofs.Follows.{follows-start}
use Rattle.sequences.proofs.Units.{entered-end, entered-list}
use Rattle.sequences.proofs.enter_unit.Goals as goal

pub returns-then-u-units : goal.returns-then-u-units
returns-then-u-units c = record { lane = λ cs ts f pairs lane vs e same lists h long clear old. entered-end cs ts f pairs _ lane _ _ vs (omega (arith, same, c.if-u-units.true)) clear old }

pub returns : goal.returns
returns c =
    record {
      lane = λ cs ts f pairs lane vs e same lists h long clear old.
          let below : c.args.u < L cs ts = omega (arith, same, c.if-u-units.false) in
          entered-list cs ts f pairs _ lane _ c.args.u vs _ below (λ now size follows. c.conflicts.ensures lane now (size ∙ long ∙ sym e) follows)
          (c.give_list.ensures.lane cs ts f pairs lane vs e lists.taken h long (lists.states.at c.args.u below) (lists.clear _ c.args.u below) (follows-start lane _ vs clear old));
    }
