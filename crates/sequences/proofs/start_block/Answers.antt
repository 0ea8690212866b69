use mathlib.Core.Path.{◌≡◌}
use Prim.Native.Nat.{◌+◌}
use native.Mathlib.Omega.{arith}
use lib.ListN.{length}
use Rattle.model.specs.Inputs.{F}
use Rattle.model.specs.Simulation.{power_up}
use Rattle.model.specs.Expansion.{state_row}
use Rattle.lanes.proofs.Follows.{follows-start}
use Rattle.run.proofs.Laws.{length-power_up}
use Rattle.sequences.proofs.Lists.{length-states, length_sequence}
use Rattle.sequences.proofs.Units.{started, clear-power_up}
use Rattle.sequences.proofs.start_block.Goals as goal

pub returns : goal.returns
returns c =
    let cs = c.args.c.now in
    record {
      lane = λ ts f pairs lane lists some h.
          let clear = lists.clear (c.args.base + lane) 0 some in
          let size : length (state_row cs ts f 0) ≡ F cs = length-states cs ts f _ 0 lists.states some (omega (arith, c.requires.0, c.requires.5)) in
          started cs ts f pairs _ lane _ (length_sequence cs ts f pairs _ 0 (F cs) size) clear
          (c.give_list.ensures.lane cs ts f pairs lane (power_up cs) c.requires.0 lists.taken h (length-power_up cs) (lists.states.at 0 some) clear
          (follows-start lane _ (power_up cs) (clear-power_up cs) (c.power_up.ensures lane)));
    }
