use mathlib.Core.Path.{◌≡◌, sym, ap, ◌∙◌}
use lib.ListN.{length}
use Rattle.lists.proofs.Field.{part-row}
use Rattle.model.specs.Inputs.{F}
use Rattle.model.specs.Expansion.{state_row}
use Rattle.sequences.proofs.Lists.{length_part, state-clear}
use Rattle.sequences.proofs.give_list.Goals as goal

pub returns : goal.returns
returns c =
    let list = c.args.list.now in
    let u = c.args.u in
    record {
      lane = λ cs ts f pairs lane vs e taken h long row_is clear old.
          let part = sym row_is ∙ sym (part-row list c.args.count (F cs) u e) in
          let size : length (state_row cs ts f u) ≡ F cs = ap length part ∙ length_part c.args.count u list c.requires.5 ∙ e in
          c.give_pairs.ensures.lane cs ts f pairs lane vs e taken h long size clear
          (c.give_row.ensures lane vs (state_row cs ts f u) h (long ∙ sym e) (state-clear cs ts f pairs _ u clear) (λ _. part) (λ _. part) old);
    }
