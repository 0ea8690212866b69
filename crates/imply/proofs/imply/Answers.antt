use mathlib.Core.Path.{sym, ◌∙◌}
use Rattle.imply.proofs.Steps.{length-down, length_up}
use Rattle.imply.proofs.imply.Goals as goal

pub returns : goal.returns
returns c =
    let pre = c.requires in
    record {
      lane = λ t f vs s e h.
          let size = length-down _ f _ vs ∙ e in
          let passed = c.up_pass.ensures.lane t f _ s size (c.down_pass.ensures.lane t f vs s e h) in
          (passed, c.conflicts.ensures t _ (length_up _ f _ _ ∙ size ∙ sym pre.0.size) passed);
    }
