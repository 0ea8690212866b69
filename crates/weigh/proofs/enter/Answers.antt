use Rattle.std.proofs.Common.{◌≡◌, min, max, rules, ap, ◌∙◌}
use Rattle.lists.specs.Field.{overwritten}
use Rattle.model.specs.Choose.{size}
use Rattle.best.specs.Weights.{weight_bytes}
use Rattle.weigh.proofs.Laws.{entry_touched, entry_free}
use Rattle.weigh.proofs.enter.Goals as goal

pub returns-then-touches : goal.returns-then-touches
unfolding weight_bytes
returns-then-touches c = record {
  is = λ cs ts f pairs i width candidate taken row low high.
      c.put_two.ensures ∙ ap (λ x. overwritten x c.args.entry.now)
      (entry_touched cs ts f pairs _ i candidate _ (c.touches.ensures.is cs ts f pairs _ _ width taken row low high) c.if-touches.true);
}

pub returns : goal.returns
unfolding weight_bytes
returns c =
    let small : c.min.result ≡ min c.row_size-zero.result c.row_size-one.result = search rules in
    let large : c.max.result ≡ max c.row_size-zero.result c.row_size-one.result = search rules in record {
      is = λ cs ts f pairs i width candidate taken row low-is high_is.
          c.put_two-2.ensures ∙ ap (λ x. overwritten x c.args.entry.now)
          (entry_free cs ts f pairs _ i candidate _ (c.touches.ensures.is cs ts f pairs _ _ width taken row low-is high_is) c.if-touches.false
          _ _ _ _ (c.row_size-zero.ensures.0 ∙ ap size low-is) (c.row_size-one.ensures.0 ∙ ap size high_is) small large);
    }
