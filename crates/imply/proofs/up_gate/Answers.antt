use native.Mathlib.Omega.{arith}
use Rattle.model.specs.Values.{X}
use Rattle.lanes.proofs.Laws.{shows-x}
use Rattle.imply.proofs.Steps.{up-given}
use Rattle.imply.proofs.up_gate.Goals as goal

pub returns : goal.returns
returns c =
    let gate-at = c.requires.0 in
    record {
      lane = λ t f vs s e h.
          up-given t _ f vs _ _ _ _ c.unless-x.result _ _ s.binary gate-at.kind gate-at.gate
          (omega (arith, gate-at.line, e)) (omega (arith, gate-at.line, gate-at.room)) h
          (λ none.
          c.unless-x.ensures t _ _ (c.any_gate.ensures t f vs s (h.holds none) (omega (arith, gate-at.line, e)))
          (c.seen_at-fixed.ensures t f _ X s (shows-x t X (omega arith))))
          c.read.ensures (c.give-y.ensures.0 t) (c.give-y.ensures.1 t) c.store.ensures;
    }
