use Rattle.unit.proofs.any_gate.Goals as goal

pub returns-then-k-le7 : goal.returns-then-k-le7
returns-then-k-le7 c = λ t f vs s l e. c.and_gate.ensures t f vs (s.free c.if-row-eq0.true) l e
