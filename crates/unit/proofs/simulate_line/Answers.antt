use native.Mathlib.Omega.{arith}
use Rattle.unit.proofs.Laws.{seen-free, behind-gate}
use Rattle.unit.proofs.simulate_line.Goals as goal

pub returns-then-k-ge2 : goal.returns-then-k-ge2
returns-then-k-ge2 c =
    let free = c.if-row-eq0.true in
    record {
      value = c.free_gate.result;
      put = c.store.ensures;
      holds = λ t f ins st vs s li ei ls es h eh.
          seen-free t _ _ _ _ _ f _ 0 s free
          (behind-gate t _ _ _ f ins st vs _ _ c.requires.2 c.if-k-ge2.true (c.free_gate.ensures t f vs (s.free free) h (omega arith)));
    }
