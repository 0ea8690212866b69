use native.Mathlib.Omega.{arith}
use Rattle.lanes.proofs.Laws.{with_0, with_1}
use Rattle.lanes.proofs.Lanes.with.Goals as goal

pub returns-then-v-eq0 : goal.returns-then-v-eq0
returns-then-v-eq0 c = λ s w hs h g. with_0 s _ _ _ w _ hs (omega arith) h g (omega arith)

pub returns-else-v-eq0 : goal.returns-else-v-eq0
returns-else-v-eq0 c = λ s w hs h g. with_1 s _ _ _ w _ hs (omega arith) h g (omega arith)
