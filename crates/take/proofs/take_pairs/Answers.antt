use Rattle.std.proofs.Common.{arith}
use Rattle.model.specs.Inputs.{plan_count}
use Rattle.take.proofs.Taken.{taken_none, plan-turn, plan-all}
use Rattle.take.proofs.take_pairs.Goals as goal

pub loop-n-init : goal.loop-n-init
loop-n-init c = record { most = omega arith; taken = λ f ready. taken_none _ _ f _ _ _ _ }

pub loop-n-preserved : goal.loop-n-preserved
loop-n-preserved c = record {
  most = c.take_pair-m.ensures.most;
  taken = λ f ready.
      plan-turn c.args.setup.now.circuit.now c.args.setup.now.test.now f c.args.plan.now c.args.k c.loop-n.n _ _ _ _ _ c.word_at.ensures.0 c.word_at-in-loop-n.ensures.0
      (c.take_pair-m.ensures.next f _ ready (c.loop-n.invariant.taken f ready));
}

pub returns : goal.returns
unfolding plan_count
returns c = record {
  most = c.loop-n.invariant.most;
  pairs = λ f ready. plan-all c.args.setup.now.circuit.now c.args.setup.now.test.now f c.args.plan.now c.args.k c.loop-n.n _ _ _ (omega arith) (c.loop-n.invariant.taken f ready);
}
