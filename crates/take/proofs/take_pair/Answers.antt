use Rattle.std.proofs.Common.{◌≡◌, Bool, true, List, ℕ, ◌<◌, arith, ◌∙◌}
use Rattle.model.specs.Inputs.{F, L}
use Rattle.job.specs.declared.Job.{Job}
use Rattle.run.specs.Run.{Runnable}
use Rattle.take.specs.Take.{may_take}
use Rattle.take.proofs.Table.{long_as, row_as, row_room, pair-room}
use Rattle.take.proofs.Tests.{may_as, may_names}
use Rattle.take.proofs.Step.{step-passed, step_touched, step-taken}
use Rattle.take.proofs.take_pair.Goals as goal

-- the answer of the tests that need no trial
module _ {c t : List ℕ} {job : Job} {pins flops outs hits masks feed words state : List ℕ} (run : Runnable c t job pins flops outs hits masks feed words state)
    (m k u i left : ℕ) (list : List ℕ) {r : Bool} (said : r ≡ may_take m k u job.units i job.flops left list) where
  may : may_take m k u (L c t) i (F c) left list ≡ r
  may = may_as c t _ _ _ _ _ _ _ _ _ run.sizes.units run.sizes.flops said

  names : r ≡ true → (m < k) × (u < L c t) × (i < F c)
  names h = may_names _ _ _ _ _ _ _ _ (may ∙ h)

pub returns-then-not-may_take : goal.returns-then-not-may_take
returns-then-not-may_take c = record {
  most = c.requires.4;
  next = λ f pairs ready old.
      step-passed c.args.setup.now.circuit.now c.args.setup.now.test.now f _ _ _ _ _ _ _ _ _ _ c.args.setup.now.job.flops pairs _ _ ready c.requires.3 old
      (may c.requires.0 _ _ _ _ _ _ c.may_take.ensures ∙ c.if-not-may_take.true);
}

pub make_extras-requires : goal.make_extras-requires
make_extras-requires c =
    let pre = c.requires in
    let named = names pre.0 _ _ _ _ _ _ c.may_take.ensures c.if-not-may_take.false in
    let few : c.args.m < 12 = omega (arith, named.0, pre.5) in
    (pre.0, pre.1, pre.2, named.1, named.2, few, pair-room _ _ _ few pre.7)

pub touches-requires : goal.touches-requires
touches-requires c =
    let pre = c.requires in
    let run = pre.0 in
    let named = names run _ _ _ _ _ _ c.may_take.ensures c.if-not-may_take.false in
    let few : c.args.m < 12 = omega (arith, named.0, pre.5) in (
      few,
      omega (arith, few, pre.6),
      row_room _ _ _ _ _ run.sizes.flops named.1 pre.3,
      row_as _ _ _ _ run.sizes.flops (long_as _ _ _ c.make_extras.auto.extras (pair-room _ _ _ few pre.7)),
    )

pub returns-then-touches : goal.returns-then-touches
returns-then-touches c =
    let pre = c.requires in
    let named = names pre.0 _ _ _ _ _ _ c.may_take.ensures c.if-not-may_take.false in
    let few : c.args.m < 12 = omega (arith, named.0, pre.5) in record {
      most = pre.4;
      next = λ f pairs ready old.
          step_touched c.args.setup.now.circuit.now c.args.setup.now.test.now f _ _ _ _ _ _ _ _ _ _ _ pairs _ _ ready pre.3 old _ _ (pair-room _ _ _ few pre.7) pre.0.sizes.flops named.1 c.make_extras.ensures
          c.touches.ensures c.if-touches.true;
    }

pub bounds-times-m : goal.bounds-times-m
bounds-times-m c = let named = names c.requires.0 _ _ _ _ _ _ c.may_take.ensures c.if-not-may_take.false in omega (arith, named.0, c.requires.5, c.requires.6)

pub returns : goal.returns
returns c =
    let pre = c.requires in
    let allowed = c.if-not-may_take.false in
    let named = names pre.0 _ _ _ _ _ _ c.may_take.ensures allowed in
    let few : c.args.m < 12 = omega (arith, named.0, pre.5) in record {
      most = omega (arith, named.0);
      next = λ f pairs ready old.
          step-taken c.args.setup.now.circuit.now c.args.setup.now.test.now f _ _ _ _ _ _ _ _ _ _ _ pairs _ _ ready pre.3 old _ _ (pair-room _ _ _ few pre.7) pre.0.sizes.flops named.1 c.make_extras.ensures
          c.touches.ensures (may pre.0 _ _ _ _ _ _ c.may_take.ensures ∙ allowed) c.if-touches.false (omega (arith, few, pre.6));
    }
