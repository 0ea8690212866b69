use native.Mathlib.Omega.{arith}
use mathlib.Core.Path.{refl}
use Rattle.starts.proofs.Laws.{shifted-count, none_yet, block_none, block_found}
use Rattle.starts.proofs.lowest_never.Goals as goal

pub loop-base-init : goal.loop-base-init
loop-base-init c = (refl, λ f stuck rows. none_yet _ _)

pub returns-in-Some : goal.returns-in-Some
returns-in-Some c =
    let starts = shifted-count _ _ c.requires.0.sizes.flops c.requires.1 in
    record {
      lowest = λ f stuck rows.
          rw (← starts.all)
          (block_found _ _ _ _ c.loop-base-test.true (λ t h. c.never_differing-never.ensures t f (stuck t h) rows) (c.loop-base.invariant.1 f stuck rows) _ c.in-Some.ensures.0);
      most = omega (arith, starts.most, c.loop-base-test.true, c.loop-base.invariant.0, c.in-Some.ensures.1);
    }

pub loop-base-preserved : goal.loop-base-preserved
loop-base-preserved c = (
  omega (arith, c.loop-base.invariant.0),
  λ f stuck rows.
      block_none _ _ _ _ c.loop-base-test.true (λ t h. c.never_differing-never.ensures t f (stuck t h) rows) (c.loop-base.invariant.1 f stuck rows) c.in_default.ensures,
)

pub returns : goal.returns
returns c =
    let starts = shifted-count _ _ c.requires.0.sizes.flops c.requires.1 in
    record {
      lowest = λ f stuck rows. rw (← starts.all) (c.loop-base.invariant.1 f stuck rows _ (omega (arith, c.loop-base-test.false)) (omega arith));
      most = tt;
    }

pub returns-in_default : goal.returns-in_default
returns-in_default c =
    let starts = shifted-count _ _ c.requires.0.sizes.flops c.requires.1 in
    record {
      lowest = λ f stuck rows.
          rw (← starts.all)
          (block_none _ _ _ _ c.loop-base-test.true (λ t h. c.never_differing-never.ensures t f (stuck t h) rows) (c.loop-base.invariant.1 f stuck rows) c.in_default.ensures _ (omega arith) (omega arith));
      most = tt;
    }
