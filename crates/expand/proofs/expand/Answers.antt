use Rattle.std.proofs.Common.{refl, sym, ◌∙◌, ◌≡◌, ◌*◌, ◌<◌, ◌≤◌, ◌+◌, ℕ, List, cond, arith, ltb, length}
use Rattle.model.specs.Inputs.{F, L, Fault}
use Rattle.job.specs.declared.Job.{Job}
use Rattle.run.specs.Run.{Runnable}
use Rattle.run.proofs.Laws.{runnable-again}
use Rattle.expand.specs.Expand.{Ready, TriedTo}
use Rattle.expand.proofs.Begin.{end-bounds, end_as, product_as, factor-some, tried-to, walk-begun, walk-met, walk-last}
use Rattle.expand.proofs.Steps.{one-only}
use Rattle.expand.proofs.Tries.{pairs_as, room_as, settling_of}
use Rattle.expand.proofs.expand.Goals as goal

-- ---- sizes
module _ {c t : List ℕ} {job : Job} {pins flops outs hits masks feed words state : List ℕ} (run : Runnable c t job pins flops outs hits masks feed words state) where
  total : job.flops * job.units ≡ L c t * F c
  total = product_as _ _ _ _ run.sizes.flops run.sizes.units

  small : (job.flops ≤ 256) × (job.units ≤ 1024)
  small = (omega (arith, run.sizes.flops, run.circuit.flip_flops), omega (arith, run.sizes.units, run.test.most))

  bounds : (left end : ℕ) → end ≡ job.flops * cond (ltb left job.units) (left + 1) job.units → (job.flops ≤ end) × (end ≤ job.flops * job.units)
  bounds left end ends = end-bounds _ _ _ _ (let some : 0 < job.units = omega (arith, run.sizes.units, run.test.some) in some) ends

  -- which pairs are tried
  tries : (free states : List ℕ) (left end : ℕ) → end ≡ job.flops * cond (ltb left job.units) (left + 1) job.units → L c t * F c ≤ length states
      → (f : Fault) → Ready c t free states hits masks left f → TriedTo c t f end states
  tries free states left end ends room f ready = tried-to _ _ f _ _ ready.above room ready.plain run.test.some _ (end_as _ _ _ _ _ _ ends run.sizes.flops run.sizes.units)

  -- a word has a pair, so there are flip-flops
  width : (left end at : ℕ) → end ≡ job.flops * cond (ltb left job.units) (left + 1) job.units → at < end → 0 < job.flops
  width left end at ends below = factor-some job.flops job.units at (omega (arith, below, (bounds left end ends).1))

pub loop-at-init : goal.loop-at-init
loop-at-init c =
    let run = c.requires.0 in
    let ends = bounds run _ _ c.walk_end-end.ensures in record {
      begun = omega arith;
      within = ends.0;
      walked = λ f ready.
          walk-begun _ _ f _ _ _ _ _ run.test ready.fault ready.plain run.sizes.flops (omega (arith, ends.0, ends.1, total run)) (tries run _ _ _ _ c.walk_end-end.ensures c.requires.2 f ready).before (total run) c.requires.2 c.copy_row.ensures;
      met = record { both = λ p h. one-only h refl; opposed = λ p h. one-only h refl };
    }

-- a word is filled: the pairs are pairs of the job
pub fill-batch-requires : goal.fill-batch-requires
fill-batch-requires c =
    let run = c.requires.0 in (
      width run _ _ _ c.walk_end-end.ensures c.loop-at-test.true,
      c.loop-at.invariant.begun,
      c.loop-at-test.true,
      omega (arith, (bounds run _ _ c.walk_end-end.ensures).1, total run, c.requires.2),
      omega (arith, c.requires.4),
    )

pub try_pairs-marks-requires : goal.try_pairs-marks-requires
try_pairs-marks-requires c =
    let run = c.requires.0 in
    let last : c.fill-batch.result.next ≤ L c.args.setup.now.circuit.now c.args.setup.now.test.now * F c.args.setup.now.circuit.now = omega (arith, c.fill-batch.ensures.2, (bounds run _ _ c.walk_end-end.ensures).1, total run) in (
      runnable-again _ _ _ run c.loop-at.auto.feed c.loop-at.auto.words c.loop-at.auto.state,
      pairs_as c.args.setup.now.circuit.now c.args.setup.now.test.now _ _ _ _ _ _ run.sizes.flops (width run _ _ _ c.walk_end-end.ensures c.loop-at-test.true) c.loop-at.invariant.begun last c.fill-batch.ensures.0
          (omega (arith, c.requires.4)),
      c.requires.1,
      c.requires.2,
    )

pub settle-walk-requires : goal.settle-walk-requires
settle-walk-requires c =
    let run = c.requires.0 in
    let fill = c.fill-batch.ensures in
    let last : c.fill-batch.result.next ≤ L c.args.setup.now.circuit.now c.args.setup.now.test.now * F c.args.setup.now.circuit.now = omega (arith, fill.2, (bounds run _ _ c.walk_end-end.ensures).1, total run) in (
      omega (arith, last, c.requires.2),
      omega (arith, fill.0.few, fill.0.all),
      omega (arith, c.requires.4),
      omega (arith, fill.1),
      (λ e h l x.
          let room = room_as c.args.setup.now.circuit.now c.args.setup.now.test.now _ _ _ _ _ _ run.sizes.flops (width run _ _ _ c.walk_end-end.ensures c.loop-at-test.true) c.loop-at.invariant.begun last fill.0 e h l x run.test.most in
          let states = room c.args.states.now c.requires.2 in
          let list = room c.loop-at.list (omega (arith, c.requires.3)) in
          (states.0, states.1, list.1)),
      omega (arith, run.state_room, run.sizes.flops),
      omega (arith, c.requires.5, (small run).0),
    )

pub returns-then-is_some : goal.returns-then-is_some
returns-then-is_some c =
    let run = c.requires.0 in
    let fill = c.fill-batch.ensures in record {
      walked = λ f ready.
          walk-met _ _ f _ _ _ (sym c.is_some.ensures ∙ c.if-is_some.true)
          (c.settle-walk.ensures.walked _ _ f _
          (settling_of _ _ _ _ _ _ _ _ f _ _ _ _ _ _ _ _ run.test ready run.sizes.flops (width run _ _ _ c.walk_end-end.ensures c.loop-at-test.true) c.loop-at.invariant.begun fill.2
          (tries run _ _ _ _ c.walk_end-end.ensures c.requires.2 f ready) fill.0 (omega (arith, c.requires.4)) c.try_pairs-marks.ensures c.next_state.ensures)
          (omega (arith, c.requires.3)) (c.loop-at.invariant.walked f ready));
      met = c.settle-walk.ensures.met _ (omega (arith, fill.2, (bounds run _ _ c.walk_end-end.ensures).1, total run)) c.loop-at.invariant.met;
    }

pub loop-at-preserved : goal.loop-at-preserved
loop-at-preserved c =
    let run = c.requires.0 in
    let fill = c.fill-batch.ensures in record {
      begun = omega (arith, fill.1, c.loop-at.invariant.begun);
      within = fill.2;
      walked = λ f ready.
          c.settle-walk.ensures.walked _ _ f _
          (settling_of _ _ _ _ _ _ _ _ f _ _ _ _ _ _ _ _ run.test ready run.sizes.flops (width run _ _ _ c.walk_end-end.ensures c.loop-at-test.true) c.loop-at.invariant.begun fill.2
          (tries run _ _ _ _ c.walk_end-end.ensures c.requires.2 f ready) fill.0 (omega (arith, c.requires.4)) c.try_pairs-marks.ensures c.next_state.ensures)
          (omega (arith, c.requires.3)) (c.loop-at.invariant.walked f ready);
      met = c.settle-walk.ensures.met _ (omega (arith, fill.2, (bounds run _ _ c.walk_end-end.ensures).1, total run)) c.loop-at.invariant.met;
    }

pub returns : goal.returns
returns c = record {
  walked = λ f ready.
      let here : c.loop-at.at ≡ c.walk_end-end.result = omega (arith, c.loop-at.invariant.within, c.loop-at-test.false) in
      walk-last _ _ f _ _ _ _ _ here (tries c.requires.0 _ _ _ _ c.walk_end-end.ensures c.requires.2 f ready) (c.loop-at.invariant.walked f ready);
  met = c.loop-at.invariant.met;
}
