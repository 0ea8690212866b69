use Rattle.std.proofs.Common.{◌≡◌, List, ℕ, ◌*◌, ◌<◌, ◌≤◌, arith}
use Rattle.model.specs.Inputs.{F, L}
use Rattle.job.specs.declared.Job.{Job}
use Rattle.run.specs.Run.{Runnable}
use Rattle.run.proofs.Laws.{runnable-again}
use Rattle.expand.proofs.Begin.{product_as, factor-some}
use Rattle.expand.proofs.Tries.{pairs_as}
use Rattle.weigh.proofs.Laws.{unit-rows, entries-join, weighing_again, word_as}
use Rattle.weigh.proofs.weigh.Goals as goal

-- a position before `to` is a pair's, so there is a flip-flop
width : {c t : List ℕ} {job : Job} {pins flops outs hits masks feed words state : List ℕ} → Runnable c t job pins flops outs hits masks feed words state → (at to : ℕ)
    → at < to → to ≤ L c t * F c → 0 < job.flops
width {job = job} run at to below last = factor-some job.flops job.units at (omega (arith, below, last, product_as _ _ _ _ run.sizes.flops run.sizes.units))

pub try_pairs-marks-requires : goal.try_pairs-marks-requires
try_pairs-marks-requires c =
    let run = c.requires.0 in
    let begin = c.loop-at.invariant.begin in
    let fill = c.fill-batch.ensures in (
      runnable-again _ _ _ run c.loop-at.auto.feed c.loop-at.auto.words c.loop-at.auto.state,
      pairs_as c.args.setup.now.circuit.now c.args.setup.now.test.now _ _ _ _ _ _ run.sizes.flops (width run _ _ c.loop-at-test.true c.requires.2)
          (omega (arith, begin, c.weigh_start-at.ensures.unit (omega (arith, begin, c.loop-at-test.true)))) (omega (arith, fill.2, c.requires.2)) fill.0 (omega arith),
      c.requires.5,
      c.requires.6.room,
    )

pub weigh_word-requires : goal.weigh_word-requires
weigh_word-requires c =
    let run = c.requires.0 in
    let fill = c.fill-batch.ensures in
    let some = width run _ _ c.loop-at-test.true c.requires.2 in
    let last : c.fill-batch.result.next ≤ L c.args.setup.now.circuit.now c.args.setup.now.test.now * F c.args.setup.now.circuit.now = omega (arith, fill.2, c.requires.2) in (
      some,
      omega (arith, fill.1),
      unit-rows _ _ run.sizes.flops some last c.requires.6,
      unit-rows _ _ run.sizes.flops some last c.requires.7,
      omega (arith, run.sizes.flops, run.state_room),
      omega (arith, fill.0.few, fill.0.all),
      c.requires.3,
      omega (arith, run.sizes.flops, c.requires.8),
      omega (arith, fill.2, c.requires.4),
    )

pub loop-at-preserved : goal.loop-at-preserved
loop-at-preserved c =
    let run = c.requires.0 in
    let inv = c.loop-at.invariant in
    let fill = c.fill-batch.ensures in
    let begun : c.args.setup.now.job.flops ≤ c.loop-at.at = omega (arith, inv.begin, c.weigh_start-at.ensures.unit (omega (arith, inv.begin, c.loop-at-test.true))) in record {
      begin = omega (arith, inv.begin, fill.1);
      within = fill.2;
      entries = λ f pairs stop left ready w last.
          let old = inv.entries f pairs stop left ready w last in
          entries-join _ _ f pairs _ _ old
          (c.weigh_word.ensures.entries _ _ f pairs stop (weighing_again w run.sizes.flops old.taken)
          (word_as _ _ f _ _ _ _ _ _ _ _ _ _ _ _ _ run.sizes.flops (width run _ _ c.loop-at-test.true c.requires.2) begun (omega (arith, fill.2, c.requires.2)) fill.0 (omega arith) ready.stuck ready.plain ready.frees
          c.try_pairs-marks.ensures c.next_state.ensures)
          (omega (arith, begun, run.sizes.flops)) (omega (arith, fill.2, last)))
          inv.begin (omega (arith, fill.1)) c.loop-at.auto.table
          (omega (arith, fill.2, c.requires.4));
    }

pub returns : goal.returns
returns c = record {
  entries = λ f pairs stop left ready w last.
      let end : c.loop-at.at ≡ c.args.to = omega (arith, c.loop-at.invariant.within, c.loop-at-test.false) in
      let old = c.weigh_start-at.ensures.entries _ _ f pairs stop _ (weighing_again w c.requires.0.sizes.flops w.taken) last in
      rw (← end)
      (entries-join _ _ f pairs _ _ old (c.loop-at.invariant.entries f pairs stop left ready (weighing_again w w.width old.taken) last)
      c.weigh_start-at.ensures.begin c.loop-at.invariant.begin c.weigh_start-at.auto.table (omega (arith, end, c.requires.4)));
}
