use Rattle.std.proofs.Common.{refl, sym, arith, ◌∙◌}
use Rattle.record.proofs.Laws.{records_as, records-more}
use Rattle.sieve.proofs.write_early.Goals as goal

pub loop-lane-preserved : goal.loop-lane-preserved
loop-lane-preserved c = λ v known old r.
    let same = c.early_verdict-verdict.ensures ∙ sym (known c.loop-lane.lane c.loop-lane-test.true) in
    records_as (omega arith) (records-more _ refl (c.loop-lane.invariant v known old r) same c.write_record.ensures)
