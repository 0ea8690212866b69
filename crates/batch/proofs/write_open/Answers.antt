use Rattle.std.proofs.Common.{◌≡◌, true, false, refl, arith}
use Rattle.record.proofs.Laws.{records-more, records_stand}
use Rattle.sieve.specs.Sieve.{is_mark}
use Rattle.sieve.proofs.Laws.{mark_true, mark-false}
use Rattle.batch.proofs.Laws.{record-kept}
use Rattle.batch.proofs.write_open.Goals as goal

pub returns-then-res-at-ne0 : goal.returns-then-res-at-ne0
returns-then-res-at-ne0 c =
    let finished : is_mark c.args.res.now c.args.j ≡ false = mark-false _ _ c.if-res-at-ne0.true in record {
      next = rw finished (omega arith);
      records = λ found sieved old r. records_stand r (sieved.at _ (omega arith) (omega arith) finished _ _);
      behind = record { same = refl };
      blank = c.requires.2;
      stands = c.requires.1;
    }

pub grade_fault-verdict-requires : goal.grade_fault-verdict-requires
grade_fault-verdict-requires c =
    let pre = c.requires in
    (pre.0, pre.1, pre.2, pre.3, pre.4, omega (arith, pre.7, pre.5.whole), pre.5.fault _ pre.7, pre.8 (mark_true _ _ c.if-res-at-ne0.false))

pub overflow_add-result : goal.overflow_add-result
overflow_add-result c = omega (arith, c.requires.8 (mark_true _ _ c.if-res-at-ne0.false))

pub returns : goal.returns
returns c =
    let mark : is_mark c.args.res.now c.args.j ≡ true = mark_true _ _ c.if-res-at-ne0.false in
    let done = c.grade_fault-verdict.ensures in record {
      next = rw mark;
      records = λ found sieved old r. records-more _ refl r (done.verdict (found mark)) c.write_record.ensures;
      behind = record-kept _ _ _ _ (omega (arith, c.requires.6, c.requires.7)) c.write_record.ensures;
      blank = done.blank;
      stands = done.stands;
    }
