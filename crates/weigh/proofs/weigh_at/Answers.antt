use Rattle.std.proofs.Common.{◌+◌, ◌*◌, ◌/◌, ◌<◌, arith, ap, sym}
use Rattle.model.specs.Inputs.{F}
use Rattle.take.proofs.Table.{pair-room, row_before, row_as}
use Rattle.best.specs.Weights.{weight_bytes}
use Rattle.weigh.proofs.Laws.{byte-known, byte-unknown, known_at, candidate_at, pair-extras, entry_at, entry-passed}
use Rattle.weigh.proofs.weigh_at.Goals as goal

pub returns-then-list-e-ne2 : goal.returns-then-list-e-ne2
unfolding weight_bytes
returns-then-list-e-ne2 c = record {
  entry = λ cs ts f pairs stop at next w word first h l last p.
      entry-passed c.args.e c.args.table.now _ (omega (arith, c.requires.7)) w.taken
      (known_at w (omega (arith, c.requires.0, w.width)) c.args.e (omega (arith, l, last)) (byte-known _ _ c.if-list-e-ne2.true)) c.put_two.ensures;
}

pub overflow_mul-p : goal.overflow_mul-p
overflow_mul-p c = omega (arith, c.requires.4 (byte-unknown _ _ c.if-list-e-ne2.false))

pub lane_extra-requires : goal.lane_extra-requires
lane_extra-requires c = (
  c.requires.0,
  omega (arith, c.requires.1, c.requires.2),
  c.requires.3,
  omega (arith, c.requires.4 (byte-unknown _ _ c.if-list-e-ne2.false)),
  row_before c.args.count (2 * c.args.m) (2 * c.args.m + 1) _ (omega arith) (pair-room c.args.count c.args.m _ c.requires.5 c.requires.6),
)

pub overflow_mul-p-2 : goal.overflow_mul-p-2
overflow_mul-p-2 c = omega (arith, c.requires.4 (byte-unknown _ _ c.if-list-e-ne2.false))

pub overflow_add-p : goal.overflow_add-p
overflow_add-p c = omega (arith, c.requires.4 (byte-unknown _ _ c.if-list-e-ne2.false))

pub lane_extra-requires-2 : goal.lane_extra-requires-2
lane_extra-requires-2 c = (
  c.requires.0,
  omega (arith, c.requires.1, c.requires.2),
  c.requires.3,
  omega (arith, c.requires.4 (byte-unknown _ _ c.if-list-e-ne2.false)),
  omega (arith, pair-room c.args.count c.args.m _ c.requires.5 c.requires.6, c.lane_extra.auto.extras),
)

pub returns : goal.returns
returns c = record {
  entry = λ cs ts f pairs stop first-at next w word first h l last p.
      let some : 0 < F cs = omega (arith, c.requires.0, w.width) in
      let inside : c.args.e < stop = omega (arith, l, last) in
      let unknown-here = byte-unknown _ _ c.if-list-e-ne2.false in
      entry_at w (row_as _ _ _ _ (sym w.width) (pair-room c.args.count c.args.m _ c.requires.5 c.requires.6)) c.args.e (candidate_at w some c.args.e inside unknown-here) _
      (pair-extras w some first-at next _ _ word first c.args.e h l inside unknown-here c.args.p _ _ p c.lane_extra.ensures c.lane_extra-2.ensures)
      (c.args.e / c.args.count) c.args.table.now _ (ap (λ n. c.args.e / n) w.width) (omega (arith, c.requires.7)) c.enter.ensures;
}
