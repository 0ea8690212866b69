use Rattle.std.proofs.Common.{◌≡◌, ◌/◌, ◌%◌, ◌<◌, arith, refl, sym}
use native.Mathlib.Nat.{div-eq_of_lt, mod-eq_of_lt}
use Rattle.model.specs.Inputs.{F}
use Rattle.take.proofs.Table.{pair-room, row_as}
use Rattle.take.proofs.Extras.{first_made}
use Rattle.best.specs.Weights.{weight_bytes}
use Rattle.weigh.proofs.Laws.{byte-known, byte-unknown, known_at, candidate_at, entry_at, entry-passed}
use Rattle.weigh.proofs.weigh_first.Goals as goal

pub returns-then-list-i-ne2 : goal.returns-then-list-i-ne2
unfolding weight_bytes
returns-then-list-i-ne2 c = record {
  entry = λ cs ts f pairs stop states w inside.
      entry-passed c.args.i c.args.table.now _ (omega (arith, c.requires.5)) w.taken
      (known_at w (omega (arith, c.requires.1, w.width)) c.args.i inside (byte-known _ _ c.if-list-i-ne2.true)) c.put_two.ensures;
}

pub returns : goal.returns
returns c = record {
  entry = λ cs ts f pairs stop states w inside.
      let low : c.args.i < F cs = omega (arith, c.requires.1, w.width) in
      let unit : c.args.i / F cs ≡ 0 = div-eq_of_lt low in
      let place : c.args.i % F cs ≡ c.args.i = mod-eq_of_lt low in
      entry_at w (row_as _ _ _ _ (sym w.width) (pair-room c.args.count c.args.m _ c.requires.3 c.requires.4)) c.args.i
      (candidate_at w (omega (arith, c.requires.1, w.width)) c.args.i inside (byte-unknown _ _ c.if-list-i-ne2.false)) _
      (rw (unit, place) (first_made cs ts f _ 0 c.args.i c.args.m _ _ w.width refl c.first_extras.ensures))
      0 c.args.table.now _ (sym unit) (omega (arith, c.requires.5)) c.enter.ensures;
}
