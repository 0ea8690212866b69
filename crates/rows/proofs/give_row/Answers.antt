use mathlib.Core.Path.{◌≡◌, refl, sym, ap, ◌∙◌}
use Prim.Native.Nat.{◌<◌}
use lib.ListN.{get_or, length, take}
use lib.Seq.{length-take-le}
use native.Mathlib.Omega.{arith}
use Rattle.lists.specs.Field.{overwritten}
use Rattle.lists.proofs.Field.{row_more, row-all, overwritten-behind}
use Rattle.model.specs.Values.{some_oppose}
use Rattle.rows.proofs.Turns.{opposing_more, filled, filled_at, filled-given, filled-long}
use Rattle.rows.proofs.give_row.Goals as goal

pub loop-s-init : goal.loop-s-init
unfolding overwritten some_oppose
loop-s-init c = (refl, refl)

pub loop-s-preserved : goal.loop-s-preserved
loop-s-preserved c =
    let loop = c.loop-s in
    let row = c.args.row.now in
    let extra = c.args.extra.now in
    let count = c.args.count in
    let below : loop.s < count = c.loop-s-test.true in
    let long : length (filled (take count row) (take count extra)) ≡ count = filled-long row extra count c.requires.1 in
    let kept : get_or loop.row loop.s 0 ≡ get_or row loop.s 0 = overwritten-behind _ row _ _ 0 (length-take-le _ _ (omega (arith, long, below))) loop.invariant.1 in (
      opposing_more row extra loop.s loop.found _ (omega (arith, below, c.requires.1)) (omega (arith, below, c.requires.0)) (c.opposing-found.ensures ∙ rw kept) loop.invariant.0,
      row_more (filled (take count row) (take count extra)) _ _ _ _ _ 0 refl (filled_at row extra count _ _ _ _ below c.requires.1 c.requires.0 kept refl c.if_x.ensures) (rw long below) (omega (arith, below, c.requires.1)) loop.invariant.1,
    )

pub returns : goal.returns
returns c =
    let loop = c.loop-s in
    let row = c.args.row.now in
    let extra = c.args.extra.now in
    let count = c.args.count in
    let end : loop.s ≡ count = omega arith in
    let found : loop.found ≡ some_oppose (take count row) (take count extra) = loop.invariant.0 ∙ ap (λ n. some_oppose (take n row) (take n extra)) end in (
      found,
      λ none three new.
          row-all (filled (take count row) (take count extra)) row _ loop.s (end ∙ sym (filled-long row extra count c.requires.1)) loop.invariant.1
          ∙ ap (λ x. overwritten x row) (filled-given (take count row) (take count extra) three new (sym found ∙ none)),
    )
