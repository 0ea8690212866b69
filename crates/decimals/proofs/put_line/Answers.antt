use mathlib.Core.Path.{◌≡◌}
use mathlib.Core.List.{List}
use Prim.Native.Nat.{ℕ, ◌+◌, ◌-◌, ◌<◌}
use native.Mathlib.Omega.{arith}
use lib.ListN.{length, get_or, take}
use lib.Seq.{get_or-take}
use Rattle.std.proofs.Common.{length-take}
use Rattle.decimals.proofs.Laws.{line-more, length-line-more, line-last, length-line-last, field_end, completes_more}
use Rattle.decimals.proofs.put_line.Goals as goal

-- a number before the last
module _ (xs : List ℕ) (i : ℕ) (h : i < length (take (length xs - 1) xs)) where
  before : i + 1 < length xs
  before = omega (arith, length-take (length xs - 1) xs)

  same : get_or (take (length xs - 1) xs) i 0 ≡ get_or xs i 0
  same = get_or-take (length xs - 1) xs i 0 (omega (arith, length-take (length xs - 1) xs))

pub put_field-at-requires : goal.put_field-at-requires
put_field-at-requires c =
    let xs = c.args.fields.now in
    let i = c.loop-n.n-index in
    let inside = c.loop-n-test.true in
    rw (same xs i inside) (omega (arith, c.loop-n.invariant.room, length-line-more xs i (before xs i inside)))

pub loop-n-preserved : goal.loop-n-preserved
loop-n-preserved c =
    let xs = c.args.fields.now in
    let i = c.loop-n.n-index in
    let inside = c.loop-n-test.true in
    let more = before xs i inside in
    let field = rw (same xs i inside) at c.put_field-at.ensures in
    record {
      room = omega (arith, c.loop-n.invariant.room, length-line-more xs i more, field_end (get_or xs i 0) 32 field, c.put_field-at.auto.out);
      completes = completes_more (line-more xs i more) c.loop-n.invariant.completes field;
    }

-- behind the loop
at_last : (xs : List ℕ) (i : ℕ) → 0 < length xs → i ≡ length (take (length xs - 1) xs) → i ≡ length xs - 1
at_last xs i h e = omega (arith, length-take (length xs - 1) xs)

pub put_field-requires : goal.put_field-requires
put_field-requires c =
    let xs = c.args.fields.now in
    let end = at_last xs c.loop-n.n-index c.requires.0 (omega arith) in
    let room = rw end at c.loop-n.invariant.room in
    omega (arith, room, length-line-last xs (length xs - 1) (omega (arith, c.requires.0)))

pub returns : goal.returns
returns c =
    let xs = c.args.fields.now in
    let end = at_last xs c.loop-n.n-index c.requires.0 (omega arith) in
    c.loop-n.invariant.completes.by _ _ (rw (end, line-last xs (length xs - 1) (omega (arith, c.requires.0))) c.put_field.ensures)
