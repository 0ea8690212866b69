use mathlib.Core.Path.{◌≡◌}
use mathlib.Core.Bool.{false}
use Rattle.std.proofs.Common.{leb}
use borrow.Author.Tests.{le-leb, lt-ltb}
use Rattle.take.specs.Take.{may_take}
use Rattle.take.proofs.Tests.{above-one, not_taken, taken_late}
use Rattle.take.proofs.may_take.Goals as goal
use Rattle.take.proofs.may_take.Goals.{then-i-size, else-i-size}

pub returns-then-u-left : goal.returns-then-u-left
unfolding may_take
returns-then-u-left c = let h = c.if-u-left.true in rw (lt-ltb _ _ h.0, lt-ltb _ _ h.1, lt-ltb _ _ h.2, le-leb _ _ h.3) (above-one _)

pub returns-else-u-left : goal.returns-else-u-left
returns-else-u-left c = elim c.if-i-size.branch [
  | then-i-size w ↦ (
      let late : leb c.args.u c.args.left ≡ false = cc in
      let none = taken_late c.args.m c.args.k c.args.u c.args.units c.args.i c.args.size c.args.left c.args.list.now w.if-i-size.true late in cc)
  | else-i-size w ↦ (let none = not_taken c.args.m c.args.k c.args.u c.args.units c.args.i c.args.size c.args.left c.args.list.now w.if-i-size.either in cc)
]
