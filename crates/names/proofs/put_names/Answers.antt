-- There is room for the line, and its name is short.
use Rattle.std.proofs.Common.{arith}
use Rattle.names.proofs.Laws.{name-short}
use Rattle.names.proofs.put_names.Goals as goal

pub put_line-at-requires : goal.put_line-at-requires
put_line-at-requires c =
    let named = c.requires.1 in
    let below = c.loop-n-test.true in (
      omega (arith, c.requires.0, named.few, below, c.loop-n.invariant),
      omega (arith, named.few, below),
      name-short named _ below c.name.ensures.bytes,
    )
