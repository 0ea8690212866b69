use native.Mathlib.Omega.{arith}
use Rattle.decimals.proofs.Laws.{decimal_digit, decimal-more, length-digit, length_more, put_then}
use Rattle.decimals.proofs.+put_number.Goals as goal

pub put_digit-requires : goal.put_digit-requires
put_digit-requires t c = omega (arith, length-digit c.args.n c.if-n-lt10.true, c.requires)

pub returns-then-n-lt10 : goal.returns-then-n-lt10
returns-then-n-lt10 t c = rw (decimal_digit _ c.if-n-lt10.true) c.put_digit.ensures

pub put_number-last-requires : goal.put_number-last-requires
put_number-last-requires t c =
    let above = c.if-n-lt10.false in
    (omega (arith, c.decreases, above), omega (arith, length_more c.args.n above, c.requires))

pub put_digit-requires-2 : goal.put_digit-requires-2
put_digit-requires-2 t c =
    omega (arith, length_more c.args.n c.if-n-lt10.false, c.requires, c.put_number-last.ensures.end, c.put_number-last.auto.out)

pub returns : goal.returns
returns t c = rw (decimal-more _ c.if-n-lt10.false) (put_then c.put_number-last.ensures c.put_digit-2.ensures)
