use native.Mathlib.Omega.{arith}
use Rattle.sequences.proofs.Lists.{row-of-zero, row-of-one}
use Rattle.sequences.proofs.give_extra.Goals as goal

pub returns : goal.returns
returns c = λ lane vs new h e clear is old.
    let digit = c.numbered-digit.ensures lane h in
    c.give_row.ensures lane vs new h e clear
    (row-of-zero lane _ c.args.count c.args.q _ c.args.extras.now new digit (omega arith) is)
    (row-of-one lane _ c.args.count c.args.q _ c.args.extras.now new digit (omega arith) is) old
