use Rattle.std.proofs.Common.{sym, ap, ◌∙◌, ◌%◌, arith}
use Rattle.parts.specs.Hash.{hash_of}
use Rattle.parts.proofs.Laws.{hash_more, hash_end}
use Rattle.parts.proofs.hash.Goals as goal

pub loop-b-preserved : goal.loop-b-preserved
loop-b-preserved c =
    let more = hash_more c.loop-b.h c.args.name.now c.loop-b.b-index c.loop-b-test.true in
    (omega arith, rw c.from.ensures (sym more ∙ c.loop-b.invariant.1))

pub returns : goal.returns
unfolding hash_of
returns c =
    let all = hash_end c.loop-b.h c.args.name.now c.loop-b.b-index (omega arith) in
    (ap (λ h. h % 4096) (sym all ∙ c.loop-b.invariant.1), omega arith)
