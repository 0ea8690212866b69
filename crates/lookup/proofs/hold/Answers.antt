use Rattle.std.proofs.Common.{ap, ◌∙◌}
use Rattle.parts.specs.Hash.{hash_of}
use Rattle.lookup.proofs.Laws.{part_hash, held_more}
use Rattle.lookup.proofs.hold.Goals as goal

pub returns : goal.returns
returns c =
    let pre = c.requires in
    held_more pre.0 pre.1 pre.2 pre.3 (c.hash-hash.ensures.0 ∙ ap hash_of c.bytes.ensures.bytes ∙ part_hash c.args.text.now c.args.n _ pre.2) c.hash-hash.ensures.1
