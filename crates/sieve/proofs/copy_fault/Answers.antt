use Rattle.sieve.proofs.Laws.{copied}
use Rattle.sieve.proofs.copy_fault.Goals as goal

pub returns : goal.returns
returns c = copied c.args.fs.now c.args.few.now _ c.args.j c.args.s c.requires.0 c.requires.1 c.copy_from_slice.ensures.after
