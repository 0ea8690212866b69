use Rattle.listing.proofs.Read.{read_print, print_of}
use Rattle.listing.proofs.listing.Goals as goal

pub returns-then-longer : goal.returns-then-longer
unfolding read_print
returns-then-longer c = print_of c.put_too_long.ensures (rw c.if-longer.true)

pub returns-then-longer-2 : goal.returns-then-longer-2
unfolding read_print
returns-then-longer-2 c = print_of c.put_too_long-then-longer-2.ensures (rw (c.if-longer.false, c.if-longer-2.true))

pub returns-then-longer-3 : goal.returns-then-longer-3
unfolding read_print
returns-then-longer-3 c = print_of c.put_too_long-then-longer-3.ensures (rw (c.if-longer.false, c.if-longer-2.false, c.if-longer-3.true))

pub returns-then-longer-4 : goal.returns-then-longer-4
unfolding read_print
returns-then-longer-4 c =
    print_of c.put_too_long-then-longer-4.ensures (rw (c.if-longer.false, c.if-longer-2.false, c.if-longer-3.false, c.if-longer-4.true))

pub returns : goal.returns
unfolding read_print
returns c =
    print_of c.put_job.ensures (rw (c.if-longer.false, c.if-longer-2.false, c.if-longer-3.false, c.if-longer-4.false))
