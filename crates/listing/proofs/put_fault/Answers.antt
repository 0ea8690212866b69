use mathlib.Core.Path.{ap}
use native.Mathlib.Omega.{arith}
use Rattle.model.specs.Listing.{number_line}
use Rattle.listing.proofs.Laws.{put_same, fields-long, line-fits}
use Rattle.listing.proofs.put_fault.Goals as goal

pub put_line-requires : goal.put_line-requires
put_line-requires c = let of = c.fields_of-fields.ensures in (omega (arith, fields-long of), omega (arith, line-fits of, c.requires.3))

pub returns : goal.returns
returns c =
    let of = c.fields_of-fields.ensures in
    let put = c.put_line.ensures in
    (put_same (ap number_line of.same) put, omega (arith, line-fits of, put.end))
