use mathlib.Core.Path.{ap}
use native.Mathlib.Omega.{arith}
use Rattle.model.specs.Listing.{number_line, total_line}
use Rattle.decimals.proofs.Laws.{put_then}
use Rattle.listing.proofs.Laws.{put_same}
use Rattle.listing.proofs.Totals.{seven, seven-long, total-fits}
use Rattle.listing.proofs.put_total.Goals as goal

pub returns : goal.returns
unfolding total_line
returns c =
    put_then c.put_text-words.ensures (put_same (ap number_line (seven _ _ c.count_verdicts-counts.ensures)) c.put_line.ensures)

pub put_line-requires : goal.put_line-requires
put_line-requires c =
    let same = c.count_verdicts-counts.ensures in
    (omega (arith, seven-long _ _ same), omega (arith, total-fits _ _ same c.requires.0, c.requires.1, c.put_text-words.ensures.end))
