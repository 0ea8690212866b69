use Rattle.model.specs.Listing.{too_long_line}
use Rattle.decimals.proofs.Laws.{put_then}
use Rattle.listing.proofs.put_too_long.Goals as goal

pub returns : goal.returns
unfolding too_long_line
returns c =
    put_then (put_then c.put_text-words.ensures c.put_text-end.ensures) c.put_byte.ensures
