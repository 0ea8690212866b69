use native.Mathlib.Omega.{arith}
use Rattle.decimals.proofs.Laws.{put-copied}
use Rattle.decimals.proofs.put_text.Goals as goal

pub returns : goal.returns
returns c = put-copied _ (omega (arith, c.requires)) c.copy_from_slice.ensures.after
