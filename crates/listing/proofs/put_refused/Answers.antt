use mathlib.Core.Path.{ap, ◌∙◌}
use mathlib.Core.List.{[], ◌∷◌}
use native.Mathlib.Omega.{arith}
use Rattle.model.specs.Listing.{refused_line}
use Rattle.decimals.specs.Put.{Below}
use Rattle.decimals.proofs.Laws.{line-short, put_then}
use Rattle.listing.proofs.Laws.{put_same}
use Rattle.listing.proofs.put_refused.Goals as goal

-- neither number has more than twenty digits
pub put_line-requires : goal.put_line-requires
unfolding Below
put_line-requires c =
    let short = line-short 19 (c.from-number.result ∷ c.args.refusal.at ∷ []) (omega arith) (omega arith, (omega arith, tt)) in
    (omega arith, omega (arith, short, c.requires, c.put_text-words.ensures.end, c.put_text-words.auto.out))

pub returns : goal.returns
unfolding refused_line
returns c =
    put_same
    (ap (λ n. refused_line n c.args.refusal.at) (c.from-number.ensures ∙ c.number.ensures))
    (put_then c.put_text-words.ensures c.put_line.ensures)
