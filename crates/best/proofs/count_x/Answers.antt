use Rattle.std.proofs.Common.{◌≡◌, ◌==◌, ◌∙◌, arith, rules}
use Rattle.std.specs.Prelude.{count_by}
use Rattle.best.proofs.Merit.{unknown_counted}
use Rattle.best.proofs.Bounds.{count_x-bound}
use Rattle.best.proofs.count_x.Goals as goal

pub returns : goal.returns
returns c =
    let passed : c.count.result ≡ count_by (λ v. v == 2) c.args.row.now = search rules in
    let counted = passed ∙ unknown_counted c.args.row.now in
    (counted, omega (arith, counted, count_x-bound c.args.row.now))
