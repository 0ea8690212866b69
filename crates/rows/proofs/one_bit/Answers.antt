use mathlib.Core.Path.{◌≡◌, sym, ap, ◌∙◌}
use mathlib.Core.List.{◌++◌}
use lib.ListN.{set, drop, replicate, length-replicate}
use native.Mathlib.Omega.{arith}
use borrow.Author.Rules.{rules}
use Rattle.lists.specs.Field.{overwritten}
use Rattle.lists.proofs.Field.{overwritten-set}
use Rattle.model.specs.Values.{X}
use Rattle.rows.proofs.one_bit.Goals as goal

pub returns : goal.returns
unfolding overwritten
returns c =
    let count = c.args.count in
    let row = c.args.row.now in
    let long = length-replicate count X in
    let filled : c.fill.new.self ≡ replicate count X = search rules in
    ap (λ x. set x c.args.i c.args.value) (rw filled (ap (λ n. replicate count X ++ drop n row) (sym long)))
    ∙ overwritten-set (replicate count X) row _ _ (omega (arith, long, c.requires.0))
