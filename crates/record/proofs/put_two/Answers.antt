use mathlib.Core.Path.{ap, ◌∙◌}
use mathlib.Core.List.{◌++◌}
use lib.Seq.{sets}
use Rattle.lists.specs.Field.{bytes16}
use Rattle.lists.proofs.Field.{overwritten-sets}
use Rattle.record.proofs.put_two.Goals as goal

pub returns : goal.returns
unfolding bytes16
returns c =
    c.put16-2.ensures ∙ ap (λ x. sets x 2 (bytes16 c.args.second)) c.put16.ensures ∙ overwritten-sets (bytes16 c.args.first ++ bytes16 c.args.second) c.args.area.now c.requires
