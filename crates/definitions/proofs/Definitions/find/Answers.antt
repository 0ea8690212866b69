use Rattle.std.proofs.Common.{arith}
use Rattle.lists.proofs.Scan.{first_some, first-none}
use Rattle.definitions.proofs.Laws.{line-found}
use Rattle.definitions.proofs.Definitions.find.Goals as goal

pub returns-in-Some : goal.returns-in-Some
returns-in-Some c =
    let lowest = first_some _ _ _ c.in-Some.ensures in
    line-found c.args.self.text.now c.args.name.now c.in-Some.n lowest.fails (omega (arith, lowest.below, c.requires.few, c.requires.lines)) lowest.passes

pub find_behind-requires-clause-by_index : goal.find_behind-requires-clause-by_index
find_behind-requires-clause-by_index c = λ m h. first-none _ _ m c.in-None.ensures h
