-- The row begins with its first s places, filled; those behind are as they were. One is found if two places below s oppose.
use mathlib.Core.Path.{◌≡◌}
use lib.ListN.{take}
use Rattle.lists.specs.Field.{overwritten}
use Rattle.model.specs.Values.{some_oppose}
use Rattle.rows.proofs.Turns.{filled}
use Rattle.rows.proofs.give_row.Given as goal

abbrev pub invariant-loop-s : goal.invariant-loop-s
invariant-loop-s l =
    (l.found ≡ some_oppose (take l.s l.initial.row) (take l.s l.extra)) × (l.row ≡ overwritten (take l.s (filled (take l.count l.initial.row) (take l.count l.extra))) l.initial.row)
