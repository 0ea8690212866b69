-- The groups of the records below j are known, each by its first record and that record's key, and are written.
use Rattle.group.specs.Groups.{Groups, GroupsTo}
use Rattle.group.proofs.write_groups.Given as goal

abbrev pub invariant-loop-j : goal.invariant-loop-j
invariant-loop-j l = (Groups l.verdicts l.j l.count l.keys l.firsts) × (GroupsTo l.verdicts l.j l.initial.res l.res)
