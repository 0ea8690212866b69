-- The byte is none of those from `at` up to place i: its first place is the first one from i on.
use Rattle.std.proofs.Common.{◌≡◌}
use Rattle.sentences.proofs.Ends.{first_place}
use Rattle.sentences.proofs.find.Given as goal

abbrev pub invariant-loop-i : goal.invariant-loop-i
invariant-loop-i l = first_place l.text l.byte l.at l.end ≡ first_place l.text l.byte l.i l.end
