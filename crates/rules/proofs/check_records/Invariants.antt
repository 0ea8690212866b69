-- No record before record n breaks a row.
use Rattle.std.specs.Prelude.{◌≡◌}
use Rattle.std.proofs.Math.Option.{none}
use Rattle.lists.specs.Scan.{first_answer}
use Rattle.model.specs.Refusals.{rows2to5}
use Rattle.rules.proofs.check_records.Given as goal

abbrev pub invariant-loop-n : goal.invariant-loop-n
invariant-loop-n l = first_answer (λ n. rows2to5 l.c n) l.n ≡ none
