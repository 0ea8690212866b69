-- The faults before fault j are as row 10 asks.
use mathlib.Core.Path.{◌≡◌}
use mathlib.Core.Bool.{not}
use mathlib.Core.Option.{none}
use Rattle.lists.specs.Scan.{first_answer}
use Rattle.model.specs.Inputs.{fault_at}
use Rattle.model.specs.Refusals.{refuse, fault_fits}
use Rattle.job.proofs.check_each.Given as goal

abbrev pub invariant-loop-j : goal.invariant-loop-j
invariant-loop-j l = first_answer (λ j. refuse (not (fault_fits l.c (fault_at l.fs j))) 10 j) l.j ≡ none
