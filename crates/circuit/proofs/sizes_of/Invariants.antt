-- The counts so far are those of the lines below n.
use mathlib.Core.Path.{◌≡◌}
use Prim.Native.Nat.{◌≤◌}
use Rattle.lists.specs.Scan.{count_below}
use Rattle.model.specs.Inputs.{is_input, is_flip_flop, is_output}
use Rattle.circuit.proofs.sizes_of.Given as goal

abbrev pub invariant-loop-n : goal.invariant-loop-n
invariant-loop-n l = record {
  few_inputs : l.inputs ≤ l.n;
  few_flops : l.flops ≤ l.n;
  few_outputs : l.outputs ≤ l.n;
  inputs : l.inputs ≡ count_below (λ m. is_input l.c m) l.n;
  flops : l.flops ≡ count_below (λ m. is_flip_flop l.c m) l.n;
  outputs : l.outputs ≡ count_below (λ m. is_output l.c m) l.n;
}
