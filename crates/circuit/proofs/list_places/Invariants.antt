-- The table keeps the numbers of the gates, and has the places of the other lines below n; i and s count the inputs and the flip-flops
-- below n.
use mathlib.Core.Path.{◌≡◌}
use mathlib.Core.Bool.{true, false}
use Prim.Native.Nat.{ℕ, ◌+◌, ◌*◌, ◌/◌, ◌%◌, ◌<◌, ◌≤◌}
use lib.ListN.{get_or}
use Rattle.lists.specs.Scan.{count_below}
use Rattle.model.specs.Inputs.{is_input, is_flip_flop, is_gate}
use Rattle.circuit.specs.Table.{pin_number, place_of}
use Rattle.circuit.proofs.list_places.Given as goal

abbrev pub invariant-loop-n : goal.invariant-loop-n
invariant-loop-n l = record {
  few_inputs : l.i ≤ l.n;
  few_flops : l.s ≤ l.n;
  inputs : l.i ≡ count_below (λ m. is_input l.c m) l.n;
  flops : l.s ≡ count_below (λ m. is_flip_flop l.c m) l.n;
  gates : (e : ℕ) → e < 4 * l.lines → is_gate l.c (e / 4) ≡ true → get_or l.table e 0 ≡ pin_number l.c (e / 4) (e % 4 + 1);
  places : (m : ℕ) → m < l.n → is_gate l.c m ≡ false → get_or l.table (4 * m) 0 ≡ place_of l.c m;
}
