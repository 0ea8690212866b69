use mathlib.Core.Path.{◌≡◌, refl, ap, ◌∙◌}
use native.Mathlib.Omega.{arith}
use Rattle.lists.specs.Scan.{count_below}
use Rattle.model.specs.Inputs.{is_input, is_flip_flop, is_output, I, F, O}
use lib.Dec.{eqb}
use Rattle.circuit.proofs.Laws.{from_bool-le, counted-turn}
use Rattle.circuit.proofs.sizes_of.Goals as goal

pub loop-n-init : goal.loop-n-init
unfolding count_below
loop-n-init c = record {
  few_inputs = omega arith;
  few_flops = omega arith;
  few_outputs = omega arith;
  inputs = refl;
  flops = refl;
  outputs = refl;
}

pub loop-n-preserved : goal.loop-n-preserved
unfolding is_input is_flip_flop is_output
loop-n-preserved c =
    let inv = c.loop-n.invariant in
    let kind = c.field-k.ensures.kind refl in
    record {
      few_inputs = omega (arith, c.from-inputs.ensures, from_bool-le);
      few_flops = omega (arith, c.from-flops.ensures, from_bool-le);
      few_outputs = omega (arith, c.from-outputs.ensures, from_bool-le);
      inputs = counted-turn (λ m. is_input _ m) _ _ _ _ inv.inputs c.from-inputs.ensures (ap (λ k. eqb k 0) kind);
      flops = counted-turn (λ m. is_flip_flop _ m) _ _ _ _ inv.flops c.from-flops.ensures (ap (λ k. eqb k 1) kind);
      outputs = counted-turn (λ m. is_output _ m) _ _ _ _ inv.outputs c.from-outputs.ensures (ap (λ k. eqb k 1) (c.field.ensures.mark refl));
    }

pub returns : goal.returns
unfolding I F O
returns c =
    let end : c.loop-n.n ≡ c.args.lines = omega arith in
    let inv = c.loop-n.invariant in
    let all = c.requires.1 in
    record { lines = all; inputs = inv.inputs ∙ rw (end, all); flops = inv.flops ∙ rw (end, all); outputs = inv.outputs ∙ rw (end, all) }
