use mathlib.Core.Path.{refl, ap, ◌∙◌}
use Prim.Native.Nat.{◌*◌, ◌<◌}
use native.Mathlib.Omega.{arith}
use lib.Dec.{eqb}
use lib.ListN.{length}
use Rattle.lists.specs.Scan.{count_below}
use Rattle.model.specs.Inputs.{is_input, is_flip_flop}
use Rattle.circuit.proofs.Laws.{from_bool-le, counted-turn, gate-stays, places-more}
use Rattle.circuit.proofs.list_places.Goals as goal

pub loop-n-init : goal.loop-n-init
unfolding count_below
loop-n-init c = record {
  few_inputs = omega arith;
  few_flops = omega arith;
  inputs = refl;
  flops = refl;
  gates = c.requires.3;
  places = λ m h g. absurd (let z : ⊥ = omega arith in z);
}

pub loop-n-preserved : goal.loop-n-preserved
unfolding is_input is_flip_flop
loop-n-preserved c =
    let inv = c.loop-n.invariant in
    let kind = c.field-k.ensures.kind refl in
    let now = c.list_place.ensures in
    let inside : 4 * c.loop-n.n < length c.loop-n.table = omega (arith, c.requires.2) in
    record {
      few_inputs = omega (arith, c.from-i.ensures, from_bool-le);
      few_flops = omega (arith, c.from-s.ensures, from_bool-le);
      inputs = counted-turn (λ m. is_input _ m) _ _ _ _ inv.inputs c.from-i.ensures (ap (λ k. eqb k 0) kind);
      flops = counted-turn (λ m. is_flip_flop _ m) _ _ _ _ inv.flops c.from-s.ensures (ap (λ k. eqb k 1) kind);
      gates = λ e h g. gate-stays _ _ _ _ _ _ _ kind inside now e g ∙ inv.gates e h g;
      places = places-more _ _ _ _ _ _ _ kind inside now inv.inputs inv.flops inv.places;
    }
