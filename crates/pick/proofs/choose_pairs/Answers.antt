use Rattle.std.proofs.Common.{◌≡◌, ◌≤◌, ap, arith, ◌∙◌}
use Rattle.std.proofs.Math.Nat.{mul-le-mul_left, mul-le-mul_right, mul_comm}
use Rattle.model.specs.Inputs.{F, L}
use Rattle.pick.specs.Pick.{reach_of}
use Rattle.pick.proofs.Laws.{reach-most, picking, at_most}
use Rattle.pick.proofs.choose_pairs.Goals as goal
use Rattle.pick.proofs.choose_pairs.Goals.{After-reached-reach}

-- so many units may have a pair
units-of : (c : After-reached-reach) → c.reached-reach.result ≡ reach_of (L c.args.setup.now.circuit.now c.args.setup.now.test.now) c.args.left
units-of c = c.reached-reach.ensures ∙ ap (λ n. reach_of n c.args.left) c.requires.0.sizes.units

few : (c : After-reached-reach) → c.reached-reach.result ≤ L c.args.setup.now.circuit.now c.args.setup.now.test.now
few c = reach-most _ _ _ (units-of c)

pub set_merits-requires : goal.set_merits-requires
set_merits-requires c =
    let g = c.requires.0 in
    let few-units = few (goal.at.set_merits-requires c).After-reached-reach in (
      omega (arith, few-units, g.test.most),
      omega (arith, g.sizes.flops, g.circuit.flip_flops),
      rw g.sizes.flops (omega (arith, mul-le-mul_right (F c.args.setup.now.circuit.now) few-units, c.requires.6.plain.room)),
      omega (arith, few-units, c.requires.5),
      omega (arith, few-units, c.requires.6.units),
      at_most _ _ _ _ few-units c.requires.4,
    )

pub pick_pairs-requires : goal.pick_pairs-requires
pick_pairs-requires c =
    let few-units = few (goal.at.pick_pairs-requires c).After-reached-reach in
    let room = c.requires.6 in (
      c.requires.0,
      few-units,
      c.requires.1,
      omega (arith, c.requires.2, mul-le-mul_left (F c.args.setup.now.circuit.now) few-units, mul_comm (F c.args.setup.now.circuit.now) (L c.args.setup.now.circuit.now c.args.setup.now.test.now)),
      c.requires.3,
      c.set_merits.ensures.small,
      record {
        responses = room.responses;
        plain = room.plain;
        rows = room.rows;
        units = omega (arith, room.units);
        pairs = room.pairs;
      },
    )

pub returns : goal.returns
returns c = record {
  records = λ f ready three nouts.
      c.pick_pairs.ensures.records f (picking (units-of (goal.at.returns c).After-reached-reach) c.requires.0.sizes.flops c.set_merits.ensures f ready three nouts);
}
