use Rattle.take.proofs.Extras.{first_made}
use Rattle.take.proofs.make_extras.Goals as goal

pub returns-then-u-eq0 : goal.returns-then-u-eq0
returns-then-u-eq0 c = record {
  rows = λ f stuck plain frees. first_made c.args.setup.now.circuit.now c.args.setup.now.test.now f _ _ _ _ _ _ c.requires.0.sizes.flops c.if-u-eq0.true c.first_extras.ensures;
}
