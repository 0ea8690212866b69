use Prim.Native.Nat.{◌+◌}
use Rattle.model.specs.Inputs.{F}
use Rattle.model.specs.Starts.{bits}
use Rattle.model.proofs.Rows.{length-bits}
use Rattle.starts.proofs.Laws.{start-all, never-left}
use Rattle.starts.proofs.never_differing.Goals as goal

pub returns : goal.returns
returns c = λ lane f stuck rows.
    let args = c.args in
    let sizes = c.requires.0.sizes in
    let s = args.base + lane in
    never-left args.setup.now.circuit.now args.setup.now.test.now args.free.now f rows lane s args.left _ _ _ _ sizes.units
    (c.first_lanes-wanted.ensures lane stuck.lane)
    (c.opposing_ever-differing.ensures lane f (bits (F args.setup.now.circuit.now) s) stuck (start-all lane s _ _ _ sizes.flops (c.load_starts.ensures lane stuck.lane)) (length-bits _ s))
    (c.take_out.ensures lane)
