use native.Mathlib.Omega.{arith}
use Rattle.model.specs.Simulation.{power_up}
use Rattle.model.proofs.ThreeValued.{power_up-three}
use Rattle.run.proofs.Laws.{length-power_up}
use Rattle.faults.proofs.Laws.{blank-zeros}
use Rattle.simulate.proofs.Laws.{responses-plain}
use Rattle.simulate.proofs.respond.Goals as goal

pub give_only-requires : goal.give_only-requires
give_only-requires c =
    let valid = c.requires.0 in (
      blank-zeros 4096 2560,
      omega arith,
      omega arith,
      (λ some.
          let fault = valid.fault 0 some in
          (omega (arith, fault.line, valid.circuit.lines), omega (arith, fault.pin, valid.circuit.few _ fault.line), omega (arith, fault.value))),
    )

pub returns : goal.returns
returns c =
    let cs = c.args.c.now in
    rw (← (responses-plain cs c.args.t.now c.args.fs.now))
    (c.write_run.ensures _ (power_up cs) c.give_only.ensures (c.power_up.ensures 0) (length-power_up cs) (power_up-three cs)).0
