use mathlib.Core.Path.{◌∙◌}
use native.Mathlib.Omega.{arith}
use Rattle.run.proofs.Laws.{length-outputs}
use Rattle.fault.proofs.First.{opposes-written}
use Rattle.fault.proofs.show_both.Goals as goal

pub returns : goal.returns
returns c = record {
  at = λ f g vs ws f-stuck g-stuck f-lane g-lane f-long g-long f-three g-three.
      let free = c.write_outputs.ensures g ws g-stuck g-lane g-long g-three in (
        free,
        c.write_outputs-2.ensures f vs f-stuck f-lane f-long f-three,
        c.has_lane.ensures ∙ c.opposing-opposing.ensures 0 f vs f-stuck f-lane f-long ∙ opposes-written _ _ _ _ free (omega (arith, length-outputs c.args.c.now f vs, length-outputs c.args.c.now g ws)),
      );
}
