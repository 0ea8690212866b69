use Rattle.stages.proofs.Laws.{responses_in}
use Rattle.stages.proofs.open_units.Goals as goal

pub returns : goal.returns
returns c = record {
  nout = λ cs ts states f of tables. (c.outstanding.ensures cs ts f (responses_in _ _ _ cs ts states f of tables)).at;
  units = λ cs ts states f of tables. c.open_units.ensures cs ts f of.units ((c.outstanding.ensures cs ts f (responses_in _ _ _ cs ts states f of tables)).at);
}
