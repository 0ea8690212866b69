use mathlib.Core.Path.{sym, ◌∙◌}
use mathlib.Core.Bool.{true≢false}
use Rattle.lanes.proofs.Bits.{bit-all}
use Rattle.run.proofs.Laws.{fed-inputs, length-inputs}
use Rattle.run.proofs.values_at.Goals as goal

pub returns : goal.returns
returns c = λ lane f st s l e.
    let cs = c.args.c.now in
    let ts = c.args.t.now in
    let same = fed-inputs cs ts c.args.inputs c.args.u c.requires.3 c.requires.4 in
    let lanes = c.load_row.ensures lane _ s.lane (λ w. same) (λ w. absurd (true≢false (sym (bit-all lane s.lane) ∙ w))) in
    c.simulate_unit.ensures lane f _ st s lanes (length-inputs cs ts c.args.inputs c.args.u c.requires.3 c.requires.4) l e
