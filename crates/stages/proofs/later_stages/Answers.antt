use Rattle.std.proofs.Common.{◌*◌, ◌<◌, arith, sym, ◌∙◌}
use Rattle.expand.proofs.Begin.{product_as, factor-some}
use Rattle.stages.proofs.Laws.{flops-room, pair-named, graded-before, standing-again, tables-lent}
use Rattle.stages.proofs.later_stages.Goals as goal

pub returns-in-Nothing : goal.returns-in-Nothing
returns-in-Nothing c = record {
  verdict = λ f stuck fault open_first.
      let said = c.middle_stages-middle.ensures.opened f stuck fault open_first (tables-lent c.trace.ensures f c.requires.0.tabled.sizes stuck) in
      c.placed.ensures ∙ sym (graded-before _ _ f _ _ _ (said.nothing c.in-Nothing.is));
  stands = λ f. standing-again c.trace.ensures f c.requires.1 c.trace.auto.work;
}

pub at_pair-requires : goal.at_pair-requires
at_pair-requires c =
    let g = c.requires.0.tabled in
    let low : c.in-Decided.e < c.args.setup.now.job.flops * c.args.setup.now.job.units =
    omega (arith, product_as _ _ _ _ g.sizes.flops g.sizes.units, c.middle_stages-middle.ensures.inside _ c.in-Decided.is) in
    (factor-some _ _ _ low, rw g.sizes.flops (flops-room _ _ g.tables.flop_table))

pub returns-in-Decided : goal.returns-in-Decided
returns-in-Decided c =
    let g = c.requires.0.tabled in
    let low : c.in-Decided.e < c.args.setup.now.job.flops * c.args.setup.now.job.units =
    omega (arith, product_as _ _ _ _ g.sizes.flops g.sizes.units, c.middle_stages-middle.ensures.inside _ c.in-Decided.is) in record {
      verdict = λ f stuck fault open_first.
          let said = c.middle_stages-middle.ensures.opened f stuck fault open_first (tables-lent c.trace.ensures f g.sizes stuck) in
          c.at_pair.ensures ∙ pair-named _ _ _ _ g.sizes.flops (factor-some _ _ _ low) g.tables.flop_table ∙ sym (graded-before _ _ f _ _ _ (said.decided _ c.in-Decided.is));
      stands = λ f. standing-again c.trace.ensures f c.requires.1 c.trace.auto.work;
    }

pub returns-in-Open : goal.returns-in-Open
returns-in-Open c = record {
  verdict = λ f stuck fault open_first.
      let said = c.middle_stages-middle.ensures.opened f stuck fault open_first (tables-lent c.trace.ensures f c.requires.0.tabled.sizes stuck) in
      c.last_stages.ensures f (said.ready _ c.in-Open.is) (said.undecided _ c.in-Open.is);
  stands = λ f. standing-again c.trace.ensures f c.requires.1 c.trace.auto.work;
}
