use Rattle.std.proofs.Common.{◌≡◌, refl, arith}
use Rattle.pending.specs.Pending.{OpenUnits}
use Rattle.stages.proofs.Laws.{decided-inside, before_5, stage2-none, before_2, before-none, prepared}
use Rattle.stages.proofs.middle_stages.Goals as goal

pub returns-then-left-eq0 : goal.returns-then-left-eq0
returns-then-left-eq0 c =
    let g = c.requires.0 in record {
      opened = λ f stuck fault open_first tables.
          let above : OpenUnits c.args.setup.now.circuit.now c.args.setup.now.test.now f c.open_units-left.result = c.open_units-left.ensures.units _ _ _ f g.sizes tables in record {
            nothing = λ e. before_5 _ _ f open_first g.circuit g.test fault (above.zero 0 (omega (arith, c.if-left-eq0.true)) g.test.some);
            decided = λ e h. absurd (let z : ⊥ = cc in z);
            undecided = λ left h. absurd (let z : ⊥ = cc in z);
            ready = λ left h. absurd (let z : ⊥ = cc in z);
          };
      inside = λ e h. absurd (let z : ⊥ = cc in z);
      nout = λ f. c.open_units-left.ensures.nout _ _ _ f g.sizes;
    }

pub returns-in-Some : goal.returns-in-Some
returns-in-Some c =
    let g = c.requires.0 in
    let decides = c.in-Some.ensures in record {
      opened = λ f stuck fault open_first tables.
          let above : OpenUnits c.args.setup.now.circuit.now c.args.setup.now.test.now f c.open_units-left.result = c.open_units-left.ensures.units _ _ _ f g.sizes tables in
          let two = stage2-none _ _ f open_first g.circuit g.test fault (above.above 0 (omega (arith, c.if-left-eq0.false))) in record {
            nothing = λ h. absurd (let z : ⊥ = cc in z);
            decided = λ e h. let here : c.in-Some.e ≡ e = cc in rw here at (before_2 f stuck fault open_first two tables above c.expand-walk.ensures decides _ refl);
            undecided = λ left h. absurd (let z : ⊥ = cc in z);
            ready = λ left h. absurd (let z : ⊥ = cc in z);
          };
      inside = λ e h. let here : c.in-Some.e ≡ e = cc in rw here at (decided-inside decides c.expand-walk.ensures.met _ refl);
      nout = λ f. c.open_units-left.ensures.nout _ _ _ f g.sizes;
    }

pub returns-in-None : goal.returns-in-None
returns-in-None c =
    let g = c.requires.0 in
    let decides = c.in-None.ensures in record {
      opened = λ f stuck fault open_first tables.
          let above : OpenUnits c.args.setup.now.circuit.now c.args.setup.now.test.now f c.open_units-left.result = c.open_units-left.ensures.units _ _ _ f g.sizes tables in
          let two = stage2-none _ _ f open_first g.circuit g.test fault (above.above 0 (omega (arith, c.if-left-eq0.false))) in record {
            nothing = λ h. absurd (let z : ⊥ = cc in z);
            decided = λ e h. absurd (let z : ⊥ = cc in z);
            undecided = λ left h. before-none f stuck fault open_first two tables above c.expand-walk.ensures decides refl;
            ready = λ left h. let here : c.open_units-left.result ≡ left = cc in rw here at (prepared f stuck fault open_first two tables above c.expand-walk.ensures decides refl);
          };
      inside = λ e h. absurd (let z : ⊥ = cc in z);
      nout = λ f. c.open_units-left.ensures.nout _ _ _ f g.sizes;
    }
