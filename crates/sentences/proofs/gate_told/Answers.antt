use Rattle.std.proofs.Common.{sym, arith}
use Rattle.sentences.proofs.Laws.{pins-kept}
use Rattle.sentences.proofs.Forms.{tells_none, tells-gate, gate-short, gate_none, line-few, gate-some}
use Rattle.sentences.proofs.gate_told.Goals as goal

pub returns-then-count-lt4-clause-tells : goal.returns-then-count-lt4-clause-tells
returns-then-count-lt4-clause-tells c =
    tells_none _ _ _ _ _ (λ k e. absurd (cc)) c.without.ensures (gate-short c.args.text.now c.args.parts.now c.if-count-lt4.true)

pub kind_in-requires : goal.kind_in-requires
kind_in-requires c = (c.requires, omega (arith, c.if-count-lt4.false), sym (pins-kept c.args.text.now c.args.parts.now))

pub returns-in-Some-clause-tells : goal.returns-in-Some-clause-tells
returns-in-Some-clause-tells c =
    let found = c.in-Some.ensures in
    let same = gate-some c.args.text.now c.args.parts.now found.0 in
    tells-gate _ _ _ c.in-Some.kind _ found.2 (line-few c.args.text.now c.args.parts.now found.0) (rw found.1 at same)

pub returns-in-None-clause-tells : goal.returns-in-None-clause-tells
returns-in-None-clause-tells c =
    tells_none _ _ _ _ _ (λ k e. absurd (cc)) c.without-in-None.ensures (gate_none c.args.text.now c.args.parts.now c.in-None.ensures)
