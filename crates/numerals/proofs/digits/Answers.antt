use Rattle.std.proofs.Common.{◌≡◌, ◌+◌, ◌*◌, ◌≤◌, get_or, arith, add-one, sym, ◌∙◌}
use Rattle.std.proofs.Math.Nat.{min-le_right}
use Rattle.numerals.specs.Numeral.{digit_of}
use Rattle.numerals.proofs.Laws.{digit-value, digit_none, digit-more, digit_wrong, digits-end}
use Rattle.numerals.proofs.digits.Goals as goal

pub returns-in_err-d : goal.returns-in_err-d
returns-in_err-d c =
    let loop = c.loop-b in
    let high : c.args.base ≤ digit_of c.from.result = digit_none c.args.base c.from.result c.requires.1 (omega (arith, c.in_err-d.ensures.value)) in
    c.from_residual.ensures ∙ sym (sym loop.invariant.same ∙ digit_wrong _ _ _ _ c.loop-b-test.true (rw c.from.ensures at high))

pub loop-b-preserved : goal.loop-b-preserved
loop-b-preserved c =
    let loop = c.loop-b in
    let base = c.args.base in
    let text = c.args.text.now in
    let told = c.in_ok-d.ensures.value in
    let read : digit_of c.from.result ≡ c.in_ok-d.d = digit-value base c.from.result c.requires.1 told.0 ∙ sym told.1 in
    let value : digit_of (get_or text loop.b-index 0) ≡ c.in_ok-d.d = rw c.from.ensures at read in
    let more = digit-more base loop.v loop.b-index text (omega (arith, c.requires.0)) c.loop-b-test.true (omega (arith, told.0)) in
    record {
      low = omega (arith, c.min-v.ensures, min-le_right (base * loop.v + c.in_ok-d.d) 65536);
      same = rw (add-one loop.b-index, c.min-v.ensures, ← value) (more ∙ loop.invariant.same);
    }

pub returns : goal.returns
returns c =
    let inv = c.loop-b.invariant in
    sym (sym inv.same ∙ digits-end _ _ c.loop-b.b-index c.args.text.now (omega arith) inv.low)
