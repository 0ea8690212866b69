use Rattle.std.proofs.Common.{sym, arith, add-one, append-nil}
use borrow.Author.Tests.{eq-eqb, ne_eqb}
use Rattle.tokens.specs.Kept.{part_if}
use Rattle.tokens.proofs.Laws.{kept_put}
use Rattle.tokens.proofs.put.Goals as goal

pub returns-then-size-eq0-clause-keeps : goal.returns-then-size-eq0-clause-keeps
unfolding part_if
returns-then-size-eq0-clause-keeps c = rw (eq-eqb _ _ c.if-size-eq0.true) (sym (append-nil _))

pub returns-clause-keeps : goal.returns-clause-keeps
unfolding part_if
returns-clause-keeps c =
    let n = c.args.count in
    rw (add-one n, ne_eqb _ _ c.if-size-eq0.false) (kept_put c.args.parts.now n (record { at = c.args.at; size = c.args.size }) (omega (arith, c.requires)))
