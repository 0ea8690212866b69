use Rattle.std.proofs.Common.{◌≡◌, ◌≢◌, true, false, ℕ, List, get_or, refl, arith}
use borrow.Author.Tests.{eq-eqb, ne_eqb}
use Rattle.expand.specs.Expand.{is_x}
use Rattle.expand.proofs.Turn.{turn_at, pass-at}
use Rattle.expand.proofs.settle_at.Goals as goal

known : (states : List ℕ) (e : ℕ) → get_or states e 0 ≢ 2 → is_x states e ≡ false
unfolding is_x
known states e h = ne_eqb _ _ h

unknown : (states : List ℕ) (e : ℕ) → get_or states e 0 ≡ 2 → is_x states e ≡ true
unfolding is_x
unknown states e h = eq-eqb _ _ h

pub returns-then-states-e-ne2-clause-walked : goal.returns-then-states-e-ne2-clause-walked
returns-then-states-e-ne2-clause-walked c = λ cs ts f stop at next s begun before ep room old. pass-at cs ts f _ stop _ _ at next _ _ _ _ _ s begun before room (known _ _ c.if-states-e-ne2.true) old

pub offset_bounds-pairs-p : goal.offset_bounds-pairs-p
offset_bounds-pairs-p c = omega (arith, (c.requires.1 (unknown _ _ c.if-states-e-ne2.false)).0)

pub bounds-pairs-p : goal.bounds-pairs-p
bounds-pairs-p c = (c.requires.1 (unknown _ _ c.if-states-e-ne2.false)).1

pub overflow_add-pairs : goal.overflow_add-pairs
overflow_add-pairs c = omega (arith, (c.requires.1 (unknown _ _ c.if-states-e-ne2.false)).2)

pub settle_pair-requires : goal.settle_pair-requires
settle_pair-requires c =
    let pair = c.requires.1 (unknown _ _ c.if-states-e-ne2.false) in
    (pair.0, pair.3, pair.4, c.requires.2, c.requires.3)

pub returns-in-None-clause-walked : goal.returns-in-None-clause-walked
returns-in-None-clause-walked c = λ cs ts f stop at next s begun before ep room old.
    turn_at cs ts f _ stop _ _ at next _ _ _ _ _ _ _ _ _ s begun before room (unknown _ _ c.if-states-e-ne2.false) ep c.in-None.is refl c.settle_pair.ensures old
