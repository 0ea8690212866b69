use Rattle.std.proofs.Common.{◌≡◌, refl, sym, ◌∙◌}
use Rattle.lists.proofs.Tests.{clash}
use Rattle.model.proofs.Apart.{where_x-three}
use Rattle.expand.proofs.Steps.{one-only, none-of}
use Rattle.expand.proofs.Write.{lent_row, lent-over, extra-made, opposes_as, given_as, three_as}
use Rattle.expand.proofs.write_extra.Goals as goal

pub returns-then-give_row : goal.returns-then-give_row
returns-then-give_row c = record {
  past = λ p h. one-only h (none-of _ (sym c.is_some.ensures ∙ c.if-is_some.false));
  made = λ g st l e w x.
      let s = opposes_as _ _ _ _ _ c.give_row.ensures.0 (lent_row c.args.size c.args.u c.args.list.now c.requires.1)
      (extra-made c.args.size c.args.u c.args.states.now st _ _ c.requires.0 e (c.extra_row.ensures st l e w)) in
      (λ o. refl, λ o. clash _ c.if-give_row.true (sym s ∙ o));
  met = λ n h old. record { both = old.both; opposed = λ p k. (let same : p ≡ c.args.e = cc in rw same h) };
}

pub returns : goal.returns
returns c =
    let row = lent_row c.args.size c.args.u c.args.list.now c.requires.1 in record {
      past = λ p h. one-only h (none-of _ (sym c.is_some.ensures ∙ c.if-is_some.false));
      made = λ g st l e w x.
          let extra = extra-made c.args.size c.args.u c.args.states.now st _ _ c.requires.0 e (c.extra_row.ensures st l e w) in
          let s = opposes_as _ _ _ _ _ c.give_row.ensures.0 row extra in (
            λ o. clash _ (sym s ∙ o) c.if-give_row.false,
            λ o. (
              refl,
              lent-over c.args.size c.args.u c.args.list.now c.requires.1 _ _
                  (given_as _ _ _ _ _ _ (c.give_row.ensures.1 (sym s ∙ o) (three_as _ _ row x) (three_as _ _ extra (where_x-three _ _ w))) row extra),
            ),
          );
      met = λ n h old. old;
    }
