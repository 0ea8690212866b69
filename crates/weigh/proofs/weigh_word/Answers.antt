use Rattle.std.proofs.Common.{◌≡◌, ◌≤◌, cond, arith, rules, sym}
use Rattle.expand.specs.Expand.{is_x}
use Rattle.expand.proofs.Word.{pair-none, pair_turn, pair-lower, pair-upto}
use Rattle.weigh.proofs.Laws.{entries_none, entries-turn, weighing_again}
use Rattle.weigh.proofs.weigh_word.Goals as goal

pub loop-e-init : goal.loop-e-init
loop-e-init c = record { number = sym (pair-none _ _); entries = λ cs ts f pairs stop w word first last. entries_none cs ts f pairs _ _ _ _ _ w.taken }

pub weigh_at-requires : goal.weigh_at-requires
weigh_at-requires c =
    let loop = c.loop-e in
    let below = c.loop-e-test.true in (
      c.requires.0,
      c.requires.2.room loop.e below,
      c.requires.3.room loop.e below,
      c.requires.4,
      (λ x. omega (arith, loop.invariant.number, pair-lower c.args.list.now c.args.at loop.e c.args.next (omega arith) below x, c.requires.5)),
      c.requires.6,
      omega arith,
      omega arith,
    )

pub overflow_add-p : goal.overflow_add-p
overflow_add-p c =
    let few : c.from-p.result ≤ 1 = search rules in
    omega (arith, c.loop-e.invariant.number, pair-upto c.args.list.now c.args.at c.loop-e.e c.args.next (omega arith) (omega arith), c.requires.5)

pub loop-e-preserved : goal.loop-e-preserved
unfolding is_x
loop-e-preserved c =
    let loop = c.loop-e in
    let begun : c.args.at ≤ loop.e = omega arith in
    let below = c.loop-e-test.true in
    let here : c.from-p.result ≡ cond (is_x c.args.list.now loop.e) 1 0 = search rules in record {
      number = rw (here, loop.invariant.number) (sym (pair_turn c.args.list.now c.args.at loop.e begun));
      entries = λ cs ts f pairs stop w word first last.
          let old = loop.invariant.entries cs ts f pairs stop w word first last in
          entries-turn cs ts f pairs _ _ c.args.at loop.e c.args.table.now loop.table _ _ _ begun (omega arith) loop.auto.table old
          (c.weigh_at.ensures.entry cs ts f pairs stop c.args.at c.args.next (weighing_again w w.width old.taken) word first begun below last loop.invariant.number);
    }

pub returns : goal.returns
returns c = record {
  entries = λ cs ts f pairs stop w word first last.
      let end : c.loop-e.e ≡ c.args.next = omega arith in
      rw (← end) (c.loop-e.invariant.entries cs ts f pairs stop w word first last);
}
