use mathlib.Core.Path.{◌≡◌}
use Prim.Native.Nat.{◌+◌, ◌-◌}
use native.Mathlib.Omega.{arith}
use Rattle.sequences.proofs.Lists.{sequence_none, sequence_all, pair_turn}
use Rattle.sequences.proofs.give_pairs.Goals as goal

pub loop-q-init : goal.loop-q-init
loop-q-init c = λ cs ts f pairs lane vs e taken h long size clear old. rw (sequence_none cs ts f pairs _ _ _ taken.count) old

pub loop-q-preserved : goal.loop-q-preserved
loop-q-preserved c =
    let loop = c.loop-q in
    λ cs ts f pairs lane vs e taken h long size clear old.
    pair_turn cs ts f pairs _ _ _ taken (c.args.base + lane) c.args.u (loop.q - 1) (omega (arith, c.loop-q-test.true)) lane _ loop.q _ _ vs e
    (omega (arith, c.loop-q-test.true)) long size c.requires.0.extra_room clear
    (λ now new. c.give_pair.ensures lane now new h)
    (loop.invariant cs ts f pairs lane vs e taken h long size clear old)

pub returns : goal.returns
returns c =
    let loop = c.loop-q in
    let end : loop.q ≡ 0 = omega (arith, c.loop-q-test.false) in
    record { lane = λ cs ts f pairs lane vs e taken h long size clear old. sequence_all cs ts f pairs _ _ lane _ vs loop.q end (loop.invariant cs ts f pairs lane vs e taken h long size clear old) }
