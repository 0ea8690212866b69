use mathlib.Core.Path.{◌≡◌, refl}
use mathlib.Core.List.{List}
use Prim.Native.Nat.{ℕ, ◌+◌, ◌-◌, ◌*◌, ◌%◌, ◌^◌, ◌<◌, ◌≤◌}
use native.Mathlib.Omega.{arith}
use Rattle.sequences.proofs.Blocks.{few_sequences, shifted, next_block, counted_none, counted-more, counted-all}
use Rattle.lists.specs.Field.{Rows}
use Rattle.model.specs.Inputs.{O, L, Fault}
use Rattle.model.specs.Simulation.{free_outputs}
use Rattle.unit.specs.Unit.{Stuck}
use Rattle.sequences.specs.Ends.{Lists}
use Rattle.sequences.proofs.Blocks.{CountedBelow}
use Rattle.sequences.proofs.count_endings.Goals.{After-add-found}
use Rattle.sequences.proofs.count_endings.Goals as goal

-- the number of sequences
abbrev total : ℕ → ℕ
total m = 1 * 2 ^ m % 0x10000000000000000

few : (m : ℕ) → m ≤ 12 → total m ≤ 4096
few m most = omega (arith, shifted m most, few_sequences m most)

pub loop-base-init : goal.loop-base-init
loop-base-init c = (omega arith, λ h. (refl, record { differing = omega arith; clashing = omega arith; surviving = omega arith }), λ f pairs stuck free lists. counted_none _ _ f pairs)

pub add-found-requires : goal.add-found-requires
add-found-requires c =
    let most = few c.args.m c.requires.3.most in
    let found = (c.loop-base.invariant.1 c.loop-base-test.true).1 in
    let below = c.loop-base-test.true in
    (omega (arith, most, below, found.differing), omega (arith, most, below, found.clashing), omega (arith, most, below, found.surviving))

-- behind the block its sequences are counted too
behind : (c : After-add-found) (f : Fault) (pairs : List (ℕ × ℕ)) → ((lane : ℕ) → lane < 64 → Stuck lane c.args.given.now.hits.now c.args.given.now.masks.now f)
    → Rows (O c.args.setup.now.circuit.now) (L c.args.setup.now.circuit.now c.args.setup.now.test.now) c.args.free.now (free_outputs c.args.setup.now.circuit.now c.args.setup.now.test.now)
    → Lists c.args.setup.now.circuit.now c.args.setup.now.test.now f pairs c.args.m c.args.list.now c.args.times.now c.args.extras.now
    → CountedBelow c.args.setup.now.circuit.now c.args.setup.now.test.now f pairs (c.loop-base.base + c.block-size.result) c.add-found.result
behind c f pairs stuck free lists =
    counted-more _ _ f pairs c.loop-base.base c.block-size.result _ _ _ _ c.block-size.ensures.0 c.first_lanes.ensures
    (λ lane h. c.end_block-ends.ensures.lane lane f pairs (stuck lane h) free lists) c.add-found.ensures (c.loop-base.invariant.2 f pairs stuck free lists)

pub loop-base-preserved : goal.loop-base-preserved
loop-base-preserved c =
    let loop = c.loop-base in
    let inv = loop.invariant in
    let below = c.loop-base-test.true in
    let limits = c.block-size.ensures in
    let full : c.block-size.result ≡ 64 = grind (arith, c.if-total-base-gt64.true, limits.0, limits.2) in
    let next : loop.base + 64 ≡ loop.base + c.block-size.result = omega (arith, full) in
    rw next (
      omega (arith, below, limits.1),
      next_block loop.base c.block-size.result (total c.args.m) below limits.0 limits.2 _ _ _ (inv.1 below).0 (inv.1 below).1 c.add-found.ensures,
      behind (goal.at.loop-base-preserved c).After-add-found,
    )

pub returns : goal.returns
returns c =
    let loop = c.loop-base in
    let m = c.args.m in
    let end : loop.base ≡ 2 ^ m = omega (arith, loop.invariant.0, c.loop-base-test.false, shifted m c.requires.3.most) in
    record { ends = λ f pairs stuck free lists. counted-all _ _ f pairs loop.base m _ lists.taken.count end (loop.invariant.2 f pairs stuck free lists) }

pub returns-2 : goal.returns-2
returns-2 c =
    let loop = c.loop-base in
    let m = c.args.m in
    let limits = c.block-size.ensures in
    let few : c.block-size.result ≡ total m - loop.base = grind (arith, c.if-total-base-gt64.false, c.loop-base-test.true, limits.0, limits.2) in
    let end : loop.base + c.block-size.result ≡ 2 ^ m = omega (arith, few, c.loop-base-test.true, shifted m c.requires.3.most) in
    record { ends = λ f pairs stuck free lists. counted-all _ _ f pairs _ m _ lists.taken.count end (behind (goal.at.returns-2 c).After-add-found f pairs stuck free lists) }
