use mathlib.Core.Path.{◌≡◌, refl}
use mathlib.Core.Bool.{Bool, true, false, cond}
use mathlib.Core.List.{List}
use mir.Val.{bool_byte}
use Prim.Native.Nat.{ℕ, ◌<◌}
use native.Mathlib.Omega.{arith}
use lib.ListN.{get_or, length, set}
use lib.Seq.{get_or-set_same}
use Rattle.group.specs.Groups.{KeyOf, Groups}
use Rattle.group.proofs.Laws.{groups_none, groups_kept, group-found, groups_more, written_none, written-more, written_all}
use Rattle.group.proofs.write_groups.Goals.{After-find-x}
use Rattle.group.proofs.write_groups.Goals as goal

one_if : (b : Bool) → bool_byte b ≡ cond b 1 0
one_if true = refl
one_if false = refl

-- there is a place behind the groups so far
room : (c : After-find-x) → (c.loop-j.count < length c.loop-j.keys) × (c.loop-j.count < length c.loop-j.firsts)
room c =
    let few = c.loop-j.invariant.0.few in
    (omega arith, omega arith)

-- the record's key and position stand there
abbrev keys : After-find-x → List ℕ
keys c = let loop = c.loop-j in set loop.keys loop.count c.key_of.result

abbrev firsts : After-find-x → List ℕ
firsts c = let loop = c.loop-j in set loop.firsts loop.count loop.j

groups : (c : After-find-x) → Groups c.args.verdicts.now c.loop-j.j c.loop-j.count (keys c) (firsts c)
groups c = groups_kept _ _ c.loop-j.invariant.0

key : (c : After-find-x) → KeyOf c.args.verdicts.now c.loop-j.j (get_or (keys c) c.loop-j.count 0)
key c = let loop = c.loop-j in rw (get_or-set_same loop.keys loop.count c.key_of.result 0 (room c).0) c.key_of.ensures

own : (c : After-find-x) → get_or (firsts c) c.loop-j.count 0 ≡ c.loop-j.j
own c = let loop = c.loop-j in get_or-set_same loop.firsts loop.count loop.j 0 (room c).1

pub loop-j-init : goal.loop-j-init
loop-j-init c = (groups_none _ _ _, written_none _ _)

pub loop-j-preserved : goal.loop-j-preserved
loop-j-preserved c =
    let f = (goal.at.loop-j-preserved c).After-find-x in
    let inv = c.loop-j.invariant in (
      rw (c.from-count.ensures, one_if) (groups_more (groups f) (key f) (own f) c.find-x.ensures),
      written-more _ inv.1 (group-found (groups f) (key f) (own f) c.find-x.ensures) c.put16.ensures (omega (arith, c.loop-j-test.true, c.requires.0.result_room)),
    )

pub returns : goal.returns
returns c = let inv = c.loop-j.invariant in written_all (omega arith) inv.1
