use mathlib.Core.Path.{sym}
use native.Mathlib.Omega.{arith}
use Rattle.faults.proofs.Laws.{blank-stuck}
use Rattle.simulate.proofs.Laws.{only_one, only_none, some-fault}
use Rattle.simulate.proofs.give_only.Goals as goal

pub give_all-requires : goal.give_all-requires
give_all-requires c =
    let pre = c.requires in
    let f = c.fault_of-f.ensures in
    let fits = pre.3 (some-fault _ c.if-fs-ge4.true) in
    (pre.0, omega (arith, f.line, fits.0), pre.2, omega (arith, f.pin, fits.1), omega (arith, f.value, fits.2))

pub returns-then-fs-ge4 : goal.returns-then-fs-ge4
returns-then-fs-ge4 c =
    let f = c.fault_of-f.ensures in
    rw (only_one c.args.fs.now c.if-fs-ge4.true) (c.give_all.ensures.1 0 _ (omega arith) (sym f.line) (sym f.pin) (sym f.value))

pub returns-else-fs-ge4 : goal.returns-else-fs-ge4
returns-else-fs-ge4 c =
    rw (only_none c.args.fs.now c.if-fs-ge4.false) (blank-stuck 0 _ _ c.requires.0 (omega arith) c.requires.1)
