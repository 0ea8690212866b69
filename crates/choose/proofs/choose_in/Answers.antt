use mathlib.Core.Path.{◌≡◌}
use Prim.Native.Nat.{ℕ, ◌≤◌}
use lib.ListN.{length, replicate, length-replicate}
use native.Mathlib.Omega.{arith}
use Rattle.job.proofs.Laws.{response_size}
use Rattle.faults.proofs.Laws.{blank-zeros}
use Rattle.choose.proofs.Laws.{state-size, workable}
use Rattle.choose.proofs.choose_in.Goals as goal

-- a cleared array is as long as it is declared
long : (n m : ℕ) → m ≤ n → m ≤ length {A = ℕ} (replicate n 0)
long n m h = let e : length {A = ℕ} (replicate n 0) ≡ n = length-replicate n 0 in rw e h

few : (n : ℕ) → n ≤ 65536 → length {A = ℕ} (replicate n 0) ≤ 65536
few n h = let e : length {A = ℕ} (replicate n 0) ≡ n = length-replicate n 0 in rw e h

pub list_tables-requires : goal.list_tables-requires
list_tables-requires g c =
    let pre = c.requires in
    let pins = long g.row.PINS _ pre.2.pins in
    (pre.0.inputs.circuit, pre.1.lines, pins, omega arith, omega arith)

pub propose-requires : goal.propose-requires
propose-requires g c =
    let pre = c.requires in
    let of = pre.1 in
    let room = pre.2 in
    let hits = long g.row.LINES _ room.lines in (
      pre.0,
      workable c.args.job.lines c.args.job.inputs c.args.job.flops c.args.job.units pre.0 of c.list_tables.ensures (blank-zeros g.row.LINES 2560) (omega (arith, of.lines)) (omega (arith, of.inputs))
          (omega (arith, of.flops)) (omega (arith, of.units)) (long g.row.TABLE _ (omega (arith, response_size of, room.responses))) (long g.row.TABLE _ (omega (arith, state-size of, room.states))) (long g.row.TABLE _ (omega (arith, state-size of, room.states)))
          hits (few g.row.LINES (omega (arith, room.few_lines))) (omega arith) (long g.row.BITS _ room.inputs) (long g.row.WORDS _ room.words) (long g.row.BITS _ room.flops) (long g.row.UNITS _ room.units) (long g.row.UNITS _ (omega (arith, room.units))) (long g.row.EXTRAS _ room.extras),
    )
