-- The records of the lanes below `lane` are written.
use Rattle.std.proofs.Common.{◌≡◌, ℕ, ◌+◌, ◌<◌, List}
use Rattle.model.specs.Grade.{Verdict}
use Rattle.record.specs.Record.{RecordsOf}
use Rattle.sieve.specs.Sieve.{noted}
use Rattle.sieve.proofs.write_early.Given as goal

abbrev pub invariant-loop-lane : goal.invariant-loop-lane
invariant-loop-lane l =
    (v : ℕ → Verdict) → ((s : ℕ) → s < l.count → v (l.from + s) ≡ noted l.firsts s l.firsts.times l.firsts.lines) → (old : List ℕ)
    → RecordsOf v l.from old l.initial.res → RecordsOf v (l.from + l.lane) old l.res
