-- The walk has come to a text line with `line` definitions above it, none of which has the name.
use Rattle.std.proofs.Common.{◌≡◌, ℕ, ◌-◌, ◌<◌, length, false}
use Rattle.bench_text.specs.Bench.{named}
use Rattle.definitions.specs.Reached.{Reached}
use Rattle.definitions.proofs.find_behind.Given as goal

abbrev pub invariant-loop-at : goal.invariant-loop-at
invariant-loop-at l = record {
  reached : (j : ℕ) × Reached l.text j l.at l.line;
  below : (m : ℕ) → m < l.line → named l.text l.name m ≡ false;
}

abbrev pub decreases-loop-at : goal.decreases-loop-at
decreases-loop-at l = length l.text - l.at
