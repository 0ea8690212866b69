-- The walk has come to a text line with `lines` definitions above it, of which the first `held` are held: all of them, or 4,096. The text line
-- behind the last that is held begins at `rest`.
use Rattle.std.proofs.Common.{◌≡◌, ℕ, ◌-◌, ◌≤◌, ◌<◌, length}
use Rattle.lookup.specs.Lookup.{Held}
use Rattle.definitions.specs.Reached.{Reached}
use Rattle.definitions.proofs.collect.Given as goal

abbrev pub invariant-loop-at : goal.invariant-loop-at
invariant-loop-at l = record {
  held : Held l.text l.names l.heads l.held;
  few : l.held ≤ l.lines;
  all : l.held < 4096 → l.held ≡ l.lines;
  reached : (j : ℕ) × Reached l.text j l.at l.lines;
  rest : (j : ℕ) × Reached l.text j l.rest l.held;
}

abbrev pub decreases-loop-at : goal.decreases-loop-at
decreases-loop-at l = length l.text - l.at
