-- The walk has come to text line j, with `above` definitions above it. No text line above it fails, and where there is room for all lines what
-- these say is noted.
use Rattle.std.proofs.Common.{◌≡◌, ◌-◌, ◌≤◌, length}
use Rattle.std.proofs.Math.Option.{none}
use Rattle.lists.specs.Scan.{first_answer}
use Rattle.bench_text.specs.Bench.{line_count, line_refusal}
use Rattle.definitions.specs.Reached.{Reached}
use Rattle.read_bench.specs.Noted.{Noted}
use Rattle.read_bench.proofs.check_lines.Given as goal

abbrev pub invariant-loop-at : goal.invariant-loop-at
invariant-loop-at l = record {
  reached : Reached l.text l.j l.at l.above;
  passed : first_answer (λ j. line_refusal l.text j) l.j ≡ none;
  noted : line_count l.text ≤ 4096 → Noted l.text l.records l.j l.above;
}

abbrev pub decreases-loop-at : goal.decreases-loop-at
decreases-loop-at l = length l.text - l.at
