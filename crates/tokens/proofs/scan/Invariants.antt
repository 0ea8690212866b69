-- The last `run` bytes before place i belong to a run of name bytes that goes on; the tokens that end before it are kept, and those of the
-- bytes from i on make up, with them, all of the line's.
use Rattle.std.proofs.Common.{◌≡◌, ◌++◌, ◌≤◌}
use Rattle.bench_text.specs.Text.{tokens}
use Rattle.tokens.specs.Kept.{kept}
use Rattle.tokens.proofs.Laws.{rest}
use Rattle.tokens.proofs.scan.Given as goal

abbrev pub invariant-loop-i : goal.invariant-loop-i
invariant-loop-i l =
    record {
      run_in : l.run ≤ l.i;
      few : l.count ≤ 14;
      same : kept l.parts l.count ++ tokens l.i l.run (rest l.text l.to l.i) ≡ tokens l.from 0 (rest l.text l.to l.from);
    }
