-- The first i pins name lines below `reach`, which are in `lines`.
use Rattle.std.proofs.Common.{◌≡◌, ℕ, ◌<◌, get_or, false}
use lib.Dec.{leb}
use Rattle.lists.specs.Scan.{any_below}
use Rattle.bench_line.specs.Pins.{pin_line_of}
use Rattle.bench_line.proofs.resolve.Given as goal

abbrev pub invariant-loop-i : goal.invariant-loop-i
invariant-loop-i l = record {
  below : any_below (λ i. leb l.reach (pin_line_of l.defined.text.now l.parts l.first i)) l.i ≡ false;
  found : (k : ℕ) → k < l.i → get_or l.lines k 0 ≡ pin_line_of l.defined.text.now l.parts l.first k;
}
