-- The first i pins are names with what belongs behind them.
use Rattle.std.proofs.Common.{◌≡◌, false, not}
use Rattle.lists.specs.Scan.{any_below}
use Rattle.bench_text.specs.Sentence.{is_pin}
use Rattle.tokens.specs.Kept.{all_kept}
use Rattle.sentences.proofs.are_pins.Given as goal

abbrev pub invariant-loop-i : goal.invariant-loop-i
invariant-loop-i l = any_below (λ i. not (is_pin l.text (all_kept l.parts) i)) l.i ≡ false
