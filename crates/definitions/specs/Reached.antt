-- How far a walk over the text lines has come, and what is known of a text's circuit lines when it has ended.
use Rattle.std.specs.Prelude.{◌≡◌, List, ℕ, ◌≤◌, ◌<◌, length}
use Rattle.bench_text.specs.Text.{line_start}
use Rattle.bench_text.specs.Bench.{lines_above, line_count}
use Rattle.lookup.specs.Lookup.{Held}
use Rattle.definitions.specs.declared.Known.{Known}

-- text line j begins here, with n definitions above it; all those above it begin within the text
pub record Reached (text : List ℕ) (j at n : ℕ) : Type 0 where
  pub begins : at ≡ line_start text j
  pub above : n ≡ lines_above text j
  pub within : (i : ℕ) → i < j → line_start text i < length text

-- How many circuit lines there are; the first of them are held, and the text line behind the last of those begins at `rest`.
pub record Collected (text names heads : List ℕ) (k : Known) : Type 0 where
  pub lines : k.lines ≡ line_count text
  pub held : Held text names heads k.held
  pub few : k.held ≤ k.lines
  pub all : k.lines ≤ 4096 → k.held ≡ k.lines
  pub rest : (j : ℕ) × Reached text j k.rest k.held
