-- The records in the making: what stands there when a walk has come to a text line.
use Rattle.std.specs.Prelude.{◌≡◌, cond, List, ℕ, ◌*◌, ◌≤◌, ◌<◌, eqb, ltb, get_or, length, set, take, replicate, Result, ⊤}
use Rattle.std.proofs.Math.Option.{none}
use Rattle.lists.specs.Scan.{any_below}
use Rattle.lists.specs.Field.{row_of}
use Rattle.model.specs.Refusals.{answer, done}
use Rattle.bench_text.specs.Text.{text_lines}
use Rattle.bench_text.specs.Bench.{line_count, marks, line_record, bench_records, text_refusal}
use Rattle.job.specs.Job.{answer_of}
use Rattle.lookup.specs.Lookup.{Held}
use Rattle.rules.specs.declared.Refusal.{Refusal}
use Rattle.rules.specs.Check.{refusal_of}
use Rattle.sentences.specs.declared.Line.{Line}
use Rattle.sentences.specs.declared.Sort.TheVariants.{Defines, Output, Nothing, Malformed}
use Rattle.bench_line.specs.Pins.{record_of}

-- line n's record, of text lines below j with so many definitions: nothing yet for a line that is defined further on, and a mark where one of
-- these text lines is OUTPUT of it
unfoldable pub noted : List ℕ → ℕ → ℕ → ℕ → List ℕ
noted text j above n = set (cond (ltb n above) (line_record text n) (replicate 12 0)) 2 (cond (any_below (λ i. marks text n i) j) 1 0)

pub record Noted (text records : List ℕ) (j above : ℕ) : Type 0 where
  pub size : length records ≡ 49152
  pub row : (n : ℕ) → n < 4096 → row_of 12 records n ≡ noted text j above n

-- row m of the records, with line n marked
unfoldable pub marked : List ℕ → ℕ → ℕ → List ℕ
marked records n m = cond (eqb m n) (set (row_of 12 records n) 2 1) (row_of 12 records m)

-- row m of the records, with line n's record written but for its mark
unfoldable pub defined : List ℕ → ℕ → ℕ → ℕ → List ℕ → ℕ → List ℕ
defined records n kind pins lines m = cond (eqb m n) (record_of kind pins (get_or (row_of 12 records n) 2 0) lines) (row_of 12 records m)

-- what writing a text line asks
pub record Noting (records : List ℕ) (count above : ℕ) (l : Line) (lines : List ℕ) : Type 0 where
  pub size : length records ≡ 49152
  pub room : length lines ≡ 4
  pub few : l.pins ≤ 4
  pub output : count ≤ 4096 → l.sort ≡ Output → get_or lines 0 0 < 4096
  pub line : (kind : ℕ) → count ≤ 4096 → l.sort ≡ Defines kind → above < 4096

-- what it writes, where there is room for all lines
pub record NotesLine (old new : List ℕ) (count above : ℕ) (l : Line) (lines : List ℕ) : Type 0 where
  pub size : length new ≡ 49152
  pub output : count ≤ 4096 → l.sort ≡ Output → (m : ℕ) → m < 4096 → row_of 12 new m ≡ marked old (get_or lines 0 0) m
  pub line : (kind : ℕ) → count ≤ 4096 → l.sort ≡ Defines kind → (m : ℕ) → m < 4096 → row_of 12 new m ≡ defined old above kind l.pins lines m
  pub nothing : l.sort ≡ Nothing → new ≡ old
  pub malformed : l.sort ≡ Malformed → new ≡ old

-- where 18 to 20 are passed and there is room for all lines, all are noted
pub record AllNoted (text records : List ℕ) (r : Result ⊤ Refusal) : Type 0 where
  pub size : length records ≡ 49152
  pub all : refusal_of r ≡ none → line_count text ≤ 4096 → Noted text records (text_lines text) (line_count text)

-- Of a text and what was found of it: the answer is how many lines it defines, unless it is refused; where it is not, their names are held and
-- their records written.
pub record Inspected (text names heads records : List ℕ) (r : Result ℕ Refusal) : Type 0 where
  pub answers : answer_of r ≡ answer (text_refusal text) (line_count text)
  pub held : (n : ℕ) → answer_of r ≡ done n → Held text names heads n
  pub written : (n : ℕ) → answer_of r ≡ done n → (12 * n ≤ length records) × (take (12 * n) records ≡ bench_records text)
