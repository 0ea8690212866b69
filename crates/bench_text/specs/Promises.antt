-- What is promised of the records that `read_bench` writes, for every text. The theorems are in proofs/Theorems.
use Rattle.std.specs.Prelude.{◌≡◌, ◌↔◌, ℕ, suc, ◌*◌, ◌≤◌, ◌<◌, true, List, get_or, length, take}
use Rattle.std.proofs.Math.Option.{none}
use Rattle.lists.specs.Scan.{first_answer}
use Rattle.model.specs.Inputs.{N, kind, pin_count, pin_line, is_output}
use Rattle.model.specs.Refusals.{row1, rows2to5, circuit_rows, Answer, done}
use Rattle.bench_text.specs.Text.{bytes_of, text_lines, is_name_byte}
use Rattle.bench_text.specs.Sentence.{Sentence, OUTPUT, no_part, sentence_at}
use Rattle.bench_text.specs.Bench.{definition_of, line_count, text_rows, bench_records, name_of}

-- the name that stands as pin i + 1 of a sentence
abbrev pub pin_name : List ℕ → Sentence → ℕ → List ℕ
pin_name text s i = bytes_of text (get_or s.pins i no_part)

-- 1 to 32 letters, digits or underscores
pub record ProperName (name : List ℕ) : Type 0 where
  pub some : 1 ≤ length name
  pub most : length name ≤ 32
  pub bytes : (i : ℕ) → i < length name → is_name_byte (get_or name i 0) ≡ true

-- Of n records c: rows 1 to 6 pass them; there are as many as definitions; each line has the kind, as many pins and the name that its text
-- line gives it; a pin names the line whose name stands there; a line is an output exactly where an OUTPUT has its name; names are 1 to 32
-- letters, digits or underscores; and two lines never have one name.
pub record WellRead (text : List ℕ) (n : ℕ) (c : List ℕ) : Type 0 where
  pub accepted : circuit_rows c ≡ none
  pub size : N c ≡ n
  pub all : line_count text ≡ n
  pub kinds : (m : ℕ) → m < n → kind c m ≡ (definition_of text m).sort
  pub pin_counts : (m : ℕ) → m < n → pin_count c m ≡ length (definition_of text m).pins
  pub given : (m : ℕ) → m < n → name_of text m ≡ bytes_of text (definition_of text m).name
  pub pins : (m i : ℕ) → m < n → i < pin_count c m → name_of text (pin_line c m (suc i)) ≡ pin_name text (definition_of text m) i
  pub outputs : (m : ℕ) → m < n → (is_output c m ≡ true)
      ↔ ((j : ℕ) × (j < text_lines text) × ((sentence_at text j).sort ≡ OUTPUT) × (pin_name text (sentence_at text j) 0 ≡ name_of text m))
  pub names : (m : ℕ) → m < n → ProperName (name_of text m)
  pub distinct : (a b : ℕ) → a < n → b < n → name_of text a ≡ name_of text b → a ≡ b

-- that of the records at the beginning of an area that `read_bench` has written, as many as its answer says: a clause of its contract
abbrev pub ReadsBench : List ℕ → Answer → List ℕ → Type 0
ReadsBench text answer new = (n : ℕ) → answer ≡ done n → WellRead text n (take (12 * n) new)

-- Of a text that 18 to 20 pass, with at least one definition and no more than 4,096, the records break none of rows 2 to 5.
abbrev pub KeepsRows2to5 : List ℕ → Type 0
KeepsRows2to5 text = text_rows text ≡ none → row1 (bench_records text) ≡ none → first_answer (λ n. rows2to5 (bench_records text) n) (N (bench_records text)) ≡ none
