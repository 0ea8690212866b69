-- The circuit that a bench text describes, why a text is refused, and what the calls that read one return.
use Rattle.std.specs.Prelude.{ℕ, ◌*◌, Bool, cond, ◌&&◌, List, ◌∷◌, get_or, length, eqb, leb, ltb}
use Rattle.std.proofs.Math.Option
use Rattle.std.proofs.Math.Option.{none, some}
use Rattle.lists.specs.Scan.{◌else◌, first, first_answer, any_below, count_below, select, gather}
use Rattle.lists.specs.Field.{bytes16, overwritten}
use Rattle.model.specs.Refusals.{Refusal, refuse, circuit_rows, row14, Answer, answer, unless_refused}
use Rattle.bench_text.specs.Text.{Part, bytes_of, same, text_lines}
use Rattle.bench_text.specs.Sentence.{Sentence, OUTPUT, MALFORMED, no_part, sentence_at}

module _ (text : List ℕ) where
  -- text line j defines a circuit line; one of none of the forms defines nothing
  unfoldable pub defines : ℕ → Bool
  defines j = leb (sentence_at text j).sort 9

  -- how many definitions stand above text line j
  unfoldable pub lines_above : ℕ → ℕ
  lines_above j = count_below (λ i. defines i) j

  -- Lines are numbered in order of definition: the text lines that define them, and how many there are.
  unfoldable pub definitions : List ℕ
  definitions = select (λ j. defines j) (text_lines text)

  unfoldable pub line_count : ℕ
  line_count = length definitions

  -- the text line's sentence that defines line n, and the name that it gives it there
  unfoldable pub definition_of : ℕ → Sentence
  definition_of n = sentence_at text (get_or definitions n 0)

  unfoldable pub name_at : ℕ → Part
  name_at n = (definition_of n).name

  -- line n has this name
  unfoldable pub named : List ℕ → ℕ → Bool
  named name n = same (bytes_of text (name_at n)) name

  -- the line of this name, the lowest where there are several; where there is none, the number of lines, which is no line
  unfoldable pub line_named : List ℕ → ℕ
  line_named name = Option.get_or (first (λ n. named name n) line_count) line_count

  -- the line that pin i + 1 of a sentence names
  unfoldable pub pin_names : Sentence → ℕ → ℕ
  pin_names s i = line_named (bytes_of text (get_or s.pins i no_part))

  -- A gate's pins must be defined above it; OUTPUT and DFF may name any line.
  unfoldable pub reach : Sentence → ℕ → ℕ
  reach s above = cond (leb 2 s.sort && leb s.sort 9) above line_count

  -- a name that an earlier text line defines, defined again
  unfoldable pub defined_again : Sentence → ℕ → Bool
  defined_again s above = leb s.sort 9 && ltb (line_named (bytes_of text s.name)) above

  -- a name undefined where it must be defined
  unfoldable pub undefined_pin : Sentence → ℕ → Bool
  undefined_pin s above = any_below (λ i. leb (reach s above) (pin_names s i)) (length s.pins)

  -- of a sentence in text line j: 18, a text line of none of these forms; 19; 20
  unfoldable pub sentence_refusal : Sentence → ℕ → ℕ → Refusal
  sentence_refusal s above j =
      refuse (eqb s.sort MALFORMED) 18 j
      else refuse (defined_again s above) 19 j
      else refuse (undefined_pin s above) 20 j

  unfoldable pub line_refusal : ℕ → Refusal
  line_refusal j = sentence_refusal (sentence_at text j) (lines_above j) j

  -- whichever line fails first
  unfoldable pub text_rows : Refusal
  text_rows = first_answer (λ j. line_refusal j) (text_lines text)

  -- text line j is OUTPUT of line n
  unfoldable pub marks : ℕ → ℕ → Bool
  marks n j = eqb (sentence_at text j).sort OUTPUT && eqb (pin_names (sentence_at text j) 0) n

  -- byte 2 of line n's record
  unfoldable pub mark_of : ℕ → ℕ
  mark_of n = cond (any_below (λ j. marks n j) (text_lines text)) 1 0

  -- bytes 4 to 11: the pins in text order; unused ones 0
  unfoldable pub pin_field : Sentence → ℕ → List ℕ
  pin_field s i = bytes16 (cond (ltb i (length s.pins)) (pin_names s i) 0)

  -- line n's 12 bytes
  unfoldable pub line_record : ℕ → List ℕ
  line_record n =
      let s = definition_of n in
      s.sort ∷ length s.pins ∷ mark_of n ∷ 0 ∷ gather (λ i. pin_field s i) 4

  unfoldable pub bench_records : List ℕ
  bench_records = gather (λ n. line_record n) line_count

  -- Refused: 18 to 20, then 1 to 6 on the records, then 14 for the area.
  unfoldable pub text_refusal : Refusal
  text_refusal = text_rows else circuit_rows bench_records

  unfoldable pub read_refusal : ℕ → Refusal
  read_refusal result = text_refusal else row14 (12 * line_count) result

  -- what `read_bench` returns: how many records it wrote
  unfoldable pub read_answer : ℕ → Answer
  read_answer result = answer (read_refusal result) line_count

  -- what its result area holds afterwards, where it held `old`
  unfoldable pub read_area : List ℕ → List ℕ
  read_area old = unless_refused (read_refusal (length old)) (overwritten bench_records old) old

  -- For a listing, the name of a line is the part of the text where it is defined; for a number that is no line, or a text that is refused,
  -- an empty part.
  unfoldable pub part_unless : Refusal → ℕ → Part
  part_unless none n = cond (ltb n line_count) (name_at n) no_part
  part_unless (some r) n = no_part

  unfoldable pub name_part : ℕ → Part
  name_part n = part_unless text_refusal n

  unfoldable pub name_of : ℕ → List ℕ
  name_of n = bytes_of text (name_part n)
