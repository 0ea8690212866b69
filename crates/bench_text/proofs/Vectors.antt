-- What texts are refused by, and what some describe, computed. The expected results are those of an independent reader.
use mathlib.Core.Path.{◌≡◌, refl}
use mathlib.Core.List.{List, [], ◌∷◌}
use mathlib.Core.Option.{or_else}
use Prim.Native.Nat.{ℕ}
use lib.ListN.{replicate}
use Rattle.lists.specs.Scan.{first, first_answer, any_below, count_below, select, tabulate, gather}
use Rattle.lists.specs.Field.{word16, bytes16, overwritten}
use Rattle.model.specs.Inputs.{N, kind, pin_count, output_mark, spare_byte, pin_line, is_input, is_flip_flop, is_gate, is_output, I, F, O}
use Rattle.model.specs.Refusals.{refuse, row1, pins_fit, unused_named, stray_bytes, misnamed, misnames, rows2to5, row6, circuit_rows, row14, refused, answer, unless_refused}
use Rattle.bench_text.specs.Text.{bytes_of, same, up_to, line_bytes, next_line, line_start, text_lines, is_name_byte, run_before, byte_at, tokens, line_tokens}
use Rattle.bench_text.specs.Sentence.{kind_from, kind_of, token, is, is_name, is_call, pin_tokens, is_pin, line_kind, is_head, is_line, gate_sentence, sentence, sentence_from, sentence_at}
use Rattle.bench_text.specs.Bench.{defines, lines_above, definitions, line_count, definition_of, name_at, named, line_named, pin_names, reach, defined_again, undefined_pin, sentence_refusal, line_refusal, text_rows, marks, mark_of, pin_field, line_record, bench_records, text_refusal, read_refusal, read_answer, read_area, part_unless, name_part, name_of}

-- every definition that a result is computed from: to unfold this is to unfold them all
unfoldable computes : List ℕ
unfolding or_else first first_answer any_below count_below select tabulate gather word16 bytes16 overwritten N kind pin_count output_mark spare_byte pin_line is_input is_flip_flop is_gate is_output I F O refuse row1 pins_fit unused_named stray_bytes misnamed misnames rows2to5 row6 circuit_rows row14 answer unless_refused bytes_of same up_to line_bytes next_line line_start text_lines is_name_byte run_before byte_at tokens line_tokens kind_from kind_of token is is_name is_call pin_tokens is_pin line_kind is_head is_line gate_sentence sentence sentence_from sentence_at defines lines_above definitions line_count definition_of name_at named line_named pin_names reach defined_again undefined_pin sentence_refusal line_refusal text_rows marks mark_of pin_field line_record bench_records text_refusal read_refusal read_answer read_area part_unless name_part name_of
computes = []

pub refusals :
    -- a text line of none of the forms defines nothing: `OUTPUT(z)` / `INPUT(a)` / `z = AND(a)`
    (read_answer (79 ∷ 85 ∷ 84 ∷ 80 ∷ 85 ∷ 84 ∷ 40 ∷ 122 ∷ 41 ∷ 10 ∷ 73 ∷ 78 ∷ 80 ∷ 85 ∷ 84 ∷ 40 ∷ 97 ∷ 41 ∷ 10 ∷ 122 ∷ 32 ∷ 61 ∷ 32 ∷ 65 ∷ 78 ∷ 68 ∷ 40 ∷ 97 ∷ 41 ∷ 10 ∷ []) 60000 ≡ refused 20 0)
    -- one that fails by 20 defines: `OUTPUT(z)` / `z = NOT(q)`
    × (read_answer (79 ∷ 85 ∷ 84 ∷ 80 ∷ 85 ∷ 84 ∷ 40 ∷ 122 ∷ 41 ∷ 10 ∷ 122 ∷ 32 ∷ 61 ∷ 32 ∷ 78 ∷ 79 ∷ 84 ∷ 40 ∷ 113 ∷ 41 ∷ 10 ∷ []) 60000 ≡ refused 20 1)
    -- 19 before 20: `INPUT(a)` / `a = NOT(q)`
    × (read_answer (73 ∷ 78 ∷ 80 ∷ 85 ∷ 84 ∷ 40 ∷ 97 ∷ 41 ∷ 10 ∷ 97 ∷ 32 ∷ 61 ∷ 32 ∷ 78 ∷ 79 ∷ 84 ∷ 40 ∷ 113 ∷ 41 ∷ 10 ∷ []) 60000 ≡ refused 19 1)
    -- byte 13 ends no text line and is not free: `INPUT(a)<13>` / `OUTPUT(a)<13>`
    × (read_answer (73 ∷ 78 ∷ 80 ∷ 85 ∷ 84 ∷ 40 ∷ 97 ∷ 41 ∷ 13 ∷ 10 ∷ 79 ∷ 85 ∷ 84 ∷ 80 ∷ 85 ∷ 84 ∷ 40 ∷ 97 ∷ 41 ∷ 13 ∷ 10 ∷ []) 60000 ≡ refused 18 0)
    -- a keyword by its first letters: `INPUT(b)` / `a = BUF(b)` / `OUTPUT(a)`
    × (read_answer (73 ∷ 78 ∷ 80 ∷ 85 ∷ 84 ∷ 40 ∷ 98 ∷ 41 ∷ 10 ∷ 97 ∷ 32 ∷ 61 ∷ 32 ∷ 66 ∷ 85 ∷ 70 ∷ 40 ∷ 98 ∷ 41 ∷ 10 ∷ 79 ∷ 85 ∷ 84 ∷ 80 ∷ 85 ∷ 84 ∷ 40 ∷ 97 ∷ 41 ∷ 10 ∷ []) 60000 ≡ refused 18 1)
    -- a name is missing: `INPUT(b)` / `INPUT(c)` / `a = AND(b,,c)` / `OUTPUT(a)`
    × (read_answer (73 ∷ 78 ∷ 80 ∷ 85 ∷ 84 ∷ 40 ∷ 98 ∷ 41 ∷ 10 ∷ 73 ∷ 78 ∷ 80 ∷ 85 ∷ 84 ∷ 40 ∷ 99 ∷ 41 ∷ 10 ∷ 97 ∷ 32 ∷ 61 ∷ 32 ∷ 65 ∷ 78 ∷ 68 ∷ 40 ∷ 98 ∷ 44 ∷ 44 ∷ 99 ∷ 41 ∷ 10 ∷ 79 ∷ 85 ∷ 84 ∷ 80 ∷ 85 ∷ 84 ∷ 40 ∷ 97 ∷ 41 ∷ 10 ∷ []) 60000 ≡ refused 18 2)
    -- two forms in one text line: `INPUT(a) OUTPUT(a)`
    × (read_answer (73 ∷ 78 ∷ 80 ∷ 85 ∷ 84 ∷ 40 ∷ 97 ∷ 41 ∷ 32 ∷ 79 ∷ 85 ∷ 84 ∷ 80 ∷ 85 ∷ 84 ∷ 40 ∷ 97 ∷ 41 ∷ 10 ∷ []) 60000 ≡ refused 18 0)
    -- a pin count that document 01 does not allow: `INPUT(b)` / `INPUT(c)` / `q = DFF(b, c)` / `OUTPUT(q)`
    × (read_answer (73 ∷ 78 ∷ 80 ∷ 85 ∷ 84 ∷ 40 ∷ 98 ∷ 41 ∷ 10 ∷ 73 ∷ 78 ∷ 80 ∷ 85 ∷ 84 ∷ 40 ∷ 99 ∷ 41 ∷ 10 ∷ 113 ∷ 32 ∷ 61 ∷ 32 ∷ 68 ∷ 70 ∷ 70 ∷ 40 ∷ 98 ∷ 44 ∷ 32 ∷ 99 ∷ 41 ∷ 10 ∷ 79 ∷ 85 ∷ 84 ∷ 80 ∷ 85 ∷ 84 ∷ 40 ∷ 113 ∷ 41 ∷ 10 ∷ []) 60000 ≡ refused 18 2)
    -- a gate is not above itself: `INPUT(b)` / `a = NOT(a)` / `OUTPUT(a)`
    × (read_answer (73 ∷ 78 ∷ 80 ∷ 85 ∷ 84 ∷ 40 ∷ 98 ∷ 41 ∷ 10 ∷ 97 ∷ 32 ∷ 61 ∷ 32 ∷ 78 ∷ 79 ∷ 84 ∷ 40 ∷ 97 ∷ 41 ∷ 10 ∷ 79 ∷ 85 ∷ 84 ∷ 80 ∷ 85 ∷ 84 ∷ 40 ∷ 97 ∷ 41 ∷ 10 ∷ []) 60000 ≡ refused 20 1)
    -- text lines that are passed over count: `# c` / `` / `   ` / `INPUT(a)` / `  # d` / `OUTPUT(a)` / `x`
    × (read_answer (35 ∷ 32 ∷ 99 ∷ 10 ∷ 10 ∷ 32 ∷ 32 ∷ 32 ∷ 10 ∷ 73 ∷ 78 ∷ 80 ∷ 85 ∷ 84 ∷ 40 ∷ 97 ∷ 41 ∷ 10 ∷ 32 ∷ 32 ∷ 35 ∷ 32 ∷ 100 ∷ 10 ∷ 79 ∷ 85 ∷ 84 ∷ 80 ∷ 85 ∷ 84 ∷ 40 ∷ 97 ∷ 41 ∷ 10 ∷ 120 ∷ 10 ∷ []) 60000 ≡ refused 18 6)
    -- no definition: no byte
    × (read_answer ([]) 60000 ≡ refused 1 0)
    -- a name of 33 bytes: `INPUT(abcdefghijklmnopqrstuvwxyz_012345)` / `OUTPUT(abcdefghijklmnopqrstuvwxyz_012345)`
    × (read_answer (73 ∷ 78 ∷ 80 ∷ 85 ∷ 84 ∷ 40 ∷ 97 ∷ 98 ∷ 99 ∷ 100 ∷ 101 ∷ 102 ∷ 103 ∷ 104 ∷ 105 ∷ 106 ∷ 107 ∷ 108 ∷ 109 ∷ 110 ∷ 111 ∷ 112 ∷ 113 ∷ 114 ∷ 115 ∷ 116 ∷ 117 ∷ 118 ∷ 119 ∷ 120 ∷ 121 ∷ 122 ∷ 95 ∷ 48 ∷ 49 ∷ 50 ∷ 51 ∷ 52 ∷ 53 ∷ 41 ∷ 10 ∷ 79 ∷ 85 ∷ 84 ∷ 80 ∷ 85 ∷ 84 ∷ 40 ∷ 97 ∷ 98 ∷ 99 ∷ 100 ∷ 101 ∷ 102 ∷ 103 ∷ 104 ∷ 105 ∷ 106 ∷ 107 ∷ 108 ∷ 109 ∷ 110 ∷ 111 ∷ 112 ∷ 113 ∷ 114 ∷ 115 ∷ 116 ∷ 117 ∷ 118 ∷ 119 ∷ 120 ∷ 121 ∷ 122 ∷ 95 ∷ 48 ∷ 49 ∷ 50 ∷ 51 ∷ 52 ∷ 53 ∷ 41 ∷ 10 ∷ []) 60000 ≡ refused 18 0)
unfolding computes
refusals = (refl, refl, refl, refl, refl, refl, refl, refl, refl, refl, refl, refl)

-- the whole area, with a byte behind the records, and the names
pub circuits :
    -- `INPUT(b)` / `INPUT(c)` / `a = NAND(b, c)` / `OUTPUT(a)`
    (read_area (73 ∷ 78 ∷ 80 ∷ 85 ∷ 84 ∷ 40 ∷ 98 ∷ 41 ∷ 10 ∷ 73 ∷ 78 ∷ 80 ∷ 85 ∷ 84 ∷ 40 ∷ 99 ∷ 41 ∷ 10 ∷ 97 ∷ 32 ∷ 61 ∷ 32 ∷ 78 ∷ 65 ∷ 78 ∷ 68 ∷ 40 ∷ 98 ∷ 44 ∷ 32 ∷ 99 ∷ 41 ∷ 10 ∷ 79 ∷ 85 ∷ 84 ∷ 80 ∷ 85 ∷ 84 ∷ 40 ∷ 97 ∷ 41 ∷ 10 ∷ []) (replicate 37 7) ≡ 0 ∷ 0 ∷ 0 ∷ 0 ∷ 0 ∷ 0 ∷ 0 ∷ 0 ∷ 0 ∷ 0 ∷ 0 ∷ 0 ∷ 0 ∷ 0 ∷ 0 ∷ 0 ∷ 0 ∷ 0 ∷ 0 ∷ 0 ∷ 0 ∷ 0 ∷ 0 ∷ 0 ∷ 5 ∷ 2 ∷ 1 ∷ 0 ∷ 0 ∷ 0 ∷ 1 ∷ 0 ∷ 0 ∷ 0 ∷ 0 ∷ 0 ∷ 7 ∷ [])
    × (name_of (73 ∷ 78 ∷ 80 ∷ 85 ∷ 84 ∷ 40 ∷ 98 ∷ 41 ∷ 10 ∷ 73 ∷ 78 ∷ 80 ∷ 85 ∷ 84 ∷ 40 ∷ 99 ∷ 41 ∷ 10 ∷ 97 ∷ 32 ∷ 61 ∷ 32 ∷ 78 ∷ 65 ∷ 78 ∷ 68 ∷ 40 ∷ 98 ∷ 44 ∷ 32 ∷ 99 ∷ 41 ∷ 10 ∷ 79 ∷ 85 ∷ 84 ∷ 80 ∷ 85 ∷ 84 ∷ 40 ∷ 97 ∷ 41 ∷ 10 ∷ []) 2 ≡ 97 ∷ [])
    × (name_of (73 ∷ 78 ∷ 80 ∷ 85 ∷ 84 ∷ 40 ∷ 98 ∷ 41 ∷ 10 ∷ 73 ∷ 78 ∷ 80 ∷ 85 ∷ 84 ∷ 40 ∷ 99 ∷ 41 ∷ 10 ∷ 97 ∷ 32 ∷ 61 ∷ 32 ∷ 78 ∷ 65 ∷ 78 ∷ 68 ∷ 40 ∷ 98 ∷ 44 ∷ 32 ∷ 99 ∷ 41 ∷ 10 ∷ 79 ∷ 85 ∷ 84 ∷ 80 ∷ 85 ∷ 84 ∷ 40 ∷ 97 ∷ 41 ∷ 10 ∷ []) 3 ≡ [])
    -- a flip-flop may name itself: `INPUT(b)` / `q = DFF(q)` / `OUTPUT(q)`
    × (read_area (73 ∷ 78 ∷ 80 ∷ 85 ∷ 84 ∷ 40 ∷ 98 ∷ 41 ∷ 10 ∷ 113 ∷ 32 ∷ 61 ∷ 32 ∷ 68 ∷ 70 ∷ 70 ∷ 40 ∷ 113 ∷ 41 ∷ 10 ∷ 79 ∷ 85 ∷ 84 ∷ 80 ∷ 85 ∷ 84 ∷ 40 ∷ 113 ∷ 41 ∷ 10 ∷ []) (replicate 25 7) ≡ 0 ∷ 0 ∷ 0 ∷ 0 ∷ 0 ∷ 0 ∷ 0 ∷ 0 ∷ 0 ∷ 0 ∷ 0 ∷ 0 ∷ 1 ∷ 1 ∷ 1 ∷ 0 ∷ 1 ∷ 0 ∷ 0 ∷ 0 ∷ 0 ∷ 0 ∷ 0 ∷ 0 ∷ 7 ∷ [])
    × (name_of (73 ∷ 78 ∷ 80 ∷ 85 ∷ 84 ∷ 40 ∷ 98 ∷ 41 ∷ 10 ∷ 113 ∷ 32 ∷ 61 ∷ 32 ∷ 68 ∷ 70 ∷ 70 ∷ 40 ∷ 113 ∷ 41 ∷ 10 ∷ 79 ∷ 85 ∷ 84 ∷ 80 ∷ 85 ∷ 84 ∷ 40 ∷ 113 ∷ 41 ∷ 10 ∷ []) 1 ≡ 113 ∷ [])
    × (name_of (73 ∷ 78 ∷ 80 ∷ 85 ∷ 84 ∷ 40 ∷ 98 ∷ 41 ∷ 10 ∷ 113 ∷ 32 ∷ 61 ∷ 32 ∷ 68 ∷ 70 ∷ 70 ∷ 40 ∷ 113 ∷ 41 ∷ 10 ∷ 79 ∷ 85 ∷ 84 ∷ 80 ∷ 85 ∷ 84 ∷ 40 ∷ 113 ∷ 41 ∷ 10 ∷ []) 2 ≡ [])
    -- OUTPUT before the definition; a last text line without byte 10: `OUTPUT(a)` / `INPUT(a)`
    × (read_area (79 ∷ 85 ∷ 84 ∷ 80 ∷ 85 ∷ 84 ∷ 40 ∷ 97 ∷ 41 ∷ 10 ∷ 73 ∷ 78 ∷ 80 ∷ 85 ∷ 84 ∷ 40 ∷ 97 ∷ 41 ∷ []) (replicate 13 7) ≡ 0 ∷ 0 ∷ 1 ∷ 0 ∷ 0 ∷ 0 ∷ 0 ∷ 0 ∷ 0 ∷ 0 ∷ 0 ∷ 0 ∷ 7 ∷ [])
    × (name_of (79 ∷ 85 ∷ 84 ∷ 80 ∷ 85 ∷ 84 ∷ 40 ∷ 97 ∷ 41 ∷ 10 ∷ 73 ∷ 78 ∷ 80 ∷ 85 ∷ 84 ∷ 40 ∷ 97 ∷ 41 ∷ []) 0 ≡ 97 ∷ [])
    × (name_of (79 ∷ 85 ∷ 84 ∷ 80 ∷ 85 ∷ 84 ∷ 40 ∷ 97 ∷ 41 ∷ 10 ∷ 73 ∷ 78 ∷ 80 ∷ 85 ∷ 84 ∷ 40 ∷ 97 ∷ 41 ∷ []) 1 ≡ [])
    -- an area that is one byte too short
    × (read_answer (73 ∷ 78 ∷ 80 ∷ 85 ∷ 84 ∷ 40 ∷ 98 ∷ 41 ∷ 10 ∷ 73 ∷ 78 ∷ 80 ∷ 85 ∷ 84 ∷ 40 ∷ 99 ∷ 41 ∷ 10 ∷ 97 ∷ 32 ∷ 61 ∷ 32 ∷ 78 ∷ 65 ∷ 78 ∷ 68 ∷ 40 ∷ 98 ∷ 44 ∷ 32 ∷ 99 ∷ 41 ∷ 10 ∷ 79 ∷ 85 ∷ 84 ∷ 80 ∷ 85 ∷ 84 ∷ 40 ∷ 97 ∷ 41 ∷ 10 ∷ []) 35 ≡ refused 14 0)
unfolding computes
circuits = (refl, refl, refl, refl, refl, refl, refl, refl, refl, refl)
