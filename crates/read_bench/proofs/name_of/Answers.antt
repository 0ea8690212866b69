use Rattle.std.proofs.Common.{◌≡◌, Ok, ℕ, ◌≤◌, ◌<◌, refl, sym, ◌∙◌, arith}
use Rattle.bench_text.specs.Text.{bytes_of}
use Rattle.bench_text.specs.Sentence.{no_part}
use Rattle.bench_text.specs.Bench.{line_count}
use Rattle.job.specs.Job.{answer_of}
use Rattle.lookup.proofs.Laws.{none-held, held-row, held-part}
use Rattle.read_bench.proofs.Found.{text-accepted, part_behind, part-line, handed}
use Rattle.read_bench.proofs.name_of.Goals.{in_default-via-in-Ok+else-line-count, in_default-via-in_default}
use Rattle.read_bench.proofs.name_of.Goals as goal

pub inspect-requires : goal.inspect-requires
inspect-requires c = (none-held _, refl)

-- the line is one of its lines
pub name-requires : goal.name-requires
unfolding answer_of
name-requires c = held-row (c.in-Ok.ensures.held _ refl) _ c.if-line-count.true

pub returns-in-Ok : goal.returns-in-Ok
unfolding answer_of
returns-in-Ok c =
    let is = text-accepted c.in-Ok.ensures in
    let row = held-part (c.in-Ok.ensures.held _ refl) _ c.if-line-count.true in
    let within : c.args.line < line_count c.args.text.now = omega (arith, is.1, c.if-line-count.true) in
    let told = handed _ _ _ _ (part-line _ _ is.0 within ∙ sym row) in
    let name = c.name.ensures in
    record { bytes = name.bytes ∙ told.0; place = (name.place.0, name.place.1 ∙ told.1) }

-- it is none, and what is handed back is the empty part
pub returns-in_default : goal.returns-in_default
unfolding bytes_of
returns-in_default c =
    let behind : (count : ℕ) → c.inspect.result ≡ Ok count → count ≤ c.args.line = λ count e. elim c.in_default.branch [
      | in_default-via-in-Ok+else-line-count w ↦ (let same : count ≡ w.in-Ok.count = cc in omega (arith, same, w.if-line-count.false))
      | in_default-via-in_default w ↦ absurd (w.in_default.not-Ok count e)
    ] in
    let told = handed c.args.text.now c.args.line c.args.text.ref_ptr.1 no_part (part_behind c.inspect.ensures c.args.line behind) in
    record { bytes = told.0; place = (refl, told.1) }
