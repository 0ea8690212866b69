-- The rows that an accepted text leaves in the table can be listed.
use mathlib.Core.Path.{◌≡◌, ap}
use mathlib.Core.List.{List}
use Prim.Native.Nat.{ℕ, ◌*◌, ◌≤◌, ◌<◌}
use native.Mathlib.Omega.{arith}
use lib.ListN.{length, take}
use lib.Seq.{length-take-le}
use Rattle.std.specs.Prelude.{Result}
use Rattle.model.specs.Refusals.{done}
use Rattle.bench_text.specs.Text.{bytes_of}
use Rattle.bench_text.specs.Bench.{line_count, name_at, bench_records}
use Rattle.bench_text.proofs.Sentences.{length-bytes_of, line-name-ends, line-name-proper}
use Rattle.bench_text.proofs.Records.{length-records}
use Rattle.rules.specs.declared.Refusal.{Refusal}
use Rattle.job.specs.Job.{answer_of}
use Rattle.lookup.specs.Lookup.{row_part}
use Rattle.lookup.proofs.Laws.{held-row}
use Rattle.read_bench.specs.Noted.{Inspected}
use Rattle.names.specs.Named.{Named}

-- the name that a row tells
pub name-short : {text names name : List ℕ} {count : ℕ} → Named text names count → (n : ℕ) → n < count → name ≡ bytes_of text (row_part names n) → length name ≤ 32
name-short {text} {names} named n h e = rw e (omega (arith, length-bytes_of text (row_part names n) (named.row n h).within, named.short n h))

-- a circuit line's name has no more than 32 bytes
line-name-short : (text : List ℕ) (n : ℕ) → n < line_count text → (name_at text n).size ≤ 32
line-name-short text n h = omega (arith, (line-name-proper text n h).most, length-bytes_of text (name_at text n) (line-name-ends text n))

-- there are as many records as lines
records-all : (text records : List ℕ) (n : ℕ) → 12 * n ≤ length records → take (12 * n) records ≡ bench_records text → line_count text ≡ n
records-all text records n room e = omega (arith, length-take-le (12 * n) records room, ap length e, length-records text)

pub accepted-named : {text names heads records : List ℕ} {r : Result ℕ Refusal} {n : ℕ} → Inspected text names heads records r → answer_of r ≡ done n → Named text names n
accepted-named {text} {names} {heads} {records} {r} {n} found e =
    let held = found.held n e in
    let lines : line_count text ≡ n = records-all text records n (found.written n e).0 (found.written n e).1 in
    record {
      few = held.few;
      row = held-row held;
      short = λ m h. omega (arith, held.sizes m h, line-name-short text m (omega arith));
    }
