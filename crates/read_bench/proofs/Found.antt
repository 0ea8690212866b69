-- What is found of a text: that it is refused, or its lines.
use mathlib.Core.Path.{◌≡◌, refl, sym, ap, ◌∙◌}
use mathlib.Core.Bool.{Bool, true, false, not, ◌||◌}
use mathlib.Core.List.{List}
use mathlib.Core.Option.{none, some, some-ne-none}
use Prim.Native.Nat.{ℕ, ◌+◌, ◌*◌, ◌%◌, ◌≤◌, ◌<◌}
use lib.Dec.{eqb, ltb}
use native.Mathlib.Omega.{arith}
use lib.ListN.{length, take}
use borrow.Author.Tests.{ltb-true, lt-ltb, le-ltb}
use Rattle.std.specs.Prelude.{Result, Ok, Err}
use Rattle.lists.proofs.Tests.{by-test}
use Rattle.lists.proofs.Scan.{else_found}
use Rattle.model.specs.Refusals.{refuse, row1, circuit_rows, done, refused, answer}
use Rattle.model.proofs.Accepted.{answered, turned-away}
use Rattle.bench_text.specs.Text.{Part, bytes_of}
use Rattle.bench_text.specs.Sentence.{no_part}
use Rattle.bench_text.specs.Bench.{line_count, bench_records, text_refusal, name_at, part_unless, name_part, name_of}
use Rattle.bench_text.proofs.Records.{length-records}
use Rattle.rules.specs.declared.Refusal.{Refusal}
use Rattle.rules.specs.Check.{number_of}
use Rattle.rules.proofs.Laws.{HandsOn}
use Rattle.job.specs.Job.{answer_of}
use Rattle.job.proofs.Laws.{handed_on, refuses}
use Rattle.lookup.specs.Lookup.{Held}
use Rattle.read_bench.specs.Noted.{Inspected}

-- what an answer that is one of the two cases stands for
pub done-told : {r : Result ℕ Refusal} {n : ℕ} → r ≡ Ok n → answer_of r ≡ done n
unfolding answer_of
done-told e = ap answer_of e

pub refused-told : {r : Result ℕ Refusal} {e : Refusal} → r ≡ Err e → answer_of r ≡ refused (number_of e.rule) e.at
unfolding answer_of
refused-told e = ap answer_of e

refused-done : (rule at n : ℕ) → refused rule at ≡ done n → ⊥
refused-done rule at n e = let z : ◌≡◌ {A = ℕ} 0 1 = cc in (let w : ⊥ = omega arith in w)

done-is : (n m : ℕ) → done n ≡ done m → n ≡ m
done-is n m e = cc

-- more than 4,096 lines break row 1
or-last : (t : Bool) → t || true ≡ true
or-last true = refl
or-last false = refl

long-row : (c : List ℕ) → 49152 < length c → row1 c ≡ some (1, 0)
unfolding row1 refuse
long-row c h = rw (lt-ltb 49152 (length c) h, or-last (eqb (length c) 0 || not (eqb (length c % 12) 0)))

pub many-lines : (text : List ℕ) {q : ℕ × ℕ} → some q ≡ refuse (ltb 4096 (line_count text)) 1 0 → some q ≡ circuit_rows (bench_records text)
unfolding circuit_rows refuse
many-lines text {q} e = by-test (ltb 4096 (line_count text))
    (λ t. rw t at e ∙ sym (else_found (row1 (bench_records text)) _ _ (long-row (bench_records text) (omega (arith, length-records text, ltb-true _ _ t)))))
    (λ f. absurd (some-ne-none q (rw f at e)))

-- what `inspect` says of a text: that it is refused, or how many lines it has
module _ {text names heads records : List ℕ} where
  pub found-refused : {r : Result ℕ Refusal} {e : Refusal} → HandsOn r e → some (number_of e.rule, e.at) ≡ text_refusal text → Inspected text names heads records r
  unfolding answer_of
  found-refused {r} {e} h broken =
      let told : answer_of r ≡ refused (number_of e.rule) e.at = handed_on h refl in
      record {
        answers = refuses _ h broken;
        held = λ n is. absurd (refused-done _ _ n (sym told ∙ is));
        written = λ n is. absurd (refused-done _ _ n (sym told ∙ is));
      }

  pub found-lines : {count : ℕ} → count ≡ line_count text → none ≡ text_refusal text → Held text names heads count → (12 * line_count text ≤ length records) × (take (12 * line_count text) records ≡ bench_records text)
      → Inspected text names heads records (Ok count)
  unfolding answer_of answer
  found-lines {count} all e held written =
      record {
        answers = rw (← e, ← all) refl;
        held = λ n is. rw (← done-is count n is) held;
        written = λ n is. rw (← done-is count n is, all) written;
      }

pub held_as : (text names heads : List ℕ) (n m : ℕ) → m ≡ n → Held text names heads n → Held text names heads m
held_as text names heads n m e held = rw e held

-- ---- from what was found
module _ {text names heads records : List ℕ} where
  pub text-refused : {e : Refusal} → Inspected text names heads records (Err e) → text_refusal text ≡ some (number_of e.rule, e.at)
  unfolding answer_of
  text-refused found = turned-away _ _ _ _ (sym found.answers)

  pub text-accepted : {n : ℕ} → Inspected text names heads records (Ok n) → (text_refusal text ≡ none) × (line_count text ≡ n)
  unfolding answer_of
  text-accepted found = answered _ _ _ (sym found.answers)

-- ---- the part that is line n's name: of a number that is no line, or of a text that is refused, the empty one
module _ (text : List ℕ) (n : ℕ) where
  pub part-refused : (q : ℕ × ℕ) → text_refusal text ≡ some q → name_part text n ≡ no_part
  unfolding name_part part_unless
  part-refused q e = rw e

  pub part_none : text_refusal text ≡ none → line_count text ≤ n → name_part text n ≡ no_part
  unfolding name_part part_unless
  part_none e h = rw (e, le-ltb n (line_count text) h)

  pub part-line : text_refusal text ≡ none → n < line_count text → name_part text n ≡ name_at text n
  unfolding name_part part_unless
  part-line e h = rw (e, lt-ltb n (line_count text) h)

-- no line of this number was found: the text is refused, or has fewer lines
pub part_behind : {text names heads records : List ℕ} {r : Result ℕ Refusal} → Inspected text names heads records r → (n : ℕ) → ((count : ℕ) → r ≡ Ok count → count ≤ n) → name_part text n ≡ no_part
part_behind {text} {r = Ok count} found n h = let is = text-accepted found in part_none text n is.0 (omega (arith, is.1, h count refl))
part_behind {text} {r = Err e} found n h = part-refused text n _ (text-refused found)

-- what is handed back of it, where it begins at this place of the text
pub handed : (text : List ℕ) (n from : ℕ) (p : Part) → name_part text n ≡ p → (bytes_of text p ≡ name_of text n) × (p.at + from ≡ (name_part text n).at + from)
unfolding name_of
handed text n from p e = rw e (refl, refl)
