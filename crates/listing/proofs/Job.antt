-- What Grade answers and writes, and the lines of the job.
use mathlib.Core.Path.{◌≡◌, refl, ap, ◌∙◌}
use mathlib.Core.List.{List}
use mathlib.Core.Option.{none, some}
use Prim.Native.Nat.{ℕ, ◌*◌, ◌≤◌}
use native.Mathlib.Omega.{arith}
use lib.ListN.{length, take}
use lib.Seq.{take_at}
use Rattle.lists.specs.Field.{overwritten}
use Rattle.model.specs.Inputs.{fault_count}
use Rattle.std.specs.Prelude.{Result, Ok, Err}
use Rattle.model.specs.Refusals.{answer, grade_refusal}
use Rattle.model.specs.Refusals as model
use Rattle.model.specs.Grade.{grade_bytes, grade_answer, grade_area}
use Rattle.model.specs.Listing.{refused_line, job_lines}
use Rattle.model.proofs.Accepted.{grade_ready, area-done}
use Rattle.model.proofs.Records.{length-grade_bytes}
use Rattle.rules.specs.Check.{number_of}
use Rattle.rules.specs.declared.Refusal.{Refusal}
use Rattle.job.specs.Job.{answer_of}
use Rattle.listing.specs.Print.{job_print}

-- ---- an answer and the refusal behind it
module _ (size : ℕ) {r : Result ℕ Refusal} where
  done_none : (rows : model.Refusal) (n : ℕ) → answer_of r ≡ answer rows size → r ≡ Ok n → (rows ≡ none) × (n ≡ size)
  unfolding answer_of answer
  done_none none n e d = (refl, cc)
  done_none (some q) n e d = absurd (let z : ◌≡◌ {A = ℕ} 0 1 = cc in let w : ⊥ = omega arith in w)

  refused-some : (rows : model.Refusal) (q : Refusal) → answer_of r ≡ answer rows size → r ≡ Err q → rows ≡ some (number_of q.rule, q.at)
  unfolding answer_of answer
  refused-some none q e d = absurd (let z : ◌≡◌ {A = ℕ} 0 1 = cc in let w : ⊥ = omega arith in w)
  refused-some (some (number, place)) q e d = cc

-- ---- the lines of the job
pub record Graded (c t fs p : List ℕ) (r : Result ℕ Refusal) (area : List ℕ) : Type 0 where
  pub refused : (q : Refusal) → r ≡ Err q → refused_line (number_of q.rule) q.at ≡ job_print c t fs p
  pub all : (n : ℕ) → r ≡ Ok n → n ≡ fault_count fs
  pub few : (n : ℕ) → r ≡ Ok n → n ≤ 4096
  pub lines : (n : ℕ) → r ≡ Ok n → job_lines none fs (take (16 * n) area) ≡ job_print c t fs p

module _ (c t fs p : List ℕ) (work : ℕ) (old area : List ℕ) (w : work ≡ 65536) (l : length old ≡ 65536) {r : Result ℕ Refusal} (e : answer_of r ≡ grade_answer c t fs p 6 work (length old)) where
  refused_print : (q : Refusal) → r ≡ Err q → refused_line (number_of q.rule) q.at ≡ job_print c t fs p
  unfolding grade_answer job_print job_lines
  refused_print q d =
      let broken : grade_refusal c t fs p 6 65536 65536 ≡ some (number_of q.rule, q.at) = rw (w, l) at (refused-some (fault_count fs) (grade_refusal c t fs p 6 work (length old)) q e d) in
      rw broken

  accepted : (n : ℕ) → r ≡ Ok n → (grade_refusal c t fs p 6 work (length old) ≡ none) × (n ≡ fault_count fs)
  unfolding grade_answer
  accepted n d = done_none (fault_count fs) _ n e d

  graded_print : area ≡ grade_area c t fs p 6 work old → (n : ℕ) → r ≡ Ok n → job_lines none fs (take (16 * n) area) ≡ job_print c t fs p
  unfolding grade_area overwritten job_print job_lines
  graded_print a n d =
      let passed = (accepted n d).0 in
      let whole : grade_refusal c t fs p 6 65536 65536 ≡ none = rw (w, l) at passed in
      let long : length (grade_bytes c t fs p 6) ≡ 16 * n = omega (arith, length-grade_bytes c t fs p 6, (accepted n d).1) in
      let records : take (16 * n) area ≡ grade_bytes c t fs p 6 = ap (take (16 * n)) (a ∙ area-done _ _ old passed) ∙ take_at (grade_bytes c t fs p 6) _ (16 * n) long in
      rw (whole, records)

  pub graded : area ≡ grade_area c t fs p 6 work old → Graded c t fs p r area
  graded a = record {
    refused = refused_print;
    all = λ n d. (accepted n d).1;
    few = λ n d. omega (arith, (grade_ready c t fs p 6 work (length old) (accepted n d).0).result_room, (accepted n d).1);
    lines = graded_print a;
  }
