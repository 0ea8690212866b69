use mathlib.Core.Path.{◌≡◌, sym, ap, ◌∙◌}
use mathlib.Core.List.{List}
use Prim.Native.Nat.{ℕ}
use lib.ListN.{length}
use native.Mathlib.Omega.{arith}
use Rattle.lists.specs.Scan.{tabulate}
use Rattle.lists.specs.Field.{overwritten}
use Rattle.model.specs.Refusals.{Answer}
use Rattle.model.specs.Generate.{generate_byte, generate_bytes, generate_answer, generate_area}
use Rattle.model.specs.Promises.{GeneratesTest}
use Rattle.model.proofs.Accepted.{generate_ready, answered, turned-away, area-done, area-refused}
use Rattle.model.proofs.Theorems.{generates_test}
use Rattle.std.proofs.lemmas.Result.{err_from_is_err_and}
use Rattle.job.specs.Job.{answer_of}
use Rattle.job.proofs.Laws.{handed_on}
use Rattle.generate.proofs.generate.Goals as goal

-- the promise, of an answer and an area that are the definitions'
promised : (c : List ℕ) (seed units : ℕ) (old : List ℕ) (answer : Answer) (new : List ℕ) → answer ≡ generate_answer c seed units (length old) → new ≡ generate_area c seed units old
    → GeneratesTest c units answer new
promised c seed units old answer new same written = rw (same, written) (generates_test c seed units old)

pub fill-requires : goal.fill-requires
unfolding answer_of generate_answer
fill-requires c =
    let s = c.args in
    let told = answered _ _ _ (sym c.in_ok-size.ensures) in
    omega (arith, (generate_ready s.circuit.now s.seed s.units (length s.res.now) told.0).result_room, told.1)

pub returns-in_err-size : goal.returns-in_err-size
unfolding answer_of generate_answer generate_area
returns-in_err-size c =
    let s = c.args in
    let h = err_from_is_err_and c.from_residual.result c.from_residual.ensures.1 in
    let answer = handed_on h c.in_err-size.ensures in
    let area = sym (area-refused _ _ _ _ (turned-away _ _ _ _ (sym c.in_err-size.ensures))) in
    record { answers = answer; writes = area; promise = promised _ s.seed _ s.res.now _ _ answer area }

pub returns : goal.returns
unfolding answer_of generate_answer generate_bytes generate_area
returns c =
    let s = c.args in
    let told = answered _ _ _ (sym c.in_ok-size.ensures) in
    let answer = c.in_ok-size.ensures in
    let old = s.res.now in
    let area = c.fill.ensures ∙ ap (λ n. overwritten (tabulate (λ b. generate_byte s.seed b) 0 n) old) (sym told.1) ∙ sym (area-done _ _ _ told.0) in
    record { answers = answer; writes = area; promise = promised _ s.seed _ old _ _ answer area }
