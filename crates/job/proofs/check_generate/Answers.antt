use mathlib.Core.Path.{◌≡◌, refl, sym, ap, ◌∙◌}
use mathlib.Mathlib.Data.Option.Basic.{or_else-eq-none}
use mathlib.Core.List.{List}
use Prim.Native.Nat.{ℕ, ◌*◌, ◌≤◌}
use native.Mathlib.Nat.{mul-le-mul}
use native.Mathlib.Omega.{arith}
use Rattle.std.proofs.lemmas.Result.{err_from_is_err_and}
use Rattle.lists.specs.Scan.{◌else◌}
use Rattle.lists.proofs.Scan.{else_found, else_assoc}
use Rattle.model.specs.Inputs.{I}
use Rattle.model.specs.Accepted.{ValidCircuit}
use Rattle.model.specs.Refusals.{circuit_rows, row14, row16, row17, answer, generate_refusal}
use Rattle.model.specs.Generate.{generate_answer}
use Rattle.model.proofs.Accepted.{valid_circuit, units-fit}
use Rattle.circuit.specs.Table.{SizesOf}
use Rattle.rules.specs.Check.{refusal_of}
use Rattle.rules.proofs.Laws.{passed_none, sized-none, went_on}
use Rattle.job.proofs.Laws.{refuses}
use Rattle.job.proofs.check_generate.Goals.{In_ok-s}
use Rattle.job.proofs.check_generate.Goals as goal

valid : (c : In_ok-s) → ValidCircuit c.args.c.now
valid c = valid_circuit _ (sized-none c.in_ok-s.ensures refl)

sizes : (c : In_ok-s) → SizesOf c.args.c.now c.in_ok-s.s
sizes c = c.in_ok-s.ensures.sizes _ refl

-- the rows as the checks join them
grouped : (c : List ℕ) (seed units result : ℕ) → generate_refusal c seed units result ≡ (circuit_rows c else ((row16 seed else row17 units) else row14 (units * I c) result))
unfolding generate_refusal
grouped c seed units result = ap (λ later. circuit_rows c else later) (sym (else_assoc (row16 seed) (row17 units) _))

pub returns-in_err-s : goal.returns-in_err-s
unfolding refusal_of generate_answer generate_refusal
returns-in_err-s c =
    let h = err_from_is_err_and c.from_residual.result c.from_residual.ensures.1 in
    refuses _ h (sym (else_found _ _ _ (sym c.in_err-s.ensures.refusal)))

pub returns-in_err-check_load : goal.returns-in_err-check_load
unfolding refusal_of generate_answer
returns-in_err-check_load c =
    let r = c.from_residual-in_err-check_load in
    let h = err_from_is_err_and r.result r.ensures.1 in
    rw grouped (refuses _ h (went_on c.in_ok-s.ensures.refusal (sym (else_found _ _ _ (sym c.in_err-check_load.ensures)))))

pub overflow_mul-units : goal.overflow_mul-units
overflow_mul-units c =
    let ok = (goal.at.overflow_mul-units c).In_ok-s in
    let few : c.in_ok-s.s.inputs ≤ 256 = rw (sizes ok).inputs (valid ok).inputs in
    let most = (units-fit _ ((or_else-eq-none (row16 _) _).0 (passed_none c.in_ok-check_load.ensures refl)).1).1 in
    omega (arith, mul-le-mul most few)

pub returns : goal.returns
unfolding refusal_of generate_answer
returns c =
    c.check_result.ensures
    ∙ rw ((sizes (goal.at.returns c).In_ok-s).inputs, grouped)
    (ap (λ rows. answer rows (c.args.units * I c.args.c.now)) (went_on c.in_ok-s.ensures.refusal (went_on c.in_ok-check_load.ensures refl)))
