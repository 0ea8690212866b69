-- What a job's check gives, and how it joins its rows.
use mathlib.Core.Path.{◌≡◌, sym, ap, ◌∙◌}
use mathlib.Core.List.{List}
use mathlib.Core.Option.{none, some}
use Prim.Native.Nat.{ℕ, ◌+◌, ◌*◌, ◌≤◌}
use native.Mathlib.Nat.{mul-le-mul}
use native.Mathlib.Omega.{arith}
use Rattle.std.specs.Prelude.{Result, Ok, Err}
use Rattle.model.specs.Inputs.{O, L}
use Rattle.model.specs.Accepted.{ValidInputs}
use Rattle.model.specs.Refusals.{Answer, answer, input_rows}
use Rattle.model.specs.Refusals as model
use Rattle.model.proofs.Accepted.{valid_inputs}
use Rattle.rules.specs.Check.{number_of, refusal_of}
use Rattle.rules.specs.declared.Refusal.{Refusal}
use Rattle.rules.proofs.Laws.{HandsOn, not_ok}
use Rattle.job.specs.Job.{answer_of, JobOf, JobChecked, Limited}
use Rattle.job.specs.declared.Job.{Job}

module _ {c t : List ℕ} {rows : model.Refusal} {r : Result Job Refusal} where
  -- a job that is ready breaks no row
  pub ready-none : {j : Job} → JobChecked c t rows r → r ≡ Ok j → rows ≡ none
  unfolding refusal_of
  ready-none checked e = sym checked.refusal ∙ ap refusal_of e

  -- one that is not breaks the row that is named
  pub broken_some : {e : Refusal} → JobChecked c t rows r → r ≡ Err e → rows ≡ some (number_of e.rule, e.at)
  unfolding refusal_of
  broken_some checked e = sym checked.refusal ∙ ap refusal_of e

  -- how a check's answer is made: where a `?` ends it
  pub is_broken : {e : Refusal} → HandsOn r e → refusal_of r ≡ rows → JobChecked c t rows r
  is_broken h told = record { refusal = told; job = λ j e. absurd (not_ok h e) }

-- and where no row is broken
pub is-ready : {c t : List ℕ} {rows : model.Refusal} {j : Job} → none ≡ rows → JobOf c t j → JobChecked c t rows (Ok j)
unfolding refusal_of
is-ready {j = j} e of = record { refusal = e; job = λ i same. let q : j ≡ i = cc in rw (← q) of }

-- ---- a call that hands on a refusal answers so
pub handed_on : {r : Result ℕ Refusal} {e : Refusal} {a : Answer} → HandsOn r e → answer_of (Err e) ≡ a → answer_of r ≡ a
handed_on h told = ap answer_of h.1 ∙ ap (λ x. answer_of (Err x)) h.2 ∙ told

-- the same, by the rows that it breaks
pub refuses : {r : Result ℕ Refusal} {e : Refusal} {rows : model.Refusal} (size : ℕ) → HandsOn r e → some (number_of e.rule, e.at) ≡ rows → answer_of r ≡ answer rows size
unfolding answer_of answer
refuses size h told = handed_on h (ap (λ rows. answer rows size) told)

-- ---- sizes
-- the sizes of a job whose inputs are accepted
pub limited : {c t fs : List ℕ} {least most : ℕ} {j : Job} → ValidInputs c t least most fs → JobOf c t j → Limited j
limited valid of = record {
  lines = rw of.lines valid.circuit.lines;
  flops = rw of.flops valid.circuit.flip_flops;
  outputs = rw of.outputs valid.circuit.outputs;
  units = rw of.units valid.test.most;
}

-- the same, where the rows of the inputs are passed
pub ready_limits : {c t : List ℕ} (fs : List ℕ) (least most : ℕ) {r : Result Job Refusal} {j : Job} → JobChecked c t (input_rows c t least most fs) r → r ≡ Ok j → Limited j
ready_limits fs least most checked e = limited (valid_inputs _ _ _ _ _ (ready-none checked e)) (checked.job _ e)

-- the bytes that row 13 asks for, but for those of the lines
pub area-limit : {j : Job} → Limited j → j.units * (4 * j.outputs + 16 * j.flops + 8) ≤ 1024 * 5128
area-limit l = mul-le-mul {m₂ = 5128} l.units (omega (arith, l.outputs, l.flops))

-- how many bytes the responses are
pub response_size : {c t : List ℕ} {j : Job} → JobOf c t j → j.units * j.outputs ≡ L c t * O c
response_size o = rw (o.units, o.outputs)
