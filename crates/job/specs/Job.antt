-- What the answers of the calls stand for, and the sizes of a job.
use Rattle.std.specs.Prelude.{◌≡◌, List, ℕ, ◌≤◌, Result, Ok, Err}
use Rattle.model.specs.Inputs.{N, I, F, O, L}
use Rattle.model.specs.Refusals.{Answer, done, refused}
use Rattle.model.specs.Refusals as model
use Rattle.rules.specs.declared.Refusal.{Refusal}
use Rattle.rules.specs.Check.{number_of, refusal_of}
use Rattle.job.specs.declared.Job.{Job}

-- what a call's outcome stands for
unfoldable pub answer_of : Result ℕ Refusal → Answer
answer_of (Ok size) = done size
answer_of (Err r) = refused (number_of r.rule) r.at

-- the sizes of a circuit and a test
pub record JobOf (c t : List ℕ) (j : Job) : Type 0 where
  pub lines : j.lines ≡ N c
  pub inputs : j.inputs ≡ I c
  pub flops : j.flops ≡ F c
  pub outputs : j.outputs ≡ O c
  pub units : j.units ≡ L c t

-- these rows, with the sizes where none is broken
pub record JobChecked (c t : List ℕ) (rows : model.Refusal) (r : Result Job Refusal) : Type 0 where
  pub refusal : refusal_of r ≡ rows
  pub job : (j : Job) → r ≡ Ok j → JobOf c t j

-- rows 1, 6 and 7 bound the sizes
pub record Limited (j : Job) : Type 0 where
  pub lines : j.lines ≤ 4096
  pub flops : j.flops ≤ 256
  pub outputs : j.outputs ≤ 256
  pub units : j.units ≤ 1024
