-- What the verdict of one fault is.
use Rattle.std.specs.Prelude.{◌≡◌, List, ℕ}
use Rattle.std.proofs.Math.Option.{none}
use Rattle.model.specs.Inputs.{L, Fault}
use Rattle.model.specs.Grade.{stage1, grade}
use Rattle.plain.specs.declared.Firsts.{Firsts}
use Rattle.faults.specs.Given.{Blank}
use Rattle.record.specs.declared.Verdict.{Verdict}
use Rattle.record.specs.Record.{verdict_of}
use Rattle.stages.specs.Stages.{Standing}
use Rattle.places.specs.Found.{FirstOf}

-- The verdict of a fault that stage 1 leaves open. No lane has a fault afterwards, and the fault-free responses stand in the work area.
pub record Settled (c t : List ℕ) (f : Fault) (plan : List ℕ) (k : ℕ) (hits masks work : List ℕ) (r : Verdict) : Type 0 where
  pub verdict : stage1 c t f ≡ none → verdict_of r ≡ grade c t f plan k
  pub blank : Blank hits masks
  pub stands : Standing c t work

-- the verdict of a fault of which stage 1 has found what there is
pub record Decided (c t : List ℕ) (f : Fault) (plan : List ℕ) (k : ℕ) (firsts : Firsts) (lane : ℕ) (times lines hits masks work : List ℕ) (r : Verdict) : Type 0 where
  pub verdict : FirstOf c t f (L c t) firsts lane times lines → verdict_of r ≡ grade c t f plan k
  pub blank : Blank hits masks
  pub stands : Standing c t work
