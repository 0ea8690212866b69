use native.Mathlib.Omega.{arith}
use Rattle.model.specs.Inputs.{fault_count}
use Rattle.listing.proofs.Job.{graded}
use Rattle.listing.proofs.put_job.Goals as goal

pub put_graded-requires : goal.put_graded-requires
unfolding fault_count
put_graded-requires c =
    let s = c.args in
    let job = graded s.circuit.now s.test.now s.faults.now s.plan.now _ s.res.now _ (omega arith) (omega arith) c.grade.ensures.answers c.grade.ensures.writes in
    let all = job.all _ c.in-Ok.is in
    let few = job.few _ c.in-Ok.is in
    (all, few, omega (arith, c.requires.lines))

pub returns-in-Err : goal.returns-in-Err
returns-in-Err c =
    let s = c.args in
    let job = graded s.circuit.now s.test.now s.faults.now s.plan.now _ s.res.now _ (omega arith) (omega arith) c.grade.ensures.answers c.grade.ensures.writes in
    rw (job.refused _ c.in-Err.is) at c.put_refused.ensures

pub returns-in-Ok : goal.returns-in-Ok
returns-in-Ok c =
    let s = c.args in
    let job = graded s.circuit.now s.test.now s.faults.now s.plan.now _ s.res.now _ (omega arith) (omega arith) c.grade.ensures.answers c.grade.ensures.writes in
    rw (job.lines _ c.in-Ok.is) at c.put_graded.ensures
