use Rattle.std.proofs.Common.{inl, inr, ℕ, ◌<◌, sym, arith}
use Rattle.model.specs.Inputs.{fault_at}
use Rattle.model.specs.Accepted.{ValidFault}
use Rattle.unit.specs.Unit.{Stuck}
use Rattle.model.proofs.Apart.{list-three}
use Rattle.model.proofs.Choose.{chosen-undecided, chosen-decided}
use Rattle.best.proofs.Bounds.{nouts_small}
use Rattle.run.proofs.Laws.{runnable-again}
use Rattle.stages.proofs.Laws.{last_none}
use Rattle.places.proofs.Laws.{work_room_lem, runnable-given}
use Rattle.propose.proofs.Laws.{table-size, records-none, records_as}
use Rattle.propose.proofs.propose_open.Goals as goal
use Rattle.propose.proofs.propose_open.Goals.{Start, After-middle_stages-middle}

-- the list's fault
fault : (c : Start) → ValidFault c.args.setup.now.circuit.now (fault_at c.args.fs.now 0)
fault c = let inputs = c.requires.0.inputs in inputs.fault 0 (omega (arith, inputs.enough))

-- the fault that all lanes have
stuck : (c : After-middle_stages-middle) (lane : ℕ) → lane < 64 → Stuck lane c.give_all.new.hits c.give_all.new.masks (fault_at c.args.fs.now 0)
stuck c lane h = let f = c.fault_of-f.ensures in c.give_all.ensures.1 lane _ h (sym f.line) (sym f.pin) (sym f.value)

pub middle_stages-middle-requires : goal.middle_stages-middle-requires
middle_stages-middle-requires c =
    let pre = c.requires in
    let room = pre.1.pick_room in (
      runnable-given _ _ pre.1.runs c.give_all.auto.hits c.give_all.auto.masks,
      room.responses,
      omega (arith, work_room_lem _ _ _ pre.0.work_room),
      room.plain,
      room.rows,
      pre.1.nout_room,
    )

pub returns-in-Nothing : goal.returns-in-Nothing
returns-in-Nothing c =
    let said = c.middle_stages-middle.ensures.opened _ (stuck (goal.at.returns-in-Nothing c).After-middle_stages-middle) (fault (goal.at.returns-in-Nothing c).Start) c.requires.2 c.requires.3 in
    elim c.in-Nothing.is [
      | inl nothing ↦ records-none _ _ (chosen-decided _ _ _ _ _ (said.nothing nothing))
      | inr decided ↦ records-none _ _ (chosen-decided _ _ _ _ _ (said.decided decided.0 decided.1))
    ]

pub choose_pairs-requires : goal.choose_pairs-requires
choose_pairs-requires c =
    let pre = c.requires in
    let run = pre.1.runs in
    let room = pre.1.pick_room in
    let middle = c.middle_stages-middle in (
      runnable-again _ _ _ (runnable-given _ _ run c.give_all.auto.hits c.give_all.auto.masks) middle.auto.feed middle.auto.words middle.auto.state,
      pre.0.limit,
      table-size _ _ _ pre.0.work_room,
      pre.0.result_room,
      nouts_small _ _ (fault_at c.args.fs.now 0) _ _ run.circuit.outputs run.test.most (λ u h. middle.ensures.nout _ pre.3 u (omega (arith, h))),
      omega (arith, pre.1.nout_room),
      record {
        responses = room.responses;
        plain = room.plain;
        rows = record { room = omega (arith, room.rows.room) };
        units = room.units;
        pairs = room.pairs;
      },
    )

pub returns-in-Open : goal.returns-in-Open
returns-in-Open c =
    let s = (goal.at.returns-in-Open c).Start in
    let middle = c.middle_stages-middle in
    let said = middle.ensures.opened _ (stuck (goal.at.returns-in-Open c).After-middle_stages-middle) (fault s) c.requires.2 c.requires.3 in
    let undecided = said.undecided _ c.in-Open.is in
    records_as (chosen-undecided _ _ _ _ undecided)
    (c.choose_pairs.ensures.records _ (said.ready _ c.in-Open.is) (λ u h. list-three _ _ _ c.requires.1.runs.test (fault s) (last_none _ _ _ undecided) u h)
    (λ u h. middle.ensures.nout _ c.requires.3 u h))
