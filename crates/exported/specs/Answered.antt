-- What the numbers that an exported call returns stand for.
use Rattle.std.specs.Prelude.{cond, eqb}
use Rattle.model.specs.Refusals.{Answer, done, refused}
use Rattle.exported.specs.declared.Answered.{Answered}

-- done, or refused by a row at a position
unfoldable pub answered : Answered → Answer
answered r = cond (eqb r.refused 0) (done r.number) (refused r.rule r.number)
