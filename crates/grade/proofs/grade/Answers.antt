use Rattle.grade.proofs.Laws.{promised}
use Rattle.grade.proofs.grade.Goals as goal

pub returns-then-work-le65536 : goal.returns-then-work-le65536
returns-then-work-le65536 c =
    let done = c.grade_in.ensures in record {
      answers = done.answers;
      writes = done.writes;
      keeps = done.keeps;
      promise = promised _ _ _ _ _ _ c.args.res.now _ done.writes;
    }

pub returns-else-work-le65536 : goal.returns-else-work-le65536
returns-else-work-le65536 c =
    let done = c.grade_in-else-work-le65536.ensures in record {
      answers = done.answers;
      writes = done.writes;
      keeps = done.keeps;
      promise = promised _ _ _ _ _ _ c.args.res.now _ done.writes;
    }
