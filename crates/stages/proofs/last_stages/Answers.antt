use Rattle.std.proofs.Common.{sym}
use Rattle.stages.proofs.Laws.{lists_of}
use Rattle.stages.proofs.last_stages.Goals as goal

pub returns : goal.returns
returns c = λ f ready before.
    let taken = c.take_pairs-m.ensures.pairs f ready in
    let ends = c.count_endings-ends.ensures.ends f _ ready.stuck ready.frees (lists_of f _ _ c.requires.0.tabled.test before ready taken) in
    c.conclude.ensures f _ record {
      stuck = ready.stuck;
      frees = ready.frees;
      before = before;
      pairs = sym taken.count;
      differing = ends.0;
      clashing = ends.1;
      surviving = ends.2;
    }
