use mathlib.Core.Path.{ap, ◌∙◌}
use mathlib.Core.List.{List}
use Prim.Native.Nat.{ℕ}
use lib.Seq.{sets}
use Rattle.lists.specs.Field.{bytes16}
use Rattle.lists.proofs.Field.{overwritten-sets}
use Rattle.model.specs.Grade.{record_bytes}
use Rattle.record.specs.Record.{verdict_of}
use Rattle.record.proofs.write_record.Goals as goal

-- one field written
abbrev put : ℕ → ℕ → List ℕ → List ℕ
put at x area = sets area at (bytes16 x)

pub returns : goal.returns
unfolding record_bytes bytes16 verdict_of
returns c =
    let v = c.args.v in
    c.put16-7.ensures
    ∙ ap (put 14 0) (c.put16-6.ensures
    ∙ ap (put 12 v.start) (c.put16-5.ensures
    ∙ ap (put 10 v.surviving) (c.put16-4.ensures
    ∙ ap (put 8 v.clashing) (c.put16-3.ensures
    ∙ ap (put 6 v.differing) (c.put16-2.ensures
    ∙ ap (put 4 v.line) c.put16.ensures)))))
    ∙ overwritten-sets (record_bytes (verdict_of v)) c.args.area.now c.requires
