use Rattle.std.proofs.Common.{◌≡◌, ◌∷◌, [], List, ℕ, get_or, cond, refl, ◌∙◌}
use lib.Dec.{ltb}
use lib.Seq.{sets}
use Rattle.lists.specs.Scan.{gather}
use Rattle.lists.specs.Field.{bytes16}
use Rattle.lists.proofs.Field.{overwritten-sets}
use Rattle.bench_line.specs.Pins.{record_of}
use Rattle.bench_line.proofs.write_line.Goals as goal

-- pin i + 1's field, put over two areas that are equal, where `count` pins are used
put : {v count pins : ℕ} {area area' : List ℕ} (lines : List ℕ) (at i : ℕ) → v ≡ cond (ltb i count) (get_or lines i 0) 0 → count ≡ pins → area ≡ area'
    → sets area at (bytes16 v) ≡ sets area' at (bytes16 (cond (ltb i pins) (get_or lines i 0) 0))
put lines at i e same a = rw (e, same, a)

pub returns : goal.returns
unfolding record_of gather bytes16
returns c =
    let a = c.args in
    let area = a.area.now in
    let lines = a.lines.now in
    let front = sets area 0 (a.kind ∷ a.pins ∷ get_or area 2 0 ∷ 0 ∷ []) in
    let count = c.from-count.ensures in
    c.put16-4.ensures
    ∙ put lines 10 3 c.field-4.ensures count (c.put16-3.ensures
    ∙ put lines 8 2 c.field-3.ensures count (c.put16-2.ensures
    ∙ put lines 6 1 c.field-2.ensures count (c.put16.ensures
    ∙ put {area = front} lines 4 0 c.field.ensures count refl)))
    ∙ overwritten-sets (record_of a.kind a.pins (get_or area 2 0) lines) area c.requires.0
