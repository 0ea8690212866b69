use Rattle.read_bench.proofs.Rows.{row-defined}
use Rattle.read_bench.proofs.define.Goals as goal

pub returns-clause-defines : goal.returns-clause-defines
returns-clause-defines c =
    let a = c.args in
    row-defined a.records.now a.lines.now c.write_line.new.area a.n a.kind a.pins c.requires.0 c.requires.1 c.write_line.ensures
