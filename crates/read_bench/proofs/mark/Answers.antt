use Rattle.read_bench.proofs.Rows.{row-marked}
use Rattle.read_bench.proofs.mark.Goals as goal

pub returns-clause-marks : goal.returns-clause-marks
returns-clause-marks c = λ m h. row-marked c.args.records.now c.args.n m c.requires.0 c.requires.1 h
