use Rattle.lanes.proofs.Laws.{turned-read}
use Rattle.lanes.proofs.read_turned.Goals as goal

pub returns : goal.returns
returns c = λ m turned e. turned-read c.args.words.now _ m turned e
