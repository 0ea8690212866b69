-- What a gate's kind tells of its pins, for a search.
use Rattle.circuit.proofs.Laws.{is-gate, lower-pin}

pub ruleset gate_rules = (is-gate, lower-pin)
