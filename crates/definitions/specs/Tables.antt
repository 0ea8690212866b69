-- The tables of a text hold what its text lines define.
use Rattle.definitions.specs.declared.Definitions.{Definitions}
use Rattle.definitions.specs.Reached.{Collected}

abbrev pub HeldAs : Definitions → Type 0
HeldAs d = Collected d.text.now d.names.now d.heads.now d.known
