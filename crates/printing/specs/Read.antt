-- What was read of a file.
use Rattle.std.specs.Prelude.{ℕ}
use Rattle.printing.specs.declared.Input.{Input}
use Rattle.printing.specs.declared.Input.TheVariants.{Missing, Whole, Longer, Broken}

-- how many bytes
abbrev pub size_of : Input → ℕ
size_of Missing = 0
size_of (Whole size) = size
size_of (Longer size) = size
size_of (Broken size more) = size
