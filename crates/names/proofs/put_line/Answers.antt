-- A number below 4,096 has at most four digits.
use Rattle.std.proofs.Common.{arith, ℕ, ◌≤◌, ◌<◌, length}
use Rattle.model.specs.Listing.{decimal}
use Rattle.decimals.proofs.Laws.{decimal-short, field_end}
use Rattle.names.proofs.put_line.Goals as goal

digits : (n : ℕ) → n < 4096 → length (decimal n) ≤ 4
digits n h = decimal-short 3 n (omega arith)

pub put_field-begin-requires : goal.put_field-begin-requires
put_field-begin-requires c = omega (arith, digits c.args.n c.requires.1, c.requires.0)

pub put_text-end-requires : goal.put_text-end-requires
put_text-end-requires c = omega (arith, digits c.args.n c.requires.1, field_end _ _ c.put_field-begin.ensures, c.requires)

pub put_byte-requires : goal.put_byte-requires
put_byte-requires c = omega (arith, digits c.args.n c.requires.1, field_end _ _ c.put_field-begin.ensures, c.put_text-end.ensures.end, c.requires)

pub returns : goal.returns
returns c =
    omega (arith, digits c.args.n c.requires.1, field_end _ _ c.put_field-begin.ensures, c.put_text-end.ensures.end, c.put_byte.ensures.end, c.requires)
