use Rattle.std.proofs.Common.{arith}
use Rattle.tokens.specs.Kept.{part_of}
use Rattle.sentences.proofs.Laws.{name-kept}
use Rattle.sentences.proofs.is_name.Goals as goal

-- the token begins within the text
pub bounds-text-part : goal.bounds-text-part
unfolding part_of
bounds-text-part c = omega (arith, c.requires.0.some _ c.requires.1, c.requires.0.ends _ c.requires.1)

pub returns-then-is_name_byte : goal.returns-then-is_name_byte
unfolding part_of
returns-then-is_name_byte c =
    rw (name-kept c.args.text.now c.args.parts.now c.args.i c.requires.1, ← c.is_name_byte.ensures, c.if-is_name_byte.true)

pub returns-else-is_name_byte : goal.returns-else-is_name_byte
unfolding part_of
returns-else-is_name_byte c =
    rw (name-kept c.args.text.now c.args.parts.now c.args.i c.requires.1, ← c.is_name_byte.ensures, c.if-is_name_byte.false)
