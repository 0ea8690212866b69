use native.Mathlib.Omega.{arith}
use Rattle.imply.proofs.Implied.{half_1, half_2, half_3, half_4}
use Rattle.imply.proofs.implies.Goals as goal

pub returns-in-0-to-3 : goal.returns-in-0-to-3
returns-in-0-to-3 c = λ t a p o h g k. half_1 t _ _ _ a p o (omega arith) h

pub returns-in-4-to-5 : goal.returns-in-4-to-5
returns-in-4-to-5 c = λ t a p o h g k. half_2 t _ _ _ a p o (omega arith) (c.and_implies.ensures t a p o h g k)

pub returns-in-6-to-7 : goal.returns-in-6-to-7
returns-in-6-to-7 c = λ t a p o h g k.
    half_3 t _ _ _ a p o (omega arith)
    (c.invert-in-6-to-7-2.ensures t _ (c.and_implies-in-6-to-7.ensures t _ p _ (c.invert.ensures t a h) g (c.invert-in-6-to-7.ensures t o k)))

pub returns-in_default : goal.returns-in_default
returns-in_default c = λ t a p o h g k. half_4 t _ _ _ a p o (omega arith) (c.unless.ensures t _ p (c.xor.ensures t a o h k) g)
