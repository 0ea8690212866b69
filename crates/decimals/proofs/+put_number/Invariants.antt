-- The measure is the number: what stands before its last digit is less.
use Rattle.decimals.proofs.+put_number.Given as goal

abbrev pub decreases-put_number : goal.decreases-put_number
decreases-put_number l = l.n
