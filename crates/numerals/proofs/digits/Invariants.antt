-- v, taken as 65,536 where it is higher, is the number that the digits up to this one make: with the digits from it on, it makes what they all
-- make.
use Rattle.std.proofs.Common.{◌≡◌, ◌≤◌, drop}
use Rattle.numerals.specs.Numeral.{with_digits, capped}
use Rattle.numerals.proofs.digits.Given as goal

abbrev pub invariant-loop-b : goal.invariant-loop-b
invariant-loop-b l = record {
  low : l.v ≤ 65536;
  same : capped (with_digits l.base l.v (drop l.b-index l.text)) ≡ capped (with_digits l.base 0 l.text);
}
