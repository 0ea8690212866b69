use Rattle.std.proofs.Common.{◌≡◌, ◌-◌, false, eqb, take, drop, length, get_or, arith, ◌∙◌}
use lib.Seq.{take-length}
use Rattle.std.proofs.lemmas.List.{length-drop}
use Rattle.std.proofs.lemmas.Bool.Decides.{nat_tests}
use Rattle.numerals.specs.Numeral.{is_hex, numeral, capped}
use Rattle.numerals.proofs.Laws.{is-hex, no-hex}
use Rattle.numerals.proofs.number_in.Goals.{in_default-via-then-text-lt3, in_default-via-else-text-lt3+in-48+in_default-1, in_default-via-else-text-lt3+in_default-1}
use Rattle.numerals.proofs.number_in.Goals as goal

pub returns-in-empty : goal.returns-in-empty
unfolding numeral capped
returns-in-empty c = let empty : length c.args.text.now ≡ 0 = omega arith in rw empty

pub returns-in-48 : goal.returns-in-48
unfolding numeral
returns-in-48 c =
    let text = c.args.text.now in
    let zero : get_or text 0 0 ≡ 48 = omega arith in
    let x : get_or text 1 0 ≡ 120 = omega arith in
    let hex = is-hex text c.in-48.len_at_least zero x in
    let long : eqb (length text) 0 ≡ false = grind (arith, nat_tests) in
    let all : take (length text - 2) (drop 2 text) ≡ drop 2 text = rw (← (length-drop 2 text)) (take-length (drop 2 text)) in
    c.digits.ensures ∙ rw (long, hex, all)

pub returns-in_default : goal.returns-in_default
unfolding numeral
returns-in_default c =
    let text = c.args.text.now in
    let other : is_hex text ≡ false = no-hex text (λ l zero x. elim c.in_default.branch [
      | in_default-via-then-text-lt3 w ↦ grind (arith, nat_tests)
      | in_default-via-else-text-lt3+in-48+in_default-1 w ↦ grind (arith, nat_tests)
      | in_default-via-else-text-lt3+in_default-1 w ↦ grind (arith, nat_tests)
    ]) in
    let long : eqb (length text) 0 ≡ false = grind (arith, nat_tests) in
    c.digits-in_default.ensures ∙ rw (long, other)
