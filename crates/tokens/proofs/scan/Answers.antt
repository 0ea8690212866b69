use Rattle.std.proofs.Common.{◌≡◌, ◌-◌, ◌++◌, ◌∷◌, suc, get_or, take, drop, refl, sym, ap, ◌∙◌, add-one, arith}
use Rattle.bench_text.specs.Text.{run_before, tokens}
use Rattle.tokens.specs.Kept.{kept, part_if}
use Rattle.tokens.proofs.Laws.{rest, rest-cons, goes_on, ends, byte-part, scanned_all, scanned_more}
use Rattle.tokens.proofs.scan.Goals.{After-is_name_byte}
use Rattle.tokens.proofs.scan.Goals as goal

-- what is kept, and the tokens from this byte on
here : (c : After-is_name_byte) → let l = c.loop-i in let text = c.args.text.now in let to = c.args.to in
    kept l.parts l.count ++ tokens l.i l.run (get_or text l.i 0 ∷ rest text to (suc l.i)) ≡ tokens c.args.from 0 (rest text to c.args.from)
here c =
    let l = c.loop-i in
    sym (ap (λ bs. kept l.parts l.count ++ tokens l.i l.run bs) (rest-cons c.args.text.now l.i c.args.to c.loop-i-test.true c.requires.1))
    ∙ l.invariant.same

pub loop-i-init : goal.loop-i-init
unfolding kept
loop-i-init c = record { run_in = omega arith; few = omega arith; same = refl }

pub loop-i-preserved-then-is_name_byte : goal.loop-i-preserved-then-is_name_byte
loop-i-preserved-then-is_name_byte c =
    let d = (goal.at.loop-i-preserved-then-is_name_byte c).After-is_name_byte in
    let l = c.loop-i in
    record {
      run_in = omega (arith, l.invariant.run_in);
      few = l.invariant.few;
      same = rw (add-one l.i, add-one l.run) (goes_on (kept l.parts l.count) l.i l.run (get_or c.args.text.now l.i 0) (rest c.args.text.now c.args.to (suc l.i)) (here d) (sym c.is_name_byte.ensures ∙ c.if-is_name_byte.true));
    }

-- a token that ends here, and this byte, are kept
pub loop-i-preserved : goal.loop-i-preserved
unfolding run_before part_if
loop-i-preserved c =
    let d = (goal.at.loop-i-preserved c).After-is_name_byte in
    let l = c.loop-i in
    let text = c.args.text.now in
    let to = c.args.to in
    let b = get_or text l.i 0 in
    let on = rest text to (suc l.i) in
    let run = kept l.parts l.count ++ run_before l.i l.run in
    let two = c.put-count-in-loop-i.ensures in
    let one = c.put-count.ensures in
    let byte' = ap (part_if l.i) c.from.ensures ∙ byte-part l.i b in
    let next = ap (λ ts. ts ++ tokens (suc l.i) 0 on) (two.keeps ∙ ap (λ ts. ts ++ part_if l.i c.from.result) one.keeps ∙ ap (λ ts. run ++ ts) byte')
    ∙ ends (kept l.parts l.count) l.i l.run b on (here d) (sym c.is_name_byte.ensures ∙ c.if-is_name_byte.false) in
    record {
      run_in = omega arith;
      few = omega (arith, two.longer, one.longer, c.if-count-gt12.false);
      same = rw (add-one l.i) next;
    }

pub returns-then-count-gt12-clause-scans : goal.returns-then-count-gt12-clause-scans
returns-then-count-gt12-clause-scans c = scanned_more _ _ _ _ c.if-count-gt12.true c.loop-i.invariant.same

-- the token that the end of the bytes ends
pub returns-clause-scans : goal.returns-clause-scans
unfolding tokens run_before part_if
returns-clause-scans c =
    let l = c.loop-i in
    let end : l.i ≡ c.args.to = omega arith in
    let none : c.args.to - l.i ≡ 0 = omega arith in
    let no_more = ap (λ n. kept l.parts l.count ++ tokens l.i l.run (take n (drop l.i c.args.text.now))) none in
    let all = sym no_more ∙ l.invariant.same in
    scanned_all _ _ _ (c.put.ensures.keeps ∙ (rw end at all))
