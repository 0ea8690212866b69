use Rattle.std.proofs.Common.{arith, sym}
use Rattle.decide.proofs.settle.Goals as goal

pub returns : goal.returns
returns c =
    let f = c.fault_of-f.ensures in record {
      verdict = λ open_first.
          c.later_stages-verdict.ensures.verdict _ (λ lane h. c.give_all.ensures.1 lane _ h (sym f.line) (sym f.pin) (sym f.value)) c.requires.6 open_first;
      blank = c.take_all.ensures;
      stands = c.later_stages-verdict.ensures.stands _ (c.give_all.ensures.1 0 _ (omega arith) (sym f.line) (sym f.pin) (sym f.value));
    }
