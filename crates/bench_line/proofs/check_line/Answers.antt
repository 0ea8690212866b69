use Rattle.std.proofs.Common.{◌≡◌, sym, ap, ◌∙◌, Bool, not}
use Rattle.std.proofs.lemmas.Result.{err_from_is_err_and}
use lib.Dec.{leb}
use Rattle.lists.specs.Scan.{any_below}
use Rattle.model.specs.Refusals.{refuse}
use Rattle.model.proofs.Accepted.{refuse-none}
use Rattle.rules.specs.Check.{refusal_of}
use Rattle.rules.proofs.Laws.{ended_early, went_on}
use Rattle.bench_line.specs.Pins.{pin_line_of, reach_of}
use Rattle.sentences.specs.Line.{is_malformed}
use Rattle.bench_line.proofs.Laws.{not_passed, not-not, not_malformed}
use Rattle.bench_line.proofs.check_line.Goals.{After-resolve-found, After-refuse, in-Malformed, in_default}
use Rattle.bench_line.proofs.check_line.Goals as goal

-- some pin names a line that is out of reach
abbrev undefined : After-resolve-found → Bool
undefined c =
    let s = c.args in
    any_below (λ i. leb (reach_of s.line s.above s.defined.known.lines) (pin_line_of s.defined.text.now s.parts.now s.line.first i)) s.line.pins

reached : (c : After-resolve-found) → c.resolve-found.result ≡ not (undefined c)
reached c =
    let s = c.args in
    c.resolve-found.ensures.below
    ∙ ap (λ reach. not (any_below (λ i. leb reach (pin_line_of s.defined.text.now s.parts.now s.line.first i)) s.line.pins)) c.reach_of-reach.ensures

-- the row that the first test speaks of
malformed : (c : After-refuse) → refuse c.match-matches.matches 18 c.args.j ≡ refuse (is_malformed c.args.line.sort) 18 c.args.j
malformed c = ap (λ t. refuse t 18 c.args.j) (elim c.match-matches.branch [
  | in-Malformed w ↦ rw (w.matches-is, w.in-Malformed.is)
  | in_default w ↦ w.matches-is ∙ sym (not_malformed c.args.line.sort w.in_default.not-Malformed)
])

pub returns-in_err-refuse-clause-checks : goal.returns-in_err-refuse-clause-checks
unfolding refusal_of
returns-in_err-refuse-clause-checks c =
    let h = err_from_is_err_and c.from_residual.result c.from_residual.ensures.1 in
    let row = malformed (goal.at.returns-in_err-refuse-clause-checks c).After-refuse in
    record { refusal = ended_early _ h (c.in_err-refuse.ensures ∙ row); pins = λ e. absurd (not_passed h e) }

pub returns-in_err-refuse-2-clause-checks : goal.returns-in_err-refuse-2-clause-checks
unfolding refusal_of
returns-in_err-refuse-2-clause-checks c =
    let r = c.from_residual-in_err-refuse-2 in
    let h = err_from_is_err_and r.result r.ensures.1 in
    let row = malformed (goal.at.returns-in_err-refuse-2-clause-checks c).After-refuse in
    record {
      refusal = rw (← c.defined_again-again.ensures) (went_on (c.in_ok-refuse.ensures ∙ row) (ended_early _ h c.in_err-refuse-2.ensures));
      pins = λ e. absurd (not_passed h e);
    }

pub returns-clause-checks : goal.returns-clause-checks
unfolding refusal_of
returns-clause-checks c =
    let d = (goal.at.returns-clause-checks c).After-resolve-found in
    let row = malformed (goal.at.returns-clause-checks c).After-refuse in
    let last = c.refuse-3.ensures ∙ ap (λ t. refuse t 20 c.args.j) (ap not (reached d) ∙ not-not (undefined d)) in
    record {
      refusal = rw (← c.defined_again-again.ensures) (went_on (c.in_ok-refuse.ensures ∙ row) (went_on c.in_ok-refuse-2.ensures last));
      pins = λ none. c.resolve-found.ensures.finds (reached d ∙ ap not (refuse-none _ 20 _ (sym last ∙ none)));
    }
