use mathlib.Core.Path.{◌≡◌}
use borrow.Author.Rules.{rules}
use Rattle.std.proofs.lemmas.Result.{err_from_is_err_and}
use Rattle.model.specs.Inputs.{N}
use Rattle.model.specs.Refusals.{circuit_rows}
use Rattle.rules.specs.Check.{refusal_of}
use Rattle.rules.proofs.Laws.{ended, ended_early, went_on, not_ok}
use Rattle.rules.proofs.check_circuit.Goals as goal

pub returns-in_err-check_length : goal.returns-in_err-check_length
unfolding refusal_of circuit_rows
returns-in_err-check_length c =
    let h = err_from_is_err_and c.from_residual.result c.from_residual.ensures.1 in
    record { refusal = ended_early _ h c.in_err-check_length.ensures; sizes = λ s e. absurd (not_ok h e) }

pub check_records-requires : goal.check_records-requires
unfolding N
check_records-requires c = search rules

pub returns-in_err-check_records : goal.returns-in_err-check_records
unfolding refusal_of circuit_rows N
returns-in_err-check_records c =
    let h = err_from_is_err_and c.from_residual-in_err-check_records.result c.from_residual-in_err-check_records.ensures.1 in record {
      refusal = went_on c.in_ok-check_length.ensures (ended_early _ h c.in_err-check_records.ensures);
      sizes = λ s e. absurd (not_ok h e);
    }

pub sizes_of-sizes-requires : goal.sizes_of-sizes-requires
unfolding N
sizes_of-sizes-requires c = search rules

pub returns-in_err-check_sizes : goal.returns-in_err-check_sizes
unfolding refusal_of circuit_rows N
returns-in_err-check_sizes c =
    let h = err_from_is_err_and c.from_residual-in_err-check_sizes.result c.from_residual-in_err-check_sizes.ensures.1 in record {
      refusal = went_on c.in_ok-check_length.ensures (went_on c.in_ok-check_records.ensures (ended h (c.in_err-check_sizes.ensures _ c.sizes_of-sizes.ensures)));
      sizes = λ s e. absurd (not_ok h e);
    }

pub returns : goal.returns
unfolding refusal_of circuit_rows N
returns c = record {
  refusal = went_on c.in_ok-check_length.ensures (went_on c.in_ok-check_records.ensures (c.in_ok-check_sizes.ensures _ c.sizes_of-sizes.ensures));
  sizes = λ s e. let same : c.sizes_of-sizes.result ≡ s = cc in rw (← same) c.sizes_of-sizes.ensures;
}
