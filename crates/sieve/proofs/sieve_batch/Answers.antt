use Rattle.sieve.proofs.Laws.{early-noted}
use Rattle.sieve.proofs.sieve_batch.Goals as goal

pub returns : goal.returns
returns c =
    let places = c.find_places-firsts.ensures in
    (places.0, c.write_early.ensures.written _ (λ s h. early-noted (places.1.of s h)))
