-- Group writes 16 bits per verdict record: the first position with equal verdict, time and line.
use Rattle.std.specs.Prelude.{ℕ, ◌/◌, Bool, ◌&&◌, List, length, eqb}
use Rattle.std.proofs.Math.Option.{get_or}
use Rattle.lists.specs.Scan.{first, gather}
use Rattle.lists.specs.Field.{bytes16, overwritten}
use Rattle.model.specs.Refusals.{Answer, answer, unless_refused, group_refusal}
use Rattle.model.specs.Grade.{record_at}

-- records a and b have equal verdict, time and line
unfoldable pub alike : List ℕ → ℕ → ℕ → Bool
alike vs a b =
    let r = record_at vs a in
    let s = record_at vs b in
    eqb r.verdict s.verdict && eqb r.time s.time && eqb r.line s.line

unfoldable pub group_of : List ℕ → ℕ → ℕ
group_of vs j = get_or (first (λ a. alike vs a j) j) j

unfoldable pub group_bytes : List ℕ → List ℕ
group_bytes vs = gather (λ j. bytes16 (group_of vs j)) (length vs / 16)

-- what Group returns: the number of entries written
unfoldable pub group_answer : List ℕ → ℕ → Answer
group_answer vs result = answer (group_refusal vs result) (length vs / 16)

-- what its result area holds afterwards, where it held `old`
unfoldable pub group_area : List ℕ → List ℕ → List ℕ
group_area vs old = unless_refused (group_refusal vs (length old)) (overwritten (group_bytes vs) old) old
