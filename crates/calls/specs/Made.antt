-- What each call answers and writes, by what is lent.
use Rattle.std.specs.Prelude.{ℕ, List, ◌≡◌, length}
use Rattle.model.specs.Refusals.{Answer, unless_refused, grade_refusal, choose_refusal}
use Rattle.model.specs.Simulate.{simulate_answer, simulate_area}
use Rattle.model.specs.Grade.{grade_answer, grade_area}
use Rattle.model.specs.Choose.{choose_answer, choose_area}
use Rattle.model.specs.Group.{group_answer, group_area}
use Rattle.calls.specs.declared.Kind.{Kind}
use Rattle.calls.specs.declared.Kind.TheVariants.{Simulate, Grade, Choose, Group}

-- the answer, by the lengths of work area and result area
abbrev pub made_answer : Kind → List ℕ → List ℕ → List ℕ → List ℕ → List ℕ → ℕ → ℕ → ℕ → Answer
made_answer Simulate c t fs plan vs k work result = simulate_answer c t fs work result
made_answer Grade c t fs plan vs k work result = grade_answer c t fs plan k work result
made_answer Choose c t fs plan vs k work result = choose_answer c t fs k work result
made_answer Group c t fs plan vs k work result = group_answer vs result

-- what the result area holds afterwards, where it held `old`
abbrev pub made_area : Kind → List ℕ → List ℕ → List ℕ → List ℕ → List ℕ → ℕ → ℕ → List ℕ → List ℕ
made_area Simulate c t fs plan vs k work old = simulate_area c t fs work old
made_area Grade c t fs plan vs k work old = grade_area c t fs plan k work old
made_area Choose c t fs plan vs k work old = choose_area c t fs k work old
made_area Group c t fs plan vs k work old = group_area vs old

-- what the work area holds afterwards, where it holds `new` and held `old`: a call that refuses leaves it, and so do Simulate and Group in any case
abbrev pub kept_work : Kind → List ℕ → List ℕ → List ℕ → List ℕ → ℕ → ℕ → List ℕ → List ℕ → List ℕ
kept_work Simulate c t fs plan k result new old = old
kept_work Grade c t fs plan k result new old = unless_refused (grade_refusal c t fs plan k (length old) result) new old
kept_work Choose c t fs plan k result new old = unless_refused (choose_refusal c t fs k (length old) result) new old
kept_work Group c t fs plan k result new old = old
