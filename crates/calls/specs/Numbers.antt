-- The numbers of the calls.
use Rattle.std.specs.Prelude.{ℕ, ◌≡◌, Result, MatchResult}
use Rattle.calls.specs.declared.Kind.{Kind}
use Rattle.calls.specs.declared.Kind.TheVariants.{Simulate, Grade, Choose, Group}
use Rattle.calls.specs.declared.UnknownCall.{UnknownCall}

-- in the order of document 01, from 1 on
abbrev pub number_of : Kind → ℕ
number_of Simulate = 1
number_of Grade = 2
number_of Choose = 3
number_of Group = 4

-- the call with this number, or an error where no call has it
abbrev pub Numbered : ℕ → Result Kind UnknownCall → Type 0
Numbered number r = MatchResult r (λ kind. number_of kind ≡ number) (λ e. (e.0 ≡ number) × ((kind : Kind) → number_of kind ≡ number → ⊥))
