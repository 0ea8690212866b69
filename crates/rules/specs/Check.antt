-- What the answers of the checks stand for.
use Rattle.std.specs.Prelude.{◌≡◌, Bool, ◌&&◌, List, ℕ, ◌+◌, leb, Result, Ok, Err}
use Rattle.std.proofs.Math.Option.{none, some}
use Rattle.lists.specs.Scan.{any_below}
use Rattle.model.specs.Inputs.{pin_line}
use Rattle.model.specs.Refusals.{circuit_rows}
use Rattle.model.specs.Refusals as model
use Rattle.circuit.specs.declared.Sizes.{Sizes}
use Rattle.circuit.specs.Table.{SizesOf}
use Rattle.rules.specs.declared.Rule.{Rule}
use Rattle.rules.specs.declared.Rule.TheVariants.{CircuitLength, Kind, PinCount, StrayBytes, PinNames, CircuitSizes, TestLength, TestByte, FaultsLength, Fault, PlanLength, MostPairs, WorkArea, ResultArea, VerdictsLength, Seed, TimeUnits, TextForm, DefinedAgain, NotDefined}
use Rattle.rules.specs.declared.Refusal.{Refusal}

-- a row's number in the table
abbrev pub number_of : Rule → ℕ
number_of CircuitLength = 1
number_of Kind = 2
number_of PinCount = 3
number_of StrayBytes = 4
number_of PinNames = 5
number_of CircuitSizes = 6
number_of TestLength = 7
number_of TestByte = 8
number_of FaultsLength = 9
number_of Fault = 10
number_of PlanLength = 11
number_of MostPairs = 12
number_of WorkArea = 13
number_of ResultArea = 14
number_of VerdictsLength = 15
number_of Seed = 16
number_of TimeUnits = 17
number_of TextForm = 18
number_of DefinedAgain = 19
number_of NotDefined = 20

-- number and position of what a check refuses by
unfoldable pub refusal_of : {T : Type 0} → Result T Refusal → model.Refusal
refusal_of (Ok x) = none
refusal_of (Err r) = some (number_of r.rule, r.at)

-- rows 1 to 6, with the sizes where none is broken
pub record CircuitChecked (c : List ℕ) (r : Result Sizes Refusal) : Type 0 where
  pub refusal : refusal_of r ≡ circuit_rows c
  pub sizes : (s : Sizes) → r ≡ Ok s → SizesOf c s

-- one of pins 1 to `to`, but for the first `from`, names line `limit` or a higher one
unfoldable pub names_from : List ℕ → ℕ → ℕ → ℕ → ℕ → Bool
names_from c n from to limit = any_below (λ i. leb from i && leb limit (pin_line c n (i + 1))) to
