-- What a check's answer says of the rows, and how one that asks several in turn joins them.
use mathlib.Core.Path.{◌≡◌, sym, ap, ◌∙◌}
use mathlib.Core.List.{List}
use mathlib.Core.Option.{none, some}
use Prim.Native.Nat.{ℕ}
use native.Mathlib.Omega.{arith}
use Rattle.std.specs.Prelude.{Result, Ok, Err}
use Rattle.lists.specs.Scan.{◌else◌}
use Rattle.lists.proofs.Scan.{else_found, else_skips}
use Rattle.model.specs.Refusals.{circuit_rows}
use Rattle.model.specs.Refusals as model
use Rattle.circuit.specs.declared.Sizes.{Sizes}
use Rattle.rules.specs.Check.{number_of, refusal_of, CircuitChecked}
use Rattle.rules.specs.declared.Refusal.{Refusal}

-- ---- a check's answer
module _ {U : Type 0} {rows : model.Refusal} {r : Result U Refusal} where
  -- what is passed breaks no row
  pub passed_none : {x : U} → refusal_of r ≡ rows → r ≡ Ok x → rows ≡ none
  unfolding refusal_of
  passed_none checked e = sym checked ∙ ap refusal_of e

  -- what is not breaks the row that is named
  pub broken_some : {e : Refusal} → refusal_of r ≡ rows → r ≡ Err e → rows ≡ some (number_of e.rule, e.at)
  unfolding refusal_of
  broken_some checked e = sym checked ∙ ap refusal_of e

-- the same of a circuit
module _ {c : List ℕ} {r : Result Sizes Refusal} where
  pub sized-none : {s : Sizes} → CircuitChecked c r → r ≡ Ok s → circuit_rows c ≡ none
  sized-none checked e = passed_none checked.refusal e

  pub unsized_some : {e : Refusal} → CircuitChecked c r → r ≡ Err e → circuit_rows c ≡ some (number_of e.rule, e.at)
  unsized_some checked e = broken_some checked.refusal e

-- what `?` hands on is the refusal that it met
abbrev pub HandsOn : {U : Type 0} → Result U Refusal → Refusal → Type 0
HandsOn r e = (x : Refusal) × (r ≡ Err x) × (x ≡ e)

-- ---- rows asked in turn, each by a `?`; `refusal_of` unfolds where these are cited
module _ {U : Type 0} {rows : model.Refusal} {r : Result U Refusal} {e : Refusal} where
  -- a `?` that ends it returns what was broken
  pub ended : HandsOn r e → some (number_of e.rule, e.at) ≡ rows → refusal_of r ≡ rows
  unfolding refusal_of
  ended h told = ap refusal_of h.1 ∙ ap (λ x. refusal_of {T = U} (Err x)) h.2 ∙ told

  -- the same, where rows are still to come
  pub ended_early : (more : model.Refusal) → HandsOn r e → some (number_of e.rule, e.at) ≡ rows → refusal_of r ≡ (rows else more)
  unfolding refusal_of
  ended_early more h told = ap refusal_of h.1 ∙ ap (λ x. refusal_of {T = U} (Err x)) h.2 ∙ sym (else_found rows more (number_of e.rule, e.at) (sym told))

-- rows that are passed leave it to those behind them
pub went_on : {rows more told : model.Refusal} → none ≡ rows → told ≡ more → told ≡ (rows else more)
went_on {rows} {more} passed e = e ∙ sym (else_skips rows more (sym passed))

-- what refuses gives no value
pub not_ok : {U : Type 0} {r : Result U Refusal} {e : Refusal} {x : U} → HandsOn r e → r ≡ Ok x → ⊥
not_ok {U} {r} {e} {x} h told = let clash : ◌≡◌ {A = Result U Refusal} (Ok x) (Err h.0) = sym told ∙ h.1 in (let z : ◌≡◌ {A = ℕ} 0 1 = cc in (let w : ⊥ = omega arith in w))
