-- Where the walk begins, which pairs it tries, and that it may stop.
use Rattle.std.specs.Prelude.{None, is_some}
use mathlib.Core.Path.{◌≡◌, refl, sym, ap, ◌∙◌}
use mathlib.Core.Bool.{true, false, cond, ◌&&◌, and-false, and-true}
use mathlib.Core.List.{List}
use Prim.Native.Nat.{ℕ, zero, suc, ◌+◌, ◌*◌, ◌-◌, ◌/◌, ◌%◌, ◌<◌, ◌≤◌}
use native.Mathlib.Omega.{arith}
use native.Mathlib.Decide.{dec_le}
use native.Mathlib.Nat.{mul-suc, mul_comm, mul-le-mul_left}
use lib.Dec.{eqb, ltb}
use lib.ListN.{get_or, length, take}
use borrow.Author.Tests.{le-leb, lt-leb, lt-ltb, le-ltb}
use Rattle.lists.specs.Field.{overwritten, row_of, Rows}
use Rattle.lists.proofs.Field.{row_fits}
use Rattle.model.specs.Inputs.{F, L, Fault}
use Rattle.model.specs.Accepted.{ValidTest, ValidFault}
use Rattle.model.specs.Values.{X}
use Rattle.model.specs.Simulation.{plain_state, power_up}
use Rattle.model.specs.Expansion.{nout, tried, row_after}
use Rattle.model.proofs.ThreeValued.{state_at-three, power_up-three}
use Rattle.pending.specs.Pending.{OpenUnits}
use Rattle.expand.specs.declared.Walk.{Walk}
use Rattle.expand.specs.Expand.{is_x, row_to, TriedTo, Walked}
use Rattle.expand.proofs.Place.{position, place-below, unit-inside, first-unit, table_at, row_copied}
use Rattle.expand.proofs.Steps.{one-only, some-none, untried_both, untried_written}
use Rattle.expand.proofs.Turn.{turn-nothing}

-- where the walk ends
pub end-bounds : (size units left end : ℕ) → 0 < units → end ≡ size * cond (ltb left units) (left + 1) units → (size ≤ end) × (end ≤ size * units)
end-bounds size units left end some ends = elim (dec_le (suc left) units) [
  | yes h ↦ (let one : end ≡ size * (left + 1) = ends ∙ rw (lt-ltb left units h) in
      (omega (arith, one, mul-le-mul_left size (let z : 1 ≤ left + 1 = omega arith in z)), omega (arith, one, mul-le-mul_left size (let z : left + 1 ≤ units = omega arith in z))))
  | no h ↦ (let all : end ≡ size * units = ends ∙ rw (le-ltb left units (omega arith)) in (omega (arith, all, mul-le-mul_left size some), omega arith))
]

pub end_as : (size units size' units' left end : ℕ) → end ≡ size * cond (ltb left units) (left + 1) units → size ≡ size' → units ≡ units' → end ≡ size' * cond (ltb left units') (left + 1) units'
end_as size units size' units' left end e es eu = e ∙ rw (es, eu)

pub product_as : (a b x y : ℕ) → a ≡ x → b ≡ y → a * b ≡ y * x
product_as a b x y ea eb = rw (ea, eb) (mul_comm x y)

-- a product above 0
pub factor-some : (k m e : ℕ) → e < k * m → 0 < k
factor-some zero m e h = absurd (let z : ⊥ = omega arith in z)
factor-some (suc k) m e h = omega arith

module _ (c t : List ℕ) (f : Fault) where
  -- ---- which pairs are tried
  tried-later : (u i : ℕ) → 1 ≤ u → tried c t f u i ≡ (eqb (get_or (plain_state c t f u) i 0) X && ltb 0 (nout c t f (u - 1)))
  unfolding tried
  tried-later zero i h = absurd (let z : ⊥ = omega arith in z)
  tried-later (suc u) i h = let same : suc u - 1 ≡ u = omega arith in rw same

  tried-first : (i : ℕ) → tried c t f 0 i ≡ false
  unfolding tried
  tried-first i = refl

  module _ (left : ℕ) (states : List ℕ) (lefts : OpenUnits c t f left) (room : L c t * F c ≤ length states) (plain : Rows (F c) (L c t) states (λ u. plain_state c t f u)) (some : 0 < L c t) where
    pub tried-to : (end : ℕ) → end ≡ F c * cond (ltb left (L c t)) (left + 1) (L c t) → TriedTo c t f end states
    tried-to end ends = record {
      least = end-least;
      most = omega (arith, end-most, mul_comm (F c) (L c t));
      inside = λ e h l.
          let width : 0 < F c = some-flop e l in
          let unit : e / F c < L c t = unit-inside (F c) (L c t) e width (omega (arith, l, end-most, mul_comm (F c) (L c t))) in
          let late : 1 ≤ e / F c = first-unit (F c) e width h in
          let early : e / F c - 1 < left = before e l width late in
          let bit : get_or states e 0 ≡ get_or (plain_state c t f (e / F c)) (e % F c) 0 = table_at (F c) (L c t) e states width room (omega (arith, l, end-most, mul_comm (F c) (L c t))) ∙ ap (λ r. get_or r (e % F c) 0) (plain.at (e / F c) unit) in
          tried-later (e / F c) (e % F c) late ∙ rw (lt-ltb 0 (nout c t f (e / F c - 1)) (lefts.above (e / F c - 1) early)) (and-true _ ∙ known e bit);
      before = λ e h. let zero : e / F c ≡ 0 = none e h in rw zero (tried-first (e % F c));
      behind = λ e h l.
          let width : 0 < F c = wide e l in
          let unit : e / F c < L c t = unit-inside (F c) (L c t) e width l in
          let late : 1 ≤ e / F c = first-unit (F c) e width (omega (arith, h, end-least)) in
          let past : left ≤ e / F c - 1 = after e h unit width in
          tried-later (e / F c) (e % F c) late ∙ rw (lefts.zero (e / F c - 1) past (omega arith)) (and-false (eqb (get_or (plain_state c t f (e / F c)) (e % F c) 0) X));
    }
      where
        known : (e : ℕ) {v : ℕ} → get_or states e 0 ≡ v → eqb v X ≡ is_x states e
        known e q = unfold is_x in rw q

        ltb-cases : {A : Type 0} → (left < L c t → end ≡ F c * (left + 1) → A) → (L c t ≤ left → end ≡ F c * L c t → A) → A
        ltb-cases f g = elim (dec_le (suc left) (L c t)) [
          | yes h ↦ f h (ends ∙ rw (lt-ltb left (L c t) h))
          | no h ↦ g (omega arith) (ends ∙ rw (le-ltb left (L c t) (omega arith)))
        ]

        end-most : end ≤ F c * L c t
        end-most = (end-bounds (F c) (L c t) left end some ends).1

        end-least : F c ≤ end
        end-least = (end-bounds (F c) (L c t) left end some ends).0

        some-flop : (e : ℕ) → e < end → 0 < F c
        some-flop e l = factor-some (F c) (L c t) e (omega (arith, l, end-most))

        wide : (e : ℕ) → e < L c t * F c → 0 < F c
        wide e l = factor-some (F c) (L c t) e (omega (arith, l, mul_comm (F c) (L c t)))

        none : (e : ℕ) → e < F c → e / F c ≡ 0
        none e h = let low : e / F c < 1 = unit-inside (F c) 1 e (omega arith) (omega arith) in omega arith

        before : (e : ℕ) → e < end → 0 < F c → 1 ≤ e / F c → e / F c - 1 < left
        before e l width late = ltb-cases
            (λ h q. let low : e / F c < left + 1 = unit-inside (F c) (left + 1) e width (omega (arith, l, q, mul_comm (F c) (left + 1))) in omega arith)
            (λ h q. let low : e / F c < L c t = unit-inside (F c) (L c t) e width (omega (arith, l, q, mul_comm (F c) (L c t))) in omega arith)

        after : (e : ℕ) → end ≤ e → e / F c < L c t → 0 < F c → left ≤ e / F c - 1
        after e h unit width = ltb-cases
            (λ k q. elim (dec_le (suc left) (e / F c)) [
              | yes g ↦ omega arith
              | no g ↦ (let few : F c * suc (e / F c) ≤ F c * (left + 1) = mul-le-mul_left (F c) (let z : suc (e / F c) ≤ left + 1 = omega arith in z) in
                  absurd (let z : ⊥ = omega (arith, position (F c) e, place-below (F c) e width, mul-suc (F c) (e / F c)) in z))
            ])
            (λ k q. absurd (let many : F c * suc (e / F c) ≤ F c * L c t = mul-le-mul_left (F c) unit in (let z : ⊥ = omega (arith, position (F c) e, place-below (F c) e width, mul-suc (F c) (e / F c)) in z)))

  -- ---- positions at which no pair is tried
  pub walk-idle : (e k : ℕ) (list : List ℕ) (w : Walk) → ((j : ℕ) → e ≤ j → j < e + k → tried c t f (j / F c) (j % F c) ≡ false) → e + k ≤ L c t * F c
      → Walked c t f e list w → Walked c t f (e + k) list w
  walk-idle e zero list w off h old = let same : e + 0 ≡ e = omega arith in rw same old
  walk-idle e (suc k) list w off h old =
      let more : e + suc k ≡ (e + k) + 1 = omega arith in
      let here : tried c t f ((e + k) / F c) ((e + k) % F c) ≡ false = off (e + k) (omega arith) (omega arith) in
      let width : 0 < F c = factor-some (F c) (L c t) (e + k) (omega (arith, mul_comm (F c) (L c t))) in
      rw more
      (turn-nothing c t f (e + k) list w width (unit-inside (F c) (L c t) (e + k) width (omega arith)) (walk-idle e k list w (λ j a b. off j a (omega arith)) (omega arith) old) (untried_both c t f _ _ here)
      (untried_written c t f _ _ here))

  -- ---- the beginning
  start-row : (u : ℕ) → row_to c t f 0 u ≡ plain_state c t f u
  unfolding row_to row_after
  start-row u = elim (dec_le (F c * u + F c) 0) [
    | yes h ↦ (let none : F c ≡ 0 = omega arith in rw (le-leb (F c * u + F c) 0 h) (ap (row_after c t f u) none))
    | no h ↦ (let none : 0 - F c * u ≡ 0 = omega arith in rw (lt-leb (F c * u + F c) 0 (omega arith), none))
  ]

  pub walk_start : (list : List ℕ) → ValidTest c t → ValidFault c f → Rows (F c) (L c t) list (λ u. plain_state c t f u) → Walked c t f 0 list record { both = None; opposed = None }
  walk_start list test fault rows = record {
    met = λ p h. one-only h refl;
    unmet = λ h j l. absurd (let z : ⊥ = omega arith in z);
    opposed = λ h p k. one-only k refl;
    unopposed = λ h k j l. absurd (let z : ⊥ = omega arith in z);
    rows = λ h k. record { at = λ u l. rows.at u l ∙ sym (start-row u) };
    three = λ h k u l. rw (start-row u) (unfold plain_state in state_at-three c f (omega (arith, fault.value)) t (power_up c) u test.bytes (power_up-three c));
  }

  -- a pair with both values marked ends the walk, wherever it stands
  pub walk-met : (e : ℕ) (list : List ℕ) (w : Walk) → is_some w.both ≡ true → Walked c t f e list w → Walked c t f (L c t * F c) list w
  walk-met e list w h old = record {
    met = old.met;
    unmet = λ l. some-none w.both h l;
    opposed = λ l. some-none w.both h l;
    unopposed = λ l. some-none w.both h l;
    rows = λ l. some-none w.both h l;
    three = λ l. some-none w.both h l;
  }

  -- the walk from its end to the last pair
  pub walk-last : (end at : ℕ) (list states : List ℕ) (w : Walk) → at ≡ end → TriedTo c t f end states → Walked c t f at list w → Walked c t f (L c t * F c) list w
  walk-last end at list states w ea tried old =
      let far : end + (L c t * F c - end) ≡ L c t * F c = omega (arith, tried.most) in
      let reached : Walked c t f (end + (L c t * F c - end)) list w = walk-idle end (L c t * F c - end) list w (λ j a b. tried.behind j a (omega arith)) (omega arith) (rw ea at old) in
      rw far at reached

  -- the walk at the first pair that may be tried, over a copy of the plain states
  pub walk-begun : (width : ℕ) (states list list' : List ℕ) (n : ℕ) → ValidTest c t → ValidFault c f → Rows (F c) (L c t) states (λ u. plain_state c t f u) → width ≡ F c → width ≤ L c t * F c
      → ((e : ℕ) → e < F c → tried c t f (e / F c) (e % F c) ≡ false) → n ≡ L c t * F c → L c t * F c ≤ length states → list' ≡ overwritten (take n states) list
      → Walked c t f width list' record { both = None; opposed = None }
  walk-begun width states list list' n test fault plain es wide off en room copy =
      let began = walk_start list' test fault record {
        at = λ u h.
            let fits : F c * u + F c ≤ L c t * F c = row_fits (F c) u (L c t) h in
            ap (λ l. row_of (F c) l u) copy ∙ row_copied (F c) n u states list (omega arith) (omega arith) ∙ plain.at u h;
      } in
      let far : 0 + F c ≡ width = omega arith in
      rw far at (walk-idle 0 (F c) list' _ (λ j a b. off j (omega arith)) (omega arith) began)
