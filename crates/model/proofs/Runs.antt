-- A run from a total state is total, and in each unit its values are settled.
use mathlib.Core.Path.{◌≡◌, refl, sym, ap, ◌∙◌}
use Prim.Native.Nat.{ℕ, zero, suc, ◌+◌, ◌≤◌, ◌<◌}
use mathlib.Core.Bool.{true, false}
use mathlib.Core.List.{List, [], ◌∷◌, map}
use lib.ListN.{get_or, length, length-append, get_or-append, length-map}
use lib.Seq.{get_or_at}
use lib.Dec.{eqb}
use native.Mathlib.Omega.{arith}
use native.Mathlib.Decide.{dec_le}
use borrow.Author.Tests.{eqb-false, le-leb, ne_eqb}
use Rattle.lists.proofs.Tests.{cond_cases}
use Rattle.lists.proofs.Scan.{count_below-less, tabulate-same, All, all-at, select-all, length-select}
use Rattle.model.specs.Inputs.{N, kind, pin_count, pin_line, is_input, is_flip_flop, is_gate, flip_flops, flip_flop_line, I, F, Fault}
use Rattle.model.specs.Accepted.{ValidCircuit}
use Rattle.model.specs.Values.{X, gate}
use Rattle.model.specs.Simulation.{is_stuck, seen, pin_seen, pins_seen, behind, values_below, line_values, next_state}
use Rattle.model.proofs.Total.{Total, TotalRow, nil-total, cons-total, append-total, tabulate-total, get_or_total, gate-total}
use Rattle.model.proofs.Implication.{Settled, unstuck, length-pins_seen, gate-kind}

-- a line that is neither input nor flip-flop is a gate
pub gate-left : (c : List ℕ) (n : ℕ) → is_input c n ≡ false → is_flip_flop c n ≡ false → is_gate c n ≡ true
unfolding is_input is_flip_flop is_gate
gate-left c n a b = le-leb 2 (kind c n) (two (kind c n) a b)
  where
    two : (k : ℕ) → eqb k 0 ≡ false → eqb k 1 ≡ false → 2 ≤ k
    two zero p q = absurd (eqb-false 0 0 p refl)
    two (suc zero) p q = absurd (eqb-false 1 1 q refl)
    two (suc (suc k)) p q = omega arith

gate-no_input : (c : List ℕ) (n : ℕ) → is_gate c n ≡ true → is_input c n ≡ false
unfolding is_input
gate-no_input c n g = ne_eqb (kind c n) 0 (λ e. let h : 2 ≤ kind c n = gate-kind c n g in let z : ⊥ = omega arith in z)

gate-no-flip-flop : (c : List ℕ) (n : ℕ) → is_gate c n ≡ true → is_flip_flop c n ≡ false
unfolding is_flip_flop
gate-no-flip-flop c n g = ne_eqb (kind c n) 1 (λ e. let h : 2 ≤ kind c n = gate-kind c n g in let z : ⊥ = omega arith in z)

-- ---- the flip-flops' lines
pub length-flip_flops : (c : List ℕ) → length (flip_flops c) ≡ F c
unfolding flip_flops F
length-flip_flops c = length-select (λ n. is_flip_flop c n) (N c)

flip_flops-all : (c : List ℕ) → All (λ n. (n < N c) × (is_flip_flop c n ≡ true)) (flip_flops c)
unfolding flip_flops
flip_flops-all c = select-all (λ n. is_flip_flop c n) (N c) (N c) (omega arith)

pub flip_flop_line-holds : (c : List ℕ) (i : ℕ) → i < F c → (flip_flop_line c i < N c) × (is_flip_flop c (flip_flop_line c i) ≡ true)
unfolding flip_flop_line
flip_flop_line-holds c i h =
    all-at (λ n. (n < N c) × (is_flip_flop c n ≡ true)) (flip_flops c) i 0 (flip_flops-all c) (omega (arith, length-flip_flops c))

pub length-next_state : (c : List ℕ) (f : Fault) (vs : List ℕ) → length (next_state c f vs) ≡ F c
unfolding next_state
length-next_state c f vs = length-map (flip_flops c) (λ n. pin_seen c f vs n 1) ∙ length-flip_flops c

-- ---- values below a line
pub length-values_below : (c : List ℕ) (f : Fault) (inputs state : List ℕ) (n : ℕ) → length (values_below c f inputs state n) ≡ n
unfolding values_below
length-values_below c f inputs state zero = refl
length-values_below c f inputs state (suc n) = rw length-append (omega (arith, length-values_below c f inputs state n))

values_below-at : (c : List ℕ) (f : Fault) (inputs state : List ℕ) (m n : ℕ) → n < m
    → get_or (values_below c f inputs state m) n X ≡ seen f n 0 (behind c f inputs state (values_below c f inputs state n) n)
unfolding values_below
values_below-at c f inputs state zero n h = absurd (let z : ⊥ = omega arith in z)
values_below-at c f inputs state (suc m) n h = elim (dec_le (suc n) m) [
  | yes g ↦ (
      get_or-append (values_below c f inputs state m) _ X n (omega (arith, length-values_below c f inputs state m))
      ∙ values_below-at c f inputs state m n g)
  | no g ↦ (
      let q : n ≡ m = omega arith in
      rw q (get_or_at (values_below c f inputs state m) _ [] X m (length-values_below c f inputs state m)))
]

pub length-line_values : (c : List ℕ) (f : Fault) (inputs state : List ℕ) → length (line_values c f inputs state) ≡ N c
unfolding line_values
length-line_values c f inputs state = length-values_below c f inputs state (N c)

pub map-total : (g : ℕ → ℕ) (P : ℕ → Type 0) (ns : List ℕ) → All P ns → ((n : ℕ) → P n → Total (g n)) → TotalRow (map g ns)
unfolding All TotalRow
map-total g P [] h e = tt
map-total g P (n ∷ ns) h e = (e n h.0, map-total g P ns h.1 e)

-- ---- one unit
module _ (c : List ℕ) (valid : ValidCircuit c) (f : Fault) (stuck : Total f.value) where
  seen-total : (n pin v : ℕ) → Total v → Total (seen f n pin v)
  unfolding seen
  seen-total n pin v h = cond_cases Total (is_stuck f n pin) _ v (λ _. stuck) (λ _. h)

  pin_seen-total : (vs : List ℕ) (n pin : ℕ) → TotalRow vs → pin_line c n pin < length vs → Total (pin_seen c f vs n pin)
  unfolding pin_seen
  pin_seen-total vs n pin h g = seen-total n pin _ (get_or_total vs (pin_line c n pin) h g)

  pins_seen-total : (vs : List ℕ) (n : ℕ) → n < N c → n ≤ length vs → is_gate c n ≡ true → TotalRow vs → TotalRow (pins_seen c f vs n)
  unfolding pins_seen
  pins_seen-total vs n b l g h = tabulate-total _ 1 (pin_count c n) (λ pin p q. at pin p q)
    where
      at : (pin : ℕ) → 1 ≤ pin → pin < 1 + pin_count c n → Total (pin_seen c f vs n pin)
      at zero p q = absurd (let z : ⊥ = omega arith in z)
      at (suc i) p q = pin_seen-total vs n (suc i) h (omega (arith, valid.lower n i b g (omega arith)))

  module _ (inputs : List ℕ) (given : TotalRow inputs) (all : length inputs ≡ I c) (state : List ℕ) (bits : TotalRow state)
      (each : length state ≡ F c) where
    behind-total : (vs : List ℕ) (n : ℕ) → n < N c → TotalRow vs → length vs ≡ n → Total (behind c f inputs state vs n)
    unfolding behind I F
    behind-total vs n b h l =
        cond_cases Total _ _ _
        (λ e. get_or_total inputs _ given (omega (arith, count_below-less (λ m. is_input c m) n (N c) b e)))
        (λ a. cond_cases Total _ _ _
        (λ e. get_or_total state _ bits (omega (arith, count_below-less (λ m. is_flip_flop c m) n (N c) b e)))
        (λ d.
        let g : is_gate c n ≡ true = gate-left c n a d in
        gate-total (kind c n) (pins_seen c f vs n) (gate-kind c n g) (valid.kinds n b)
        (omega (arith, valid.pinned n b g, length-pins_seen c f vs n)) (pins_seen-total vs n b (omega arith) g h)))

    values_below-total : (n : ℕ) → n ≤ N c → TotalRow (values_below c f inputs state n)
    unfolding values_below
    values_below-total zero b = nil-total
    values_below-total (suc n) b =
        let ih : TotalRow (values_below c f inputs state n) = values_below-total n (omega arith) in
        append-total (values_below c f inputs state n) _ ih
        (cons-total _ _ (seen-total n 0 _ (behind-total _ n b ih (length-values_below c f inputs state n))) nil-total)

    pub line_values-total : TotalRow (line_values c f inputs state)
    unfolding line_values
    line_values-total = values_below-total (N c) (omega arith)

    pub next_state-total : TotalRow (next_state c f (line_values c f inputs state))
    unfolding next_state
    next_state-total =
        map-total _ (λ n. (n < N c) × (is_flip_flop c n ≡ true)) (flip_flops c) (flip_flops-all c)
        (λ n h. pin_seen-total _ n 1 line_values-total (omega (arith, valid.fed n h.0 h.1, length-line_values c f inputs state)))

    -- a gate's pins see the same in all values as in those below it
    same-pins : (n : ℕ) → n < N c → is_gate c n ≡ true
        → pins_seen c f (values_below c f inputs state n) n ≡ pins_seen c f (line_values c f inputs state) n
    unfolding pins_seen pin_seen line_values
    same-pins n b g = tabulate-same _ _ 1 (pin_count c n) (λ pin p q. at pin p q)
      where
        at : (pin : ℕ) → 1 ≤ pin → pin < 1 + pin_count c n
            → pin_seen c f (values_below c f inputs state n) n pin ≡ pin_seen c f (values_below c f inputs state (N c)) n pin
        at zero p q = absurd (let z : ⊥ = omega arith in z)
        at (suc i) p q =
            let below : pin_line c n (suc i) < n = valid.lower n i b g (omega arith) in
            ap (λ (v : ℕ). seen f n (suc i) v)
            (values_below-at c f inputs state n (pin_line c n (suc i)) below
            ∙ sym (values_below-at c f inputs state (N c) (pin_line c n (suc i)) (omega arith)))

    behind-gate : (vs : List ℕ) (n : ℕ) → is_gate c n ≡ true → behind c f inputs state vs n ≡ gate (kind c n) (pins_seen c f vs n)
    unfolding behind
    behind-gate vs n g = rw (gate-no_input c n g, gate-no-flip-flop c n g)

    shows : (n : ℕ) → n < N c → is_gate c n ≡ true → is_stuck f n 0 ≡ false
        → get_or (line_values c f inputs state) n X ≡ gate (kind c n) (pins_seen c f (line_values c f inputs state) n)
    unfolding line_values
    shows n b g free =
        values_below-at c f inputs state (N c) n b
        ∙ unstuck f n 0 _ free
        ∙ behind-gate _ n g
        ∙ ap (gate (kind c n)) (same-pins n b g)

    pub settled : Settled c f (line_values c f inputs state)
    settled = record {
      kinds = valid.kinds;
      total = λ n b g. pins_seen-total _ n b (omega (arith, length-line_values c f inputs state)) g line_values-total;
      shows = shows;
    }
