-- The tables of a fault's plain run.
use mathlib.Core.Path.{◌≡◌, sym, ap, ◌∙◌}
use mathlib.Core.List.{List, ◌++◌, append-nil}
use Prim.Native.Nat.{ℕ, ◌+◌, ◌*◌, ◌-◌, ◌≤◌}
use native.Mathlib.Omega.{arith}
use lib.ListN.{length, take, drop, length-drop, drop_of_length-le}
use lib.Seq.{take-append-le, drop-append-le, take-take, drop_at, length-take-le, take-add, take_all}
use Rattle.lists.specs.Scan.{gather}
use Rattle.lists.specs.Field.{overwritten, row_of, Rows}
use Rattle.lists.proofs.Field.{row_fits, rows_written}
use Rattle.model.specs.Inputs.{F, O, L, Fault}
use Rattle.model.specs.Simulation.{no_fault, power_up, state_at, outputs_at, plain_state, plain_outputs, free_outputs}
use Rattle.run.proofs.Laws.{length-outputs, length-state, length-power_up}

-- ---- an area that is written from place n on
module _ (n : ℕ) (work end : List ℕ) where
  pub written-end : n ≤ length work → drop n (take n work ++ (end ++ drop (length work - n) (drop n work))) ≡ end
  written-end h =
      drop_at (take n work) _ n (length-take-le n work h)
      ∙ rw (drop_of_length-le (drop n work) {i = length work - n} (rw length-drop (omega arith))) (append-nil end)

  -- the rows before it stay, whatever is written
  pub rows_before : {new : List ℕ} (size count : ℕ) (row : ℕ → List ℕ) → end ≡ new → n ≤ length work → count * size ≤ n → Rows size count work row → Rows size count (take n work ++ (end ++ drop (length work - n) (drop n work))) row
  unfolding row_of
  rows_before size count row new h fits old = record {
    at = λ u l.
        let low : size * u + size ≤ count * size = row_fits size u count l in
        let long : length (take n work) ≡ n = length-take-le n work h in
        let part : take size (drop (size * u) (take n work)) ≡ take size (drop (size * u) work) = same (size * u) size (omega arith) in
        rw (drop-append-le (size * u) (take n work) (end ++ drop (length work - n) (drop n work)) (omega arith))
        (take-append-le size (drop (size * u) (take n work)) (end ++ drop (length work - n) (drop n work)) (rw length-drop (omega arith)) ∙ part ∙ old.at u l);
  }
    where
      same : (a b : ℕ) → a + b ≤ n → take b (drop a (take n work)) ≡ take b (drop a work)
      same a b l =
          let whole : take (a + b) (take n work) ≡ take (a + b) work = take-take (a + b) n work l in
          sym (part a b (take n work) (rw (length-take-le n work h) (omega arith))) ∙ ap (drop a) whole ∙ part a b work (omega arith)
        where
          part : (a b : ℕ) (xs : List ℕ) → a ≤ length xs → drop a (take (a + b) xs) ≡ take b (drop a xs)
          part a b xs k = rw (take-add a b xs) (drop_at (take a xs) (take b (drop a xs)) a (length-take-le a xs k))

-- ---- the two tables of a run from power-up
module _ (c t : List ℕ) (f : Fault) where
  pub response_rows : (table old : List ℕ) → table ≡ overwritten (gather (λ u. outputs_at c t f (power_up c) u) (L c t)) old → Rows (O c) (L c t) table (λ u. plain_outputs c t f u)
  unfolding plain_outputs outputs_at
  response_rows table old e = rows_written (λ u. outputs_at c t f (power_up c) u) (O c) (L c t) table old (λ u. length-outputs c f _) e

  pub state-rows : (width : ℕ) (table old : List ℕ) → width ≡ F c → table ≡ overwritten (gather (λ u. take width (state_at c t f (power_up c) u)) (L c t)) old → Rows (F c) (L c t) table (λ u. plain_state c t f u)
  unfolding plain_state
  state-rows width table old ew e =
      let rows = rows_written (λ u. take width (state_at c t f (power_up c) u)) (F c) (L c t) table old (λ u. length-take-le width (state_at c t f (power_up c) u) (omega (arith, all u)) ∙ ew) e in
      record { at = λ u l. rows.at u l ∙ take_all width (state_at c t f (power_up c) u) (omega (arith, all u)) }
    where
      all : (u : ℕ) → length (state_at c t f (power_up c) u) ≡ F c
      all u = length-state c t f (power_up c) u (length-power_up c)

  -- the responses behind place n of an area
  pub responses-behind : (n : ℕ) (work end old : List ℕ) → n ≡ L c t * O c → n ≤ length work → end ≡ overwritten (gather (λ u. outputs_at c t f (power_up c) u) (L c t)) old
      → Rows (O c) (L c t) (drop (L c t * O c) (take n work ++ (end ++ drop (length work - n) (drop n work)))) (λ u. plain_outputs c t f u)
  responses-behind n work end old en h e =
      let whole : drop (L c t * O c) (take n work ++ (end ++ drop (length work - n) (drop n work))) ≡ end = rw (← en) (written-end n work end h) in
      rw whole (response_rows end old e)

-- the responses of the run of no fault
pub free-rows : (c t table old : List ℕ) → table ≡ overwritten (gather (λ u. outputs_at c t no_fault (power_up c) u) (L c t)) old
    → Rows (O c) (L c t) table (λ u. free_outputs c t u)
unfolding free_outputs
free-rows c t table old e = response_rows c t no_fault table old e
