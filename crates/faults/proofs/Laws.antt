-- A row is opened for a line, and the fault is stored in its lanes.
use mathlib.Core.Path.{◌≡◌, refl, sym, ◌∙◌}
use mathlib.Core.Bool.{false, cond}
use mathlib.Core.List.{List}
use Prim.Native.Nat.{ℕ, suc, ◌+◌, ◌*◌, ◌<◌, ◌≤◌}
use native.Mathlib.Omega.{arith}
use native.Mathlib.Decide.{dec_le}
use borrow.Author.Tests.{eq-eqb, ne_eqb}
use lib.Dec.{eqb}
use lib.ListN.{length, get_or, set, length-set, replicate, length-replicate, get_or-replicate, get_or-eq_default}
use lib.Seq.{get_or-set_same, get_or-set_other}
use Rattle.lists.proofs.Tests.{by-eq}
use Rattle.model.specs.Inputs.{Fault}
use Rattle.model.specs.Values.{X}
use Rattle.model.specs.Simulation.{no_fault, is_stuck, seen}
use Rattle.model.proofs.Implication.{unstuck}
use Rattle.lanes.specs.declared.Lanes.{Lanes}
use Rattle.lanes.specs.Lane.{Holds, At, lanes_at, all_x, stored, Room}
use Rattle.lanes.proofs.Laws.{shows-x, stored_other, stored_same, holds_as}
use Rattle.unit.specs.Unit.{Stuck, MaskRoom}
use Rattle.faults.specs.Given.{Blank, OnlyAt, Within, InRows, OneMore}

-- ---- a byte, and a place, is cleared
pub set-zero : (bs : List ℕ) (i k : ℕ) → i < length bs → ((k ≡ i → ⊥) → get_or bs k 0 ≡ 0) → get_or (set bs i 0) k 0 ≡ 0
set-zero bs i k l h = by-eq k i (λ e. rw e (get_or-set_same bs i 0 0 l)) (λ e. get_or-set_other bs i k 0 0 e ∙ h e)

stored-X : (ws : List ℕ) (i k : ℕ) → Room (i + 1) ws → ((k ≡ i → ⊥) → lanes_at ws k ≡ all_x) → lanes_at (stored ws i all_x) k ≡ all_x
stored-X ws i k l h = by-eq k i (λ e. rw e (stored_same ws i all_x l)) (λ e. stored_other ws i k all_x e ∙ h e)

holds-X : (t : ℕ) (ws : List ℕ) (m : ℕ) → lanes_at ws m ≡ all_x → At t ws m X
holds-X t ws m e = holds_as t _ _ _ e (shows-x t 2 (omega arith))

-- the places that may hold masks: one less at the beginning, more at the end
module _ {a b : ℕ} {ws : List ℕ} (old : Within a b ws) where
  pub within-less : {a' : ℕ} {ws' : List ℕ} → a' ≡ a + 1 → ws' ≡ stored ws a all_x → Room (a + 1) ws → Within a' b ws'
  within-less e w l = record { outside = λ m h. rw w (stored-X ws a m l (λ ne. old.outside m (λ p q. h (omega arith) q))) }

  within_more : {b' : ℕ} → b ≤ b' → Within a b' ws
  within_more l = record { outside = λ m h. old.outside m (λ p q. h p (omega arith)) }

-- ---- a fault, and the places where it is not
module _ (f : Fault) (n p : ℕ) where
  seen_here : f.line ≡ n → f.pin ≡ p → seen f n p X ≡ f.value
  unfolding seen is_stuck
  seen_here e g = rw (eq-eqb f.line n e, eq-eqb f.pin p g)

  not_stuck : (f.line ≡ n → f.pin ≡ p → ⊥) → is_stuck f n p ≡ false
  unfolding is_stuck
  not_stuck h = by-eq f.line n
      (λ e. rw (eq-eqb f.line n e, ne_eqb f.pin p (h e)))
      (λ e. rw (ne_eqb f.line n e))

stuck-none : (n p : ℕ) → n < 65536 → is_stuck no_fault n p ≡ false
unfolding no_fault
stuck-none n p h = not_stuck no_fault n p (λ e g. omega arith)

-- ---- nothing is given yet
pub blank-stuck : (t : ℕ) (hits masks : List ℕ) → Blank hits masks → t < 64 → length hits ≤ 65536 → Stuck t hits masks no_fault
unfolding no_fault
blank-stuck t hits masks b h l = record {
  lane = h;
  at = λ n k. record { binary = omega arith; free = λ z p. stuck-none n p (omega arith); held = λ z p q. absurd (z (b.rows n)) };
}

pub blank-rows : {hits masks : List ℕ} {faults : ℕ → Fault} → Blank hits masks → length hits ≤ 65536 → ((s : ℕ) → faults s ≡ no_fault) → InRows 0 hits masks faults
blank-rows b l none = record {
  rows = λ n. omega (arith, b.rows n);
  apart = λ n m e z. absurd (z (b.rows n));
  places = record { outside = λ m h. b.places m };
  lanes = λ s h. rw (none s) (blank-stuck s _ _ b h l);
}

-- ---- a lane that has no fault is given one
-- in lane t every mask of every line is X
abbrev Idle : ℕ → List ℕ → List ℕ → Type 0
Idle t hits masks = (n p : ℕ) → n < length hits → (get_or hits n 0 ≡ 0 → ⊥) → p < 5 → At t masks (5 * get_or hits n 0 + p) X

none-idle : (t : ℕ) (hits masks : List ℕ) (f : Fault) → f ≡ no_fault → length hits ≤ 65536 → Stuck t hits masks f → Idle t hits masks
none-idle t hits masks f e l s n p k z q =
    let none : seen f n p X ≡ X = rw e (unstuck no_fault n p X (stuck-none n p (omega arith))) in
    rw none at ((s.at n k).held z p q)

-- the fault's line has the row, and no other line has it
module _ (t : ℕ) (hits masks : List ℕ) (f : Fault) (row pin : ℕ) (x : Lanes) where
  lane-stuck : t < 64 → f.pin ≡ pin → pin < 5 → f.value < 2 → get_or hits f.line 0 ≡ row → (row ≡ 0 → ⊥) → ((n : ℕ) → get_or hits n 0 ≡ row → n ≡ f.line)
      → Room (5 * row + 5) masks → Holds t x f.value → Idle t hits masks → Stuck t hits (stored masks (5 * row + pin) x) f
  lane-stuck h ep lp lv er nz apart room new idle =
      let row-of : (n : ℕ) → f.line ≡ n → get_or hits n 0 ≡ row = λ n e. rw (← e) er in record {
        lane = h;
        at = λ n k. record {
          binary = lv;
          free = λ z p. not_stuck f n p (λ e g. nz (sym (row-of n e) ∙ z));
          held = λ z p q. by-eq (5 * get_or hits n 0 + p) (5 * row + pin)
              (λ e. rw (e, seen_here f n p (sym (apart n (omega arith))) (omega arith)) (holds_as t _ _ _ (stored_same masks _ x (omega arith)) new))
              (λ e. holds_as t _ _ _ (stored_other masks _ _ x e)
              (rw (unstuck f n p X (not_stuck f n p (λ g y. e (omega (arith, row-of n g))))) (idle n p k z q)));
        };
      }

-- ---- one fault in all lanes
module _ {hits masks hits' masks' : List ℕ} {line pin : ℕ} (x : Lanes) (eh : hits' ≡ set hits line 1) (em : masks' ≡ stored masks (5 + pin) x)
    (b : Blank hits masks) where
  pub all-only : OnlyAt line pin hits' masks'
  all-only = record {
    rows = λ n h. rw eh (get_or-set_other hits line n 1 0 h ∙ b.rows n);
    places = λ m h. rw em (stored_other masks (5 + pin) m x h ∙ b.places m);
  }

  pub all-stuck : {stuck : ℕ} → line < length hits → MaskRoom masks → pin < 5 → stuck < 2 → ((t : ℕ) → t < 64 → Holds t x stuck)
      → (t : ℕ) (f : Fault) → t < 64 → f.line ≡ line → f.pin ≡ pin → f.value ≡ stuck → Stuck t hits' masks' f
  all-stuck l lm lp ls new t f h el ep ev =
      rw (eh, em) (lane-stuck t (set hits line 1) masks f 1 pin x h ep lp (omega arith) (rw el (get_or-set_same hits line 1 0 l)) (λ z. omega arith)
      (λ n e. by-eq n line (λ g. g ∙ sym el) (λ g. omega (arith, get_or-set_other hits line n 1 0 g, b.rows n)))
      (omega arith) (rw ev (new t h)) (λ n p k z q. holds-X t masks _ (b.places _)))

-- and taken back
pub all-taken : {hits masks hits' masks' : List ℕ} {line pin : ℕ} → hits' ≡ set hits line 0 → masks' ≡ stored masks (5 + pin) all_x → OnlyAt line pin hits masks
    → line < length hits → MaskRoom masks → pin < 5 → Blank hits' masks'
all-taken {hits} {masks} {line = line} {pin = pin} eh em b l lm lp = record {
  rows = λ n. rw eh (set-zero hits line n l (b.rows n));
  places = λ m. rw em (stored-X masks (5 + pin) m (omega arith) (b.places m));
}

-- ---- one lane more
-- the line has a row, opened now or before
pub record Rowed (t : ℕ) (hits hits' masks : List ℕ) (line : ℕ) : Type 0 where
  pub size : length hits' ≡ length hits
  pub row : get_or hits' line 0 ≡ 0 → ⊥
  pub kept : (n : ℕ) → (n ≡ line → ⊥) → get_or hits' n 0 ≡ get_or hits n 0
  pub rows : (faults : ℕ → Fault) → InRows t hits masks faults → InRows (t + 1) hits' masks faults

pub rowed_before : {t : ℕ} {hits hits' masks : List ℕ} {line : ℕ} → hits' ≡ hits → (get_or hits line 0 ≡ 0 → ⊥) → Rowed t hits hits' masks line
rowed_before e z = rw e record {
  size = refl;
  row = z;
  kept = λ n h. refl;
  rows = λ faults b. record { rows = λ n. omega (arith, b.rows n); apart = b.apart; places = within_more b.places (omega arith); lanes = b.lanes };
}

module _ (t : ℕ) (hits : List ℕ) (line : ℕ) (l : line < length hits) where
  abbrev opened : List ℕ
  opened = set hits line (t + 1)

  there : (n : ℕ) → (n ≡ line → ⊥) → get_or opened n 0 ≡ get_or hits n 0
  there n h = get_or-set_other hits line n (t + 1) 0 h

  here : (n : ℕ) → n ≡ line → get_or opened n 0 ≡ t + 1
  here n e = rw e (get_or-set_same hits line (t + 1) 0 l)

  module _ (masks : List ℕ) (faults : ℕ → Fault) (b : InRows t hits masks faults) where
    rows_apart : (n m : ℕ) → get_or opened n 0 ≡ get_or opened m 0 → (get_or opened n 0 ≡ 0 → ⊥) → n ≡ m
    rows_apart n m h k = by-eq n line
        (λ e. by-eq m line (λ g. e ∙ sym g) (λ g. omega (arith, here n e, there m g, b.rows m)))
        (λ e. by-eq m line
        (λ g. omega (arith, there n e, here m g, b.rows n))
        (λ g. b.apart n m (sym (there n e) ∙ h ∙ there m g) (λ q. k (there n e ∙ q))))

    lane-kept : get_or hits line 0 ≡ 0 → (s : ℕ) → s < 64 → Stuck s opened masks (faults s)
    lane-kept z s h = record {
      lane = h;
      at = λ n k. let old = (b.lanes s h).at n (omega (arith, length-set hits line (t + 1))) in record {
        binary = old.binary;
        free = λ e p. by-eq n line (λ g. absurd (let w : ⊥ = omega (arith, here n g) in w)) (λ g. old.free (sym (there n g) ∙ e) p);
        held = λ e p q. by-eq n line
            (λ g. rw (here n g, unstuck (faults s) n p X (old.free (rw g z) p)) (holds-X s masks _ (b.places.outside _ (λ x y. omega arith))))
            (λ g. rw (there n g) (old.held (λ w. e (there n g ∙ w)) p q));
      };
    }

  pub rowed_now : {hits' masks : List ℕ} → hits' ≡ opened → get_or hits line 0 ≡ 0 → Rowed t hits hits' masks line
  rowed_now {masks = masks} e z = rw e record {
    size = length-set hits line (t + 1);
    row = λ q. omega (arith, here line refl);
    kept = there;
    rows = λ faults b. record {
      rows = λ n. by-eq n line (λ g. omega (arith, here n g)) (λ g. omega (arith, there n g, b.rows n));
      apart = rows_apart masks faults b;
      places = within_more b.places (omega arith);
      lanes = lane-kept masks faults b z;
    };
  }

-- lane t is given its fault; every other lane sees what it saw
module _ (t stuck m : ℕ) (masks : List ℕ) (x : Lanes) (new : (s w : ℕ) → s < 64 → At s masks m w → (s ≡ t → w ≡ X) → Holds s x (cond (eqb s t) stuck w)) where
  other-kept : Room (m + 1) masks → (s k v : ℕ) → s < 64 → (s ≡ t → ⊥) → At s masks k v → At s (stored masks m x) k v
  other-kept room s k v h ne old = by-eq k m
      (λ e. rw e (holds_as s _ _ _ (stored_same masks _ x room) (rw (ne_eqb s t ne) at (new s v h (rw e at old) (λ g. absurd (ne g))))))
      (λ e. holds_as s _ _ _ (stored_other masks _ k x e) old)

pub lane-given : {t line pin stuck row : ℕ} {hits hits' masks masks' : List ℕ} (x : Lanes) → Rowed t hits hits' masks line
    → t < 64 → line < length hits → length hits ≤ 65536 → MaskRoom masks → pin < 5 → stuck < 2 → row ≡ get_or hits' line 0 → masks' ≡ stored masks (5 * row + pin) x
    → ((s w : ℕ) → s < 64 → At s masks (5 * row + pin) w → (s ≡ t → w ≡ X) → Holds s x (cond (eqb s t) stuck w))
    → (before after : ℕ → Fault) → OneMore t line pin stuck before after → InRows t hits masks before → InRows (t + 1) hits' masks' after
lane-given {t} {line} {pin} {stuck} {row} {hits} {hits'} {masks} x opens ht l wide room lp ls er em new before after one old =
    let b = opens.rows before old in
    let small : row ≤ t + 1 = rw er (b.rows line) in
    let here : get_or hits' (after t).line 0 ≡ row = rw one.given.0 (sym er) in
    let idle : Idle t hits' masks = none-idle t hits' masks (before t) one.idle (omega (arith, opens.size)) (b.lanes t ht) in
    let was : At t masks (5 * row + pin) X = rw er (idle line pin (omega (arith, opens.size)) opens.row lp) in
    rw em record {
      rows = b.rows;
      apart = b.apart;
      places = record { outside = λ m h. stored_other masks _ m x (λ e. h (omega arith) (omega arith)) ∙ b.places.outside m h };
      lanes = λ s h. by-eq s t
          (λ e. rw e (lane-stuck t hits' masks (after t) row pin x ht one.given.1 lp (omega (arith, one.given.2)) here (λ z. opens.row (sym er ∙ z))
          (λ n g. b.apart n _ (g ∙ sym here) (λ z. opens.row (sym er ∙ sym g ∙ z)))
          (omega arith) (rw one.given.2 (rw (eq-eqb t t refl) at (new t X ht was (λ g. refl)))) idle))
          (λ e. let was = (b.lanes s h).at in rw (one.others s e) record {
            lane = h;
            at = λ n k. record { binary = (was n k).binary; free = (was n k).free; held = λ z p q. other-kept t stuck _ masks x new (omega arith) s _ _ h e ((was n k).held z p q) };
          });
    }

-- ---- areas of zeros
zero-at : (n i : ℕ) → ◌≡◌ {A = ℕ} (get_or (replicate n 0) i 0) 0
zero-at n i = elim (dec_le (suc i) n) [
  | yes g ↦ get_or-replicate n i 0 0 g
  | no g ↦ get_or-eq_default (replicate n 0) 0 (rw (length-replicate {A = ℕ} n 0) (omega arith))
]

pub blank-zeros : (n m : ℕ) → Blank (replicate n 0) (replicate m 0)
blank-zeros n m = record { rows = λ i. zero-at n i; places = place }
  where
    place : (i : ℕ) → lanes_at (replicate m 0) i ≡ all_x
    place i = unfold lanes_at in simp (zero-at m)
