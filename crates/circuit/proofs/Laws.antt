-- The tables, one line or pin at a time, and what a valid circuit gives at one line.
use mathlib.Core.Path.{◌≡◌, refl, sym, ap, ◌∙◌}
use Prim.Native.Nat.{ℕ, zero, suc, ◌+◌, ◌*◌, ◌/◌, ◌%◌, ◌<◌, ◌≤◌}
use mathlib.Core.Bool.{Bool, true, false, cond, true≢false}
use mathlib.Core.List.{List, [], ◌∷◌, ◌++◌, append-nil}
use lib.ListN.{length, get_or, set, length-set, length-append, get_or-append}
use lib.Seq.{get_or_at, get_or-set_same, get_or-set_other}
use native.Mathlib.Omega.{arith}
use native.Mathlib.Decide.{dec_le}
use lib.Dec.{eqb, leb}
use Rattle.std.specs.Int.{from_bool}
use borrow.Author.Tests.{le-leb, leb-true}
use Rattle.lists.specs.Scan.{select, count_below}
use Rattle.lists.proofs.Tests.{by-test}
use Rattle.lists.proofs.Scan.{count_below-less, count_below-turn, length-select, select-turn}
use Rattle.model.specs.Inputs.{N, is_input, is_flip_flop, is_output, is_gate, kind, pin_count, pin_line, output_mark, F, O, flip_flops, output_lines}
use Rattle.model.specs.Accepted.{ValidCircuit}
use Rattle.circuit.specs.Table.{Listed, byte_is_one, pin_read, pin_number, place_of}

pub listed-none : (P : ℕ → Bool) (table : List ℕ) → Listed (select P 0) table
unfolding select
listed-none P table = record { room = omega arith; same = λ i h. absurd (let z : ⊥ = omega arith in z) }

listed_more : (xs table : List ℕ) (s n : ℕ) → length xs ≡ s → s < length table → Listed xs table → Listed (xs ++ (n ∷ [])) (set table s n)
listed_more xs table s n e h l = record {
  room = rw (length-append, length-set) (omega arith);
  same = λ i k. elim (dec_le (suc i) s) [
    | yes g ↦ get_or-set_other table s i n 0 (λ q. omega arith) ∙ l.same i (omega arith) ∙ sym (get_or-append xs (n ∷ []) 0 i (omega arith))
    | no g ↦ (
        let last : i ≡ s = omega (arith, length-append xs (n ∷ [])) in
        rw last (get_or-set_same table s n 0 h ∙ sym (get_or_at xs n [] 0 s e)))
  ];
}

-- line n is listed where it passes, and is counted then
pub listed-turn : (P : ℕ → Bool) (table table' : List ℕ) (s s' n : ℕ) (b : Bool) → P n ≡ b → s ≡ count_below P n → (b ≡ true → s < length table)
    → table' ≡ cond b (set table s n) table → s' ≡ cond b (s + 1) s → Listed (select P n) table → (s' ≡ count_below P (n + 1)) × Listed (select P (n + 1)) table'
listed-turn P table table' s s' n true e c h t o l = (rw (o, count_below-turn P n, e, c), rw (t, select-turn P n, e) (listed_more (select P n) table s n (length-select P n ∙ sym c) (h refl) l))
listed-turn P table table' s s' n false e c h t o l = (rw (o, count_below-turn P n, e, c) (omega arith), rw (t, select-turn P n, e, append-nil) l)

pub listed-room : (room room₀ s n lines : ℕ) (P : ℕ → Bool) → count_below P lines ≤ room₀ → s ≡ count_below P n → room ≡ room₀ → n < lines → P n ≡ true → s < room
listed-room room room₀ s n lines P all c same h e = omega (arith, count_below-less P n lines h e)

select-same : (P R : ℕ → Bool) (n : ℕ) → ((m : ℕ) → P m ≡ R m) → (select P n ≡ select R n) × (count_below P n ≡ count_below R n)
unfolding select count_below
select-same P R zero e = (refl, refl)
select-same P R (suc n) e = let ih = select-same P R n e in (rw (ih.0, e n), rw (ih.1, e n))

pub flops-bytes : (c : List ℕ) → (select (λ n. byte_is_one c 0 n) (N c) ≡ flip_flops c) × (count_below (λ n. byte_is_one c 0 n) (N c) ≡ F c)
unfolding flip_flops F
flops-bytes c = select-same _ _ (N c) (λ n. byte-zero n)
  where
    byte-zero : (n : ℕ) → byte_is_one c 0 n ≡ is_flip_flop c n
    byte-zero n = unfold byte_is_one is_flip_flop kind in (let e : 12 * n + 0 ≡ 12 * n = omega arith in rw e)

pub outputs-bytes : (c : List ℕ) → (select (λ n. byte_is_one c 2 n) (N c) ≡ output_lines c) × (count_below (λ n. byte_is_one c 2 n) (N c) ≡ O c)
unfolding output_lines O
outputs-bytes c = select-same _ _ (N c) (λ n. byte-two n)
  where
    byte-two : (n : ℕ) → byte_is_one c 2 n ≡ is_output c n
    byte-two n = unfold byte_is_one is_output output_mark in refl

pub flops-listed : (c table : List ℕ) (lines : ℕ) → lines ≡ N c → Listed (select (λ n. byte_is_one c 0 n) lines) table → Listed (flip_flops c) table
flops-listed c table lines e h = rw (e, (flops-bytes c).0) at h

pub outputs-listed : (c table : List ℕ) (lines : ℕ) → lines ≡ N c → Listed (select (λ n. byte_is_one c 2 n) lines) table → Listed (output_lines c) table
outputs-listed c table lines e h = rw (e, (outputs-bytes c).0) at h

-- ---- a test as a number
pub from_bool-cond : (b : Bool) → from_bool b ≡ cond b 1 0
from_bool-cond true = refl
from_bool-cond false = refl

pub from_bool-le : (b : Bool) → from_bool b ≤ 1
from_bool-le true = omega arith
from_bool-le false = omega arith

-- one line more is counted
pub counted-turn : (P : ℕ → Bool) (n i one : ℕ) (b : Bool) → i ≡ count_below P n → one ≡ from_bool b → b ≡ P n → i + one ≡ count_below P (n + 1)
counted-turn P n i one b e o h = rw (count_below-turn, o, from_bool-cond, e, h)

-- ---- what a valid circuit gives at one line
pub is-gate : (c : List ℕ) (n k : ℕ) → k ≡ kind c n → 2 ≤ k → is_gate c n ≡ true
unfolding is_gate
is-gate c n k e h = le-leb 2 (kind c n) (omega arith)

pub lower-pin : (c : List ℕ) → ValidCircuit c → (n p : ℕ) → n < N c → is_gate c n ≡ true → 1 ≤ p → p ≤ pin_count c n → pin_line c n p < n
lower-pin c v n zero h g a b = absurd (let z : ⊥ = omega arith in z)
lower-pin c v n (suc i) h g a b = v.lower n i h g b

-- ---- the table of pins
-- a gate has the pin that is read for pin p
read-pin : (count p : ℕ) (b : Bool) → leb p count ≡ b → 1 ≤ count → 1 ≤ p → (1 ≤ cond b p 1) × (cond b p 1 ≤ count)
read-pin count p true e h g = (g, leb-true p count e)
read-pin count p false e h g = (omega arith, h)

pub pin-read-has : (count p : ℕ) → 1 ≤ count → 1 ≤ p → (1 ≤ pin_read count p) × (pin_read count p ≤ count)
unfolding pin_read
pin-read-has count p h g = read-pin count p (leb p count) refl h g

pub pin-read-lower : (c : List ℕ) → ValidCircuit c → (n p : ℕ) → n < N c → is_gate c n ≡ true → 1 ≤ p → pin_line c n (pin_read (pin_count c n) p) < n
pin-read-lower c v n p h g l = let has = pin-read-has (pin_count c n) p (v.pinned n h g) l in lower-pin c v n _ h g has.0 has.1

pub numbered_more : (c table : List ℕ) (e x : ℕ) → e < length table → ((i : ℕ) → i < e → is_gate c (i / 4) ≡ true → get_or table i 0 ≡ pin_number c (i / 4) (i % 4 + 1))
    → (is_gate c (e / 4) ≡ true → x ≡ pin_number c (e / 4) (e % 4 + 1))
    → (i : ℕ) → i < e + 1 → is_gate c (i / 4) ≡ true → get_or (set table e x) i 0 ≡ pin_number c (i / 4) (i % 4 + 1)
numbered_more c table e x h before now i l g = elim (dec_le (suc i) e) [
  | yes k ↦ get_or-set_other table e i x 0 (λ q. omega arith) ∙ before i (omega arith) g
  | no k ↦ (let last : i ≡ e = omega arith in rw last (get_or-set_same table e x 0 h ∙ now (rw last at g)))
]

-- ---- the places of other lines
-- the table once line n, of kind k, has been seen to
module _ (c table table' : List ℕ) (n k i s : ℕ) (ek : k ≡ kind c n) (room : 4 * n < length table) (now : table' ≡ cond (leb 2 k) table (set table (4 * n) (cond (eqb k 0) i s))) where
  changed : is_gate c n ≡ false → table' ≡ set table (4 * n) (cond (eqb k 0) i s)
  unfolding is_gate
  changed g = now ∙ (let low : leb 2 k ≡ false = ap (leb 2) ek ∙ g in rw low)

  kept : is_gate c n ≡ true → table' ≡ table
  unfolding is_gate
  kept g = now ∙ (let high : leb 2 k ≡ true = ap (leb 2) ek ∙ g in rw high)

  pub length-place : length table' ≡ length table
  length-place = by-test (is_gate c n) (λ g. ap length (kept g)) (λ g. ap length (changed g) ∙ length-set table (4 * n) _)

  -- what it holds of a gate stays
  pub gate-stays : (e : ℕ) → is_gate c (e / 4) ≡ true → get_or table' e 0 ≡ get_or table e 0
  gate-stays e h = by-test (is_gate c n)
      (λ g. ap (λ (x : List ℕ). get_or x e 0) (kept g))
      (λ g. ap (λ (x : List ℕ). get_or x e 0) (changed g) ∙ get_or-set_other table (4 * n) e _ 0
      (λ q. let same : e / 4 ≡ n = omega arith in true≢false (sym h ∙ ap (is_gate c) same ∙ g)))

  pub places-more : i ≡ count_below (λ m. is_input c m) n → s ≡ count_below (λ m. is_flip_flop c m) n
      → ((m : ℕ) → m < n → is_gate c m ≡ false → get_or table (4 * m) 0 ≡ place_of c m)
      → (m : ℕ) → m < n + 1 → is_gate c m ≡ false → get_or table' (4 * m) 0 ≡ place_of c m
  places-more ei es before m h g = elim (dec_le (suc m) n) [
    | yes l ↦ by-test (is_gate c n)
        (λ gate. ap (λ (x : List ℕ). get_or x (4 * m) 0) (kept gate) ∙ before m l g)
        (λ other. ap (λ (x : List ℕ). get_or x (4 * m) 0) (changed other) ∙ get_or-set_other table (4 * n) (4 * m) _ 0 (λ q. omega arith) ∙ before m l g)
    | no l ↦ (let last : m ≡ n = omega arith in
        rw last (ap (λ (x : List ℕ). get_or x (4 * n) 0) (changed (sym (ap (is_gate c) last) ∙ g)) ∙ get_or-set_same table (4 * n) _ 0 room ∙ here))
  ]
    where
      here : cond (eqb k 0) i s ≡ place_of c n
      here = unfold place_of is_input in rw (ek, ei, es)
