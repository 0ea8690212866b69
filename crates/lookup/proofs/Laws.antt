-- The tables when nothing is held, and when one line more is; what a row tells of its line.
use mathlib.Core.Path.{◌≡◌, sym, ap, ◌∙◌}
use mathlib.Core.List.{List}
use Prim.Native.Nat.{ℕ, ◌+◌, ◌*◌, ◌≤◌, ◌<◌}
use native.Mathlib.Nat.{ne_of_lt}
use native.Mathlib.Omega.{arith}
use lib.Dec.{eqb}
use lib.ListN.{get_or, length, set, replicate, length-set, length-replicate, get_or-replicate}
use lib.Seq.{get_or-set_same, get_or-set_other}
use borrow.Author.Count.{below_none, below_more}
use borrow.Author.Tests.{eq-eqb, ne_eqb}
use Rattle.lists.proofs.Tests.{by-eq}
use Rattle.bench_text.specs.Text.{Part, bytes_of}
use Rattle.bench_text.specs.Bench.{name_at}
use Rattle.parts.specs.Hash.{hash_of}
use Rattle.lookup.specs.Lookup.{last, row_part, RowWithin, line_hash, Held}
use Rattle.lookup.proofs.Last.{last-here, last-before}

-- ---- nothing is held at first
no_lines : (text names heads : List ℕ) → length names ≡ 12288 → length heads ≡ 4096 → ((hash : ℕ) → hash < 4096 → get_or heads hash 0 ≡ 0) → Held text names heads 0
unfolding last
no_lines text names heads room slots tops = record {
  few = omega arith;
  room = room;
  slots = slots;
  starts = below_none _;
  sizes = below_none _;
  within = below_none _;
  links = below_none _;
  tops = tops;
}

pub none-held : (text : List ℕ) → Held text (replicate 12288 0) (replicate 4096 0) 0
none-held text = no_lines text _ _ (length-replicate {A = ℕ} 12288 0) (length-replicate {A = ℕ} 4096 0) (λ hash h. get_or-replicate {A = ℕ} 4096 hash 0 0 h)

-- ---- what a row tells
module _ {text names heads : List ℕ} {count : ℕ} (held : Held text names heads count) (n : ℕ) (h : n < count) where
  pub held-row : RowWithin text names n
  held-row = record {
    row = omega (arith, held.few, held.room);
    within = omega (arith, held.starts n h, held.sizes n h, held.within n h);
  }

  pub held-part : row_part names n ≡ name_at text n
  held-part = rw (held.starts n h, held.sizes n h)

-- ---- one line more is held
-- row n, written word by word
module _ (names : List ℕ) (n at size link : ℕ) where
  abbrev with_start : List ℕ
  with_start = set names (3 * n) at

  abbrev with_part : List ℕ
  with_part = set with_start (3 * n + 1) size

  abbrev with_row : List ℕ
  with_row = set with_part (3 * n + 2) link

  -- the words before it stay
  row_kept : (i : ℕ) → i < 3 * n → get_or with_row i 0 ≡ get_or names i 0
  row_kept i h =
      get_or-set_other with_part (3 * n + 2) i link 0 (ne_of_lt (omega arith))
      ∙ get_or-set_other with_start (3 * n + 1) i size 0 (ne_of_lt (omega arith))
      ∙ get_or-set_other names (3 * n) i at 0 (ne_of_lt h)

  row_written : 3 * n + 2 < length names → (get_or with_row (3 * n) 0 ≡ at) × (get_or with_row (3 * n + 1) 0 ≡ size) × (get_or with_row (3 * n + 2) 0 ≡ link)
  row_written room = (
    get_or-set_other with_part (3 * n + 2) (3 * n) link 0 (ne_of_lt (omega arith)) ∙ get_or-set_other with_start (3 * n + 1) (3 * n) size 0 (ne_of_lt (omega arith))
        ∙ get_or-set_same names (3 * n) at 0 (omega arith),
    get_or-set_other with_part (3 * n + 2) (3 * n + 1) link 0 (ne_of_lt (omega arith)) ∙ get_or-set_same with_start (3 * n + 1) size 0 (rw length-set (omega arith)),
    get_or-set_same with_part (3 * n + 2) link 0 (rw (length-set, length-set) room),
  )

-- the hash of a line's name, of the part that tells it
pub part_hash : (text : List ℕ) (n : ℕ) (p : Part) → p ≡ name_at text n → hash_of (bytes_of text p) ≡ line_hash text n
unfolding line_hash
part_hash text n p e = ap (λ p. hash_of (bytes_of text p)) e

module _ {text names heads : List ℕ} {n hash : ℕ} {p : Part} (held : Held text names heads n) (more : n < 4096) (e : p ≡ name_at text n)
    (w : p.at + p.size ≤ length text) (own : hash ≡ line_hash text n) (low : hash < 4096) where
  abbrev heading : ℕ
  heading = get_or heads hash 0

  kept : (i : ℕ) → i < 3 * n → get_or (with_row names n p.at p.size heading) i 0 ≡ get_or names i 0
  kept = row_kept names n p.at p.size heading

  -- the highest line of each hash
  top : (b : ℕ) → b < 4096 → get_or (set heads hash (n + 1)) b 0 ≡ last (λ m. eqb (line_hash text m) b) (n + 1)
  top b h = by-eq b hash
      (λ e. rw (e, get_or-set_same heads hash (n + 1) 0 (omega (arith, held.slots))) (sym (last-here _ n (eq-eqb _ _ (sym own)))))
      (λ other. get_or-set_other heads hash b (n + 1) 0 other ∙ held.tops b h ∙ sym (last-before _ n (ne_eqb _ _ (λ e. other (sym e ∙ sym own)))))

  pub held_more : Held text (with_row names n p.at p.size heading) (set heads hash (n + 1)) (n + 1)
  held_more =
      let written = row_written names n p.at p.size heading (omega (arith, held.room)) in record {
        few = omega arith;
        room = rw (length-set, length-set, length-set) held.room;
        slots = rw length-set held.slots;
        starts = below_more _ n (λ m h. kept (3 * m) (omega arith) ∙ held.starts m h) (written.0 ∙ ap (λ (p : Part). p.at) e);
        sizes = below_more _ n (λ m h. kept (3 * m + 1) (omega arith) ∙ held.sizes m h) (written.1 ∙ ap (λ (p : Part). p.size) e);
        within = below_more _ n held.within (rw (← e) w);
        links = below_more _ n (λ m h. kept (3 * m + 2) (omega arith) ∙ held.links m h)
            (written.2 ∙ held.tops hash low ∙ ap (λ b. last (λ m. eqb (line_hash text m) b) n) own);
        tops = top;
      }
