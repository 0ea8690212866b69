-- The records in an area: one more, or one that stands there already; and which verdict carries counts.
use mathlib.Core.Path.{◌≡◌, sym, ◌∙◌}
use Prim.Native.Nat.{ℕ, ◌+◌, ◌-◌, ◌*◌, ◌<◌}
use mathlib.Core.List.{List, ◌++◌, append_assoc}
use lib.ListN.{length, take, drop, length-append, take-append-drop}
use lib.Seq.{drop_at, drop-drop}
use Rattle.lists.specs.Scan.{gather}
use Rattle.lists.specs.Field.{overwritten, row_of}
use Rattle.lists.proofs.Scan.{length-gather, gather-turn}
use Rattle.lists.proofs.Field.{overwritten-none, gathered-behind, rows_written}
use Rattle.model.specs.Inputs.{Fault}
use Rattle.model.specs.Sequences.{taken, count_ending, ends_surviving, ends_differing, ends_clashing}
use Rattle.model.specs.Grade.{Verdict, counted, record_bytes}
use Rattle.model.proofs.Records.{length-record}
use Rattle.record.specs.Record.{carrying, RecordsOf}

-- the record of verdict n, written behind those of the verdicts below n
pub record-behind : (v : ℕ → Verdict) (w : Verdict) (n : ℕ) (old area end : List ℕ) → w ≡ v n → area ≡ overwritten (gather (λ j. record_bytes (v j)) n) old
    → end ≡ overwritten (record_bytes w) (take (length area - 16 * n) (drop (16 * n) area))
    → take (16 * n) area ++ (end ++ drop (length area - 16 * n) (drop (16 * n) area)) ≡ overwritten (gather (λ j. record_bytes (v j)) (n + 1)) old
record-behind v w n old area end same a e =
    gathered-behind (λ j. record_bytes (v j)) 16 (λ j. length-record (v j)) n old area end a (rw same at e)

-- ---- the records in an area
length-records : (v : ℕ → Verdict) (n : ℕ) → length (gather (λ j. record_bytes (v j)) n) ≡ 16 * n
length-records v n = length-gather (λ j. record_bytes (v j)) 16 (λ j. length-record (v j)) n

pub records-none : (v : ℕ → Verdict) (area : List ℕ) → RecordsOf v 0 area area
unfolding gather
records-none v area = record { all = sym (overwritten-none area) }

pub records_as : {v : ℕ → Verdict} {n n' : ℕ} {old area : List ℕ} → n' ≡ n → RecordsOf v n old area → RecordsOf v n' old area
records_as e r = rw e r

-- one record more
pub records-more : {v : ℕ → Verdict} {n j : ℕ} {old area end : List ℕ} (w : Verdict) → j ≡ n → RecordsOf v n old area → w ≡ v j
    → end ≡ overwritten (record_bytes w) (take (length area - 16 * j) (drop (16 * j) area))
    → RecordsOf v (n + 1) old (take (16 * j) area ++ (end ++ drop (length area - 16 * j) (drop (16 * j) area)))
records-more {v} w e r same written = record { all = rw e (record-behind v w _ _ _ _ (rw e at same) r.all (rw e at written)) }

-- the records are written over an area that has, behind them, what the old one has
pub records-over : (v : ℕ → Verdict) (n : ℕ) (mid old area : List ℕ) → area ≡ overwritten (gather (λ j. record_bytes (v j)) n) mid
    → drop (16 * n) mid ≡ drop (16 * n) old → RecordsOf v n old area
unfolding overwritten
records-over v n mid old area a e = record { all = a ∙ rw (length-records v n, e) }

module _ {v : ℕ → Verdict} {n : ℕ} {old area : List ℕ} (r : RecordsOf v n old area) where
  pub records-row : (j : ℕ) → j < n → row_of 16 area j ≡ record_bytes (v j)
  records-row j h = (rows_written (λ j. record_bytes (v j)) 16 n area old (λ j. length-record (v j)) r.all).at j h

  pub records-behind : drop (16 * n) area ≡ drop (16 * n) old
  unfolding overwritten
  records-behind = rw (r.all, drop_at (gather (λ j. record_bytes (v j)) n) _ (16 * n) (length-records v n), length-records v n)

  -- a record that stands there need not be written
  pub records_stand : row_of 16 area n ≡ record_bytes (v n) → RecordsOf v (n + 1) old area
  unfolding overwritten row_of
  records_stand e = record {
    all =
        let more : record_bytes (v n) ++ drop (16 * n + 16) old ≡ drop (16 * n) old =
        rw (← (rw records-behind at e), ← drop-drop) (take-append-drop 16 (drop (16 * n) old)) in
        r.all ∙ rw (gather-turn, length-append, length-record, length-records v n, append_assoc, more);
  }

-- the verdict with the counts of a fault's sequences
pub carrying-counted : (c t : List ℕ) (f : Fault) (p : List ℕ) (k v m differing clashing surviving start : ℕ) → let pairs = taken c t f p k in m ≡ length pairs
    → differing ≡ count_ending c t f pairs ends_differing → clashing ≡ count_ending c t f pairs ends_clashing → surviving ≡ count_ending c t f pairs ends_surviving
    → carrying v m differing clashing surviving start ≡ counted c t f p k v start
unfolding carrying counted
carrying-counted c t f p k v m differing clashing surviving start em ed ec es = rw (em, ed, ec, es)
