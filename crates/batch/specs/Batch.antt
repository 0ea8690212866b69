-- What the records of a pack of faults are.
use Rattle.std.specs.Prelude.{◌≡◌, true, cond, List, ℕ, ◌+◌, ◌*◌, ◌<◌, ◌≤◌, drop}
use Rattle.model.specs.Inputs.{L, fault_at}
use Rattle.model.specs.Grade.{grade}
use Rattle.plain.specs.declared.Firsts.{Firsts}
use Rattle.faults.specs.Given.{Blank}
use Rattle.record.specs.Record.{RecordsOf}
use Rattle.stages.specs.Stages.{Standing}
use Rattle.places.specs.Found.{FirstOf}
use Rattle.sieve.specs.Sieve.{is_mark, marks_below, Sieved}

-- two areas are the same from record j on
pub record SameFrom (j : ℕ) (before after : List ℕ) : Type 0 where
  pub same : drop (16 * j) after ≡ drop (16 * j) before

-- Fault j's record stands, and nothing behind it is written. Where it had a mark its verdict is that of the lane, and r is the lane behind.
pub record Stepped (c t fs plan : List ℕ) (k j lane : ℕ) (firsts : Firsts) (times lines before hits masks work after : List ℕ) (r : ℕ) : Type 0 where
  pub next : r ≡ lane + cond (is_mark before j) 1 0
  pub records : (is_mark before j ≡ true → FirstOf c t (fault_at fs j) (L c t) firsts lane times lines) → Sieved c t fs j (j + 1) before
      → (old : List ℕ) → RecordsOf (λ j. grade c t (fault_at fs j) plan k) j old before → RecordsOf (λ j. grade c t (fault_at fs j) plan k) (j + 1) old after
  pub behind : SameFrom (j + 1) before after
  pub blank : Blank hits masks
  pub stands : Standing c t work

-- what stage 1 finds of the faults with a mark between `from` and `to`, one to a lane, in order
pub record PackFound (c t fs area : List ℕ) (from to : ℕ) (firsts : Firsts) (times lines : List ℕ) : Type 0 where
  pub of : (j lane : ℕ) → from ≤ j → j < to → is_mark area j ≡ true → marks_below area from + lane ≡ marks_below area j
      → (lane < 64) × FirstOf c t (fault_at fs j) (L c t) firsts lane times lines

-- the records of the faults between `from` and `to` stand in the area, and nothing behind them is written
pub record Recorded (c t fs plan : List ℕ) (k from to : ℕ) (before hits masks work after : List ℕ) : Type 0 where
  pub records : (old : List ℕ) → RecordsOf (λ j. grade c t (fault_at fs j) plan k) from old before → RecordsOf (λ j. grade c t (fault_at fs j) plan k) to old after
  pub behind : SameFrom to before after
  pub blank : Blank hits masks
  pub stands : Standing c t work

-- where the next pack of so many faults begins
pub record NextPack (from count r : ℕ) : Type 0 where
  pub below : r ≤ count
  pub onward : from < count → from < r
