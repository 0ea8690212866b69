-- Keys of records, the groups of the records so far, and what stands of them in the result area.
use Rattle.std.specs.Prelude.{◌≡◌, List, ℕ, ◌+◌, ◌*◌, ◌≤◌, ◌<◌, get_or}
use Rattle.lists.specs.Scan.{gather}
use Rattle.lists.specs.Field.{bytes16, overwritten}
use Rattle.model.specs.Grade.{record_at}
use Rattle.model.specs.Group.{group_of}

-- k is record j's verdict, time and line in one number, which can be taken apart in one way
pub record KeyOf (vs : List ℕ) (j k : ℕ) : Type 0 where
  pub verdict : (record_at vs j).verdict < 256
  pub time : (record_at vs j).time < 65536
  pub sum : k ≡ (record_at vs j).verdict + 256 * ((record_at vs j).time + 65536 * (record_at vs j).line)

-- the groups of the records below j: of each its first record, and that record's key
pub record Groups (vs : List ℕ) (j count : ℕ) (keys firsts : List ℕ) : Type 0 where
  pub few : count ≤ j
  pub below : (x : ℕ) → x < count → get_or firsts x 0 < j
  pub keyed : (x : ℕ) → x < count → KeyOf vs (get_or firsts x 0) (get_or keys x 0)
  -- no record before the first has its key
  pub lowest : (x a : ℕ) → x < count → a < get_or firsts x 0 → KeyOf vs a (get_or keys x 0) → ⊥
  -- what is the key of no group is the key of no record
  pub all : (k a : ℕ) → ((x : ℕ) → x < count → get_or keys x 0 ≡ k → ⊥) → a < j → KeyOf vs a k → ⊥

-- r is the first place whose key is the one at place `count`
pub record Sought (keys : List ℕ) (count r : ℕ) : Type 0 where
  pub within : r ≤ count
  pub found : get_or keys r 0 ≡ get_or keys count 0
  pub before : (x : ℕ) → x < r → get_or keys x 0 ≡ get_or keys count 0 → ⊥

-- the area holds the groups of the records below n, and behind them what it held before
pub record GroupsTo (vs : List ℕ) (n : ℕ) (old area : List ℕ) : Type 0 where
  pub all : area ≡ overwritten (gather (λ j. bytes16 (group_of vs j)) n) old
