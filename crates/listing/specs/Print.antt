-- What is read of the four files, and what is printed of them.
use Rattle.std.specs.Prelude.{◌≡◌, Bool, List, [], ◌∷◌, ◌++◌, ℕ, ◌+◌, ◌*◌, ◌/◌, ◌≤◌, min, ltb, length, take}
use Rattle.lists.specs.Scan.{gather}
use Rattle.lists.specs.Field.{word16}
use Rattle.model.specs.Inputs.{fault_at}
use Rattle.model.specs.Refusals.{grade_refusal}
use Rattle.model.specs.Grade.{eight_fields, record_at, grade_bytes}
use Rattle.model.specs.Listing.{number_line, job_lines, printed}
use Rattle.decimals.specs.Put.{Below}
use Rattle.listing.specs.declared.Longer.{Longer}

-- of a file: its first 65,536 bytes, and whether there are more
pub record ReadOf (file bytes : List ℕ) (more : Bool) : Type 0 where
  pub first : bytes ≡ take 65536 file
  pub longer : more ≡ ltb 65536 (length file)

-- the twelve numbers of fault j's line
unfoldable pub fault_fields : List ℕ → List ℕ → List ℕ → ℕ → List ℕ
fault_fields fs records groups j =
    let f = fault_at fs j in
    f.line ∷ f.pin ∷ f.value ∷ eight_fields (record_at records j) ++ (word16 groups (2 * j) ∷ [])

-- the same, each of five digits at most
pub record FieldsOf (fs records groups : List ℕ) (j : ℕ) (fields : List ℕ) : Type 0 where
  pub same : fields ≡ fault_fields fs records groups j
  pub small : Below 100000 fields

-- the lines of the faults below n
unfoldable pub lines_below : List ℕ → List ℕ → List ℕ → ℕ → List ℕ
lines_below fs records groups n = gather (λ j. number_line (fault_fields fs records groups j)) n

-- so many faults, each with a record and a group, and a print of `size` bytes with room for their lines
pub record Listable (fs records groups : List ℕ) (count size : ℕ) : Type 0 where
  pub faults : 4 * count ≤ length fs
  pub recorded : 16 * count ≤ length records
  pub grouped : 2 * count ≤ length groups
  pub room : 72 * count ≤ size

-- a print of `size` bytes has room: for a line that stands alone, and for a line to each fault, of which no more than 4,096 have records,
-- and the total
pub record PrintRoom (fs : List ℕ) (size : ℕ) : Type 0 where
  pub line : 100 ≤ size
  pub lines : 72 * min (length fs / 4) 4096 + 48 ≤ size

-- the lines of a job whose files are not too long
unfoldable pub job_print : List ℕ → List ℕ → List ℕ → List ℕ → List ℕ
job_print c t fs p = job_lines (grade_refusal c t fs p 6 65536 65536) fs (grade_bytes c t fs p 6)

-- The print, of which `r` bytes count, is that of the files, where these bytes are what was read of them.
pub record Printed (circuit test faults plan : List ℕ) (longer : Longer) (r : ℕ) (out : List ℕ) : Type 0 where
  pub room : r ≤ length out
  pub bytes : (c t fs p : List ℕ) → ReadOf c circuit longer.circuit → ReadOf t test longer.test → ReadOf fs faults longer.faults → ReadOf p plan longer.plan
      → take r out ≡ printed c t fs p
