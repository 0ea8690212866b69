-- What the program prints, from the bytes of its four files, where a missing file is empty.
use Rattle.std.specs.Prelude.{ℕ, zero, suc, ◌+◌, ◌/◌, ◌%◌, cond, List, [], ◌∷◌, ◌++◌, length, eqb, ltb}
use Rattle.std.proofs.Math.Option.{Option, none, some, get_or}
use Rattle.lists.specs.Scan.{◌else◌, count_below, tabulate, gather}
use Rattle.model.specs.Inputs.{Fault, fault_count, fault_at}
use Rattle.model.specs.Refusals.{Refusal, grade_refusal}
use Rattle.model.specs.Grade.{Verdict, eight_fields, record_at, grade_bytes}
use Rattle.model.specs.Group.{group_of}

-- a number in decimal, as bytes: at most so many digits
unfoldable pub digits : ℕ → ℕ → List ℕ
digits zero n = []
digits (suc most) n =
    let higher = digits most (n / 10) in
    cond (ltb n 10) [] higher ++ ((48 + n % 10) ∷ [])

unfoldable pub decimal : ℕ → List ℕ
decimal n = digits (suc n) n

-- numbers with a space between, and byte 10 at the end
unfoldable pub number_line : List ℕ → List ℕ
number_line [] = 10 ∷ []
number_line (n ∷ []) = decimal n ++ (10 ∷ [])
number_line (n ∷ m ∷ ns) = decimal n ++ (32 ∷ number_line (m ∷ ns))

-- per fault: line, pin, value, the record's first eight fields, group
unfoldable pub fault_line : Fault → Verdict → ℕ → List ℕ
fault_line f v group = number_line (f.line ∷ f.pin ∷ f.value ∷ eight_fields v ++ (group ∷ []))

-- `refused NUMBER POSITION`
unfoldable pub refused_line : ℕ → ℕ → List ℕ
refused_line number position = 114 ∷ 101 ∷ 102 ∷ 117 ∷ 115 ∷ 101 ∷ 100 ∷ 32 ∷ number_line (number ∷ position ∷ [])

-- `too long` and the name
unfoldable pub too_long_line : List ℕ → List ℕ
too_long_line name = 116 ∷ 111 ∷ 111 ∷ 32 ∷ 108 ∷ 111 ∷ 110 ∷ 103 ∷ 32 ∷ name ++ (10 ∷ [])

-- `circuit.dat`, `test.dat`, `faults.dat`, `plan.dat`
abbrev pub circuit_name : List ℕ
circuit_name = 99 ∷ 105 ∷ 114 ∷ 99 ∷ 117 ∷ 105 ∷ 116 ∷ 46 ∷ 100 ∷ 97 ∷ 116 ∷ []

abbrev pub test_name : List ℕ
test_name = 116 ∷ 101 ∷ 115 ∷ 116 ∷ 46 ∷ 100 ∷ 97 ∷ 116 ∷ []

abbrev pub faults_name : List ℕ
faults_name = 102 ∷ 97 ∷ 117 ∷ 108 ∷ 116 ∷ 115 ∷ 46 ∷ 100 ∷ 97 ∷ 116 ∷ []

abbrev pub plan_name : List ℕ
plan_name = 112 ∷ 108 ∷ 97 ∷ 110 ∷ 46 ∷ 100 ∷ 97 ∷ 116 ∷ []

-- above 65,536 bytes it prints only `too long` and the name
unfoldable pub too_long : List ℕ → List ℕ → Option (List ℕ)
too_long file name = cond (ltb 65536 (length file)) (some (too_long_line name)) none

unfoldable pub graded_lines : List ℕ → List ℕ → List ℕ
graded_lines fs records = gather (λ j. fault_line (fault_at fs j) (record_at records j) (group_of records j)) (fault_count fs)

-- the number of records with verdict v
unfoldable pub with_verdict : List ℕ → ℕ → ℕ
with_verdict records v = count_below (λ j. eqb (record_at records j).verdict v) (length records / 16)

-- seven counts, for verdicts 1 to 7
unfoldable pub seven_counts : List ℕ → List ℕ
seven_counts records = tabulate (λ v. with_verdict records v) 1 7

-- `total` and the seven counts
unfoldable pub total_line : List ℕ → List ℕ
total_line records = 116 ∷ 111 ∷ 116 ∷ 97 ∷ 108 ∷ 32 ∷ number_line (seven_counts records)

-- after the last fault the total; a refused job has none
unfoldable pub job_lines : Refusal → List ℕ → List ℕ → List ℕ
job_lines none fs records = graded_lines fs records ++ total_line records
job_lines (some r) fs records = refused_line r.0 r.1

-- lends 65,536 bytes for each area, k = 6
unfoldable pub printed : List ℕ → List ℕ → List ℕ → List ℕ → List ℕ
printed c t fs p =
    get_or (too_long c circuit_name else too_long t test_name else too_long fs faults_name else too_long p plan_name)
    (job_lines (grade_refusal c t fs p 6 65536 65536) fs (grade_bytes c t fs p 6))
