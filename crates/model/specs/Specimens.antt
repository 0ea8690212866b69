-- The specimens of document 01 as jobs, and the eleven verdicts that it gives for them.
use Rattle.std.specs.Prelude.{ℕ, ◌*◌, ◌-◌, List, [], ◌∷◌, ◌++◌, length, replicate}
use Rattle.lists.specs.Field.{bytes16}
use Rattle.model.specs.Inputs.{Fault}
use Rattle.model.specs.Grade.{Verdict, grade}
use Rattle.model.specs.Choose.{plan_bytes}

-- A circuit is written as a list of (kind, output mark, pins).

-- line numbers as 16-bit fields
abbrev pub fields16 : List ℕ → List ℕ
fields16 [] = []
fields16 (n ∷ ns) = bytes16 n ++ fields16 ns

abbrev pub line_of : ℕ → ℕ → List ℕ → List ℕ
line_of kind output pins = kind ∷ length pins ∷ output ∷ 0 ∷ fields16 pins ++ replicate (8 - 2 * length pins) 0

abbrev pub circuit_of : List (ℕ × ℕ × List ℕ) → List ℕ
circuit_of [] = []
circuit_of (line ∷ lines) = line_of line.0 line.1 line.2 ++ circuit_of lines

-- A: input 0; flip-flop 1 of 3, output; 2 = NOT 1; 3 = AND 0, 2.
unfoldable pub specimen_a : List ℕ
specimen_a = circuit_of ((0, 0, []) ∷ (1, 1, 3 ∷ []) ∷ (3, 0, 1 ∷ []) ∷ (4, 0, 0 ∷ 2 ∷ []) ∷ [])

-- B: input 0; flip-flop 1 of 2, output; 2 = AND 0, 1.
unfoldable pub specimen_b : List ℕ
specimen_b = circuit_of ((0, 0, []) ∷ (1, 1, 2 ∷ []) ∷ (4, 0, 0 ∷ 1 ∷ []) ∷ [])

-- D: input 0; flip-flop 1 of 1; 2 = NOT 1; outputs 3 = OR 0, 1 and 4 = OR 0, 2.
unfoldable pub specimen_d : List ℕ
specimen_d = circuit_of ((0, 0, []) ∷ (1, 0, 1 ∷ []) ∷ (3, 0, 1 ∷ []) ∷ (6, 1, 0 ∷ 1 ∷ []) ∷ (6, 1, 0 ∷ 2 ∷ []) ∷ [])

unfoldable pub stuck_at : ℕ → ℕ → ℕ → Fault
stuck_at line pin value = record { line = line; pin = pin; value = value }

unfoldable pub graded_specimens : List Verdict
graded_specimens =
    -- A (0,0,1)
    grade specimen_a (0 ∷ 0 ∷ 0 ∷ []) (stuck_at 0 0 1) [] 6
    -- A (0,0,0)
    ∷ grade specimen_a (0 ∷ 0 ∷ 0 ∷ []) (stuck_at 0 0 0) [] 6
    -- A (3,0,1)
    ∷ grade specimen_a (0 ∷ 0 ∷ 0 ∷ []) (stuck_at 3 0 1) [] 6
    -- A (3,1,1)
    ∷ grade specimen_a (0 ∷ 0 ∷ 0 ∷ []) (stuck_at 3 1 1) [] 6
    -- B (0,0,1), empty plan
    ∷ grade specimen_b (0 ∷ 0 ∷ []) (stuck_at 0 0 1) [] 6
    -- B, k = 0
    ∷ grade specimen_b (0 ∷ 0 ∷ []) (stuck_at 0 0 1) [] 0
    -- B, plan (0,0)
    ∷ grade specimen_b (0 ∷ 0 ∷ []) (stuck_at 0 0 1) (plan_bytes ((0, 0) ∷ [])) 6
    -- B, plan (0,0) (1,0)
    ∷ grade specimen_b (0 ∷ 0 ∷ []) (stuck_at 0 0 1) (plan_bytes ((0, 0) ∷ (1, 0) ∷ [])) 6
    -- D (0,0,0), test 1, empty plan
    ∷ grade specimen_d (1 ∷ []) (stuck_at 0 0 0) [] 6
    -- D, plan (0,0)
    ∷ grade specimen_d (1 ∷ []) (stuck_at 0 0 0) (plan_bytes ((0, 0) ∷ [])) 6
    -- D, test 1 1
    ∷ grade specimen_d (1 ∷ 1 ∷ []) (stuck_at 0 0 0) [] 6
    ∷ []

unfoldable pub eleven_verdicts : List (List ℕ)
eleven_verdicts =
    -- A (0,0,1)
    (3 ∷ 0 ∷ 0 ∷ 0 ∷ 1 ∷ 0 ∷ 0 ∷ 0 ∷ [])
    -- A (0,0,0)
    ∷ (5 ∷ 0 ∷ 0 ∷ 0 ∷ 0 ∷ 0 ∷ 0 ∷ 0 ∷ [])
    -- A (3,0,1)
    ∷ (1 ∷ 0 ∷ 1 ∷ 1 ∷ 0 ∷ 0 ∷ 0 ∷ 0 ∷ [])
    -- A (3,1,1)
    ∷ (3 ∷ 0 ∷ 0 ∷ 0 ∷ 1 ∷ 0 ∷ 0 ∷ 0 ∷ [])
    -- B (0,0,1), empty plan
    ∷ (6 ∷ 0 ∷ 0 ∷ 0 ∷ 0 ∷ 0 ∷ 1 ∷ 0 ∷ [])
    -- B, k = 0
    ∷ (7 ∷ 0 ∷ 0 ∷ 0 ∷ 0 ∷ 0 ∷ 1 ∷ 0 ∷ [])
    -- B, plan (0,0)
    ∷ (6 ∷ 1 ∷ 0 ∷ 0 ∷ 1 ∷ 0 ∷ 1 ∷ 0 ∷ [])
    -- B, plan (0,0) (1,0)
    ∷ (6 ∷ 2 ∷ 0 ∷ 0 ∷ 1 ∷ 2 ∷ 1 ∷ 0 ∷ [])
    -- D (0,0,0), test 1, empty plan
    ∷ (4 ∷ 0 ∷ 0 ∷ 0 ∷ 0 ∷ 0 ∷ 1 ∷ 0 ∷ [])
    -- D, plan (0,0)
    ∷ (3 ∷ 1 ∷ 0 ∷ 0 ∷ 2 ∷ 0 ∷ 0 ∷ 0 ∷ [])
    -- D, test 1 1
    ∷ (2 ∷ 0 ∷ 1 ∷ 1 ∷ 0 ∷ 0 ∷ 0 ∷ 0 ∷ [])
    ∷ []

-- A's four faults
unfoldable pub faults_of_a : List ℕ
faults_of_a = 0 ∷ 0 ∷ 0 ∷ 1 ∷ 0 ∷ 0 ∷ 0 ∷ 0 ∷ 3 ∷ 0 ∷ 0 ∷ 1 ∷ 3 ∷ 0 ∷ 1 ∷ 1 ∷ []

-- the whole print for them, byte by byte
unfoldable pub print_of_a : List ℕ
print_of_a =
    -- 0 0 1 3 0 0 0 1 0 0 0 0
    48 ∷ 32 ∷ 48 ∷ 32 ∷ 49 ∷ 32 ∷ 51 ∷ 32 ∷ 48 ∷ 32 ∷ 48 ∷ 32 ∷ 48 ∷ 32 ∷ 49 ∷ 32 ∷ 48 ∷ 32 ∷ 48 ∷ 32 ∷ 48 ∷ 32 ∷ 48 ∷ 10
    -- 0 0 0 5 0 0 0 0 0 0 0 1
    ∷ 48 ∷ 32 ∷ 48 ∷ 32 ∷ 48 ∷ 32 ∷ 53 ∷ 32 ∷ 48 ∷ 32 ∷ 48 ∷ 32 ∷ 48 ∷ 32 ∷ 48 ∷ 32 ∷ 48 ∷ 32 ∷ 48 ∷ 32 ∷ 48 ∷ 32 ∷ 49 ∷ 10
    -- 3 0 1 1 0 1 1 0 0 0 0 2
    ∷ 51 ∷ 32 ∷ 48 ∷ 32 ∷ 49 ∷ 32 ∷ 49 ∷ 32 ∷ 48 ∷ 32 ∷ 49 ∷ 32 ∷ 49 ∷ 32 ∷ 48 ∷ 32 ∷ 48 ∷ 32 ∷ 48 ∷ 32 ∷ 48 ∷ 32 ∷ 50 ∷ 10
    -- 3 1 1 3 0 0 0 1 0 0 0 0
    ∷ 51 ∷ 32 ∷ 49 ∷ 32 ∷ 49 ∷ 32 ∷ 51 ∷ 32 ∷ 48 ∷ 32 ∷ 48 ∷ 32 ∷ 48 ∷ 32 ∷ 49 ∷ 32 ∷ 48 ∷ 32 ∷ 48 ∷ 32 ∷ 48 ∷ 32 ∷ 48 ∷ 10
    -- total 1 0 2 0 1 0 0
    ∷ 116 ∷ 111 ∷ 116 ∷ 97 ∷ 108 ∷ 32 ∷ 49 ∷ 32 ∷ 48 ∷ 32 ∷ 50 ∷ 32 ∷ 48 ∷ 32 ∷ 49 ∷ 32 ∷ 48 ∷ 32 ∷ 48 ∷ 10 ∷ []
