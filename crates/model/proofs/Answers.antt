-- What calls return, what areas hold afterwards, and what the program prints, computed on small inputs. The expected results are those of
-- an independent grader, or read off the documents; above a job stand misreadings that it tells apart.
use mathlib.Core.Path.{◌≡◌, refl}
use mathlib.Core.List.{[], ◌∷◌, ◌++◌}
use lib.ListN.{replicate}
use Rattle.model.specs.Refusals.{done, refused}
use Rattle.model.specs.Simulate.{simulate_answer, simulate_area}
use Rattle.model.specs.Grade.{grade_answer, grade_area}
use Rattle.model.specs.Choose.{choose_answer, choose_area}
use Rattle.model.specs.Group.{group_answer, group_area}
use Rattle.model.specs.Generate.{generate_answer, generate_area}
use Rattle.model.specs.Listing.{printed}
use Rattle.model.specs.Specimens.{circuit_of, specimen_a, specimen_b, specimen_d, faults_of_a}
use Rattle.model.proofs.Computed.{computes}

-- what calls return, accepted and refused
pub answered :
    -- row 3 before 2 (kind above 9 has no right count); rows 2 to 5: byte position; rows 2 to 5: position 0
    (grade_answer (circuit_of ((0, 0, []) ∷ (1, 1, 2 ∷ []) ∷ []) ++ (10 ∷ 9 ∷ 0 ∷ 0 ∷ 0 ∷ 0 ∷ 1 ∷ 0 ∷ 0 ∷ 0 ∷ 0 ∷ 0 ∷ [])) (0 ∷ 1 ∷ []) (0 ∷ 0 ∷ 0 ∷ 1 ∷ []) (0 ∷ 0 ∷ 0 ∷ 0 ∷ []) 2 200 50 ≡ refused 2 2)
    -- row 2 over all records first; rows 2 to 5 each over all records; row 4: byte 3 not looked at
    × (grade_answer ((0 ∷ 0 ∷ 0 ∷ 1 ∷ 0 ∷ 0 ∷ 0 ∷ 0 ∷ 0 ∷ 0 ∷ 0 ∷ 0 ∷ []) ++ circuit_of ((10, 1, 2 ∷ []) ∷ (4, 0, 0 ∷ 1 ∷ []) ∷ [])) (0 ∷ 1 ∷ []) (0 ∷ 0 ∷ 0 ∷ 1 ∷ []) (0 ∷ 0 ∷ 0 ∷ 0 ∷ []) 2 200 50 ≡ refused 4 0)
    -- row 2 over all records first; rows 2 to 5 each over all records; rows 2 to 5: byte position; rows 2 to 5: position 0
    × (simulate_answer (circuit_of ((0, 0, []) ∷ (1, 1, 2 ∷ 0 ∷ []) ∷ (10, 0, 0 ∷ 1 ∷ []) ∷ [])) (0 ∷ 1 ∷ []) (0 ∷ 0 ∷ 0 ∷ 1 ∷ []) 200 4 ≡ refused 3 1)
    -- row 4 before 3; rows 2 to 5: byte position; rows 2 to 5: position 0; row 3 allows one pin for kinds 4 to 9
    × (grade_answer (circuit_of ((0, 0, []) ∷ (1, 1, 2 ∷ []) ∷ []) ++ (4 ∷ 1 ∷ 0 ∷ 0 ∷ 0 ∷ 0 ∷ 1 ∷ 0 ∷ 0 ∷ 0 ∷ 0 ∷ 0 ∷ [])) (0 ∷ 1 ∷ []) (0 ∷ 0 ∷ 0 ∷ 1 ∷ []) (0 ∷ 0 ∷ 0 ∷ 0 ∷ []) 2 200 50 ≡ refused 3 2)
    -- row 5 before 4; rows 2 to 5: byte position; rows 2 to 5: position 0; row 4: byte 3 not looked at
    × (simulate_answer (circuit_of ((0, 0, []) ∷ (1, 1, 2 ∷ []) ∷ []) ++ (4 ∷ 2 ∷ 0 ∷ 1 ∷ 0 ∷ 0 ∷ 2 ∷ 0 ∷ 0 ∷ 0 ∷ 0 ∷ 0 ∷ [])) (0 ∷ 1 ∷ []) (0 ∷ 0 ∷ 0 ∷ 1 ∷ []) 200 4 ≡ refused 4 2)
    -- rows 2 to 5: byte position; rows 2 to 5: position 0; a gate may name itself; a gate may name any line
    × (grade_answer (circuit_of ((0, 0, []) ∷ (1, 1, 2 ∷ []) ∷ (4, 0, 1 ∷ 2 ∷ []) ∷ [])) (0 ∷ 1 ∷ []) (0 ∷ 0 ∷ 0 ∷ 1 ∷ []) (0 ∷ 0 ∷ 0 ∷ 0 ∷ []) 2 200 50 ≡ refused 5 2)
    -- rows 2 to 5: byte position; rows 2 to 5: position 0; row 5 allows line N
    × (grade_answer (circuit_of ((0, 0, []) ∷ (1, 1, 3 ∷ []) ∷ (4, 0, 0 ∷ 1 ∷ []) ∷ [])) (0 ∷ 1 ∷ []) (0 ∷ 0 ∷ 0 ∷ 1 ∷ []) (0 ∷ 0 ∷ 0 ∷ 0 ∷ []) 2 200 50 ≡ refused 5 1)
    -- Simulate takes several faults; Simulate with two faults: position 1; rows 10 and 9 change places; Simulate: 10 before 9
    × (simulate_answer specimen_b (0 ∷ 1 ∷ []) (0 ∷ 0 ∷ 0 ∷ 1 ∷ 9 ∷ 0 ∷ 0 ∷ 0 ∷ []) 200 4 ≡ refused 9 0)
    -- Choose takes several faults; rows 10 and 9 change places; Choose: 10 before 9
    × (choose_answer specimen_b (0 ∷ 1 ∷ []) (0 ∷ 0 ∷ 7 ∷ 1 ∷ 0 ∷ 0 ∷ 0 ∷ 1 ∷ []) 2 200 10 ≡ refused 9 0)
    -- row 10: byte position; row 10: position 0; rows 11 and 10 change places; rows 12 and 10 change places
    × (grade_answer specimen_b (0 ∷ 1 ∷ []) (0 ∷ 0 ∷ 0 ∷ 1 ∷ 9 ∷ 0 ∷ 0 ∷ 0 ∷ []) (0 ∷ []) 2 200 50 ≡ refused 10 1)
    -- rows 12 and 11 change places; rows 12 and 10 change places
    × (grade_answer specimen_b (0 ∷ 1 ∷ []) (0 ∷ 0 ∷ 0 ∷ 1 ∷ []) (0 ∷ 0 ∷ []) 13 200 50 ≡ refused 11 0)
    -- row 12 allows 13; row 12: position k; rows 13 and 12 change places; rows 14 and 12 change places
    × (grade_answer specimen_b (0 ∷ 1 ∷ []) (0 ∷ 0 ∷ 0 ∷ 1 ∷ []) (0 ∷ 0 ∷ 0 ∷ 0 ∷ []) 13 0 50 ≡ refused 12 0)
    -- row 13: coefficient of N one less; row 13: coefficient of O one less; row 13: coefficient of F one less; row 13: coefficient of 8
    -- one less; row 13 without L; rows 14 and 13 change places; rows 14 and 12 change places
    × (grade_answer specimen_b (0 ∷ 1 ∷ []) (0 ∷ 0 ∷ 0 ∷ 1 ∷ []) (0 ∷ 0 ∷ 0 ∷ 0 ∷ []) 2 67 0 ≡ refused 13 0)
    -- row 13: coefficient of N one less; row 13: coefficient of O one less; row 13: coefficient of F one less; row 13: coefficient of 8
    -- one less; row 13 without L; row 13 asked of Grade only; rows 14 and 13 change places; rows 14 and 12 change places
    × (choose_answer specimen_b (0 ∷ 1 ∷ []) (0 ∷ 0 ∷ 0 ∷ 1 ∷ []) 2 67 0 ≡ refused 13 0)
    -- row 14: choose asks one byte less; row 14: Choose asks only what it writes
    × (choose_answer specimen_b (0 ∷ 1 ∷ []) (0 ∷ 0 ∷ 0 ∷ 0 ∷ []) 2 200 7 ≡ refused 14 0)
    -- row 15: multiple of 16 not asked; rows 14 and 15 change places
    × (group_answer (0 ∷ 0 ∷ 0 ∷ 0 ∷ 0 ∷ 0 ∷ 0 ∷ 0 ∷ 0 ∷ 0 ∷ 0 ∷ 0 ∷ 0 ∷ 0 ∷ 0 ∷ 0 ∷ 0 ∷ []) 0 ≡ refused 15 0)
    -- row 14: group asks one byte less
    × (group_answer (0 ∷ 0 ∷ 0 ∷ 0 ∷ 0 ∷ 0 ∷ 0 ∷ 0 ∷ 0 ∷ 0 ∷ 0 ∷ 0 ∷ 0 ∷ 0 ∷ 0 ∷ 0 ∷ 0 ∷ 0 ∷ 0 ∷ 0 ∷ 0 ∷ 0 ∷ 0 ∷ 0 ∷ 0 ∷ 0 ∷ 0 ∷ 0 ∷ 0 ∷ 0 ∷ 0 ∷ 0 ∷ 0 ∷ 0 ∷ 0 ∷ 0 ∷ 0 ∷ 0 ∷ 0 ∷ 0 ∷ 0 ∷ 0 ∷ 0 ∷ 0 ∷ 0 ∷ 0 ∷ 0 ∷ 0 ∷ []) 5 ≡ refused 14 0)
    -- Grade refuses an empty fault list; row 14: grade asks one byte more
    × (grade_answer specimen_b (0 ∷ 1 ∷ []) [] (0 ∷ 0 ∷ 0 ∷ 0 ∷ []) 2 200 0 ≡ done 0)
    -- a flip-flop may not name itself; Simulate needs a fault; row 13: coefficient of N one more; row 13: coefficient of O one more; row
    -- 13: coefficient of F one more; row 13: coefficient of 8 one more; row 13: 4N inside the product with L; row 13: one byte more than
    -- the need asked; row 14: simulate asks one byte more; row 14: Simulate asks L x N
    × (simulate_answer (circuit_of ((0, 0, []) ∷ (1, 1, 1 ∷ []) ∷ (1, 1, 3 ∷ []) ∷ (6, 0, 0 ∷ 0 ∷ []) ∷ [])) (1 ∷ 0 ∷ []) [] 112 4 ≡ done 4)
unfolding computes
answered = (refl, refl, refl, refl, refl, refl, refl, refl, refl, refl, refl, refl, refl, refl, refl, refl, refl, refl, refl)

-- what result areas hold afterwards
pub held :
    -- Simulate writes by line, then time; a stuck flip-flop pin fixes the plain state bit at unit 0
    (simulate_area (circuit_of ((0, 1, []) ∷ (1, 1, 0 ∷ []) ∷ [])) (0 ∷ 0 ∷ []) (1 ∷ 0 ∷ 1 ∷ 1 ∷ []) 72 (replicate 7 170)
    ≡ 0 ∷ 2 ∷ 0 ∷ 1 ∷ 170 ∷ 170 ∷ 170 ∷ [])
    -- bytes past the result cleared; 16-bit fields high byte first; the first record copied to all faults
    × (grade_area (circuit_of ((1, 0, 1 ∷ []) ∷ (9, 0, 0 ∷ 0 ∷ 0 ∷ []) ∷ (0, 1, []) ∷ [])) (0 ∷ 1 ∷ 0 ∷ 1 ∷ 0 ∷ []) (0 ∷ 0 ∷ 1 ∷ 0 ∷ 2 ∷ 0 ∷ 0 ∷ 0 ∷ []) [] 2 152 (replicate 34 170)
    ≡ 5 ∷ 0 ∷ 0 ∷ 0 ∷ 0 ∷ 0 ∷ 0 ∷ 0 ∷ 0 ∷ 0 ∷ 0 ∷ 0 ∷ 0 ∷ 0 ∷ 0 ∷ 0 ∷ 1 ∷ 0 ∷ 1 ∷ 0 ∷ 2 ∷ 0 ∷ 0 ∷ 0 ∷ 0 ∷ 0 ∷ 0 ∷ 0 ∷ 0 ∷ 0 ∷ 0 ∷ 0 ∷ 170 ∷ 170 ∷ [])
    -- Choose clears the area up to 4k; Choose admits only Nout(u) > 0
    × (choose_area (circuit_of ((1, 0, 1 ∷ []) ∷ (0, 0, []) ∷ (6, 1, 1 ∷ 0 ∷ []) ∷ (1, 0, 3 ∷ []) ∷ [])) (1 ∷ 1 ∷ []) (2 ∷ 0 ∷ 1 ∷ 0 ∷ []) 6 104 (replicate 27 170)
    ≡ (0 ∷ 0 ∷ 0 ∷ 0 ∷ 0 ∷ 0 ∷ 1 ∷ 0 ∷ 1 ∷ 0 ∷ 1 ∷ 0 ∷ []) ++ replicate 15 170)
    -- Group leaves out the verdict, or the line; Group compares low bytes only; Group writes high byte first
    × (group_area (6 ∷ 2 ∷ 1 ∷ 1 ∷ 1 ∷ 0 ∷ 2 ∷ 1 ∷ 1 ∷ 0 ∷ 1 ∷ 0 ∷ 0 ∷ 2 ∷ 1 ∷ 0 ∷ 7 ∷ 2 ∷ 0 ∷ 0 ∷ 1 ∷ 0 ∷ 1 ∷ 2 ∷ 0 ∷ 2 ∷ 1 ∷ 2 ∷ 0 ∷ 0 ∷ 1 ∷ 1 ∷ 5 ∷ 2 ∷ 0 ∷ 0 ∷ 1 ∷ 0 ∷ 1 ∷ 2 ∷ 0 ∷ 2 ∷ 1 ∷ 2 ∷ 0 ∷ 0 ∷ 1 ∷ 1 ∷ 6 ∷ 2 ∷ 1 ∷ 1 ∷ 1 ∷ 2 ∷ 2 ∷ 1 ∷ 1 ∷ 0 ∷ 1 ∷ 0 ∷ 0 ∷ 2 ∷ 1 ∷ 0 ∷ []) (replicate 10 170)
    ≡ 0 ∷ 0 ∷ 1 ∷ 0 ∷ 2 ∷ 0 ∷ 3 ∷ 0 ∷ 170 ∷ 170 ∷ [])
    -- a refusal that writes
    × (grade_area ((0 ∷ 0 ∷ 0 ∷ 1 ∷ 0 ∷ 0 ∷ 0 ∷ 0 ∷ 0 ∷ 0 ∷ 0 ∷ 0 ∷ []) ++ circuit_of ((10, 1, 2 ∷ []) ∷ (4, 0, 0 ∷ 1 ∷ []) ∷ [])) (0 ∷ 1 ∷ []) (0 ∷ 0 ∷ 0 ∷ 1 ∷ []) (0 ∷ 0 ∷ 0 ∷ 0 ∷ []) 2 200 (replicate 50 170)
    ≡ replicate 50 170)
unfolding computes
held = (refl, refl, refl, refl, refl)

-- one row each, and answers of accepted calls
pub answered-rows :
    (grade_answer [] (0 ∷ []) [] [] 6 200 50 ≡ refused 1 0)
    × (grade_answer (circuit_of ((0, 0, []) ∷ (1, 2, 2 ∷ []) ∷ (4, 0, 0 ∷ 1 ∷ []) ∷ [])) (0 ∷ []) [] [] 6 200 50 ≡ refused 4 1)
    × (grade_answer (circuit_of ((0, 0, []) ∷ []) ++ (1 ∷ 1 ∷ 1 ∷ 0 ∷ 0 ∷ 0 ∷ 0 ∷ 0 ∷ 0 ∷ 0 ∷ 1 ∷ 0 ∷ [])) (0 ∷ []) [] [] 6 200 50 ≡ refused 4 1)
    × (grade_answer (circuit_of ((0, 0, []) ∷ [])) (0 ∷ []) [] [] 6 200 50 ≡ refused 6 0)
    × (grade_answer (circuit_of ((1, 1, 0 ∷ []) ∷ [])) (0 ∷ []) [] [] 6 200 50 ≡ refused 6 0)
    × (grade_answer specimen_b [] [] [] 6 200 50 ≡ refused 7 0)
    × (grade_answer (circuit_of ((0, 1, []) ∷ (0, 0, []) ∷ [])) (0 ∷ 0 ∷ 2 ∷ []) [] [] 6 200 50 ≡ refused 7 0)
    × (simulate_answer specimen_b (0 ∷ 2 ∷ []) (0 ∷ []) 200 4 ≡ refused 8 1)
    × (simulate_answer specimen_b (0 ∷ 1 ∷ []) (9 ∷ 0 ∷ 0 ∷ 0 ∷ 0 ∷ []) 200 4 ≡ refused 9 0)
    × (simulate_answer specimen_b (0 ∷ 1 ∷ []) (9 ∷ 0 ∷ 0 ∷ 0 ∷ []) 0 4 ≡ refused 10 0)
    × (simulate_answer specimen_b (0 ∷ 1 ∷ []) [] 67 0 ≡ refused 13 0)
    × (simulate_answer (circuit_of ((0, 1, []) ∷ (0, 1, []) ∷ [])) (0 ∷ 0 ∷ []) [] 200 1 ≡ refused 14 0)
    × (choose_answer specimen_b (0 ∷ 1 ∷ []) [] 2 200 10 ≡ refused 9 0)
    × (choose_answer specimen_b (0 ∷ 1 ∷ []) (0 ∷ 0 ∷ 7 ∷ 1 ∷ []) 13 200 10 ≡ refused 10 0)
    × (choose_answer specimen_b (0 ∷ 1 ∷ []) (0 ∷ 0 ∷ 0 ∷ 1 ∷ []) 13 0 0 ≡ refused 12 0)
    × (choose_answer specimen_b (0 ∷ 0 ∷ []) (0 ∷ 0 ∷ 0 ∷ 1 ∷ []) 6 200 24 ≡ done 2)
    × (grade_answer specimen_a (0 ∷ 0 ∷ 0 ∷ []) faults_of_a [] 6 100 64 ≡ done 4)
    × (grade_answer specimen_b (0 ∷ 0 ∷ []) (0 ∷ 0 ∷ 0 ∷ 1 ∷ 0 ∷ 0 ∷ 0 ∷ 0 ∷ []) [] 0 68 32 ≡ done 2)
    × (grade_answer specimen_d (1 ∷ []) (0 ∷ 0 ∷ 0 ∷ 0 ∷ []) [] 6 200 16 ≡ done 1)
    × (group_answer (replicate 32 0) 4 ≡ done 2)
unfolding computes
answered-rows = (refl, refl, refl, refl, refl, refl, refl, refl, refl, refl, refl, refl, refl, refl, refl, refl, refl, refl, refl, refl)

-- areas of Simulate and Group, accepted and refused
pub held_rows :
    (simulate_area (circuit_of ((0, 1, []) ∷ [])) (1 ∷ []) [] 16 (7 ∷ []) ≡ 1 ∷ [])
    × (simulate_area (circuit_of ((0, 1, []) ∷ [])) (1 ∷ []) [] 15 (7 ∷ []) ≡ 7 ∷ [])
    × (group_area (replicate 32 0) (7 ∷ 7 ∷ 7 ∷ []) ≡ 7 ∷ 7 ∷ 7 ∷ [])
    × (group_area ((2 ∷ 0 ∷ 1 ∷ []) ++ replicate 13 0 ++ (2 ∷ 0 ∷ 2 ∷ []) ++ replicate 13 0) (replicate 4 7) ≡ 0 ∷ 0 ∷ 1 ∷ 0 ∷ [])
unfolding computes
held_rows = (refl, refl, refl, refl)

-- what Generate returns and writes
pub generated :
    -- the seed before the circuit; 17 before 16; 14 before 16
    (generate_answer [] 0 0 0 ≡ refused 1 0)
    × (generate_answer specimen_b 0 0 0 ≡ refused 16 0)
    × (generate_answer specimen_b 0 1 0 ≡ refused 16 0)
    -- L in 16 bits; 14 before 17; 17 allows 1,025, or 0
    × (generate_answer specimen_b 1 65537 1 ≡ refused 17 0)
    × (generate_answer specimen_b 1 1025 0 ≡ refused 17 0)
    × (generate_answer specimen_b 1 1025 1025 ≡ refused 17 0)
    × (generate_answer specimen_b 1 0 0 ≡ refused 17 0)
    -- 14 of L bytes; 14 asks one byte less
    × (generate_answer (circuit_of ((0, 1, []) ∷ (0, 0, []) ∷ [])) 1 3 5 ≡ refused 14 0)
    -- 17 refuses 1,024; it returns the time units
    × (generate_answer (circuit_of ((0, 1, []) ∷ (0, 0, []) ∷ [])) 65535 1024 2048 ≡ done 2048)
    -- another mask; the seed's own bit first; a shift left; a step per record; a byte per line; bytes past the result cleared
    × (generate_area (circuit_of ((0, 1, []) ∷ (1, 0, 0 ∷ []) ∷ (0, 0, []) ∷ [])) 0xace1 5 (replicate 12 170)
    ≡ 0 ∷ 0 ∷ 0 ∷ 0 ∷ 1 ∷ 1 ∷ 1 ∷ 0 ∷ 0 ∷ 1 ∷ 170 ∷ 170 ∷ [])
    -- the mask by a test of the new number's lowest bit
    × (generate_area specimen_b 1 12 (replicate 12 170) ≡ 0 ∷ 0 ∷ 0 ∷ 0 ∷ 0 ∷ 0 ∷ 0 ∷ 0 ∷ 0 ∷ 0 ∷ 1 ∷ 0 ∷ [])
    -- a refusal that writes
    × (generate_area specimen_b 0xace1 4 (replicate 3 170) ≡ replicate 3 170)
unfolding computes
generated = (refl, refl, refl, refl, refl, refl, refl, refl, refl, refl, refl, refl)

-- what the program prints
pub prints :
    -- refused 1 0
    (printed [] [] [] [] ≡ 114 ∷ 101 ∷ 102 ∷ 117 ∷ 115 ∷ 101 ∷ 100 ∷ 32 ∷ 49 ∷ 32 ∷ 48 ∷ 10 ∷ [])
    -- refused 8 12
    × (printed specimen_b (replicate 12 0 ++ (2 ∷ [])) [] [] ≡ 114 ∷ 101 ∷ 102 ∷ 117 ∷ 115 ∷ 101 ∷ 100 ∷ 32 ∷ 56 ∷ 32 ∷ 49 ∷ 50 ∷ 10 ∷ [])
    -- 0 0 1 6 0 0 0 0 0 1 0 0 and total 0 0 0 0 0 1 0, with six flip-flops and k = 6
    × (printed (circuit_of ((0, 0, []) ∷ (1, 1, 7 ∷ []) ∷ (1, 0, 2 ∷ []) ∷ (1, 0, 3 ∷ []) ∷ (1, 0, 4 ∷ []) ∷ (1, 0, 5 ∷ []) ∷ (1, 0, 6 ∷ []) ∷ (4, 0, 0 ∷ 1 ∷ []) ∷ [])) (0 ∷ 0 ∷ []) (0 ∷ 0 ∷ 0 ∷ 1 ∷ []) []
    ≡ 48 ∷ 32 ∷ 48 ∷ 32 ∷ 49 ∷ 32 ∷ 54 ∷ 32 ∷ 48 ∷ 32 ∷ 48 ∷ 32 ∷ 48 ∷ 32 ∷ 48 ∷ 32 ∷ 48 ∷ 32 ∷ 49 ∷ 32 ∷ 48 ∷ 32 ∷ 48 ∷ 10
    ∷ 116 ∷ 111 ∷ 116 ∷ 97 ∷ 108 ∷ 32 ∷ 48 ∷ 32 ∷ 48 ∷ 32 ∷ 48 ∷ 32 ∷ 48 ∷ 32 ∷ 48 ∷ 32 ∷ 49 ∷ 32 ∷ 48 ∷ 10 ∷ [])
    -- no fault: total 0 0 0 0 0 0 0
    × (printed specimen_b (0 ∷ 1 ∷ []) [] [] ≡ 116 ∷ 111 ∷ 116 ∷ 97 ∷ 108 ∷ 32 ∷ 48 ∷ 32 ∷ 48 ∷ 32 ∷ 48 ∷ 32 ∷ 48 ∷ 32 ∷ 48 ∷ 32 ∷ 48 ∷ 32 ∷ 48 ∷ 10 ∷ [])
unfolding computes
prints = (refl, refl, refl, refl)

pub too_long_lem :
    -- too long circuit.dat
    (printed (replicate 65537 0) (replicate 65537 0) [] [] ≡ 116 ∷ 111 ∷ 111 ∷ 32 ∷ 108 ∷ 111 ∷ 110 ∷ 103 ∷ 32 ∷ 99 ∷ 105 ∷ 114 ∷ 99 ∷ 117 ∷ 105 ∷ 116 ∷ 46 ∷ 100 ∷ 97 ∷ 116 ∷ 10 ∷ [])
    -- too long test.dat
    × (printed [] (replicate 65537 0) (replicate 65537 0) [] ≡ 116 ∷ 111 ∷ 111 ∷ 32 ∷ 108 ∷ 111 ∷ 110 ∷ 103 ∷ 32 ∷ 116 ∷ 101 ∷ 115 ∷ 116 ∷ 46 ∷ 100 ∷ 97 ∷ 116 ∷ 10 ∷ [])
    -- 65,536 bytes are not too long: refused 1 0
    × (printed [] [] (replicate 65536 0) [] ≡ 114 ∷ 101 ∷ 102 ∷ 117 ∷ 115 ∷ 101 ∷ 100 ∷ 32 ∷ 49 ∷ 32 ∷ 48 ∷ 10 ∷ [])
unfolding computes
too_long_lem = (refl, refl, refl)
