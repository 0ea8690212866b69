-- Small jobs on which misreadings of document 01 give another result, computed. The expected results are those of an independent grader,
-- written from document 01 in another language; above each job stand misreadings that it tells apart.
use mathlib.Core.Path.{◌≡◌, refl}
use Prim.Native.Nat.{ℕ}
use mathlib.Core.List.{List, [], ◌∷◌}
use Rattle.model.specs.Inputs.{Fault}
use Rattle.model.specs.Grade.{eight_fields, grade}
use Rattle.model.specs.Choose.{chosen, plan_bytes}
use Rattle.model.specs.Specimens.{circuit_of, stuck_at}
use Rattle.model.proofs.Computed.{computes}

-- what Grade gives for one fault
abbrev fields_of : List (ℕ × ℕ × List ℕ) → List ℕ → Fault → List (ℕ × ℕ) → ℕ → List ℕ
fields_of circuit test fault plan k = eight_fields (grade (circuit_of circuit) test fault (plan_bytes plan) k)

-- the pairs that Choose gives
abbrev pairs_of : List (ℕ × ℕ × List ℕ) → List ℕ → Fault → ℕ → List (ℕ × ℕ)
pairs_of circuit test fault k = chosen (circuit_of circuit) test fault k

pub graded :
    -- AND at 1 (NAND at 0) implies nothing; XNOR implies nothing; XOR implies the value itself, not the parity with the rest; XOR implies
    -- nothing; extras are those unknown in the state list; stage 3 from the highest flip-flop; stage 3 from the last unit; stage 4: an
    -- opposite old value is kept, no verdict; stage 4: verdict 2 names the flip-flop of the bit written; stage 4: verdict 2 names the
    -- pair that wrote first; stage 4: an opposite old value is overwritten, no verdict; stage 4 writes only (i, other value); verdict 2
    -- names the line of the flip-flop's pin
    (fields_of ((0, 0, []) ∷ (1, 0, 1 ∷ []) ∷ (1, 0, 5 ∷ []) ∷ (1, 0, 7 ∷ []) ∷ (8, 0, 1 ∷ 2 ∷ []) ∷ (4, 0, 2 ∷ 4 ∷ [])
    ∷ (9, 0, 1 ∷ 3 ∷ []) ∷ (4, 0, 3 ∷ 6 ∷ []) ∷ (6, 1, 0 ∷ 5 ∷ []) ∷ (6, 1, 0 ∷ 7 ∷ []) ∷ [])
    (1 ∷ 1 ∷ 1 ∷ 0 ∷ []) (stuck_at 0 0 0) ((0, 0) ∷ (0, 1) ∷ []) 3 ≡ 2 ∷ 0 ∷ 1 ∷ 3 ∷ 0 ∷ 0 ∷ 0 ∷ 0 ∷ [])
    -- bit behind a stuck flip-flop line cannot clash; bit behind a stuck flip-flop line is the stuck value in the plain states; bit
    -- behind a stuck flip-flop line never taken in stage 5; bit behind a stuck flip-flop line not in extras; only starting states with
    -- the stuck value behind a stuck flip-flop line; sequences get only the pair's own bit; F < k asked instead of F <= k; highest start
    × (fields_of ((0, 0, []) ∷ (1, 0, 5 ∷ []) ∷ (1, 1, 4 ∷ []) ∷ (1, 0, 3 ∷ []) ∷ (4, 0, 1 ∷ 3 ∷ []) ∷ (4, 0, 0 ∷ 2 ∷ []) ∷ [])
    (0 ∷ 1 ∷ 1 ∷ []) (stuck_at 1 0 1) ((1, 1) ∷ (2, 0) ∷ []) 3 ≡ 6 ∷ 2 ∷ 0 ∷ 0 ∷ 1 ∷ 2 ∷ 1 ∷ 0 ∷ [])
    -- NAND implies as AND; a later clash wins over an earlier differ; clash checked before differ;
    -- k limits the pairs looked at; k limits the units of taken pairs; k limit ignored; stage 5 stops at the first pair passed over
    × (fields_of ((1, 0, 1 ∷ []) ∷ (7, 1, 0 ∷ 0 ∷ []) ∷ (5, 0, 0 ∷ 1 ∷ 1 ∷ []) ∷ (0, 0, []) ∷ (5, 1, 3 ∷ 1 ∷ []) ∷ (0, 0, [])
    ∷ (1, 0, 2 ∷ []) ∷ (1, 0, 4 ∷ []) ∷ (7, 0, 3 ∷ 4 ∷ []) ∷ [])
    (1 ∷ 0 ∷ 0 ∷ 1 ∷ 0 ∷ 0 ∷ []) (stuck_at 4 1 1) ((0, 1) ∷ (1, 2) ∷ (1, 2) ∷ (0, 0) ∷ (0, 2) ∷ []) 2 ≡ 3 ∷ 2 ∷ 0 ∷ 0 ∷ 4 ∷ 0 ∷ 0 ∷ 0 ∷ [])
    -- the same job's second fault
    × (fields_of ((1, 0, 1 ∷ []) ∷ (7, 1, 0 ∷ 0 ∷ []) ∷ (5, 0, 0 ∷ 1 ∷ 1 ∷ []) ∷ (0, 0, []) ∷ (5, 1, 3 ∷ 1 ∷ []) ∷ (0, 0, [])
    ∷ (1, 0, 2 ∷ []) ∷ (1, 0, 4 ∷ []) ∷ (7, 0, 3 ∷ 4 ∷ []) ∷ [])
    (1 ∷ 0 ∷ 0 ∷ 1 ∷ 0 ∷ 0 ∷ []) (stuck_at 1 1 0) ((0, 1) ∷ (1, 2) ∷ (1, 2) ∷ (0, 0) ∷ (0, 2) ∷ []) 2 ≡ 5 ∷ 0 ∷ 0 ∷ 0 ∷ 0 ∷ 0 ∷ 0 ∷ 0 ∷ [])
    -- stage 5 overlap: earlier pair's extra for 0 only; plan taken from its end; plan sorted first; only starting state 0 tried; bit i of
    -- the start number is flip-flop F-1-i
    × (fields_of ((0, 0, []) ∷ (1, 0, 5 ∷ []) ∷ (1, 0, 4 ∷ []) ∷ (7, 1, 2 ∷ 0 ∷ []) ∷ (7, 0, 1 ∷ 3 ∷ []) ∷ (9, 0, 3 ∷ 3 ∷ []) ∷ [])
    (0 ∷ 1 ∷ []) (stuck_at 0 0 0) ((1, 1) ∷ (1, 0) ∷ []) 4 ≡ 6 ∷ 1 ∷ 0 ∷ 0 ∷ 1 ∷ 0 ∷ 1 ∷ 2 ∷ [])
    -- stage 5 overlap: only the pair's own bit; stage 5 overlap: only the pair's extra for 1; stage 5 overlap with the state list ignored
    × (fields_of ((0, 0, []) ∷ (1, 0, 3 ∷ []) ∷ (1, 0, 1 ∷ []) ∷ (6, 0, 2 ∷ 1 ∷ []) ∷ (5, 1, 0 ∷ 1 ∷ []) ∷ [])
    (0 ∷ 0 ∷ []) (stuck_at 0 0 1) ((1, 0) ∷ []) 4 ≡ 6 ∷ 0 ∷ 0 ∷ 0 ∷ 0 ∷ 0 ∷ 1 ∷ 0 ∷ [])
    -- down pass implies through a stuck line's gate; m < k asked instead of F <= k; up pass evaluates a stuck line's gate
    × (fields_of ((0, 0, []) ∷ (1, 1, 8 ∷ []) ∷ (1, 1, 8 ∷ []) ∷ (1, 0, 7 ∷ []) ∷ (1, 1, 6 ∷ []) ∷ (9, 1, 1 ∷ 2 ∷ [])
    ∷ (7, 0, 5 ∷ 3 ∷ 0 ∷ []) ∷ (6, 0, 3 ∷ 0 ∷ []) ∷ (8, 1, 0 ∷ 1 ∷ 4 ∷ 4 ∷ []) ∷ [])
    (0 ∷ 1 ∷ 0 ∷ 1 ∷ []) (stuck_at 7 0 0) [] 3 ≡ 7 ∷ 0 ∷ 0 ∷ 0 ∷ 0 ∷ 0 ∷ 1 ∷ 0 ∷ [])
    -- the same job's second fault
    × (fields_of ((0, 0, []) ∷ (1, 1, 8 ∷ []) ∷ (1, 1, 8 ∷ []) ∷ (1, 0, 7 ∷ []) ∷ (1, 1, 6 ∷ []) ∷ (9, 1, 1 ∷ 2 ∷ [])
    ∷ (7, 0, 5 ∷ 3 ∷ 0 ∷ []) ∷ (6, 0, 3 ∷ 0 ∷ []) ∷ (8, 1, 0 ∷ 1 ∷ 4 ∷ 4 ∷ []) ∷ [])
    (0 ∷ 1 ∷ 0 ∷ 1 ∷ []) (stuck_at 0 0 1) [] 3 ≡ 5 ∷ 0 ∷ 0 ∷ 0 ∷ 0 ∷ 0 ∷ 0 ∷ 0 ∷ [])
    -- stage 1 names the highest line of the unit; a stuck output line shows its free value as output
    × (fields_of ((0, 1, []) ∷ (6, 1, 0 ∷ 0 ∷ []) ∷ [])
    (1 ∷ []) (stuck_at 0 0 0) [] 3 ≡ 1 ∷ 0 ∷ 0 ∷ 0 ∷ 0 ∷ 0 ∷ 0 ∷ 0 ∷ [])
    -- AND at 0: one X pin becomes 0 although another pin is 0; run compared with the fault-free run of the same start
    × (fields_of ((0, 0, []) ∷ (1, 1, 2 ∷ []) ∷ (6, 0, 1 ∷ 0 ∷ []) ∷ (4, 1, 0 ∷ 1 ∷ []) ∷ [])
    (1 ∷ 0 ∷ []) (stuck_at 0 0 0) [] 1 ≡ 6 ∷ 0 ∷ 0 ∷ 0 ∷ 0 ∷ 0 ∷ 1 ∷ 1 ∷ [])
    -- stage 4 and later: marks and extras from values simulated from the state list; stage 5: extras from values simulated from the state
    -- list
    × (fields_of ((0, 0, []) ∷ (1, 0, 1 ∷ []) ∷ (1, 0, 3 ∷ []) ∷ (5, 1, 2 ∷ 0 ∷ []) ∷ [])
    (0 ∷ 1 ∷ 1 ∷ []) (stuck_at 3 2 1) ((2, 0) ∷ []) 3 ≡ 6 ∷ 1 ∷ 0 ∷ 0 ∷ 0 ∷ 0 ∷ 2 ∷ 0 ∷ [])
    -- conflicts never mark; conflicts of the up pass ignored
    × (fields_of ((0, 0, []) ∷ (1, 0, 4 ∷ []) ∷ (9, 0, 0 ∷ 1 ∷ []) ∷ (4, 0, 1 ∷ 2 ∷ []) ∷ (6, 1, 0 ∷ 3 ∷ []) ∷ [])
    (1 ∷ 1 ∷ []) (stuck_at 0 0 0) [] 3 ≡ 2 ∷ 0 ∷ 1 ∷ 1 ∷ 0 ∷ 0 ∷ 0 ∷ 0 ∷ [])
    -- down: a stuck pin is left out of the count; a stuck pin also sticks other pins of that gate naming the same line
    × (fields_of ((0, 0, []) ∷ (1, 0, 4 ∷ []) ∷ (1, 0, 3 ∷ []) ∷ (8, 0, 1 ∷ 1 ∷ []) ∷ (4, 0, 2 ∷ 0 ∷ []) ∷ (4, 1, 3 ∷ 4 ∷ []) ∷ [])
    (0 ∷ 1 ∷ []) (stuck_at 3 2 1) [] 2 ≡ 6 ∷ 0 ∷ 0 ∷ 0 ∷ 0 ∷ 0 ∷ 1 ∷ 1 ∷ [])
    -- both passes made twice; stage 4 skips pairs whose bit an earlier write gave
    × (fields_of ((0, 0, []) ∷ (1, 0, 8 ∷ []) ∷ (1, 0, 7 ∷ []) ∷ (3, 0, 2 ∷ []) ∷ (3, 0, 1 ∷ []) ∷ (8, 0, 1 ∷ 2 ∷ []) ∷ (3, 0, 1 ∷ [])
    ∷ (4, 0, 5 ∷ 6 ∷ []) ∷ (4, 0, 5 ∷ 4 ∷ []) ∷ (6, 1, 0 ∷ 3 ∷ []) ∷ (6, 1, 0 ∷ 8 ∷ []) ∷ [])
    (1 ∷ 1 ∷ []) (stuck_at 0 0 0) ((1, 1) ∷ []) 3 ≡ 2 ∷ 0 ∷ 1 ∷ 2 ∷ 0 ∷ 0 ∷ 0 ∷ 0 ∷ [])
    -- XNOR implies as XOR; stage 4's writes made in stage 3's loop
    × (fields_of ((0, 0, []) ∷ (1, 0, 1 ∷ []) ∷ (1, 0, 6 ∷ []) ∷ (1, 0, 8 ∷ []) ∷ (1, 0, 4 ∷ []) ∷ (8, 0, 1 ∷ 2 ∷ [])
    ∷ (4, 0, 2 ∷ 5 ∷ []) ∷ (9, 0, 1 ∷ 3 ∷ []) ∷ (4, 0, 3 ∷ 7 ∷ []) ∷ (6, 1, 0 ∷ 6 ∷ []) ∷ (6, 1, 0 ∷ 8 ∷ []) ∷ (3, 0, 4 ∷ [])
    ∷ (6, 1, 0 ∷ 4 ∷ []) ∷ (6, 1, 0 ∷ 11 ∷ []) ∷ [])
    (1 ∷ 1 ∷ []) (stuck_at 0 0 0) [] 3 ≡ 2 ∷ 0 ∷ 1 ∷ 4 ∷ 0 ∷ 0 ∷ 0 ∷ 0 ∷ [])
    -- stage 1: lowest line over all units, then lowest unit
    × (fields_of ((0, 0, []) ∷ (1, 1, 2 ∷ []) ∷ (7, 1, 0 ∷ 0 ∷ []) ∷ [])
    (1 ∷ 1 ∷ []) (stuck_at 0 0 0) [] 2 ≡ 1 ∷ 0 ∷ 0 ∷ 2 ∷ 0 ∷ 0 ∷ 0 ∷ 0 ∷ [])
    -- NAND implies nothing
    × (fields_of ((0, 0, []) ∷ (1, 1, 2 ∷ []) ∷ (5, 0, 0 ∷ 1 ∷ []) ∷ [])
    (0 ∷ 0 ∷ 0 ∷ []) (stuck_at 0 0 1) [] 3 ≡ 3 ∷ 0 ∷ 0 ∷ 0 ∷ 1 ∷ 0 ∷ 0 ∷ 0 ∷ [])
    -- verdict 3 only if all differ
    × (fields_of ((0, 0, []) ∷ (1, 1, 2 ∷ []) ∷ (7, 0, 0 ∷ 1 ∷ []) ∷ [])
    (1 ∷ 1 ∷ 0 ∷ []) (stuck_at 2 1 0) ((0, 0) ∷ (1, 0) ∷ []) 2 ≡ 3 ∷ 2 ∷ 0 ∷ 0 ∷ 2 ∷ 2 ∷ 0 ∷ 0 ∷ [])
    -- XOR is 1 for exactly one 1 instead of parity
    × (fields_of ((0, 0, []) ∷ (0, 0, []) ∷ (9, 0, 0 ∷ 1 ∷ 1 ∷ []) ∷ (5, 1, 2 ∷ 1 ∷ []) ∷ [])
    (0 ∷ 1 ∷ []) (stuck_at 2 1 1) [] 3 ≡ 1 ∷ 0 ∷ 0 ∷ 3 ∷ 0 ∷ 0 ∷ 0 ∷ 0 ∷ [])
    -- BUFFER implies nothing
    × (fields_of ((0, 0, []) ∷ (1, 0, 2 ∷ []) ∷ (2, 0, 1 ∷ []) ∷ (6, 1, 1 ∷ 0 ∷ []) ∷ [])
    (1 ∷ 1 ∷ []) (stuck_at 0 0 0) ((1, 0) ∷ []) 2 ≡ 6 ∷ 0 ∷ 0 ∷ 0 ∷ 0 ∷ 0 ∷ 1 ∷ 1 ∷ [])
    -- stage 5 asks nothing of Nout
    × (fields_of ((0, 0, []) ∷ (1, 0, 1 ∷ []) ∷ (1, 0, 3 ∷ []) ∷ (6, 1, 2 ∷ 1 ∷ 0 ∷ []) ∷ [])
    (1 ∷ 0 ∷ 1 ∷ 1 ∷ []) (stuck_at 2 0 0) ((3, 0) ∷ []) 3 ≡ 6 ∷ 0 ∷ 0 ∷ 0 ∷ 0 ∷ 0 ∷ 1 ∷ 1 ∷ [])
    -- a stuck flip-flop pin fixes the starting state bit in the run
    × (fields_of ((0, 0, []) ∷ (1, 0, 0 ∷ []) ∷ (1, 0, 1 ∷ []) ∷ (5, 0, 1 ∷ 2 ∷ []) ∷ (9, 1, 0 ∷ 3 ∷ []) ∷ [])
    (0 ∷ 1 ∷ []) (stuck_at 1 1 1) [] 4 ≡ 6 ∷ 0 ∷ 0 ∷ 0 ∷ 0 ∷ 0 ∷ 1 ∷ 0 ∷ [])
    -- bit behind a stuck flip-flop line not tried in stages 3 and 4
    × (fields_of ((0, 0, []) ∷ (1, 0, 4 ∷ []) ∷ (1, 0, 3 ∷ []) ∷ (6, 1, 0 ∷ 1 ∷ 2 ∷ []) ∷ (5, 0, 1 ∷ 1 ∷ []) ∷ [])
    (1 ∷ 0 ∷ 0 ∷ []) (stuck_at 2 0 0) [] 1 ≡ 3 ∷ 0 ∷ 0 ∷ 0 ∷ 1 ∷ 0 ∷ 0 ∷ 0 ∷ [])
    -- the same line on another pin of the gate is not given/compared either
    × (fields_of ((0, 0, []) ∷ (1, 1, 5 ∷ []) ∷ (1, 0, 2 ∷ []) ∷ (6, 0, 0 ∷ 1 ∷ []) ∷ (8, 0, 3 ∷ 3 ∷ []) ∷ (4, 0, 4 ∷ 2 ∷ []) ∷ [])
    (1 ∷ 0 ∷ 0 ∷ []) (stuck_at 4 1 0) ((2, 0) ∷ []) 3 ≡ 6 ∷ 0 ∷ 0 ∷ 0 ∷ 0 ∷ 0 ∷ 1 ∷ 0 ∷ [])
    -- stage 3 by flip-flop, then time
    × (fields_of ((0, 0, []) ∷ (0, 0, []) ∷ (1, 0, 2 ∷ []) ∷ (1, 0, 3 ∷ []) ∷ (3, 0, 2 ∷ []) ∷ (3, 0, 3 ∷ []) ∷ (6, 1, 0 ∷ 2 ∷ [])
    ∷ (6, 1, 0 ∷ 1 ∷ 4 ∷ []) ∷ (6, 1, 0 ∷ 3 ∷ []) ∷ (6, 1, 0 ∷ 5 ∷ []) ∷ [])
    (1 ∷ 1 ∷ 1 ∷ 0 ∷ 1 ∷ 0 ∷ []) (stuck_at 0 0 0) [] 3 ≡ 2 ∷ 0 ∷ 1 ∷ 3 ∷ 0 ∷ 0 ∷ 0 ∷ 0 ∷ [])
unfolding computes
graded = (refl, refl, refl, refl, refl, refl, refl, refl, refl, refl, refl, refl, refl, refl, refl, refl, refl, refl, refl, refl, refl, refl, refl, refl, refl)

pub pairs-chosen :
    -- Choose: smaller size left out; Choose never writes u = 0; Choose writes one pair; Choose: pairs written only bar themselves;
    -- Choose: Nsv reversed; Choose: smaller size reversed; Choose: i reversed; Choose: sum of the sizes instead of smaller, larger;
    -- Choose: smaller size after larger size; Choose: pairs written do not count as taken; AND at 0: every X pin becomes 0; NOR implies
    -- as OR; NOR implies nothing; OR/NOR imply as AND/NAND; OR at 0 (NOR at 1) implies nothing; OR at 1: every X pin becomes 1; OR at 1:
    -- one X pin becomes 1 although another pin is 1; extra(u, i, a) is (i, a) for all u; extras include bits known in the plain state; a
    -- stuck flip-flop pin fixes the plain state bit at unit 0; a stuck flip-flop pin has no effect; implication on the values of unit u;
    -- stage 5 overlap with earlier taken pairs ignored (the same pair still not twice); stage 5 overlap with earlier taken pairs ignored,
    -- even with the same pair
    (pairs_of ((0, 0, []) ∷ (1, 0, 2 ∷ []) ∷ (1, 0, 6 ∷ []) ∷ (1, 0, 5 ∷ []) ∷ (1, 0, 7 ∷ []) ∷ (7, 0, 3 ∷ 2 ∷ []) ∷ (4, 1, 4 ∷ 5 ∷ [])
    ∷ (7, 0, 0 ∷ 2 ∷ []) ∷ [])
    (1 ∷ 1 ∷ []) (stuck_at 4 1 1) 2 ≡ (1, 2) ∷ (0, 0) ∷ [])
    -- Choose: Nout left out; Choose ranks by Nout(u-1); Choose writes at most one pair a unit; Choose
    -- admits only Nout(u) > 0; Choose: Nout reversed; Choose: Nout after Nsv; stage 5 does not ask that the pair's bit is X in the state
    -- list (the extras are still asked); stage 5 asks Nout(u) > 0; stage 5 takes a pair whose bit is specified in the state list; a stuck
    -- pin shows its value to every reader of that line
    × (pairs_of ((1, 0, 1 ∷ []) ∷ (0, 0, []) ∷ (6, 1, 1 ∷ 0 ∷ []) ∷ (1, 0, 3 ∷ []) ∷ [])
    (1 ∷ 1 ∷ []) (stuck_at 2 1 0) 6 ≡ (0, 0) ∷ (0, 1) ∷ (1, 1) ∷ [])
    -- Choose: larger size left out; Choose: larger size reversed; Choose: larger size after u; OR implies nothing; "exactly one pin is X"
    -- counts distinct lines; stage 5 overlap: earlier pair's own bit only; stage 5 overlap: earlier pair's extra for 1 only; the up pass
    -- before the down pass
    × (pairs_of ((0, 0, []) ∷ (1, 0, 5 ∷ []) ∷ (1, 0, 4 ∷ []) ∷ (7, 1, 2 ∷ 0 ∷ []) ∷ (6, 0, 1 ∷ 3 ∷ []) ∷ (9, 0, 3 ∷ 3 ∷ []) ∷ [])
    (0 ∷ 1 ∷ []) (stuck_at 0 0 0) 4 ≡ (1, 1) ∷ (0, 0) ∷ (0, 1) ∷ [])
    -- Choose: Nsv left out; Choose: Nsv after smaller size; OR at 1 (NOR at 0) implies nothing; the line behind a stuck pin is given the
    -- implied value
    × (pairs_of ((0, 0, []) ∷ (1, 1, 4 ∷ []) ∷ (1, 0, 3 ∷ []) ∷ (5, 0, 0 ∷ 1 ∷ []) ∷ (7, 0, 1 ∷ 3 ∷ []) ∷ [])
    (1 ∷ 0 ∷ 0 ∷ []) (stuck_at 4 2 0) 2 ≡ (2, 0) ∷ (1, 0) ∷ [])
    -- Choose before stage 4's writes; stage 3 asks Nout(u) > 0; a gate with a stuck pin is not evaluated
    × (pairs_of ((0, 0, []) ∷ (1, 0, 1 ∷ []) ∷ (4, 1, 1 ∷ 0 ∷ []) ∷ [])
    (0 ∷ 1 ∷ []) (stuck_at 2 2 1) 4 ≡ (0, 0) ∷ [])
    -- Choose: u left out; Choose: u reversed; Choose: u after i
    × (pairs_of ((0, 0, []) ∷ (1, 0, 2 ∷ []) ∷ (1, 1, 3 ∷ []) ∷ (4, 0, 0 ∷ 1 ∷ []) ∷ [])
    (0 ∷ 0 ∷ []) (stuck_at 3 1 1) 3 ≡ (0, 0) ∷ (0, 1) ∷ (1, 0) ∷ [])
    -- stage 5 overlap: only the pair's extra for 0; XOR of a line with itself is 0 where the line is X
    × (pairs_of ((0, 0, []) ∷ (1, 0, 6 ∷ []) ∷ (1, 0, 6 ∷ []) ∷ (1, 0, 5 ∷ []) ∷ (7, 1, 3 ∷ 0 ∷ []) ∷ (7, 0, 2 ∷ 4 ∷ [])
    ∷ (9, 0, 4 ∷ 4 ∷ []) ∷ [])
    (0 ∷ 1 ∷ []) (stuck_at 0 0 0) 4 ≡ (1, 0) ∷ (0, 0) ∷ (0, 1) ∷ (0, 2) ∷ [])
    -- Choose writes pairs for verdict 1
    × (pairs_of ((0, 1, []) ∷ (1, 0, 2 ∷ []) ∷ (4, 1, 0 ∷ 1 ∷ []) ∷ [])
    (0 ∷ []) (stuck_at 0 0 1) 4 ≡ [])
    -- Choose writes pairs for verdict 5
    × (pairs_of ((0, 0, []) ∷ (1, 1, 2 ∷ []) ∷ (4, 0, 0 ∷ 1 ∷ []) ∷ [])
    (0 ∷ []) (stuck_at 2 1 1) 3 ≡ [])
    -- Choose writes pairs for verdict 2
    × (pairs_of ((0, 0, []) ∷ (1, 1, 2 ∷ []) ∷ (7, 1, 1 ∷ 0 ∷ []) ∷ [])
    (1 ∷ 1 ∷ 1 ∷ []) (stuck_at 2 2 0) 3 ≡ [])
    -- bit behind a stuck flip-flop line not counted in Nsv
    × (pairs_of ((0, 0, []) ∷ (1, 0, 0 ∷ []) ∷ (1, 0, 3 ∷ []) ∷ (5, 1, 2 ∷ 1 ∷ []) ∷ [])
    (0 ∷ 0 ∷ []) (stuck_at 1 0 1) 3 ≡ (1, 1) ∷ (0, 0) ∷ (0, 1) ∷ [])
    -- Choose: Nsv of the state list
    × (pairs_of ((0, 0, []) ∷ (1, 1, 2 ∷ []) ∷ (1, 0, 4 ∷ []) ∷ (4, 0, 0 ∷ 1 ∷ []) ∷ (7, 1, 3 ∷ 0 ∷ []) ∷ [])
    (1 ∷ 0 ∷ 0 ∷ []) (stuck_at 4 2 0) 3 ≡ (0, 0) ∷ (0, 1) ∷ (2, 0) ∷ [])
unfolding computes
pairs-chosen = (refl, refl, refl, refl, refl, refl, refl, refl, refl, refl, refl, refl)
