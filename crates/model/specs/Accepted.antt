-- What acceptance gives: of each input, of the inputs that Simulate, Grade and Choose share, and of a whole call; derived once in
-- proofs/Accepted. That a row has no value but 0, 1 and X is no consequence of it, and is derived of runs in proofs/ThreeValued.
use Rattle.std.specs.Prelude.{◌≡◌, ℕ, suc, ◌*◌, ◌/◌, ◌≤◌, ◌<◌, true, List, get_or, length}
use Rattle.model.specs.Inputs.{N, kind, pin_count, pin_line, is_flip_flop, is_gate, I, F, O, L, Fault, fault_count, fault_at, plan_count}
use Rattle.model.specs.Refusals.{work_bytes}
use Rattle.model.specs.Values.{X}

-- of a circuit that rows 1 to 6 pass
pub record ValidCircuit (c : List ℕ) : Type 0 where
  pub size : 12 * N c ≤ length c
  pub lines : N c ≤ 4096
  pub kinds : (n : ℕ) → n < N c → kind c n ≤ 9
  pub pinned : (n : ℕ) → n < N c → is_gate c n ≡ true → 0 < pin_count c n
  pub single : (n : ℕ) → n < N c → kind c n ≤ 3 → pin_count c n ≤ 1
  pub double : (n : ℕ) → n < N c → 4 ≤ kind c n → 2 ≤ pin_count c n
  pub few : (n : ℕ) → n < N c → pin_count c n ≤ 4
  pub lower : (n i : ℕ) → n < N c → is_gate c n ≡ true → i < pin_count c n → pin_line c n (suc i) < n
  pub fed : (n : ℕ) → n < N c → is_flip_flop c n ≡ true → pin_line c n 1 < N c
  pub some_input : 0 < I c
  pub inputs : I c ≤ 256
  pub flip_flops : F c ≤ 256
  pub outputs : O c ≤ 256

-- of a test that rows 7 and 8 pass
pub record ValidTest (c t : List ℕ) : Type 0 where
  pub whole : length t ≡ L c t * I c
  pub bytes : (b : ℕ) → b < length t → get_or t b 0 ≤ 1
  pub some : 0 < L c t
  pub most : L c t ≤ 1024

-- of a fault that row 10 passes
pub record ValidFault (c : List ℕ) (f : Fault) : Type 0 where
  pub line : f.line < N c
  pub pin : f.pin ≤ pin_count c f.line
  pub value : f.value ≤ 1

-- of inputs that rows 1 to 10 pass
pub record ValidInputs (c t : List ℕ) (least most : ℕ) (fs : List ℕ) : Type 0 where
  pub circuit : ValidCircuit c
  pub test : ValidTest c t
  pub whole : length fs ≡ 4 * fault_count fs
  pub enough : least ≤ fault_count fs
  pub few : fault_count fs ≤ most
  pub fault : (j : ℕ) → j < fault_count fs → ValidFault c (fault_at fs j)

-- of a job that Simulate accepts
pub record SimulateReady (c t fs : List ℕ) (work result : ℕ) : Type 0 where
  pub inputs : ValidInputs c t 0 1 fs
  pub work_room : work_bytes c t ≤ work
  pub result_room : L c t * O c ≤ result

-- of a job that Grade accepts
pub record GradeReady (c t fs p : List ℕ) (k work result : ℕ) : Type 0 where
  pub inputs : ValidInputs c t 0 32768 fs
  pub plan : length p ≡ 4 * plan_count p
  pub pairs : plan_count p ≤ 4096
  pub limit : k ≤ 12
  pub work_room : work_bytes c t ≤ work
  pub result_room : 16 * fault_count fs ≤ result

-- of a job that Choose accepts
pub record ChooseReady (c t fs : List ℕ) (k work result : ℕ) : Type 0 where
  pub inputs : ValidInputs c t 1 1 fs
  pub limit : k ≤ 12
  pub work_room : work_bytes c t ≤ work
  pub result_room : 4 * k ≤ result

-- of verdicts that Group accepts
pub record GroupReady (vs : List ℕ) (result : ℕ) : Type 0 where
  pub whole : length vs ≡ 16 * (length vs / 16)
  pub most : length vs ≤ 524288
  pub result_room : 2 * (length vs / 16) ≤ result

-- of a job that Generate accepts
pub record GenerateReady (c : List ℕ) (seed units result : ℕ) : Type 0 where
  pub circuit : ValidCircuit c
  pub seeded : 0 < seed
  pub some : 0 < units
  pub most : units ≤ 1024
  pub result_room : units * I c ≤ result

-- every value of a row is 0, 1 or X
pub record ThreeValued (vs : List ℕ) : Type 0 where
  pub at : (m : ℕ) → get_or vs m X ≤ 2
