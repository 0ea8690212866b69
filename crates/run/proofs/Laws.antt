-- What one turn of each loop adds.
use mathlib.Core.Path.{◌≡◌, refl, sym, ap, ◌∙◌}
use Prim.Native.Nat.{ℕ, zero, suc, ◌+◌, ◌-◌, ◌*◌, ◌<◌, ◌≤◌}
use mathlib.Core.Bool.{Bool, true, false, ◌&&◌, ◌||◌, and_comm, or-false, or_assoc, true≢false}
use mathlib.Core.List.{List, [], ◌∷◌, ◌++◌}
use lib.Bits.{bit_and, bit_or}
use lib.ListN.{get_or, length, take, drop, length-drop, length-map, get_or-replicate, length-replicate, get_or-map}
use lib.Seq.{get_or-take, take-length, take-suc, length-take-le}
use native.Mathlib.Numerals.{add-one}
use native.Mathlib.Omega.{arith}
use native.Mathlib.Nat.{mul-le-mul}
use Rattle.lists.specs.Scan.{any_below, gather}
use Rattle.lists.proofs.Scan.{All, all-at, select-all, length-select, length-gather, gather-turn, get_or_any, any_below-more, count_below-bound}
use Rattle.lists.specs.Field.{row_of}
use Rattle.lists.proofs.Field.{row_fits, part-taken}
use Rattle.lists.proofs.Tests.{and_left, by-test, by-eq}
use Rattle.model.specs.Inputs.{N, I, F, O, L, is_input, is_output, flip_flops, output_lines, inputs_at, Fault}
use Rattle.model.specs.Accepted.{ValidCircuit, ValidTest, ThreeValued}
use Rattle.model.specs.Values.{X, opposes, some_oppose}
use Rattle.model.specs.Simulation.{shown, power_up, line_values, outputs, next_state, state_at, values_at, outputs_at}
use Rattle.model.proofs.Runs.{length-next_state}
use Rattle.model.proofs.ThreeValued.{inputs-three, line_values-three, state_at-three}
use Rattle.lanes.specs.declared.Lanes.{Lanes}
use Rattle.lanes.specs.Lane.{bit, Holds, At, all_x, lanes_at, stored, Room, Lane}
use Rattle.lanes.proofs.Bits.{bit-and, bit-or, bit-none}
use Rattle.lanes.proofs.Laws.{lane-read, lane-add, lane-none, shows-x, holds_as, stored_same, stored_other}
use Rattle.circuit.specs.Table.{Listed, PinTable, Tables}
use Rattle.job.specs.Job.{JobOf}
use Rattle.job.specs.declared.Job.{Job}
use Rattle.unit.specs.Unit.{Stuck, MaskRoom}
use Rattle.run.specs.Run.{Runnable}

-- record u of a test
pub part-inputs : (c t : List ℕ) (i u : ℕ) → i ≡ I c → take (i * u + i - i * u) (drop (i * u) t) ≡ inputs_at c t u
unfolding inputs_at
part-inputs c t i u e = let size : i * u + i - i * u ≡ i = omega arith in rw (size, e)

pub length-inputs : (c t : List ℕ) (i u : ℕ) → i ≡ I c → i * u + i ≤ length t → length (inputs_at c t u) ≡ I c
length-inputs c t i u e l = rw (← (part-inputs c t i u e)) (length-take-le (i * u + i - i * u) (drop (i * u) t) (rw length-drop (omega arith)) ∙ (let size : i * u + i - i * u ≡ I c = omega arith in size))

pub fed-inputs : (c t : List ℕ) (i u : ℕ) → i ≡ I c → i * u + i ≤ length t → inputs_at c t u ≡ take i (take (i * u + i - i * u) (drop (i * u) t))
unfolding inputs_at row_of
fed-inputs c t i u e l = rw (← e) (part-taken t i u u refl l)

test_fits : (c t : List ℕ) (j : Job) (u : ℕ) → JobOf c t j → ValidTest c t → u < j.units → j.inputs * u + j.inputs ≤ length t
test_fits c t j u o v h = rw (v.whole, ← o.units, ← o.inputs) (row_fits j.inputs u j.units h)

-- a job that is accepted, with its tables, in arrays of the sizes that every call makes
pub runnable : {c t pins flops outs hits masks feed words state : List ℕ} {j : Job} → ValidCircuit c → ValidTest c t → JobOf c t j → Tables c pins flops outs
    → 4096 ≤ length hits → MaskRoom masks → Room 256 feed → Room 4096 words → Room 256 state → Runnable c t j pins flops outs hits masks feed words state
runnable circuit test of tables hits masks feed words state = record {
  circuit = circuit;
  test = test;
  sizes = of;
  tables = tables;
  hit_room = omega (arith, circuit.lines);
  mask_room = masks;
  feed_room = omega (arith, circuit.inputs);
  line_room = omega (arith, circuit.lines);
  state_room = omega (arith, circuit.flip_flops);
}

-- runnable still, once inputs, words and states have been written over
pub runnable-again : {c t pins flops outs hits masks feed words state : List ℕ} {j : Job} (feed' words' state' : List ℕ) → Runnable c t j pins flops outs hits masks feed words state
    → length feed' ≡ length feed → length words' ≡ length words → length state' ≡ length state → Runnable c t j pins flops outs hits masks feed' words' state'
runnable-again feed' words' state' run feeds lines states = record {
  circuit = run.circuit;
  test = run.test;
  sizes = run.sizes;
  tables = run.tables;
  hit_room = run.hit_room;
  mask_room = run.mask_room;
  feed_room = omega (arith, run.feed_room);
  line_room = omega (arith, run.line_room);
  state_room = omega (arith, run.state_room);
}

-- what the two steps of a unit ask for, once inputs, words and states have been written over by d, w and s words
module _ (c t : List ℕ) (j : Job) (pins flops outs hits masks feed₀ words₀ state₀ : List ℕ) (run : Runnable c t j pins flops outs hits masks feed₀ words₀ state₀)
    (d w s : ℕ) (ld : d ≡ length feed₀) (lw : w ≡ length words₀) (ls : s ≡ length state₀) where
  pub values-asked : (u : ℕ) → u < j.units → ValidCircuit c × PinTable c pins × (j.lines ≡ N c) × (j.inputs ≡ I c) × (j.inputs * u + j.inputs ≤ length t) × (j.lines ≤ length hits) × MaskRoom masks
      × (2 * j.inputs ≤ d) × (2 * j.lines ≤ w) × (2 * F c ≤ s)
  values-asked u h = (
    run.circuit,
    run.tables.pin_table,
    run.sizes.lines,
    run.sizes.inputs,
    test_fits c t j u run.sizes run.test h,
    omega (arith, run.sizes.lines, run.hit_room),
    run.mask_room,
    omega (arith, run.sizes.inputs, run.feed_room),
    omega (arith, run.sizes.lines, run.line_room),
    omega (arith, run.state_room),
  )

  pub next-asked : ValidCircuit c × Listed (flip_flops c) flops × (j.flops ≡ F c) × (N c ≤ length hits) × MaskRoom masks × (2 * N c ≤ w) × (2 * j.flops ≤ s)
  next-asked = (
    run.circuit,
    run.tables.flop_table,
    run.sizes.flops,
    run.hit_room,
    run.mask_room,
    omega (arith, run.line_room),
    omega (arith, run.sizes.flops, run.state_room),
  )

-- row u of a table of rows of one size, in an area of so many bytes
pub record RowRoom (size u room : ℕ) : Type 0 where
  pub fits : size * u + size ≤ room
  pub below : size * u ≤ 262144

pub row_room : (c t : List ℕ) (j : Job) (size columns u room : ℕ) → ValidTest c t → JobOf c t j → size ≡ columns → columns ≤ 256 → L c t * columns ≤ room → u < j.units → RowRoom size u room
row_room c t j size columns u room w o e few l h =
    let all : j.units * size ≤ room = rw (o.units, e) l in
    let early : u ≤ 1024 = omega (arith, h, o.units, w.most) in
    let small : size ≤ 256 = omega arith in
    record { fits = omega (arith, all, row_fits size u j.units h); below = omega (arith, mul-le-mul small early) }

-- ---- a row put into lanes
-- place m once place i was stored
stored_at : (lane : ℕ) (ws ws' : List ℕ) (i m v : ℕ) (x : Lanes) → ws' ≡ stored ws i x → Room (i + 1) ws → (m ≡ i → Holds lane x v) → ((m ≡ i → ⊥) → At lane ws m v) → At lane ws' m v
stored_at lane ws ws' i m v x e room same other = rw e (by-eq m i
    (λ here. rw here (holds_as lane _ _ v (stored_same ws i x room) (same here)))
    (λ away. holds_as lane _ _ v (stored_other ws i m x away) (other away)))

-- the first i places hold the row's values where the lane is wanted; else each place holds what it held
pub record Loaded (lane wanted : ℕ) (row : List ℕ) (i : ℕ) (before after : List ℕ) : Type 0 where
  pub taken : bit lane wanted ≡ true → (m : ℕ) → m < i → At lane after m (get_or row m 0)
  pub kept : bit lane wanted ≡ false → (m v : ℕ) → At lane before m v → At lane after m v

module _ (lane wanted : ℕ) (row before : List ℕ) where
  pub loaded-none : Loaded lane wanted row 0 before before
  loaded-none = record { taken = λ b m h. absurd (let z : ⊥ = omega arith in z); kept = λ b m v h. h }

  pub loaded-more : (ws ws' : List ℕ) (i : ℕ) (x y z : Lanes) → ws' ≡ stored ws i x → Room (i + 1) ws → y ≡ lanes_at ws i → Holds lane z (get_or row i 0)
      → ((t v : ℕ) → (bit t wanted ≡ false → Holds t y v) → (bit t wanted ≡ true → Holds t z v) → Holds t x v) → Loaded lane wanted row i before ws → Loaded lane wanted row (i + 1) before ws'
  loaded-more ws ws' i x y z e room at all merge h = record {
    taken = λ b m l.
        stored_at lane ws ws' i m _ x e room (λ here. rw here (merge lane _ (λ no. absurd (true≢false (sym b ∙ no))) (λ yes-wanted. all))) (λ away. h.taken b m (let low : m < i = omega arith in low));
    kept = λ b m v l.
        stored_at lane ws ws' i m v x e room (λ here. merge lane v (λ no. holds_as lane y _ v at (rw (← here) (h.kept b m v l))) (λ wants. absurd (true≢false (sym wants ∙ b)))) (λ away. h.kept b m v l);
  }

  pub loaded-all : (ws vs : List ℕ) (count : ℕ) → count ≤ length row → (bit lane wanted ≡ true → vs ≡ take count row) → (bit lane wanted ≡ false → Lane lane before vs) → Loaded lane wanted row count before ws → Lane lane ws vs
  unfolding Lane
  loaded-all ws vs count l is keeps h m k = by-test (bit lane wanted)
      (λ b.
      let same = is b in
      let low : m < count = omega (arith, ap length same, length-take-le count row l) in
      let value : get_or vs m X ≡ get_or row m 0 = ap (λ v. get_or v m X) same ∙ get_or-take count row m X low ∙ get_or_any row m X 0 (omega arith) in
      rw value (h.taken b m low))
      (λ b. h.kept b m _ (keeps b m k))

-- ---- the loop over the outputs
pub length-output_lines : (c : List ℕ) → length (output_lines c) ≡ O c
unfolding output_lines O
length-output_lines c = length-select (λ n. is_output c n) (N c)

-- the output at place o of the table
pub record OutputAt (c table : List ℕ) (o : ℕ) : Type 0 where
  pub place : o < length table
  pub line : get_or table o 0 ≡ get_or (output_lines c) o 0
  pub below : get_or table o 0 < N c

pub output-at : (c table : List ℕ) → Listed (output_lines c) table → (o : ℕ) → o < O c → OutputAt c table o
output-at c table l o h =
    let long : length (output_lines c) ≡ O c = length-output_lines c in
    let same : get_or table o 0 ≡ get_or (output_lines c) o 0 = l.same o (omega arith) in
    record { place = omega (arith, l.room); line = same; below = rw same (all-at (λ n. (n < N c) × (is_output c n ≡ true)) (output_lines c) o 0 lines (omega arith)).0 }
  where
    lines : All (λ n. (n < N c) × (is_output c n ≡ true)) (output_lines c)
    lines = unfold output_lines in select-all (λ n. is_output c n) (N c) (N c) (omega arith)

pub three-at : (vs : List ℕ) (m : ℕ) → ThreeValued vs → get_or vs m X < 3
three-at vs m h = omega (arith, h.at m)

module _ (c : List ℕ) (f : Fault) (vs : List ℕ) where
  pub length-outputs : length (outputs c f vs) ≡ O c
  unfolding outputs
  length-outputs = length-map (output_lines c) (λ n. shown f vs n) ∙ length-output_lines c

  -- what output o shows
  pub shown-at : (o : ℕ) → o < O c → get_or vs (get_or (output_lines c) o 0) X ≡ get_or (outputs c f vs) o X
  shown-at o h =
      let long : length (outputs c f vs) ≡ O c = length-outputs in
      sym (get_or_any (outputs c f vs) o X (shown f vs 0) (omega arith) ∙ mapped)
    where
      mapped : get_or (outputs c f vs) o (shown f vs 0) ≡ get_or vs (get_or (output_lines c) o 0) X
      mapped = unfold outputs shown in get_or-map (λ n. get_or vs n X) (output_lines c) o 0

  -- what was read for output o
  pub output-read : (lane : ℕ) (ws table : List ℕ) (o : ℕ) (r : Lanes) → OutputAt c table o → r ≡ lanes_at ws (get_or table o 0) → Lane lane ws vs → length vs ≡ N c → o < O c
      → Holds lane r (get_or (outputs c f vs) o X)
  output-read lane ws table o r at e l n h =
      rw (← (shown-at o h)) (lane-read lane ws vs r _ (get_or (output_lines c) o 0) e at.line l (omega (arith, at.below, at.line)))

  pub outputs-three : (o : ℕ) → ThreeValued vs → o < O c → get_or (outputs c f vs) o X < 3
  outputs-three o w h = rw (← (shown-at o h)) (three-at vs _ w)

-- ---- the lanes in which an output opposes
some_oppose-more : (row bs : List ℕ) (v : ℕ) → length bs < length row → some_oppose row (bs ++ (v ∷ [])) ≡ (some_oppose row bs || opposes (get_or row (length bs) 0) v)
unfolding some_oppose
some_oppose-more [] bs v h = absurd (let z : ⊥ = omega arith in z)
some_oppose-more (a ∷ row) [] v h = alone row
  where
    alone : (row : List ℕ) → (opposes a v || some_oppose row []) ≡ opposes a v
    alone [] = or-false (opposes a v)
    alone (b ∷ row) = or-false (opposes a v)
some_oppose-more (a ∷ row) (b ∷ bs) v h = rw (some_oppose-more row bs v (omega arith)) (sym (or_assoc (opposes a b) (some_oppose row bs) (opposes (get_or row (length bs) 0) v)))

module _ (lane : ℕ) (row bs : List ℕ) where
  pub opposing_none : bit lane 0 ≡ some_oppose row (take 0 bs)
  opposing_none = bit-none lane ∙ none row
    where
      none : (row : List ℕ) → false ≡ some_oppose row []
      none [] = unfold some_oppose in refl
      none (a ∷ row) = unfold some_oppose in refl

  pub opposing_more : (x y o v : ℕ) → o < length bs → o < length row → v ≡ get_or bs o X → bit lane x ≡ some_oppose row (take o bs) → bit lane y ≡ opposes (get_or row o 0) v
      → bit lane (bit_or x y) ≡ some_oppose row (take (o + 1) bs)
  opposing_more x y o v b r e h g =
      let long : length (take o bs) ≡ o = length-take-le o bs (omega arith) in
      let more : take (o + 1) bs ≡ take o bs ++ (v ∷ []) = rw (add-one o, e) (take-suc bs o X b) in
      bit-or lane x y ∙ rw (h, g) (rw (more, some_oppose-more row (take o bs) v (rw long r), long))

  pub opposing_all : (x o : ℕ) → o ≡ length bs → bit lane x ≡ some_oppose row (take o bs) → bit lane x ≡ some_oppose row bs
  opposing_all x o e h = let all : take o bs ≡ bs = rw e (take-length bs) in rw all at h

-- at some unit
module _ (lane : ℕ) (P : ℕ → Bool) where
  pub ever_none : bit lane 0 ≡ any_below P 0
  unfolding any_below
  ever_none = bit-none lane

  pub ever_more : (x y u : ℕ) → bit lane x ≡ any_below P u → bit lane y ≡ P u → bit lane (bit_or x y) ≡ any_below P (u + 1)
  unfolding any_below
  ever_more x y u h g = bit-or lane x y ∙ rw (add-one u, h, g)

  -- every wanted lane opposes already
  pub ever_stop : (x wanted u units : ℕ) → bit lane x ≡ any_below P (u + 1) → u < units → bit_and x wanted ≡ wanted → bit lane wanted ≡ (bit lane wanted && any_below P units)
  ever_stop x wanted u units h l e = by-test (bit lane wanted)
      (λ w.
      let here : bit lane x ≡ true = and_left (bit lane x) (bit lane wanted) (sym (bit-and lane x wanted) ∙ ap (bit lane) e ∙ w) in
      rw (w, any_below-more P (u + 1) units (sym h ∙ here) (omega arith)))
      (λ w. rw w)

  pub ever_all : (x wanted u units : ℕ) → bit lane x ≡ any_below P u → u ≡ units → bit lane (bit_and x wanted) ≡ (bit lane wanted && any_below P units)
  ever_all x wanted u units h e = bit-and lane x wanted ∙ rw (h, e) (and_comm (any_below P units) (bit lane wanted))

-- ---- every flip-flop at X
pub length-power_up : (c : List ℕ) → length (power_up c) ≡ F c
unfolding power_up
length-power_up c = length-replicate (F c) X

module _ (c : List ℕ) (lane : ℕ) where
  pub power_none : (ws : List ℕ) → Lane lane ws (take 0 (power_up c))
  power_none ws = lane-none lane ws [] refl

  pub power_more : (ws ws' : List ℕ) (s : ℕ) → ws' ≡ stored ws s all_x → s < F c → Room (s + 1) ws → Lane lane ws (take s (power_up c)) → Lane lane ws' (take (s + 1) (power_up c))
  power_more ws ws' s e h room l =
      let long : length (power_up c) ≡ F c = length-power_up c in
      let more : take (s + 1) (power_up c) ≡ take s (power_up c) ++ (X ∷ []) = rw (add-one s) (take-suc (power_up c) s X (omega arith) ∙ ap (λ v. take s (power_up c) ++ (v ∷ [])) at_x) in
      rw (e, more) (lane-add lane ws (take s (power_up c)) s all_x X (length-take-le s (power_up c) (omega arith)) room l (shows-x lane X (omega arith)))
    where
      at_x : get_or (power_up c) s X ≡ X
      at_x = unfold power_up in get_or-replicate {A = ℕ} (F c) s X X h

  pub power_all : (ws : List ℕ) (s : ℕ) → s ≡ F c → Lane lane ws (take s (power_up c)) → Lane lane ws (power_up c)
  power_all ws s e l = let all : take s (power_up c) ≡ power_up c = rw (e, ← length-power_up c) (take-length (power_up c)) in rw all at l

-- ---- the loop over the units
pub stuck-binary : (c : List ℕ) (t : ℕ) (hits masks : List ℕ) (f : Fault) → ValidCircuit c → N c ≤ length hits → Stuck t hits masks f → f.value < 2
unfolding I
stuck-binary c t hits masks f v h s = (s.at 0 (omega (arith, v.some_input, count_below-bound (λ n. is_input c n) (N c)))).binary

module _ (c t : List ℕ) (f : Fault) (st : List ℕ) where
  pub values-three : (u : ℕ) → f.value < 2 → ValidTest c t → ThreeValued st → ThreeValued (line_values c f (inputs_at c t u) (state_at c t f st u))
  values-three u b v h = line_values-three c f b _ _ (inputs-three c t u v.bytes) (state_at-three c f b t st u v.bytes h)

  pub state-turn : (u : ℕ) → state_at c t f st (u + 1) ≡ next_state c f (line_values c f (inputs_at c t u) (state_at c t f st u))
  unfolding state_at
  state-turn u = rw (add-one u)

  pub length-state : (u : ℕ) → length st ≡ F c → length (state_at c t f st u) ≡ F c
  unfolding state_at
  length-state zero e = e
  length-state (suc u) e = length-next_state c f _

  -- the rows of the units below u: the responses, and the first bits of the state
  pub length-responses : (u : ℕ) → length (gather (λ u. outputs_at c t f st u) u) ≡ O c * u
  length-responses u = length-gather (λ u. outputs_at c t f st u) (O c) (λ u. unfold outputs_at in length-outputs c f _) u

  pub length-states : (bits u : ℕ) → length st ≡ F c → bits ≤ F c → length (gather (λ u. take bits (state_at c t f st u)) u) ≡ bits * u
  length-states bits u e h =
      length-gather (λ u. take bits (state_at c t f st u)) bits
      (λ u. let all : length (state_at c t f st u) ≡ F c = length-state u e in length-take-le bits (state_at c t f st u) (omega arith)) u

  pub responses-turn : (u : ℕ) → gather (λ u. outputs_at c t f st u) (u + 1) ≡ gather (λ u. outputs_at c t f st u) u ++ outputs c f (line_values c f (inputs_at c t u) (state_at c t f st u))
  unfolding outputs_at values_at
  responses-turn u = gather-turn (λ u. outputs_at c t f st u) u

  pub states-turn : (bits u : ℕ) → gather (λ u. take bits (state_at c t f st u)) (u + 1) ≡ gather (λ u. take bits (state_at c t f st u)) u ++ take bits (state_at c t f st u)
  states-turn bits u = gather-turn (λ u. take bits (state_at c t f st u)) u
