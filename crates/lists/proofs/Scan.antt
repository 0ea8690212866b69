-- What the scans tell: a search that finds, and one that finds nothing; counts; the lists that scans make.
use mathlib.Core.Path.{◌≡◌, refl, ap, ◌∙◌}
use Prim.Native.Nat.{ℕ, zero, suc, ◌+◌, ◌*◌, ◌-◌, ◌≤◌, ◌<◌}
use mathlib.Core.Bool.{Bool, true, false, cond, ◌&&◌}
use mathlib.Core.List.{List, [], ◌∷◌, ◌++◌, map}
use mathlib.Core.Option
use mathlib.Core.Option.{Option, none, some, or_else, some-injective, none-ne-some, some-ne-none}
use mathlib.Mathlib.Data.Option.Basic.{or_else-eq-none}
use lib.ListN.{get_or, length, take, drop, length-append, length-drop}
use lib.Seq.{take_all, drop_at, drop-append-le, take-append-le}
use lib.Dec.{ltb}
use borrow.Author.Tests.{lt-ltb, le-ltb}
use native.Mathlib.Omega.{arith}
use native.Mathlib.Decide.{dec_le}
use native.Mathlib.Nat.{add-zero, add-suc, mul-le-mul_left, mul-suc}
use native.Mathlib.Numerals.{add-one}
use Rattle.lists.specs.Scan.{◌else◌, first, pair_with, first_pair, first_answer, any_below, count_below, select, tabulate, gather}
use Rattle.lists.proofs.Tests.{or_left_false, or_right_false, cond_cases, clash, is_true}

-- ---- the first answer
pub else_some {ℓ} : {A : Type 0} {B : Type ℓ} (a b : Option A) (m : A) → a else b ≡ some m → (a ≡ some m → B) → (a ≡ none → b ≡ some m → B) → B
unfolding or_else
else_some none b m e f g = g refl e
else_some (some a) b m e f g = f e

pub else_assoc : {A : Type 0} (a b d : Option A) → (a else b) else d ≡ a else (b else d)
unfolding or_else
else_assoc none b d = refl
else_assoc (some a) b d = refl

pub else_found : {A : Type 0} (a b : Option A) (m : A) → a ≡ some m → a else b ≡ some m
unfolding or_else
else_found none b m e = absurd (none-ne-some m e)
else_found (some a) b m e = e

pub else_skips : {A : Type 0} (a b : Option A) → a ≡ none → a else b ≡ b
unfolding or_else
else_skips none b e = refl
else_skips (some a) b e = absurd (some-ne-none a e)

pub else_none : {A : Type 0} (a : Option A) → a else none ≡ a
unfolding or_else
else_none none = refl
else_none (some a) = refl

pub given-cases {ℓ} : {A : Type 0} (P : A → Type ℓ) (o : Option A) (a : A) → ((m : A) → o ≡ some m → P m) → (o ≡ none → P a) → P (Option.get_or o a)
given-cases P none a f g = g refl
given-cases P (some m) a f g = f m refl

pub first_answer-none : {A : Type 0} (g : ℕ → Option A) (n m : ℕ) → first_answer g n ≡ none → m < n → g m ≡ none
unfolding first_answer
first_answer-none g zero m e h = absurd (let z : ⊥ = omega arith in z)
first_answer-none g (suc n) m e h =
    let d : (first_answer g n ≡ none) × (g n ≡ none) = (or_else-eq-none (first_answer g n) (g n)).0 e in
    elim (dec_le (suc m) n) [ yes q ↦ first_answer-none g n m d.0 q | no q ↦ (let r : m ≡ n = omega arith in rw r d.1) ]

pub first_answer-passed : {A : Type 0} (g : ℕ → Option A) (n : ℕ) → ((m : ℕ) → m < n → g m ≡ none) → first_answer g n ≡ none
unfolding first_answer
first_answer-passed g zero h = refl
first_answer-passed g (suc n) h =
    (or_else-eq-none (first_answer g n) (g n)).1 (first_answer-passed g n (λ m l. h m (omega arith)), h n (omega arith))

-- ---- the lowest number
cond-some : (t : Bool) (n m : ℕ) → cond t (some n) none ≡ some m → (t ≡ true) × (n ≡ m)
cond-some true n m e = (refl, some-injective n m e)
cond-some false n m e = absurd (none-ne-some m e)

cond-none : (t : Bool) (n : ℕ) → cond t (some n) none ≡ none → t ≡ false
cond-none true n e = absurd (some-ne-none n e)
cond-none false n e = refl

pub first-none : (P : ℕ → Bool) (n m : ℕ) → first P n ≡ none → m < n → P m ≡ false
unfolding first
first-none P zero m e h = absurd (let z : ⊥ = omega arith in z)
first-none P (suc n) m e h =
    let d : (first P n ≡ none) × (cond (P n) (some n) none ≡ none) = (or_else-eq-none (first P n) _).0 e in
    elim (dec_le (suc m) n) [
      | yes g ↦ first-none P n m d.0 g
      | no g ↦ (let q : m ≡ n = omega arith in rw q (cond-none (P n) n d.1))
    ]

-- m is the lowest number below n that passes
pub record Lowest (P : ℕ → Bool) (n m : ℕ) : Type 0 where
  pub below : m < n
  pub passes : P m ≡ true
  pub fails : (j : ℕ) → j < m → P j ≡ false

pub first_some : (P : ℕ → Bool) (n m : ℕ) → first P n ≡ some m → Lowest P n m
unfolding first
first_some P zero m e = absurd (none-ne-some m e)
first_some P (suc n) m e =
    else_some (first P n) _ m e
    (λ q. let ih : Lowest P n m = first_some P n m q in record { below = omega arith; passes = ih.passes; fails = ih.fails })
    (λ z q.
    let d : (P n ≡ true) × (n ≡ m) = cond-some (P n) n m q in
    record { below = omega arith; passes = rw (← d.1) d.0; fails = λ j h. first-none P n j z (omega arith) })

pub first-fails : (P : ℕ → Bool) (n : ℕ) → ((m : ℕ) → m < n → P m ≡ false) → first P n ≡ none
unfolding first or_else
first-fails P zero h = refl
first-fails P (suc n) h = rw (first-fails P n (λ m l. h m (omega arith)), h n (omega arith))

pub first-lowest : (P : ℕ → Bool) (n m : ℕ) → Lowest P n m → first P n ≡ some m
first-lowest P n m l = by-found (first P n) refl
  where
    by-found : (found : Option ℕ) → first P n ≡ found → found ≡ some m
    by-found none e = clash (P m) l.passes (first-none P n m e l.below)
    by-found (some j) e =
        let k : Lowest P n j = first_some P n j e in
        elim (dec_le (suc j) m) [
          | yes g ↦ clash (P j) k.passes (l.fails j g)
          | no g ↦ elim (dec_le (suc m) j) [
            | yes q ↦ clash (P m) l.passes (k.fails m q)
            | no q ↦ ap some (let r : j ≡ m = omega arith in r)
          ]
        ]

pub first-same : (P R : ℕ → Bool) (n : ℕ) → ((m : ℕ) → m < n → P m ≡ R m) → first P n ≡ first R n
unfolding first
first-same P R zero e = refl
first-same P R (suc n) e = rw (first-same P R n (λ m h. e m (omega arith)), e n (omega arith))

-- the lowest number that passes, or n: below n it is the first, and n says that there is none
pub given-first : (P : ℕ → Bool) (n r : ℕ) → r ≡ Option.get_or (first P n) n → r < n → first P n ≡ some r
given-first P n r e h =
    given-cases (λ m. r ≡ m → first P n ≡ some r) (first P n) n (λ m f q. rw q f) (λ _ q. absurd (let z : ⊥ = omega arith in z)) e

pub given-none : (P : ℕ → Bool) (n r : ℕ) → r ≡ Option.get_or (first P n) n → n ≤ r → first P n ≡ none
given-none P n r e h =
    given-cases (λ m. r ≡ m → first P n ≡ none) (first P n) n
    (λ m f q. let l : m < n = (first_some P n m f).below in absurd (let z : ⊥ = omega arith in z)) (λ f _. f) e

-- a test that only numbers below d pass
pub first_part : (P Q : ℕ → Bool) (d n : ℕ) → d ≤ n → ((m : ℕ) → m < n → Q m ≡ (ltb m d && P m)) → first Q n ≡ first P d
unfolding first or_else
first_part P Q d zero l e = let z : d ≡ 0 = omega arith in rw z
first_part P Q d (suc n) l e = elim (dec_le d n) [
  | yes g ↦ rw (e n (omega arith), le-ltb n d g) (else_none (first Q n) ∙ first_part P Q d n g (λ m h. e m (omega arith)))
  | no g ↦ (let z : d ≡ suc n = omega arith in rw z (first-same Q P (suc n) (λ m h. e m h ∙ rw (lt-ltb m d (omega arith)))))
]

-- the numbers below a fail, and of those from a on the first that passes is known
module _ (P : ℕ → Bool) (a b : ℕ) (e : first P a ≡ none) where
  from : (j : ℕ) → a ≤ j → P (a + (j - a)) ≡ false → P j ≡ false
  from j h q = let r : a + (j - a) ≡ j = omega arith in rw r at q

  pub first-none-more : first (λ t. P (a + t)) b ≡ none → first P (a + b) ≡ none
  first-none-more f = first-fails P (a + b) (λ j h. elim (dec_le (suc j) a) [
    | yes g ↦ first-none P a j e g
    | no g ↦ from j (omega arith) (first-none (λ t. P (a + t)) b (j - a) f (omega arith))
  ])

  pub first-some-more : (n t : ℕ) → first (λ t. P (a + t)) b ≡ some t → a + t < n → first P n ≡ some (a + t)
  first-some-more n t f h =
      let l : Lowest (λ t. P (a + t)) b t = first_some (λ t. P (a + t)) b t f in
      first-lowest P n (a + t) record {
        below = h;
        passes = l.passes;
        fails = λ j k. elim (dec_le (suc j) a) [
          | yes g ↦ first-none P a j e g
          | no g ↦ from j (omega arith) (l.fails (j - a) (omega arith))
        ];
      }

-- ---- the first pair
pair_with-some : (u : ℕ) (o : Option ℕ) (q : ℕ × ℕ) → pair_with u o ≡ some q → (o ≡ some q.1) × (u ≡ q.0)
unfolding pair_with
pair_with-some u none q e = absurd (none-ne-some q e)
pair_with-some u (some i) q e =
    let d : ◌≡◌ {A = ℕ × ℕ} (u, i) q = some-injective (u, i) q e in
    (ap (λ (r : ℕ × ℕ). some r.1) d, ap (λ (r : ℕ × ℕ). r.0) d)

pair_with-none : (u : ℕ) (o : Option ℕ) → pair_with u o ≡ none → o ≡ none
unfolding pair_with
pair_with-none u none e = refl
pair_with-none u (some i) e = absurd (some-ne-none (u, i) e)

pub record Found (P : ℕ → ℕ → Bool) (a b u i : ℕ) : Type 0 where
  pub row : u < a
  pub place : i < b
  pub passes : P u i ≡ true

pub first_pair-some : (P : ℕ → ℕ → Bool) (a b : ℕ) (q : ℕ × ℕ) → first_pair P a b ≡ some q → Found P a b q.0 q.1
unfolding first_pair
first_pair-some P zero b q e = absurd (none-ne-some q e)
first_pair-some P (suc a) b q e =
    else_some (first_pair P a b) _ q e
    (λ h. let ih : Found P a b q.0 q.1 = first_pair-some P a b q h in record { row = omega arith; place = ih.place; passes = ih.passes })
    (λ _ h.
    let d : (first (P a) b ≡ some q.1) × (a ≡ q.0) = pair_with-some a (first (P a) b) q h in
    let r : Lowest (P a) b q.1 = first_some (P a) b q.1 d.0 in
    record { row = omega arith; place = r.below; passes = rw (← d.1) r.passes })

pub first_pair-none : (P : ℕ → ℕ → Bool) (a b u i : ℕ) → first_pair P a b ≡ none → u < a → i < b → P u i ≡ false
unfolding first_pair
first_pair-none P zero b u i e h k = absurd (let z : ⊥ = omega arith in z)
first_pair-none P (suc a) b u i e h k =
    let d : (first_pair P a b ≡ none) × (pair_with a (first (P a) b) ≡ none) = (or_else-eq-none (first_pair P a b) _).0 e in
    elim (dec_le (suc u) a) [
      | yes g ↦ first_pair-none P a b u i d.0 g k
      | no g ↦ (let q : u ≡ a = omega arith in rw q (first-none (P a) b i (pair_with-none a _ d.1) k))
    ]

-- a pair stays the first, however many rows follow
pub first_pair-more : (P : ℕ → ℕ → Bool) (a b d : ℕ) (q : ℕ × ℕ) → first_pair P a b ≡ some q → a ≤ d → first_pair P d b ≡ some q
unfolding first_pair
first_pair-more P a b zero q e l = let z : a ≡ 0 = omega arith in rw z at e
first_pair-more P a b (suc d) q e l = elim (dec_le a d) [
  | yes g ↦ else_found (first_pair P d b) _ q (first_pair-more P a b d q e g)
  | no g ↦ (let z : a ≡ suc d = omega arith in rw z at e)
]

-- ---- some number, and how many
pub any_below-false : (P : ℕ → Bool) (n m : ℕ) → any_below P n ≡ false → m < n → P m ≡ false
unfolding any_below
any_below-false P zero m e h = absurd (let z : ⊥ = omega arith in z)
any_below-false P (suc n) m e h = elim (dec_le (suc m) n) [
  | yes g ↦ any_below-false P n m (or_left_false _ _ e) g
  | no g ↦ (let q : m ≡ n = omega arith in rw q (or_right_false (any_below P n) _ e))
]

pub any_below-none : (P : ℕ → Bool) (n : ℕ) → ((m : ℕ) → m < n → P m ≡ false) → any_below P n ≡ false
unfolding any_below
any_below-none P zero h = refl
any_below-none P (suc n) h = rw (any_below-none P n (λ m q. h m (omega arith))) (h n (omega arith))

pub any_below-same : (P R : ℕ → Bool) (n : ℕ) → ((m : ℕ) → m < n → P m ≡ R m) → any_below P n ≡ any_below R n
unfolding any_below
any_below-same P R zero e = refl
any_below-same P R (suc n) e = rw (any_below-same P R n (λ m h. e m (omega arith)), e n (omega arith))

pub count_below-positive : (P : ℕ → Bool) (n m : ℕ) → m < n → P m ≡ true → 0 < count_below P n
unfolding count_below
count_below-positive P zero m h e = absurd (let z : ⊥ = omega arith in z)
count_below-positive P (suc n) m h e = elim (dec_le (suc m) n) [
  | yes g ↦ (let ih : 0 < count_below P n = count_below-positive P n m g e in omega arith)
  | no g ↦ (let q : m ≡ n = omega arith in rw (rw q at e) (omega arith))
]

-- a number that passes has a place among those that do
pub count_below-less : (P : ℕ → Bool) (n m : ℕ) → n < m → P n ≡ true → count_below P n < count_below P m
unfolding count_below
count_below-less P n zero h e = absurd (let z : ⊥ = omega arith in z)
count_below-less P n (suc m) h e = elim (dec_le (suc n) m) [
  | yes g ↦ (let ih : count_below P n < count_below P m = count_below-less P n m g e in omega arith)
  | no g ↦ (let q : n ≡ m = omega arith in rw q (rw (rw q at e) (omega arith)))
]

pub count_below-bound : (P : ℕ → Bool) (n : ℕ) → count_below P n ≤ n
unfolding count_below
count_below-bound P zero = omega arith
count_below-bound P (suc n) =
    let ih : count_below P n ≤ n = count_below-bound P n in
    cond_cases (λ (x : ℕ). count_below P n + x ≤ suc n) (P n) 1 0 (λ _. omega arith) (λ _. omega arith)

pub count_below-same : (P R : ℕ → Bool) (n : ℕ) → ((m : ℕ) → m < n → P m ≡ R m) → count_below P n ≡ count_below R n
unfolding count_below
count_below-same P R zero e = refl
count_below-same P R (suc n) e = rw (count_below-same P R n (λ m h. e m (omega arith)), e n (omega arith))

pub count_below-part : (P Q : ℕ → Bool) (d n : ℕ) → d ≤ n → ((m : ℕ) → m < n → Q m ≡ (ltb m d && P m)) → count_below Q n ≡ count_below P d
unfolding count_below
count_below-part P Q d zero l e = let z : d ≡ 0 = omega arith in rw z
count_below-part P Q d (suc n) l e = elim (dec_le d n) [
  | yes g ↦ rw (e n (omega arith), le-ltb n d g) (omega (arith, count_below-part P Q d n g (λ m h. e m (omega arith))))
  | no g ↦ (let z : d ≡ suc n = omega arith in rw z (count_below-same Q P (suc n) (λ m h. e m h ∙ rw (lt-ltb m d (omega arith)))))
]

-- those below a, and those from a on
pub count_below-add : (P : ℕ → Bool) (a b : ℕ) → count_below P (a + b) ≡ count_below P a + count_below (λ t. P (a + t)) b
unfolding count_below
count_below-add P a zero = omega (arith, ap (count_below P) (add-zero a))
count_below-add P a (suc b) = rw (add-suc, count_below-add P a b) (omega arith)

-- ---- the numbers that pass
unfoldable pub All : (ℕ → Type 0) → List ℕ → Type 0
All P [] = Unit {0}
All P (a ∷ rest) = P a × All P rest

all_append : (P : ℕ → Type 0) (xs ys : List ℕ) → All P xs → All P ys → All P (xs ++ ys)
unfolding All
all_append P [] ys h k = k
all_append P (x ∷ xs) ys h k = (h.0, all_append P xs ys h.1 k)

pub all-at : (P : ℕ → Type 0) (xs : List ℕ) (i d : ℕ) → All P xs → i < length xs → P (get_or xs i d)
unfolding All
all-at P [] i d h k = absurd (let z : ⊥ = omega arith in z)
all-at P (x ∷ xs) zero d h k = h.0
all-at P (x ∷ xs) (suc i) d h k = all-at P xs i d h.1 (omega arith)

pub select-all : (P : ℕ → Bool) (n m : ℕ) → n ≤ m → All (λ j. (j < m) × (P j ≡ true)) (select P n)
unfolding select All
select-all P zero m h = tt
select-all P (suc n) m h =
    all_append (λ j. (j < m) × (P j ≡ true)) (select P n) _ (select-all P n m (omega arith))
    (cond_cases (All (λ j. (j < m) × (P j ≡ true))) (P n) (n ∷ []) [] (λ e. ((h, e), tt)) (λ _. tt))

pub length-select : (P : ℕ → Bool) (n : ℕ) → length (select P n) ≡ count_below P n
unfolding select count_below
length-select P zero = refl
length-select P (suc n) =
    rw (length-append, length-select P n) (one (P n))
  where
    one : (t : Bool) → count_below P n + length (cond t (n ∷ []) []) ≡ count_below P n + cond t 1 0
    one true = refl
    one false = refl

-- ---- tables
pub length-tabulate : {A : Type 0} (g : ℕ → A) (from n : ℕ) → length (tabulate g from n) ≡ n
unfolding tabulate
length-tabulate g from zero = refl
length-tabulate g from (suc n) = ap suc (length-tabulate g (suc from) n)

pub get_or_tabulate : {A : Type 0} (g : ℕ → A) (from n j : ℕ) (d : A) → j < n → get_or (tabulate g from n) j d ≡ g (from + j)
unfolding tabulate
get_or_tabulate g from zero j d h = absurd (let z : ⊥ = omega arith in z)
get_or_tabulate g from (suc n) zero d h = ap g (let e : from ≡ from + 0 = omega arith in e)
get_or_tabulate g from (suc n) (suc j) d h =
    get_or_tabulate g (suc from) n j d (omega arith) ∙ ap g (let e : suc from + j ≡ from + suc j = omega arith in e)

pub tabulate-same : {A : Type 0} (g h : ℕ → A) (from n : ℕ) → ((j : ℕ) → from ≤ j → j < from + n → g j ≡ h j) → tabulate g from n ≡ tabulate h from n
unfolding tabulate
tabulate-same g h from zero e = refl
tabulate-same g h from (suc n) e =
    rw (e from (omega arith) (omega arith)) (ap (◌∷◌ (h from)) (tabulate-same g h (suc from) n (λ j p q. e j (omega arith) (omega arith))))

-- ---- lists end to end, each of one length
module _ {A : Type 0} (g : ℕ → List A) (size : ℕ) (each : (j : ℕ) → length (g j) ≡ size) where
  pub length-gather : (n : ℕ) → length (gather g n) ≡ size * n
  unfolding gather
  length-gather zero = omega arith
  length-gather (suc n) =
      let ih : length (gather g n) ≡ size * n = length-gather n in
      rw (length-append, ih, each n) (omega arith)

  -- the bytes of one of them
  pub gather-part : (n j : ℕ) → j < n → take size (drop (size * j) (gather g n)) ≡ g j
  unfolding gather
  gather-part zero j h = absurd (let z : ⊥ = omega arith in z)
  gather-part (suc n) j h = elim (dec_le (suc j) n) [
    | yes k ↦ (
        let l : length (gather g n) ≡ size * n = length-gather n in
        let up : size * suc j ≤ size * n = mul-le-mul_left size k in
        let more : size * suc j ≡ size * j + size = mul-suc size j in
        let left : size ≤ length (drop (size * j) (gather g n)) = rw length-drop (omega arith) in
        ap (take size) (drop-append-le (size * j) (gather g n) (g n) (omega arith))
        ∙ take-append-le size (drop (size * j) (gather g n)) (g n) left
        ∙ gather-part n j k)
    | no k ↦ (
        let q : j ≡ n = omega arith in
        rw (q, drop_at (gather g n) (g n) (size * n) (length-gather n)) (take_all size (g n) (omega (arith, each n))))
  ]

-- ---- a loop's turn: the scan of the numbers below n + 1, from the scan of those below n
module _ {A : Type 0} (g : ℕ → Option A) where
  pub first_answer-turn : (n : ℕ) → first_answer g n ≡ none → g n ≡ none → first_answer g (n + 1) ≡ none
  unfolding first_answer
  first_answer-turn n e h = rw add-one ((or_else-eq-none (first_answer g n) (g n)).1 (e, h))

  -- the loop is left at the first answer
  pub first_answer-stop : (n m : ℕ) (a : A) → first_answer g n ≡ none → g n ≡ some a → n < m → first_answer g m ≡ some a
  unfolding first_answer or_else
  first_answer-stop n zero a e h l = absurd (let z : ⊥ = omega arith in z)
  first_answer-stop n (suc m) a e h l = elim (dec_le (suc n) m) [
    | yes q ↦ rw (first_answer-stop n m a e h q)
    | no q ↦ (let r : n ≡ m = omega arith in rw (rw r at e, rw r at h))
  ]

module _ (P : ℕ → Bool) where
  pub any_below-turn : (n : ℕ) → any_below P n ≡ false → P n ≡ false → any_below P (n + 1) ≡ false
  unfolding any_below
  any_below-turn n e h = rw (add-one, e) h

  pub any_below-stop : (n m : ℕ) → P n ≡ true → n < m → any_below P m ≡ true
  any_below-stop n m h l = is_true _ (λ e. clash _ h (any_below-false P m n e l))

  pub any_below-more : (n m : ℕ) → any_below P n ≡ true → n ≤ m → any_below P m ≡ true
  any_below-more n m h l = is_true _ (λ e. clash _ h (any_below-none P n (λ j k. any_below-false P m j e (omega arith))))

  pub count_below-turn : (n : ℕ) → count_below P (n + 1) ≡ count_below P n + cond (P n) 1 0
  unfolding count_below
  count_below-turn n = rw add-one

  pub select-turn : (n : ℕ) → select P (n + 1) ≡ select P n ++ cond (P n) (n ∷ []) []
  unfolding select
  select-turn n = rw add-one

pub gather-turn : {A : Type 0} (g : ℕ → List A) (n : ℕ) → gather g (n + 1) ≡ gather g n ++ g n
unfolding gather
gather-turn g n = rw add-one

-- within the list the default does not matter
pub get_or_any : (l : List ℕ) (i d e : ℕ) → i < length l → get_or l i d ≡ get_or l i e
get_or_any [] i d e h = absurd (let z : ⊥ = omega arith in z)
get_or_any (x ∷ l) zero d e h = refl
get_or_any (x ∷ l) (suc i) d e h = get_or_any l i d e (omega arith)

pub map-take : (g : ℕ → ℕ) (xs : List ℕ) (n : ℕ) → n < length xs → map g (take (n + 1) xs) ≡ map g (take n xs) ++ (g (get_or xs n 0) ∷ [])
map-take g [] n h = absurd (let z : ⊥ = omega arith in z)
map-take g (x ∷ xs) zero h = refl
map-take g (x ∷ xs) (suc n) h =
    let e : suc n + 1 ≡ suc (n + 1) = omega arith in
    rw e (ap (◌∷◌ (g x)) (map-take g xs n (omega arith)))
