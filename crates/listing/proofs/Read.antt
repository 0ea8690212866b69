-- What is read of a file tells whether it is too long, and is the file where it is not.
use mathlib.Core.Path.{◌≡◌, sym, ap, ◌∙◌}
use mathlib.Core.Bool.{Bool, true, false, cond}
use mathlib.Core.List.{List}
use mathlib.Core.Option.{none, some, or_else}
use Prim.Native.Nat.{ℕ}
use native.Mathlib.Omega.{arith}
use borrow.Author.Tests.{ltb-false}
use lib.ListN.{length, length-take}
use lib.Seq.{take_all}
use Rattle.model.specs.Listing.{too_long, too_long_line, circuit_name, test_name, faults_name, plan_name, printed}
use Rattle.decimals.specs.Put.{Put}
use Rattle.listing.specs.Print.{ReadOf, job_print, Printed}
use Rattle.listing.specs.declared.Longer.{Longer}

-- what is printed, by what was read
unfoldable pub read_print : Longer → List ℕ → List ℕ → List ℕ → List ℕ → List ℕ
read_print longer circuit test faults plan =
    cond longer.circuit (too_long_line circuit_name)
    (cond longer.test (too_long_line test_name)
    (cond longer.faults (too_long_line faults_name)
    (cond longer.plan (too_long_line plan_name) (job_print circuit test faults plan))))

-- ---- one file
long : {file bytes : List ℕ} {more : Bool} (name : List ℕ) → ReadOf file bytes more → too_long file name ≡ cond more (some (too_long_line name)) none
unfolding too_long
long name read = rw (← read.longer)

whole : {file bytes : List ℕ} → ReadOf file bytes false → bytes ≡ file
whole {file} read = read.first ∙ take_all 65536 file (ltb-false 65536 (length file) (sym read.longer))

-- ---- all four
module _ {circuit test faults plan c t fs p : List ℕ} where
  read-printed : (l m n o : Bool) → ReadOf c circuit l → ReadOf t test m → ReadOf fs faults n → ReadOf p plan o
      → read_print (record { circuit = l; test = m; faults = n; plan = o }) circuit test faults plan ≡ printed c t fs p
  unfolding read_print printed or_else job_print
  read-printed true m n o rc rt rf rp = rw (long circuit_name rc)
  read-printed false true n o rc rt rf rp = rw (long circuit_name rc, long test_name rt)
  read-printed false false true o rc rt rf rp = rw (long circuit_name rc, long test_name rt, long faults_name rf)
  read-printed false false false true rc rt rf rp = rw (long circuit_name rc, long test_name rt, long faults_name rf, long plan_name rp)
  read-printed false false false false rc rt rf rp =
      rw (long circuit_name rc, long test_name rt, long faults_name rf, long plan_name rp, whole rc, whole rt, whole rf, whole rp)

pub print_of : {circuit test faults plan line old out : List ℕ} {longer : Longer} {r : ℕ} → Put 0 r line old out → line ≡ read_print longer circuit test faults plan
    → Printed circuit test faults plan longer r out
print_of {out = out} {r = r} put e = record {
  room = omega (arith, put.end, ap length put.bytes, length-take r out);
  bytes = λ c t fs p rc rt rf rp. put.bytes ∙ e ∙ read-printed _ _ _ _ rc rt rf rp;
}
