use mathlib.Core.Path.{◌≡◌, ◌∙◌, sym}
use mathlib.Core.List.{List, [], ◌∷◌, ◌++◌, append_assoc}
use Prim.Native.Nat.{ℕ, ◌+◌, ◌-◌, ◌≤◌, ◌/◌, ◌%◌}
use native.Mathlib.Omega.{arith}
use lib.ListN.{length, take, drop}
use lib.Seq.{drop-drop, sets}
use Rattle.std.proofs.lemmas.List.Edits.{sets-eq}
use Rattle.lists.specs.Field.{bytes16}
use Rattle.record.proofs.put16.Goals as goal

-- the two bytes of the low 16 bits
low : (n : ℕ) → ◌≡◌ {A = List ℕ} (n % 65536 % 256 ∷ n % 65536 / 256 % 256 ∷ []) (bytes16 n)
unfolding bytes16
low n = let first : n % 65536 % 256 ≡ n % 256 = omega arith in let second : n % 65536 / 256 % 256 ≡ n / 256 % 256 = omega arith in rw (first, second)

between : (area : List ℕ) (at value : ℕ) → at + 2 ≤ length area → take at area ++ (bytes16 value ++ drop (at + 2) area) ≡ sets area at (bytes16 value)
unfolding bytes16
between area at value h = sym (append_assoc (take at area) (bytes16 value) (drop (at + 2) area)) ∙ sym (sets-eq (bytes16 value) area at h)

pub returns : goal.returns
returns c =
    let at = c.args.at in
    let span : at + 2 - at ≡ 2 = omega arith in
    let written = c.copy_from_slice.ensures.after ∙ c.to_le_bytes.ensures ∙ low c.args.value in
    rw (written, span, drop-drop) (between c.args.area.now at c.args.value c.requires)
