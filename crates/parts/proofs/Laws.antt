-- Sameness, and the hash a byte further.
use Rattle.std.proofs.Common.{◌≡◌, ℕ, ◌+◌, ◌*◌, ◌%◌, ◌<◌, ◌≤◌, ◌&&◌, List, [], ◌∷◌, length, get_or, drop, eqb, refl, sym, ap, subst, add-one}
use Rattle.std.proofs.Math.ListN.{drop_of_length-le}
use Rattle.std.proofs.Math.Seq.{drop-cons}
use Rattle.std.specs.Str.{bytes_eq}
use Rattle.bench_text.specs.Text as told
use Rattle.bench_text.specs.Text.{same}
use Rattle.parts.specs.declared.Part.{Part}
use Rattle.parts.specs.Place.{text_part}
use Rattle.parts.specs.Hash.{hash_from}

-- a part that is one of the definitions lies where that lies
pub part-within : (text : List ℕ) (p : Part) (q : told.Part) → text_part p ≡ q → q.at + q.size ≤ length text → p.at + p.size ≤ length text
part-within text p q e h = subst (λ (q : told.Part). q.at + q.size ≤ length text) (sym e) h

-- the library's test of two slices
pub bytes_eq-same : (a b : List ℕ) → bytes_eq a b ≡ same a b
unfolding same
bytes_eq-same [] [] = refl
bytes_eq-same [] (y ∷ ys) = refl
bytes_eq-same (x ∷ xs) [] = refl
bytes_eq-same (x ∷ xs) (y ∷ ys) = ap (λ rest. eqb x y && rest) (bytes_eq-same xs ys)

module _ (h : ℕ) (name : List ℕ) (i : ℕ) where
  pub hash_more : i < length name → hash_from h (drop i name) ≡ hash_from ((25173 * h + get_or name i 0) % 65536) (drop (i + 1) name)
  unfolding hash_from
  hash_more l = rw (add-one i, drop-cons name i 0 l)

  pub hash_end : length name ≤ i → hash_from h (drop i name) ≡ h
  unfolding hash_from
  hash_end l = rw (drop_of_length-le name l)
