-- Text lines, comments and tokens. Every part of a text that is spoken of is given by where it begins and how many bytes it has.
use Rattle.std.specs.Prelude.{ℕ, zero, suc, ◌+◌, ◌-◌, Bool, true, false, cond, ◌&&◌, ◌||◌, List, [], ◌∷◌, ◌++◌, length, take, drop, eqb, leb, ltb}
use Rattle.lists.specs.Scan.{count_below}

-- a part of a text
pub record Part : Type 0 where
  pub at : ℕ
  pub size : ℕ

unfoldable pub bytes_of : List ℕ → Part → List ℕ
bytes_of text p = take p.size (drop p.at text)

-- two parts have the same bytes
unfoldable pub same : List ℕ → List ℕ → Bool
same [] [] = true
same [] (b ∷ bs) = false
same (a ∷ rest) [] = false
same (a ∷ rest) (b ∷ bs) = eqb a b && same rest bs

-- the bytes before the first byte `end`, or all of them
unfoldable pub up_to : ℕ → List ℕ → List ℕ
up_to end [] = []
up_to end (b ∷ bs) = cond (eqb b end) [] (b ∷ up_to end bs)

module _ (text : List ℕ) where
  -- A text line ends at byte 10 or at the end of the text: the bytes of the one that begins here
  unfoldable pub line_bytes : ℕ → List ℕ
  line_bytes at = up_to 10 (drop at text)

  -- the next one begins behind its byte 10
  unfoldable pub next_line : ℕ → ℕ
  next_line at = at + length (line_bytes at) + 1

  -- where text line j begins
  unfoldable pub line_start : ℕ → ℕ
  line_start zero = 0
  line_start (suc j) = next_line (line_start j)

  -- how many begin within the text; each but the last has its byte 10, so there are no more of them than bytes
  unfoldable pub text_lines : ℕ
  text_lines = count_below (λ j. ltb (line_start j) (length text)) (length text)

-- letters, digits or underscores
unfoldable pub is_name_byte : ℕ → Bool
is_name_byte b = (leb 48 b && leb b 57) || ((leb 65 b && leb b 90) || (eqb b 95 || (leb 97 b && leb b 122)))

-- the run of so many bytes that ends before `at`
unfoldable pub run_before : ℕ → ℕ → List Part
run_before at run = cond (eqb run 0) [] (record { at = at - run; size = run } ∷ [])

-- the byte there, unless it is a space (byte 32)
unfoldable pub byte_at : ℕ → ℕ → List Part
byte_at at b = cond (eqb b 32) [] (record { at = at; size = 1 } ∷ [])

-- The tokens of these bytes, the first of which stands at place `at` in the text: each longest run of letters, digits and underscores, and
-- each other byte that is no space. The last `run` bytes before `at` belong to a run that goes on.
unfoldable pub tokens : ℕ → ℕ → List ℕ → List Part
tokens at run [] = run_before at run
tokens at run (b ∷ bs) = cond (is_name_byte b) (tokens (suc at) (suc run) bs) (run_before at run ++ byte_at at b ++ tokens (suc at) 0 bs)

-- the tokens of the text line that begins here; `#` (byte 35) starts a comment that runs to the end of its text line
unfoldable pub line_tokens : List ℕ → ℕ → List Part
line_tokens text at = tokens at 0 (up_to 35 (line_bytes text at))
