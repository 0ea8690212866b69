-- A text line's sentence as the code tells it.
use Rattle.std.specs.Prelude.{◌≡◌, ℕ, ◌+◌, ◌*◌, ◌≤◌, ◌<◌, Bool, true, false, List, get_or, length}
use Rattle.bench_text.specs.Sentence.{Sentence, OUTPUT, NOTHING, MALFORMED, no_part}
use Rattle.parts.specs.declared.Part.{Part}
use Rattle.parts.specs.Place.{text_part}
use Rattle.tokens.specs.Kept.{part_of}
use Rattle.sentences.specs.declared.Line.{Line}
use Rattle.sentences.specs.declared.Sort.{Sort}
use Rattle.sentences.specs.declared.Sort.TheVariants.{Defines, Output, Nothing, Malformed}

-- these are up to 12 tokens, each with a byte at least and within the text
pub record TokensKept (text : List ℕ) (parts : List Part) : Type 0 where
  pub few : length parts ≤ 12
  pub some : (i : ℕ) → i < length parts → 1 ≤ (part_of parts i).size
  pub ends : (i : ℕ) → i < length parts → (part_of parts i).at + (part_of parts i).size ≤ length text

-- the number of a sort
abbrev pub sort_of : Sort → ℕ
sort_of (Defines kind) = kind
sort_of Output = OUTPUT
sort_of Nothing = NOTHING
sort_of Malformed = MALFORMED

-- it defines a line
abbrev pub defines : Sort → Bool
defines (Defines kind) = true
defines Output = false
defines Nothing = false
defines Malformed = false

abbrev pub is_malformed : Sort → Bool
is_malformed (Defines kind) = false
is_malformed Output = false
is_malformed Nothing = false
is_malformed Malformed = true

-- Of a sentence: its sort; the name that it defines; and its pins, which stand two tokens apart.
pub record Tells (parts : List Part) (s : Sentence) (r : Line) : Type 0 where
  pub sort : sort_of r.sort ≡ s.sort
  pub kind : (k : ℕ) → r.sort ≡ Defines k → k ≤ 9
  pub name : text_part r.name ≡ s.name
  pub count : r.pins ≡ length s.pins
  pub room : r.first + 2 * r.pins ≤ 14
  pub pin : (i : ℕ) → i < r.pins → get_or s.pins i no_part ≡ part_of parts (r.first + 2 * i)
