-- The pins of a text line as its tokens tell them, and the record of the line that it defines.
use Rattle.std.specs.Prelude.{◌≡◌, cond, ◌&&◌, List, ◌∷◌, ℕ, ◌+◌, ◌*◌, ◌≤◌, ◌<◌, leb, ltb, get_or, length, Result, ⊤}
use Rattle.std.proofs.Math.Option.{none}
use Rattle.lists.specs.Scan.{◌else◌, any_below, gather}
use Rattle.lists.specs.Field.{bytes16}
use Rattle.model.specs.Refusals.{refuse}
use Rattle.bench_text.specs.Text.{bytes_of}
use Rattle.bench_text.specs.Bench.{line_named}
use Rattle.tokens.specs.Kept.{part_of}
use Rattle.parts.specs.declared.Part.{Part}
use Rattle.parts.specs.Place.{text_part}
use Rattle.sentences.specs.declared.Line.{Line}
use Rattle.sentences.specs.declared.Sort.{Sort}
use Rattle.sentences.specs.declared.Sort.TheVariants.{Defines, Output, Nothing, Malformed}
use Rattle.sentences.specs.Line.{defines, is_malformed}
use Rattle.rules.specs.declared.Refusal.{Refusal}
use Rattle.rules.specs.Check.{refusal_of}

-- the tokens of a text line are kept, and those of its pins, of which the first is token `first`, lie within the text
pub record PinsKept (text : List ℕ) (parts : List Part) (first pins : ℕ) : Type 0 where
  pub size : length parts ≡ 16
  pub room : first + 2 * pins ≤ 14
  pub few : pins ≤ 4
  pub within : (i : ℕ) → i < pins → (part_of parts (first + 2 * i)).at + (part_of parts (first + 2 * i)).size ≤ length text

-- the line that pin i + 1 names
unfoldable pub pin_line_of : List ℕ → List Part → ℕ → ℕ → ℕ
pin_line_of text parts first i = line_named text (bytes_of text (part_of parts (first + 2 * i)))

-- the line that the text line's own name names
unfoldable pub own_line : List ℕ → Line → ℕ
own_line text l = line_named text (bytes_of text (text_part l.name))

-- where the lines that it may name end, with so many lines above it and so many in all
unfoldable pub reach_from : Sort → ℕ → ℕ → ℕ
reach_from (Defines kind) above count = cond (leb 2 kind) above count
reach_from Output above count = count
reach_from Nothing above count = count
reach_from Malformed above count = count

abbrev pub reach_of : Line → ℕ → ℕ → ℕ
reach_of l above count = reach_from l.sort above count

-- 18 to 20 of text line j; where it passes, the lines that its pins name
pub record LineChecked (text : List ℕ) (parts : List Part) (count : ℕ) (l : Line) (above j : ℕ) (lines : List ℕ) (r : Result ⊤ Refusal) : Type 0 where
  pub refusal : refusal_of r
      ≡ (refuse (is_malformed l.sort) 18 j
      else refuse (defines l.sort && ltb (own_line text l) above) 19 j
      else refuse (any_below (λ i. leb (reach_of l above count) (pin_line_of text parts l.first i)) l.pins) 20 j)
  pub pins : refusal_of r ≡ none → (i : ℕ) → i < l.pins → get_or lines i 0 ≡ pin_line_of text parts l.first i

-- a record: kind, pin count, mark, 0, and the lines that the pins name
unfoldable pub record_of : ℕ → ℕ → ℕ → List ℕ → List ℕ
record_of kind pins mark lines = kind ∷ pins ∷ mark ∷ 0 ∷ gather (λ i. bytes16 (cond (ltb i pins) (get_or lines i 0) 0)) 4
