-- What a text line says: the four forms. A text line that defines no circuit line has a sort above 9, the highest kind.
use Rattle.std.specs.Prelude.{ℕ, suc, ◌+◌, ◌*◌, ◌-◌, ◌/◌, Bool, cond, not, ◌&&◌, List, [], ◌∷◌, get_or, length, eqb, leb}
use Rattle.lists.specs.Scan.{any_below, tabulate}
use Rattle.model.specs.Refusals.{pins_fit}
use Rattle.bench_text.specs.Text.{Part, bytes_of, same, is_name_byte, line_start, line_tokens}

-- The sort is the kind of the line that is defined, 0 to 9, with the name that it is given there; or one of the three below, with no name.
-- `pins` are the names in the parentheses of a flip-flop, of a gate, or of OUTPUT.
pub record Sentence : Type 0 where
  pub sort : ℕ
  pub name : Part
  pub pins : List Part

-- `OUTPUT(a)`
abbrev pub OUTPUT : ℕ
OUTPUT = 10

-- nothing but spaces and a comment
abbrev pub NOTHING : ℕ
NOTHING = 11

-- none of these forms
abbrev pub MALFORMED : ℕ
MALFORMED = 12

abbrev pub no_part : Part
no_part = record { at = 0; size = 0 }

-- `INPUT` and `OUTPUT`
abbrev pub input_word : List ℕ
input_word = 73 ∷ 78 ∷ 80 ∷ 85 ∷ 84 ∷ []

abbrev pub output_word : List ℕ
output_word = 79 ∷ 85 ∷ 84 ∷ 80 ∷ 85 ∷ 84 ∷ []

-- the keywords by kind, from kind 1 on: DFF, BUFF, NOT, AND, NAND, OR, NOR, XOR, XNOR
abbrev pub keywords : List (List ℕ)
keywords =
    (68 ∷ 70 ∷ 70 ∷ [])
    ∷ (66 ∷ 85 ∷ 70 ∷ 70 ∷ [])
    ∷ (78 ∷ 79 ∷ 84 ∷ [])
    ∷ (65 ∷ 78 ∷ 68 ∷ [])
    ∷ (78 ∷ 65 ∷ 78 ∷ 68 ∷ [])
    ∷ (79 ∷ 82 ∷ [])
    ∷ (78 ∷ 79 ∷ 82 ∷ [])
    ∷ (88 ∷ 79 ∷ 82 ∷ [])
    ∷ (88 ∷ 78 ∷ 79 ∷ 82 ∷ [])
    ∷ []

-- the kind of a word, where the first of these keywords is that of kind k; 0 where it is none of them
unfoldable pub kind_from : ℕ → List (List ℕ) → List ℕ → ℕ
kind_from k [] word = 0
kind_from k (w ∷ ws) word = cond (same word w) k (kind_from (suc k) ws word)

unfoldable pub kind_of : List ℕ → ℕ
kind_of word = kind_from 1 keywords word

-- Of the tokens of a text line.
module _ (text : List ℕ) (ts : List Part) where
  unfoldable pub token : ℕ → Part
  token i = get_or ts i no_part

  -- token i is this word or byte
  unfoldable pub is : ℕ → List ℕ → Bool
  is i word = same (bytes_of text (token i)) word

  -- Names are 1 to 32 letters, digits or underscores: what kind of token it is, its first byte tells.
  unfoldable pub is_name : ℕ → Bool
  is_name i = is_name_byte (get_or text (token i).at 0) && leb (token i).size 32

  -- `INPUT(a)` or `OUTPUT(a)`: the word, `(` (byte 40), a name and `)` (byte 41)
  unfoldable pub is_call : List ℕ → Bool
  is_call word = eqb (length ts) 4 && is 0 word && is 1 (40 ∷ []) && is_name 2 && is 3 (41 ∷ [])

  -- how many names there is room for in `a = NAND(b, c)`
  unfoldable pub pin_tokens : ℕ
  pin_tokens = (length ts - 4) / 2

  -- pin i + 1 is a name, with `,` (byte 44) behind it, or `)` behind the last
  unfoldable pub is_pin : ℕ → Bool
  is_pin i = is_name (4 + 2 * i) && is (5 + 2 * i) (cond (eqb (suc i) pin_tokens) 41 44 ∷ [])

  -- the kind of `a = NAND(b, c)`
  unfoldable pub line_kind : ℕ
  line_kind = kind_of (bytes_of text (token 2))

  -- the tokens around the pins: a name, `=` (byte 61), a keyword and `(`. A gate with a pin count that document 01 does not allow is of none
  -- of these forms.
  unfoldable pub is_head : Bool
  is_head = eqb (length ts) (4 + 2 * pin_tokens) && is_name 0 && is 1 (61 ∷ []) && is 3 (40 ∷ []) && leb 1 line_kind && pins_fit line_kind pin_tokens

  -- `a = DFF(b)` or `a = NAND(b, c)`
  unfoldable pub is_line : Bool
  is_line = is_head && not (any_below (λ i. not (is_pin i)) pin_tokens)

  -- what these tokens say if they are of one of the last two forms
  unfoldable pub gate_sentence : Sentence
  gate_sentence =
      cond is_line (record { sort = line_kind; name = token 0; pins = tabulate (λ i. token (4 + 2 * i)) 0 pin_tokens })
      (record { sort = MALFORMED; name = no_part; pins = [] })

  -- what the text line says
  unfoldable pub sentence : Sentence
  sentence =
      cond (eqb (length ts) 0) (record { sort = NOTHING; name = no_part; pins = [] })
      (cond (is_call input_word) (record { sort = 0; name = token 2; pins = [] })
      (cond (is_call output_word) (record { sort = OUTPUT; name = no_part; pins = token 2 ∷ [] })
      gate_sentence))

-- what the text line that begins here says
unfoldable pub sentence_from : List ℕ → ℕ → Sentence
sentence_from text at = sentence text (line_tokens text at)

-- what text line j says
unfoldable pub sentence_at : List ℕ → ℕ → Sentence
sentence_at text j = sentence_from text (line_start text j)
