use Rattle.std.proofs.Common.{◌≡◌, sym, ap, ◌∙◌, arith, not}
use Rattle.lists.specs.Scan.{any_below}
use Rattle.bench_text.specs.Text.{bytes_of}
use Rattle.bench_text.specs.Sentence.{kind_of, pin_tokens, is_pin, line_kind, is_line}
use Rattle.tokens.specs.Kept.{all_kept}
use Rattle.sentences.proofs.Laws.{token-kept, head-length}
use Rattle.sentences.proofs.Forms.{no_keyword}
use Rattle.sentences.proofs.kind_in.Goals.{After-token, After-are_pins, Then-is_head, else-is_head-via-then-is_head+else-are_pins, else-is_head-via-else-is_head}
use Rattle.sentences.proofs.kind_in.Goals as goal

-- the word is the third token's
word : (c : After-token) → line_kind c.args.text.now (all_kept c.args.parts.now) ≡ kind_of c.token.result.now
unfolding line_kind
word c =
    let third = token-kept c.args.text.now c.args.parts.now 2 (omega (arith, c.requires.1)) in
    ap kind_of (sym (c.token.ensures ∙ ap (bytes_of c.args.text.now) (sym third)))

-- what was asked of the pins
pinned : (c : After-are_pins) → c.are_pins.result ≡ not (any_below (λ i. not (is_pin c.args.text.now (all_kept c.args.parts.now) i)) (pin_tokens c.args.text.now (all_kept c.args.parts.now)))
pinned c = c.are_pins.ensures ∙ ap (λ n. not (any_below (λ i. not (is_pin c.args.text.now (all_kept c.args.parts.now) i)) n)) c.requires.2

pub returns-in_err-kind : goal.returns-in_err-kind
returns-in_err-kind c =
    rw c.from_residual.ensures (no_keyword c.args.text.now c.args.parts.now (word (goal.at.returns-in_err-kind c).After-token ∙ c.in_err-kind.ensures))

pub is_head-requires : goal.is_head-requires
is_head-requires c =
    let found = c.in_ok-kind.ensures in
    (c.requires.0, c.requires.1, c.requires.2, word (goal.at.is_head-requires c).After-token ∙ found.0, found.1)

pub are_pins-requires : goal.are_pins-requires
are_pins-requires c =
    let headed = sym c.is_head.ensures ∙ c.if-is_head.true in
    (c.requires.0, omega (arith, c.requires.2, head-length c.args.text.now c.args.parts.now headed), c.requires.2)

pub returns-then-are_pins : goal.returns-then-are_pins
unfolding is_line
returns-then-are_pins c =
    let d = goal.at.returns-then-are_pins c in
    let found = c.in_ok-kind.ensures in
    (rw (← c.is_head.ensures, c.if-is_head.true, ← pinned d.After-are_pins) c.if-are_pins.true, word d.After-token ∙ found.0, found.2)

pub returns-else-is_head : goal.returns-else-is_head
unfolding is_line
returns-else-is_head c =
    elim c.else-is_head.branch [
      | else-is_head-via-then-is_head+else-are_pins w ↦ rw (← c.is_head.ensures, w.if-is_head.true, ← c.requires.2, ← w.are_pins.ensures) w.if-are_pins.false
      | else-is_head-via-else-is_head w ↦ rw (← c.is_head.ensures, w.if-is_head.false)
    ]
