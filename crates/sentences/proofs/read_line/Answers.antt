use Rattle.std.proofs.Common.{◌≡◌, ◌≤◌, ◌-◌, ap, ◌∙◌, length, take, drop, arith, rules, length-take}
use Rattle.bench_text.specs.Text.{tokens, line_tokens}
use Rattle.bench_text.specs.Sentence.{sentence_from}
use Rattle.bench_text.proofs.Sentences.{many_malformed}
use Rattle.tokens.specs.Kept.{kept, all_kept}
use Rattle.tokens.proofs.Laws.{kept_take}
use Rattle.sentences.proofs.Laws.{tells-all}
use Rattle.sentences.proofs.Forms.{tells_none}
use Rattle.sentences.proofs.Ends.{place_within, next-line, line-within, content_part, tokens-kept}
use Rattle.sentences.proofs.read_line.Goals.{After-find-end, After-scan-count}
use Rattle.sentences.proofs.read_line.Goals as goal

-- the line ends within the text
ended : (c : After-find-end) → (c.args.at ≤ c.find-end.result) × (c.find-end.result ≤ length c.args.text.now)
ended c = (omega (arith, c.find-end.ensures), line-within c.args.text.now c.args.at _ c.requires.0 c.find-end.ensures)

pub find-to-requires : goal.find-to-requires
find-to-requires c = ended c

-- and its content within the line
pub scan-count-requires : goal.scan-count-requires
scan-count-requires c =
    let e = ended (goal.at.scan-count-requires c).After-find-end in
    let within = place_within c.args.text.now 35 c.args.at c.find-end.result e.0 e.1 in
    (omega (arith, c.find-to.ensures), omega (arith, within, c.find-to.ensures, e.1), c.requires.1)

pub overflow_add-end : goal.overflow_add-end
overflow_add-end c = let e = (ended (goal.at.overflow_add-end c).After-find-end).1 in search rules

pub overflow_add-end-2 : goal.overflow_add-end-2
overflow_add-end-2 c = let e = (ended (goal.at.overflow_add-end-2 c).After-find-end).1 in search rules

-- the tokens are the line's
scanned : (c : After-scan-count) → let s = c.args in
    tokens s.at 0 (take (c.find-to.result - s.at) (drop s.at s.text.now)) ≡ line_tokens s.text.now s.at
unfolding line_tokens
scanned c =
    ap (tokens c.args.at 0) (content_part c.args.text.now c.args.at c.find-end.result c.requires.0 c.find-end.ensures c.find-to.result c.find-to.ensures)

-- where they are few they are kept
all : (c : After-scan-count) → c.scan-count.result ≤ 12 → kept c.scan-count.new.parts c.scan-count.result ≡ line_tokens c.args.text.now c.args.at
all c few = c.scan-count.ensures.scans.all few ∙ scanned c

pub returns-then-count-gt12-clause-next : goal.returns-then-count-gt12-clause-next
returns-then-count-gt12-clause-next c =
    ap (λ l. l.next) c.without.ensures ∙ next-line c.args.text.now c.args.at _ c.requires.0 c.find-end.ensures

pub returns-then-count-gt12-clause-tells : goal.returns-then-count-gt12-clause-tells
unfolding sentence_from
returns-then-count-gt12-clause-tells c =
    let d = (goal.at.returns-then-count-gt12-clause-tells c).After-scan-count in
    let text = c.args.text.now in
    tells_none _ _ _ _ _ (λ k e. absurd (cc)) c.without.ensures (many_malformed text (line_tokens text c.args.at) (rw (← scanned d) (c.scan-count.ensures.scans.more c.if-count-gt12.true)))

-- those that are kept are lent
lent : (c : After-scan-count) → c.scan-count.result ≤ 12 → all_kept (take c.scan-count.result c.scan-count.new.parts) ≡ line_tokens c.args.text.now c.args.at
lent c few = kept_take c.scan-count.new.parts c.scan-count.result (omega (arith, few, c.scan-count.ensures.room)) ∙ all c few

pub told-requires : goal.told-requires
told-requires c =
    let few : c.scan-count.result ≤ 12 = omega (arith, c.if-count-gt12.false) in
    tokens-kept c.args.text.now c.args.at _ (omega (arith, few, length-take c.scan-count.result c.scan-count.new.parts)) (lent (goal.at.told-requires c).After-scan-count few)

pub returns-clause-next : goal.returns-clause-next
returns-clause-next c = c.told.ensures.next ∙ next-line c.args.text.now c.args.at _ c.requires.0 c.find-end.ensures

pub returns-clause-tells : goal.returns-clause-tells
unfolding sentence_from
returns-clause-tells c =
    let few : c.scan-count.result ≤ 12 = omega (arith, c.if-count-gt12.false) in
    let tells = rw (lent (goal.at.returns-clause-tells c).After-scan-count few) at c.told.ensures.tells in
    tells-all c.scan-count.new.parts c.scan-count.result _ _ (omega (arith, c.told.ensures.kept, length-take c.scan-count.result c.scan-count.new.parts)) tells
