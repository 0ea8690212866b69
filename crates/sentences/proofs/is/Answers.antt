use mathlib.Core.Path.{sym, ap, ◌∙◌}
use Rattle.bench_text.specs.Text.{bytes_of, same}
use Rattle.bench_text.specs.Sentence.{is}
use Rattle.sentences.proofs.Laws.{token-kept}
use Rattle.sentences.proofs.is.Goals as goal

pub returns : goal.returns
unfolding is
returns c =
    let text = c.args.text.now in
    c.same.ensures
    ∙ ap (λ word. same word c.args.word.now) (c.token.ensures ∙ ap (bytes_of text) (sym (token-kept text c.args.parts.now c.args.i c.requires.1)))
