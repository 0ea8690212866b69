use Rattle.std.proofs.Common.{◌≡◌, Bool, true, false, ◌||◌, refl, sym, ap, ◌∙◌, eqb}
use Rattle.bench_text.specs.Text.{is_name_byte}
use Rattle.tokens.proofs.is_name_byte.Goals as goal

-- a digit or a capital or a small letter, or an underscore, in the order of the definition
in_order : (digit capital small underscore : Bool) → ((digit || capital) || small) || underscore ≡ digit || (capital || (underscore || small))
in_order true capital small underscore = refl
in_order false true small underscore = refl
in_order false false true true = refl
in_order false false true false = refl
in_order false false false true = refl
in_order false false false false = refl

pub returns-then-is_ascii_alphanumeric : goal.returns-then-is_ascii_alphanumeric
unfolding is_name_byte
returns-then-is_ascii_alphanumeric c =
    let is = c.if-is_ascii_alphanumeric.true in
    is ∙ ap (λ t. t || eqb c.args.b 95) (sym is ∙ c.is_ascii_alphanumeric.ensures.value) ∙ in_order _ _ _ (eqb c.args.b 95)

pub returns-else-is_ascii_alphanumeric : goal.returns-else-is_ascii_alphanumeric
unfolding is_name_byte
returns-else-is_ascii_alphanumeric c =
    ap (λ t. t || eqb c.args.b 95) (sym c.if-is_ascii_alphanumeric.false ∙ c.is_ascii_alphanumeric.ensures.value) ∙ in_order _ _ _ (eqb c.args.b 95)
