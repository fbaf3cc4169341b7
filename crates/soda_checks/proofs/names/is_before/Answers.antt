use Rattle.std.proofs.Common.{ap, sym, ◌∙◌}
use Rattle.std.specs.Prelude.{position}
use Rattle.soda_words.specs.Names.{is_word}
use Rattle.soda_checks.proofs.Listed.{before_at, before_none}
use Rattle.soda_checks.proofs.names.is_before.Goals as goal

pub returns-in-Some : goal.returns-in-Some
returns-in-Some c =
    let at = c.place.ensures ∙ ap (λ t. position (is_word t) c.args.names.now) c.as_slice.ensures in
    before_at c.args.count c.args.words.now c.args.word.now c.args.names.now c.requires c.in-Some.place (sym at ∙ c.in-Some.is)

pub returns-in-None : goal.returns-in-None
returns-in-None c =
    let at = c.place.ensures ∙ ap (λ t. position (is_word t) c.args.names.now) c.as_slice.ensures in
    before_none c.args.count c.args.words.now c.args.word.now c.args.names.now c.requires (sym at ∙ c.in-None.is)
