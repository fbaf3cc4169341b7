use Rattle.std.proofs.Common.{ap, sym, ◌∙◌}
use Rattle.std.specs.Prelude.{position, slice_get}
use Rattle.soda_words.specs.Names.{is_word}
use Rattle.soda_checks.proofs.Listed.{got, named, unnamed}
use Rattle.soda_checks.proofs.places.param_of.Goals as goal

pub returns-in-Some : goal.returns-in-Some
returns-in-Some c =
    let names = c.args.names.now.params in
    let at = c.place.ensures ∙ ap (λ t. position (is_word t) names) c.as_slice.ensures in
    let there = named (λ q. q.name.text) c.args.word.now.text c.args.outline.now.params names c.in-Some.place (ap (λ n. n.params) c.requires)
    (sym at ∙ c.in-Some.is) in
    got c.as_slice-in-Some.result.now c.in-Some.place c.get.result c.get.ensures.lookup.0 c.get.ensures.lookup.1
    ∙ (ap (λ qs. slice_get qs c.in-Some.place) c.as_slice-in-Some.ensures ∙ sym there)

pub returns-in-None : goal.returns-in-None
returns-in-None c =
    let names = c.args.names.now.params in
    let at = c.place.ensures ∙ ap (λ t. position (is_word t) names) c.as_slice.ensures in
    sym (unnamed (λ q. q.name.text) c.args.word.now.text c.args.outline.now.params names (ap (λ n. n.params) c.requires) (sym at ∙ c.in-None.is))
