use Rattle.std.proofs.Common.{sym, ◌∙◌, ap, map}
use Rattle.std.specs.List.{list_all}
use Rattle.std.proofs.lemmas.Bool.{false≢true}
use Rattle.soda_words.specs.Names.{is_name}
use Rattle.soda_ir.specs.Program.{plain_param, plain_tensor}
use Rattle.soda_ir.specs.Valid.{are_free_names, is_good_param, names_of}
use Rattle.soda_ir.proofs.Groups.{no_parts, parts}
use Rattle.soda_ir.proofs.make.has_good_parts.Goals as goal

pub returns-then-not-has_good_params : goal.returns-then-not-has_good_params
returns-then-not-has_good_params c =
    let given = c.has_good_params.ensures ∙ ap (λ qs. list_all (λ q. is_good_param (plain_param q)) qs) c.as_slice.ensures in
    (λ e. absurd (false≢true e), λ g. absurd (no_parts c.args.parts.now c.has_good_params.result given c.if-not-has_good_params.true g))

pub returns : goal.returns
returns c =
    parts c.args.parts.now c.is_name-kernel.result c.in_ok-names.names c.have_good_formulas-formulas.result
    (sym (c.has_good_params.ensures ∙ ap (λ qs. list_all (λ q. is_good_param (plain_param q)) qs) c.as_slice.ensures) ∙ c.if-not-has_good_params.false)
    (c.is_name-kernel.ensures ∙ ap is_name c.as_slice-2.ensures)
    (c.in_ok-names.ensures ∙ ap (λ qs. are_free_names (names_of (map plain_param qs) (map plain_tensor c.as_slice-4.result.now))) c.as_slice-3.ensures ∙ ap (λ ts. are_free_names (names_of (map plain_param c.args.parts.now.params) (map plain_tensor ts))) c.as_slice-4.ensures)
    c.have_good_formulas-formulas.ensures
