use Rattle.std.proofs.Common.{ap, ◌∙◌, ℕ}
use Rattle.std.specs.Prelude.{find, option_map}
use Rattle.soda_checks.specs.Conditions.{first_tile, has_wrong_dims, site_line, wrong_dims_beside}
use Rattle.soda_checks.proofs.places.wrong_dims.Goals as goal

pub returns-in-Some : goal.returns-in-Some
returns-in-Some c =
    let o = c.args.outline.now in
    let tile = c.in-Some.ensures ∙ ap first_tile c.as_slice.ensures in
    c.wrong_dims_at.ensures ∙ (ap (λ (n : ℕ). option_map site_line (find (has_wrong_dims o n) o.sites)) c.len.ensures ∙ ap (wrong_dims_beside o) tile)
