use Rattle.std.proofs.Common.{◌∙◌, ap, map}
use Rattle.std.specs.List.{list_all, list_any}
use Rattle.soda_ir.specs.Counts.{is_input_role, is_output_role}
use Rattle.soda_ir.specs.Program.{plain_tensor}
use Rattle.soda_ir.specs.Valid.{fills_burst, has_inputs_first}
use Rattle.soda_ir.proofs.Groups.{ends}
use Rattle.soda_ir.proofs.make.has_good_ends.Goals as goal

pub returns : goal.returns
returns c =
    ends c.args.parts.now c.has_inputs_first-inputs_first.result c.has_input-input.result c.has_output-output.result c.fill_burst-bursts.result
    (c.has_inputs_first-inputs_first.ensures ∙ ap (λ ts. has_inputs_first (map plain_tensor ts)) c.as_slice.ensures)
    (c.has_input-input.ensures ∙ ap (λ ts. list_any (λ t. is_input_role t.role) ts) c.as_slice-2.ensures)
    (c.has_output-output.ensures ∙ ap (λ ts. list_any (λ t. is_output_role t.role) ts) c.as_slice-3.ensures)
    (c.fill_burst-bursts.ensures ∙ ap (λ ts. list_all (λ t. fills_burst c.args.parts.now.burst (plain_tensor t)) ts) c.as_slice-4.ensures)
