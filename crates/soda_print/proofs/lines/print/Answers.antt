use Rattle.std.proofs.Common.{◌++◌, ◌∙◌, ap, map}
use Rattle.soda_ir.specs.Program.{plain, plain_param, plain_tensor}
use Rattle.soda_print.specs.Canonical.{canonical, ended, param_line, tensor_line}
use Rattle.soda_print.proofs.Written.{whole}
use Rattle.soda_print.proofs.lines.print.Goals as goal

pub returns-clause-text : goal.returns-clause-text
returns-clause-text c =
    whole (plain c.parts-parts.result.now) c.new-text.result.items c.add_settings.new.text.items c.add_params.new.text.items
    c.add_tensors.new.text.items c.new-text.ensures.items c.in_ok-add_settings.ensures
    (c.in_ok-add_params.ensures.adds ∙ ap (λ qs. c.add_settings.new.text.items ++ ended (map param_line (map plain_param qs))) c.as_slice.ensures)
    (c.in_ok-add_tensors.ensures.adds
    ∙ ap (λ ts. c.add_params.new.text.items ++ ended (map (tensor_line (plain c.parts-parts.result.now)) (map plain_tensor ts))) c.as_slice-2.ensures)
    ∙ ap (λ q. canonical (plain q)) c.parts-parts.ensures.value
