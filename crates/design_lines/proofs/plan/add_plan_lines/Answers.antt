use Rattle.std.proofs.Common.{◌≡◌, ℕ, List, ◌++◌, codes, sym, ap, ◌∙◌}
use Rattle.std.proofs.lemmas.Result.{on_ok_weaker}
use Rattle.delay_net.specs.declared.net.Read.{Read}
use Rattle.delay_net.specs.Windows.{total_storage}
use Rattle.soda_ir.specs.Program.{plain}
use Rattle.time_stages.specs.Staged.{staged_reads, staged_widths}
use Rattle.design_lines.specs.PlanLines.{read_lines, tensor_lines, total_line}
use Rattle.design_lines.proofs.Written.{three_parts}
use Rattle.design_lines.proofs.plan.add_plan_lines.Goals as goal

pub returns : goal.returns
returns c =
    let p = plain c.args.program.now in
    let delays = c.args.delays.now in
    let bits : c.storage.result ≡ total_storage (staged_widths p) (staged_reads p) delays = c.storage.ensures
    ∙ ap (λ (ws : List ℕ). total_storage ws c.args.net.now.reads delays) c.requires.weights
    ∙ ap (λ (rs : List Read). total_storage (staged_widths p) rs delays) c.requires.reads in
    on_ok_weaker c.add_total.result
    (λ e. three_parts c.args.text.now.items c.add_tensors.new.text.items c.add_reads.new.text.items c.add_total.new.text.items _
    (tensor_lines p delays) (read_lines p delays c.args.flow.now.hold c.args.flow.now.need) c.in_ok-add_tensors.ensures c.in_ok-add_reads.ensures
    (e ∙ ap (λ n. c.add_reads.new.text.items ++ (total_line n ++ codes "\n")) bits)) c.add_total.ensures
