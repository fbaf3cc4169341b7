use Rattle.std.proofs.Common.{ap, ◌∙◌}
use Rattle.soda_ir.specs.declared.program.Parts.{Parts}
use Rattle.soda_ir.specs.Program.{extents_at, outputs_of, plain}
use Rattle.soda_run.proofs.iterations.make_plan.Goals as goal

pub returns : goal.returns
returns c = record {
  sound = c.parts-parts.ensures.valid.sound;
  extents = c.in_ok-extents.ensures ∙ ap (λ (q : Parts). extents_at (plain q) c.args.rows) c.parts-parts.ensures.value;
  order = c.from_vec-order.ensures ∙ c.in_ok-placing_order.ensures;
  outputs = c.from_vec-outputs.ensures ∙ c.in_ok-output_numbers.ensures ∙ ap (λ (q : Parts). outputs_of (plain q)) c.parts-parts.ensures.value;
}
