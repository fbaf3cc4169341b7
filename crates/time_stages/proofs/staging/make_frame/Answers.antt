use Rattle.std.proofs.Common.{length, sym, ◌∙◌, ap, subst, arith}
use Rattle.std.proofs.lemmas.List.{length-map}
use Rattle.soda_ir.specs.declared.program.Parts.{Parts}
use Rattle.soda_ir.specs.Counts.{IsCountable, is_live}
use Rattle.soda_ir.specs.Points.{listed}
use Rattle.soda_ir.specs.Program.{outputs_of, plain, plain_tensor}
use Rattle.soda_ir.proofs.CallerLemmas.{countable}
use Rattle.time_stages.proofs.staging.make_frame.Goals as goal

pub output_numbers-requires : goal.output_numbers-requires
output_numbers-requires c =
    omega (arith, c.parts-parts.ensures.valid.sound.limits.few_tensors, length-map c.args.program.now.tensors plain_tensor, ap (λ (q : Parts). length q.tensors) c.parts-parts.ensures.value)

pub live_tensors-requires : goal.live_tensors-requires
live_tensors-requires c =
    subst (λ (q : Parts). IsCountable (plain q)) (sym c.parts-parts.ensures.value) (countable (plain c.args.program.now) c.parts-parts.ensures.valid.sound)

pub returns : goal.returns
returns c = record {
  order = c.from_vec-order.ensures ∙ c.in_ok-placing_order.ensures;
  outputs = c.from_vec-outputs.ensures ∙ c.in_ok-output_numbers.ensures ∙ ap (λ (q : Parts). outputs_of (plain q)) c.parts-parts.ensures.value;
  live = c.from_vec-live.ensures ∙ c.in_ok-live_tensors.ensures
      ∙ ap (λ (q : Parts). listed (λ later. listed (is_live (plain q) later) (length q.tensors)) (plain q).iterate) c.parts-parts.ensures.value
      ∙ ap (λ n. listed (λ later. listed (is_live (plain c.args.program.now) later) n) (plain c.args.program.now).iterate) (sym (length-map c.args.program.now.tensors plain_tensor));
}
