use Rattle.std.proofs.Common.{◌≡◌, ℕ, ◌<◌, List, length, slice_index_or, sym, ◌∙◌, ap, subst, arith, ◌*◌, ◌^◌, suc}
use Rattle.std.proofs.lemmas.List.{length-map}
use Rattle.soda_ir.specs.Program.{outputs_of, plain, plain_tensor}
use Rattle.time_stages.specs.Margins.{dims_of, no_margins}
use Rattle.time_stages.proofs.CallerLemmas.{most_margins}
use Rattle.time_stages.proofs.OutputNumbers.{outputs_below}
use Rattle.time_stages.proofs.Sequence.{handed_from, handed_margins, made_many, next_made}
use Rattle.time_stages.proofs.iterations.next_margins.Goals as goal

pub next_inputs-requires : goal.next_inputs-requires
next_inputs-requires c =
    let p = plain c.args.program.now in
    let numbers : c.args.outputs.now ≡ outputs_of p = c.requires.outputs in
    let many = made_many p c.requires.sound c.requires.made.0 c.args.margins.now c.requires.made.2 in
    subst (λ (xs : List ℕ). (j : ℕ) → j < length xs → slice_index_or xs j 0 < length c.args.margins.now) (sym numbers) (λ j l. omega (arith, outputs_below p j l, many))

pub margins_over-requires-clause-inputs : goal.margins_over-requires-clause-inputs
margins_over-requires-clause-inputs c = λ j.
    let p = plain c.args.program.now in
    let sound = c.requires.sound in
    let m = c.requires.made.2 in
    let t = c.requires.made.0 in
    let e = handed_from p sound t c.args.margins.now m (plain c.parts.result.now) c.args.outputs.now c.deref.result.now (c.deref.ensures.value ∙ c.in_ok-inputs.ensures) (ap plain c.parts.ensures.value) c.requires.outputs in
    most_margins (dims_of p) (suc t * 2 ^ 24) 549755813888 (slice_index_or c.deref.result.now j (no_margins (dims_of p))) (omega (arith, c.requires.made.1, sound.limits.few_iterations)) (handed_margins p sound t c.args.margins.now m c.deref.result.now j e)

pub returns : goal.returns
returns c = λ t m.
    let p = plain c.args.program.now in
    let sound = c.requires.sound in
    let e = handed_from p sound t c.args.margins.now m (plain c.parts.result.now) c.args.outputs.now c.deref.result.now (c.deref.ensures.value ∙ c.in_ok-inputs.ensures) (ap plain c.parts.ensures.value) c.requires.outputs in
    next_made p sound t c.args.margins.now m (length c.args.program.now.tensors) c.deref.result.now c.in_ok-next.next.items (λ z. omega (arith, c.requires.made.1)) e (sym (length-map c.args.program.now.tensors plain_tensor)) c.in_ok-next.ensures.value (c.in_ok-next.ensures.most (suc t * 2 ^ 24) (λ j. handed_margins p sound t c.args.margins.now m c.deref.result.now j e))
