use Rattle.std.proofs.Common.{ℕ, List, Bor, length, ap, subst, ◌∙◌, arith}
use Rattle.std.proofs.lemmas.List.{length-map}
use Rattle.soda_ir.specs.Program.{plain}
use Rattle.command_words.specs.Orders.{asked}
use Rattle.job_status.specs.Counts.{FileFaults}
use Rattle.sodac_cli.proofs.Numbers.{front_length, given_below, given_length, made_ready, rest_length}
use Rattle.sodac_cli.proofs.Ready.{inputs_named, outputs_named}
use Rattle.sodac_cli.proofs.plain.with_params.Goals as goal

pub split_at-requires : goal.split_at-requires
split_at-requires g c =
    omega (
      arith,
      c.requires.pass.count,
      c.input_count.ensures,
      ap length c.as_slice.ensures.value,
      length-map c.args.order.now.names.items (λ (n : Bor (List ℕ)). n.now),
    )

pub run-status-requires-clause-inputs : goal.run-status-requires-clause-inputs
run-status-requires-clause-inputs g c =
    let a = asked c.args.order.now in
    let p = plain c.args.program.now in
    let ins = inputs_named _ _ c.as_slice.ensures.value _ _ c.input_count.ensures _ c.split_at.ensures.front in
    ap length c.deref.ensures.value ∙ given_length _ _ _ c.in-Ok.ensures.inputs ∙ front_length a p c.requires.pass.count _ ins

pub run-status-requires-clause-outputs : goal.run-status-requires-clause-outputs
run-status-requires-clause-outputs g c =
    let a = asked c.args.order.now in
    let p = plain c.args.program.now in
    let outs = outputs_named _ _ c.as_slice.ensures.value _ _ c.input_count.ensures _ c.split_at.ensures.back in
    ap length c.deref-in-Ok.ensures.value ∙ given_length _ _ _ c.in-Ok.ensures.outputs ∙ rest_length a p c.requires.pass.count _ outs

pub run-status-requires-clause-inputs_given : goal.run-status-requires-clause-inputs_given
run-status-requires-clause-inputs_given g c =
    given_below _ _ _ _ (c.deref.ensures.value ∙ c.in-Ok.ensures.inputs) (omega (arith, c.in-Ok.ensures.given))

pub run-status-requires-clause-outputs_given : goal.run-status-requires-clause-outputs_given
run-status-requires-clause-outputs_given g c =
    given_below _ _ _ _ (c.deref-in-Ok.ensures.value ∙ c.in-Ok.ensures.outputs) (omega (arith, c.in-Ok.ensures.given))

pub run-status-requires-clause-ready : goal.run-status-requires-clause-ready
run-status-requires-clause-ready g c = λ told.
    let a = asked c.args.order.now in
    let p = plain c.args.program.now in
    let s = c.requires.settled told in
    let ins = inputs_named _ _ c.as_slice.ensures.value _ _ c.input_count.ensures _ c.split_at.ensures.front in
    let outs = outputs_named _ _ c.as_slice.ensures.value _ _ c.input_count.ensures _ c.split_at.ensures.back in (
      s.0,
      s.1,
      made_ready s.0 s.1 a p c.args.values.now _ _ s.2 _ _ _ _ (c.deref.ensures.value ∙ c.in-Ok.ensures.inputs) (c.deref-in-Ok.ensures.value ∙ c.in-Ok.ensures.outputs)
          (front_length a p c.requires.pass.count _ ins) (rest_length a p c.requires.pass.count _ outs) _ _
          (c.in-Ok.ensures.goes told s.0 s.1 a p c.args.values.now ins outs s.2),
    )

pub returns-in-Ok-clause-runs : goal.returns-in-Ok-clause-runs
returns-in-Ok-clause-runs g c = λ told first begun s.
    let a = asked c.args.order.now in
    let p = plain c.args.program.now in
    let ins = inputs_named _ _ c.as_slice.ensures.value _ _ c.input_count.ensures _ c.split_at.ensures.front in
    let outs = outputs_named _ _ c.as_slice.ensures.value _ _ c.input_count.ensures _ c.split_at.ensures.back in
    c.run-status.ensures.runs told first begun
    (made_ready first begun a p c.args.values.now _ _ s _ _ _ _ (c.deref.ensures.value ∙ c.in-Ok.ensures.inputs) (c.deref-in-Ok.ensures.value ∙ c.in-Ok.ensures.outputs)
    (front_length a p c.requires.pass.count _ ins) (rest_length a p c.requires.pass.count _ outs) _ _
    (c.in-Ok.ensures.goes told first begun a p c.args.values.now ins outs s))

pub returns-in-Ok-clause-faults : goal.returns-in-Ok-clause-faults
returns-in-Ok-clause-faults g c =
    let P : ℕ → Type 0 = λ n. FileFaults n (g.F.Files.faults c.run-status.new.files) c.run-status.result in
    subst P c.in-Ok.ensures.kept c.run-status.ensures.faults

pub returns-in-Err-clause-runs : goal.returns-in-Err-clause-runs
returns-in-Err-clause-runs g c = λ told first begun s.
    let ins = inputs_named _ _ c.as_slice.ensures.value _ _ c.input_count.ensures _ c.split_at.ensures.front in
    let outs = outputs_named _ _ c.as_slice.ensures.value _ _ c.input_count.ensures _ c.split_at.ensures.back in
    c.in-Err.ensures.ends told first begun (asked c.args.order.now) (plain c.args.program.now) c.args.values.now ins outs s
