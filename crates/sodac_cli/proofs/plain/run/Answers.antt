use Rattle.std.proofs.Common.{◌<◌, ◌≤◌, ℕ, All, List, ℤ, sym, ap, subst, ◌∙◌}
use Rattle.soda_words.specs.Limits.{most_cells}
use Rattle.soda_ir.specs.Program.{input_types, plain}
use Rattle.soda_ir.specs.Valid.{output_types}
use Rattle.soda_eval.specs.Runs.{HasArrays, cells_at, defined_arrays}
use Rattle.job_arrays.specs.declared.layout.Layout.{Layout}
use Rattle.command_words.specs.Orders.{asked}
use Rattle.job_status.specs.Counts.{FileFaults}
use Rattle.sodac_cli.proofs.Numbers.{to_read, to_write}
use Rattle.sodac_cli.proofs.Written.{unwritten_memory}
use Rattle.sodac_cli.proofs.plain.run.Goals as goal

pub gather-requires-clause-small : goal.gather-requires-clause-small
gather-requires-clause-small g c =
    let P : Layout → Type 0 = λ l. l.cells ≤ most_cells in subst P (sym c.layout_of-layout.ensures.layout) c.requires.small

pub gather-requires-clause-burst : goal.gather-requires-clause-burst
gather-requires-clause-burst g c = ap (λ (l : Layout). l.burst) c.layout_of-layout.ensures.layout

pub gather-requires-clause-ready : goal.gather-requires-clause-ready
gather-requires-clause-ready g c = λ told.
    let a = asked c.args.order.now in
    let r = c.requires.ready told in
    (r.0, r.1, a, c.args.values.now, to_read r.0 r.1 a (plain c.args.program.now) c.args.values.now _ c.layout_of-layout.ensures.layout _ _ _ _ r.2)

pub evaluate-requires-clause-small : goal.evaluate-requires-clause-small
evaluate-requires-clause-small g c =
    let P : ℕ → Type 0 = λ n. cells_at (plain c.args.program.now) n ≤ most_cells in subst P (sym c.unwrap_or.ensures) c.requires.small

pub evaluate-requires-clause-inputs : goal.evaluate-requires-clause-inputs
evaluate-requires-clause-inputs g c =
    let p = plain c.args.program.now in
    let P : ℕ → Type 0 = λ n. HasArrays n (input_types p.tensors) c.in-Ok.arrays.items in
    subst P (ap (λ (l : Layout). l.cells) c.layout_of-layout.ensures.layout ∙ ap (cells_at p) (sym c.unwrap_or.ensures)) c.in-Ok.ensures.arrays

pub deliver-status-requires-clause-given : goal.deliver-status-requires-clause-given
deliver-status-requires-clause-given g c =
    let P : ℕ → Type 0 = λ n. All (λ id. id < n) c.args.outputs.now in subst P (sym c.in-Ok.ensures.given) c.requires.outputs_given

pub deliver-status-requires-clause-small : goal.deliver-status-requires-clause-small
deliver-status-requires-clause-small g c =
    let P : Layout → Type 0 = λ l. l.cells ≤ most_cells in subst P (sym c.layout_of-layout.ensures.layout) c.requires.small

pub deliver-status-requires-clause-burst : goal.deliver-status-requires-clause-burst
deliver-status-requires-clause-burst g c = ap (λ (l : Layout). l.burst) c.layout_of-layout.ensures.layout

pub deliver-status-requires-clause-arrays : goal.deliver-status-requires-clause-arrays
deliver-status-requires-clause-arrays g c =
    let p = plain c.args.program.now in
    let P : ℕ → Type 0 = λ n. HasArrays n (output_types p.tensors) c.in-Ok-evaluate.arrays.items in
    let Q : List (List ℤ) → Type 0 = λ xs. HasArrays c.layout_of-layout.result.cells (output_types p.tensors) xs in
    subst Q (sym c.as_slice.ensures.value)
    (subst P (ap (cells_at p) c.unwrap_or.ensures ∙ sym (ap (λ (l : Layout). l.cells) c.layout_of-layout.ensures.layout)) c.in-Ok-evaluate.ensures.in_range)

pub deliver-status-requires-clause-ready : goal.deliver-status-requires-clause-ready
deliver-status-requires-clause-ready g c = λ told.
    let a = asked c.args.order.now in
    let p = plain c.args.program.now in
    let r = c.requires.ready told in
    let read = to_read r.0 r.1 a p c.args.values.now _ c.layout_of-layout.ensures.layout _ _ _ _ r.2 in
    let w = c.in-Ok.ensures.goes told r.0 r.1 a c.args.values.now read in
    let made = c.as_slice.ensures.value ∙ c.in-Ok-evaluate.ensures.defined
    ∙ ap (λ (n : ℕ). defined_arrays p n c.args.values.now c.in-Ok.arrays.items) c.unwrap_or.ensures in
    (r.0, r.1, a, c.args.values.now, c.in-Ok.arrays.items, to_write r.0 r.1 a p c.args.values.now _ c.layout_of-layout.ensures.layout _ _ _ _ r.2 _ _ _ w _ made)

pub returns-in-Err-clause-runs : goal.returns-in-Err-clause-runs
returns-in-Err-clause-runs g c = λ told first begun r.
    let a = asked c.args.order.now in
    let p = plain c.args.program.now in
    c.in-Err.ensures.ends told first begun a c.args.values.now
    (to_read first begun a p c.args.values.now _ c.layout_of-layout.ensures.layout _ _ _ _ r)

pub returns-in-Ok-evaluate-clause-runs : goal.returns-in-Ok-evaluate-clause-runs
returns-in-Ok-evaluate-clause-runs g c = λ told first begun r.
    let a = asked c.args.order.now in
    let p = plain c.args.program.now in
    let read = to_read first begun a p c.args.values.now _ c.layout_of-layout.ensures.layout _ _ _ _ r in
    let w = c.in-Ok.ensures.goes told first begun a c.args.values.now read in
    let made = c.as_slice.ensures.value ∙ c.in-Ok-evaluate.ensures.defined
    ∙ ap (λ (n : ℕ). defined_arrays p n c.args.values.now c.in-Ok.arrays.items) c.unwrap_or.ensures in
    c.deliver-status.ensures.runs told first begun a c.args.values.now c.in-Ok.arrays.items
    (to_write first begun a p c.args.values.now _ c.layout_of-layout.ensures.layout _ _ _ _ r _ _ _ w _ made)

pub returns-in-Ok-evaluate-clause-faults : goal.returns-in-Ok-evaluate-clause-faults
returns-in-Ok-evaluate-clause-faults g c =
    let P : ℕ → Type 0 = λ n. FileFaults n (g.F.Files.faults c.deliver-status.new.files) c.deliver-status.result in
    subst P c.in-Ok.ensures.kept c.deliver-status.ensures.faults

pub returns-in-Err-evaluate-clause-runs : goal.returns-in-Err-evaluate-clause-runs
returns-in-Err-evaluate-clause-runs g c = λ told first begun r.
    let a = asked c.args.order.now in
    let p = plain c.args.program.now in
    let read = to_read first begun a p c.args.values.now _ c.layout_of-layout.ensures.layout _ _ _ _ r in
    unwritten_memory first begun a p c.args.values.now _ _ _ (c.in-Ok.ensures.goes told first begun a c.args.values.now read)
