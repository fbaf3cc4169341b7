use Rattle.std.proofs.Common.{◌≡◌, ◌<◌, ℕ, ℤ, List, ◌∙◌, ap, length, slice_index_or, suc}
use Rattle.soda_ir.specs.declared.program.Parts.{Parts}
use Rattle.soda_ir.specs.Program.{plain}
use Rattle.soda_eval.specs.Runs.{defined_arrays}
use Rattle.share_shape.specs.Compounds.{Site, sites}
use Rattle.share_shape.specs.Procedure.{shared}
use Rattle.share_shape.specs.Shifts.{IsShiftEqual}
use Rattle.share_expr.proofs.Passed.{if_made, shared_countable, still_arrays, still_none, still_valid}
use Rattle.share_expr.proofs.sharing.share.Goals as goal

pub limit_passed-requires : goal.limit_passed-requires
limit_passed-requires c =
    shared_countable (plain c.args.program.now) (plain c.in-Ok.parts) c.parts.ensures.valid (c.in-Ok.ensures ∙ ap (λ (p : Parts). shared (plain p)) c.parts.ensures.value)

pub made-requires : goal.made-requires
made-requires c =
    let none = rw c.in-Ok-None.field-0-is at c.in-Ok-None.ensures in
    still_valid (plain c.args.program.now) (plain c.in-Ok.parts) c.parts.ensures.valid (c.in-Ok.ensures ∙ ap (λ (p : Parts). shared (plain p)) c.parts.ensures.value) none

pub returns-in-Ok-None-clause-arrays : goal.returns-in-Ok-None-clause-arrays
returns-in-Ok-None-clause-arrays c =
    let e : plain c.in-Ok.parts ≡ shared (plain c.args.program.now) = c.in-Ok.ensures ∙ ap (λ (p : Parts). shared (plain p)) c.parts.ensures.value in
    if_made c.made.result c.in-Ok.parts (λ (made : Parts). (rows : ℕ) (params : List ℤ) (inputs : List (List ℤ)) → defined_arrays (plain made) rows params inputs ≡ defined_arrays (plain c.args.program.now) rows params inputs) c.made.ensures.made
    (λ rows params inputs. still_arrays (plain c.args.program.now) (plain c.in-Ok.parts) c.parts.ensures.valid e rows params inputs)

pub returns-in-Ok-None-clause-none_left : goal.returns-in-Ok-None-clause-none_left
returns-in-Ok-None-clause-none_left c =
    let e : plain c.in-Ok.parts ≡ shared (plain c.args.program.now) = c.in-Ok.ensures ∙ ap (λ (p : Parts). shared (plain p)) c.parts.ensures.value in
    if_made c.made.result c.in-Ok.parts (λ (made : Parts). (s : Site) (i j : ℕ) → i < j → j < length (sites (plain made))
    → IsShiftEqual (suc (length made.extents)) (slice_index_or (sites (plain made)) i s).compound (slice_index_or (sites (plain made)) j s).compound → ⊥) c.made.ensures.made
    (λ s i j h l. still_none (plain c.args.program.now) (plain c.in-Ok.parts) c.parts.ensures.valid e s i j h l)
