use Rattle.std.proofs.Common.{◌≡◌, ◌∙◌, ℕ, List, true, Some, Err, map, sym, ap, subst}
use Rattle.soda_ir.specs.declared.program.Param.{Param}
use Rattle.soda_ir.specs.declared.program.Parts.{Parts}
use Rattle.soda_ir.specs.Program.{plain, plain_param}
use Rattle.soda_eval.specs.Runs.{HasValues, place_types}
use Rattle.param_lines.specs.Lines.{rows_of}
use Rattle.std.proofs.lemmas.Result.{IfOk-weaker, err_from_is_err_and}
use Rattle.param_lines.specs.declared.line_fail.LineFail.TheVariants.{Line}
use Rattle.param_lines.specs.Params.{AreAllFine, IsFirstWrong, RefusesLine, joined, too_long, no_line, values_at, wrong_line}
use Rattle.param_lines.specs.pieces.Slots.{are_apart}
use Rattle.param_lines.proofs.Typed.{given_in_range, names_apart}
use Rattle.param_lines.proofs.reading.read_params.Goals as goal

pub returns-then-bytes-gt-MOST_PARAMS-clause-refused : goal.returns-then-bytes-gt-MOST_PARAMS-clause-refused
returns-then-bytes-gt-MOST_PARAMS-clause-refused c = λ line e.
    let P : ℕ → Type 0 = RefusesLine (map plain_param c.args.program.now.params) c.args.bytes.now in
    let zero_line : 0 ≡ line = cc in
    subst P zero_line (too_long c.if-bytes-gt-MOST_PARAMS.true)

pub read_slots-requires : goal.read_slots-requires
read_slots-requires c =
    let own : are_apart (map plain_param c.args.program.now.params) ≡ true = names_apart (map plain_param c.args.program.now.params) (map (λ t. t.name) (plain c.args.program.now).tensors) c.parts.ensures.valid.sound.parts.names in
    let same : c.as_slice.result.now ≡ c.args.program.now.params = c.as_slice.ensures ∙ ap (λ (p : Parts). p.params) c.parts.ensures.value in
    ap (λ (ps : List Param). are_apart (map plain_param ps)) same ∙ own

pub returns-in_err-slots-clause-refused : goal.returns-in_err-slots-clause-refused
returns-in_err-slots-clause-refused c = λ line e.
    let p = err_from_is_err_and c.from_residual.result c.from_residual.ensures.1 in
    let given : p.0 ≡ c.in_err-slots.field-0.0 = p.2 in
    let same : c.in_err-slots.field-0.0 ≡ Line line = cc in
    let wrong = c.in_err-slots.ensures.wrong line (ap (λ f. Err f) same) in
    let P : List Param → Type 0 = λ ps. IsFirstWrong (map plain_param ps) (rows_of c.args.bytes.now) line in
    let params : c.as_slice.result.now ≡ c.args.program.now.params = c.as_slice.ensures ∙ ap (λ (p : Parts). p.params) c.parts.ensures.value in
    wrong_line c.if-bytes-gt-MOST_PARAMS.false (subst P params wrong)

pub returns-clause-in_range : goal.returns-clause-in_range
returns-clause-in_range c =
    let ps = map plain_param c.args.program.now.params in
    let apart = names_apart ps (map (λ t. t.name) (plain c.args.program.now).tensors) c.parts.ensures.valid.sound.parts.names in
    let params : c.as_slice.result.now ≡ c.args.program.now.params = c.as_slice.ensures ∙ ap (λ (p : Parts). p.params) c.parts.ensures.value in
    let P : List Param → Type 0 = λ qs. AreAllFine (map plain_param qs) (rows_of c.args.bytes.now) in
    let fine : AreAllFine ps (rows_of c.args.bytes.now) = subst P params c.in_ok-slots.ensures.fine in
    let slots : c.as_slice-2.result.now ≡ map (values_at (rows_of c.args.bytes.now)) ps = c.as_slice-2.ensures.value ∙ (c.in_ok-slots.ensures.filled ∙ ap (λ (qs : List Param). map (values_at (rows_of c.args.bytes.now)) (map plain_param qs)) params) in
    IfOk-weaker c.join.result (λ v. Some v.items ≡ joined c.as_slice-2.result.now) (λ v. HasValues (place_types ps) v.items) (λ v e. given_in_range ps c.args.bytes.now v.items apart (record { short = c.if-bytes-gt-MOST_PARAMS.false; fine = fine; whole = sym (e ∙ ap joined slots) })) c.join.ensures.values

pub returns-clause-refused : goal.returns-clause-refused
returns-clause-refused c = λ line e.
    let ps = map plain_param c.args.program.now.params in
    let j = c.join.ensures.lacking line e in
    let params : c.as_slice.result.now ≡ c.args.program.now.params = c.as_slice.ensures ∙ ap (λ (p : Parts). p.params) c.parts.ensures.value in
    let P : List Param → Type 0 = λ qs. AreAllFine (map plain_param qs) (rows_of c.args.bytes.now) in
    let fine : AreAllFine ps (rows_of c.args.bytes.now) = subst P params c.in_ok-slots.ensures.fine in
    let slots : c.as_slice-2.result.now ≡ map (values_at (rows_of c.args.bytes.now)) ps = c.as_slice-2.ensures.value ∙ (c.in_ok-slots.ensures.filled ∙ ap (λ (qs : List Param). map (values_at (rows_of c.args.bytes.now)) (map plain_param qs)) params) in
    let R : ℕ → Type 0 = RefusesLine ps c.args.bytes.now in
    subst R (sym j.0) (no_line c.if-bytes-gt-MOST_PARAMS.false fine (sym (ap joined slots) ∙ j.1))
