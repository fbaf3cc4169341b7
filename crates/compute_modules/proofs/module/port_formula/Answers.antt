use Rattle.std.proofs.Common.{◌≡◌, List, ℤ, map, ◌∙◌, ap, subst, Vec, Global}
use Rattle.int_types.specs.Ranges.{wrapped}
use Rattle.soda_ir.specs.Counts.{formula_in}
use Rattle.soda_ir.specs.Program.{plain}
use Rattle.soda_eval.specs.Runs.{scope_of}
use Rattle.time_stages.specs.Staged.{type_of}
use Rattle.lane_code.specs.declared.code.CellRead.{CellRead}
use Rattle.lane_code.specs.Reads.{plain_read}
use Rattle.formula_code.specs.Codes.{IsCodeOf}
use Rattle.formula_code.specs.declared.code.Code.{Code}
use Rattle.staged_cells.specs.Cells.{inner_cell}
use Rattle.staged_cells.specs.Sends.{wrapped_ports}
use Rattle.compute_modules.specs.declared.formula.PortFormula.{PortFormula}
use Rattle.compute_modules.specs.declared.tap.Tap.{Tap}
use Rattle.compute_modules.specs.pieces.Formulas.{code_value}
use Rattle.compute_modules.specs.pieces.Taps.{read_tap}
use Rattle.compute_modules.proofs.Formulas.{has_formula, inner_is}
use Rattle.compute_modules.proofs.Modules.{code_is, code_there, ok_both}
use Rattle.compute_modules.proofs.module.port_formula.Goals as goal

pub new-requires : goal.new-requires
new-requires c =
    let p = plain c.args.program.now in
    let s = c.args.stage.now in
    let sound = c.parts.ensures.valid.sound in
    let f = c.formulas_read_ports.ensures.formula p c.args.number s sound c.requires.tensor c.requires.local in
    let is = code_is (scope_of p) c.args.params.now (formula_in p s.tensor) f.0 c.in-Ok-Some.code f.1
    (subst (IsCodeOf (scope_of p) c.args.params.now (formula_in p s.tensor)) c.in-Ok-Some.field-0-is c.in-Ok-Some.ensures) in
    has_formula p c.args.params.now c.args.number s f.0 f.1
    (λ cells h. c.formulas_are_readable.ensures p s.tensor f.0 cells c.args.params.now sound f.1 c.requires.params h) c.in-Ok-Some.code c.in-Ok.taps.items is
    (c.in-Ok.ensures ∙ ap (λ (rs : List CellRead). map (λ (r : CellRead). read_tap p c.args.number s.turn (plain_read r)) rs) c.as_slice-reads.ensures)

pub unreachable-requires : goal.unreachable-requires
unreachable-requires c =
    let p = plain c.args.program.now in
    let s = c.args.stage.now in
    let f = c.formulas_read_ports.ensures.formula p c.args.number s c.parts.ensures.valid.sound c.requires.tensor c.requires.local in
    code_there (scope_of p) c.args.params.now (formula_in p s.tensor) f.0 f.1
    (subst (IsCodeOf (scope_of p) c.args.params.now (formula_in p s.tensor)) c.in-Ok-None.field-0-is c.in-Ok-None.ensures)

pub returns-in-Ok : goal.returns-in-Ok
returns-in-Ok c =
    let p = plain c.args.program.now in
    let s = c.args.stage.now in
    let sound = c.parts.ensures.valid.sound in
    let f = c.formulas_read_ports.ensures.formula p c.args.number s sound c.requires.tensor c.requires.local in
    let code = c.in-Ok-Some.code in
    let taps = c.in-Ok.taps in
    let ty = type_of p s.tensor in
    let is = code_is (scope_of p) c.args.params.now (formula_in p s.tensor) f.0 code f.1
    (subst (IsCodeOf (scope_of p) c.args.params.now (formula_in p s.tensor)) c.in-Ok-Some.field-0-is c.in-Ok-Some.ensures) in
    let inner = inner_is p c.args.params.now c.args.number s f.0 f.1
    (λ cells h. c.formulas_are_readable.ensures p s.tensor f.0 cells c.args.params.now sound f.1 c.requires.params h) code taps.items is
    (c.in-Ok.ensures ∙ ap (λ (rs : List CellRead). map (λ (r : CellRead). read_tap p c.args.number s.turn (plain_read r)) rs) c.as_slice-reads.ensures)
    (c.formulas_read_ports.ensures.cells p c.args.number s f.0 sound c.requires.tensor f.1) in
    ok_both (λ (m : PortFormula). m.code ≡ code) (λ (m : PortFormula). m.taps ≡ taps)
    (λ (m : PortFormula). (ports : List ℤ) → wrapped ty (code_value m.code m.taps.items ports)
    ≡ inner_cell p c.args.params.now c.args.number s (wrapped_ports p c.args.number ports))
    (λ m a b ports. ap (λ (k : Code). wrapped ty (code_value k m.taps.items ports)) a
    ∙ ap (λ (ts : Vec Tap Global). wrapped ty (code_value code ts.items ports)) b ∙ inner ports)
    c.new.result c.new.ensures.code c.new.ensures.taps
