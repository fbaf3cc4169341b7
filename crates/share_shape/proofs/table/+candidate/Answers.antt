use Rattle.std.proofs.Common.{◌≡◌, ℕ, ◌++◌, ℤ, Bor, arith, ap, sym, ◌∙◌, nat_eq, option_map, unwrap_or}
use Rattle.std.specs.HashMap.{get}
use Rattle.arrayvec.specs.ArrayVec.{ArrayVec}
use Rattle.soda_ir.specs.Formula.{Formula, unary, binary, choice, cast}
use Rattle.soda_ir.specs.Tree.{formula_of}
use Rattle.soda_ir.proofs.CallerLemmas.{levels}
use Rattle.share_shape.specs.Compounds.{compounds, counted_before}
use Rattle.share_shape.specs.machine.Marks.{first_of, is_repeated, mark}
use Rattle.share_shape.specs.machine.Search.{first_passing}
use Rattle.share_shape.proofs.Search.{append}
use Rattle.share_shape.proofs.Tables.{found_here}
use Rattle.share_shape.proofs.table.+candidate.Goals as goal

pub returns-in-Un-clause-found : goal.returns-in-Un-clause-found
returns-in-Un-clause-found t c =
    let count : ℕ → ℕ = λ q. unwrap_or (get nat_eq c.args.counts.now q) 0 in
    let f : Formula = formula_of c.args.expr.now in
    let e : f ≡ unary c.in-Un.op (formula_of c.get.result.now) = grind (arith, levels) in
    let m : c.of_unary-marked.result.mark ≡ mark f = grind (arith, levels) in
    let o : option_map (λ (w : Bor (ArrayVec ℤ)). w.now.items) c.of_unary-marked.result.first ≡ first_of f = grind (arith, levels) in
    found_here count f (compounds (formula_of c.get.result.now)) c.of_unary-marked.result.mark _ c.is_repeated.result _ _ m o c.is_repeated.ensures (c.candidate.ensures.found) c.chosen-found.ensures
    ∙ ap (first_passing (is_repeated count)) (ap (λ g. counted_before g (compounds (formula_of c.get.result.now))) e ∙ sym (ap compounds e))

pub returns-in-Bin-clause-found : goal.returns-in-Bin-clause-found
returns-in-Bin-clause-found t c =
    let count : ℕ → ℕ = λ q. unwrap_or (get nat_eq c.args.counts.now q) 0 in
    let f : Formula = formula_of c.args.expr.now in
    let e : f ≡ binary c.in-Bin.op (formula_of c.get-in-Bin.result.now) (formula_of c.get-in-Bin-2.result.now) = grind (arith, levels) in
    let m : c.of_binary-marked.result.mark ≡ mark f = grind (arith, levels) in
    let o : option_map (λ (w : Bor (ArrayVec ℤ)). w.now.items) c.of_binary-marked.result.first ≡ first_of f = grind (arith, levels) in
    found_here count f (compounds (formula_of c.get-in-Bin.result.now) ++ compounds (formula_of c.get-in-Bin-2.result.now)) c.of_binary-marked.result.mark _ c.is_repeated-in-Bin.result _ _ m o c.is_repeated-in-Bin.ensures (grind (arith, append)) c.chosen-found-in-Bin.ensures
    ∙ ap (first_passing (is_repeated count)) (ap (λ g. counted_before g (compounds (formula_of c.get-in-Bin.result.now) ++ compounds (formula_of c.get-in-Bin-2.result.now))) e ∙ sym (ap compounds e))

pub returns-in-Select-clause-found : goal.returns-in-Select-clause-found
returns-in-Select-clause-found t c =
    let count : ℕ → ℕ = λ q. unwrap_or (get nat_eq c.args.counts.now q) 0 in
    let f : Formula = formula_of c.args.expr.now in
    let e : f ≡ choice (formula_of c.get-in-Select.result.now) (formula_of c.get-in-Select-2.result.now) (formula_of c.get-in-Select-3.result.now) = grind (arith, levels) in
    let m : c.of_choice-marked.result.mark ≡ mark f = grind (arith, levels) in
    let o : option_map (λ (w : Bor (ArrayVec ℤ)). w.now.items) c.of_choice-marked.result.first ≡ first_of f = grind (arith, levels) in
    found_here count f (compounds (formula_of c.get-in-Select.result.now) ++ (compounds (formula_of c.get-in-Select-2.result.now) ++ compounds (formula_of c.get-in-Select-3.result.now))) c.of_choice-marked.result.mark _ c.is_repeated-in-Select.result _ _ m o c.is_repeated-in-Select.ensures (grind (arith, append)) c.chosen-found-in-Select.ensures
    ∙ ap (first_passing (is_repeated count)) (ap (λ g. counted_before g (compounds (formula_of c.get-in-Select.result.now) ++ (compounds (formula_of c.get-in-Select-2.result.now) ++ compounds (formula_of c.get-in-Select-3.result.now)))) e ∙ sym (ap compounds e))

pub returns-in-Cast-clause-found : goal.returns-in-Cast-clause-found
returns-in-Cast-clause-found t c =
    let count : ℕ → ℕ = λ q. unwrap_or (get nat_eq c.args.counts.now q) 0 in
    let f : Formula = formula_of c.args.expr.now in
    let e : f ≡ cast c.in-Cast.ty (formula_of c.get-in-Cast.result.now) = grind (arith, levels) in
    let m : c.of_cast-marked.result.mark ≡ mark f = grind (arith, levels) in
    let o : option_map (λ (w : Bor (ArrayVec ℤ)). w.now.items) c.of_cast-marked.result.first ≡ first_of f = grind (arith, levels) in
    found_here count f (compounds (formula_of c.get-in-Cast.result.now)) c.of_cast-marked.result.mark _ c.is_repeated-in-Cast.result _ _ m o c.is_repeated-in-Cast.ensures (c.candidate-in-Cast.ensures.found) c.chosen-found-in-Cast.ensures
    ∙ ap (first_passing (is_repeated count)) (ap (λ g. counted_before g (compounds (formula_of c.get-in-Cast.result.now))) e ∙ sym (ap compounds e))
