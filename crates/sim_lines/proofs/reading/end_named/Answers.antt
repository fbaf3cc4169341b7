use Rattle.std.proofs.Common.{◌≡◌, ◌∙◌, ℕ, List, [], Some, map, position, sym, ap, arith}
use Rattle.std.proofs.lemmas.List.{length-map}
use Rattle.std.proofs.lemmas.List.Quantifiers.{position-Some}
use Rattle.soda_words.specs.Names.{is_word}
use Rattle.soda_ir.specs.Program.{PlainTensor, plain}
use Rattle.sim_lines.proofs.reading.end_named.Goals as goal

pub overflow_cast-result : goal.overflow_cast-result
overflow_cast-result c =
    let names = map (λ (t : PlainTensor). t.name) (plain c.args.program.now).tensors in
    let at : position (is_word c.args.name.now) names ≡ Some c.in_ok-tensor.tensor = ap (λ (ns : List (List ℕ)). position (is_word c.args.name.now) ns) (sym c.requires) ∙ sym c.in_ok-tensor.ensures in
    let lt = (position-Some (is_word c.args.name.now) names c.in_ok-tensor.tensor [] at).0 in
    omega (arith, lt, length-map (plain c.args.program.now).tensors (λ t. t.name), c.parts-parts.ensures.valid.sound.limits.few_tensors)
