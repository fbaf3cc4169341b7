use Rattle.std.proofs.Common.{◌≡◌, ◌+◌, List, ℕ, length, ap, ◌∙◌, arith}
use Rattle.std.proofs.lemmas.List.{length-map}
use Rattle.std.specs.Borrow.{Bor}
use Rattle.soda_ir.specs.Program.{plain}
use Rattle.job_files.specs.Files.{names_of}
use Rattle.command_words.specs.Orders.{asked}
use Rattle.sodac_cli.specs.Work.{input_count, output_count}
use Rattle.sodac_cli.proofs.Judged.{fit_by}
use Rattle.sodac_cli.proofs.judging.names_fit.Goals as goal

pub returns : goal.returns
returns c =
    let a = asked c.args.order.now in
    let p = plain c.args.program.now in
    let names = c.as_slice-names.result.now in
    let same : names_of names ≡ a.names = ap names_of c.as_slice-names.ensures.value in
    let count : length a.names ≡ input_count p + output_count p =
    omega (arith, ap length same, length-map names (λ (name : Bor (List ℕ)). name.now), c.input_count-inputs.ensures, c.output_count.ensures.count) in
    c.are_apart.ensures ∙ fit_by a p _ _ same c.input_count-inputs.ensures count
