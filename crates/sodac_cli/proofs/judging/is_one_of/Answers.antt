use Rattle.std.proofs.Common.{◌∙◌, List, ℕ, rules, tests}
use Rattle.std.proofs.lemmas.Iterator.{YieldsList-from_slice}
use Rattle.std.proofs.lemmas.Iterator.Search.{any_from_yields_List}
use Rattle.std.specs.Borrow.{Bor}
use Rattle.std.specs.Str.{bytes_eq}
use Rattle.sodac_cli.proofs.Judged.{any_name}
use Rattle.sodac_cli.proofs.judging.is_one_of.Goals as goal

pub returns : goal.returns
returns c =
    any_from_yields_List (λ (other : Bor (List ℕ)). bytes_eq c.args.name.now other.now) _ _ _ c.any.ensures.ran (YieldsList-from_slice c.args.names.now cc) (λ x b q k. search (rules, tests))
    ∙ any_name c.args.name.now c.args.names.now
