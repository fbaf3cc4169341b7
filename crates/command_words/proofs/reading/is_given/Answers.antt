use Rattle.std.proofs.Common.{◌∙◌, ◌&&◌, ap, ap₂}
use Rattle.clap.specs.Facts.{explicit_source}
use Rattle.clap.specs.Matches.{found_of}
use Rattle.command_words.proofs.Given.{given}
use Rattle.command_words.proofs.reading.is_given.Goals as goal

pub returns : goal.returns
returns c =
    let explicit = c.is_explicit-explicit.ensures ∙ ap explicit_source c.value_source.ensures in
    ap₂ (λ a b. a && b) c.contains_id-there.ensures explicit ∙ given (found_of c.args.matches.now) c.args.name.now
