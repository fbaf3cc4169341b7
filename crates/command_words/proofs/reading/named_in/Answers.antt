use Rattle.std.proofs.Common.{◌∙◌, ap, codes, option_map}
use Rattle.std.specs.Prelude.{option_and_then}
use Rattle.clap.specs.Matches.{found_of}
use Rattle.clap.proofs.WalkLemmas.{raw_values-rows}
use Rattle.command_words.specs.Orders.{named}
use Rattle.command_words.specs.Views.Parts.{named_of}
use Rattle.command_words.proofs.reading.named_in.Goals as goal

pub returns-in_err-get_strs : goal.returns-in_err-get_strs
returns-in_err-get_strs c =
    let none = c.in_err-get_strs.ensures ∙ raw_values-rows (found_of c.args.matches.now) (codes "words") in
    ap (option_map named_of) c.from_residual.ensures ∙ ap (option_and_then (named c.args.mode)) none

pub returns : goal.returns
returns c =
    let words = c.in_ok-get_strs.ensures ∙ raw_values-rows (found_of c.args.matches.now) (codes "words") in
    c.read_named.ensures ∙ ap (option_and_then (named c.args.mode)) words
