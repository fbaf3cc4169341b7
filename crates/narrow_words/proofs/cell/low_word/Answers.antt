use Rattle.std.proofs.Common.{rules, ◌∙◌, ap, FitsSigned, w32, of_z}
use Rattle.std.specs.Int.{w128}
use Rattle.std.proofs.lemmas.Int.{to_z-of_z}
use Rattle.narrow_words.proofs.Low.{low_word_is}
use Rattle.narrow_words.proofs.cell.low_word.Goals as goal

pub returns : goal.returns
returns c =
    let f : FitsSigned w32 c.cast_signed.result = search rules in
    to_z-of_z w32 c.cast_signed.result f ∙ low_word_is c.args.x c.cast_unsigned.result c.cast_signed.result c.ranges.x (c.cast_unsigned.ensures ∙ ap (of_z w128) (to_z-of_z w128 c.args.x c.ranges.x)) c.cast_signed.ensures
