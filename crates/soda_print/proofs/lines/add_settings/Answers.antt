use Rattle.std.proofs.Common.{◌++◌, ◌∙◌, ap, codes}
use Rattle.std.specs.Fmt.{decimal}
use Rattle.soda_print.specs.Canonical.{border_word}
use Rattle.soda_print.proofs.Written.{five_lines}
use Rattle.soda_print.proofs.lines.add_settings.Goals as goal

pub returns : goal.returns
returns c =
    five_lines c.args.text.now.items c.add_word_line.new.text.items c.add_number_line.new.text.items
    c.add_number_line-2.new.text.items c.add_number_line-3.new.text.items c.add_word_line-2.new.text.items
    (codes "kernel: " ++ c.args.parts.now.kernel) (codes "burst width: " ++ decimal c.args.parts.now.burst)
    (codes "unroll factor: " ++ decimal c.args.parts.now.unroll)
    (codes "iterate: " ++ decimal c.args.parts.now.iterate) (codes "border: " ++ border_word c.args.parts.now.border)
    (c.in_ok-add_word_line.ensures ∙ ap (λ w. c.args.text.now.items ++ ((codes "kernel: " ++ w) ++ codes "\n")) c.as_slice.ensures)
    c.in_ok-add_number_line.ensures c.in_ok-add_number_line-2.ensures c.in_ok-add_number_line-3.ensures
    (c.in_ok-add_word_line-2.ensures ∙ ap (λ w. c.add_number_line-3.new.text.items ++ ((codes "border: " ++ w) ++ codes "\n")) c.border_word.ensures)
