use Rattle.std.proofs.Common.{◌-◌, ◌+◌, ◌∙◌, length, take, drop, sym, ap, List, [], ℕ}
use Rattle.std.proofs.lemmas.List.{drop-drop, drop_all, take_all, take_rest}
use Rattle.param_lines.proofs.Splits.{line_cut}
use Rattle.param_lines.proofs.splitting.split_line.Goals as goal

pub returns-then-end-text-clause-lines : goal.returns-then-end-text-clause-lines
returns-then-end-text-clause-lines c =
    let text = c.args.text.now in
    let end = c.line_len-end.result in
    line_cut text (take end text) (take (length text - (end + 1)) (drop (end + 1) text)) c.requires c.line_len-end.ensures.front (take_rest text (end + 1) ∙ (sym (drop-drop 1 end text) ∙ ap (λ (xs : List ℕ). drop 1 xs) c.line_len-end.ensures.rest))

pub returns-else-end-text-clause-lines : goal.returns-else-end-text-clause-lines
returns-else-end-text-clause-lines c =
    let text = c.args.text.now in
    let end = c.line_len-end.result in
    line_cut text text [] c.requires (sym (take_all end text c.if-end-text.false) ∙ c.line_len-end.ensures.front) (sym (ap (λ (xs : List ℕ). drop 1 xs) (sym c.line_len-end.ensures.rest ∙ drop_all end text c.if-end-text.false)))
