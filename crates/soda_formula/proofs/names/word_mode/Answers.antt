use Rattle.std.proofs.Common.{codes}
use Rattle.soda_words.specs.Names.{is_cast_word, is_word}
use Rattle.soda_formula.proofs.Words.{at-text, at-word, mode-cast, mode-min, mode-max, mode-abs, mode-select, mode-name}
use Rattle.soda_formula.proofs.names.word_mode.Goals as goal

pub returns-then-is_cast_word : goal.returns-then-is_cast_word
returns-then-is_cast_word c =
    mode-cast c.args.word
    (at-text is_cast_word _ c.args.word.text _ c.as_slice-text.ensures c.if-is_cast_word.ensures)

pub returns-then-is_word : goal.returns-then-is_word
returns-then-is_word c =
    mode-min c.args.word
    (at-text is_cast_word _ c.args.word.text _ c.as_slice-text.ensures c.if-is_cast_word.ensures)
    (at-word _ _ _ c.args.word.text _ c.spelling.ensures c.as_slice-text.ensures c.if-is_word.ensures)

pub returns-then-is_word-2 : goal.returns-then-is_word-2
returns-then-is_word-2 c =
    mode-max c.args.word
    (at-text is_cast_word _ c.args.word.text _ c.as_slice-text.ensures c.if-is_cast_word.ensures)
    (at-word _ _ _ c.args.word.text _ c.spelling.ensures c.as_slice-text.ensures c.if-is_word.ensures)
    (at-word _ _ _ c.args.word.text _ c.spelling-else-is_word.ensures c.as_slice-text.ensures c.if-is_word-2.ensures)

pub returns-then-is_word-3 : goal.returns-then-is_word-3
returns-then-is_word-3 c =
    mode-abs c.args.word
    (at-text is_cast_word _ c.args.word.text _ c.as_slice-text.ensures c.if-is_cast_word.ensures)
    (at-word _ _ _ c.args.word.text _ c.spelling.ensures c.as_slice-text.ensures c.if-is_word.ensures)
    (at-word _ _ _ c.args.word.text _ c.spelling-else-is_word.ensures c.as_slice-text.ensures c.if-is_word-2.ensures)
    (at-word _ _ _ c.args.word.text _ c.spelling-else-is_word-2.ensures c.as_slice-text.ensures c.if-is_word-3.ensures)

pub returns-then-is_word-4 : goal.returns-then-is_word-4
returns-then-is_word-4 c =
    mode-select c.args.word
    (at-text is_cast_word _ c.args.word.text _ c.as_slice-text.ensures c.if-is_cast_word.ensures)
    (at-word _ _ _ c.args.word.text _ c.spelling.ensures c.as_slice-text.ensures c.if-is_word.ensures)
    (at-word _ _ _ c.args.word.text _ c.spelling-else-is_word.ensures c.as_slice-text.ensures c.if-is_word-2.ensures)
    (at-word _ _ _ c.args.word.text _ c.spelling-else-is_word-2.ensures c.as_slice-text.ensures c.if-is_word-3.ensures)
    (at-text (is_word (codes "select")) _ c.args.word.text _ c.as_slice-text.ensures c.if-is_word-4.ensures)

pub returns-else-is_word-4 : goal.returns-else-is_word-4
returns-else-is_word-4 c =
    mode-name c.args.word
    (at-text is_cast_word _ c.args.word.text _ c.as_slice-text.ensures c.if-is_cast_word.ensures)
    (at-word _ _ _ c.args.word.text _ c.spelling.ensures c.as_slice-text.ensures c.if-is_word.ensures)
    (at-word _ _ _ c.args.word.text _ c.spelling-else-is_word.ensures c.as_slice-text.ensures c.if-is_word-2.ensures)
    (at-word _ _ _ c.args.word.text _ c.spelling-else-is_word-2.ensures c.as_slice-text.ensures c.if-is_word-3.ensures)
    (at-text (is_word (codes "select")) _ c.args.word.text _ c.as_slice-text.ensures c.if-is_word-4.ensures)
