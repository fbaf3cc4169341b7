-- What crates above cite: the tokens of a canonical text, and that it has them, is ASCII and is no longer than a text may be.
-- tokens of formulas, of lines and of a whole canonical text, and their lines
pub use Rattle.soda_print.proofs.Tokens.{on_line}
-- what a formula of a valid program must be to be written
pub use Rattle.soda_print.proofs.Tokenized.{IsWritable}
pub use Rattle.soda_print.proofs.Read.{IsReadBack}
pub use Rattle.soda_print.proofs.Tokenized.{behind_comma_tokens, listed_tokens, pair_tokens, parted_tokens}
pub use Rattle.soda_print.proofs.Tokenized.{binary_tokens, call_tokens, component_tokens, formula_tokens, index_tokens, unary_tokens}
pub use Rattle.soda_print.proofs.Read.{canonical_tokens, left_tokens, param_tokens, placed_lines, tensor_tokens, tile_tokens}
-- sizes: none is 0 and so their product is positive, and a param has no more values than all params together
pub use Rattle.soda_print.proofs.Readable.{count_cons, count_there, positive, some}
-- a place has no more indexes than its param has sizes
pub use Rattle.soda_print.proofs.Short.{few_indexes}
-- the canonical text of a valid program whose numbers fit can be read back: its tokens, its bytes and its length
pub use Rattle.soda_print.proofs.Readable.{canonical_read, readable}
-- lines that are ended, in two parts
pub use Rattle.soda_print.proofs.Written.{ended-append}
pub use Rattle.soda_print.proofs.Ascii.{canonical_ascii}
-- bytes that show, in names, numbers, formulas and the lines of a canonical text
pub use Rattle.soda_print.proofs.Printable.{AllPrintable, are_printable, formula_printable, is_printable, lines_printable, name_printable, number_printable, printable_append}
pub use Rattle.soda_print.proofs.Short.{canonical_short}
