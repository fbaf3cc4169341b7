-- What crates above cite: what a file holds stays where its id and its bytes do, how a new reader stands to its file, and
-- that a prefix of the bytes of some cells is one of those of more.
use Rattle.std.proofs.Common.{◌≡◌, ℕ, List, sym, ap, subst, ◌∙◌}
use Rattle.soda_io.specs.Store.{Store, content}
use Rattle.bursts.specs.Readers.{StandsAt, kind}
use Rattle.bursts.specs.declared.reader.CellReader.{CellReader}
pub use Rattle.bursts.proofs.Filled.{same_content}
pub use Rattle.bursts.proofs.WriterSteps.{prefix_on}

-- a reader that was just made stands at the first byte of its file
pub stands_first : (r : CellReader) (s : Store) (id : ℕ) → (kind r).id ≡ id → s.place id ≡ 0 → ((bytes : List ℕ) → StandsAt r bytes 0)
    → StandsAt r (content s (kind r).id) (s.place (kind r).id)
stands_first r s id is none at =
    let zero : s.place (kind r).id ≡ 0 = ap (λ (k : ℕ). s.place k) is ∙ none in
    let P : ℕ → Type 0 = λ n. StandsAt r (content s (kind r).id) n in
    subst P (sym zero) (at (content s (kind r).id))
