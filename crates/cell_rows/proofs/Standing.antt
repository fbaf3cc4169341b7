-- How a reader stands to its file, at numbers that are equal; ids that were given.
use Rattle.std.proofs.Common.{◌≡◌, ℕ, ◌<◌, Bool, List, sym, ap, subst, ◌∙◌}
use Rattle.soda_io.specs.Store.{KeepsIds, Store, content}
use Rattle.bursts.specs.Blocks.{Kind}
use Rattle.bursts.specs.Readers.{StandsAt, kind}
use Rattle.bursts.specs.declared.reader.CellReader.{CellReader}

-- a reader stands at the place of its own id where it stands at that of an equal one
pub stands_by : (r : CellReader) (s : Store) (k : Kind) → kind r ≡ k → StandsAt r (content s k.id) (s.place k.id) → StandsAt r (content s (kind r).id) (s.place (kind r).id)
stands_by r s k is at = let P : Kind → Type 0 = λ j. StandsAt r (content s j.id) (s.place j.id) in subst P (sym is) at

pub stands_by_equal : (r : CellReader) (s : Store) (k j : Kind) → j ≡ k → StandsAt r (content s j.id) (s.place j.id) → StandsAt r (content s k.id) (s.place k.id)
stands_by_equal r s k j is at = let P : Kind → Type 0 = λ j. StandsAt r (content s j.id) (s.place j.id) in subst P is at

-- an id that was given stays of the call that gave it, at an equal number too
pub opened_still : (given : ℕ) (s t : Store) (k j : ℕ) (b : Bool) → KeepsIds given s t → k < given → j ≡ k → s.opened k ≡ b → t.opened j ≡ b
opened_still given s t k j b keeps lt is was = ap (λ (i : ℕ). t.opened i) is ∙ keeps.opened k lt ∙ was
