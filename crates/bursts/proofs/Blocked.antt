-- What a block of cells is, by how the reader stands.
use Rattle.std.proofs.Common.{◌≡◌, ℕ, ◌+◌, ◌<◌, ◌≤◌, Bool, true, false, List, [], ◌∷◌, ◌++◌, length, take, drop, Some, None, Result, Ok, Err, ℤ, refl, sym, ap, subst, ◌∙◌, arith, append_assoc, length-append}
use Rattle.std.proofs.lemmas.List.{append-nil, drop_at, take_at}
use Rattle.array_bytes.specs.Arrays.{first_fault, good_cells}
use Rattle.array_bytes.specs.ReadNumber.{most_asked}
use Rattle.array_bytes.specs.Sizes.{text_block}
use Rattle.array_bytes.specs.Machine.Scans.{FailsAfter, IsScanOf, IsWhole}
use Rattle.array_bytes.proofs.CallerLemmas.{found_all, found_first, raw_found_first}
use Rattle.array_bytes.specs.declared.form.Form.TheVariants as form
use Rattle.array_bytes.specs.declared.fault.CellFault.{CellFault}
use Rattle.array_bytes.specs.declared.fault.CellFault.TheVariants.{BadCell, CellRange, TooFew, TooMany, TooLong, Failed, Memory}
use Rattle.bursts.specs.Blocks.{BlockIs, EndIs, Kind, cells_in, fault_in}
use Rattle.bursts.specs.Machine.Calls.{EndOf, FailsBelow, FaultIs, SomeAre}
use Rattle.bursts.specs.Machine.Feeds.{unread}
use Rattle.bursts.specs.Machine.Sources.{RawAt, TextAt, raw_kind, text_kind}
use Rattle.bursts.specs.declared.raw_reader.RawReader.{RawReader}
use Rattle.bursts.specs.declared.source.Source.{Source}
use Rattle.bursts.specs.declared.source.Source.TheVariants.{Text, Raw}
use Rattle.bursts.specs.declared.text_reader.TextReader.{TextReader}
use Rattle.bursts.specs.Readers.{kind_of}

-- the good cells of a file begin with those that were given
pub text_first : (r : TextReader) (id : ℕ) (bytes : List ℕ) (place : ℕ) (cs : List ℤ) → TextAt r bytes place cs → (more : List ℤ) × (cells_in (text_kind r id) bytes ≡ cs ++ more)
text_first r id bytes place cs a = by a.closed refl
  where
    by : (t : Bool) → a.closed ≡ t → (more : List ℤ) × (cells_in (text_kind r id) bytes ≡ cs ++ more)
    by false e =
        let P : Bool → Type 0 = λ t. IsScanOf t r.scan a.used cs in
        let x = found_first r.scan a.used cs (subst P e a.scan) (unread r.feed ++ drop place bytes) in
        (x.0, ap (λ (xs : List ℕ). good_cells form.Text r.scan.ty r.scan.cells xs) a.feeds.split ∙ x.1)
    by true e =
        let P : Bool → Type 0 = λ t. IsScanOf t r.scan a.used cs in
        let x = found_all r.scan a.used cs (subst P e a.scan) in
        let whole : bytes ≡ a.used =
        a.feeds.split ∙ ap (λ (xs : List ℕ). a.used ++ (xs ++ drop place bytes)) (a.over e).1 ∙ ap (λ (xs : List ℕ). a.used ++ xs) (a.feeds.end (a.over e).0) ∙ append-nil a.used in
        (x.0, ap (λ (xs : List ℕ). good_cells form.Text r.scan.ty r.scan.cells xs) whole ∙ x.1)

pub raw_first : (r : RawReader) (id : ℕ) (bytes : List ℕ) (place : ℕ) (cs : List ℤ) → RawAt r bytes place cs → (more : List ℤ) × (cells_in (raw_kind r id) bytes ≡ cs ++ more)
raw_first r id bytes place cs a =
    let x = raw_found_first r.ty r.cells a.used cs a.raw (unread r.feed ++ drop place bytes) in
    (x.0, ap (λ (xs : List ℕ). good_cells form.Raw r.ty r.cells xs) a.feeds.split ∙ x.1)

-- a fault of the file below a number
fault_below : (k : Kind) (bytes : List ℕ) (given : ℕ) (cells block : List ℤ) (f : CellFault) → given ≡ length cells → FailsBelow k bytes (length cells + length block) f → BlockIs k bytes given block (Err f)
fault_below k bytes given cells block Failed e x = tt
fault_below k bytes given cells block Memory e x = tt
fault_below k bytes given cells block (BadCell i) e x = (x.is.first, omega (arith, ap length x.is.good, x.below))
fault_below k bytes given cells block (CellRange i) e x = (x.is.first, omega (arith, ap length x.is.good, x.below))
fault_below k bytes given cells block (TooFew i) e x = (x.is.first, omega (arith, ap length x.is.good, x.below))
fault_below k bytes given cells block TooMany e x = (x.is.first, omega (arith, ap length x.is.good, x.below))
fault_below k bytes given cells block TooLong e x = (x.is.first, omega (arith, ap length x.is.good, x.below))

-- a block of cells is the next ones
pub block_is : (k : Kind) (At : List ℤ → Type 0) (bytes : List ℕ) (given : ℕ) (cells block : List ℤ) (result : Result (Unit {0}) CellFault) → given ≡ length cells
    → ((cs : List ℤ) → At cs → (more : List ℤ) × (cells_in k bytes ≡ cs ++ more)) → SomeAre At k bytes cells block result → BlockIs k bytes given block result
block_is k At bytes given cells block (Ok u) e first x =
    let m = first (cells ++ block) x in
    let split : cells_in k bytes ≡ cells ++ (block ++ m.0) = m.1 ∙ append_assoc cells block m.0 in (
      omega (arith, ap length split, length-append cells (block ++ m.0), length-append block m.0),
      sym (ap (λ (xs : List ℤ). take (length block) (drop given xs)) split ∙ ap (λ (xs : List ℤ). take (length block) xs) (drop_at cells (block ++ m.0) given (sym e)) ∙ take_at block m.0 (length block) refl),
    )
block_is k At bytes given cells block (Err f) e first x = fault_below k bytes given cells block f e x

-- the end
end_fault : (k : Kind) (bytes : List ℕ) (cells : List ℤ) (f : CellFault) → length cells ≡ k.cells → FaultIs k bytes cells f → EndIs k bytes (Err f)
end_fault k bytes cells Failed e x = tt
end_fault k bytes cells Memory e x = tt
end_fault k bytes cells (BadCell i) e x = (x.first, ap length x.good ∙ e)
end_fault k bytes cells (CellRange i) e x = (x.first, ap length x.good ∙ e)
end_fault k bytes cells (TooFew i) e x = (x.first, ap length x.good ∙ e)
end_fault k bytes cells TooMany e x = (x.first, ap length x.good ∙ e)
end_fault k bytes cells TooLong e x = (x.first, ap length x.good ∙ e)

pub end_is : (k : Kind) (At : List ℤ → Type 0) (bytes : List ℕ) (cells : List ℤ) (result : Result (Unit {0}) CellFault) → length cells ≡ k.cells → EndOf At k bytes cells result → EndIs k bytes result
end_is k At bytes cells (Ok u) e x = (x.1.first, ap length x.1.good ∙ x.1.all)
end_is k At bytes cells (Err f) e x = end_fault k bytes cells f e x

-- what a text's read may ask for
pub text_asked : (r : TextReader) (id place asked : ℕ) → asked ≤ most_asked form.Text r.scan.ty text_block r.scan.cells place → asked ≤ text_block
unfolding most_asked
text_asked r id place asked few = few

-- the id of what a reader was made for is its own
pub kind_id : (id : ℕ) (s : Source) → (kind_of id s).id ≡ id
kind_id id (Text r) = refl
kind_id id (Raw r) = refl
