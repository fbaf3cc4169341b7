-- The steps of a text's reader.
use Rattle.std.proofs.Common.{◌≡◌, ◌≢◌, ℕ, ◌+◌, ◌-◌, ◌<◌, ◌≤◌, Bool, true, false, if◌then◌else◌, List, [], ◌∷◌, ◌++◌, length, take, drop, set, Option, Some, None, Result, Ok, Err, ℤ, IsErrOf, refl, sym, ap, subst, ◌∙◌, arith, append_assoc, length-append, length-drop}
use Rattle.std.proofs.lemmas.Bool.{false≢true}
use Rattle.std.proofs.lemmas.List.{append-nil, drop-drop, drop-take, length-take-le, take-append-drop, take_at, take_all, take_more_set}
use Rattle.soda_words.specs.IntType.{IntType}
use Rattle.soda_io.specs.Store.{Store, content}
use Rattle.array_bytes.specs.Sizes.{text_block}
use Rattle.array_bytes.specs.Runs.{ended_runs}
use Rattle.array_bytes.specs.ReadNumber.{most_asked, read_number}
use Rattle.array_bytes.specs.Machine.Scans.{Closes, FailsAfter, Finds, IfNothing, IsOfFile, IsScanOf, IsWhole, KeepsKind, OrFault, Spends}
use Rattle.array_bytes.proofs.CallerLemmas.{ended_few, ends_whole}
use Rattle.array_bytes.specs.declared.form.Form.TheVariants as form
use Rattle.array_bytes.specs.declared.fault.CellFault.{CellFault}
use Rattle.array_bytes.specs.declared.fault.CellFault.TheVariants.{BadCell, CellRange, TooFew, TooMany, TooLong, Failed, Memory}
use Rattle.array_bytes.specs.declared.text_scan.Found.{Found}
use Rattle.array_bytes.specs.declared.text_scan.Found.TheVariants.{Nothing, Cell, Fault}
use Rattle.array_bytes.specs.declared.text_scan.TextScan.{TextScan}
use Rattle.bursts.specs.Blocks.{IsWanted, Kind, ReadCause, ReadsOn}
use Rattle.bursts.specs.Machine.Calls.{EndOf, FailsBelow, FaultIs, OneIs}
use Rattle.bursts.specs.Machine.Feeds.{FeedsOn, Fills, FillsFile, unread}
use Rattle.bursts.specs.Machine.Sources.{ScansOn, TextAt, WasScanned, text_kind}
use Rattle.bursts.specs.declared.feed.Feed.{Feed}
use Rattle.bursts.specs.declared.text_reader.TextReader.{TextReader}
use Rattle.bursts.proofs.Filled.{feeds_filled, same_content}
use Rattle.bursts.proofs.OneByOne.{fill_reads, no_read, reads_then}

-- where a block isn't full, cells are still to come
pub fewer : (cells out : List ℤ) (i : ℕ) → i < length out → length (cells ++ take i out) < length cells + length out
fewer cells out i lt = omega (arith, length-append cells (take i out), length-take-le i out (omega arith))

-- what isn't used after some more is used
skipped : (xs : List ℕ) (start filled n : ℕ) → start + n ≤ filled → take (filled - (start + n)) (drop (start + n) xs) ≡ drop n (take (filled - start) (drop start xs))
skipped xs start filled n le =
    let m : ℕ = filled - (start + n) in
    let whole : n + m ≡ filled - start = omega arith in
    ap (λ (ys : List ℕ). take m ys) (sym (drop-drop n start xs)) ∙ sym (drop-take n m (drop start xs)) ∙ ap (λ k. drop n (take k (drop start xs))) whole

pub unread_length : (f : Feed) → length (unread f) ≡ f.filled - f.start
unread_length f = length-take-le (f.filled - f.start) (drop f.start f.buffer.items) (omega (arith, length-drop f.start f.buffer.items, f.room, f.within, f.buffer.ok.0))

pub used_up : (f : Feed) → f.filled ≤ f.start → unread f ≡ []
used_up f le = let z : f.filled - f.start ≡ 0 = omega arith in ap (λ k. take k (drop f.start f.buffer.items)) z

module _ (f z : Feed) (n : ℕ) (used bytes : List ℕ) (place : ℕ) (few : n ≤ length (unread f)) (start : z.start ≡ f.start + n) (filled : z.filled ≡ f.filled) (buffer : z.buffer ≡ f.buffer) (ended : z.ended ≡ f.ended) where
  rest_unread : unread z ≡ drop n (unread f)
  rest_unread =
      ap (λ b. take (z.filled - z.start) (drop z.start b.items)) buffer
      ∙ ap (λ k. take (k - z.start) (drop z.start f.buffer.items)) filled
      ∙ ap (λ k. take (f.filled - k) (drop k f.buffer.items)) start
      ∙ skipped f.buffer.items f.start f.filled n (omega (arith, unread_length f, f.within))

  -- the first of the bytes that weren't used are used
  pub feeds_skip : FeedsOn f used bytes place → FeedsOn z (used ++ take n (unread f)) bytes place
  feeds_skip u = record {
    split =
        u.split ∙ ap (λ (ys : List ℕ). used ++ (ys ++ drop place bytes)) (sym (take-append-drop n (unread f)))
        ∙ ap (λ (ys : List ℕ). used ++ ys) (append_assoc (take n (unread f)) (drop n (unread f)) (drop place bytes))
        ∙ sym (append_assoc used (take n (unread f)) (drop n (unread f) ++ drop place bytes))
        ∙ ap (λ (ys : List ℕ). (used ++ take n (unread f)) ++ (ys ++ drop place bytes)) (sym rest_unread);
    at = omega (arith, u.at, length-append used (take n (unread f)), length-take-le n (unread f) few, length-drop n (unread f), ap length rest_unread);
    end = λ q. u.end (sym ended ∙ q);
  }

-- a reader that has bytes that aren't used was not closed
not_closed : (r : TextReader) (bytes : List ℕ) (place : ℕ) (cells : List ℤ) (a : TextAt r bytes place cells) → r.feed.start < r.feed.filled → a.closed ≡ false
not_closed r bytes place cells a some = by a.closed refl
  where
    by : (t : Bool) → a.closed ≡ t → t ≡ false
    by false e = refl
    by true e = let none : length (unread r.feed) ≡ 0 = ap length (a.over e).1 in absurd (omega (arith, unread_length r.feed))

open_scan : (r : TextReader) (bytes : List ℕ) (place : ℕ) (cells : List ℤ) (a : TextAt r bytes place cells) → r.feed.start < r.feed.filled → IsScanOf false r.scan a.used cells
open_scan r bytes place cells a some = let P : Bool → Type 0 = λ t. IsScanOf t r.scan a.used cells in subst P (not_closed r bytes place cells a some) a.scan

-- what a scan of what isn't used gives
pub scanned : (r z : TextReader) (n : ℕ) (bytes : List ℕ) (place : ℕ) (cells : List ℤ) (a : TextAt r bytes place cells) → r.feed.start < r.feed.filled → n ≤ length (unread r.feed)
    → z.feed.start ≡ r.feed.start + n → z.feed.filled ≡ r.feed.filled → z.feed.buffer ≡ r.feed.buffer → z.feed.ended ≡ r.feed.ended
    → (found : Found) → ((before : List ℕ) (cs : List ℤ) → IsScanOf false r.scan before cs → Finds z.scan before (unread r.feed) cs n found) → ScansOn z bytes place cells found
scanned r z n bytes place cells a some few start filled buffer ended Nothing finds =
    let h = finds a.used cells (open_scan r bytes place cells a some) in
    let all : take n (unread r.feed) ≡ unread r.feed = take_all n (unread r.feed) (omega (arith, h.0)) in
    record {
      closed = false;
      used = a.used ++ take n (unread r.feed);
      feeds = feeds_skip r.feed z.feed n a.used bytes place few start filled buffer ended a.feeds;
      scan = let P : List ℕ → Type 0 = λ xs. IsScanOf false z.scan (a.used ++ xs) cells in subst P (sym all) h.1;
      over = λ e. absurd (false≢true e);
    }
scanned r z n bytes place cells a some few start filled buffer ended (Cell v) finds = record {
  closed = false;
  used = a.used ++ take n (unread r.feed);
  feeds = feeds_skip r.feed z.feed n a.used bytes place few start filled buffer ended a.feeds;
  scan = finds a.used cells (open_scan r bytes place cells a some);
  over = λ e. absurd (false≢true e);
}
scanned r z n bytes place cells a some few start filled buffer ended (Fault f) finds =
    let h = finds a.used cells (open_scan r bytes place cells a some) (drop place bytes) in
    let P : List ℕ → Type 0 = λ xs. FailsAfter form.Text z.scan.ty z.scan.cells xs cells f in
    subst P (append_assoc a.used (unread r.feed) (drop place bytes) ∙ sym a.feeds.split) h

-- a feed begun again at the front of its buffer
pub feeds_restart : (f z : Feed) (used bytes : List ℕ) (place : ℕ) → f.filled ≤ f.start → z.start ≡ 0 → z.filled ≡ 0 → z.ended ≡ f.ended → FeedsOn f used bytes place → FeedsOn z used bytes place
feeds_restart f z used bytes place none start filled ended u =
    let was : unread f ≡ [] = used_up f none in
    let now : unread z ≡ [] = used_up z (omega (arith, start, filled)) in
    record {
      split = u.split ∙ ap (λ (ys : List ℕ). used ++ (ys ++ drop place bytes)) (was ∙ sym now);
      at = u.at ∙ ap (λ (ys : List ℕ). length used + length ys) (was ∙ sym now);
      end = λ q. u.end (sym ended ∙ q);
    }

-- a reader whose feed was filled again
pub refilled : (given : ℕ) (a b : Store) (id asked : ℕ) (r : TextReader) (f : Feed) (z : TextReader) (result : Result Bool CellFault) (cells : List ℤ) → id < given → r.feed.filled ≤ r.feed.start → f.start ≡ 0 → f.filled ≡ 0 → f.ended ≡ r.feed.ended
    → Fills f z.feed result → FillsFile given a b id asked f z.feed result → z.scan ≡ r.scan → TextAt r (content a id) (a.place id) cells → TextAt z (content a id) (b.place id) cells
refilled given a b id asked r f z result cells lt none start filled ended fills file same at =
    let before : FeedsOn f at.used (content a id) (a.place id) = feeds_restart r.feed f at.used (content a id) (a.place id) none start filled ended at.feeds in
    record {
      closed = at.closed;
      used = at.used;
      feeds = feeds_filled given a b id asked f z.feed result at.used lt file (stays result fills) before;
      scan = let P : TextScan → Type 0 = λ s. IsScanOf at.closed s at.used cells in subst P (sym same) at.scan;
      over = λ e.
          let end : f.ended ≡ true = ended ∙ (at.over e).0 in
          (stays result fills end, file.grown ∙ ap (λ (xs : List ℕ). xs ++ file.more) (used_up f (omega (arith, start, filled))) ∙ file.none (not_ok result fills end));
    }
  where
    stays : (x : Result Bool CellFault) → Fills f z.feed x → f.ended ≡ true → z.feed.ended ≡ true
    stays (Ok true) h e = absurd (false≢true (sym h.1 ∙ e))
    stays (Ok false) h e = h.1
    stays (Err Failed) h e = h.1 ∙ e
    stays (Err Memory) h e = h.1 ∙ e
    stays (Err (BadCell i)) h e = absurd h
    stays (Err (CellRange i)) h e = absurd h
    stays (Err (TooFew i)) h e = absurd h
    stays (Err TooMany) h e = absurd h
    stays (Err TooLong) h e = absurd h

    not_ok : (x : Result Bool CellFault) → Fills f z.feed x → f.ended ≡ true → x ≢ Ok true
    not_ok (Ok true) h e q = false≢true (sym h.1 ∙ e)
    not_ok (Ok false) h e q = absurd (cc)
    not_ok (Err g) h e q = absurd (cc)

-- a read that a text wants, where all that was read is used
pub wants : (r : TextReader) (id : ℕ) (bytes : List ℕ) (place : ℕ) (cells : List ℤ) (bound asked : ℕ) → TextAt r bytes place cells → r.feed.filled ≤ r.feed.start → length cells < bound → asked ≤ text_block → IsWanted (text_kind r id) bytes bound place asked
unfolding read_number most_asked
wants r id bytes place cells bound asked a none few size =
    let nothing : unread r.feed ≡ [] = used_up r.feed none in
    let at : length a.used ≡ place = omega (arith, a.feeds.at, ap length nothing) in
    let front : take place bytes ≡ a.used = ap (λ (xs : List ℕ). take place xs) a.feeds.split ∙ take_at a.used (unread r.feed ++ drop place bytes) place at in
    record {
      number = (let e : length (ended_runs (take place bytes)) ≡ length (ended_runs a.used) = ap (λ (xs : List ℕ). length (ended_runs xs)) front in omega (arith, ended_few a.closed r.scan a.used cells a.scan));
      size = size;
    }

-- what scanning spends
pub scan_spent : (start filled n y z u v : ℕ) (found : Found) → start < filled → u ≡ start + n → v ≡ filled → IfNothing (n ≡ filled - start) found → Spends y z n found → WasScanned y z u v found
scan_spent start filled n y z u v Nothing some begin end all spent = (omega arith, omega arith)
scan_spent start filled n y z u v (Cell w) some begin end all spent = tt
scan_spent start filled n y z u v (Fault f) some begin end all spent = tt

-- a reader of the same kind
pub same_kind : (r z : TextReader) (id : ℕ) → KeepsKind r.scan z.scan → text_kind z id ≡ text_kind r id
same_kind r z id k =
    ap (λ (t : IntType). text_kind_of t z.scan.cells id) k.ty ∙ ap (λ (n : ℕ). text_kind_of r.scan.ty n id) k.cells
  where
    text_kind_of : IntType → ℕ → ℕ → Kind
    text_kind_of t n i = record { form = form.Text; ty = t; cells = n; block = text_block; id = i }

-- more reads of one reader
pub more_reads : (given m : ℕ) (a b c : Store) (id : ℕ) (init r : TextReader) (e h : Bool) (bound : ℕ) (F G : Type 0) → id < given → m ≡ given → KeepsKind init.scan r.scan
    → ReadsOn given a b id e r.feed.ended F (IsWanted (text_kind init id) (content a id) bound) → (F → ⊥)
    → ReadsOn m b c id r.feed.ended h G (IsWanted (text_kind r id) (content b id) bound) → ReadsOn given a c id e h G (IsWanted (text_kind init id) (content a id) bound)
more_reads given m a b c id init r e h bound F G lt same kind x fine y =
    let held : content b id ≡ content a id = same_content given a b id lt x.ids x.bytes in
    let P : ℕ → Type 0 = λ k. ReadsOn k b c id r.feed.ended h G (IsWanted (text_kind r id) (content b id) bound) in
    let Q : Kind → Type 0 = λ k. ReadsOn given b c id r.feed.ended h G (IsWanted k (content b id) bound) in
    let R : List ℕ → Type 0 = λ xs. ReadsOn given b c id r.feed.ended h G (IsWanted (text_kind init id) xs bound) in
    reads_then (IsWanted (text_kind init id) (content a id) bound) given a b c id e r.feed.ended h F G lt x fine (subst R held (subst Q (same_kind init r id kind) (subst P same y)))

-- the next fact of a file whose bytes stay
pub on_same : (given : ℕ) (a b : Store) (id : ℕ) (e f : Bool) (F : Type 0) (W : ℕ → ℕ → Type 0) → id < given → ReadsOn given a b id e f F W → (T : List ℕ → Type 0) → T (content a id) → T (content b id)
on_same given a b id e f F W lt x T t = subst T (sym (same_content given a b id lt x.ids x.bytes)) t

pub off_same : (given : ℕ) (a b : Store) (id : ℕ) (e f : Bool) (F : Type 0) (W : ℕ → ℕ → Type 0) → id < given → ReadsOn given a b id e f F W → (T : List ℕ → Type 0) → T (content b id) → T (content a id)
off_same given a b id e f F W lt x T t = subst T (same_content given a b id lt x.ids x.bytes) t

-- the same reads, by another word for their failing
pub refail : (given : ℕ) (a b : Store) (id : ℕ) (e f : Bool) (F G : Type 0) (P : ℕ → ℕ → Type 0) → (F → G) → (G → F) → ReadsOn given a b id e f F P → ReadsOn given a b id e f G P
refail given a b id e f F G P to back x = record {
  ids = x.ids;
  bytes = x.bytes;
  others = x.others;
  entries = x.entries;
  calls = x.calls;
  reads = x.reads;
  quiet = x.quiet;
  going = x.going;
  met = x.met;
  failed = (λ h. x.failed.0 (back h), λ ends. to (x.failed.1 ends));
  stays = x.stays;
  each = x.each;
  place = x.place;
}

-- and by another word for their end
pub reend : (given : ℕ) (a b : Store) (id : ℕ) (e f h : Bool) (F : Type 0) (P : ℕ → ℕ → Type 0) → h ≡ f → ReadsOn given a b id e f F P → ReadsOn given a b id e h F P
reend given a b id e f h F P same x = let Q : Bool → Type 0 = λ t. ReadsOn given a b id e t F P in subst Q (sym same) x

-- what the calls so far have done, and one more call
module _ (given m : ℕ) (a b c : Store) (id : ℕ) (init r z : TextReader) (cells : List ℤ) (G : Type 0) (lt : id < given) (same : m ≡ given) (kind : KeepsKind init.scan r.scan)
    (inv_at : TextAt r (content a id) (b.place id) cells)
    (inv_reads : (bound : ℕ) → length cells < bound → ReadsOn given a b id init.feed.ended r.feed.ended ⊥ (IsWanted (text_kind init id) (content a id) bound)) where
  now_at : TextAt r (content b id) (b.place id) cells
  now_at = on_same given a b id init.feed.ended r.feed.ended ⊥ (IsWanted (text_kind init id) (content a id) (length cells + 1)) lt (inv_reads (length cells + 1) (omega arith)) (λ xs. TextAt r xs (b.place id) cells) inv_at

  -- a fact about the bytes after the call is one about those before
  pub step_back : (T : List ℕ → Type 0) → (TextAt r (content b id) (b.place id) cells → T (content b id)) → T (content a id)
  step_back T t = off_same given a b id init.feed.ended r.feed.ended ⊥ (IsWanted (text_kind init id) (content a id) (length cells + 1)) lt (inv_reads (length cells + 1) (omega arith)) T (t now_at)

  pub step_reads : ((bound : ℕ) → TextAt r (content b id) (b.place id) cells → length cells < bound → ReadsOn m b c id r.feed.ended z.feed.ended G (IsWanted (text_kind r id) (content b id) bound))
      → (bound : ℕ) → length cells < bound → ReadsOn given a c id init.feed.ended z.feed.ended G (IsWanted (text_kind init id) (content a id) bound)
  step_reads more bound few = more_reads given m a b c id init r init.feed.ended z.feed.ended bound ⊥ G lt same kind (inv_reads bound few) (λ x. x) (more bound now_at few)

-- an Ok is no failure
pub ok_fails : {T : Type 0} {v : T} {f : CellFault} → IsErrOf (Ok v) f → ⊥
ok_fails e = cc

-- a fault of a file is no failure of a read
pub was_err : {T : Type 0} (f : CellFault) → IsOfFile f → IsErrOf {T = T} (Err f) Failed → ⊥
was_err {T} (BadCell i) h e = cc
was_err {T} (CellRange i) h e = cc
was_err {T} (TooFew i) h e = cc
was_err {T} TooMany h e = cc
was_err {T} TooLong h e = cc
was_err {T} Failed h e = h
was_err {T} Memory h e = h

pub fault_is : (k : Kind) (bytes : List ℕ) (cells : List ℤ) (f : CellFault) → FailsAfter k.form k.ty k.cells bytes cells f → FaultIs k bytes cells f
fault_is k bytes cells (BadCell i) h = h
fault_is k bytes cells (CellRange i) h = h
fault_is k bytes cells (TooFew i) h = h
fault_is k bytes cells TooMany h = h
fault_is k bytes cells TooLong h = h
fault_is k bytes cells Failed h = tt
fault_is k bytes cells Memory h = tt

-- what a scan's fault is
pub text_fault : (init z : TextReader) (id : ℕ) (bytes : List ℕ) (cells : List ℤ) (f : CellFault) → KeepsKind init.scan z.scan → FailsAfter form.Text z.scan.ty z.scan.cells bytes cells f → FaultIs (text_kind init id) bytes cells f
text_fault init z id bytes cells f kind h = fault_is (text_kind init id) bytes cells f
    (let P : IntType → Type 0 = λ t. FailsAfter form.Text t init.scan.cells bytes cells f in
    let Q : ℕ → Type 0 = λ n. FailsAfter form.Text z.scan.ty n bytes cells f in
    subst P kind.ty (subst Q kind.cells h))

-- no count rose where a fault is the file's
pub cause_fault : {T : Type 0} (before now : ℕ) (f : CellFault) → IsOfFile f → now ≡ before → ReadCause {T = T} None before now (Err f)
cause_fault {T} before now f own same = record { later = omega arith; kept = λ p q. same; kept_again = λ p. same; failed = λ p e. absurd (was_err {T = T} f own e) }

-- the kind stays over two steps
pub kinds : (init r y z : TextScan) → KeepsKind init r → y ≡ r → KeepsKind y z → KeepsKind init z
kinds init r y z a same b = record { ty = b.ty ∙ ap (λ s. s.ty) same ∙ a.ty; cells = b.cells ∙ ap (λ s. s.cells) same ∙ a.cells }

-- the same Err of another result
pub err_same : {T U : Type 0} {e f : CellFault} → IsErrOf {T = T} (Err e) f → IsErrOf {T = U} (Err e) f
err_same {T} {U} {e} {f} h = let q : e ≡ f = cc in ap (λ (x : CellFault). Err x) q

-- an answer whose fault is the file's is no failure of a read
pub not_failed : (result : Result ℤ CellFault) → OrFault IsOfFile result → IsErrOf result Failed → ⊥
not_failed (Ok v) own e = ok_fails e
not_failed (Err f) own e = was_err {T = ℤ} f own e

-- what was used at the end of a file is all of it
pub all_used : (f : Feed) (used bytes : List ℕ) (place : ℕ) → FeedsOn f used bytes place → f.ended ≡ true → f.start ≡ f.filled → used ≡ bytes
all_used f used bytes place u ended done =
    let nothing : unread f ≡ [] = used_up f (omega arith) in
    sym (u.split ∙ ap (λ (xs : List ℕ). used ++ (xs ++ drop place bytes)) nothing ∙ ap (λ (xs : List ℕ). used ++ xs) (u.end ended) ∙ append-nil used)

-- the end of the file, where there are cells still to come
pub closing : (init r z : TextReader) (id : ℕ) (bytes : List ℕ) (place : ℕ) (cells : List ℤ) (result : Result ℤ CellFault) → r.feed.ended ≡ true → r.feed.start ≡ r.feed.filled → z.feed ≡ r.feed → KeepsKind init.scan z.scan → TextAt r bytes place cells
    → ((closed : Bool) (p : List ℕ) (cs : List ℤ) → IsScanOf closed r.scan p cs → Closes z.scan p cs result) → OneIs (TextAt z bytes place) (text_kind init id) bytes cells result
closing init r z id bytes place cells (Ok v) ended done same kind a closes =
    let P : Feed → Type 0 = λ f. FeedsOn f a.used bytes place in
    let Q : Feed → Type 0 = λ f. (f.ended ≡ true) × (unread f ≡ []) in
    record {
      closed = true;
      used = a.used;
      feeds = subst P (sym same) a.feeds;
      scan = closes a.closed a.used cells a.scan;
      over = λ e. subst Q (sym same) (ended, used_up r.feed (omega arith));
    }
closing init r z id bytes place cells (Err f) ended done same kind a closes =
    let P : List ℕ → Type 0 = λ xs. FaultIs (text_kind init id) xs cells f in
    subst P (all_used r.feed a.used bytes place a.feeds ended done) (text_fault init z id a.used cells f kind (closes a.closed a.used cells a.scan))

pub both_kinds : (x y z : TextScan) → KeepsKind x y → KeepsKind y z → KeepsKind x z
both_kinds x y z a b = record { ty = b.ty ∙ a.ty; cells = b.cells ∙ a.cells }

-- what the calls of a block so far have done, and one more call
module _ (given m : ℕ) (a b c : Store) (id : ℕ) (init r z : TextReader) (cs : List ℤ) (bound : ℕ) (lt : id < given) (same : m ≡ given) (kind : KeepsKind init.scan r.scan)
    (inv_at : TextAt r (content a id) (b.place id) cs) (x : ReadsOn given a b id init.feed.ended r.feed.ended ⊥ (IsWanted (text_kind init id) (content a id) bound)) where
  there : TextAt r (content b id) (b.place id) cs
  there = on_same given a b id init.feed.ended r.feed.ended ⊥ (IsWanted (text_kind init id) (content a id) bound) lt x (λ xs. TextAt r xs (b.place id) cs) inv_at

  -- a fact about the bytes after the call is one about those before
  pub block_back : (T : List ℕ → Type 0) → (TextAt r (content b id) (b.place id) cs → T (content b id)) → T (content a id)
  block_back T t = off_same given a b id init.feed.ended r.feed.ended ⊥ (IsWanted (text_kind init id) (content a id) bound) lt x T (t there)

  pub block_reads : (G : Type 0) → (TextAt r (content b id) (b.place id) cs → ReadsOn m b c id r.feed.ended z.feed.ended G (IsWanted (text_kind r id) (content b id) bound))
      → ReadsOn given a c id init.feed.ended z.feed.ended G (IsWanted (text_kind init id) (content a id) bound)
  block_reads G y = more_reads given m a b c id init r init.feed.ended z.feed.ended bound ⊥ G lt same kind x (λ h. h) (y there)

  -- a fault of the next cell
  pub block_fails : (cells : List ℤ) (block : List ℤ) (f : CellFault) (i : ℕ) → cs ≡ cells ++ take i block → i < length block → (TextAt r (content b id) (b.place id) cs → FaultIs (text_kind r id) (content b id) cs f)
      → bound ≡ length cells + length block → FailsBelow (text_kind init id) (content a id) (length cells + length block) f
  block_fails cells block f i is few fault e = record {
    cells = cs;
    below = (let n : length cs ≡ length cells + i = ap length is ∙ length-append cells (take i block) ∙ ap (λ k. length cells + k) (length-take-le i block (omega arith)) in omega arith);
    is =
        let P : Kind → Type 0 = λ k. FaultIs k (content a id) cs f in
        subst P (same_kind init r id kind) (block_back (λ xs. FaultIs (text_kind r id) xs cs f) fault);
  }

-- the cells of a block with one more
pub block_push : (cells block : List ℤ) (i : ℕ) (v : ℤ) → i < length block → cells ++ take (i + 1) (set block i v) ≡ (cells ++ take i block) ++ v ∷ []
block_push cells block i v lt = ap (λ (xs : List ℤ). cells ++ xs) (take_more_set block i v lt) ∙ sym (append_assoc cells (take i block) (v ∷ []))

-- the end of the file behind all cells
pub ending : (init r : TextReader) (id : ℕ) (bytes : List ℕ) (place : ℕ) (cells : List ℤ) → r.feed.ended ≡ true → r.feed.start ≡ r.feed.filled → KeepsKind init.scan r.scan → r.scan.number ≡ r.scan.cells → TextAt r bytes place cells
    → IsWhole form.Text init.scan.ty init.scan.cells bytes cells
ending init r id bytes place cells ended done kind all a =
    let whole = ends_whole a.closed r.scan a.used cells a.scan all in
    let P : List ℕ → Type 0 = λ xs. IsWhole form.Text r.scan.ty r.scan.cells xs cells in
    let Q : IntType → Type 0 = λ t. IsWhole form.Text t r.scan.cells bytes cells in
    let R : ℕ → Type 0 = λ n. IsWhole form.Text init.scan.ty n bytes cells in
    subst R kind.cells (subst Q kind.ty (subst P (all_used r.feed a.used bytes place a.feeds ended done) whole))
