-- Lemmas that crates above cite.
use Rattle.std.proofs.Common.{◌≡◌, ◌≢◌, ◌<◌, ℕ, zero, suc, ◌+◌, List, [], length, slice_get, get_or, take, drop, Option, Some, unwrap_or, refl, sym, ap, subst, ◌∙◌, arith, ◌++◌, ◌∷◌, ◌≤◌, length-append, All, inl, inr}
use Rattle.std.proofs.lemmas.List.{append-nil, append_cancel_left, length-take}
use Rattle.std.proofs.lemmas.List.Elements.{All-nil}
use Rattle.std.proofs.lemmas.Option.{slice_get_within}
use Rattle.soda_io.specs.declared.call.FileCall.{FileCall}
use Rattle.soda_io.specs.Store.{KeepsIds, KeepsPlaces, Store, content, left}
use Rattle.whole_files.specs.Journal.{EndsFailed, IsReadBy, IsWriteBy, NoneAfterEnd, ReadsOf, WritesOf, gots}
use Rattle.whole_files.proofs.CallerLemmas.{NotFailed, none_failed}
use Rattle.job_files.specs.Contents.{Holding, Holds}
use Rattle.job_files.specs.Files.{JobFile, created_of, ids_from}
use Rattle.job_files.specs.Progress.{AreReadOut, GoesWell, IsDone, Progress, Stuck, created, failed}
use Rattle.job_files.specs.Steps.{Moves}
use Rattle.job_files.proofs.Advancing.{goes_on, sticks}
use Rattle.job_files.proofs.ByOneId.{before_failed, before_last, both, end_or_not, last_failed, read_done, read_failed, reads_ask, reads_only, write_done, write_failed, writes_ask, writes_quiet}
use Rattle.job_files.proofs.Created.{created-append, created_by, fault_none, those_first}
use Rattle.job_files.proofs.Entries.{read_on, read_out}
use Rattle.job_files.proofs.Going.{moved, quietly, reading_to}
-- the place of one file is another; what an output held; and the outputs where one holds other bytes
pub use Rattle.job_files.proofs.Going.{moved_is}
pub use Rattle.job_files.proofs.Outputs.{held_at, was_held}

-- a job that has asked for nothing yet
pub begin : (first : ℕ) (begun : Store) → Progress first begun [] 0 (λ n. 0) first begun
begin first begun = record {
  entries = [];
  calls = sym (append-nil begun.calls);
  well = record {
    count = omega arith;
    within = omega arith;
    done = All-nil (IsDone first 0);
    asked = refl;
    read = record { out = λ n lt. absurd (omega arith); next = All-nil (λ (g : Option ℕ). g ≡ Some 0 → ⊥); rest = λ n lt. refl };
    ids = λ n f is. absurd (cc);
    unread = λ n lt. refl;
    unasked = λ n le. refl;
  };
}

-- the n-th file that was asked for
module _ (first : ℕ) (begun : Store) (files : List JobFile) (ended : ℕ) (places : ℕ → ℕ) (given : ℕ) (now : Store)
    (p : Progress first begun files ended places given now) (n : ℕ) (f : JobFile) (is : slice_get files n ≡ Some f) where
  -- its id was given
  pub id_given : first + n < given
  id_given = let below : n < length files = slice_get_within files n f is in omega (arith, p.well.count)

  -- by its id
  pub id_name : now.name (first + n) ≡ f.name
  id_name = (p.well.ids n f is).name

  pub id_opened : now.opened (first + n) ≡ f.opened
  id_opened = (p.well.ids n f is).opened

  -- where nothing was read of it, all that its name holds is left
  pub whole_left : places n ≡ 0 → left now (first + n) ≡ unwrap_or (now.bytes f.name) []
  whole_left none =
      let at : now.place (first + n) ≡ 0 = (p.well.ids n f is).place ∙ none in
      ap (λ (k : ℕ). drop k (content now (first + n))) at ∙ ap (λ (name : List ℕ). unwrap_or (now.bytes name) []) id_name

-- behind a file that was read to its end, nothing was read of the next one
pub next_unread : (first : ℕ) (begun : Store) (files : List JobFile) (ended : ℕ) (places : ℕ → ℕ) (given : ℕ) (now : Store)
    → Progress first begun files ended places given now → (after : ℕ → ℕ) (place : ℕ) → Moves places after ended place → after (ended + 1) ≡ 0
next_unread first begun files ended places given now p after place m = m.others (ended + 1) (λ e. absurd (omega arith))
    ∙ p.well.unread (ended + 1) (omega arith)

-- the ids of a list of files
pub ids_at : (id count n d : ℕ) → n < count → get_or (ids_from id count) n d ≡ id + n
ids_at id zero n d lt = absurd (omega arith)
ids_at id (suc count) zero d lt = omega arith
ids_at id (suc count) (suc n) d lt = let e : id + 1 + n ≡ id + suc n = omega arith in ids_at (id + 1) count n d (omega arith) ∙ e

-- the names that were created since the job began
pub created_names : (first : ℕ) (begun : Store) (files : List JobFile) (ended : ℕ) (places : ℕ → ℕ) (given : ℕ) (now : Store)
    → Progress first begun files ended places given now → (entries : List FileCall) → now.calls ≡ begun.calls ++ entries → created entries ≡ created_of files
created_names first begun files ended places given now p entries calls =
    let same : entries ≡ p.entries = append_cancel_left begun.calls entries p.entries (sym calls ∙ p.calls) in
    ap created same ∙ created_by first files p.entries p.well.asked

-- where a call failed: those of the files that were given
pub created_until : (first : ℕ) (begun : Store) (files : List JobFile) (ended n : ℕ) (places : ℕ → ℕ) (given : ℕ) (now : Store)
    → Stuck first begun files ended n places given now → (entries : List FileCall) → now.calls ≡ begun.calls ++ entries
    → (count : ℕ) → given ≡ first + count → created entries ≡ created_of (take count files)
created_until first begun files ended n places given now s entries calls count is =
    let same : entries ≡ s.before ++ s.last ∷ [] = append_cancel_left begun.calls entries (s.before ++ s.last ∷ []) (sym calls ∙ s.calls) in
    let long : length s.those ≡ count = omega (arith, s.well.count) in
    ap created same ∙ created-append s.before (s.last ∷ [])
    ∙ ap (λ (ns : List (List ℕ)). created s.before ++ ns) (fault_none first ended files n s.those s.last s.fails)
    ∙ append-nil (created s.before) ∙ created_by first s.those s.before s.well.asked
    ∙ ap created_of (sym (those_first first ended files n s.those s.last s.fails) ∙ ap (λ (k : ℕ). take k files) long)

-- Where memory was refused, as many of the files were asked for as ids were given.
pub as_many_as_given : (first : ℕ) (begun : Store) (files more : List JobFile) (ended : ℕ) (places : ℕ → ℕ) (given : ℕ) (now : Store) (count : ℕ)
    → count ≤ length more
    → Progress first begun (files ++ take count more) ended places given now → (before ids : ℕ) → before ≡ first + length files → given ≡ before + ids
    → count ≡ ids
as_many_as_given first begun files more ended places given now count within p before ids was is = omega
    (arith, p.well.count, length-append files (take count more), length-take count more)

-- no output yet
pub holds_none : (before : Holding) → Holds before before []
holds_none before = record { apart = tt; own = λ k d lt. absurd (omega arith); others = λ name free. refl }

-- a step that changes the bytes of no name
pub holds_kept : (before old new : Holding) (outputs : List (List ℕ × List ℕ)) → ((name : List ℕ) → new name ≡ old name) → Holds before old outputs
    → Holds before new outputs
holds_kept before old new outputs keeps h = record
    { apart = h.apart; own = λ k d lt. keeps _ ∙ h.own k d lt; others = λ name free. keeps name ∙ h.others name free }

-- a job whose files were used by one id alone
module _ (first : ℕ) (begun : Store) (files : List JobFile) (ended : ℕ) (places : ℕ → ℕ) (given : ℕ) (old : Store)
    (p : Progress first begun files ended places given old) (now : ℕ) (new : Store) (same : now ≡ given) (ids : KeepsIds given old new)
    (entries : List FileCall) (calls : new.calls ≡ old.calls ++ entries) where
  -- the next file was read
  module _ (below : ended < length files) (others : (k : ℕ) → k < given → k ≢ first + ended → new.place k ≡ old.place k)
      (reads : ReadsOf (first + ended) entries) where
    went : (es : List FileCall) → All (IsReadBy (first + ended)) es → All NotFailed es → (stage : ℕ) → (ended ≤ stage) × (stage ≤ length files)
        → AreReadOut first stage (p.entries ++ es)
        → GoesWell first files stage (moved places ended (new.place (first + ended))) given new (p.entries ++ es)
    went es own fine stage within read =
        reading_to first files ended places given old p.entries p.well new ids below others es
        (both (IsReadBy (first + ended)) NotFailed (IsDone first (length files))
        (read_done first (length files) (first + ended) (omega arith) (omega arith)) es own fine)
        (reads_ask (first + ended) es own) stage within read (new.place (first + ended)) refl

    onward : (EndsFailed entries → ⊥) → (stage : ℕ) → (ended ≤ stage) × (stage ≤ length files) → AreReadOut first stage (p.entries ++ entries)
        → Progress first begun files stage (moved places ended (new.place (first + ended))) now new
    onward fine stage within read =
        goes_on first begun files ended places given old p now new same entries calls stage (moved places ended (new.place (first + ended)))
        (went entries reads.own (none_failed entries reads.failed fine) stage within read)

    -- no read failed: it was read to its end or not
    pub reads_on : (EndsFailed entries → ⊥) → (reached : ℕ) × (ended ≤ reached) × (reached ≤ ended + 1)
        × Progress first begun files reached (moved places ended (new.place (first + ended))) now new
    reads_on fine = elim (end_or_not (gots (first + ended) entries) reads.end) [
      | inl none ↦ (
        ended,
        omega arith,
        omega arith,
        onward fine ended (omega arith, omega arith)
            (read_on first ended p.entries p.well.read entries (reads_only (first + ended) entries reads.own) none),
      )
      | inr met ↦ (
        ended + 1,
        omega arith,
        omega arith,
        onward fine (ended + 1) (omega arith, omega arith)
            (read_out first ended p.entries p.well.read entries (reads_only (first + ended) entries reads.own) met.before met.last met.none),
      )
    ]

    -- no read failed, and the last met the end
    pub reads_out : (EndsFailed entries → ⊥) → (before : List (Option ℕ)) → gots (first + ended) entries ≡ before ++ Some 0 ∷ []
        → Progress first begun files (ended + 1) (moved places ended (new.place (first + ended))) now new
    reads_out fine before last =
        let P : List (Option ℕ) → Type 0 = λ gs. NoneAfterEnd gs in
        onward fine (ended + 1) (omega arith, omega arith)
        (read_out first ended p.entries p.well.read entries (reads_only (first + ended) entries reads.own) before last
        (before_last before (Some 0) (subst P last reads.end)))

    -- the last read failed
    pub reads_stuck : EndsFailed entries → Stuck first begun files ended ended (moved places ended (new.place (first + ended))) now new
    reads_stuck ends =
        let l = last_failed (IsReadBy (first + ended)) entries reads.own reads.failed ends in
        let P : List FileCall → Type 0 = λ es. NoneAfterEnd (gots (first + ended) es) in
        sticks first begun files ended places given old p now new same l.more l.last
        (calls ∙ ap (λ (es : List FileCall). old.calls ++ es) l.split) (moved places ended (new.place (first + ended)))
        (went l.more l.own l.fine ended (omega arith, omega arith)
        (read_on first ended p.entries p.well.read l.more (reads_only (first + ended) l.more l.own)
        (before_failed (first + ended) l.more l.last l.by l.is (subst P l.split reads.end))))
        files ended (failed refl below (read_failed (first + ended) l.last l.by l.is).0)

  -- the n-th file was written
  module _ (n : ℕ) (below : n < length files) (stay : KeepsPlaces given old new) (writes : WritesOf (first + n) entries) where
    wrote : (es : List FileCall) → All (IsWriteBy (first + n)) es → All NotFailed es → GoesWell first files ended places given new (p.entries ++ es)
    wrote es own fine =
        quietly first files ended places given old p.entries p.well new ids stay es
        (both (IsWriteBy (first + n)) NotFailed (IsDone first (length files))
        (write_done first (length files) (first + n) (omega arith) (omega arith)) es own fine)
        (writes_ask (first + n) es own) (writes_quiet (first + n) es own)

    -- no write failed
    pub writes_on : (EndsFailed entries → ⊥) → Progress first begun files ended places now new
    writes_on fine =
        goes_on first begun files ended places given old p now new same entries calls ended places
        (wrote entries writes.own (none_failed entries writes.failed fine))

    -- the last write failed
    pub writes_stuck : EndsFailed entries → Stuck first begun files ended n places now new
    writes_stuck ends =
        let l = last_failed (IsWriteBy (first + n)) entries writes.own writes.failed ends in
        sticks first begun files ended places given old p now new same l.more l.last
        (calls ∙ ap (λ (es : List FileCall). old.calls ++ es) l.split) places (wrote l.more l.own l.fine)
        files n (failed refl below (write_failed (first + n) (first + ended) l.last l.by l.is))
