-- Two calls of a reader or of a writer in a row.
use Rattle.std.proofs.Common.{◌≡◌, ◌<◌, ℕ, Bool, true, false, List, [], ◌∷◌, ◌++◌, length, take, drop, ℤ, Option, Some, None, Result, Ok, Err, OnOk, All, unwrap_or, refl, sym, ap, subst, ◌∙◌, arith, append_assoc}
use Rattle.std.proofs.lemmas.List.{append-nil, take_all}
use Rattle.std.proofs.lemmas.List.Elements.{All-append}
use Rattle.soda_io.specs.declared.call.FileCall.{FileCall}
use Rattle.soda_io.specs.declared.error.IoErr.{IoErr}
use Rattle.soda_io.specs.Store.{KeepsBytes, KeepsIds, Store, content}
use Rattle.whole_files.specs.Journal.{IsReadBy, IsWriteBy, NoneAfterEnd, gots}
use Rattle.whole_files.proofs.CallerLemmas.{NotFailed, ends_behind, ends_with, gots-append, none_after_end-append, none_after_failed-append, none_failed}
use Rattle.array_bytes.specs.declared.fault.CellFault.{CellFault}
use Rattle.array_bytes.specs.declared.fault.CellFault.TheVariants.{BadCell, CellRange, TooFew, TooMany, TooLong, Failed, Memory}
use Rattle.bursts.specs.Blocks.{BlockIs, EndIs, EndsLast, FailsNow, Kind, ReadCause, ReadsOn, WritesOn, cells_in}
use Rattle.bursts.specs.Readers.{StandsAt, kind}
use Rattle.bursts.specs.declared.reader.CellReader.{CellReader}
use Rattle.job_arrays.specs.Machine.OneFile.{CellsAre, ReadsFile}

keeps_ids : (given : ℕ) (old mid new : Store) → KeepsIds given old mid → KeepsIds given mid new → KeepsIds given old new
keeps_ids given old mid new a b = record { name = λ k lt. b.name k lt ∙ a.name k lt; opened = λ k lt. b.opened k lt ∙ a.opened k lt }

-- a fault of the first call
module _ (k : Kind) (bytes : List ℕ) (given : ℕ) (out : List ℤ) where
  pub block_fault : (f : CellFault) → BlockIs k bytes given out (Err f) → CellsAre k.form k.ty k.cells bytes out (Err f)
  block_fault (BadCell i) b = λ of. b.0
  block_fault (CellRange i) b = λ of. b.0
  block_fault (TooFew n) b = λ of. b.0
  block_fault TooMany b = λ of. b.0
  block_fault TooLong b = λ of. b.0
  block_fault Failed b = λ of. absurd of
  block_fault Memory b = λ of. absurd of

  end_fault : (f : CellFault) → EndIs k bytes (Err f) → CellsAre k.form k.ty k.cells bytes out (Err f)
  end_fault (BadCell i) b = λ of. b.0
  end_fault (CellRange i) b = λ of. b.0
  end_fault (TooFew n) b = λ of. b.0
  end_fault TooMany b = λ of. b.0
  end_fault TooLong b = λ of. b.0
  end_fault Failed b = λ of. absurd of
  end_fault Memory b = λ of. absurd of

  -- all cells, and then the end
  cells_then : given ≡ 0 → length out ≡ k.cells → BlockIs k bytes given out (Ok tt) → (r : Result (Unit {0}) CellFault) → EndIs k bytes r
      → CellsAre k.form k.ty k.cells bytes out r
  cells_then none long b (Err f) e = end_fault f e
  cells_then none long b (Ok u) e =
      let all : take (length out) (cells_in k bytes) ≡ cells_in k bytes = take_all (length out) (cells_in k bytes) (omega (arith, e.1)) in
      (e.0, sym all ∙ ap (λ (n : ℕ). take (length out) (drop n (cells_in k bytes))) (sym none) ∙ sym b.1)

  -- where the end's reader is of the same kind, and the file holds the same
  pub cells_both : given ≡ 0 → length out ≡ k.cells → BlockIs k bytes given out (Ok tt)
      → (r : Result (Unit {0}) CellFault) (kind : Kind) (then : List ℕ) → kind ≡ k → then ≡ bytes → EndIs kind then r
      → CellsAre k.form k.ty k.cells bytes out r
  cells_both none long b r kind then same held e =
      let P : Kind → Type 0 = λ q. EndIs q then r in
      let Q : List ℕ → Type 0 = λ bs. EndIs k bs r in
      cells_then none long b r (subst Q held (subst P same e))

-- a reader that stops at its first call
pub read_once : (given : ℕ) (old new : Store) (id : ℕ) (before after : Bool) (P : ℕ → ℕ → Type 0) (fault : Option CellFault) (f : CellFault)
    → fault ≡ None → ReadsOn given old new id before after (FailsNow fault (Err f)) P → ReadsFile given old new id (Err f)
read_once given old new id before after P fault f none a = record {
  ids = a.ids;
  bytes = a.bytes;
  others = a.others;
  entries = a.entries;
  calls = a.calls;
  reads = a.reads;
  failed = (λ is. a.failed.0 (none, is), λ ends. (a.failed.1 ends).1);
  end = tt;
}

-- a reader's two calls, the first of which is Ok
module _ (given : ℕ) (old mid new : Store) (id : ℕ) (begins done over : Bool) (P Q : ℕ → ℕ → Type 0) (first second : Option CellFault)
    (a : ReadsOn given old mid id begins done (FailsNow first (Ok tt)) P) (r : Result (Unit {0}) CellFault)
    (b : ReadsOn given mid new id done over (FailsNow second r) Q) (none : second ≡ None) (begin : begins ≡ false) where
  fine : All NotFailed a.entries
  fine = none_failed a.entries a.reads.failed (λ ends. let bad = (a.failed.1 ends).1 in absurd (cc))

  both_calls : new.calls ≡ old.calls ++ (a.entries ++ b.entries)
  both_calls = b.calls ∙ ap (λ (es : List FileCall). es ++ b.entries) a.calls ∙ append_assoc old.calls a.entries b.entries

  quiet_end : done ≡ true → gots id (a.entries ++ b.entries) ≡ gots id a.entries
  quiet_end q = ap (λ (es : List FileCall). gots id (a.entries ++ es)) (b.quiet q) ∙ ap (gots id) (append-nil a.entries)

  both_end : NoneAfterEnd (gots id (a.entries ++ b.entries))
  both_end =
      let N : List (Option ℕ) → Type 0 = λ gs. NoneAfterEnd gs in
      elim done as (λ d. done ≡ d → NoneAfterEnd (gots id (a.entries ++ b.entries))) [
        | true ↦ λ q. subst N (sym (quiet_end q)) a.reads.end
        | false ↦ λ q. subst N (sym (gots-append id a.entries b.entries))
            (none_after_end-append (gots id a.entries) (gots id b.entries) (a.going q) b.reads.end)
      ] refl

  last_met : over ≡ true → EndsLast (gots id (a.entries ++ b.entries))
  last_met ended = elim done as (λ d. done ≡ d → EndsLast (gots id (a.entries ++ b.entries))) [
    | true ↦ λ q. let m = a.met begin q in (m.0, quiet_end q ∙ m.1)
    | false ↦ λ q.
        let m = b.met q ended in (
          gots id a.entries ++ m.0,
          gots-append id a.entries b.entries ∙ ap (λ (gs : List (Option ℕ)). gots id a.entries ++ gs) m.1
              ∙ sym (append_assoc (gots id a.entries) m.0 (Some 0 ∷ [])),
        )
  ] refl

  at_ok : (s : Result (Unit {0}) CellFault) → OnOk s (over ≡ true) → OnOk s (EndsLast (gots id (a.entries ++ b.entries)))
  at_ok (Ok u) ended = last_met ended
  at_ok (Err f) ended = tt

  read_twice : OnOk r (over ≡ true) → ReadsFile given old new id r
  read_twice ended = record {
    ids = keeps_ids given old mid new a.ids b.ids;
    bytes = λ n. b.bytes n ∙ a.bytes n;
    others = λ k lt ne. b.others k lt ne ∙ a.others k lt ne;
    entries = a.entries ++ b.entries;
    calls = both_calls;
    reads = record {
      own = All-append (IsReadBy id) a.entries b.entries a.reads.own b.reads.own;
      failed = none_after_failed-append a.entries b.entries fine b.reads.failed;
      end = both_end;
    };
    failed = (
      λ is. ends_with a.entries b.entries (b.failed.0 (none, is)),
      λ ends. (b.failed.1 (ends_behind a.entries b.entries fine ends)).1,
    );
    end = at_ok r ended;
  }

-- the same, where the second call is by an id and after a number of ids that are those of the first
pub reads_file : (given now : ℕ) (old mid new : Store) (id its : ℕ) (begins done over : Bool) (P Q : ℕ → ℕ → Type 0) (first second : Option CellFault)
    → ReadsOn given old mid id begins done (FailsNow first (Ok tt)) P
    → (r : Result (Unit {0}) CellFault) → ReadsOn now mid new its done over (FailsNow second r) Q → now ≡ given → its ≡ id → second ≡ None
    → begins ≡ false → OnOk r (over ≡ true) → ReadsFile given old new id r
reads_file given now old mid new id its begins done over P Q first second a r b same held none begin ended =
    let A : ℕ → Type 0 = λ n. ReadsOn n mid new its done over (FailsNow second r) Q in
    let B : ℕ → Type 0 = λ k. ReadsOn given mid new k done over (FailsNow second r) Q in
    read_twice given old mid new id begins done over P Q first second a r (subst B held (subst A same b)) none begin ended

-- the count of faults over a reader's two calls
pub cause_both : (before mid after : ℕ) (first second : Option CellFault) (r : Result (Unit {0}) CellFault) → first ≡ None → second ≡ None
    → ReadCause {T = Unit {0}} first before mid (Ok tt) → ReadCause second mid after r → ReadCause None before after r
cause_both before mid after first second r none still a b =
    let kept : mid ≡ before = a.kept (λ is. absurd (cc)) (λ is. absurd (cc)) in
    let P : ℕ → Type 0 = λ n. ReadCause second n after r in
    let Q : Option CellFault → Type 0 = λ f. ReadCause f before after r in
    subst Q still (subst P kept b)

-- a writer's two calls, the first of which is Ok
write_twice : (given : ℕ) (old mid new : Store) (id : ℕ) (r : Result (Unit {0}) IoErr) → id < given
    → WritesOn given old mid id (Ok tt) → WritesOn given mid new id r → WritesOn given old new id r
write_twice given old mid new id r lt a b =
    let fine : All NotFailed a.entries = none_failed a.entries a.writes.failed (λ ends. let bad = a.failed.1 ends in absurd (cc)) in
    record {
      ids = keeps_ids given old mid new a.ids b.ids;
      places = λ k below. b.places k below ∙ a.places k below;
      others = λ n ne. b.others n (λ e. ne (e ∙ a.ids.name id lt)) ∙ a.others n ne;
      entries = a.entries ++ b.entries;
      calls = b.calls ∙ ap (λ (es : List FileCall). es ++ b.entries) a.calls ∙ append_assoc old.calls a.entries b.entries;
      writes = record {
        own = All-append (IsWriteBy id) a.entries b.entries a.writes.own b.writes.own;
        failed = none_after_failed-append a.entries b.entries fine b.writes.failed;
      };
      failed = (λ is. ends_with a.entries b.entries (b.failed.0 is), λ ends. b.failed.1 (ends_behind a.entries b.entries fine ends));
    }

pub writes_file : (given now : ℕ) (old mid new : Store) (id its : ℕ) (r : Result (Unit {0}) IoErr) → id < given
    → WritesOn given old mid id (Ok tt) → WritesOn now mid new its r → now ≡ given → its ≡ id → WritesOn given old new id r
writes_file given now old mid new id its r lt a b same held =
    let A : ℕ → Type 0 = λ n. WritesOn n mid new its r in
    let B : ℕ → Type 0 = λ k. WritesOn given mid new k r in
    write_twice given old mid new id r lt a (subst B held (subst A same b))
