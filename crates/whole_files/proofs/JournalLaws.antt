-- Laws of what journals say.
use Rattle.std.proofs.Common.{◌≡◌, ◌==◌, ℕ, true, false, if◌then◌else◌, List, [], ◌∷◌, ◌++◌, Option, Some, None, Result, Ok, Err, All, IsErrOf, refl, sym, subst, arith, ◌↔◌}
use Rattle.std.proofs.lemmas.Bool.{false≢true}
use Rattle.std.proofs.lemmas.List.Elements.{All-append, All-cons, All-nil, All-head, All-tail, All-weaker}
use Rattle.soda_io.specs.declared.error.IoErr.{IoErr}
use Rattle.soda_io.specs.declared.error.IoErr.TheVariants as io
use Rattle.soda_io.specs.declared.call.FileCall.{FileCall}
use Rattle.soda_io.specs.declared.call.FileCall.TheVariants.{Open, Create, Read, Write}
use Rattle.whole_files.specs.declared.reading.ReadFail.{ReadFail}
use Rattle.whole_files.specs.declared.reading.ReadFail.TheVariants as fail
use Rattle.whole_files.specs.Journal.{IsFailed, IsReadBy, IsWriteBy, IsGot, IsTaken, gots, NoneAfterEnd, EndsFailed, ReadsOf, WritesOf}
use Rattle.whole_files.specs.Reading.{last_read}
use Rattle.whole_files.specs.Writing.{last_write}
use Rattle.whole_files.proofs.CallerLemmas.{NotEnd, NotFailed, gots-append, none_after_end-append, none_after_failed-append, none_fails}

-- a list with a failed entry last ends failed
pub ends_failed-push : (xs : List FileCall) (e : FileCall) → IsFailed e → EndsFailed (xs ++ e ∷ [])
ends_failed-push [] e is = is
ends_failed-push (x ∷ []) e is = is
ends_failed-push (x ∷ y ∷ ys) e is = ends_failed-push (y ∷ ys) e is

-- the last entry is the one that failed
pub failed_of_push : (xs : List FileCall) (e : FileCall) → EndsFailed (xs ++ e ∷ []) → IsFailed e
failed_of_push [] e ends = ends
failed_of_push (x ∷ []) e ends = ends
failed_of_push (x ∷ y ∷ ys) e ends = failed_of_push (y ∷ ys) e ends

-- reads that got some bytes
got_own : (id : ℕ) (e : FileCall) → IsGot id e → IsReadBy id e
got_own id (Open name i) got = got
got_own id (Create name i) got = got
got_own id (Read i asked (Some n)) got = got.0
got_own id (Read i asked None) got = absurd got
got_own id (Write i given taken) got = got

-- a read that got some bytes didn't fail
pub got_not_failed : (id : ℕ) (e : FileCall) → IsGot id e → NotFailed e
got_not_failed id (Open name i) got = absurd got
got_not_failed id (Create name i) got = absurd got
got_not_failed id (Read i asked (Some n)) got = λ is. false≢true (sym is)
got_not_failed id (Read i asked None) got = absurd got
got_not_failed id (Write i given taken) got = absurd got

got_not_end : (id : ℕ) (es : List FileCall) → All (IsGot id) es → All NotEnd (gots id es)
got_not_end id [] all = All-nil NotEnd
got_not_end id (Open name i ∷ es) all = absurd (All-head (IsGot id) (Open name i) es all)
got_not_end id (Create name i ∷ es) all = absurd (All-head (IsGot id) (Create name i) es all)
got_not_end id (Read i asked None ∷ es) all = absurd (All-head (IsGot id) (Read i asked None) es all)
got_not_end id (Read i asked (Some n) ∷ es) all =
    let head = All-head (IsGot id) (Read i asked (Some n)) es all in
    let rest = got_not_end id es (All-tail (IsGot id) (Read i asked (Some n)) es all) in
    let some : NotEnd (Some n) = λ is. let zero : n ≡ 0 = cc in absurd (omega (arith, head.1)) in
    elim (i == id) as (λ b. All NotEnd (if b then (Some n ∷ gots id es) else gots id es)) [
      | true ↦ All-cons NotEnd (Some n) (gots id es) some rest
      | false ↦ rest
    ]
got_not_end id (Write i given taken ∷ es) all = absurd (All-head (IsGot id) (Write i given taken) es all)

-- reads that got some bytes, and then others of these
pub reads_of : (id : ℕ) (es last : List FileCall) → All (IsGot id) es → ReadsOf id last → ReadsOf id (es ++ last)
reads_of id es last got r = record {
  own = All-append (IsReadBy id) es last (All-weaker _ _ (got_own id) es got) r.own;
  failed = none_after_failed-append es last (All-weaker _ _ (got_not_failed id) es got) r.failed;
  end =
      let P : List (Option ℕ) → Type 0 = λ gs. NoneAfterEnd gs in
      subst P (sym (gots-append id es last)) (none_after_end-append (gots id es) (gots id last) (got_not_end id es got) r.end);
}

no_reads : (id : ℕ) → ReadsOf id []
no_reads id = record { own = All-nil (IsReadBy id); failed = tt; end = tt }

one_read : (id asked : ℕ) (got : Option ℕ) → ReadsOf id (Read id asked got ∷ [])
one_read id asked got = record {
  own = All-cons (IsReadBy id) (Read id asked got) [] refl (All-nil (IsReadBy id));
  failed = (λ is. refl, tt);
  end = elim (id == id) as (λ b. NoneAfterEnd (if b then (got ∷ []) else [])) [ true ↦ (λ is. refl, tt) | false ↦ tt ];
}

-- the last read by itself
pub last_reads : (id asked : ℕ) (r : Result (List ℕ) ReadFail) → ReadsOf id (last_read id asked r)
last_reads id asked (Ok bytes) = one_read id asked (Some 0)
last_reads id asked (Err fail.Failed) = one_read id asked None
last_reads id asked (Err fail.TooLong) = no_reads id
last_reads id asked (Err fail.Memory) = no_reads id

-- the answer is `Failed` exactly where the last read failed
pub last_read_fails : (id asked : ℕ) (es : List FileCall) → All (IsGot id) es → (r : Result (List ℕ) ReadFail) → IsErrOf r fail.Failed ↔ EndsFailed (es ++ last_read id asked r)
last_read_fails id asked es got (Ok bytes) = (λ is. absurd (cc), λ ends. absurd (false≢true (sym (failed_of_push es (Read id asked (Some 0)) ends))))
last_read_fails id asked es got (Err fail.Failed) = (λ is. ends_failed-push es (Read id asked None) refl, λ ends. refl)
last_read_fails id asked es got (Err fail.TooLong) = (λ is. absurd (cc), λ ends. absurd (none_fails (es ++ []) (All-append NotFailed es [] (All-weaker _ _ (got_not_failed id) es got) (All-nil NotFailed)) ends))
last_read_fails id asked es got (Err fail.Memory) = (λ is. absurd (cc), λ ends. absurd (none_fails (es ++ []) (All-append NotFailed es [] (All-weaker _ _ (got_not_failed id) es got) (All-nil NotFailed)) ends))

-- writes that took some bytes
taken_own : (id : ℕ) (e : FileCall) → IsTaken id e → IsWriteBy id e
taken_own id (Open name i) taken = taken
taken_own id (Create name i) taken = taken
taken_own id (Read i asked got) taken = taken
taken_own id (Write i given (Some n)) taken = taken.0
taken_own id (Write i given None) taken = absurd taken

-- a write that took some bytes didn't fail
pub taken_not_failed : (id : ℕ) (e : FileCall) → IsTaken id e → NotFailed e
taken_not_failed id (Open name i) taken = absurd taken
taken_not_failed id (Create name i) taken = absurd taken
taken_not_failed id (Read i asked got) taken = absurd taken
taken_not_failed id (Write i given (Some n)) taken = λ is. false≢true (sym is)
taken_not_failed id (Write i given None) taken = absurd taken

-- writes that took some bytes, and then others of these
pub writes_of : (id : ℕ) (es last : List FileCall) → All (IsTaken id) es → WritesOf id last → WritesOf id (es ++ last)
writes_of id es last taken w = record {
  own = All-append (IsWriteBy id) es last (All-weaker _ _ (taken_own id) es taken) w.own;
  failed = none_after_failed-append es last (All-weaker _ _ (taken_not_failed id) es taken) w.failed;
}

no_writes : (id : ℕ) → WritesOf id []
no_writes id = record { own = All-nil (IsWriteBy id); failed = tt }

-- the last write by itself
pub last_writes : (id given : ℕ) (r : Result (Unit {0}) IoErr) → WritesOf id (last_write id given r)
last_writes id given (Ok u) = no_writes id
last_writes id given (Err io.Failed) = record { own = All-cons (IsWriteBy id) (Write id given None) [] refl (All-nil (IsWriteBy id)); failed = (λ is. refl, tt) }
last_writes id given (Err io.Memory) = no_writes id

-- the answer is `Failed` exactly where the last write failed
pub last_write_fails : (id given : ℕ) (es : List FileCall) → All (IsTaken id) es → (r : Result (Unit {0}) IoErr) → IsErrOf r io.Failed ↔ EndsFailed (es ++ last_write id given r)
last_write_fails id given es taken (Ok u) = (λ is. absurd (cc), λ ends. absurd (none_fails (es ++ []) (All-append NotFailed es [] (All-weaker _ _ (taken_not_failed id) es taken) (All-nil NotFailed)) ends))
last_write_fails id given es taken (Err io.Failed) = (λ is. ends_failed-push es (Write id given None) refl, λ ends. refl)
last_write_fails id given es taken (Err io.Memory) = (λ is. absurd (cc), λ ends. absurd (none_fails (es ++ []) (All-append NotFailed es [] (All-weaker _ _ (taken_not_failed id) es taken) (All-nil NotFailed)) ends))
