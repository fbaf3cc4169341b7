-- Reads and writes by one id, by what their entries say in general.
use Rattle.std.proofs.Common.{◌≡◌, ◌⊎◌, ◌<◌, ◌≤◌, ℕ, zero, suc, ◌+◌, List, [], ◌∷◌, ◌++◌, Option, Some, None, All, refl, ap, subst, ◌∙◌, arith, inl, inr}
use Rattle.std.proofs.lemmas.List.Elements.{All-cons, All-head, All-nil, All-tail}
use Rattle.soda_io.specs.declared.call.FileCall.{FileCall}
use Rattle.soda_io.specs.declared.call.FileCall.TheVariants.{Open, Create, Read, Write}
use Rattle.whole_files.specs.Journal.{EndsFailed, IsFailed, IsReadBy, IsWriteBy, NoneAfterEnd, NoneAfterFailed, gots}
use Rattle.whole_files.proofs.CallerLemmas.{NotEnd, NotFailed, gots-append}
use Rattle.job_files.specs.Progress.{IsDone, IsFailedUse, MetNoEnd, MetTheEnd, askings}
use Rattle.job_files.proofs.Entries.{IsQuiet, OnlyReads, other_read, own_read}

-- two facts of each element give a third
pub both : {X : Type 0} (P Q R : X → Type 0) → ((x : X) → P x → Q x → R x) → (xs : List X) → All P xs → All Q xs → All R xs
both P Q R gives xs ps qs = λ k d lt. gives _ (ps k d lt) (qs k d lt)

-- entries the last of which failed, and no other
pub record LastFailed (P : FileCall → Type 0) (es : List FileCall) : Type 0 where
  pub more : List FileCall
  pub last : FileCall
  pub split : es ≡ more ++ last ∷ []
  pub is : IsFailed last
  pub by : P last
  pub own : All P more
  pub fine : All NotFailed more

pub last_failed : (P : FileCall → Type 0) → (es : List FileCall) → All P es → NoneAfterFailed es → EndsFailed es → LastFailed P es
last_failed P [] all none ends = absurd ends
last_failed P (e ∷ []) all none ends = record {
  more = [];
  last = e;
  split = refl;
  is = ends;
  by = All-head P e [] all;
  own = All-nil P;
  fine = All-nil NotFailed;
}
last_failed P (e ∷ f ∷ es) all none ends =
    let r = last_failed P (f ∷ es) (All-tail P e (f ∷ es) all) none.1 ends in
    record {
      more = e ∷ r.more;
      last = r.last;
      split = ap (λ (xs : List FileCall). e ∷ xs) r.split;
      is = r.is;
      by = r.by;
      own = All-cons P e r.more (All-head P e (f ∷ es) all) r.own;
      fine = All-cons NotFailed e r.more (λ is. let empty : f ∷ es ≡ [] = none.0 is in absurd (cc)) r.fine;
    }

-- reads by one id
pub reads_only : (id : ℕ) (es : List FileCall) → All (IsReadBy id) es → OnlyReads id es
reads_only id [] all = λ k ne. refl
reads_only id (Read i asked got ∷ es) all = λ k ne.
    other_read k i asked got es (λ e. ne (e ∙ All-head (IsReadBy id) (Read i asked got) es all))
    ∙ reads_only id es (All-tail (IsReadBy id) (Read i asked got) es all) k ne
reads_only id (Open name i ∷ es) all = absurd (All-head (IsReadBy id) (Open name i) es all)
reads_only id (Create name i ∷ es) all = absurd (All-head (IsReadBy id) (Create name i) es all)
reads_only id (Write i n t ∷ es) all = absurd (All-head (IsReadBy id) (Write i n t) es all)

pub reads_ask : (id : ℕ) (es : List FileCall) → All (IsReadBy id) es → askings es ≡ []
reads_ask id [] all = refl
reads_ask id (Read i asked got ∷ es) all = reads_ask id es (All-tail (IsReadBy id) (Read i asked got) es all)
reads_ask id (Open name i ∷ es) all = absurd (All-head (IsReadBy id) (Open name i) es all)
reads_ask id (Create name i ∷ es) all = absurd (All-head (IsReadBy id) (Create name i) es all)
reads_ask id (Write i n t ∷ es) all = absurd (All-head (IsReadBy id) (Write i n t) es all)

pub read_done : (first count id : ℕ) → first ≤ id → id < first + count → (e : FileCall) → IsReadBy id e → NotFailed e → IsDone first count e
read_done first count id le lt (Read i asked (Some n)) by fine = (omega (arith, by), omega (arith, by))
read_done first count id le lt (Read i asked None) by fine = absurd (fine refl)
read_done first count id le lt (Open name i) by fine = absurd by
read_done first count id le lt (Create name i) by fine = absurd by
read_done first count id le lt (Write i n t) by fine = absurd by

-- a read that failed
pub read_failed : (id : ℕ) (e : FileCall) → IsReadBy id e → IsFailed e → IsFailedUse id id e × (gots id (e ∷ []) ≡ None ∷ [])
read_failed id (Read i asked None) by is = ((by, refl), ap (λ (k : ℕ). gots id (Read k asked None ∷ [])) by ∙ own_read id asked None)
read_failed id (Read i asked (Some n)) by is = absurd (cc)
read_failed id (Open name i) by is = absurd by
read_failed id (Create name i) by is = absurd by
read_failed id (Write i n t) by is = absurd by

-- writes by one id
pub writes_quiet : (id : ℕ) (es : List FileCall) → All (IsWriteBy id) es → IsQuiet es
writes_quiet id [] all = λ k. refl
writes_quiet id (Write i n t ∷ es) all = writes_quiet id es (All-tail (IsWriteBy id) (Write i n t) es all)
writes_quiet id (Open name i ∷ es) all = absurd (All-head (IsWriteBy id) (Open name i) es all)
writes_quiet id (Create name i ∷ es) all = absurd (All-head (IsWriteBy id) (Create name i) es all)
writes_quiet id (Read i asked got ∷ es) all = absurd (All-head (IsWriteBy id) (Read i asked got) es all)

pub writes_ask : (id : ℕ) (es : List FileCall) → All (IsWriteBy id) es → askings es ≡ []
writes_ask id [] all = refl
writes_ask id (Write i n t ∷ es) all = writes_ask id es (All-tail (IsWriteBy id) (Write i n t) es all)
writes_ask id (Open name i ∷ es) all = absurd (All-head (IsWriteBy id) (Open name i) es all)
writes_ask id (Create name i ∷ es) all = absurd (All-head (IsWriteBy id) (Create name i) es all)
writes_ask id (Read i asked got ∷ es) all = absurd (All-head (IsWriteBy id) (Read i asked got) es all)

pub write_done : (first count id : ℕ) → first ≤ id → id < first + count → (e : FileCall) → IsWriteBy id e → NotFailed e → IsDone first count e
write_done first count id le lt (Write i n (Some t)) by fine = (omega (arith, by), omega (arith, by))
write_done first count id le lt (Write i n None) by fine = absurd (fine refl)
write_done first count id le lt (Open name i) by fine = absurd by
write_done first count id le lt (Create name i) by fine = absurd by
write_done first count id le lt (Read i asked got) by fine = absurd by

-- a write that failed
pub write_failed : (id next : ℕ) (e : FileCall) → IsWriteBy id e → IsFailed e → IsFailedUse id next e
write_failed id next (Write i n None) by is = by
write_failed id next (Write i n (Some t)) by is = absurd (cc)
write_failed id next (Open name i) by is = absurd by
write_failed id next (Create name i) by is = absurd by
write_failed id next (Read i asked got) by is = absurd by

some_more : (n : ℕ) → NotEnd (Some (suc n))
some_more n = λ is. let same : suc n ≡ 0 = cc in absurd (omega arith)

-- with one more before them that is no end
one_before : (g : Option ℕ) (gs : List (Option ℕ)) → NotEnd g → MetNoEnd gs ⊎ MetTheEnd gs → MetNoEnd (g ∷ gs) ⊎ MetTheEnd (g ∷ gs)
one_before g gs other (inl none) = inl (All-cons NotEnd g gs other none)
one_before g gs other (inr met) = inr (record {
  before = g ∷ met.before;
  last = ap (λ (xs : List (Option ℕ)). g ∷ xs) met.last;
  none = All-cons NotEnd g met.before other met.none;
})

-- reads met the end with the last of them, or not at all
pub end_or_not : (gs : List (Option ℕ)) → NoneAfterEnd gs → MetNoEnd gs ⊎ MetTheEnd gs
end_or_not [] none = inl (All-nil NotEnd)
end_or_not (None ∷ gs) none = one_before None gs (λ is. absurd (cc)) (end_or_not gs none.1)
end_or_not (Some zero ∷ gs) none = inr (record {
  before = [];
  last = ap (λ (xs : List (Option ℕ)). Some 0 ∷ xs) (none.0 refl);
  none = All-nil NotEnd;
})
end_or_not (Some (suc n) ∷ gs) none = one_before (Some (suc n)) gs (some_more n) (end_or_not gs none.1)

some_last : (gs : List (Option ℕ)) (g : Option ℕ) → gs ++ g ∷ [] ≡ [] → ⊥
some_last [] g is = absurd (cc)
some_last (x ∷ gs) g is = absurd (cc)

-- before the last of them none met the end
pub before_last : (gs : List (Option ℕ)) (g : Option ℕ) → NoneAfterEnd (gs ++ g ∷ []) → MetNoEnd gs
before_last [] g none = All-nil NotEnd
before_last (x ∷ gs) g none = All-cons NotEnd x gs (λ is. some_last gs g (none.0 is)) (before_last gs g none.1)

-- before a read that failed none met the end
pub before_failed : (id : ℕ) (more : List FileCall) (last : FileCall) → IsReadBy id last → IsFailed last
    → NoneAfterEnd (gots id (more ++ last ∷ [])) → MetNoEnd (gots id more)
before_failed id more last by is end =
    let f = read_failed id last by is in
    let P : List (Option ℕ) → Type 0 = λ gs. NoneAfterEnd gs in
    before_last (gots id more) None
    (subst P (gots-append id more (last ∷ []) ∙ ap (λ (gs : List (Option ℕ)). gots id more ++ gs) f.1) end)
