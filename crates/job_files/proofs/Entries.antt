-- What the entries of a journal say, in a list and behind one another.
use Rattle.std.proofs.Common.{◌≡◌, ◌≢◌, ◌⊎◌, ◌==◌, ◌<◌, ◌≤◌, ℕ, zero, suc, ◌+◌, Bool, true, false, List, [], ◌∷◌, ◌++◌, length, slice_get, Option, Some, None, All, refl, sym, ap, subst, ◌∙◌, arith, append_assoc, inl, inr, if◌then◌else◌, eq-eqb}
use Rattle.std.proofs.lemmas.Bool.{cases_order, eqb-true}
use Rattle.std.proofs.lemmas.List.{append-nil}
use Rattle.std.proofs.lemmas.List.Elements.{All-append, All-cons, All-head, All-nil, All-tail}
use Rattle.soda_io.specs.declared.call.FileCall.{FileCall}
use Rattle.soda_io.specs.declared.call.FileCall.TheVariants.{Open, Create, Read, Write}
use Rattle.whole_files.specs.Journal.{IsGot, IsTaken, gots}
use Rattle.whole_files.proofs.CallerLemmas.{gots-append}
use Rattle.job_files.specs.Files.{JobFile}
use Rattle.job_files.specs.Progress.{AreReadOut, IsDone, MetNoEnd, MetTheEnd, askings, given_from}

-- an asking with its id
abbrev pub Asking : Type 0
Asking = Bool × List ℕ × Option ℕ

pub askings-append : (xs ys : List FileCall) → askings (xs ++ ys) ≡ askings xs ++ askings ys
askings-append [] ys = refl
askings-append (Open name id ∷ xs) ys = ap (λ (qs : List Asking). (true, name, id) ∷ qs) (askings-append xs ys)
askings-append (Create name id ∷ xs) ys = ap (λ (qs : List Asking). (false, name, id) ∷ qs) (askings-append xs ys)
askings-append (Read id asked got ∷ xs) ys = askings-append xs ys
askings-append (Write id given taken ∷ xs) ys = askings-append xs ys

pub given_from-push : (id : ℕ) (fs : List JobFile) (f : JobFile)
    → given_from id (fs ++ f ∷ []) ≡ given_from id fs ++ (f.opened, f.name, Some (id + length fs)) ∷ []
given_from-push id [] f = let e : id ≡ id + 0 = omega arith in ap (λ (k : ℕ). let a : Asking = (f.opened, f.name, Some k) in a ∷ []) e
given_from-push id (g ∷ fs) f =
    let e : id + 1 + length fs ≡ id + suc (length fs) = omega arith in
    let head : Asking = (g.opened, g.name, Some id) in
    ap (λ (qs : List Asking). head ∷ qs) (given_from-push (id + 1) fs f
    ∙ ap (λ (k : ℕ). let a : Asking = (f.opened, f.name, Some k) in given_from (id + 1) fs ++ a ∷ []) e)

-- a file of a list with one more
pub at_push : (fs : List JobFile) (f : JobFile) (n : ℕ) (x : JobFile) → slice_get (fs ++ f ∷ []) n ≡ Some x
    → (slice_get fs n ≡ Some x) ⊎ ((n ≡ length fs) × (f ≡ x))
at_push [] f zero x e = inr (refl, cc)
at_push [] f (suc n) x e = absurd (cc)
at_push (g ∷ fs) f zero x e = inl e
at_push (g ∷ fs) f (suc n) x e = elim (at_push fs f n x e) [ inl old ↦ inl old | inr new ↦ inr (ap suc new.0, new.1) ]

-- a place in a list has its file
pub there : (fs : List JobFile) (n : ℕ) → n < length fs → (f : JobFile) × (slice_get fs n ≡ Some f)
there [] n lt = absurd (omega arith)
there (f ∷ fs) zero lt = (f, refl)
there (f ∷ fs) (suc n) lt = there fs n (omega arith)

-- a read of another id, and of the id
pub other_read : (k id asked : ℕ) (got : Option ℕ) (es : List FileCall) → k ≢ id → gots k (Read id asked got ∷ es) ≡ gots k es
other_read k id asked got es ne =
    elim (id == k) as (λ t. (id == k) ≡ t → (if t then (got ∷ gots k es) else gots k es) ≡ gots k es) [
      | true ↦ λ q. absurd (ne (sym (eqb-true id k q)))
      | false ↦ λ q. refl
    ] refl

pub own_read : (id asked : ℕ) (got : Option ℕ) → gots id (Read id asked got ∷ []) ≡ got ∷ []
own_read id asked got = ap (λ t. if t then (got ∷ []) else []) (eq-eqb id id refl)

-- entries that read nothing
abbrev pub IsQuiet : List FileCall → Type 0
IsQuiet entries = (k : ℕ) → gots k entries ≡ []

-- entries that read by this id alone
abbrev pub OnlyReads : ℕ → List FileCall → Type 0
OnlyReads id entries = (k : ℕ) → k ≢ id → gots k entries ≡ []

got_id : (id i asked : ℕ) (got : Option ℕ) → IsGot id (Read i asked got) → i ≡ id
got_id id i asked (Some n) h = h.0
got_id id i asked None h = absurd h

-- reads that each got some bytes
pub gots_only : (id : ℕ) (es : List FileCall) → All (IsGot id) es → OnlyReads id es
gots_only id [] all = λ k ne. refl
gots_only id (Read i asked got ∷ es) all = λ k ne.
    other_read k i asked got es (λ e. ne (e ∙ got_id id i asked got (All-head (IsGot id) (Read i asked got) es all)))
    ∙ gots_only id es (All-tail (IsGot id) (Read i asked got) es all) k ne
gots_only id (Open name i ∷ es) all = absurd (All-head (IsGot id) (Open name i) es all)
gots_only id (Create name i ∷ es) all = absurd (All-head (IsGot id) (Create name i) es all)
gots_only id (Write i n t ∷ es) all = absurd (All-head (IsGot id) (Write i n t) es all)

pub gots_ask : (id : ℕ) (es : List FileCall) → All (IsGot id) es → askings es ≡ []
gots_ask id [] all = refl
gots_ask id (Read i asked got ∷ es) all = gots_ask id es (All-tail (IsGot id) (Read i asked got) es all)
gots_ask id (Open name i ∷ es) all = absurd (All-head (IsGot id) (Open name i) es all)
gots_ask id (Create name i ∷ es) all = absurd (All-head (IsGot id) (Create name i) es all)
gots_ask id (Write i n t ∷ es) all = absurd (All-head (IsGot id) (Write i n t) es all)

pub gots_no_end : (id : ℕ) (es : List FileCall) → All (IsGot id) es → MetNoEnd (gots id es)
gots_no_end id [] all = All-nil (λ (g : Option ℕ). g ≢ Some 0)
gots_no_end id (Open name i ∷ es) all = absurd (All-head (IsGot id) (Open name i) es all)
gots_no_end id (Create name i ∷ es) all = absurd (All-head (IsGot id) (Create name i) es all)
gots_no_end id (Write i n t ∷ es) all = absurd (All-head (IsGot id) (Write i n t) es all)
gots_no_end id (Read i asked None ∷ es) all = absurd (All-head (IsGot id) (Read i asked None) es all)
gots_no_end id (Read i asked (Some n) ∷ es) all =
    let head = All-head (IsGot id) (Read i asked (Some n)) es all in
    let rest = gots_no_end id es (All-tail (IsGot id) (Read i asked (Some n)) es all) in
    let some : Some n ≢ Some 0 = λ is. let zero : n ≡ 0 = cc in absurd (omega (arith, head.1)) in
    elim (i == id) as (λ b. MetNoEnd (if b then (Some n ∷ gots id es) else gots id es)) [
      | true ↦ All-cons (λ (g : Option ℕ). g ≢ Some 0) (Some n) (gots id es) some rest
      | false ↦ rest
    ]

pub got_done : (first count id : ℕ) → first ≤ id → id < first + count → (e : FileCall) → IsGot id e → IsDone first count e
got_done first count id le lt (Read i asked (Some n)) got = (omega (arith, got.0), omega (arith, got.0))
got_done first count id le lt (Read i asked None) got = got
got_done first count id le lt (Open name i) got = absurd got
got_done first count id le lt (Create name i) got = absurd got
got_done first count id le lt (Write i n t) got = absurd got

-- writes that each took some bytes
pub takens_quiet : (id : ℕ) (es : List FileCall) → All (IsTaken id) es → IsQuiet es
takens_quiet id [] all = λ k. refl
takens_quiet id (Write i n t ∷ es) all = takens_quiet id es (All-tail (IsTaken id) (Write i n t) es all)
takens_quiet id (Open name i ∷ es) all = absurd (All-head (IsTaken id) (Open name i) es all)
takens_quiet id (Create name i ∷ es) all = absurd (All-head (IsTaken id) (Create name i) es all)
takens_quiet id (Read i asked got ∷ es) all = absurd (All-head (IsTaken id) (Read i asked got) es all)

pub takens_ask : (id : ℕ) (es : List FileCall) → All (IsTaken id) es → askings es ≡ []
takens_ask id [] all = refl
takens_ask id (Write i n t ∷ es) all = takens_ask id es (All-tail (IsTaken id) (Write i n t) es all)
takens_ask id (Open name i ∷ es) all = absurd (All-head (IsTaken id) (Open name i) es all)
takens_ask id (Create name i ∷ es) all = absurd (All-head (IsTaken id) (Create name i) es all)
takens_ask id (Read i asked got ∷ es) all = absurd (All-head (IsTaken id) (Read i asked got) es all)

pub taken_done : (first count id : ℕ) → first ≤ id → id < first + count → (e : FileCall) → IsTaken id e → IsDone first count e
taken_done first count id le lt (Write i n (Some t)) taken = (omega (arith, taken.0), omega (arith, taken.0))
taken_done first count id le lt (Write i n None) taken = taken
taken_done first count id le lt (Open name i) taken = absurd taken
taken_done first count id le lt (Create name i) taken = absurd taken
taken_done first count id le lt (Read i asked got) taken = absurd taken

-- more ids
pub done_more : (first m n : ℕ) → m ≤ n → (e : FileCall) → IsDone first m e → IsDone first n e
done_more first m n le (Open name (Some id)) done = done
done_more first m n le (Create name (Some id)) done = done
done_more first m n le (Read id asked (Some b)) done = (done.0, omega (arith, done.1))
done_more first m n le (Write id given (Some b)) done = (done.0, omega (arith, done.1))
done_more first m n le (Open name None) done = done
done_more first m n le (Create name None) done = done
done_more first m n le (Read id asked None) done = done
done_more first m n le (Write id given None) done = done

-- how far files were read, with more entries
module _ (first ended : ℕ) (entries : List FileCall) (r : AreReadOut first ended entries) where
  -- entries that add no read of an id
  same : (more : List FileCall) (k : ℕ) → gots k more ≡ [] → gots k entries ≡ gots k (entries ++ more)
  same more k none = sym (gots-append k entries more ∙ ap (λ (gs : List (Option ℕ)). gots k entries ++ gs) none ∙ append-nil (gots k entries))

  pub read_nothing : (more : List FileCall) → IsQuiet more → AreReadOut first ended (entries ++ more)
  read_nothing more quiet = record {
    out = λ n lt. let P : List (Option ℕ) → Type 0 = λ gs. MetTheEnd gs in subst P (same more (first + n) (quiet (first + n))) (r.out n lt);
    next = let P : List (Option ℕ) → Type 0 = λ gs. MetNoEnd gs in subst P (same more (first + ended) (quiet (first + ended))) r.next;
    rest = λ n lt. sym (same more (first + n) (quiet (first + n))) ∙ r.rest n lt;
  }

  module _ (more : List FileCall) (only : OnlyReads (first + ended) more) where
    out_before : (n : ℕ) → n < ended → MetTheEnd (gots (first + n) (entries ++ more))
    out_before n lt = let P : List (Option ℕ)
        → Type 0 = λ gs. MetTheEnd gs in subst P (same more (first + n) (only (first + n) (λ e. absurd (omega arith)))) (r.out n lt)

    rest_behind : (n : ℕ) → ended < n → gots (first + n) (entries ++ more) ≡ []
    rest_behind n lt = sym (same more (first + n) (only (first + n) (λ e. absurd (omega arith)))) ∙ r.rest n lt

    -- the next file was read, and not to its end
    pub read_on : MetNoEnd (gots (first + ended) more) → AreReadOut first ended (entries ++ more)
    read_on none = record {
      out = out_before;
      next = let P : List (Option ℕ) → Type 0 = λ gs. MetNoEnd gs in
          subst P (sym (gots-append (first + ended) entries more))
          (All-append (λ (g : Option ℕ). g ≢ Some 0) (gots (first + ended) entries) (gots (first + ended) more) r.next none);
      rest = rest_behind;
    }

    -- the next file was read to its end
    pub read_out : (gs : List (Option ℕ)) → gots (first + ended) more ≡ gs ++ Some 0 ∷ [] → MetNoEnd gs → AreReadOut first (ended + 1) (entries ++ more)
    read_out gs is none =
        let whole : MetTheEnd (gots (first + ended) (entries ++ more)) = record {
          before = gots (first + ended) entries ++ gs;
          last = gots-append (first + ended) entries more ∙ ap (λ (hs : List (Option ℕ)). gots (first + ended) entries ++ hs) is
              ∙ sym (append_assoc (gots (first + ended) entries) gs (Some 0 ∷ []));
          none = All-append (λ (g : Option ℕ). g ≢ Some 0) (gots (first + ended) entries) gs r.next none;
        } in
        record {
          out = λ n lt. elim (cases_order n ended) [
            | inl is ↦ let P : ℕ → Type 0 = λ k. MetTheEnd (gots (first + k) (entries ++ more)) in subst P (sym is) whole
            | inr (inl below) ↦ out_before n below
            | inr (inr above) ↦ absurd (omega arith)
          ];
          next = let P : List (Option ℕ) → Type 0 = λ gs. MetNoEnd gs in subst P (sym (rest_behind (ended + 1) (omega arith)))
              (All-nil (λ (g : Option ℕ). g ≢ Some 0));
          rest = λ n lt. rest_behind n (omega arith);
        }
