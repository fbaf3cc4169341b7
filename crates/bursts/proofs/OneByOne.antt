-- Reads of one id, one after the other.
use Rattle.std.proofs.Common.{◌≡◌, ◌≢◌, ◌==◌, ◌↔◌, ℕ, ◌+◌, ◌<◌, Bool, true, false, if◌then◌else◌, List, [], ◌∷◌, ◌++◌, length, Option, Some, None, Result, Ok, Err, All, IsErrOf, refl, sym, ap, subst, ◌∙◌, arith, append_assoc, eq-eqb}
use Rattle.std.proofs.lemmas.Bool.{false≢true}
use Rattle.std.proofs.lemmas.List.{append-nil}
use Rattle.std.proofs.lemmas.List.Elements.{All-append, All-cons, All-nil, All-head, All-tail}
use Rattle.soda_io.specs.Store.{Store, KeepsIds}
use Rattle.soda_io.specs.declared.call.FileCall.{FileCall}
use Rattle.soda_io.specs.declared.call.FileCall.TheVariants.{Open, Create, Read, Write}
use Rattle.whole_files.specs.Journal.{IsReadBy, NoneAfterEnd, NoneAfterFailed, EndsFailed, ReadsOf, gots}
use Rattle.whole_files.proofs.CallerLemmas.{NotEnd, NotFailed, ends_behind, ends_with, gots-append, none_after_end-append, none_after_failed-append, none_failed}
use Rattle.array_bytes.specs.declared.fault.CellFault.{CellFault}
use Rattle.array_bytes.specs.declared.fault.CellFault.TheVariants.{BadCell, CellRange, TooFew, TooMany, TooLong, Failed, Memory}
use Rattle.bursts.specs.Blocks.{EachRead, EndsLast, ReadsOn, amount, place_behind}
use Rattle.bursts.specs.Machine.Feeds.{Fills, FillsFile, fill_entry}
use Rattle.bursts.specs.declared.feed.Feed.{Feed}

behind_both : (place : ℕ) (xs ys : List FileCall) → place_behind place (xs ++ ys) ≡ place_behind (place_behind place xs) ys
behind_both place [] ys = refl
behind_both place (Open name i ∷ xs) ys = behind_both place xs ys
behind_both place (Create name i ∷ xs) ys = behind_both place xs ys
behind_both place (Read i asked got ∷ xs) ys = behind_both (place + amount got) xs ys
behind_both place (Write i given taken ∷ xs) ys = behind_both place xs ys

module _ (P : ℕ → ℕ → Type 0) where
  each_both : (place : ℕ) (xs ys : List FileCall) → EachRead P place xs → EachRead P (place_behind place xs) ys → EachRead P place (xs ++ ys)
  each_both place [] ys a b = b
  each_both place (Open name i ∷ xs) ys a b = each_both place xs ys a b
  each_both place (Create name i ∷ xs) ys a b = each_both place xs ys a b
  each_both place (Read i asked got ∷ xs) ys a b = (a.0, each_both (place + amount got) xs ys a.1 b)
  each_both place (Write i given taken ∷ xs) ys a b = each_both place xs ys a b

  -- nothing was read
  pub no_read : (given : ℕ) (s : Store) (id : ℕ) (e : Bool) (F : Type 0) → (F → ⊥) → ReadsOn given s s id e e F P
  no_read given s id e F never = record {
    ids = record { name = λ k lt. refl; opened = λ k lt. refl };
    bytes = λ n. refl;
    others = λ k lt ne. refl;
    entries = [];
    calls = sym (append-nil s.calls);
    reads = record { own = All-nil (IsReadBy id); failed = tt; end = tt };
    quiet = λ q. refl;
    going = λ q. All-nil NotEnd;
    met = λ p q. absurd (false≢true (sym p ∙ q));
    failed = (never, λ ends. absurd ends);
    stays = λ q. q;
    each = tt;
    place = refl;
  }

  -- more reads after some of which none failed
  pub reads_then : (given : ℕ) (a b c : Store) (id : ℕ) (e f h : Bool) (F G : Type 0) → id < given → ReadsOn given a b id e f F P → (F → ⊥) → ReadsOn given b c id f h G P → ReadsOn given a c id e h G P
  reads_then given a b c id e f h F G lt x fine y =
      let good : All NotFailed x.entries = none_failed x.entries x.reads.failed (λ ends. fine (x.failed.1 ends)) in
      record {
        ids = record { name = λ k below. y.ids.name k below ∙ x.ids.name k below; opened = λ k below. y.ids.opened k below ∙ x.ids.opened k below };
        bytes = λ n. y.bytes n ∙ x.bytes n;
        others = λ k below ne. y.others k below ne ∙ x.others k below ne;
        entries = x.entries ++ y.entries;
        calls = y.calls ∙ ap (λ (es : List FileCall). es ++ y.entries) x.calls ∙ append_assoc a.calls x.entries y.entries;
        reads = record {
          own = All-append (IsReadBy id) x.entries y.entries x.reads.own y.reads.own;
          failed = none_after_failed-append x.entries y.entries good y.reads.failed;
          end =
              let Q : List (Option ℕ) → Type 0 = λ gs. NoneAfterEnd gs in
              subst Q (sym (gots-append id x.entries y.entries)) (ending f refl);
        };
        quiet = λ q. ap (λ (es : List FileCall). es ++ y.entries) (x.quiet q) ∙ y.quiet (x.stays q);
        going = λ q.
            let Q : List (Option ℕ) → Type 0 = λ gs. All NotEnd gs in
            subst Q (sym (gots-append id x.entries y.entries)) (All-append NotEnd (gots id x.entries) (gots id y.entries) (x.going (before f refl q)) (y.going q));
        met = λ p q. last f refl p q;
        failed = (λ g. ends_with x.entries y.entries (y.failed.0 g), λ ends. y.failed.1 (ends_behind x.entries y.entries good ends));
        stays = λ q. y.stays (x.stays q);
        each = each_both (a.place id) x.entries y.entries x.each (let Q : ℕ → Type 0 = λ p. EachRead P p y.entries in subst Q x.place y.each);
        place = y.place ∙ ap (λ p. place_behind p y.entries) x.place ∙ sym (behind_both (a.place id) x.entries y.entries);
      }
    where
      before : (t : Bool) → f ≡ t → h ≡ false → f ≡ false
      before false q r = q
      before true q r = absurd (false≢true (sym r ∙ y.stays q))

      last : (t : Bool) → f ≡ t → e ≡ false → h ≡ true → EndsLast (gots id (x.entries ++ y.entries))
      last true s p q =
          let m = x.met p s in
          (m.0, gots-append id x.entries y.entries ∙ ap (λ (es : List FileCall). gots id x.entries ++ gots id es) (y.quiet s) ∙ append-nil (gots id x.entries) ∙ m.1)
      last false s p q =
          let m = y.met s q in
          (gots id x.entries ++ m.0, gots-append id x.entries y.entries ∙ ap (λ (gs : List (Option ℕ)). gots id x.entries ++ gs) m.1 ∙ sym (append_assoc (gots id x.entries) m.0 (Some 0 ∷ [])))

      ending : (t : Bool) → f ≡ t → NoneAfterEnd (gots id x.entries ++ gots id y.entries)
      ending false q = none_after_end-append (gots id x.entries) (gots id y.entries) (x.going q) y.reads.end
      ending true q =
          let Q : List (Option ℕ) → Type 0 = λ gs. NoneAfterEnd gs in
          subst Q (sym (ap (λ (es : List FileCall). gots id x.entries ++ gots id es) (y.quiet q) ∙ append-nil (gots id x.entries))) x.reads.end

  one_read : (id asked : ℕ) (got : Option ℕ) → ReadsOf id (Read id asked got ∷ [])
  one_read id asked got = record {
    own = All-cons (IsReadBy id) (Read id asked got) [] refl (All-nil (IsReadBy id));
    failed = (λ is. refl, tt);
    end = elim (id == id) as (λ b. NoneAfterEnd (if b then (got ∷ []) else [])) [ true ↦ (λ is. refl, tt) | false ↦ tt ];
  }

  one_end : (id asked : ℕ) → EndsLast (gots id (Read id asked (Some 0) ∷ []))
  one_end id asked = ([], ap (λ t. if t then (Some 0 ∷ []) else []) (eq-eqb id id refl))

  one_got : (id asked n : ℕ) → 0 < n → All NotEnd (gots id (Read id asked (Some n) ∷ []))
  one_got id asked n some =
      elim (id == id) as (λ b. All NotEnd (if b then (Some n ∷ []) else [])) [
        | true ↦ All-cons NotEnd (Some n) [] (λ is. let zero : n ≡ 0 = cc in absurd (omega arith)) (All-nil NotEnd)
        | false ↦ All-nil NotEnd
      ]

  one_none : (id asked : ℕ) → All NotEnd (gots id (Read id asked None ∷ []))
  one_none id asked =
      elim (id == id) as (λ b. All NotEnd (if b then (None ∷ []) else [])) [
        | true ↦ All-cons NotEnd None [] (λ is. absurd (cc)) (All-nil NotEnd)
        | false ↦ All-nil NotEnd
      ]

  -- one fill
  pub fill_reads : (given : ℕ) (a b : Store) (id asked : ℕ) (f g : Feed) (result : Result Bool CellFault) → FillsFile given a b id asked f g result → Fills f g result → P (a.place id) asked → ReadsOn given a b id f.ended g.ended (IsErrOf result Failed) P
  fill_reads given a b id asked f g (Ok true) x y p = record {
    ids = x.ids;
    bytes = x.bytes;
    others = x.others;
    entries = Read id asked (Some (length x.more)) ∷ [];
    calls = x.calls;
    reads = one_read id asked (Some (length x.more));
    quiet = λ q. absurd (false≢true (sym y.1 ∙ q));
    going = λ q. one_got id asked (length x.more) (x.some refl);
    met = λ p q. absurd (false≢true (sym y.2 ∙ q));
    failed = (λ is. absurd (cc), λ ends. absurd (false≢true (sym ends)));
    stays = λ q. absurd (false≢true (sym y.1 ∙ q));
    each = (p, tt);
    place = x.place;
  }
  fill_reads given a b id asked f g (Ok false) x y p = by f.ended refl
    where
      none : length x.more ≡ 0
      none = ap length (x.none (λ q. absurd (cc)))

      by : (t : Bool) → f.ended ≡ t → ReadsOn given a b id f.ended g.ended (IsErrOf (Ok false) Failed) P
      by true q = record {
        ids = x.ids;
        bytes = x.bytes;
        others = x.others;
        entries = [];
        calls = x.calls ∙ ap (λ t. a.calls ++ (if t then [] else Read id asked (Some 0) ∷ [])) q;
        reads = record { own = All-nil (IsReadBy id); failed = tt; end = tt };
        quiet = λ r. refl;
        going = λ r. All-nil NotEnd;
        met = λ r s. absurd (false≢true (sym r ∙ q));
        failed = (λ is. absurd (cc), λ ends. absurd ends);
        stays = λ r. y.1;
        each = tt;
        place = omega (arith, x.place, none);
      }
      by false q = record {
        ids = x.ids;
        bytes = x.bytes;
        others = x.others;
        entries = Read id asked (Some 0) ∷ [];
        calls = x.calls ∙ ap (λ t. a.calls ++ (if t then [] else Read id asked (Some 0) ∷ [])) q;
        reads = one_read id asked (Some 0);
        quiet = λ r. absurd (false≢true (sym q ∙ r));
        going = λ r. absurd (false≢true (sym r ∙ y.1));
        met = λ r s. one_end id asked;
        failed = (λ is. absurd (cc), λ ends. absurd (false≢true (sym ends)));
        stays = λ r. y.1;
        each = (p, tt);
        place = omega (arith, x.place, none);
      }
  fill_reads given a b id asked f g (Err Failed) x y p = record {
    ids = x.ids;
    bytes = x.bytes;
    others = x.others;
    entries = Read id asked None ∷ [];
    calls = x.calls;
    reads = one_read id asked None;
    quiet = λ q. absurd (false≢true (sym y.2 ∙ q));
    going = λ q. one_none id asked;
    met = λ p q. absurd (false≢true (sym (y.1 ∙ p) ∙ q));
    failed = (λ is. refl, λ ends. refl);
    stays = λ q. y.1 ∙ q;
    each = (p, tt);
    place = (let none : length x.more ≡ 0 = ap length (x.none (λ q. absurd (cc))) in omega (arith, x.place, none));
  }
  fill_reads given a b id asked f g (Err Memory) x y p = record {
    ids = x.ids;
    bytes = x.bytes;
    others = x.others;
    entries = [];
    calls = x.calls;
    reads = record { own = All-nil (IsReadBy id); failed = tt; end = tt };
    quiet = λ r. refl;
    going = λ q. All-nil NotEnd;
    met = λ p q. absurd (false≢true (sym (y.1 ∙ p) ∙ q));
    failed = (λ is. absurd (cc), λ ends. absurd ends);
    stays = λ q. y.1 ∙ q;
    each = tt;
    place = (let none : length x.more ≡ 0 = ap length (x.none (λ q. absurd (cc))) in omega (arith, x.place, none));
  }
  fill_reads given a b id asked f g (Err (BadCell i)) x y p = absurd y
  fill_reads given a b id asked f g (Err (CellRange i)) x y p = absurd y
  fill_reads given a b id asked f g (Err (TooFew i)) x y p = absurd y
  fill_reads given a b id asked f g (Err TooMany) x y p = absurd y
  fill_reads given a b id asked f g (Err TooLong) x y p = absurd y

each_weaker : (P Q : ℕ → ℕ → Type 0) → ((p n : ℕ) → P p n → Q p n) → (place : ℕ) (es : List FileCall) → EachRead P place es → EachRead Q place es
each_weaker P Q to place [] a = tt
each_weaker P Q to place (Open name i ∷ es) a = each_weaker P Q to place es a
each_weaker P Q to place (Create name i ∷ es) a = each_weaker P Q to place es a
each_weaker P Q to place (Read i asked got ∷ es) a = (to place asked a.0, each_weaker P Q to (place + amount got) es a.1)
each_weaker P Q to place (Write i given taken ∷ es) a = each_weaker P Q to place es a

-- the same reads, of which less is said
pub reads_weaker : (given : ℕ) (a b : Store) (id : ℕ) (e f : Bool) (F : Type 0) (P Q : ℕ → ℕ → Type 0) → ((p n : ℕ) → P p n → Q p n) → ReadsOn given a b id e f F P → ReadsOn given a b id e f F Q
reads_weaker given a b id e f F P Q to x = record {
  ids = x.ids;
  bytes = x.bytes;
  others = x.others;
  entries = x.entries;
  calls = x.calls;
  reads = x.reads;
  quiet = x.quiet;
  going = x.going;
  met = x.met;
  failed = x.failed;
  stays = x.stays;
  each = each_weaker P Q to (a.place id) x.entries x.each;
  place = x.place;
}
