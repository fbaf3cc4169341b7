-- What the outputs hold after each step.
use Rattle.std.proofs.Common.{◌≡◌, ◌≢◌, ℕ, List, [], ◌∷◌, ◌++◌, take, Some, Result, Ok, Err, OnOk, All, refl, sym, ap, ◌∙◌, true, false, None, Option}
use Rattle.std.proofs.lemmas.List.Elements.{All-append, All-cons, All-head, All-nil, All-push, All-tail}
use Rattle.soda_io.specs.declared.error.IoErr.{IoErr}
use Rattle.soda_io.specs.Store.{Creates, Opens, Puts, Store}
use Rattle.whole_files.specs.Writing.{WritesWhole}
use Rattle.job_files.specs.Contents.{AreApart, Holding, Holds, IsNoneOf, IsThere, PutsTo, emptied}

-- an output: its name and its bytes
abbrev pub Output : Type 0
Output = List ℕ × List ℕ

there_of : (old : Option (List ℕ)) → (old ≡ None → ⊥) → (bytes : List ℕ) × (old ≡ Some bytes)
there_of None none = absurd (none refl)
there_of (Some bytes) none = (bytes, refl)

-- a name that was opened was there
pub opened_there : (given : ℕ) (old new : Store) (name : List ℕ) (r : Result ℕ IoErr) → Opens given old new name r → OnOk r (IsThere old.bytes name)
opened_there given old new name (Ok id) o = there_of (old.bytes name) (λ e. let bad : false ≡ true = o.missing e in cc)
opened_there given old new name (Err e) o = tt

-- the parts of a list about one place
pub all_front : (P : Output → Type 0) (xs ys : List Output) → All P (xs ++ ys) → All P xs
all_front P [] ys all = All-nil P
all_front P (x ∷ xs) ys all = All-cons P x xs (All-head P x (xs ++ ys) all) (all_front P xs ys (All-tail P x (xs ++ ys) all))

pub all_back : (P : Output → Type 0) (xs ys : List Output) → All P (xs ++ ys) → All P ys
all_back P [] ys all = all
all_back P (x ∷ xs) ys all = all_back P xs ys (All-tail P x (xs ++ ys) all)

-- another at one place
all_around : (P : Output → Type 0) (xs ys : List Output) (x y : Output) → All P (xs ++ x ∷ ys) → P y → All P (xs ++ y ∷ ys)
all_around P xs ys x y all is = All-append P xs (y ∷ ys) (all_front P xs (x ∷ ys) all) (All-cons P y ys is (All-tail P x ys (all_back P xs (x ∷ ys) all)))

-- none of the others has the name of one
pub apart_front : (xs ys : List Output) (y : Output) → AreApart (xs ++ y ∷ ys) → IsNoneOf xs y.0
apart_front [] ys y a = All-nil (λ (o : Output). o.0 ≢ y.0)
apart_front (x ∷ xs) ys y a =
    let other : y.0 ≢ x.0 = All-head (λ (o : Output). o.0 ≢ x.0) y ys (all_back (λ (o : Output). o.0 ≢ x.0) xs (y ∷ ys) a.0) in
    All-cons (λ (o : Output). o.0 ≢ y.0) x xs (λ e. other (sym e)) (apart_front xs ys y a.1)

apart_back : (xs ys : List Output) (y : Output) → AreApart (xs ++ y ∷ ys) → IsNoneOf ys y.0
apart_back [] ys y a = a.0
apart_back (x ∷ xs) ys y a = apart_back xs ys y a.1

-- the bytes of one are others
apart_same : (xs ys : List Output) (name old new : List ℕ) → AreApart (xs ++ (name, old) ∷ ys) → AreApart (xs ++ (name, new) ∷ ys)
apart_same [] ys name old new a = a
apart_same (x ∷ xs) ys name old new a =
    let P : Output → Type 0 = λ o. o.0 ≢ x.0 in
    (all_around P xs ys (name, old) (name, new) a.0 (All-head P (name, old) ys (all_back P xs ((name, old) ∷ ys) a.0)), apart_same xs ys name old new a.1)

-- one more
apart_push : (xs : List Output) (y : Output) → AreApart xs → IsNoneOf xs y.0 → AreApart (xs ++ y ∷ [])
apart_push [] y a none = (All-nil (λ (o : Output). o.0 ≢ y.0), tt)
apart_push (x ∷ xs) y a none =
    let P : Output → Type 0 = λ o. o.0 ≢ x.0 in
    let Q : Output → Type 0 = λ o. o.0 ≢ y.0 in
    let other : x.0 ≢ y.0 = All-head Q x xs none in
    (All-push P xs y a.0 (λ e. other (sym e)), apart_push xs y a.1 (All-tail Q x xs none))

module _ (before : Holding) (old new : Holding) (outputs : List Output) (name : List ℕ) (h : Holds before old outputs) (none : IsNoneOf outputs name) where
  pub holds_more : Puts name [] old new → Holds before new (outputs ++ emptied name ∷ [])
  holds_more p = record {
    apart = apart_push outputs (emptied name) h.apart none;
    own = All-push (λ (o : Output). new o.0 ≡ Some o.1) outputs (emptied name) (λ k d lt. p.others _ (none k d lt) ∙ h.own k d lt) p.own;
    others = λ n free.
        let P : Output → Type 0 = λ o. o.0 ≢ n in
        let other : name ≢ n = All-head P (emptied name) [] (all_back P outputs (emptied name ∷ []) free) in
        p.others n (λ e. other (sym e)) ∙ h.others n (all_front P outputs (emptied name ∷ []) free);
  }

pub created_holds : (before : Holding) (given : ℕ) (old new : Store) (outputs : List Output) (name : List ℕ) (r : Result ℕ IoErr)
    → Creates given old new name r → Holds before old.bytes outputs → IsNoneOf outputs name
    → OnOk r (Holds before new.bytes (outputs ++ emptied name ∷ []))
created_holds before given old new outputs name (Ok id) c h none = holds_more before old.bytes new.bytes outputs name h none c.emptied
created_holds before given old new outputs name (Err e) c h none = tt

-- what an output held
pub was_held : (before old : Holding) (front back : List Output) (name so_far : List ℕ) → Holds before old (front ++ (name, so_far) ∷ back)
    → old name ≡ Some so_far
was_held before old front back name so_far h =
    let P : Output → Type 0 = λ o. old o.0 ≡ Some o.1 in
    All-head P (name, so_far) back (all_back P front ((name, so_far) ∷ back) h.own)

-- an output holds other bytes
module _ (before old new : Holding) (front back : List Output) (name so_far now : List ℕ) (kept : (n : List ℕ) → n ≢ name → new n ≡ old n)
    (got : new name ≡ Some now) (h : Holds before old (front ++ (name, so_far) ∷ back)) where
  pub held_at : Holds before new (front ++ (name, now) ∷ back)
  held_at =
      let P : Output → Type 0 = λ o. old o.0 ≡ Some o.1 in
      let Q : Output → Type 0 = λ o. new o.0 ≡ Some o.1 in
      let front_own = all_front P front ((name, so_far) ∷ back) h.own in
      let back_own = All-tail P (name, so_far) back (all_back P front ((name, so_far) ∷ back) h.own) in
      let front_free = apart_front front back (name, so_far) h.apart in
      let back_free = apart_back front back (name, so_far) h.apart in
      record {
        apart = apart_same front back name so_far now h.apart;
        own = All-append Q front ((name, now) ∷ back) (λ k d lt. kept _ (front_free k d lt) ∙ front_own k d lt)
            (All-cons Q (name, now) back got (λ k d lt. kept _ (back_free k d lt) ∙ back_own k d lt));
        others = λ n free.
            let R : Output → Type 0 = λ o. o.0 ≢ n in
            let other : name ≢ n = All-head R (name, now) back (all_back R front ((name, now) ∷ back) free) in
            kept n (λ e. other (sym e)) ∙ h.others n (all_around R front back (name, now) (name, so_far) free other);
      }

-- an output gets more bytes
module _ (before : Holding) (given : ℕ) (old new : Store) (id : ℕ) (bytes : List ℕ) (r : Result (Unit {0}) IoErr) (w : WritesWhole given old new id bytes r)
    (front back : List Output) (name so_far : List ℕ) (is : old.name id ≡ name)
    (h : Holds before old.bytes (front ++ (name, so_far) ∷ back)) where
  kept : (n : List ℕ) → n ≢ name → new.bytes n ≡ old.bytes n
  kept n ne = w.others n (λ e. ne (e ∙ is))

  pub written_holds : PutsTo before new.bytes front name so_far back bytes r
  written_holds =
      let now : List ℕ = so_far ++ take w.count bytes in
      let was : old.bytes name ≡ Some so_far = was_held before old.bytes front back name so_far h in
      let got : new.bytes name ≡ Some now = ap (λ (n : List ℕ). new.bytes n) (sym is) ∙ w.own so_far (ap (λ (n : List ℕ). old.bytes n) is ∙ was) in
      record {
        now = now;
        puts = record { count = w.count; at_most = w.at_most; all = w.all; put = refl };
        holds = held_at before old.bytes new.bytes front back name so_far now kept got h;
      }
