-- What one call leaves of the store in memory.
use Rattle.std.proofs.Common.{◌≡◌, ◌<◌, ◌≤◌, ℕ, ◌+◌, Bool, List, [], ◌∷◌, ◌++◌, length, get_or, take, drop, Option, Some, Ok, Err, true, false, refl, sym, ap, subst, ◌∙◌, arith, set, unwrap_or, string_bytes}
use Rattle.std.specs.Option.{is_some}
use Rattle.std.specs.BTreeMap.{BTreeMap}
use Rattle.std.specs.declared.string.String.{String}
use Rattle.std.specs.declared.vec.Vec.{Vec}
use Rattle.std.specs.declared.alloc.Global.{Global}
use Rattle.std.proofs.lemmas.Bool.{cases_eq, false≢true}
use Rattle.std.proofs.Common.{inl, inr, length-append}
use Rattle.std.proofs.lemmas.List.{append-nil, take_all, length-set, length-take}
use Rattle.soda_io.specs.declared.mem_id.MemId.{MemId}
use Rattle.soda_io.specs.declared.call.FileCall.{FileCall}
use Rattle.soda_io.specs.declared.call.FileCall.TheVariants.{Open, Create, Read, Write}
use Rattle.soda_io.specs.declared.error.IoErr.TheVariants.{Memory}
use Rattle.soda_io.specs.Held.{held}
use Rattle.soda_io.specs.Ids.{field_at, name_at, opened_at, place_at}
use Rattle.soda_io.specs.Machine.Given.{AllHeld}
use Rattle.soda_io.specs.Store.{Store, content, left, Puts, KeepsIds, Opens, Creates, Reads, Writes, IsFresh}
use Rattle.soda_io.proofs.Fields.{field_at-push, field_at-pushed, field_at-read, field_at-set, field_at-set_here, field_at-set_same}

abbrev pub Map : Type 0
Map = BTreeMap (String Global) (Vec ℕ Global)

abbrev pub store_of : Map → List MemId → List FileCall → Store
store_of files is calls = record { bytes = held files; name = name_at is; opened = opened_at is; place = place_at is; calls = calls }

-- what holds of a store in memory holds of one with the same parts
pub moved : (P : ℕ → Store → Type 0) (m n : Map) (is js : List MemId) (a b : List FileCall) → m ≡ n → is ≡ js → a ≡ b
    → P (length is) (store_of m is a) → P (length js) (store_of n js b)
moved P m n is js a b same_files same_ids same_calls holds =
    let F : Map → Type 0 = λ x. P (length is) (store_of x is a) in
    let I : List MemId → Type 0 = λ x. P (length x) (store_of n x a) in
    let C : List FileCall → Type 0 = λ x. P (length js) (store_of n js x) in
    subst C same_calls (subst I same_ids (subst F same_files holds))

-- where memory was refused, the store is as before
pub opens_memory : (given : ℕ) (t : Store) (name : List ℕ) → Opens given t t name (Err Memory)
opens_memory given t name = record {
  ids = record { name = λ k lt. refl; opened = λ k lt. refl };
  bytes = λ n. refl;
  places = λ k lt. refl;
  calls = sym (append-nil t.calls);
  fresh = tt;
  missing = λ none. refl;
}

pub creates_memory : (given : ℕ) (t : Store) (name : List ℕ) → Creates given t t name (Err Memory)
creates_memory given t name = record {
  ids = record { name = λ k lt. refl; opened = λ k lt. refl };
  places = λ k lt. refl;
  calls = sym (append-nil t.calls);
  err = λ n. refl;
  emptied = tt;
  fresh = tt;
}

pub reads_memory : (given : ℕ) (t : Store) (id asked : ℕ) (buf : List ℕ) → Reads given t t id asked buf (Err Memory)
reads_memory given t id asked buf = record {
  ids = record { name = λ k lt. refl; opened = λ k lt. refl };
  bytes = λ n. refl;
  others = λ k lt ne. refl;
  calls = sym (append-nil t.calls);
  err = refl;
  place = tt;
  got = tt;
  end = tt;
}

pub writes_memory : (given : ℕ) (t : Store) (id : ℕ) (bytes : List ℕ) (count : ℕ) → Writes given t t id bytes count (Err Memory)
writes_memory given t id bytes count = record {
  ids = record { name = λ k lt. refl; opened = λ k lt. refl };
  places = λ k lt. refl;
  calls = sym (append-nil t.calls);
  err = λ n. refl;
  appended = tt;
}

-- one more id
module _ (is js : List MemId) (i : MemId) (pushed : js ≡ is ++ i ∷ []) where
  pub at_old : {A : Type 0} (f : MemId → A) (d : A) (k : ℕ) → k < length is → field_at f d js k ≡ field_at f d is k
  at_old f d k lt = ap (λ (xs : List MemId). field_at f d xs k) pushed ∙ field_at-push f d is i k lt

  pub at_new : {A : Type 0} (f : MemId → A) (d : A) → field_at f d js (length is) ≡ f i
  at_new f d = ap (λ (xs : List MemId). field_at f d xs (length is)) pushed ∙ field_at-pushed f d is i

  pub keeps_ids : (m n : Map) (a b : List FileCall) → KeepsIds (length is) (store_of m is a) (store_of n js b)
  keeps_ids m n a b = record { name = λ k lt. at_old _ _ k lt; opened = λ k lt. at_old _ _ k lt }

  pub is_fresh : (n : Map) (b : List FileCall) (name : List ℕ) (opened : Bool) → string_bytes i.name ≡ name → i.opened ≡ opened → i.place ≡ 0 → IsFresh (store_of n js b) (length is) name opened
  is_fresh n b name opened en eo ep = record { name = at_new _ _ ∙ en; opened = at_new _ _ ∙ eo; place = at_new _ _ ∙ ep }

  -- the names stay held
  pub all_held : (m n : Map) → AllHeld is m → ((q : List ℕ) → is_some (held m q) ≡ true → is_some (held n q) ≡ true) → is_some (held n (string_bytes i.name)) ≡ true → AllHeld js n
  all_held m n all keep new k lt = elim (cases_eq k (length is)) [
    | inl same ↦
        let P : ℕ → Type 0 = λ k. is_some (held n (name_at js k)) ≡ true in
        subst P (sym same) (ap (λ (q : List ℕ). is_some (held n q)) (at_new _ _) ∙ new)
    | inr differ ↦
        let below : k < length is = omega (arith, ap length pushed, length-append is (i ∷ [])) in
        ap (λ (q : List ℕ). is_some (held n q)) (at_old _ _ k below) ∙ keep _ (all k below)
  ]

  opens_at : (m : Map) (a b : List FileCall) (name : List ℕ) → string_bytes i.name ≡ name → i.opened ≡ true → i.place ≡ 0
      → is_some (held m name) ≡ true → b ≡ a ++ Open name (Some (length is)) ∷ [] → Opens (length is) (store_of m is a) (store_of m js b) name (Ok (length is))
  opens_at m a b name en eo ep there log = record {
    ids = keeps_ids m m a b;
    bytes = λ n. refl;
    places = λ k lt. at_old _ _ k lt;
    calls = log;
    fresh = is_fresh m b name true en eo ep;
    missing = λ none. absurd (false≢true (sym (ap is_some none) ∙ there));
  }

  creates_at : (m n : Map) (a b : List FileCall) (name : List ℕ) → string_bytes i.name ≡ name → i.opened ≡ false → i.place ≡ 0
      → Puts name [] (held m) (held n) → b ≡ a ++ Create name (Some (length is)) ∷ [] → Creates (length is) (store_of m is a) (store_of n js b) name (Ok (length is))
  creates_at m n a b name en eo ep puts log = record {
    ids = keeps_ids m n a b;
    places = λ k lt. at_old _ _ k lt;
    calls = log;
    err = tt;
    emptied = puts;
    fresh = is_fresh n b name false en eo ep;
  }

  pub opens_ok : (id : ℕ) → id ≡ length is → (m : Map) (a b : List FileCall) (name : List ℕ) → string_bytes i.name ≡ name → i.opened ≡ true → i.place ≡ 0
      → is_some (held m name) ≡ true → b ≡ a ++ Open name (Some id) ∷ [] → Opens (length is) (store_of m is a) (store_of m js b) name (Ok id)
  opens_ok id is_len m a b name en eo ep there log =
      let P : ℕ → Type 0 = λ n. Opens (length is) (store_of m is a) (store_of m js b) name (Ok n) in
      subst P (sym is_len) (opens_at m a b name en eo ep there (log ∙ ap (λ (n : ℕ). a ++ Open name (Some n) ∷ []) is_len))

  pub creates_ok : (id : ℕ) → id ≡ length is → (m n : Map) (a b : List FileCall) (name : List ℕ) → string_bytes i.name ≡ name → i.opened ≡ false → i.place ≡ 0
      → Puts name [] (held m) (held n) → b ≡ a ++ Create name (Some id) ∷ [] → Creates (length is) (store_of m is a) (store_of n js b) name (Ok id)
  creates_ok id is_len m n a b name en eo ep puts log =
      let P : ℕ → Type 0 = λ k. Creates (length is) (store_of m is a) (store_of n js b) name (Ok k) in
      subst P (sym is_len) (creates_at m n a b name en eo ep puts (log ∙ ap (λ (k : ℕ). a ++ Create name (Some k) ∷ []) is_len))

-- a write
pub writes_ok : (is : List MemId) (m n : Map) (a b : List FileCall) (id : ℕ) (bytes : List ℕ)
    → Puts (name_at is id) (unwrap_or (held m (name_at is id)) [] ++ bytes) (held m) (held n) → b ≡ a ++ Write id (length bytes) (Some (length bytes)) ∷ []
    → Writes (length is) (store_of m is a) (store_of n is b) id bytes (length bytes) (Ok (length bytes))
writes_ok is m n a b id bytes puts log = record {
  ids = record { name = λ k lt. refl; opened = λ k lt. refl };
  places = λ k lt. refl;
  calls = log;
  err = tt;
  appended =
      let P : List ℕ → Type 0 = λ xs. Puts (name_at is id) (unwrap_or (held m (name_at is id)) [] ++ xs) (held m) (held n) in
      subst P (sym (take_all (length bytes) bytes (omega arith))) puts;
}

-- nothing left, nothing got
none_got : (n : ℕ) (buf rest : List ℕ) → n ≤ length buf → take n buf ++ rest ≡ [] → n ≡ 0
none_got n buf rest fits none = omega (arith, ap length none, length-append (take n buf) rest, length-take n buf)

-- a read
module _ (is : List MemId) (id : ℕ) (was now : MemId) (lt : id < length is) (item : was ≡ get_or is id was) (name : now.name ≡ was.name) (opened : now.opened ≡ was.opened) where
  pub same_name : (k : ℕ) → name_at (set is id now) k ≡ name_at is k
  same_name k = field_at-set_same _ _ is id now k lt (field_at-read _ _ is id was lt item ∙ ap string_bytes (sym name))

  same_opened : (k : ℕ) → opened_at (set is id now) k ≡ opened_at is k
  same_opened k = field_at-set_same _ _ is id now k lt (field_at-read _ _ is id was lt item ∙ sym opened)

  pub still_held : (m : Map) → AllHeld is m → AllHeld (set is id now) m
  still_held m all k below = ap (λ (q : List ℕ). is_some (held m q)) (same_name k) ∙ all k (omega (arith, length-set is id now))

  pub reads_ok : (m : Map) (a b : List FileCall) (asked n : ℕ) (buf bytes : List ℕ) → now.place ≡ was.place + n → held m (string_bytes was.name) ≡ Some bytes
      → drop was.place bytes ≡ take n buf ++ drop (was.place + n) bytes → (n ≡ 0 → drop was.place bytes ≡ []) → n ≤ length buf → b ≡ a ++ Read id asked (Some n) ∷ []
      → Reads (length is) (store_of m is a) (store_of m (set is id now) b) id asked buf (Ok n)
  reads_ok m a b asked n buf bytes moved there got end fits log =
      let at_name : name_at is id ≡ string_bytes was.name = field_at-read _ _ is id was lt item in
      let at_place : place_at is id ≡ was.place = field_at-read _ _ is id was lt item in
      let new_place : place_at (set is id now) id ≡ was.place + n = field_at-set_here _ _ is id now lt ∙ moved in
      let old_content : content (store_of m is a) id ≡ bytes = ap (λ (q : List ℕ). unwrap_or (held m q) []) at_name ∙ ap (λ (o : Option (List ℕ)). unwrap_or o []) there in
      let new_content : content (store_of m (set is id now) b) id ≡ bytes = ap (λ (q : List ℕ). unwrap_or (held m q) []) (same_name id) ∙ old_content in
      let old_left : left (store_of m is a) id ≡ drop was.place bytes =
      ap (λ (p : ℕ). drop p (content (store_of m is a) id)) at_place ∙ ap (λ (xs : List ℕ). drop was.place xs) old_content in
      let new_left : left (store_of m (set is id now) b) id ≡ drop (was.place + n) bytes =
      ap (λ (p : ℕ). drop p (content (store_of m (set is id now) b) id)) new_place ∙ ap (λ (xs : List ℕ). drop (was.place + n) xs) new_content in
      record {
        ids = record { name = λ k below. same_name k; opened = λ k below. same_opened k };
        bytes = λ q. refl;
        others = λ k below ne. field_at-set _ _ is id now k ne;
        calls = log;
        err = tt;
        place = new_place ∙ ap (λ (p : ℕ). p + n) (sym at_place);
        got = old_left ∙ got ∙ ap (λ (xs : List ℕ). take n buf ++ xs) (sym new_left);
        end = (λ zero_n. old_left ∙ end zero_n, λ none. none_got n buf (drop (was.place + n) bytes) fits (sym got ∙ sym old_left ∙ none));
      }
