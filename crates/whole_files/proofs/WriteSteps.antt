-- One more write.
use Rattle.std.proofs.Common.{◌≡◌, ◌<◌, ◌≤◌, ℕ, ◌+◌, ◌-◌, List, [], ◌∷◌, ◌++◌, length, take, drop, Option, Some, None, Result, Ok, Err, refl, sym, ap, subst, ◌∙◌, arith, append_assoc, unwrap_or, length-drop}
use Rattle.std.proofs.lemmas.List.{append-nil, take_all, take-append-drop, take-take, drop-take}
use Rattle.std.proofs.lemmas.List.Elements.{All-push}
use Rattle.soda_io.specs.declared.error.IoErr.{IoErr}
use Rattle.soda_io.specs.declared.error.IoErr.TheVariants.{Failed, Memory}
use Rattle.soda_io.specs.declared.call.FileCall.{FileCall}
use Rattle.soda_io.specs.declared.call.FileCall.TheVariants.{Write}
use Rattle.soda_io.specs.Store.{Store, Writes}
use Rattle.whole_files.specs.Journal.{IsTaken}
use Rattle.whole_files.specs.Writing.{WritesWhole, last_write}
use Rattle.whole_files.specs.Machine.SoFar.{Put}
use Rattle.whole_files.proofs.JournalLaws.{writes_of, last_writes, last_write_fails}
use Rattle.whole_files.proofs.ReadSteps.{keeps_both}

-- what stands behind the first i bytes
abbrev pub rest : ℕ → List ℕ → List ℕ
rest i bytes = take (length bytes - i) (drop i bytes)

pub take_rest : (i n : ℕ) (bytes : List ℕ) → i ≤ length bytes → take i bytes ++ take n (rest i bytes) ≡ take (i + n) bytes
take_rest i n bytes le =
    let whole : rest i bytes ≡ drop i bytes = take_all (length bytes - i) (drop i bytes) (omega (arith, length-drop i bytes)) in
    let front : take i bytes ≡ take i (take (i + n) bytes) = sym (take-take i (i + n) bytes (omega arith)) in
    let behind : take n (rest i bytes) ≡ drop i (take (i + n) bytes) = ap (λ (xs : List ℕ). take n xs) whole ∙ sym (drop-take i n bytes) in
    ap (λ (xs : List ℕ). xs ++ take n (rest i bytes)) front ∙ ap (λ (xs : List ℕ). take i (take (i + n) bytes) ++ xs) behind ∙ take-append-drop i (take (i + n) bytes)

pub length_rest : (i : ℕ) (bytes : List ℕ) → i ≤ length bytes → length (rest i bytes) ≡ length bytes - i
length_rest i bytes le = ap length (take_all (length bytes - i) (drop i bytes) (omega (arith, length-drop i bytes))) ∙ length-drop i bytes

pub put_none : (given : ℕ) (s : Store) (id : ℕ) (bytes : List ℕ) → Put given s s id 0 bytes
put_none given s id bytes = record {
  ids = record { name = λ k lt. refl; opened = λ k lt. refl };
  places = λ k lt. refl;
  others = λ n ne. refl;
  own = λ xs there. there ∙ ap (λ (ys : List ℕ). Some ys) (sym (append-nil xs));
  entries = [];
  takens = λ k d lt. absurd (omega arith);
  calls = sym (append-nil s.calls);
}

-- the clause of a call, at numbers that are equal
pub at : (m given asked : ℕ) (b c : Store) (id : ℕ) (bytes : List ℕ) (r : Result ℕ IoErr) → m ≡ given → Writes m b c id bytes asked r → Writes given b c id bytes asked r
at m given asked b c id bytes r same writes = let P : ℕ → Type 0 = λ n. Writes n b c id bytes asked r in subst P same writes

pub put_more : (given : ℕ) (a b c : Store) (id i n : ℕ) (bytes : List ℕ) → i ≤ length bytes → id < given → Put given a b id i bytes
    → Writes given b c id (rest i bytes) (length (rest i bytes)) (Ok n) → 0 < n → Put given a c id (i + n) bytes
put_more given a b c id i n bytes le lt t w some =
    let name : b.name id ≡ a.name id = t.ids.name id lt in
    let own_bytes : (xs : List ℕ) → a.bytes (a.name id) ≡ Some xs → c.bytes (a.name id) ≡ Some (xs ++ take (i + n) bytes) = λ xs there.
    let was : b.bytes (b.name id) ≡ Some (xs ++ take i bytes) = ap (λ (q : List ℕ). b.bytes q) name ∙ t.own xs there in
    ap (λ (q : List ℕ). c.bytes q) (sym name) ∙ w.appended.own
    ∙ ap (λ (o : Option (List ℕ)). Some (unwrap_or o [] ++ take n (rest i bytes))) was
    ∙ ap (λ (ys : List ℕ). Some ys) (append_assoc xs (take i bytes) (take n (rest i bytes)) ∙ ap (λ (ys : List ℕ). xs ++ ys) (take_rest i n bytes le)) in
    record {
      ids = keeps_both given a b c t.ids w.ids;
      places = λ k below. w.places k below ∙ t.places k below;
      others = λ q ne. w.appended.others q (λ e. ne (e ∙ name)) ∙ t.others q ne;
      own = own_bytes;
      entries = t.entries ++ Write id (length (rest i bytes)) (Some n) ∷ [];
      takens = All-push (IsTaken id) t.entries (Write id (length (rest i bytes)) (Some n)) t.takens (refl, some);
      calls = w.calls ∙ ap (λ (es : List FileCall). es ++ Write id (length (rest i bytes)) (Some n) ∷ []) t.calls ∙ append_assoc a.calls t.entries (Write id (length (rest i bytes)) (Some n) ∷ []);
    }

module _ (given : ℕ) (a b : Store) (id i : ℕ) (bytes : List ℕ) (le : i ≤ length bytes) (t : Put given a b id i bytes) where
  pub all_put : length bytes ≤ i → WritesWhole given a b id bytes (Ok tt)
  all_put done = record {
    count = i;
    at_most = le;
    all = omega arith;
    ids = t.ids;
    places = t.places;
    others = t.others;
    own = t.own;
    entries = t.entries;
    takens = t.takens;
    calls = t.calls ∙ ap (λ (es : List FileCall). a.calls ++ es) (sym (append-nil t.entries));
    writes = writes_of id t.entries (last_write id (length bytes - i) (Ok tt)) t.takens (last_writes id (length bytes - i) (Ok tt));
    fails = last_write_fails id (length bytes - i) t.entries t.takens (Ok tt);
  }

  pub part_put : (c : Store) (e : IoErr) → id < given → Writes given b c id (rest i bytes) (length (rest i bytes)) (Err e) → WritesWhole given a c id bytes (Err e)
  part_put c Failed lt w =
      record {
        count = i;
        at_most = le;
        all = tt;
        ids = keeps_both given a b c t.ids w.ids;
        places = λ k below. w.places k below ∙ t.places k below;
        others = λ q ne. w.err q ∙ t.others q ne;
        own = λ xs there. w.err (a.name id) ∙ t.own xs there;
        entries = t.entries;
        takens = t.takens;
        writes = writes_of id t.entries (last_write id (length bytes - i) (Err Failed)) t.takens (last_writes id (length bytes - i) (Err Failed));
        fails = last_write_fails id (length bytes - i) t.entries t.takens (Err Failed);
        calls = w.calls ∙ ap (λ (es : List FileCall). es ++ Write id (length (rest i bytes)) None ∷ []) t.calls ∙ append_assoc a.calls t.entries (Write id (length (rest i bytes)) None ∷ [])
            ∙ ap (λ (n : ℕ). a.calls ++ (t.entries ++ Write id n None ∷ [])) (length_rest i bytes le);
      }
  part_put c Memory lt w =
      record {
        count = i;
        at_most = le;
        all = tt;
        ids = keeps_both given a b c t.ids w.ids;
        places = λ k below. w.places k below ∙ t.places k below;
        others = λ q ne. w.err q ∙ t.others q ne;
        own = λ xs there. w.err (a.name id) ∙ t.own xs there;
        entries = t.entries;
        takens = t.takens;
        writes = writes_of id t.entries (last_write id (length bytes - i) (Err Memory)) t.takens (last_writes id (length bytes - i) (Err Memory));
        fails = last_write_fails id (length bytes - i) t.entries t.takens (Err Memory);
        calls = w.calls ∙ ap (λ (es : List FileCall). es ++ []) t.calls ∙ append_assoc a.calls t.entries [];
      }
