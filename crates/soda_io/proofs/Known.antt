-- A journal that names given ids alone goes on doing so.
use Rattle.std.proofs.Common.{◌≡◌, ◌≤◌, ℕ, List, [], ◌∷◌, ◌++◌, sym, subst, arith, ◌<◌, length}
use Rattle.std.proofs.lemmas.List.Elements.{All-push, All-weaker}
use Rattle.soda_io.specs.declared.call.FileCall.{FileCall}
use Rattle.soda_io.specs.declared.mem_id.MemId.{MemId}
use Rattle.soda_io.specs.Store.{named, NamesGiven}

-- an id that was given is one of a list that is the same
pub below : (id : ℕ) (is js : List MemId) → js ≡ is → id < length is → id < length js
below id is js same lt = let P : List MemId → Type 0 = λ ks. id < length ks in subst P (sym same) lt

-- the same journal, and as many ids
pub known_same : (m n : ℕ) (xs ys : List FileCall) → n ≡ m → ys ≡ xs → NamesGiven m xs → NamesGiven n ys
known_same m n xs ys same_count same_calls known =
    let P : ℕ → Type 0 = λ k. NamesGiven k ys in
    let Q : List FileCall → Type 0 = λ es. NamesGiven m es in
    subst P (sym same_count) (subst Q (sym same_calls) known)

-- one more entry, and no fewer ids
pub known_more : (m n : ℕ) (xs ys : List FileCall) (e : FileCall) → ys ≡ xs ++ e ∷ [] → m ≤ n → named e ≤ n
    → NamesGiven m xs → NamesGiven n ys
known_more m n xs ys e pushed more here known =
    let Q : List FileCall → Type 0 = λ es. NamesGiven n es in
    subst Q (sym pushed) (All-push (λ e. named e ≤ n) xs e (All-weaker (λ e. named e ≤ m) (λ e. named e ≤ n) (λ e le. omega arith) xs known) here)
