-- Files of a list that are asked for one by one.
use Rattle.std.proofs.Common.{◌≡◌, ◌<◌, ◌≤◌, ℕ, zero, suc, ◌+◌, Bool, List, [], ◌∷◌, ◌++◌, length, map, take, get_or, refl, sym, ap, subst, ◌∙◌, add-one, arith, append_assoc, length-append, All, Result, Ok, Err}
use Rattle.std.specs.Borrow.{Bor}
use Rattle.std.proofs.lemmas.List.{length-map, length-take, take_all}
use Rattle.std.proofs.lemmas.List.Elements.{All-push}
use Rattle.soda_io.specs.declared.error.IoErr.{IoErr}
use Rattle.soda_io.specs.declared.error.IoErr.TheVariants as io
use Rattle.soda_io.specs.Store.{Store}
use Rattle.job_files.specs.Contents.{Holding, IsThere}
use Rattle.job_files.specs.Files.{JobFile, asking, ids_from, names_of}
use Rattle.job_files.specs.Progress.{Progress, Stuck}
use Rattle.job_files.specs.Steps.{AsksNext}

ids_from-push : (id n : ℕ) → ids_from id (n + 1) ≡ ids_from id n ++ (id + n) ∷ []
ids_from-push id zero = let e : id ≡ id + 0 = omega arith in ap (λ (k : ℕ). k ∷ []) e
ids_from-push id (suc n) =
    let e : id + 1 + n ≡ id + suc n = omega arith in
    let one : suc n + 1 ≡ suc (n + 1) = omega arith in
    ap (ids_from id) one ∙ ap (λ (ks : List ℕ). id ∷ ks) (ids_from-push (id + 1) n) ∙ ap (λ (k : ℕ). id ∷ (ids_from (id + 1) n ++ k ∷ [])) e

-- one more id
pub ids_more : (xs ys : List ℕ) (first i given id : ℕ) → ys ≡ xs ++ id ∷ [] → xs ≡ ids_from first i → id ≡ given → given ≡ first + i
    → ys ≡ ids_from first (i + 1)
ids_more xs ys first i given id more before is count =
    more ∙ ap (λ (zs : List ℕ). zs ++ id ∷ []) before ∙ ap (λ (k : ℕ). ids_from first i ++ k ∷ []) (is ∙ count) ∙ sym (ids_from-push first i)

-- the names about one of them
pub record Parts (names : List (List ℕ)) (i : ℕ) (name : List ℕ) : Type 0 where
  pub rest : List (List ℕ)
  pub is : names ≡ take i names ++ name ∷ rest
  pub front : take (i + 1) names ≡ take i names ++ name ∷ []

pub parts : (names : List (Bor (List ℕ))) (i : ℕ) → i < length names → (d : Bor (List ℕ)) → Parts (names_of names) i (get_or names i d).now
parts [] i lt d = absurd (omega arith)
parts (n ∷ names) zero lt d = record { rest = names_of names; is = refl; front = refl }
parts (n ∷ names) (suc i) lt d =
    let x = parts names i (omega arith) d in
    record {
      rest = x.rest;
      is = ap (λ (ns : List (List ℕ)). n.now ∷ ns) x.is;
      front = rw add-one
          (ap (λ (ns : List (List ℕ)). n.now ∷ ns) (sym (rw add-one at (sym x.front))));
    }

-- a way to ask for the file of this name
abbrev pub by : Bool → List ℕ → Bool × List ℕ
by opened name = (opened, name)

pub many : (opened : Bool) (more : List JobFile) (names : List (Bor (List ℕ))) → map asking more ≡ map (by opened) (names_of names) → length more ≡ length names
many opened [] [] e = refl
many opened [] (name ∷ names) e = absurd (cc)
many opened (f ∷ more) [] e = absurd (cc)
many opened (f ∷ more) (name ∷ names) e = let rest : map asking more ≡ map (by opened) (names_of names) = cc in ap suc (many opened more names rest)

-- one more name is there
pub all_there : (old now : Holding) (names : List (Bor (List ℕ))) (i : ℕ) → i < length names → (d : Bor (List ℕ)) → ((name : List ℕ) → now name ≡ old name)
    → All (IsThere old) (take i (names_of names)) → IsThere now (get_or names i d).now → All (IsThere old) (take (i + 1) (names_of names))
all_there old now names i lt d keeps before here =
    let x = parts names i lt d in
    let P : List (List ℕ) → Type 0 = λ ns. All (IsThere old) ns in
    subst P (sym x.front) (All-push (IsThere old) (take i (names_of names)) (get_or names i d).now before (here.0, sym (keeps (get_or names i d).now) ∙ here.1))

pub all_names : (old : Holding) (names : List (Bor (List ℕ))) (i : ℕ) → length names ≤ i → All (IsThere old) (take i (names_of names))
    → All (IsThere old) (names_of names)
all_names old names i le all =
    let P : List (List ℕ) → Type 0 = λ ns. All (IsThere old) ns in
    let whole : length (names_of names) ≤ i = omega (arith, length-map names (λ (name : Bor (List ℕ)). name.now)) in
    subst P (take_all i (names_of names) whole) all

-- the file of one name, which stands behind those of the names before it
pub record IsNext (opened : Bool) (more : List JobFile) (i : ℕ) (name : List ℕ) : Type 0 where
  pub file : JobFile
  pub asks : asking file ≡ (opened, name)
  pub front : take (i + 1) more ≡ take i more ++ file ∷ []

pub next : (opened : Bool) (more : List JobFile) (names : List (Bor (List ℕ))) → map asking more ≡ map (by opened) (names_of names) → (i : ℕ)
    → i < length names → (d : Bor (List ℕ)) → IsNext opened more i (get_or names i d).now
next opened [] [] e i lt d = absurd (omega arith)
next opened [] (n ∷ names) e i lt d = absurd (cc)
next opened (f ∷ more) [] e i lt d = absurd (omega arith)
next opened (f ∷ more) (n ∷ names) e zero lt d = let head : asking f ≡ (opened, n.now) = cc in record { file = f; asks = head; front = refl }
next opened (f ∷ more) (n ∷ names) e (suc i) lt d =
    let rest : map asking more ≡ map (by opened) (names_of names) = cc in
    let x = next opened more names rest i (omega arith) d in
    record { file = x.file; asks = x.asks; front = rw add-one (ap (λ (fs : List JobFile). f ∷ fs) (sym (rw add-one at (sym x.front)))) }

-- One more of the names is asked for.
module _ (opened : Bool) (more : List JobFile) (names : List (Bor (List ℕ))) (e : map asking more ≡ map (by opened) (names_of names)) (i : ℕ)
    (first : ℕ) (begun : Store) (asked : List JobFile) (ended : ℕ) (places : ℕ → ℕ) (given : ℕ) (now : Store) where
  -- what the call on it did
  abbrev pub Step : Bor (List ℕ) → Result ℕ IoErr → Type 0
  Step d r = (f : JobFile) → asking f ≡ (opened, (get_or names i d).now) → AsksNext first begun (asked ++ take i more) ended places given now f r

  abbrev pub SoFar : ℕ → Type 0
  SoFar k = Progress first begun (asked ++ take k more) ended places given now

  -- the first of the names alone were asked for
  abbrev pub Part : Type 0
  Part = (count : ℕ) × (count ≤ length more) × SoFar count

  abbrev pub StuckAt : ℕ → Type 0
  StuckAt n = (n < length more) × Stuck first begun (asked ++ take (n + 1) more) ended (length asked + n) places given now

  pub whole_list : length names ≤ i → SoFar i → Progress first begun (asked ++ more) ended places given now
  whole_list le p =
      let P : List JobFile → Type 0 = λ fs. Progress first begun (asked ++ fs) ended places given now in
      subst P (take_all i more (omega (arith, many opened more names e))) p

  longer : (f : JobFile) → take (i + 1) more ≡ take i more ++ f ∷ [] → (asked ++ take i more) ++ f ∷ [] ≡ asked ++ take (i + 1) more
  longer f front = append_assoc asked (take i more) (f ∷ []) ∙ ap (λ (fs : List JobFile). asked ++ fs) (sym front)

  module _ (lt : i < length names) (d : Bor (List ℕ)) where
    within : i < length more
    within = omega (arith, many opened more names e)

    pub one_more : (id : ℕ) → Step d (Ok id) → SoFar (i + 1)
    one_more id step =
        let x = next opened more names e i lt d in
        let P : List JobFile → Type 0 = λ fs. Progress first begun fs ended places given now in
        subst P (longer x.file x.front) (step x.file x.asks).1

    pub part_pushed : (id : ℕ) → Step d (Ok id) → Part
    part_pushed id step = (i + 1, omega (arith, within), one_more id step)

    pub part_asked : (err : IoErr) → err ≡ io.Memory → Step d (Err err) → Part
    part_asked err is step =
        let x = next opened more names e i lt d in
        let P : IoErr → Type 0 = λ r. AsksNext first begun (asked ++ take i more) ended places given now x.file (Err r) in
        (i, omega (arith, within), subst P is (step x.file x.asks))

    pub stuck_at : (err : IoErr) → err ≡ io.Failed → Step d (Err err) → (n : ℕ) → i ≡ n → StuckAt n
    stuck_at err is step n same =
        let x = next opened more names e i lt d in
        let E : IoErr → Type 0 = λ r. AsksNext first begun (asked ++ take i more) ended places given now x.file (Err r) in
        let P : List JobFile → Type 0 = λ fs. Stuck first begun fs ended (length (asked ++ take i more)) places given now in
        let Q : ℕ → Type 0 = λ k. Stuck first begun (asked ++ take (i + 1) more) ended k places given now in
        let count : length (asked ++ take i more) ≡ length asked + i = omega (arith, length-append asked (take i more), length-take i more, within) in
        let R : ℕ → Type 0 = λ k. StuckAt k in
        let here : StuckAt i = (within, subst Q count (subst P (longer x.file x.front) (subst E is (step x.file x.asks)))) in
        subst R same here
