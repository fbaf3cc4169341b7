-- How the runs of some bytes go on with more bytes.
use Rattle.std.proofs.Common.{◌≡◌, ℕ, ◌+◌, ◌≤◌, Bool, true, false, cond, List, [], ◌∷◌, ◌++◌, length, if◌then◌else◌, refl, sym, ◌∙◌, ap, arith, append_assoc, length-append}
use Rattle.std.specs.List.{filter}
use Rattle.std.proofs.lemmas.List.{append-nil}
use Rattle.std.proofs.lemmas.List.Elements.{filter-append}
use Rattle.array_bytes.specs.Runs.{is_space, put_first, fields, last_field, ended_fields, is_run, runs, ended_runs, open_run}

-- the fields after one more byte
abbrev added : ℕ → List (List ℕ) → List (List ℕ)
added b fs = ended_fields fs ++ (if is_space b then last_field fs ∷ [] ∷ [] else (last_field fs ++ b ∷ []) ∷ [])

-- there is a field
some_fields : (bs : List ℕ) → (f : List ℕ) × (fs : List (List ℕ)) × (fields bs ≡ f ∷ fs)
some_fields [] = ([], [], refl)
some_fields (b ∷ bs) =
    let r = some_fields bs in
    elim (is_space b) as (λ t. (f : List ℕ) × (fs : List (List ℕ)) × ((if t then [] ∷ fields bs else put_first b (fields bs)) ≡ f ∷ fs)) [
      | true ↦ ([], fields bs, refl)
      | false ↦ (b ∷ r.0, r.1, ap (put_first b) r.2)
    ]

put_added : (a b : ℕ) (g : List ℕ) (gs : List (List ℕ)) → put_first a (added b (g ∷ gs)) ≡ added b ((a ∷ g) ∷ gs)
put_added a b g [] =
    elim (is_space b) as (λ t. put_first a (if t then g ∷ [] ∷ [] else (g ++ b ∷ []) ∷ []) ≡ (if t then (a ∷ g) ∷ [] ∷ [] else ((a ∷ g) ++ b ∷ []) ∷ [])) [
      | true ↦ refl
      | false ↦ refl
    ]
put_added a b g (h ∷ hs) = refl

fields_push : (bs : List ℕ) (b : ℕ) → fields (bs ++ b ∷ []) ≡ added b (fields bs)
fields_push [] b = refl
fields_push (a ∷ bs) b =
    let r = some_fields bs in
    let ih = fields_push bs b in
    elim (is_space a) as (λ t. (if t then [] ∷ fields (bs ++ b ∷ []) else put_first a (fields (bs ++ b ∷ []))) ≡ added b (if t then [] ∷ fields bs else put_first a (fields bs))) [
      | true ↦ ap (λ (fs : List (List ℕ)). [] ∷ fs) ih ∙ ap (λ (fs : List (List ℕ)). [] ∷ added b fs) r.2 ∙ sym (ap (λ (fs : List (List ℕ)). added b ([] ∷ fs)) r.2)
      | false ↦ ap (put_first a) ih ∙ ap (λ (fs : List (List ℕ)). put_first a (added b fs)) r.2 ∙ put_added a b r.0 r.1 ∙ sym (ap (λ (fs : List (List ℕ)). added b (put_first a fs)) r.2)
    ]

ended_push : (es : List (List ℕ)) (x : List ℕ) → ended_fields (es ++ x ∷ []) ≡ es
ended_push [] x = refl
ended_push (e ∷ []) x = refl
ended_push (e ∷ f ∷ es) x = ap (λ (zs : List (List ℕ)). e ∷ zs) (ended_push (f ∷ es) x)

last_push : (es : List (List ℕ)) (x : List ℕ) → last_field (es ++ x ∷ []) ≡ x
last_push [] x = refl
last_push (e ∷ []) x = refl
last_push (e ∷ f ∷ es) x = last_push (f ∷ es) x

-- the fields are those that have ended and the last
again : (f : List ℕ) (fs : List (List ℕ)) → f ∷ fs ≡ ended_fields (f ∷ fs) ++ last_field (f ∷ fs) ∷ []
again f [] = refl
again f (g ∷ fs) = ap (λ (zs : List (List ℕ)). f ∷ zs) (again g fs)

fields_again : (bs : List ℕ) → fields bs ≡ ended_fields (fields bs) ++ last_field (fields bs) ∷ []
fields_again bs =
    let r = some_fields bs in
    r.2 ∙ again r.0 r.1 ∙ sym (ap (λ (fs : List (List ℕ)). ended_fields fs ++ last_field fs ∷ []) r.2)

-- a field as a run, if it is one
abbrev pub as_run : List ℕ → List (List ℕ)
as_run r = filter is_run (r ∷ [])

pub runs_parts : (bs : List ℕ) → runs bs ≡ ended_runs bs ++ as_run (open_run bs)
unfolding runs ended_runs open_run
runs_parts bs = ap (filter is_run) (fields_again bs) ∙ filter-append is_run (ended_fields (fields bs)) (last_field (fields bs) ∷ [])

-- a byte of white space ends what runs there are
pub ended_space : (bs : List ℕ) (b : ℕ) → is_space b ≡ true → ended_runs (bs ++ b ∷ []) ≡ runs bs
unfolding runs ended_runs
ended_space bs b e =
    let fs : List (List ℕ) = fields bs in
    let at : fields (bs ++ b ∷ []) ≡ (ended_fields fs ++ last_field fs ∷ []) ++ [] ∷ [] =
    fields_push bs b ∙ ap (λ t. ended_fields fs ++ (if t then last_field fs ∷ [] ∷ [] else (last_field fs ++ b ∷ []) ∷ [])) e
    ∙ sym (append_assoc (ended_fields fs) (last_field fs ∷ []) ([] ∷ [])) in
    ap (λ (gs : List (List ℕ)). filter is_run (ended_fields gs)) at ∙ ap (filter is_run) (ended_push (ended_fields fs ++ last_field fs ∷ []) []) ∙ ap (filter is_run) (sym (fields_again bs))

pub open_space : (bs : List ℕ) (b : ℕ) → is_space b ≡ true → open_run (bs ++ b ∷ []) ≡ []
unfolding open_run
open_space bs b e =
    let fs : List (List ℕ) = fields bs in
    let at : fields (bs ++ b ∷ []) ≡ (ended_fields fs ++ last_field fs ∷ []) ++ [] ∷ [] =
    fields_push bs b ∙ ap (λ t. ended_fields fs ++ (if t then last_field fs ∷ [] ∷ [] else (last_field fs ++ b ∷ []) ∷ [])) e
    ∙ sym (append_assoc (ended_fields fs) (last_field fs ∷ []) ([] ∷ [])) in
    ap last_field at ∙ last_push (ended_fields fs ++ last_field fs ∷ []) []

-- any other goes on with the last
pub ended_other : (bs : List ℕ) (b : ℕ) → is_space b ≡ false → ended_runs (bs ++ b ∷ []) ≡ ended_runs bs
unfolding ended_runs
ended_other bs b e =
    let fs : List (List ℕ) = fields bs in
    let at : fields (bs ++ b ∷ []) ≡ ended_fields fs ++ (last_field fs ++ b ∷ []) ∷ [] =
    fields_push bs b ∙ ap (λ t. ended_fields fs ++ (if t then last_field fs ∷ [] ∷ [] else (last_field fs ++ b ∷ []) ∷ [])) e in
    ap (λ (gs : List (List ℕ)). filter is_run (ended_fields gs)) at ∙ ap (filter is_run) (ended_push (ended_fields fs) (last_field fs ++ b ∷ []))

pub open_other : (bs : List ℕ) (b : ℕ) → is_space b ≡ false → open_run (bs ++ b ∷ []) ≡ open_run bs ++ b ∷ []
unfolding open_run
open_other bs b e =
    let fs : List (List ℕ) = fields bs in
    let at : fields (bs ++ b ∷ []) ≡ ended_fields fs ++ (last_field fs ++ b ∷ []) ∷ [] =
    fields_push bs b ∙ ap (λ t. ended_fields fs ++ (if t then last_field fs ∷ [] ∷ [] else (last_field fs ++ b ∷ []) ∷ [])) e in
    ap last_field at ∙ last_push (ended_fields fs) (last_field fs ++ b ∷ [])

-- runs that have ended stay
push_grows : (bs : List ℕ) (b : ℕ) → (zs : List (List ℕ)) × (ended_runs (bs ++ b ∷ []) ≡ ended_runs bs ++ zs)
push_grows bs b =
    elim (is_space b) as (λ t. is_space b ≡ t → (zs : List (List ℕ)) × (ended_runs (bs ++ b ∷ []) ≡ ended_runs bs ++ zs)) [
      | true ↦ λ e. (as_run (open_run bs), ended_space bs b e ∙ runs_parts bs)
      | false ↦ λ e. ([], ended_other bs b e ∙ sym (append-nil (ended_runs bs)))
    ] refl

pub ended_grow : (bs ys : List ℕ) → (zs : List (List ℕ)) × (ended_runs (bs ++ ys) ≡ ended_runs bs ++ zs)
ended_grow bs [] = ([], ap ended_runs (append-nil bs) ∙ sym (append-nil (ended_runs bs)))
ended_grow bs (y ∷ ys) =
    let one = push_grows bs y in
    let more = ended_grow (bs ++ y ∷ []) ys in
    (one.0 ++ more.0, ap ended_runs (sym (append_assoc bs (y ∷ []) ys)) ∙ more.1 ∙ ap (λ (es : List (List ℕ)). es ++ more.0) one.1 ∙ append_assoc (ended_runs bs) one.0 more.0)

pub runs_grow : (bs ys : List ℕ) → (zs : List (List ℕ)) × (runs (bs ++ ys) ≡ ended_runs bs ++ zs)
runs_grow bs ys =
    let more = ended_grow bs ys in
    let last : List (List ℕ) = as_run (open_run (bs ++ ys)) in
    (more.0 ++ last, runs_parts (bs ++ ys) ∙ ap (λ (es : List (List ℕ)). es ++ last) more.1 ∙ append_assoc (ended_runs bs) more.0 last)

as_run_short : (r : List ℕ) → length (as_run r) ≤ 1
as_run_short [] = omega arith
as_run_short (b ∷ r) = omega arith

as_run_some : (r : List ℕ) (b : ℕ) → length (as_run (r ++ b ∷ [])) ≡ 1
as_run_some [] b = refl
as_run_some (a ∷ r) b = refl

-- there are no fewer runs after one more byte
one_counts : (bs : List ℕ) (b : ℕ) → length (runs bs) ≤ length (runs (bs ++ b ∷ []))
one_counts bs b =
    let was : length (runs bs) ≡ length (ended_runs bs) + length (as_run (open_run bs)) = ap length (runs_parts bs) ∙ length-append (ended_runs bs) (as_run (open_run bs)) in
    let now : length (runs (bs ++ b ∷ [])) ≡ length (ended_runs (bs ++ b ∷ [])) + length (as_run (open_run (bs ++ b ∷ []))) =
    ap length (runs_parts (bs ++ b ∷ [])) ∙ length-append (ended_runs (bs ++ b ∷ [])) (as_run (open_run (bs ++ b ∷ []))) in
    elim (is_space b) as (λ t. is_space b ≡ t → length (runs bs) ≤ length (runs (bs ++ b ∷ []))) [
      | true ↦ λ e. let same : length (ended_runs (bs ++ b ∷ [])) ≡ length (runs bs) = ap length (ended_space bs b e) in omega arith
      | false ↦ λ e.
          let same : length (ended_runs (bs ++ b ∷ [])) ≡ length (ended_runs bs) = ap length (ended_other bs b e) in
          let some : length (as_run (open_run (bs ++ b ∷ []))) ≡ 1 = ap (λ (r : List ℕ). length (as_run r)) (open_other bs b e) ∙ as_run_some (open_run bs) b in
          let few : length (as_run (open_run bs)) ≤ 1 = as_run_short (open_run bs) in
          omega arith
    ] refl

pub runs_count : (bs ys : List ℕ) → length (runs bs) ≤ length (runs (bs ++ ys))
runs_count bs [] = let same : length (runs (bs ++ [])) ≡ length (runs bs) = ap (λ (xs : List ℕ). length (runs xs)) (append-nil bs) in omega arith
runs_count bs (y ∷ ys) =
    let one : length (runs bs) ≤ length (runs (bs ++ y ∷ [])) = one_counts bs y in
    let more : length (runs (bs ++ y ∷ [])) ≤ length (runs ((bs ++ y ∷ []) ++ ys)) = runs_count (bs ++ y ∷ []) ys in
    let same : length (runs ((bs ++ y ∷ []) ++ ys)) ≡ length (runs (bs ++ y ∷ ys)) = ap (λ (xs : List ℕ). length (runs xs)) (append_assoc bs (y ∷ []) ys) in
    omega arith

-- a byte that is no white space makes one run more than have ended
pub run_begins : (bs : List ℕ) (b : ℕ) (ys : List ℕ) → is_space b ≡ false → length (ended_runs bs) + 1 ≤ length (runs (bs ++ b ∷ ys))
run_begins bs b ys e =
    let now : length (runs (bs ++ b ∷ [])) ≡ length (ended_runs (bs ++ b ∷ [])) + length (as_run (open_run (bs ++ b ∷ []))) =
    ap length (runs_parts (bs ++ b ∷ [])) ∙ length-append (ended_runs (bs ++ b ∷ [])) (as_run (open_run (bs ++ b ∷ []))) in
    let same : length (ended_runs (bs ++ b ∷ [])) ≡ length (ended_runs bs) = ap length (ended_other bs b e) in
    let some : length (as_run (open_run (bs ++ b ∷ []))) ≡ 1 = ap (λ (r : List ℕ). length (as_run r)) (open_other bs b e) ∙ as_run_some (open_run bs) b in
    let more : length (runs (bs ++ b ∷ [])) ≤ length (runs ((bs ++ b ∷ []) ++ ys)) = runs_count (bs ++ b ∷ []) ys in
    let whole : length (runs ((bs ++ b ∷ []) ++ ys)) ≡ length (runs (bs ++ b ∷ ys)) = ap (λ (xs : List ℕ). length (runs xs)) (append_assoc bs (b ∷ []) ys) in
    omega arith
