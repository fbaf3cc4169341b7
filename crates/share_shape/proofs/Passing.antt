-- The first compound that is shift-equal to another is the first that stands twice.
use Rattle.std.proofs.Common.{◌≡◌, ℕ, zero, suc, ◌+◌, ◌<◌, ◌≤◌, Bool, true, false, List, [], ◌∷◌, ◌++◌, Option, Some, None, map, drop, length, get_or, nat_le, refl, sym, ◌∙◌, ap, arith, drop-cons, if◌then◌else◌}
use Rattle.std.specs.List.{list_any}
use Rattle.std.proofs.lemmas.Bool.{le-leb, or_parts}
use Rattle.std.proofs.Math.Seq.{drop-length}
use Rattle.soda_words.proofs.CallerLemmas.{same_tests}
use Rattle.soda_ir.specs.declared.program.Tensor.{Tensor}
use Rattle.soda_ir.specs.Formula.{Formula}
use Rattle.soda_ir.specs.Program.{PlainTensor, plain_tensor}
use Rattle.share_shape.specs.Compounds.{Site, compounds_of, site, sites_from}
use Rattle.share_shape.specs.Counts.{one, tensor_hits, total}
use Rattle.share_shape.specs.Procedure.{first_shared}
use Rattle.share_shape.specs.Shifts.{are_shift_equal}
use Rattle.share_shape.proofs.Counting.{any_one, site_hits}
use Rattle.share_shape.proofs.Found.{Every, IsSite, none_closed, sites_have}
use Rattle.share_shape.proofs.Same.{base_one, one_base}
use Rattle.share_shape.specs.machine.Search.{first_passing, is_twice, site_passing}

-- shift-equality goes both ways
turned : (f g : Formula) → are_shift_equal f g ≡ are_shift_equal g f
turned f g =
    same_tests (are_shift_equal f g) (are_shift_equal g f) (λ e. base_one g f (sym (one_base f g e))) (λ e. base_one f g (sym (one_base g f e)))

abbrev count_in : Formula → List Site → ℕ
count_in c ss = total (λ (q : Site). one (are_shift_equal c q.compound)) ss

-- one is counted where one is there
none_counted : (c : Formula) (ss : List Site) → list_any (λ (r : Site). are_shift_equal c r.compound) ss ≡ false → count_in c ss ≡ 0
none_counted c [] e = refl
none_counted c (r ∷ rs) e =
    let parts = or_parts (are_shift_equal c r.compound) (list_any (λ (q : Site). are_shift_equal c q.compound) rs) e in
    omega (arith, ap one parts.0, none_counted c rs parts.1)

fails : (w : ℕ) → w < 2 → false ≡ nat_le 2 w
fails zero h = refl
fails (suc zero) h = refl
fails (suc (suc w)) h = absurd (omega arith)

test_by : (w n : ℕ) (b : Bool) → w ≡ 1 + n → (b ≡ true → 1 ≤ n) → (b ≡ false → n ≡ 0) → b ≡ nat_le 2 w
test_by w n true e f g = sym (le-leb 2 w (omega (arith, f refl)))
test_by w n false e f g = fails w (omega (arith, g refl))

module _ (W : Formula → ℕ) where
  abbrev Counts : List Site → Site → Type 0
  Counts ss r = W r.compound ≡ count_in r.compound ss

  -- behind one that has no partner the counts are the same
  behind : (s : Site) (all rs : List Site) → list_any (λ (r : Site). are_shift_equal s.compound r.compound) rs ≡ false → Every (Counts (s ∷ all)) rs → Every (Counts all) rs
  behind s all [] e h = tt
  behind s all (r ∷ rs) e h =
      let parts = or_parts (are_shift_equal s.compound r.compound) (list_any (λ (q : Site). are_shift_equal s.compound q.compound) rs) e in
      (h.0 ∙ omega (arith, ap one (turned r.compound s.compound ∙ parts.0)), behind s all rs parts.1 h.1)

  same_by : (s : Site) (rs : List Site) (b : Bool) → list_any (λ (r : Site). are_shift_equal s.compound r.compound) rs ≡ b → (b ≡ false → first_shared rs ≡ site_passing (λ c. nat_le 2 (W c)) rs) → (if b then Some s else first_shared rs) ≡ (if b then Some s else site_passing (λ c. nat_le 2 (W c)) rs)
  same_by s rs true e h = refl
  same_by s rs false e h = h refl

  pub found_alike : (ss : List Site) → Every (Counts ss) ss → first_shared ss ≡ site_passing (λ c. nat_le 2 (W c)) ss
  found_alike [] h = refl
  found_alike (s ∷ rs) h =
      let any = list_any (λ (r : Site). are_shift_equal s.compound r.compound) rs in
      let known : W s.compound ≡ 1 + count_in s.compound rs = h.0 ∙ omega (arith, ap one (base_one s.compound s.compound refl)) in
      let test : any ≡ nat_le 2 (W s.compound) = test_by (W s.compound) (count_in s.compound rs) any known (any_one s.compound rs) (none_counted s.compound rs) in
      same_by s rs any refl (λ e. found_alike rs (behind s rs rs e h.1)) ∙ ap (λ b. if b then Some s else site_passing (λ c. nat_le 2 (W c)) rs) test

-- a fact of each of a list gives another
pub each : {X : Type 0} → (P Q : X → Type 0) → ((x : X) → P x → Q x) → (xs : List X) → Every P xs → Every Q xs
each P Q f [] h = tt
each P Q f (x ∷ xs) h = (f x h.0, each P Q f xs h.1)

-- the search by counts finds what sharing takes
pub search_exact : (ts : List PlainTensor) → first_shared (sites_from 0 ts) ≡ site_passing (is_twice ts) (sites_from 0 ts)
search_exact ts =
    let all = sites_have (λ f. Unit {0}) none_closed 0 ts (λ i f e. tt) in
    found_alike (λ c. total (tensor_hits c) ts) (sites_from 0 ts) (each (IsSite (λ f. Unit {0}) 0 ts) (λ (r : Site). total (tensor_hits r.compound) ts ≡ count_in r.compound (sites_from 0 ts)) (λ r s. sym (site_hits r.compound s.compound.cell 0 ts)) (sites_from 0 ts) all)

-- tensor by tensor
passing_by : (test : Formula → Bool) (k : ℕ) (f : Formula) (fs : List Formula) (rest : List Site) (b : Bool) → (site_passing test (map (site k) fs ++ rest) ≡ (elim (first_passing test fs) [ None ↦ site_passing test rest | Some c ↦ Some (site k c) ])) → (if b then Some (site k f) else site_passing test (map (site k) fs ++ rest)) ≡ (elim (if b then Some f else first_passing test fs) [ None ↦ site_passing test rest | Some c ↦ Some (site k c) ])
passing_by test k f fs rest true h = refl
passing_by test k f fs rest false h = h

passing_front : (test : Formula → Bool) (k : ℕ) (fs : List Formula) (rest : List Site) → site_passing test (map (site k) fs ++ rest) ≡ (elim (first_passing test fs) [ None ↦ site_passing test rest | Some c ↦ Some (site k c) ])
passing_front test k [] rest = refl
passing_front test k (f ∷ fs) rest = passing_by test k f fs rest (test f) (passing_front test k fs rest)

abbrev pub passing_from : (Formula → Bool) → List Tensor → ℕ → Option Site
passing_from test ts i = site_passing test (sites_from i (map plain_tensor (drop i ts)))

module _ (test : Formula → Bool) (ts : List Tensor) (i : ℕ) (t : Tensor) (l : i < length ts) (e : t ≡ get_or ts i t) where
  next_tensor : passing_from test ts i ≡ (elim (first_passing test (compounds_of (plain_tensor t))) [ None ↦ passing_from test ts (suc i) | Some c ↦ Some (site i c) ])
  next_tensor =
      ap (λ us. site_passing test (sites_from i (map plain_tensor us))) (drop-cons ts i t l)
      ∙ ap (λ (u : Tensor). site_passing test (map (site i) (compounds_of (plain_tensor u)) ++ sites_from (suc i) (map plain_tensor (drop (suc i) ts)))) (sym e)
      ∙ passing_front test i (compounds_of (plain_tensor t)) (sites_from (suc i) (map plain_tensor (drop (suc i) ts)))

  pub not_here : first_passing test (compounds_of (plain_tensor t)) ≡ None → passing_from test ts i ≡ passing_from test ts 0 → passing_from test ts (i + 1) ≡ passing_from test ts 0
  not_here n inv =
      let s : i + 1 ≡ suc i = omega arith in
      ap (passing_from test ts) s ∙ sym (ap (λ (o : Option Formula). elim o [ None ↦ passing_from test ts (suc i) | Some c ↦ Some (site i c) ]) n) ∙ sym next_tensor ∙ inv

  pub is_here : (c : Formula) → first_passing test (compounds_of (plain_tensor t)) ≡ Some c → passing_from test ts i ≡ passing_from test ts 0 → passing_from test ts 0 ≡ Some (site i c)
  is_here c n inv =
      sym inv ∙ next_tensor ∙ ap (λ (o : Option Formula). elim o [ None ↦ passing_from test ts (suc i) | Some d ↦ Some (site i d) ]) n

pub nowhere : (test : Formula → Bool) (ts : List Tensor) (i : ℕ) → length ts ≡ i → passing_from test ts i ≡ passing_from test ts 0 → passing_from test ts 0 ≡ None
nowhere test ts i e inv =
    let n : drop i ts ≡ [] = ap (λ k. drop k ts) (sym e) ∙ drop-length ts in
    sym inv ∙ ap (λ us. site_passing test (sites_from i (map plain_tensor us))) n
