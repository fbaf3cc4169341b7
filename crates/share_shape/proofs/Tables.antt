-- What a table of marks says of compounds.
use Rattle.std.proofs.Common.{◌≡◌, ℕ, ◌≤◌, Bool, true, false, not, ◌&&◌, ◌==◌, List, [], ◌∷◌, ℤ, Option, Some, None, is_some, nat_le, min, refl, sym, ◌∙◌, ap, subst, arith, if◌then◌else◌}
use Rattle.std.proofs.lemmas.Bool.{and_parts, eq-eqb, false≢true, le-leb, leb-true}
use Rattle.soda_words.specs.Tokens.{or_else}
use Rattle.soda_ir.specs.Formula.{Formula, number, read, param, unary, binary, choice, cast, by_formula, every}
use Rattle.soda_ir.specs.Program.{PlainTensor}
use Rattle.soda_ir.specs.Uses.{formula_is}
use Rattle.soda_ir.proofs.CallerLemmas.{formula_good}
use Rattle.share_shape.specs.Compounds.{Site, counted_before, have_dims, sites_from}
use Rattle.share_shape.specs.Counts.{hits, one, tensor_hits, total}
use Rattle.share_shape.specs.Procedure.{first_shared}
use Rattle.share_shape.specs.Shifts.{are_shift_equal, has_cell}
use Rattle.share_shape.proofs.Counting.{same_cell}
use Rattle.share_shape.proofs.Exact.{has_dims}
use Rattle.share_shape.proofs.Found.{Every, IsSite, none_closed, sites_have, some_site}
use Rattle.share_shape.specs.machine.Marks.{first_of, is_repeated, mark, mark_hit, mark_hits, tensor_marks}
use Rattle.share_shape.specs.machine.Search.{first_passing, is_twice, site_passing}
use Rattle.share_shape.proofs.Alike.{same_mark}
use Rattle.share_shape.proofs.Passing.{each, search_exact}
use Rattle.share_shape.proofs.Search.{itself}

either_some : (x y : Option (List ℤ)) (a b : Bool) → is_some x ≡ not a → is_some y ≡ not b → is_some (or_else x y) ≡ not (a && b)
either_some None y true b e f = f
either_some None y false b e f = cc
either_some (Some o) y true b e f = cc
either_some (Some o) y false b e f = refl

regrouped : (a b c : Bool) → (a && (b && c)) ≡ (a && b && c)
regrouped true b c = refl
regrouped false b c = refl

-- a formula has a cell where it has a first one
first_known : (f : Formula) → is_some (first_of f) ≡ has_cell f
first_known (number n) = refl
first_known (read t o) = refl
first_known (param p k) = refl
first_known (unary op a) = first_known a
first_known (binary op a b) =
    either_some (first_of a) (first_of b) (every (λ t o. false) a) (every (λ t o. false) b) (first_known a) (first_known b)
first_known (choice c a b) =
    either_some (first_of c) (or_else (first_of a) (first_of b)) (every (λ t o. false) c) (every (λ t o. false) a && every (λ t o. false) b) (first_known c) (either_some (first_of a) (first_of b) (every (λ t o. false) a) (every (λ t o. false) b) (first_known a) (first_known b))
    ∙ ap not (regrouped (every (λ t o. false) c) (every (λ t o. false) a) (every (λ t o. false) b))
first_known (cast t a) = first_known a

pub marked : (test : Formula → Bool) (f : Formula) (fs : List Formula) → first_passing test (counted_before f fs) ≡ (if is_some (first_of f) && test f then Some f else first_passing test fs)
marked test f fs =
    itself test f fs ∙ ap (λ b. if b && test f then Some f else first_passing test fs) (sym (first_known f))

-- a formula itself, where its mark was counted twice, and else what was found in it
pub found_here : (count : ℕ → ℕ) (f : Formula) (fs : List Formula) (m : ℕ) (first : Option (List ℤ)) (wanted : Bool) (inside r : Option Formula)
    → m ≡ mark f → first ≡ first_of f → wanted ≡ (is_some first && nat_le 2 (count m)) → inside ≡ first_passing (is_repeated count) fs → r ≡ (if wanted then Some f else inside)
    → r ≡ first_passing (is_repeated count) (counted_before f fs)
found_here count f fs m first wanted inside r a b w h e =
    e ∙ ap (λ x. if x then Some f else inside) w ∙ ap (λ o. if is_some o && nat_le 2 (count m) then Some f else inside) b
    ∙ ap (λ n. if is_some (first_of f) && nat_le 2 (count n) then Some f else inside) a
    ∙ ap (λ o. if is_some (first_of f) && is_repeated count f then Some f else o) h ∙ sym (marked (is_repeated count) f fs)

module _ (d : ℕ) (c : Formula) (cell : has_cell c ≡ true) (dims : has_dims d c ≡ true) where
  hit_by : (g : Formula) (b : Bool) → has_dims d g ≡ true → are_shift_equal c g ≡ b → one b ≤ mark_hit (mark c) g
  hit_by g true e h =
      let there : is_some (first_of g) ≡ true = first_known g ∙ sym (same_cell c g h) ∙ cell in
      let same : (mark g == mark c) ≡ true = eq-eqb (mark g) (mark c) (sym (same_mark d c g cell dims e h)) in
      omega (arith, ap {B = ℕ} (λ a. if a && mark g == mark c then 1 else 0) there, ap {B = ℕ} (λ a. if a then 1 else 0) same)
  hit_by g false e h = omega arith

  -- as many compounds have the mark as are shift-equal, at least
  hits_marked : (f : Formula) → has_dims d f ≡ true → hits c f ≤ mark_hits (mark c) f
  hits_marked (number n) e = omega arith
  hits_marked (read t o) e = omega arith
  hits_marked (param p k) e = omega arith
  hits_marked (unary op a) e =
      omega (arith, hit_by (unary op a) (are_shift_equal c (unary op a)) e refl, hits_marked a e)
  hits_marked (binary op a b) e =
      let parts = and_parts (has_dims d a) (has_dims d b) e in
      omega (arith, hit_by (binary op a b) (are_shift_equal c (binary op a b)) e refl, hits_marked a parts.0, hits_marked b parts.1)
  hits_marked (choice x a b) e =
      let parts = and_parts (has_dims d x && has_dims d a) (has_dims d b) e in
      let front = and_parts (has_dims d x) (has_dims d a) parts.0 in
      omega (arith, hit_by (choice x a b) (are_shift_equal c (choice x a b)) e refl, hits_marked x front.0, hits_marked a front.1, hits_marked b parts.1)
  hits_marked (cast t a) e =
      omega (arith, hit_by (cast t a) (are_shift_equal c (cast t a)) e refl, hits_marked a e)

  tensor_marked : (o : Option Formula) → (elim o [ None ↦ true | Some f ↦ has_dims d f ]) ≡ true → by_formula o 0 (hits c) ≤ by_formula o 0 (mark_hits (mark c))
  tensor_marked None e = omega arith
  tensor_marked (Some f) e = hits_marked f e

  total_marked : (ts : List PlainTensor) → have_dims d ts ≡ true → total (tensor_hits c) ts ≤ total (tensor_marks (mark c)) ts
  total_marked [] e = omega arith
  total_marked (t ∷ ts) e =
      let parts = and_parts (formula_is (has_dims d) t) (have_dims d ts) e in
      omega (arith, tensor_marked t.formula parts.0, total_marked ts parts.1)

  -- what stands twice has its mark counted twice
  pub twice_repeated : (ts : List PlainTensor) (count : ℕ → ℕ) → have_dims d ts ≡ true → ((q : ℕ) → min 2 (count q) ≡ min 2 (total (tensor_marks q) ts)) → is_twice ts c ≡ true → is_repeated count c ≡ true
  twice_repeated ts count e known h =
      le-leb 2 (count (mark c)) (omega (arith, known (mark c), total_marked ts e, leb-true 2 (total (tensor_hits c) ts) h))

-- the first of a weaker test, where it passes the stronger one
module _ (weak strong : Formula → Bool) where
  abbrev Weaker : Site → Type 0
  Weaker s = strong s.compound ≡ true → weak s.compound ≡ true

  same_by : (s r : Site) (rs : List Site) (a b : Bool) → weak r.compound ≡ a → strong r.compound ≡ b → Weaker r → (if a then Some r else site_passing weak rs) ≡ Some s → strong s.compound ≡ true
      → (site_passing weak rs ≡ Some s → site_passing strong rs ≡ Some s) → (if b then Some r else site_passing strong rs) ≡ Some s
  same_by s r rs true true e f w h k rest = h
  same_by s r rs true false e f w h k rest =
      let same : r ≡ s = some_site h in absurd (false≢true (sym f ∙ ap (λ (x : Site). strong x.compound) same ∙ k))
  same_by s r rs false true e f w h k rest = absurd (false≢true (sym e ∙ w f))
  same_by s r rs false false e f w h k rest = rest h

  pub first_strong : (s : Site) (ss : List Site) → Every Weaker ss → site_passing weak ss ≡ Some s → strong s.compound ≡ true → site_passing strong ss ≡ Some s
  first_strong s [] a h k = cc
  first_strong s (r ∷ rs) a h k =
      same_by s r rs (weak r.compound) (strong r.compound) refl refl a.0 h k (λ g. first_strong s rs a.1 g k)

  none_by : (r : Site) (rs : List Site) (a b : Bool) → weak r.compound ≡ a → strong r.compound ≡ b → Weaker r → (if a then Some r else site_passing weak rs) ≡ None → (site_passing weak rs ≡ None → site_passing strong rs ≡ None) → (if b then Some r else site_passing strong rs) ≡ None
  none_by r rs true b e f w h rest = cc
  none_by r rs false true e f w h rest = absurd (false≢true (sym e ∙ w f))
  none_by r rs false false e f w h rest = rest h

  pub none_strong : (ss : List Site) → Every Weaker ss → site_passing weak ss ≡ None → site_passing strong ss ≡ None
  none_strong [] a h = refl
  none_strong (r ∷ rs) a h = none_by r rs (weak r.compound) (strong r.compound) refl refl a.0 h (none_strong rs a.1)

-- a fact of every compound holds of the one that is found
found_by : (P : Site → Type 0) (test : Formula → Bool) (s r : Site) (rs : List Site) (b : Bool) → P r → (site_passing test rs ≡ Some s → P s) → (if b then Some r else site_passing test rs) ≡ Some s → P s
found_by P test s r rs true h rest e = subst P (some_site e) h
found_by P test s r rs false h rest e = rest e

found_passing : (P : Site → Type 0) (test : Formula → Bool) (s : Site) (ss : List Site) → Every P ss → site_passing test ss ≡ Some s → P s
found_passing P test s [] h e = cc
found_passing P test s (r ∷ rs) h e =
    found_by P test s r rs (test r.compound) h.0 (found_passing P test s rs h.1) e

pub passing_cell : (test : Formula → Bool) (s : Site) (ts : List PlainTensor) → site_passing test (sites_from 0 ts) ≡ Some s → has_cell s.compound ≡ true
passing_cell test s ts e =
    let at : IsSite (λ f. Unit {0}) 0 ts s = found_passing (IsSite (λ f. Unit {0}) 0 ts) test s (sites_from 0 ts) (sites_have (λ f. Unit {0}) none_closed 0 ts (λ i f h. tt)) e in at.compound.cell

-- of the compounds of these tensors, those that stand twice have their marks counted twice
module _ (ts : List PlainTensor) (d : ℕ) (dims : have_dims d ts ≡ true) (count : ℕ → ℕ) (known : (q : ℕ) → min 2 (count q) ≡ min 2 (total (tensor_marks q) ts)) where
  abbrev HasDims : Formula → Type 0
  HasDims f = has_dims d f ≡ true

  all_weaker : Every (Weaker (is_repeated count) (is_twice ts)) (sites_from 0 ts)
  all_weaker =
      let all = sites_have HasDims (record {
        of_unary = λ op a e. e;
        of_binary = λ op a b e. and_parts (has_dims d a) (has_dims d b) e;
        of_choice = λ c a b e.
            let parts = and_parts (has_dims d c && has_dims d a) (has_dims d b) e in
            let front = and_parts (has_dims d c) (has_dims d a) parts.0 in
            (front.0, front.1, parts.1);
        of_cast = λ t a e. e;
      }) 0 ts (λ i f e. formula_good (has_dims d) ts i f dims e) in
      each (IsSite HasDims 0 ts) (Weaker (is_repeated count) (is_twice ts)) (λ s at h. twice_repeated d s.compound at.compound.cell at.compound.has ts count dims known h) (sites_from 0 ts) all

  -- so the first of them that stands twice, in truth, is the first that does
  pub first_is_shared : (s : Site) → site_passing (is_repeated count) (sites_from 0 ts) ≡ Some s → is_twice ts s.compound ≡ true → first_shared (sites_from 0 ts) ≡ Some s
  first_is_shared s e h =
      search_exact ts ∙ first_strong (is_repeated count) (is_twice ts) s (sites_from 0 ts) all_weaker e h

  pub none_is_shared : site_passing (is_repeated count) (sites_from 0 ts) ≡ None → first_shared (sites_from 0 ts) ≡ None
  none_is_shared e = search_exact ts ∙ none_strong (is_repeated count) (is_twice ts) (sites_from 0 ts) all_weaker e
