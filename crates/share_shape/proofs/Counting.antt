-- Each step leaves fewer compounds.
use Rattle.std.proofs.Common.{◌≡◌, ℕ, zero, suc, ◌+◌, ◌*◌, ◌<◌, ◌≤◌, Bool, true, false, not, ◌&&◌, ◌||◌, List, [], ◌∷◌, ◌++◌, ℤ, Option, Some, None, option_map, map, length, refl, sym, ◌∙◌, ap, subst, arith, length-append, if◌then◌else◌}
use Rattle.std.specs.List.{insert, list_any}
use Rattle.std.proofs.lemmas.Bool.{false≢true}
use Rattle.std.proofs.lemmas.List.{length-map}
use Rattle.soda_ir.specs.Formula.{Formula, number, read, param, unary, binary, choice, cast, by_formula, every}
use Rattle.soda_ir.specs.Program.{PlainTensor}
use Rattle.share_shape.specs.Compounds.{Site, compounds, compounds_of, site, sites_from}
use Rattle.share_shape.specs.Procedure.{first_shared, renumbered, replaced, replaced_in}
pub use Rattle.share_shape.specs.Counts.{hits, one, tensor_hits, total}
use Rattle.share_shape.specs.Shifts.{are_shift_equal, has_cell, shifted}
use Rattle.share_shape.proofs.Found.{some_site}
use Rattle.share_shape.proofs.Moves.{has_shifted}
use Rattle.share_shape.proofs.Replaced.{IsKept, is_operation, kept}
use Rattle.share_shape.proofs.Same.{base_one, one_base}

total-append : {X : Type 0} → (f : X → ℕ) (xs ys : List X) → total f (xs ++ ys) ≡ total f xs + total f ys
total-append f [] ys = omega arith
total-append f (x ∷ xs) ys = omega (arith, total-append f xs ys)

-- products with what is counted in parts
spread_one : (n h : ℕ) (b : Bool) → b ≡ false → n * (one b + h) ≡ n * h
spread_one n h b e = ap (λ x. n * (one x + h)) e ∙ omega arith

spread_two : (n h i : ℕ) (b : Bool) → b ≡ false → n * (one b + (h + i)) ≡ n * h + n * i
spread_two n h i b e = ap (λ x. n * (one x + (h + i))) e ∙ omega arith

spread_three : (n h i j : ℕ) (b : Bool) → b ≡ false → n * (one b + (h + (i + j))) ≡ n * h + (n * i + n * j)
spread_three n h i j b e = ap (λ x. n * (one x + (h + (i + j)))) e ∙ omega arith

-- how many compounds a formula has
abbrev pub count : Formula → ℕ
count (number n) = 0
count (read t o) = 0
count (param p k) = 0
count (unary op a) = one (has_cell a) + count a
count (binary op a b) = one (has_cell (binary op a b)) + (count a + count b)
count (choice c a b) = one (has_cell (choice c a b)) + (count c + (count a + count b))
count (cast t a) = one (has_cell a) + count a

-- how many parts a formula has
abbrev nodes : Formula → ℕ
nodes (number n) = 1
nodes (read t o) = 1
nodes (param p k) = 1
nodes (unary op a) = suc (nodes a)
nodes (binary op a b) = suc (nodes a + nodes b)
nodes (choice c a b) = suc (nodes c + (nodes a + nodes b))
nodes (cast t a) = suc (nodes a)

-- the same after a shift
nodes_shifted : (v : List ℤ) (f : Formula) → nodes (shifted v f) ≡ nodes f
nodes_shifted v (number n) = refl
nodes_shifted v (read t o) = refl
nodes_shifted v (param p k) = refl
nodes_shifted v (unary op a) = omega (arith, nodes_shifted v a)
nodes_shifted v (binary op a b) = omega (arith, nodes_shifted v a, nodes_shifted v b)
nodes_shifted v (choice c a b) = omega (arith, nodes_shifted v c, nodes_shifted v a, nodes_shifted v b)
nodes_shifted v (cast t a) = omega (arith, nodes_shifted v a)

pub count_shifted : (v : List ℤ) (f : Formula) → count (shifted v f) ≡ count f
count_shifted v (number n) = refl
count_shifted v (read t o) = refl
count_shifted v (param p k) = refl
count_shifted v (unary op a) = omega (arith, ap one (has_shifted v a), count_shifted v a)
count_shifted v (binary op a b) =
    omega (arith, ap one (has_shifted v (binary op a b)), count_shifted v a, count_shifted v b)
count_shifted v (choice c a b) =
    omega (arith, ap one (has_shifted v (choice c a b)), count_shifted v c, count_shifted v a, count_shifted v b)
count_shifted v (cast t a) = omega (arith, ap one (has_shifted v a), count_shifted v a)

-- what shift-equal formulas have in common
module _ (c f : Formula) (e : are_shift_equal c f ≡ true) where
  pub same_nodes : nodes c ≡ nodes f
  same_nodes = sym (nodes_shifted _ c) ∙ ap nodes (one_base c f e) ∙ nodes_shifted _ f

  pub same_count : count c ≡ count f
  same_count = sym (count_shifted _ c) ∙ ap count (one_base c f e) ∙ count_shifted _ f

  pub same_cell : has_cell c ≡ has_cell f
  same_cell = sym (has_shifted _ c) ∙ ap has_cell (one_base c f e) ∙ has_shifted _ f

-- a smaller formula has no part that is shift-equal
none_by : (c f : Formula) (b : Bool) → are_shift_equal c f ≡ b → nodes f < nodes c → one b ≡ 0
none_by c f true e h = absurd (omega (arith, same_nodes c f e))
none_by c f false e h = refl

no_hits : (c f : Formula) → nodes f < nodes c → hits c f ≡ 0
no_hits c (number n) h = refl
no_hits c (read t o) h = refl
no_hits c (param p k) h = refl
no_hits c (unary op a) h =
    omega (arith, none_by c (unary op a) (are_shift_equal c (unary op a)) refl h, no_hits c a (omega arith))
no_hits c (binary op a b) h =
    omega (arith, none_by c (binary op a b) (are_shift_equal c (binary op a b)) refl h, no_hits c a (omega arith), no_hits c b (omega arith))
no_hits c (choice d a b) h =
    omega (arith, none_by c (choice d a b) (are_shift_equal c (choice d a b)) refl h, no_hits c d (omega arith), no_hits c a (omega arith), no_hits c b (omega arith))
no_hits c (cast t a) h =
    omega (arith, none_by c (cast t a) (are_shift_equal c (cast t a)) refl h, no_hits c a (omega arith))

-- one that is shift-equal has itself alone
one_hit : (c f : Formula) → is_operation f ≡ true → are_shift_equal c f ≡ true → hits c f ≡ 1
one_hit c (number n) o e = absurd (false≢true o)
one_hit c (read t w) o e = absurd (false≢true o)
one_hit c (param p k) o e = absurd (false≢true o)
one_hit c (unary op a) o e =
    omega (arith, ap one e, no_hits c a (omega (arith, same_nodes c (unary op a) e)))
one_hit c (binary op a b) o e =
    let s = same_nodes c (binary op a b) e in
    omega (arith, ap one e, no_hits c a (omega (arith, s)), no_hits c b (omega (arith, s)))
one_hit c (choice d a b) o e =
    let s = same_nodes c (choice d a b) e in
    omega (arith, ap one e, no_hits c d (omega (arith, s)), no_hits c a (omega (arith, s)), no_hits c b (omega (arith, s)))
one_hit c (cast t a) o e =
    omega (arith, ap one e, no_hits c a (omega (arith, same_nodes c (cast t a) e)))

not_back : (b : Bool) → not (not b) ≡ false → b ≡ false
not_back true e = e
not_back false e = refl

module _ (k : ℕ) (c : Formula) (cell : has_cell c ≡ true) where
  record IsCounted (f g : Formula) : Type 0 where
    same_has : every (λ t o. false) g ≡ every (λ t o. false) f
    counts : count g + count c * hits c f ≡ count f

  one_product : (h : ℕ) → h ≡ 1 → count c * h ≡ count c
  one_product h e = ap (λ m. count c * m) e ∙ omega arith

  cell_false : (f : Formula) → has_cell f ≡ true → every (λ t o. false) f ≡ false
  cell_false f e = let q : not (not (every (λ t o. false) f)) ≡ false = ap not e in not_back (every (λ t o. false) f) q

  counted : IsKept k c IsCounted
  counted = record {
    on_number = λ n. record { same_has = refl; counts = omega arith };
    on_read = λ t o. record { same_has = refl; counts = omega arith };
    on_param = λ p i. record { same_has = refl; counts = omega arith };
    on_hit = λ f o e. record {
      same_has = sym (cell_false f (sym (same_cell c f e) ∙ cell));
      counts = omega (arith, one_product (hits c f) (one_hit c f o e), same_count c f e);
    };
    on_unary = λ op a x e r. record {
      same_has = r.same_has;
      counts = omega (arith, spread_one (count c) (hits c a) _ e, ap (λ b. one (not b)) r.same_has, r.counts);
    };
    on_binary = λ op a b x y e r s.
        let h : (every (λ t o. false) x && every (λ t o. false) y) ≡ (every (λ t o. false) a && every (λ t o. false) b) = ap (λ u. u && every (λ t o. false) y) r.same_has ∙ ap (λ u. every (λ t o. false) a && u) s.same_has in
        record { same_has = h; counts = omega (arith, spread_two (count c) (hits c a) (hits c b) _ e, ap (λ b. one (not b)) h, r.counts, s.counts) };
    on_choice = λ d a b z x y e q r s.
        let h : (every (λ t o. false) z && every (λ t o. false) x && every (λ t o. false) y) ≡ (every (λ t o. false) d && every (λ t o. false) a && every (λ t o. false) b) = ap (λ u. u && every (λ t o. false) x && every (λ t o. false) y) q.same_has ∙ ap (λ u. every (λ t o. false) d && u && every (λ t o. false) y) r.same_has ∙ ap (λ u. every (λ t o. false) d && every (λ t o. false) a && u) s.same_has in
        record { same_has = h; counts = omega (arith, spread_three (count c) (hits c d) (hits c a) (hits c b) _ e, ap (λ b. one (not b)) h, q.counts, r.counts, s.counts) };
    on_cast = λ t a x e r. record {
      same_has = r.same_has;
      counts = omega (arith, spread_one (count c) (hits c a) _ e, ap (λ b. one (not b)) r.same_has, r.counts);
    };
  }

  pub counts_of : (f : Formula) → count (replaced k c f) + count c * hits c f ≡ count f
  counts_of f = (kept k c IsCounted counted f).counts

-- over the tensors of a program
abbrev pub tensor_count : PlainTensor → ℕ
tensor_count t = by_formula t.formula 0 count

length_counted : (b : Bool) (f : Formula) (fs : List Formula) → length (if b then f ∷ fs else fs) ≡ one b + length fs
length_counted true f fs = omega arith
length_counted false f fs = omega arith

length-compounds : (f : Formula) → length (compounds f) ≡ count f
length-compounds (number n) = refl
length-compounds (read t o) = refl
length-compounds (param p k) = refl
length-compounds (unary op a) =
    omega (arith, length_counted (has_cell a) (unary op a) (compounds a), length-compounds a)
length-compounds (binary op a b) =
    omega (arith, length_counted (has_cell (binary op a b)) (binary op a b) (compounds a ++ compounds b), length-append (compounds a) (compounds b), length-compounds a, length-compounds b)
length-compounds (choice c a b) =
    omega (arith, length_counted (has_cell (choice c a b)) (choice c a b) (compounds c ++ (compounds a ++ compounds b)), length-append (compounds c) (compounds a ++ compounds b), length-append (compounds a) (compounds b), length-compounds c, length-compounds a, length-compounds b)
length-compounds (cast t a) =
    omega (arith, length_counted (has_cell a) (cast t a) (compounds a), length-compounds a)

length_of : (o : Option Formula) → length (by_formula o [] compounds) ≡ by_formula o 0 count
length_of None = refl
length_of (Some f) = length-compounds f

pub length-sites : (k : ℕ) (ts : List PlainTensor) → length (sites_from k ts) ≡ total tensor_count ts
length-sites k [] = refl
length-sites k (t ∷ ts) =
    omega (arith, length-append (map (site k) (compounds_of t)) (sites_from (suc k) ts), length-map (compounds_of t) (site k), length_of t.formula, length-sites (suc k) ts)

module _ (c : Formula) (cell : has_cell c ≡ true) where
  abbrev pub hit : Formula → ℕ
  hit f = one (are_shift_equal c f)

  bare : (f : Formula) (b : Bool) → are_shift_equal c f ≡ b → has_cell f ≡ false → one b ≡ 0
  bare f true e h = absurd (false≢true (sym h ∙ sym (same_cell c f e) ∙ cell))
  bare f false e h = refl

  -- what has no cell is no compound, and not shift-equal to one
  hit_counted : (f : Formula) (fs : List Formula) (b : Bool) → has_cell f ≡ b → total hit (if b then f ∷ fs else fs) ≡ hit f + total hit fs
  hit_counted f fs true e = refl
  hit_counted f fs false e = omega (arith, bare f (are_shift_equal c f) refl e)

  hits_in : (f : Formula) → total hit (compounds f) ≡ hits c f
  hits_in (number n) = refl
  hits_in (read t o) = refl
  hits_in (param p k) = refl
  hits_in (unary op a) = omega (arith, hit_counted (unary op a) (compounds a) (has_cell a) refl, hits_in a)
  hits_in (binary op a b) =
      omega (arith, hit_counted (binary op a b) (compounds a ++ compounds b) (has_cell (binary op a b)) refl, total-append hit (compounds a) (compounds b), hits_in a, hits_in b)
  hits_in (choice d a b) =
      omega (arith, hit_counted (choice d a b) (compounds d ++ (compounds a ++ compounds b)) (has_cell (choice d a b)) refl, total-append hit (compounds d) (compounds a ++ compounds b), total-append hit (compounds a) (compounds b), hits_in d, hits_in a, hits_in b)
  hits_in (cast t a) = omega (arith, hit_counted (cast t a) (compounds a) (has_cell a) refl, hits_in a)

  abbrev pub site_hit : Site → ℕ
  site_hit s = hit s.compound

  sum_sites : (k : ℕ) (fs : List Formula) → total site_hit (map (site k) fs) ≡ total hit fs
  sum_sites k [] = refl
  sum_sites k (f ∷ fs) = ap (λ n. hit f + n) (sum_sites k fs)

  hits_of : (o : Option Formula) → total hit (by_formula o [] compounds) ≡ by_formula o 0 (hits c)
  hits_of None = refl
  hits_of (Some f) = hits_in f

  pub site_hits : (k : ℕ) (ts : List PlainTensor) → total site_hit (sites_from k ts) ≡ total (tensor_hits c) ts
  site_hits k [] = refl
  site_hits k (t ∷ ts) =
      omega (arith, total-append site_hit (map (site k) (compounds_of t)) (sites_from (suc k) ts), sum_sites k (compounds_of t), hits_of t.formula, site_hits (suc k) ts)

any_by : (b r : Bool) (n : ℕ) → (b || r) ≡ true → (r ≡ true → 1 ≤ n) → 1 ≤ one b + n
any_by true r n e h = omega arith
any_by false r n e h = omega (arith, h e)

-- the compound that is found is there twice
pub any_one : (c : Formula) (ss : List Site) → list_any (λ (r : Site). are_shift_equal c r.compound) ss ≡ true → 1 ≤ total (λ (r : Site). one (are_shift_equal c r.compound)) ss
any_one c [] e = absurd (false≢true e)
any_one c (r ∷ rs) e = any_by (are_shift_equal c r.compound) (list_any (λ (r : Site). are_shift_equal c r.compound) rs) (total (λ (r : Site). one (are_shift_equal c r.compound)) rs) e (any_one c rs)

twice_by : (s r : Site) (rs : List Site) (b : Bool) → list_any (λ (q : Site). are_shift_equal r.compound q.compound) rs ≡ b → (if b then Some r else first_shared rs) ≡ Some s
    → (first_shared rs ≡ Some s → 2 ≤ total (λ (q : Site). one (are_shift_equal s.compound q.compound)) rs) → 2 ≤ total (λ (q : Site). one (are_shift_equal s.compound q.compound)) (r ∷ rs)
twice_by s r rs true e h rest =
    let same : r ≡ s = some_site h in
    let P : Site → Type 0 = λ x. 2 ≤ total (λ (q : Site). one (are_shift_equal x.compound q.compound)) (r ∷ rs) in
    subst P same (omega (arith, any_one r.compound rs e, ap one (base_one r.compound r.compound refl)))
twice_by s r rs false e h rest = omega (arith, rest h)

pub twice : (s : Site) (ss : List Site) → first_shared ss ≡ Some s → 2 ≤ total (λ (q : Site). one (are_shift_equal s.compound q.compound)) ss
twice s [] e = cc
twice s (r ∷ rs) e = twice_by s r rs (list_any (λ (q : Site). are_shift_equal r.compound q.compound) rs) refl e (twice s rs)

-- a sum over a list with one element more
pub sum_insert : {X : Type 0} (f : X → ℕ) (xs : List X) (i : ℕ) (x : X) → total f (insert xs i x) ≡ f x + total f xs
sum_insert f [] zero x = refl
sum_insert f [] (suc i) x = refl
sum_insert f (y ∷ ys) zero x = refl
sum_insert f (y ∷ ys) (suc i) x = omega (arith, sum_insert f ys i x)

pub count_renumbered : (k : ℕ) (f : Formula) → (count (renumbered k f) ≡ count f) × (every (λ t o. false) (renumbered k f) ≡ every (λ t o. false) f)
count_renumbered k (number n) = (refl, refl)
count_renumbered k (read t o) = (refl, refl)
count_renumbered k (param p i) = (refl, refl)
count_renumbered k (unary op a) =
    let r = count_renumbered k a in (omega (arith, r.0, ap (λ b. one (not b)) r.1), r.1)
count_renumbered k (binary op a b) =
    let r = count_renumbered k a in let s = count_renumbered k b in
    let h : (every (λ t o. false) (renumbered k a) && every (λ t o. false) (renumbered k b)) ≡ (every (λ t o. false) a && every (λ t o. false) b) = ap (λ u. u && every (λ t o. false) (renumbered k b)) r.1 ∙ ap (λ u. every (λ t o. false) a && u) s.1 in
    (omega (arith, r.0, s.0, ap (λ b. one (not b)) h), h)
count_renumbered k (choice d a b) =
    let q = count_renumbered k d in let r = count_renumbered k a in let s = count_renumbered k b in
    let h : (every (λ t o. false) (renumbered k d) && every (λ t o. false) (renumbered k a) && every (λ t o. false) (renumbered k b)) ≡ (every (λ t o. false) d && every (λ t o. false) a && every (λ t o. false) b) = ap (λ u. u && every (λ t o. false) (renumbered k a) && every (λ t o. false) (renumbered k b)) q.1 ∙ ap (λ u. every (λ t o. false) d && u && every (λ t o. false) (renumbered k b)) r.1 ∙ ap (λ u. every (λ t o. false) d && every (λ t o. false) a && u) s.1 in
    (omega (arith, q.0, r.0, s.0, ap (λ b. one (not b)) h), h)
count_renumbered k (cast t a) =
    let r = count_renumbered k a in (omega (arith, r.0, ap (λ b. one (not b)) r.1), r.1)

product_more : (n x y : ℕ) → n * (x + y) ≡ n * x + n * y
product_more n x y = omega arith

module _ (k : ℕ) (c : Formula) (cell : has_cell c ≡ true) where
  counts_in : (o : Option Formula) → by_formula (option_map (replaced k c) o) 0 count + count c * by_formula o 0 (hits c) ≡ by_formula o 0 count
  counts_in None = omega arith
  counts_in (Some f) = counts_of k c cell f

  pub counts_over : (ts : List PlainTensor) → total tensor_count (map (replaced_in k c) ts) + count c * total (tensor_hits c) ts ≡ total tensor_count ts
  counts_over [] = omega arith
  counts_over (t ∷ ts) =
      omega (arith, counts_in t.formula, counts_over ts, product_more (count c) (tensor_hits c t) (total (tensor_hits c) ts))

-- an operator, call or cast with a cell is one compound at least
pub one_compound : (c : Formula) → is_operation c ≡ true → has_cell c ≡ true → 1 ≤ count c
one_compound (number n) o e = absurd (false≢true o)
one_compound (read t w) o e = absurd (false≢true o)
one_compound (param p k) o e = absurd (false≢true o)
one_compound (unary op a) o e = omega (arith, ap one e)
one_compound (binary op a b) o e = omega (arith, ap one e)
one_compound (choice d a b) o e = omega (arith, ap one e)
one_compound (cast t a) o e = omega (arith, ap one e)
