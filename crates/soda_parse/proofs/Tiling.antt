-- The tile of a text that keeps the condition on tiles.
use Rattle.std.proofs.Common.{◌≡◌, ℕ, suc, ◌<◌, ◌==◌, ◌&&◌, Bool, true, false, not, List, [], ◌∷◌, length, Some, None, Option, refl, sym, ap, ◌∙◌, arith, cond}
use Rattle.std.specs.Prelude.{find, flat_map, option_map, slice_get}
use Rattle.std.specs.List.{list_all}
use Rattle.std.proofs.lemmas.Bool.{eqb-true}
use Rattle.soda_checks.specs.Conditions.{first_by, first_tile, has_wrong_tile, is_same_tile, is_tile, wrong_tile}
use Rattle.soda_checks.specs.declared.outline.Outline.{Outline}
use Rattle.soda_parse.specs.Meaning.{fixed_in, tile_items}
use Rattle.soda_parse.proofs.SameTypes.{both_of}
use Rattle.soda_words.specs.Tokens.{or_else}
use Rattle.soda_formula.specs.declared.statement.Extent.{Extent}
use Rattle.soda_formula.specs.declared.statement.Extent.TheVariants.{Fixed, Open}
use Rattle.soda_formula.specs.declared.statement.InputLine.{InputLine}

-- nothing is found at the front of a list, nor behind it
pub none_here : {A : Type 0} (test : A → Bool) (x : A) (xs : List A) → find test (x ∷ xs) ≡ None → (test x ≡ false) × (find test xs ≡ None)
none_here {A} test x xs e =
    elim (test x) as (λ t. (t ≡ test x) → cond t (Some x) (find test xs) ≡ None →
    (t ≡ false) × (find test xs ≡ None)) [ true ↦ λ h f. cc | false ↦ λ h f. (refl, f) ] refl e

-- what is not false is true
pub false_not : (b : Bool) → not b ≡ false → b ≡ true
false_not true e = refl
false_not false e = cc

-- the first tile is one that may be, where this input's is not wrong
pub tile_here : (first tile : List Extent) (i : InputLine) (t u : Option (List Extent)) → i.tile ≡ t → (u ≡ Some tile → is_tile tile ≡ true) →
    or_else t u ≡ Some tile → has_wrong_tile first i ≡ false → is_tile tile ≡ true
tile_here first tile i None u is more e f = more e
tile_here first tile i (Some v) u is more e f =
    let wrong : not (is_tile v && is_same_tile v first) ≡ false = rw is at f in
    let good = (both_of (is_tile v) (is_same_tile v first) (false_not (is_tile v && is_same_tile v first) wrong)).0 in
    let same : v ≡ tile = cc in
    ap is_tile (sym same) ∙ good

good_tile : (first : List Extent) (inputs : List InputLine) (tile : List Extent) → first_by (λ i. i.tile) inputs ≡ Some tile →
    find (has_wrong_tile first) inputs ≡ None → is_tile tile ≡ true
good_tile first [] tile e f = cc
good_tile first (i ∷ is) tile e f =
    let here = none_here (has_wrong_tile first) i is f in
    tile_here first tile i i.tile (first_by (λ j. j.tile) is) refl (λ g. good_tile first is tile g here.1) e here.0

no_rest : (rest : List Extent) → (length rest == 0) ≡ true → rest ≡ []
no_rest [] e = refl
no_rest (r ∷ rs) e = let h = eqb-true (length (r ∷ rs)) 0 e in absurd (omega arith)

-- one more item than fixed extents
tile_dims : (tile : List Extent) → is_tile tile ≡ true → length tile ≡ suc (length (flat_map fixed_in tile))
tile_dims [] e = cc
tile_dims (Open ∷ rest) e = rw (no_rest rest e) refl
tile_dims (Fixed n ∷ rest) e = ap suc (tile_dims rest (both_of (not (n == 0)) (is_tile rest) e).1)

tile_nonzero : (tile : List Extent) → is_tile tile ≡ true → list_all (λ n. not (n == 0)) (flat_map fixed_in tile) ≡ true
tile_nonzero [] e = refl
tile_nonzero (Open ∷ rest) e = rw (no_rest rest e) refl
tile_nonzero (Fixed n ∷ rest) e =
    let both = both_of (not (n == 0)) (is_tile rest) e in rw (both.0, tile_nonzero rest both.1) refl

-- what the first tile of a text is, where an input is there and no tile is wrong
pub record IsTiled (o : Outline) : Type 0 where
  pub dims : length (tile_items o) ≡ suc (length (flat_map fixed_in (tile_items o)))
  pub nonzero : list_all (λ n. not (n == 0)) (flat_map fixed_in (tile_items o)) ≡ true
  pub there : first_tile o.inputs ≡ Some (tile_items o)

untiled : (inputs : List InputLine) → option_map (λ i. i.name.line) (slice_get inputs 0) ≡ None → 0 < length inputs → ⊥
untiled [] e some = omega arith
untiled (i ∷ is) e some = cc

-- where there is no image, there is nothing
pub unmapped : {A B : Type 0} (f : A → B) (a : Option A) → option_map f a ≡ None → a ≡ None
unmapped f None e = refl
unmapped f (Some a) e = cc

abbrev wrong_beside : Outline → Option (List Extent) → Option ℕ
wrong_beside o None = option_map (λ i. i.name.line) (slice_get o.inputs 0)
wrong_beside o (Some tile) = option_map (λ i. i.name.line) (find (has_wrong_tile tile) o.inputs)

tiled_by : (o : Outline) (t : Option (List Extent)) → first_tile o.inputs ≡ t → wrong_beside o t ≡ None → 0 < length o.inputs → IsTiled o
tiled_by o None is e some = absurd (untiled o.inputs e some)
tiled_by o (Some tile) is e some =
    let good = good_tile tile o.inputs tile is (unmapped _ _ e) in
    let items : tile_items o ≡ tile = rw is refl in
    record {
      dims = rw items (tile_dims tile good);
      nonzero = rw items (tile_nonzero tile good);
      there = rw items is;
    }

-- where no tile is wrong and there is an input, there is a first tile that may be
pub tiled : (o : Outline) → wrong_tile o ≡ None → 0 < length o.inputs → IsTiled o
tiled o e some = tiled_by o (first_tile o.inputs) refl e some
