-- The entries of a table of names give each name its first place.
use Rattle.std.proofs.Common.{◌≡◌, ℕ, Bool, true, false, cond, List, [], ◌∷◌, ◌++◌, length, Option, None, Some, is_some, if◌then◌else◌, refl, sym, ap, ◌∙◌, true≢false}
use Rattle.std.specs.Prelude.{position, bytes_eq}
use Rattle.std.specs.Borrow.{Bor}
use Rattle.std.specs.List.{list_any}
use Rattle.std.specs.Map.{lookup}
use Rattle.soda_words.proofs.CallerLemmas.{is_some-position, is_word-bytes_eq, is_word-same, position-push}
use Rattle.soda_words.specs.Names.{is_word}
use Rattle.soda_words.specs.Table.{GivesFirstPlaces}
use Rattle.soda_words.specs.Tokens.{or_else}

lookup-push : {K X : Type 0} (t : K → Bool) (es : List (K × X)) (k : K) (v : X) → lookup t (es ++ (k, v) ∷ []) ≡ or_else (lookup t es) (if t k then Some v else None)
lookup-push t [] k v = refl
lookup-push t (e ∷ es) k v = by (lookup-push t es k v) (t e.0)
  where
    by : lookup t (es ++ (k, v) ∷ []) ≡ or_else (lookup t es) (if t k then Some v else None) → (c : Bool) → cond c (Some e.1) (lookup t (es ++ (k, v) ∷ [])) ≡ or_else (cond c (Some e.1) (lookup t es)) (if t k then Some v else None)
    by rest true = refl
    by rest false = rest

module _ (entries : List (Bor (List ℕ) × ℕ)) (names : List (List ℕ)) (firsts : GivesFirstPlaces entries names) where
  -- a word is among the names exactly where the entries have it
  pub among : (w : List ℕ) → is_some (lookup (λ k. bytes_eq w k.now) entries) ≡ list_any (is_word w) names
  among w = ap is_some (firsts w) ∙ is_some-position (is_word w) names

  -- a new name, in the entries too
  pub firsts-new : (k : Bor (List ℕ)) → GivesFirstPlaces (entries ++ (k, length names) ∷ []) (names ++ k.now ∷ [])
  firsts-new k w =
      lookup-push (λ k. bytes_eq w k.now) entries k (length names) ∙ ((λ i. or_else (firsts w i) (if (sym (is_word-bytes_eq w k.now) i) then Some (length names) else None)) ∙ sym (position-push (is_word w) names k.now))

  -- a repeated name
  pub firsts-repeated : (n : List ℕ) → list_any (is_word n) names ≡ true → GivesFirstPlaces entries (names ++ n ∷ [])
  firsts-repeated n there w = firsts w ∙ (kept (is_word w n) refl ∙ sym (position-push (is_word w) names n))
    where
      there_too : is_word w n ≡ true → is_some (position (is_word w) names) ≡ true
      there_too same = is_some-position (is_word w) names ∙ (ap (λ v. list_any (is_word v) names) (is_word-same w n same) ∙ there)

      first : (o : Option ℕ) (last : Option ℕ) → is_some o ≡ true → o ≡ or_else o last
      first None last h = absurd (true≢false (sym h))
      first (Some i) last h = refl

      other : (o : Option ℕ) → o ≡ or_else o None
      other None = refl
      other (Some i) = refl

      kept : (c : Bool) → is_word w n ≡ c → position (is_word w) names ≡ or_else (position (is_word w) names) (if is_word w n then Some (length names) else None)
      kept true e = first (position (is_word w) names) (if is_word w n then Some (length names) else None) (there_too e)
      kept false e =
          other (position (is_word w) names) ∙ ap (λ c. or_else (position (is_word w) names) (if c then Some (length names) else None)) (sym e)
