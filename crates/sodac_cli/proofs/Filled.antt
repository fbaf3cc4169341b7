-- Outputs of which the first hold their texts, and the others nothing.
use Rattle.std.proofs.Common.{◌≡◌, ◌<◌, ◌≤◌, ℕ, zero, suc, List, [], ◌∷◌, ◌++◌, length, map, take, get_or, slice_index_or, Some, All, ℤ, refl, sym, ap, arith, take_all}
use Rattle.std.proofs.lemmas.List.Elements.{All-head, All-tail}
use Rattle.soda_words.specs.IntType.{IntType, int32}
use Rattle.array_bytes.specs.Written.{array_bytes}
use Rattle.array_bytes.specs.declared.form.Form.{Form}
use Rattle.job_files.specs.Contents.{Holding, emptied}
use Rattle.sodac_cli.specs.Machine.Steps.{filled}
use Rattle.sodac_cli.specs.Outputs.{ArePrefixes, HoldTexts}
use Rattle.sodac_cli.specs.Work.{texts_from}
use Rattle.sodac_cli.proofs.Emptied.{emptied_names}

pub filled_none : (names texts : List (List ℕ)) → filled names texts 0 ≡ map emptied names
filled_none [] texts = refl
filled_none (name ∷ names) texts = refl

pub filled_names : (names texts : List (List ℕ)) (k : ℕ) → map (λ o. o.0) (filled names texts k) ≡ names
filled_names [] texts k = refl
filled_names (name ∷ names) texts zero = ap (λ (ns : List (List ℕ)). name ∷ ns) (emptied_names names)
filled_names (name ∷ names) [] (suc k) = ap (λ (ns : List (List ℕ)). name ∷ ns) (emptied_names names)
filled_names (name ∷ names) (text ∷ texts) (suc k) = ap (λ (ns : List (List ℕ)). name ∷ ns) (filled_names names texts k)

empties_are_prefixes : (names texts : List (List ℕ)) → length names ≤ length texts → ArePrefixes (map emptied names) texts
empties_are_prefixes [] texts few = tt
empties_are_prefixes (name ∷ names) [] few = absurd (omega arith)
empties_are_prefixes (name ∷ names) (text ∷ texts) few = ((0, refl), empties_are_prefixes names texts (omega arith))

whole : (text : List ℕ) → (n : ℕ) × (text ≡ take n text)
whole text = (length text, sym (take_all (length text) text (omega arith)))

pub filled_prefixes : (names texts : List (List ℕ)) (k : ℕ) → length names ≤ length texts → ArePrefixes (filled names texts k) texts
filled_prefixes [] texts k few = tt
filled_prefixes (name ∷ names) [] k few = absurd (omega arith)
filled_prefixes (name ∷ names) (text ∷ texts) zero few = ((0, refl), empties_are_prefixes names texts (omega arith))
filled_prefixes (name ∷ names) (text ∷ texts) (suc k) few = (whole text, filled_prefixes names texts k (omega arith))

-- where all hold their texts
pub texts_held : (now : Holding) (names texts : List (List ℕ)) → length names ≡ length texts
    → All (λ o. now o.0 ≡ Some o.1) (filled names texts (length names)) → HoldTexts now names texts
texts_held now [] [] same all = tt
texts_held now [] (text ∷ texts) same all = absurd (omega arith)
texts_held now (name ∷ names) [] same all = absurd (omega arith)
texts_held now (name ∷ names) (text ∷ texts) same all = (
  All-head (λ (o : List ℕ × List ℕ). now o.0 ≡ Some o.1) (name, text) (filled names texts (length names)) all,
  texts_held now names texts (omega arith) (All-tail (λ (o : List ℕ × List ℕ). now o.0 ≡ Some o.1) (name, text) (filled names texts (length names)) all),
)

-- the outputs about the one that is next
pub record About (names texts : List (List ℕ)) (k : ℕ) (name text : List ℕ) : Type 0 where
  pub front : List (List ℕ × List ℕ)
  pub back : List (List ℕ × List ℕ)
  pub before : filled names texts k ≡ front ++ (name, []) ∷ back
  pub after : filled names texts (suc k) ≡ front ++ (name, text) ∷ back
  pub named : (bytes : List ℕ) → map (λ o. o.0) (front ++ (name, bytes) ∷ back) ≡ names
  pub prefixes : (m : ℕ) → ArePrefixes (front ++ (name, take m text) ∷ back) texts

pub about : (names texts : List (List ℕ)) (k : ℕ) → k < length names → length names ≤ length texts → About names texts k (get_or names k []) (get_or texts k [])
about [] texts k lt few = absurd (omega arith)
about (name ∷ names) [] k lt few = absurd (omega arith)
about (name ∷ names) (text ∷ texts) zero lt few = record {
  front = [];
  back = map emptied names;
  before = refl;
  after = ap (λ (os : List (List ℕ × List ℕ)). (name, text) ∷ os) (filled_none names texts);
  named = λ bytes. ap (λ (ns : List (List ℕ)). name ∷ ns) (emptied_names names);
  prefixes = λ m. ((m, refl), empties_are_prefixes names texts (omega arith));
}
about (name ∷ names) (text ∷ texts) (suc k) lt few =
    let x = about names texts k (omega arith) (omega arith) in
    record {
      front = (name, text) ∷ x.front;
      back = x.back;
      before = ap (λ (os : List (List ℕ × List ℕ)). (name, text) ∷ os) x.before;
      after = ap (λ (os : List (List ℕ × List ℕ)). (name, text) ∷ os) x.after;
      named = λ bytes. ap (λ (ns : List (List ℕ)). name ∷ ns) (x.named bytes);
      prefixes = λ m. (whole text, x.prefixes m);
    }

-- the texts of arrays
module _ (form : Form) (run : ℕ) where
  pub texts_many : (types : List IntType) (arrays : List (List ℤ)) → length arrays ≡ length types → length (texts_from form run types arrays) ≡ length types
  texts_many [] arrays same = refl
  texts_many (ty ∷ types) [] same = absurd (omega arith)
  texts_many (ty ∷ types) (cells ∷ arrays) same = ap suc (texts_many types arrays (omega arith))

  pub text_at : (types : List IntType) (arrays : List (List ℤ)) (k : ℕ) → k < length types → length arrays ≡ length types
      → get_or (texts_from form run types arrays) k [] ≡ array_bytes form (slice_index_or types k int32) run (slice_index_or arrays k [])
  text_at [] arrays k lt same = absurd (omega arith)
  text_at (ty ∷ types) [] k lt same = absurd (omega arith)
  text_at (ty ∷ types) (cells ∷ arrays) zero lt same = refl
  text_at (ty ∷ types) (cells ∷ arrays) (suc k) lt same = text_at types arrays k (omega arith) (omega arith)
