-- No output of a job is named like another of its files.
use Rattle.std.proofs.Common.{◌≡◌, ◌≢◌, ℕ, true, false, not, List, [], ◌∷◌, ◌++◌, map, get_or, Contains, sym, ◌∙◌}
use Rattle.std.proofs.lemmas.Bool.{and_parts, not-true}
use Rattle.std.proofs.lemmas.List.Elements.{All-cons, All-nil, Contains-append_left, Contains-append_right, Contains-push}
use Rattle.std.proofs.lemmas.List.Folds.{list_any_at}
use Rattle.std.proofs.lemmas.Slice.Eq.{bytes_eq-Decides}
use Rattle.std.specs.List.{list_any}
use Rattle.std.specs.Str.{bytes_eq}
use Rattle.soda_ir.specs.Program.{PlainProgram}
use Rattle.job_files.specs.Contents.{AreApart, IsNoneOf, emptied}
use Rattle.command_words.specs.Orders.{Asked}
use Rattle.sodac_cli.specs.Due.{are_apart}
use Rattle.sodac_cli.specs.Machine.Steps.{LetsPass}
use Rattle.sodac_cli.specs.Work.{input_names, output_names, text_names}

-- a name that isn't found among names is none of them
not_among : (names : List (List ℕ)) (name : List ℕ) → list_any (bytes_eq name) names ≡ false → (x : List ℕ) → Contains names x → name ≢ x
not_among names name none x has = λ e.
    let found : bytes_eq name (get_or names has.0 x) ≡ true = (bytes_eq-Decides name (get_or names has.0 x)).1 (e ∙ sym has.2) in
    let bad : true ≡ false = sym (list_any_at (bytes_eq name) names has.0 x has.1 found) ∙ none in
    cc

-- a first name that is apart, and the names behind it
first_apart : (before : List (List ℕ)) (name : List ℕ) (names : List (List ℕ)) → are_apart before (name ∷ names) ≡ true
    → (list_any (bytes_eq name) before ≡ false) × (are_apart (before ++ name ∷ []) names ≡ true)
first_apart before name names apart =
    let both = and_parts (not (list_any (bytes_eq name) before)) (are_apart (before ++ name ∷ []) names) apart in
    (not-true (list_any (bytes_eq name) before) both.0, both.1)

none_of : (before names : List (List ℕ)) → are_apart before names ≡ true → (x : List ℕ) → Contains before x → IsNoneOf (map emptied names) x
none_of before [] apart x has = All-nil (λ (o : List ℕ × List ℕ). o.0 ≢ x)
none_of before (name ∷ names) apart x has =
    let both = first_apart before name names apart in
    All-cons (λ (o : List ℕ × List ℕ). o.0 ≢ x) (emptied name) (map emptied names) (not_among before name both.0 x has)
    (none_of (before ++ name ∷ []) names both.1 x (Contains-append_left before (name ∷ []) x has))

all_apart : (before names : List (List ℕ)) → are_apart before names ≡ true → AreApart (map emptied names)
all_apart before [] apart = tt
all_apart before (name ∷ names) apart =
    let rest = (first_apart before name names apart).1 in
    (none_of (before ++ name ∷ []) names rest name (Contains-push before name), all_apart (before ++ name ∷ []) names rest)

module _ (a : Asked) (p : PlainProgram) (pass : LetsPass a p) where
  pub outputs_apart : AreApart (map emptied (output_names a p))
  outputs_apart = all_apart (text_names a ++ input_names a p) (output_names a p) pass.apart

  -- no output is named like an input
  pub no_output : (x : List ℕ) → Contains (input_names a p) x → IsNoneOf (map emptied (output_names a p)) x
  no_output x has = none_of (text_names a ++ input_names a p) (output_names a p) pass.apart x
      (Contains-append_right (text_names a) (input_names a p) x has)
