-- An order has its mode's form.
use Rattle.std.proofs.Common.{◌≡◌, ◌<◌, ◌^◌, codes, ℕ, Bool, true, false, List, [], ◌∷◌, Option, None, Some, if◌then◌else◌, option_map, refl, sym, subst}
use Rattle.std.specs.Prelude.{option_and_then}
use Rattle.std.specs.Str.{bytes_eq}
use Rattle.std.proofs.lemmas.Slice.Eq.{bytes_eq-Decides}
use Rattle.clap.specs.Walk.{Row, Text, all_of, first_of}
use Rattle.soda_words.specs.Tokens.{is_number, value_behind}
use Rattle.soda_words.proofs.CallerLemmas.{number_written}
use Rattle.command_words.specs.Command.{are_taken, found_in}
use Rattle.command_words.specs.Modes.{mode_of, mode_row}
use Rattle.command_words.specs.Orders.{Asked, HasArrays, HasForm, Named, allows_given, arrays_named, asked_by, named, number_of, only, order_at, order_of, parts_of, program, program_and_file_named, program_named, seed, seed_named}
use Rattle.command_words.specs.declared.mode.Mode.{Mode}
use Rattle.command_words.specs.declared.mode.Mode.TheVariants.{Check, Plain, Plan, Compile, Sim, Selftest}

-- the number of a word is below 2 ^ 64
small : (w : Text) (n : Named) (f : ℕ → Named) → option_map f (number_of w) ≡ Some n → (k : ℕ) × (k < 2 ^ 64) × (n ≡ f k)
small w n f e = by (is_number w) refl e
  where
    by : (t : Bool) → is_number w ≡ t → option_map f (if t then Some (value_behind 0 w) else None) ≡ Some n → (k : ℕ) × (k < 2 ^ 64) × (n ≡ f k)
    by true is e = (value_behind 0 w, (number_written w is).1, let same : f (value_behind 0 w) ≡ n = cc in sym same)
    by false is e = cc

program_form : (words : List Text) (n : Named) → program_named words ≡ Some n → (name : Text) × (n ≡ only (program name))
program_form [] n e = cc
program_form (name ∷ []) n e = (name, let same : only (program name) ≡ n = cc in sym same)
program_form (name ∷ file ∷ more) n e = cc

compile_form : (words : List Text) (n : Named) → program_and_file_named words ≡ Some n → HasForm Compile n
compile_form [] n e = cc
compile_form (name ∷ []) n e = cc
compile_form (name ∷ file ∷ []) n e = by (bytes_eq name file) refl e
  where
    by : (t : Bool) → bytes_eq name file ≡ t → (if t then None else Some (record (only (program name)) { target = Some file })) ≡ Some n → HasForm Compile n
    by true is e = cc
    by false is e = (
      name,
      file,
      (λ same. let equal : bytes_eq name file ≡ true = (bytes_eq-Decides name file).1 same in cc),
      let same : record (only (program name)) { target = Some file } ≡ n = cc in sym same,
    )
compile_form (name ∷ file ∷ more ∷ rest) n e = cc

arrays_form : (words : List Text) (n : Named) → arrays_named words ≡ Some n → HasArrays n
arrays_form [] n e = cc
arrays_form (name ∷ []) n e = cc
arrays_form (name ∷ rows ∷ names) n e =
    let k = small rows n (λ k. record (only (program name)) { rows = Some k; names = names }) e in
    (name, k.0, k.1, names, k.2)

seed_form : (words : List Text) (n : Named) → seed_named words ≡ Some n → HasForm Selftest n
seed_form [] n e = cc
seed_form (word ∷ []) n e = small word n (λ k. only (seed k)) e
seed_form (word ∷ other ∷ more) n e = cc

named_form : (mode : Mode) (words : List Text) (n : Named) → named mode words ≡ Some n → HasForm mode n
named_form Check words n e = program_form words n e
named_form Plain words n e = arrays_form words n e
named_form Plan words n e = program_form words n e
named_form Compile words n e = compile_form words n e
named_form Sim words n e = arrays_form words n e
named_form Selftest words n e = seed_form words n e

order_at_form : (rows : List Row) (mode : Mode) (a : Asked) → order_at rows mode ≡ Some a → HasForm a.mode (parts_of a)
order_at_form rows mode a e = by (allows_given (mode_row mode) rows) (all_of (codes "words") rows) e
  where
    found : (words : List Text) (o : Option Named) → named mode words ≡ o → option_map (asked_by rows mode) o ≡ Some a → HasForm a.mode (parts_of a)
    found words None is e = cc
    found words (Some n) is e =
        let same : asked_by rows mode n ≡ a = cc in
        subst (λ (x : Asked). HasForm x.mode (parts_of x)) same (named_form mode words n is)

    by : (t : Bool) (o : Option (List Text)) → (if t then option_map (asked_by rows mode) (option_and_then (named mode) o) else None) ≡ Some a → HasForm a.mode (parts_of a)
    by true None e = cc
    by true (Some words) e = found words (named mode words) refl e
    by false o e = cc

pub order_of_form : (words : List Text) (a : Asked) → order_of words ≡ Some a → HasForm a.mode (parts_of a)
unfolding order_of
order_of_form words a e = by (are_taken words) (option_and_then mode_of (first_of (codes "mode") (found_in words))) e
  where
    by : (t : Bool) (o : Option Mode) → (if t then option_and_then (order_at (found_in words)) o else None) ≡ Some a → HasForm a.mode (parts_of a)
    by true None e = cc
    by true (Some mode) e = order_at_form (found_in words) mode a e
    by false o e = cc
