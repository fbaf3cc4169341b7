-- The files of the inputs and of the outputs of a job, as they are asked for.
use Rattle.std.proofs.Common.{◌≡◌, ◌<◌, ℕ, zero, suc, ◌+◌, Bool, true, false, List, [], ◌∷◌, ◌++◌, length, map, slice_get, get_or, take, Some, None, refl, sym, ap, ◌∙◌, arith, zero-add, add-one, append-nil, length-append, length-drop}
use Rattle.std.proofs.lemmas.List.{length-take}
use Rattle.std.proofs.lemmas.Option.{same_Some}
use Rattle.soda_io.specs.declared.role.FileRole.{FileRole}
use Rattle.soda_io.specs.declared.role.FileRole.TheVariants.{Input, Output}
use Rattle.soda_ir.specs.Program.{PlainProgram}
use Rattle.job_files.specs.Files.{HasRole, JobFile, asking, created_of}
use Rattle.command_words.specs.Orders.{Asked}
use Rattle.sodac_cli.specs.Journal.{opened_count, texts_among}
use Rattle.sodac_cli.specs.Work.{files_of, if_given, input_count, input_names, inputs_from, output_count, output_names, outputs_from, params_file, program_file, text_count, texts_of}

-- each is asked for by its name
inputs_asked : (k : ℕ) (names : List (List ℕ)) → map asking (inputs_from k names) ≡ map (λ name. (true, name)) names
inputs_asked k [] = refl
inputs_asked k (name ∷ names) = ap (λ (rest : List (Bool × List ℕ)). (true, name) ∷ rest) (inputs_asked (k + 1) names)

outputs_asked : (k : ℕ) (names : List (List ℕ)) → map asking (outputs_from k names) ≡ map (λ name. (false, name)) names
outputs_asked k [] = refl
outputs_asked k (name ∷ names) = ap (λ (rest : List (Bool × List ℕ)). (false, name) ∷ rest) (outputs_asked (k + 1) names)

module _ (names files : List (List ℕ)) (same : names ≡ files) where
  pub asks_inputs : map asking (inputs_from 0 files) ≡ map (λ name. (true, name)) names
  asks_inputs = inputs_asked 0 files ∙ ap (map (λ (name : List ℕ). (true, name))) (sym same)

  pub asks_outputs : map asking (outputs_from 0 files) ≡ map (λ name. (false, name)) names
  asks_outputs = outputs_asked 0 files ∙ ap (map (λ (name : List ℕ). (false, name))) (sym same)

-- an input is opened, and an output is created
pub created_inputs : (k : ℕ) (names : List (List ℕ)) (rest : List JobFile) → created_of (inputs_from k names ++ rest) ≡ created_of rest
created_inputs k [] rest = refl
created_inputs k (name ∷ names) rest = created_inputs (k + 1) names rest

pub no_created : (k : ℕ) (names : List (List ℕ)) → created_of (inputs_from k names) ≡ []
no_created k names = ap created_of (sym (append-nil (inputs_from k names))) ∙ created_inputs k names []

pub created_front : (n k : ℕ) (names : List (List ℕ)) → created_of (take n (outputs_from k names)) ≡ take n names
created_front zero k names = refl
created_front (suc n) k [] = refl
created_front (suc n) k (name ∷ names) = ap (λ (rest : List (List ℕ)). name ∷ rest) (created_front n (k + 1) names)

-- the role of the n-th of them, behind other files
role_behind : (xs ys : List JobFile) (n : ℕ)
    → slice_get (map (λ f. f.role) (xs ++ ys)) (length xs + n) ≡ slice_get (map (λ f. f.role) ys) n
role_behind [] ys n = ap (slice_get (map (λ (f : JobFile). f.role) ys)) (zero-add n)
role_behind (x ∷ xs) ys n =
    let e : suc (length xs) + n ≡ suc (length xs + n) = omega arith in
    ap (slice_get (map (λ (f : JobFile). f.role) (x ∷ (xs ++ ys)))) e ∙ role_behind xs ys n

input_at : (k n m : ℕ) (names : List (List ℕ)) → m ≡ k + n → n < length (inputs_from k names)
    → HasRole (take (suc n) (inputs_from k names)) n (Input m)
input_at k n m [] is lt = absurd (omega arith)
input_at k zero m (name ∷ names) is lt = let e : k ≡ m = omega arith in ap (λ (i : ℕ). Some (Input i)) e
input_at k (suc n) m (name ∷ names) is lt = input_at (k + 1) n m names (omega arith) (omega arith)

output_at : (k n m : ℕ) (names : List (List ℕ)) → m ≡ k + n → n < length (outputs_from k names)
    → HasRole (take (suc n) (outputs_from k names)) n (Output m)
output_at k n m [] is lt = absurd (omega arith)
output_at k zero m (name ∷ names) is lt = let e : k ≡ m = omega arith in ap (λ (i : ℕ). Some (Output i)) e
output_at k (suc n) m (name ∷ names) is lt = output_at (k + 1) n m names (omega arith) (omega arith)

-- the last that was asked for is the n-th of these, behind the files `before`
module _ (before more : List JobFile) (n : ℕ) (role : FileRole) where
  behind : HasRole (take (suc n) more) n role → HasRole (before ++ take (n + 1) more) (length before + n) role
  behind is =
      let e : take (n + 1) more ≡ take (suc n) more = ap (λ (k : ℕ). take k more) (add-one n) in
      role_behind before (take (n + 1) more) n ∙ ap (λ (fs : List JobFile). slice_get (map (λ f. f.role) fs) n) e ∙ is

pub input_role : (before : List JobFile) (names : List (List ℕ)) (n : ℕ) → n < length (inputs_from 0 names)
    → HasRole (before ++ take (n + 1) (inputs_from 0 names)) (length before + n) (Input n)
input_role before names n lt = behind before (inputs_from 0 names) n (Input n) (input_at 0 n n names (omega arith) lt)

pub output_role : (before : List JobFile) (names : List (List ℕ)) (n : ℕ) → n < length (outputs_from 0 names)
    → HasRole (before ++ take (n + 1) (outputs_from 0 names)) (length before + n) (Output n)
output_role before names n lt = behind before (outputs_from 0 names) n (Output n) (output_at 0 n n names (omega arith) lt)

-- the names that are created are those of the outputs
all_outputs : (k : ℕ) (names : List (List ℕ)) → created_of (outputs_from k names) ≡ names
all_outputs k [] = refl
all_outputs k (name ∷ names) = ap (λ (rest : List (List ℕ)). name ∷ rest) (all_outputs (k + 1) names)

-- the texts are opened
pub created_texts : (a : Asked) (rest : List JobFile) → created_of (texts_of a ++ rest) ≡ created_of rest
created_texts a rest =
    elim a.params as (λ o. created_of (program_file a ∷ (map params_file (if_given o) ++ rest)) ≡ created_of rest) [ None ↦ refl | Some name ↦ refl ]

pub created_files : (a : Asked) (p : PlainProgram) → created_of (files_of a p) ≡ output_names a p
created_files a p =
    created_texts a (inputs_from 0 (input_names a p) ++ outputs_from 0 (output_names a p))
    ∙ created_inputs 0 (input_names a p) (outputs_from 0 (output_names a p)) ∙ all_outputs 0 (output_names a p)

-- how many texts, inputs and outputs there are
pub texts_length : (a : Asked) → length (texts_of a) ≡ text_count a
texts_length a = elim a.params as (λ o. length (program_file a ∷ map params_file (if_given o)) ≡ 1 + length (if_given o)) [ None ↦ refl | Some name ↦ refl ]

pub inputs_length : (k : ℕ) (names : List (List ℕ)) → length (inputs_from k names) ≡ length names
inputs_length k [] = refl
inputs_length k (name ∷ names) = ap suc (inputs_length (k + 1) names)

pub outputs_length : (k : ℕ) (names : List (List ℕ)) → length (outputs_from k names) ≡ length names
outputs_length k [] = refl
outputs_length k (name ∷ names) = ap suc (outputs_length (k + 1) names)

-- how many of them are opened
opened_texts : (a : Asked) (rest : List JobFile) → opened_count (texts_of a ++ rest) ≡ text_count a + opened_count rest
opened_texts a rest =
    elim a.params as (λ o. opened_count (program_file a ∷ (map params_file (if_given o) ++ rest)) ≡ 1 + length (if_given o) + opened_count rest)
    [ None ↦ omega arith | Some name ↦ omega arith ]

opened_inputs : (k : ℕ) (names : List (List ℕ)) (rest : List JobFile) → opened_count (inputs_from k names ++ rest) ≡ length names + opened_count rest
opened_inputs k [] rest = omega arith
opened_inputs k (name ∷ names) rest = omega (arith, opened_inputs (k + 1) names rest)

opened_outputs : (k : ℕ) (names : List (List ℕ)) → opened_count (outputs_from k names) ≡ 0
opened_outputs k [] = refl
opened_outputs k (name ∷ names) = omega (arith, opened_outputs (k + 1) names)

-- how many of them have texts
counted_inputs : (k : ℕ) (names : List (List ℕ)) (rest : List JobFile) → texts_among (inputs_from k names ++ rest) ≡ texts_among rest
counted_inputs k [] rest = refl
counted_inputs k (name ∷ names) rest = omega (arith, counted_inputs (k + 1) names rest)

counted_outputs : (k : ℕ) (names : List (List ℕ)) → texts_among (outputs_from k names) ≡ 0
counted_outputs k [] = refl
counted_outputs k (name ∷ names) = omega (arith, counted_outputs (k + 1) names)

counted_texts : (a : Asked) (rest : List JobFile) → texts_among (texts_of a ++ rest) ≡ text_count a + texts_among rest
counted_texts a rest =
    elim a.params as (λ o. texts_among (program_file a ∷ (map params_file (if_given o) ++ rest)) ≡ 1 + length (if_given o) + texts_among rest)
    [ None ↦ omega arith | Some name ↦ omega arith ]

pub texts_alone : (a : Asked) → texts_among (texts_of a) ≡ text_count a
texts_alone a =
    elim a.params as (λ o. texts_among (program_file a ∷ map params_file (if_given o)) ≡ 1 + length (if_given o)) [ None ↦ refl | Some name ↦ refl ]

pub texts_counted : (a : Asked) (p : PlainProgram) → texts_among (files_of a p) ≡ text_count a
texts_counted a p =
    let outputs = outputs_from 0 (output_names a p) in
    omega (
      arith,
      counted_texts a (inputs_from 0 (input_names a p) ++ outputs),
      counted_inputs 0 (input_names a p) outputs,
      counted_outputs 0 (output_names a p),
    )

-- the files of a job, and each of its inputs and outputs among them
abbrev pub input_file : ℕ → List ℕ → JobFile
input_file n name = record { role = Input n; opened = true; name = name }

abbrev pub output_file : ℕ → List ℕ → JobFile
output_file n name = record { role = Output n; opened = false; name = name }

-- what stands at a place behind others
get_behind : (xs ys : List JobFile) (n : ℕ) → slice_get (xs ++ ys) (length xs + n) ≡ slice_get ys n
get_behind [] ys n = ap (slice_get ys) (zero-add n)
get_behind (x ∷ xs) ys n =
    let e : suc (length xs) + n ≡ suc (length xs + n) = omega arith in
    ap (slice_get (x ∷ (xs ++ ys))) e ∙ get_behind xs ys n

input_among : (k n m : ℕ) (names : List (List ℕ)) (rest : List JobFile) → m ≡ k + n → n < length names
    → slice_get (inputs_from k names ++ rest) n ≡ Some (input_file m (get_or names n []))
input_among k n m [] rest is lt = absurd (omega arith)
input_among k zero m (name ∷ names) rest is lt = let e : k ≡ m = omega arith in ap (λ (i : ℕ). Some (input_file i name)) e
input_among k (suc n) m (name ∷ names) rest is lt = input_among (k + 1) n m names rest (omega arith) (omega arith)

output_among : (k n m : ℕ) (names : List (List ℕ)) → m ≡ k + n → n < length names
    → slice_get (outputs_from k names) n ≡ Some (output_file m (get_or names n []))
output_among k n m [] is lt = absurd (omega arith)
output_among k zero m (name ∷ names) is lt = let e : k ≡ m = omega arith in ap (λ (i : ℕ). Some (output_file i name)) e
output_among k (suc n) m (name ∷ names) is lt = output_among (k + 1) n m names (omega arith) (omega arith)

pub role_at : (files : List JobFile) (n : ℕ) (f : JobFile) → slice_get files n ≡ Some f → HasRole files n f.role
role_at [] n f is = absurd (cc)
role_at (x ∷ xs) zero f is = ap (λ (g : JobFile). Some g.role) (same_Some x f is)
role_at (x ∷ xs) (suc n) f is = role_at xs n f is

module _ (a : Asked) (p : PlainProgram) (count : length a.names ≡ input_count p + output_count p) where
  pub input_names_length : length (input_names a p) ≡ input_count p
  input_names_length = omega (arith, length-take (input_count p) a.names)

  pub output_names_length : length (output_names a p) ≡ output_count p
  output_names_length = omega (arith, length-drop (input_count p) a.names)

  pub files_length : length (files_of a p) ≡ text_count a + (input_count p + output_count p)
  files_length =
      let inputs = inputs_from 0 (input_names a p) in
      let outputs = outputs_from 0 (output_names a p) in
      omega (
        arith,
        length-append (texts_of a) (inputs ++ outputs),
        length-append inputs outputs,
        texts_length a,
        inputs_length 0 (input_names a p),
        outputs_length 0 (output_names a p),
        input_names_length,
        output_names_length,
      )

  pub files_opened : opened_count (files_of a p) ≡ text_count a + input_count p
  files_opened =
      let inputs = inputs_from 0 (input_names a p) in
      let outputs = outputs_from 0 (output_names a p) in
      omega (arith, opened_texts a (inputs ++ outputs), opened_inputs 0 (input_names a p) outputs, opened_outputs 0 (output_names a p), input_names_length)

  pub file_of_input : (n : ℕ) → n < input_count p → slice_get (files_of a p) (text_count a + n) ≡ Some (input_file n (get_or (input_names a p) n []))
  file_of_input n lt =
      let rest = inputs_from 0 (input_names a p) ++ outputs_from 0 (output_names a p) in
      ap (λ (k : ℕ). slice_get (files_of a p) (k + n)) (sym (texts_length a)) ∙ get_behind (texts_of a) rest n
      ∙ input_among 0 n n (input_names a p) (outputs_from 0 (output_names a p)) (omega arith) (omega (arith, input_names_length))

  pub file_of_output : (n : ℕ) → n < output_count p
      → slice_get (files_of a p) (text_count a + input_count p + n) ≡ Some (output_file n (get_or (output_names a p) n []))
  file_of_output n lt =
      let inputs = inputs_from 0 (input_names a p) in
      let outputs = outputs_from 0 (output_names a p) in
      let place : text_count a + input_count p + n ≡ length (texts_of a) + (length inputs + n) =
      omega (arith, texts_length a, inputs_length 0 (input_names a p), input_names_length) in
      ap (slice_get (files_of a p)) place ∙ get_behind (texts_of a) (inputs ++ outputs) (length inputs + n) ∙ get_behind inputs outputs n
      ∙ output_among 0 n n (output_names a p) (omega arith) (omega (arith, output_names_length))
