-- What is judged of an accepted program: how many inputs and outputs it has, the names, the limits, and what refuses it.
use Rattle.std.proofs.Common.{◌≡◌, ℕ, suc, ◌+◌, ◌<◌, ◌≤◌, ◌==◌, Bool, true, false, not, ◌&&◌, ◌||◌, cond, List, [], ◌∷◌, ◌++◌, append_assoc, map, length, take, drop, get_or, Option, Some, None, option_map, refl, sym, ap, subst, ◌∙◌, arith, if◌then◌else◌, nat_lt}
use Rattle.std.specs.List.{filter, list_any}
use Rattle.std.specs.Borrow.{Bor}
use Rattle.std.specs.Str.{bytes_eq}
use Rattle.std.proofs.lemmas.Bool.{and_parts, eq-eqb, eqb-true, ltb-false}
use Rattle.std.proofs.lemmas.List.{drop_all, drop_more, get_or-map, length-map, take-map, take_more}
use Rattle.soda_words.specs.IntType.{IntType}
use Rattle.soda_words.specs.Limits.{most_cells}
use Rattle.soda_ir.specs.Counts.{is_input_role, is_output_role}
use Rattle.soda_ir.specs.Program.{PlainProgram, PlainTensor, input_types, plain_tensor}
use Rattle.soda_ir.specs.Valid.{output_types}
use Rattle.soda_ir.specs.declared.program.Role.TheVariants.{Input, Local, Output}
use Rattle.soda_ir.specs.declared.program.Tensor.{Tensor}
use Rattle.soda_ir.specs.declared.limit.LimitKind.TheVariants.{Cells}
use Rattle.soda_eval.specs.Runs.{cells_at}
use Rattle.soda_parse.specs.declared.refusal.Refusal.{Refusal}
use Rattle.soda_parse.specs.declared.refusal.Refusal.TheVariants.{Limit}
use Rattle.job_files.specs.Files.{names_of}
use Rattle.command_words.specs.declared.mode.Mode.{Mode}
use Rattle.command_words.specs.declared.mode.Mode.TheVariants.{Plain}
use Rattle.command_words.specs.Orders.{Asked}
use Rattle.job_status.specs.declared.status.Status.{Status}
use Rattle.job_status.specs.declared.status.Status.TheVariants as is
use Rattle.sodac_cli.specs.Due.{FirstRefusal, RefusalAt, RefusalOf, are_apart, by_limits, by_names, names_fit, passed_limit, stages_of}
use Rattle.sodac_cli.specs.Machine.Steps.{LetsPass}
use Rattle.sodac_cli.specs.Work.{input_count, input_names, output_count, output_names, rows_of, text_names}

-- the inputs are the tensors of that role, and the outputs
pub inputs_found : (ts : List Tensor) → length (filter (λ t. is_input_role t.role) ts) ≡ length (input_types (map plain_tensor ts))
inputs_found [] = refl
inputs_found (t ∷ ts) =
    let found : List Tensor = filter (λ u. is_input_role u.role) ts in
    let more = input_types (map plain_tensor ts) in
    elim t.role as (λ r. length (cond (is_input_role r) (t ∷ found) found) ≡ length {A = IntType} (elim r [ Input ↦ t.ty ∷ more | Local ↦ more | Output ↦ more ]))
    [ Input ↦ ap suc (inputs_found ts) | Local ↦ inputs_found ts | Output ↦ inputs_found ts ]

pub outputs_found : (ts : List Tensor) → length (filter (λ t. is_output_role t.role) ts) ≡ length (output_types (map plain_tensor ts))
outputs_found [] = refl
outputs_found (t ∷ ts) =
    let found : List Tensor = filter (λ u. is_output_role u.role) ts in
    let more = output_types (map plain_tensor ts) in
    elim t.role as (λ r. length (cond (is_output_role r) (t ∷ found) found) ≡ length {A = IntType} (elim r [ Input ↦ more | Local ↦ more | Output ↦ t.ty ∷ more ]))
    [ Input ↦ outputs_found ts | Local ↦ outputs_found ts | Output ↦ ap suc (outputs_found ts) ]

-- no tensor is both
pub both_within : (ts : List PlainTensor) → length (input_types ts) + length (output_types ts) ≤ length ts
both_within [] = omega arith
both_within (t ∷ ts) =
    let ins = input_types ts in
    let outs = output_types ts in
    let less = both_within ts in
    elim t.role as (λ r. length {A = IntType} (elim r [ Input ↦ t.ty ∷ ins | Local ↦ ins | Output ↦ ins ]) + length {A = IntType} (elim r [ Input ↦ outs | Local ↦ outs | Output ↦ t.ty ∷ outs ]) ≤ suc (length ts))
    [ Input ↦ omega arith | Local ↦ omega arith | Output ↦ omega arith ]

-- one name more, behind those of the texts and those that were looked at
pub apart_more : (texts names : List (List ℕ)) (n : ℕ) → n < length names
    → are_apart (texts ++ take n names) (drop n names)
    ≡ (not (list_any (bytes_eq (get_or names n [])) (texts ++ take n names)) && are_apart (texts ++ take (n + 1) names) (drop (n + 1) names))
apart_more texts names n lt =
    let more : (texts ++ take n names) ++ get_or names n [] ∷ [] ≡ texts ++ take (n + 1) names =
    append_assoc texts (take n names) (get_or names n [] ∷ []) ∙ ap (λ (ns : List (List ℕ)). texts ++ ns) (sym (take_more names n [] lt)) in
    ap (λ rest. are_apart (texts ++ take n names) rest) (drop_more names n [] lt)
    ∙ ap (λ before. not (list_any (bytes_eq (get_or names n [])) (texts ++ take n names)) && are_apart before (drop (n + 1) names)) more

-- the same of names that references point to, by a test of that name
pub apart_step : (texts : List (List ℕ)) (names : List (Bor (List ℕ))) (n : ℕ) (d : Bor (List ℕ)) (among : Bool) → n < length names
    → among ≡ list_any (bytes_eq (get_or names n d).now) (texts ++ names_of (take n names))
    → are_apart (texts ++ take n (names_of names)) (drop n (names_of names))
    ≡ (not among && are_apart (texts ++ take (n + 1) (names_of names)) (drop (n + 1) (names_of names)))
apart_step texts names n d among lt e =
    let now : Bor (List ℕ) → List ℕ = λ name. name.now in
    let within : n < length (names_of names) = omega (arith, length-map names now) in
    let later : Bool = are_apart (texts ++ take (n + 1) (names_of names)) (drop (n + 1) (names_of names)) in
    apart_more texts (names_of names) n within
    ∙ ap (λ name. not (list_any (bytes_eq name) (texts ++ take n (names_of names))) && later) (get_or-map now names n d [] lt)
    ∙ ap (λ before. not (list_any (bytes_eq (get_or names n d).now) (texts ++ before)) && later) (take-map now n names)
    ∙ ap (λ b. not b && later) (sym e)

-- and at the end
pub apart_all : (texts : List (List ℕ)) (names : List (Bor (List ℕ))) (n : ℕ) → length names ≤ n
    → are_apart (texts ++ take n (names_of names)) (drop n (names_of names)) ≡ true
apart_all texts names n le =
    let now : Bor (List ℕ) → List ℕ = λ name. name.now in
    let past : length (names_of names) ≤ n = omega (arith, length-map names now) in
    ap (λ rest. are_apart (texts ++ take n (names_of names)) rest) (drop_all n (names_of names) past)

-- a test of two lists of names, one behind the other
pub any_of_two : (test : List ℕ → Bool) (xs ys : List (List ℕ)) → list_any test (xs ++ ys) ≡ (list_any test xs || list_any test ys)
any_of_two test [] ys = refl
any_of_two test (x ∷ xs) ys =
    elim (test x) as (λ b. (b || list_any test (xs ++ ys)) ≡ ((b || list_any test xs) || list_any test ys)) [ true ↦ refl | false ↦ any_of_two test xs ys ]

-- a name among those that references point to
pub any_name : (name : List ℕ) (names : List (Bor (List ℕ))) → list_any (λ other. bytes_eq name other.now) names ≡ list_any (bytes_eq name) (names_of names)
any_name name [] = refl
any_name name (n ∷ ns) = ap (λ b. bytes_eq name n.now || b) (any_name name ns)

-- the names fit where there are as many as inputs and outputs and no output is named like another file
pub fit_by : (a : Asked) (p : PlainProgram) (names : List (List ℕ)) (inputs : ℕ) → names ≡ a.names → inputs ≡ input_count p
    → length a.names ≡ input_count p + output_count p → are_apart (text_names a ++ take inputs names) (drop inputs names) ≡ names_fit a p
fit_by a p names inputs y z e =
    ap (λ ns. are_apart (text_names a ++ take inputs ns) (drop inputs ns)) y
    ∙ ap (λ k. are_apart (text_names a ++ take k a.names) (drop k a.names)) z
    ∙ sym (ap (λ b. b && are_apart (text_names a ++ input_names a p) (output_names a p)) (eq-eqb (length a.names) (input_count p + output_count p) e))

-- where no limit is passed, an array has few cells
few_cells : (b : Bool) (r : Refusal) (o : Option Refusal) → (if b then Some r else o) ≡ None → b ≡ false
few_cells true r o e = cc
few_cells false r o e = refl

-- what is judged in `plain`, and what refuses a program
module _ (a : Asked) (p : PlainProgram) (plain : a.mode ≡ Plain) where
  in_plain : (r : Option Status) → FirstRefusal (stages_of Plain) a p r → RefusalOf a p r
  in_plain r x = let P : Mode → Type 0 = λ m. FirstRefusal (stages_of m) a p r in subst P (sym plain) x

  -- what the names say
  named : (fit : Bool) → names_fit a p ≡ fit → RefusalAt by_names a p (if fit then None else Some is.Usage)
  named fit x = let test : Bool → Option Status = λ b. if b then None else Some is.Usage in ap test (sym x)

  -- what the limits say
  limited : (limit : Option Refusal) → passed_limit p (rows_of a) ≡ limit → RefusalAt by_limits a p (option_map (λ r. is.Program r) limit)
  limited limit x = ap (λ (o : Option Refusal). option_map (λ r. is.Program r) o) (sym x)

  pub names_refused : names_fit a p ≡ false → RefusalOf a p (Some is.Usage)
  names_refused x = in_plain (Some is.Usage) (Some is.Usage, named false x, refl)

  pub limit_refused : names_fit a p ≡ true → (r : Refusal) → passed_limit p (rows_of a) ≡ Some r → RefusalOf a p (Some (is.Program r))
  limit_refused x r z = in_plain (Some (is.Program r)) (None, named true x, (Some (is.Program r), limited (Some r) z, refl))

  pub lets_pass : names_fit a p ≡ true → passed_limit p (rows_of a) ≡ None → LetsPass a p
  lets_pass x z =
      let fit = and_parts (length a.names == input_count p + output_count p) (are_apart (text_names a ++ input_names a p) (output_names a p)) x in
      record {
        none = in_plain None (None, named true x, (None, limited None z, refl));
        few = ltb-false most_cells (cells_at p (rows_of a)) (few_cells (nat_lt most_cells (cells_at p (rows_of a))) (Limit Cells (cells_at p (rows_of a))) _ z);
        count = eqb-true (length a.names) (input_count p + output_count p) fit.0;
        apart = fit.1;
      }
