-- The input and the output of a number, whose ids and types stand in lists.
use Rattle.std.proofs.Common.{◌≡◌, ◌<◌, ◌≤◌, ℕ, ◌+◌, List, [], length, get_or, All, Bor, ℤ, refl, sym, ap, ◌∙◌, arith, subst}
use Rattle.std.proofs.lemmas.List.{get_or_default, length-map}
use Rattle.soda_io.specs.Store.{Store}
use Rattle.soda_words.specs.IntType.{IntType, int32}
use Rattle.soda_ir.specs.Program.{PlainProgram, input_types}
use Rattle.soda_ir.specs.Valid.{output_types}
use Rattle.soda_eval.specs.Runs.{defined_arrays}
use Rattle.job_arrays.specs.declared.layout.Layout.{Layout}
use Rattle.job_files.specs.Files.{ids_from, names_of}
use Rattle.job_files.proofs.CallerLemmas.{ids_at}
use Rattle.command_words.specs.Orders.{Asked}
use Rattle.sodac_cli.specs.Machine.Steps.{IsGathering, IsReady, IsSettled, IsWriting, ReadsInput, ReadsInputs, WritesOutput, WritesOutputs, layout_of}
use Rattle.sodac_cli.specs.Work.{input_count, input_names, output_count, output_names, rows_of, text_count}
use Rattle.sodac_cli.proofs.Numbered.{input_names_length, output_names_length, texts_length}
use Rattle.sodac_cli.proofs.Ready.{ids_below, ids_length}

-- an id in a list, from its number
id_at : (ids : List ℕ) (start count n d : ℕ) → ids ≡ ids_from start count → n < length ids → get_or ids n d ≡ start + n
id_at ids start count n d are lt =
    ap (λ (xs : List ℕ). get_or xs n d) are ∙ ids_at start count n d (omega (arith, ap (λ (xs : List ℕ). length xs) are, ids_length start count))

module _ (first : ℕ) (begun : Store) (a : Asked) (p : PlainProgram) (values : List ℤ) (ids : List ℕ) (types : List IntType) (layout : Layout) (before : ℕ) (old : Store) where
  module _ (r : ReadsInputs first begun a p before old values ids types layout) where
    pub as_many_ids : length ids ≡ input_count p
    as_many_ids = ap (λ (xs : List ℕ). length xs) r.ids_are ∙ ids_length (first + text_count a) (input_count p)

    pub next_input : (given : ℕ) (now : Store) (arrays : List (List ℤ)) (number : ℕ) → IsGathering first begun a p given now values arrays number
        → number < length ids → (id d : ℕ) → id ≡ get_or ids number d → (ty e : IntType) → ty ≡ get_or types number e → length ids ≡ length types
        → ReadsInput first begun a p given now values arrays number id ty layout
    next_input given now arrays number g lt id d same ty e alike many = record {
      gathering = g;
      within = omega (arith, as_many_ids);
      id_is =
          let more : first + text_count a + number ≡ first + (text_count a + number) = omega arith in
          same ∙ id_at ids (first + text_count a) (input_count p) number d r.ids_are lt ∙ more;
      type_is =
          alike ∙ get_or_default types number e int32 (omega (arith, many)) ∙ ap (λ (ts : List IntType). get_or ts number int32) r.types_are;
      layout_is = r.layout_is;
    }

  module _ (inputs arrays : List (List ℤ)) (w : WritesOutputs first begun a p before old values inputs ids types layout arrays) where
    pub as_many_outputs : length ids ≡ output_count p
    as_many_outputs = ap (λ (xs : List ℕ). length xs) w.ids_are ∙ ids_length (first + (text_count a + input_count p)) (output_count p)

    pub next_output : (given : ℕ) (now : Store) (number : ℕ) → IsWriting first begun a p given now values inputs number
        → number < length ids → (id d : ℕ) → id ≡ get_or ids number d → (ty e : IntType) → ty ≡ get_or types number e → length ids ≡ length types
        → length arrays ≡ length types → (cells : List ℤ) → cells ≡ get_or arrays number []
        → WritesOutput first begun a p given now values inputs number id ty layout cells
    next_output given now number g lt id d same ty e alike many all cells is = record {
      writing = g;
      within = omega (arith, as_many_outputs);
      as_many =
          ap (λ (xs : List (List ℤ)). length xs) (sym w.arrays_are) ∙ all ∙ sym many ∙ as_many_outputs;
      id_is =
          let more : first + (text_count a + input_count p) + number ≡ first + (text_count a + input_count p + number) = omega arith in
          same ∙ id_at ids (first + (text_count a + input_count p)) (output_count p) number d w.ids_are lt ∙ more;
      type_is =
          alike ∙ get_or_default types number e int32 (omega (arith, many)) ∙ ap (λ (ts : List IntType). get_or ts number int32) w.types_are;
      layout_is = w.layout_is;
      cells_are = is ∙ ap (λ (xs : List (List ℤ)). get_or xs number []) w.arrays_are;
    }

-- the names of the inputs and of the outputs are as many as these
module _ (a : Asked) (p : PlainProgram) (count : length a.names ≡ input_count p + output_count p) where
  pub front_length : (front : List (Bor (List ℕ))) → names_of front ≡ input_names a p → length front ≡ input_count p
  front_length front same =
      omega (arith, length-map front (λ (n : Bor (List ℕ)). n.now), ap (λ (ns : List (List ℕ)). length ns) same, input_names_length a p count)

  pub rest_length : (rest : List (Bor (List ℕ))) → names_of rest ≡ output_names a p → length rest ≡ output_count p
  rest_length rest same =
      omega (arith, length-map rest (λ (n : Bor (List ℕ)). n.now), ap (λ (ns : List (List ℕ)). length ns) same, output_names_length a p count)

-- the ids that were given
pub given_length : (ids : List ℕ) (start count : ℕ) → ids ≡ ids_from start count → length ids ≡ count
given_length ids start count are = ap (λ (xs : List ℕ). length xs) are ∙ ids_length start count

pub given_below : (ids : List ℕ) (start count bound : ℕ) → ids ≡ ids_from start count → start + count ≤ bound → All (λ id. id < bound) ids
given_below ids start count bound are le =
    let P : List ℕ → Type 0 = λ xs. All (λ (id : ℕ). id < bound) xs in
    subst P (sym are) (ids_below start count bound le)

module _ (first : ℕ) (begun : Store) (a : Asked) (p : PlainProgram) (values : List ℤ) where
  pub made_ready : (before : ℕ) (old : Store) → IsSettled first begun a p before old values → (opened made : List ℕ) (n m : ℕ) → opened ≡ ids_from before n
      → made ≡ ids_from (before + n) m → n ≡ input_count p → m ≡ output_count p → (given : ℕ) (now : Store)
      → IsGathering first begun a p given now values [] 0 → IsReady first begun a p given now values opened made
  made_ready before old s opened made n m these those some others given now g =
      let start : before ≡ first + text_count a = omega (arith, s.asked.progress.well.count, texts_length a) in
      let next : before + n ≡ first + (text_count a + input_count p) = omega (arith, start, some) in
      record {
        gathering = g;
        inputs_are = these ∙ ap (λ (k : ℕ). ids_from k n) start ∙ ap (ids_from (first + text_count a)) some;
        outputs_are = those ∙ ap (λ (k : ℕ). ids_from k m) next ∙ ap (ids_from (first + (text_count a + input_count p))) others;
      }

  module _ (layout : Layout) (layout_is : layout ≡ layout_of a p) (given : ℕ) (now : Store) (inputs outputs : List ℕ)
      (r : IsReady first begun a p given now values inputs outputs) where
    pub to_read : ReadsInputs first begun a p given now values inputs (input_types p.tensors) layout
    to_read = record { gathering = r.gathering; ids_are = r.inputs_are; types_are = refl; layout_is = layout_is }

    pub to_write : (after : ℕ) (later : Store) (arrays : List (List ℤ)) → IsWriting first begun a p after later values arrays 0 → (made : List (List ℤ))
        → made ≡ defined_arrays p (rows_of a) values arrays
        → WritesOutputs first begun a p after later values arrays outputs (output_types p.tensors) layout made
    to_write after later arrays w made are = record { writing = w; ids_are = r.outputs_are; types_are = refl; layout_is = layout_is; arrays_are = are }
