-- What the conditions on a text say of the program that it stands for.
use Rattle.std.proofs.Common.{subst, ◌≡◌, true, false, refl, ℕ, ◌+◌, ◌<◌, ◌^◌, List, [], ◌∷◌, map, length, Option, None, sym, ap, ◌∙◌, arith}
use Rattle.std.proofs.lemmas.List.{length-map}
use Rattle.std.specs.Prelude.{find, flat_map, nat_lt}
use Rattle.std.specs.List.{list_all}
use Rattle.std.proofs.lemmas.List.Folds.{list_all-append}
use Rattle.std.proofs.lemmas.Bool.Decides.{nat_tests}
use Rattle.soda_formula.specs.declared.statement.InputLine.{InputLine}
use Rattle.soda_checks.specs.Conditions.{has_wrong_dims, is_wrong_site, site_line}
use Rattle.soda_checks.specs.Outline.{outline_of}
use Rattle.soda_checks.specs.declared.outline.Outline.{Outline}
use Rattle.soda_ir.specs.Counts.{IsCountable, can_be_placed, live_count, read_count}
use Rattle.soda_ir.specs.Program.{PlainProgram, plain, plain_tensor}
use Rattle.soda_ir.specs.declared.program.Parts.{Parts}
use Rattle.soda_ir.specs.Valid.{IsValid, is_small}
use Rattle.soda_parse.proofs.Counting.{few_of_all, tensor_total}
use Rattle.soda_parse.proofs.Tiling.{tiled, unmapped}
use Rattle.soda_parse.proofs.Uses.{Fits}
use Rattle.soda_parse.proofs.Sizes.{within, product_small, has_all}
use Rattle.soda_parse.proofs.Cells.{all_fine, cells_fine}
use Rattle.soda_parse.proofs.Named.{declared_named, kernel_named, names_named, params_good}
use Rattle.soda_parse.proofs.Places.{values_small}
use Rattle.soda_parse.proofs.AllUses.{all_uses, input_placed, two_sizes}
use Rattle.soda_parse.proofs.SmallTensors.{small_tensors}
use Rattle.soda_parse.proofs.FreeNames.{free_names}
use Rattle.soda_parse.proofs.Texts.{param_texts, tensor_texts}
use Rattle.soda_parse.proofs.Ends.{inputs_stand_first, all_formulas, an_input, an_output, has_burst, fits_itself, defined_placed}
use Rattle.soda_parse.proofs.Kept.{keeps_names, keeps_shape, keeps_sizes, keeps_rest, none_first, none_second}
use Rattle.soda_parse.specs.Meaning.{fixed_in, input_of, program_by, tensors_in, tile_items}
use Rattle.soda_parse.specs.ProgramConditions.{circular}
use Rattle.soda_parse.specs.Text.{count_refusal, late_refusal, names_refusal, refusal_by, shape_refusal, size_refusal, statement_refusal, use_refusal}
use Rattle.soda_parse.specs.declared.refusal.Refusal.{Refusal}
use Rattle.soda_formula.specs.Statements.{PlainStatement}
use Rattle.soda_syntax.specs.SyntaxError.{IsSyntax}
use Rattle.soda_words.specs.Tokens.{tokens_of}

-- a text below 2 ^ 32 bytes has fewer than 2 ^ 32 inputs, locals and outputs
pub few_tensors : (bytes : List ℕ) (ss : List PlainStatement) → length bytes < 2 ^ 32 → IsSyntax (tokens_of bytes) ss →
    length (outline_of ss).inputs + length (outline_of ss).defined < 2 ^ 32
few_tensors bytes ss short syn = omega (arith, few_of_all bytes ss syn.statements)

-- a text below 2 ^ 32 bytes has fewer than 2 ^ 32 params
pub few_params : (bytes : List ℕ) (ss : List PlainStatement) → length bytes < 2 ^ 32 → IsSyntax (tokens_of bytes) ss → length (outline_of ss).params < 2 ^ 32
few_params bytes ss short syn = omega (arith, few_of_all bytes ss syn.statements)

-- the program of a text below 2 ^ 32 bytes has fewer than 2 ^ 32 tensors
pub few_made : (bytes : List ℕ) (ss : List PlainStatement) → length bytes < 2 ^ 32 → IsSyntax (tokens_of bytes) ss →
    length (program_by (outline_of ss) ss).tensors < 2 ^ 32
few_made bytes ss short syn = omega (arith, few_of_all bytes ss syn.statements, tensor_total ss)

-- where no condition on names, shape and sizes refuses, live tensors and reads can be counted
pub countable : (ss : List PlainStatement) → names_refusal (outline_of ss) ≡ None → shape_refusal (outline_of ss) (program_by (outline_of ss) ss) ≡ None →
    size_refusal (outline_of ss) (program_by (outline_of ss) ss) ≡ None → IsCountable (program_by (outline_of ss) ss)
countable ss names shape sizes =
    let o : Outline = outline_of ss in
    let p : PlainProgram = program_by o ss in
    let a = keeps_names o names in
    let b = keeps_shape o p shape in
    let c = keeps_sizes o p sizes in
    let t = tiled o b.tile (has_all o a.missing).input in
    let few = (within 0 4 (length (tile_items o)) c.dims).1 in
    let counted : find (has_wrong_dims o (length (tile_items o))) o.sites ≡ None = unmapped site_line _ (rw t.there at a.dims) in
    let fits : Fits o p (length (tile_items o)) = record { tensors = tensor_total ss; extents = t.dims; few = few } in
    record {
      cells = cells_fine o p (length (tile_items o)) ss fits (all_fine o (length (tile_items o)) [] ss counted c.offsets);
      extents = t.nonzero;
      few_dims = omega (arith, t.dims, few);
      small_tile = omega (arith, product_small 1 (flat_map fixed_in (tile_items o)) (omega arith) c.tile);
      few_tensors = (within 0 512 (length p.tensors) c.tensors).1;
      few_iterations = (within 1 64 p.iterate c.iterate).1;
    }

inputs_small : (p : PlainProgram) (is : List InputLine) → list_all (is_small p) (map input_of is) ≡ true
inputs_small p [] = refl
inputs_small p (i ∷ is) = inputs_small p is

-- none of the groups of conditions refuses
record Groups (o : Outline) (p : PlainProgram) : Type 0 where
  pub names : names_refusal o ≡ None
  pub shape : shape_refusal o p ≡ None
  pub sizes : size_refusal o p ≡ None
  pub counts : count_refusal p ≡ None
  pub uses : use_refusal o p ≡ None

groups : (o : Outline) (p : PlainProgram) → refusal_by o p ≡ None → Groups o p
unfolding refusal_by late_refusal
groups o p e =
    let a = none_second (names_refusal o) _ e in
    let b = none_second (shape_refusal o p) _ a in
    let c = none_second (size_refusal o p) _ b in
    record {
      names = none_first (names_refusal o) _ e;
      shape = none_first (shape_refusal o p) _ a;
      sizes = none_first (size_refusal o p) _ b;
      counts = none_first (count_refusal p) _ c;
      uses = none_second (count_refusal p) _ c;
    }

-- each tensor can be placed
placed_of : (ss : List PlainStatement) → circular (outline_of ss) (program_by (outline_of ss) ss) ≡ None → 0 < length (outline_of ss).inputs → (x : ℕ) →
    x < length (outline_of ss).inputs + length (outline_of ss).defined → can_be_placed (program_by (outline_of ss) ss) x ≡ true
placed_of ss e some x lt =
    let o : Outline = outline_of ss in
    let p : PlainProgram = program_by o ss in
    elim (nat_lt x (length o.inputs)) as (λ b. (b ≡ nat_lt x (length o.inputs)) →
    can_be_placed p x ≡ true) [
      | true ↦ λ h. input_placed p o.inputs (flat_map (tensors_in o) ss) x refl (grind (arith, nat_tests, h)) (omega (
        arith,
        tensor_total ss,
        some,
      ))
      | false ↦ λ h. defined_placed p (length o.inputs) o.defined e x (grind (arith, nat_tests, h)) lt
    ] refl

-- a program of statements that no condition refuses is valid
pub valid : (bytes : List ℕ) (ss : List PlainStatement) → IsSyntax (tokens_of bytes) ss →
    refusal_by (outline_of ss) (program_by (outline_of ss) ss) ≡ None → IsValid (program_by (outline_of ss) ss)
valid bytes ss syn none =
    let o : Outline = outline_of ss in
    let p : PlainProgram = program_by o ss in
    let g = groups o p none in
    let a = keeps_names o g.names in
    let b = keeps_shape o p g.shape in
    let c = keeps_sizes o p g.sizes in
    let d = keeps_rest o p g.counts g.uses in
    let have = has_all o a.missing in
    let t = tiled o b.tile have.input in
    let few = (within 0 4 (length (tile_items o)) c.dims).1 in
    let counted : find (has_wrong_dims o (length (tile_items o))) o.sites ≡ None = unmapped site_line _ (rw t.there at a.dims) in
    let fits : Fits o p (length (tile_items o)) = record { tensors = tensor_total ss; extents = t.dims; few = few } in
    let fine = all_fine o (length (tile_items o)) [] ss counted c.offsets in
    let wrong : find (is_wrong_site o) o.sites ≡ None = unmapped site_line _ d.uses in
    let called = names_named bytes ss syn.statements in
    let params = params_good o ss called wrong in
    let values = values_small 0 p.params (omega arith) c.params in
    let burst = has_burst p d.burst in
    let total : length p.tensors ≡ length o.inputs + length o.defined = tensor_total ss in
    record {
      sound = record {
        limits = record {
          some_lanes = (within 1 64 p.unroll c.unroll).0;
          few_lanes = (within 1 64 p.unroll c.unroll).1;
          some_iterations = (within 1 64 p.iterate c.iterate).0;
          few_iterations = (within 1 64 p.iterate c.iterate).1;
          few_dims = omega (arith, t.dims, few);
          extents = t.nonzero;
          small_tile = omega (arith, product_small 1 (flat_map fixed_in (tile_items o)) (omega arith) c.tile);
          few_tensors = (within 0 512 (length p.tensors) c.tensors).1;
          few_values = omega (arith, values);
          least_burst = burst.least;
          most_burst = burst.most;
        };
        parts = record {
          kernel = kernel_named ss called have.kernel;
          params = params;
          names = rw (param_texts o.params, tensor_texts o o.inputs ss) (free_names o ss a.names (declared_named ss called));
          formulas = all_formulas o o.inputs ss;
          uses = all_uses o p (length (tile_items o)) o.inputs ss fits (record {
            same = refl;
            two = two_sizes o.params params;
            few =
                omega (arith, values);
          }) fine wrong;
          small = list_all-append (is_small p) (map input_of o.inputs) (flat_map (tensors_in o) ss) ∙
              rw (inputs_small p o.inputs) (small_tensors o p bytes ss refl wrong syn);
        };
        ends = record {
          inputs_first = inputs_stand_first o o.inputs ss;
          some_input = an_input o o.inputs ss have.input;
          some_output = an_output o o.inputs ss have.output;
          bursts = burst.filled;
        };
        fits = fits_itself p b.iterates b.preserves;
        placed = λ x lt. placed_of ss b.placed have.input x (omega (arith, total, lt));
      };
      few_live = (within 0 512 (live_count p) d.live).1;
      few_reads = (within 0 16384 (read_count p) d.reads).1;
    }

-- the same as `countable`, of an outline and a program that are the statements'
pub countable_at : (ss : List PlainStatement) (o : Outline) (p : PlainProgram) → o ≡ outline_of ss → p ≡ program_by o ss → names_refusal o ≡ None →
    shape_refusal o p ≡ None → size_refusal o p ≡ None → IsCountable p
countable_at ss o p e f = rw (f, e) (countable ss)

-- the same as `few_made`, of parts that are the program's
pub few_made_at : (bytes : List ℕ) (ss : List PlainStatement) (o : Outline) (parts : Parts) → o ≡ outline_of ss → plain parts ≡ program_by o ss →
    length bytes < 2 ^ 32 → IsSyntax (tokens_of bytes) ss → length parts.tensors < 2 ^ 32
few_made_at bytes ss o parts e f short syn =
    let same : length parts.tensors ≡ length (program_by (outline_of ss) ss).tensors = sym (length-map parts.tensors plain_tensor) ∙
    (ap (λ (p : PlainProgram). length p.tensors) f ∙ ap (λ (u : Outline). length (program_by u ss).tensors) e) in
    rw same (few_made bytes ss short syn)

-- the same as `valid`, of parts that are the program's
pub valid_at : (bytes : List ℕ) (ss : List PlainStatement) (o : Outline) (parts : Parts) → o ≡ outline_of ss → plain parts ≡ program_by o ss →
    IsSyntax (tokens_of bytes) ss → refusal_by o (plain parts) ≡ None → IsValid (plain parts)
valid_at bytes ss o parts e f syn none =
    let same : plain parts ≡ program_by (outline_of ss) ss = f ∙ ap (λ (u : Outline). program_by u ss) e in
    let kept : refusal_by (outline_of ss) (program_by (outline_of ss) ss) ≡ None =
    sym (ap (λ (u : Outline). refusal_by u (plain parts)) e ∙ ap (refusal_by (outline_of ss)) same) ∙ none in
    subst IsValid (sym same) (valid bytes ss syn kept)

-- what refuses the parts of the program refuses the statements
pub refused_at : (ss : List PlainStatement) (o : Outline) (parts : Parts) {r : Option Refusal} → o ≡ outline_of ss →
    plain parts ≡ program_by o ss → r ≡ refusal_by o (plain parts) → statement_refusal ss ≡ r
refused_at ss o parts e f h =
    let same : plain parts ≡ program_by (outline_of ss) ss = f ∙ ap (λ (u : Outline). program_by u ss) e in
    sym (h ∙ (ap (λ (u : Outline). refusal_by u (plain parts)) e ∙ ap (refusal_by (outline_of ss)) same))
