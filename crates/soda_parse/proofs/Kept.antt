-- The conditions on a text one by one, where none of them fails.
use Rattle.std.proofs.Common.{◌≡◌, Bool, true, false, length, Option, Some, None, refl}
use Rattle.soda_checks.specs.Conditions.{bad_width, float_type, missing, name_twice, param_use, twice, unknown_name, wrong_dims, wrong_tile}
use Rattle.soda_checks.specs.declared.outline.Outline.{Outline}
use Rattle.soda_ir.specs.Counts.{live_count, read_count}
use Rattle.soda_ir.specs.Program.{PlainProgram}
use Rattle.soda_parse.specs.ProgramConditions.{bad_burst, circular, iterate_mismatch, offset_past, params_past, preserve_mismatch, tile_past, unless_within}
use Rattle.soda_parse.specs.Meaning.{tile_items}
use Rattle.soda_parse.specs.Text.{count_refusal, names_refusal, refusal_if, shape_refusal, size_refusal, use_refusal}
use Rattle.soda_parse.specs.declared.refusal.Refusal.{Refusal}
use Rattle.soda_words.specs.Tokens.{or_else}
use Rattle.soda_parse.proofs.Tiling.{unmapped}

-- names and types are fine
pub record KeepsNames (o : Outline) : Type 0 where
  pub missing : missing o ≡ None
  pub twice : twice o ≡ None
  pub floats : float_type o ≡ None
  pub widths : bad_width o ≡ None
  pub names : name_twice o ≡ None
  pub known : unknown_name o ≡ None
  pub dims : wrong_dims o ≡ None

-- the shape of the program is fine
pub record KeepsShape (o : Outline) (p : PlainProgram) : Type 0 where
  pub placed : circular o p ≡ None
  pub iterates : iterate_mismatch p ≡ false
  pub preserves : preserve_mismatch p ≡ false
  pub tile : wrong_tile o ≡ None

-- the limits on sizes are kept
pub record KeepsSizes (o : Outline) (p : PlainProgram) : Type 0 where
  pub unroll : unless_within 1 64 p.unroll ≡ None
  pub iterate : unless_within 1 64 p.iterate ≡ None
  pub dims : unless_within 0 4 (length (tile_items o)) ≡ None
  pub tile : tile_past p ≡ None
  pub offsets : offset_past o ≡ None
  pub tensors : unless_within 0 512 (length p.tensors) ≡ None
  pub params : params_past p ≡ None

-- the limits on the staged program are kept, and the burst width and the uses of params are fine
pub record KeepsRest (o : Outline) (p : PlainProgram) : Type 0 where
  pub live : unless_within 0 512 (live_count p) ≡ None
  pub reads : unless_within 0 16384 (read_count p) ≡ None
  pub burst : bad_burst p ≡ None
  pub uses : param_use o ≡ None

-- where none of two answers is there, the first is not
pub none_first : {A : Type 0} (a b : Option A) → or_else a b ≡ None → a ≡ None
none_first None b e = refl
none_first (Some a) b e = cc

-- where none of two answers is there, the second is not
pub none_second : {A : Type 0} (a b : Option A) → or_else a b ≡ None → b ≡ None
none_second None b e = e
none_second (Some a) b e = cc

none_unless : (b : Bool) (r : Refusal) → refusal_if b r ≡ None → b ≡ false
none_unless true r e = cc
none_unless false r e = refl

-- no condition on names and types fails where none refuses
pub keeps_names : (o : Outline) → names_refusal o ≡ None → KeepsNames o
unfolding names_refusal
keeps_names o e =
    let a = none_second _ _ e in
    let b = none_second _ _ a in
    let c = none_second _ _ b in
    let d = none_second _ _ c in
    let f = none_second _ _ d in
    let g = none_second _ _ f in
    record {
      missing = unmapped _ (missing o) (none_first _ _ e);
      twice = unmapped _ (twice o) (none_first _ _ a);
      floats = unmapped _ (float_type o) (none_first _ _ b);
      widths = unmapped _ (bad_width o) (none_first _ _ c);
      names = unmapped _ (name_twice o) (none_first _ _ d);
      known = unmapped _ (unknown_name o) (none_first _ _ f);
      dims = unmapped _ (wrong_dims o) (none_first _ _ g);
    }

-- no condition on the shape fails where none refuses
pub keeps_shape : (o : Outline) (p : PlainProgram) → shape_refusal o p ≡ None → KeepsShape o p
unfolding shape_refusal
keeps_shape o p e =
    let a = none_second _ _ e in
    let b = none_second _ _ a in
    let c = none_second _ _ b in
    record {
      placed = unmapped _ (circular o p) (none_first _ _ e);
      iterates = none_unless (iterate_mismatch p) _ (none_first _ _ a);
      preserves = none_unless (preserve_mismatch p) _ (none_first _ _ b);
      tile = unmapped _ (wrong_tile o) (none_first _ _ c);
    }

-- no limit on sizes is passed where none refuses
pub keeps_sizes : (o : Outline) (p : PlainProgram) → size_refusal o p ≡ None → KeepsSizes o p
unfolding size_refusal
keeps_sizes o p e =
    let a = none_second _ _ e in
    let b = none_second _ _ a in
    let c = none_second _ _ b in
    let d = none_second _ _ c in
    let f = none_second _ _ d in
    let g = none_second _ _ f in
    record {
      unroll = unmapped _ (unless_within 1 64 p.unroll) (none_first _ _ e);
      iterate = unmapped _ (unless_within 1 64 p.iterate) (none_first _ _ a);
      dims = unmapped _ (unless_within 0 4 (length (tile_items o))) (none_first _ _ b);
      tile = unmapped _ (tile_past p) (none_first _ _ c);
      offsets = unmapped _ (offset_past o) (none_first _ _ d);
      tensors = unmapped _ (unless_within 0 512 (length p.tensors)) (none_first _ _ f);
      params = unmapped _ (params_past p) (none_first _ _ g);
    }

-- no limit on counts is passed and no use is wrong where none refuses
pub keeps_rest : (o : Outline) (p : PlainProgram) → count_refusal p ≡ None → use_refusal o p ≡ None → KeepsRest o p
unfolding count_refusal use_refusal
keeps_rest o p e u = record {
  live = unmapped _ (unless_within 0 512 (live_count p)) (none_first _ _ e);
  reads = unmapped _ (unless_within 0 16384 (read_count p)) (none_first _ _ (none_second _ _ e));
  burst = unmapped _ (bad_burst p) (none_first _ _ u);
  uses = unmapped _ (param_use o) (none_first _ _ (none_second _ _ u));
}
