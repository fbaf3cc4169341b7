-- The plan of a program.
use Rattle.std.proofs.Common.{◌≡◌, ◌≢◌, ℕ, zero, suc, ◌<◌, Bool, true, false, ◌&&◌, ◌==◌}
use Rattle.std.proofs.Common.{List, [], ◌∷◌, ◌++◌, length, map, get_or, Some, None, slice_get, pos, refl, sym, ◌∙◌, ap, arith, cond, eq-eqb, if◌then◌else◌}
use Rattle.std.specs.List.{filter, position_or_len}
use Rattle.std.proofs.lemmas.Bool.{false≢true, false_from_ne_true}
use Rattle.std.proofs.lemmas.List.{get_or-map, length-map}
use Rattle.std.proofs.lemmas.List.Sums.{passes_at_first}
use Rattle.delay_net.specs.declared.net.Read.{Read}
use Rattle.delay_net.specs.Shape.{IsNet}
use Rattle.net_shape.specs.declared.kinds.Kind.TheVariants.{Input, Inner, Output}
use Rattle.net_shape.specs.Plans.{IsPlan, kind_at}
use Rattle.soda_ir.specs.declared.reads.Read.{Read as Reading}
use Rattle.soda_ir.specs.declared.program.Role.TheVariants.{Local}
use Rattle.soda_words.specs.IntType.{int32}
use Rattle.soda_ir.specs.Counts.{border_reads, count_below, formula_in, formula_reads}
use Rattle.soda_ir.specs.Counts.{is_input, is_input_role, is_output, live_count, output_number, tensor_reads}
use Rattle.soda_ir.specs.Formula.{by_formula}
use Rattle.soda_ir.specs.Program.{PlainProgram, PlainTensor, extents_at, preserves}
use Rattle.soda_ir.specs.Valid.{IsSound}
use Rattle.soda_ir.proofs.CallerLemmas.{count_rises, input_bare}
use Rattle.time_stages.specs.declared.staging.StagedTensor.{StagedTensor}
use Rattle.time_stages.specs.Staged.{in_order, number_read, read_by, read_order, reads_of, staged_reads, staged_tensors, staged_widths, type_of}
use Rattle.time_stages.proofs.CallerLemmas.{get_at, no_input_output, place_within, reads_by_it, tensors_counted}
use Rattle.net_build.specs.Planned.{kind_of, plan_of}

abbrev some_stage : StagedTensor
some_stage = record { turn = 0; tensor = 0; low = []; high = [] }

none_kept : (b : Bool) (r : Read) (rs : List Read) → cond b (r ∷ rs) rs ≡ [] → (b ≡ false) × (rs ≡ [])
none_kept true r rs e = absurd (cc)
none_kept false r rs e = (refl, e)

-- a test that keeps nothing fails everywhere
kept_none : (f : Read → Bool) (rs : List Read) → filter f rs ≡ [] → (k : ℕ) (d : Read) → k < length rs → f (get_or rs k d) ≡ false
kept_none f [] e k d lt = absurd (omega arith)
kept_none f (r ∷ rs) e zero d lt = (none_kept (f r) r (filter f rs) e).0
kept_none f (r ∷ rs) e (suc k) d lt = kept_none f rs (none_kept (f r) r (filter f rs) e).1 k d (omega arith)

-- what a kind is by its two tests
is_by : (a b : Bool) → (if a then Input else (if b then Output else Inner)) ≡ Input → a ≡ true
is_by true b e = refl
is_by false true e = absurd (cc)
is_by false false e = absurd (cc)

pub widths_length : (p : PlainProgram) → length (staged_widths p) ≡ length (staged_tensors p)
unfolding staged_widths
widths_length p = length-map (staged_tensors p) (λ s. (type_of p s.tensor).bits)

pub kinds_length : (p : PlainProgram) → length (map (kind_of p) (staged_tensors p)) ≡ length (staged_tensors p)
kinds_length p = length-map (staged_tensors p) (kind_of p)

module _ (p : PlainProgram) (sound : IsSound p) where
  -- an input reads nothing
  input_reads : (x : ℕ) → is_input p x ≡ true → tensor_reads p x ≡ []
  input_reads x e =
      let none : formula_in p x ≡ None = input_bare p.tensors x sound.parts.formulas e in
      let output : is_output p x ≡ false = false_from_ne_true (is_output p x) (λ h. no_input_output p.tensors x e h) in
      ap (λ f. by_formula f [] (formula_reads (extents_at p 1)) ++ border_reads p x) none
      ∙ ap (λ b. if preserves p && b then record { of = output_number p x; offset = pos 0 } ∷ [] else []) output
      ∙ no_border (preserves p)
    where
      no_border : (b : Bool) → ◌≡◌ {A = List Reading} (if b && false then record { of = output_number p x; offset = pos 0 } ∷ [] else []) []
      no_border true = refl
      no_border false = refl

  staged_input_reads : (ts : List StagedTensor) (s : StagedTensor) → is_input p s.tensor ≡ true → reads_of p ts s ≡ []
  unfolding reads_of
  staged_input_reads ts s e =
      ap (λ (rs : List Reading). in_order read_order (map (λ r. record { of = number_read p ts s.turn r.of; offset = r.offset }) rs)) (input_reads s.tensor e)

  -- no reader is an input
  reader_kind : (k : ℕ) (d : Read) → k < length (staged_reads p) → (get_or (staged_reads p) k d).reader < length (staged_tensors p)
      → kind_at (plan_of p []) (get_or (staged_reads p) k d).reader ≢ Input
  reader_kind k d lt within e =
      let ts = staged_tensors p in
      let v = (get_or (staged_reads p) k d).reader in
      let s = get_or ts v some_stage in
      let there : slice_get ts v ≡ Some s = get_at ts v some_stage within in
      let is : kind_of p s ≡ Input = sym (get_or-map (kind_of p) ts v some_stage Inner within) ∙ e in
      let input : is_input p s.tensor ≡ true = is_by (is_input p s.tensor) (is_output p s.tensor && s.turn == p.iterate) is in
      let none : filter (λ (r : Read). r.reader == v) (staged_reads p) ≡ [] = reads_by_it p v s there ∙ ap (map (read_by v)) (staged_input_reads ts s input) in
      false≢true (sym (kept_none (λ (r : Read). r.reader == v) (staged_reads p) none k d lt) ∙ eq-eqb v v refl)

  pub plan_is : (delays : List ℕ) → IsNet (staged_widths p) (staged_reads p) → IsPlan (plan_of p delays)
  plan_is delays net = record {
    lanes = sound.limits.some_lanes;
    of = λ k d lt. (net.order k d lt).0;
    reader = λ k d lt. let h = (net.order k d lt).1 in omega (arith, h, widths_length p, kinds_length p);
    inputs = λ k d lt. let h = (net.order k d lt).1 in reader_kind k d lt (omega (arith, h, widths_length p));
  }

  -- an input is staged
  input_counted : 0 < count_below (is_input p) (length p.tensors)
  input_counted =
      let d : PlainTensor = record { name = []; ty = int32; role = Local; formula = None } in
      let f : PlainTensor → Bool = λ t. is_input_role t.role in
      let y = position_or_len f p.tensors in
      let within : y < length p.tensors = place_within f p.tensors sound.ends.some_input in
      let there : slice_get p.tensors y ≡ Some (get_or p.tensors y d) = get_at p.tensors y d within in
      let input : is_input p y ≡ true = ap (λ o. elim o [ None ↦ false | Some t ↦ is_input_role t.role ]) there ∙ passes_at_first f p.tensors d within in
      omega (arith, count_rises (λ x. false) (is_input p) (length p.tensors) y (λ x e. absurd (false≢true e)) within refl input)

  pub some_staged : 0 < length (staged_tensors p)
  unfolding live_count
  some_staged = omega (arith, tensors_counted p sound, input_counted)
