-- A valid program, whose numbers fit their types, can be read back.
use Rattle.std.proofs.Common.{◌≡◌, ℕ, zero, suc, ◌+◌, ◌*◌, ◌/◌, ◌%◌, ◌^◌, ◌<◌, ◌≤◌, ◌==◌, Bool, true, false, not, ◌&&◌, nat_le, nat_lt, List, [], ◌∷◌, ◌++◌, length, Option, Some, None, slice_get, ℤ, unsigned_abs, refl, sym, ap, ◌∙◌, arith, codes, if◌then◌else◌, leb-true, ltb-true, lt-ltb}
use Rattle.std.specs.Fmt.{decimal}
use Rattle.std.specs.List.{list_all, list_any}
use Rattle.std.proofs.lemmas.Bool.Decides.{nat_tests}
use Rattle.std.proofs.lemmas.Fmt.{digits_decimal, length-decimal-le}
use Rattle.std.proofs.lemmas.List.Sums.{sum_by-cons}
use Rattle.std.proofs.lemmas.Nat.{mul-le}
use Rattle.std.proofs.lemmas.Option.{same_Some}
use Rattle.std.proofs.lemmas.Bool.{and_from, and_parts}
use Rattle.soda_words.specs.IntType.{IntType, IsType}
use Rattle.soda_ir.specs.Formula.{Formula, number, read, param, unary, binary, choice, cast}
use Rattle.soda_ir.specs.Points.{size}
use Rattle.soda_ir.specs.Program.{PlainParam, PlainProgram, PlainTensor}
use Rattle.soda_ir.specs.Uses.{each_use, is_good_cell, is_good_place, is_near}
use Rattle.soda_ir.specs.Valid.{IsValid, KeepsLimits, are_free_names, has_good_uses, is_good_param, names_of, value_count}
use Rattle.soda_words.proofs.CallerLemmas.{digits_words, own}
use Rattle.soda_words.specs.Names.{is_free_name, is_name, is_reserved, is_word}
use Rattle.soda_words.specs.Tokens.{tokens_of}
use Rattle.soda_print.specs.Canonical.{canonical, indexes, tensor_name, type_text}
use Rattle.soda_print.specs.Sized.{AreSizedParams, AreSizedTensors, IsSized, IsSizedProgram}
use Rattle.soda_print.proofs.Tokens.{are_word_bytes}
use Rattle.soda_print.proofs.Tokenized.{AreSmall, AreWords, IsValueThere, IsWritable}
use Rattle.soda_print.proofs.Read.{AreParams, AreSettings, AreTensors, IsBody, IsParam, IsReadBack, IsTensor, canonical_lex, canonical_tokens, placed_lines}

word_named : (s : Bool) (ds : List ℕ) → are_word_bytes ds ≡ true → length ds ≤ 2 → is_name ((if s then codes "int" else codes "uint") ++ ds) ≡ true
word_named true ds h lt = and_from (are_word_bytes ds) (nat_lt (length (110 ∷ 116 ∷ ds)) 64) h (lt-ltb (length (110 ∷ 116 ∷ ds)) 64 (omega arith))
word_named false ds h lt =
    and_from (are_word_bytes ds) (nat_lt (length (105 ∷ 110 ∷ 116 ∷ ds)) 64) h (lt-ltb (length (105 ∷ 110 ∷ 116 ∷ ds)) 64 (omega arith))

type_named : (t : IntType) → IsType t → is_name (type_text t) ≡ true
unfolding type_text
type_named t h =
    let small : t.bits < 2 ^ 64 = omega (arith, h.most) in
    word_named t.signed (decimal t.bits) (digits_words (decimal t.bits) (digits_decimal own t.bits small))
    (length-decimal-le 2 t.bits (omega arith) (omega (arith, h.most)) small)

-- sizes
abbrev pub nonzero : ℕ → Bool
nonzero n = not (n == 0)

-- what is not 0 is 1 or more
pub some : (n : ℕ) → nonzero n ≡ true → 1 ≤ n
some n h = grind (arith, nat_tests)

-- the product of sizes that are not 0 is not 0
pub positive : (ns : List ℕ) → list_all nonzero ns ≡ true → 1 ≤ size ns
positive [] h = omega arith
positive (n ∷ ns) h =
    let one : 1 ≤ n = some n ((and_parts (nonzero n) (list_all nonzero ns) h).0) in
    let more : 1 ≤ size ns = positive ns ((and_parts (nonzero n) (list_all nonzero ns) h).1) in
    let all : 1 * 1 ≤ n * size ns = mul-le 1 1 n (size ns) one more in
    omega arith

are_words : (ns : List ℕ) → list_all nonzero ns ≡ true → size ns < 2 ^ 64 → AreWords ns
are_words [] h lt = tt
are_words (n ∷ ns) h lt =
    let one : 1 ≤ n = some n ((and_parts (nonzero n) (list_all nonzero ns) h).0) in
    let rest : list_all nonzero ns ≡ true = (and_parts (nonzero n) (list_all nonzero ns) h).1 in
    let more : 1 ≤ size ns = positive ns rest in
    let here : n * 1 ≤ n * size ns = mul-le n 1 n (size ns) (omega arith) more in
    let there : 1 * size ns ≤ n * size ns = mul-le 1 (size ns) n (size ns) one (omega arith) in
    (omega arith, are_words ns rest (omega arith))

two_words : (zero_m : Bool) (i m : ℕ) → zero_m ≡ (m == 0) → i < 2 ^ 64 → AreWords (if zero_m then [] else i / m ∷ i % m ∷ [])
two_words true i m e lt = tt
two_words false i m e lt =
    let one : 1 ≤ m = some m (ap not (sym e)) in
    let q : 1 * (i / m) ≤ m * (i / m) = mul-le 1 (i / m) m (i / m) one (omega arith) in
    (omega arith, (omega arith, tt))

index_words : (ns : List ℕ) (i : ℕ) → i < 2 ^ 64 → AreWords (indexes ns i)
index_words [] i lt = tt
index_words (n ∷ []) i lt = (lt, tt)
index_words (n ∷ m ∷ ns) i lt = two_words (m == 0) i m refl lt

bound : (n : ℕ) → nat_le n 32768 ≡ true → n < 2 ^ 64
bound n h =
    let small : n ≤ 32768 = leb-true n 32768 h in
    omega arith

near_small : (ds : List ℤ) → is_near ds ≡ true → AreSmall ds
near_small [] h = tt
near_small (d ∷ ds) h =
    let one : nat_le (unsigned_abs d) 32768 ≡ true = (and_parts (nat_le (unsigned_abs d) 32768) (is_near ds) h).0 in
    (bound (unsigned_abs d) one, near_small ds ((and_parts (nat_le (unsigned_abs d) 32768) (is_near ds) h).1))

-- names
free_named : (ws : List (List ℕ)) → are_free_names ws ≡ true → list_all is_name ws ≡ true
free_named [] h = refl
free_named (w ∷ ws) h =
    let lead : (is_free_name w && not (list_any (is_word w) ws)) ≡ true =
    (and_parts (is_free_name w && not (list_any (is_word w) ws)) (are_free_names ws) h).0 in
    let free : is_free_name w ≡ true = (and_parts (is_free_name w) (not (list_any (is_word w) ws)) lead).0 in
    and_from (is_name w) (list_all is_name ws) ((and_parts (is_name w) (not (is_reserved w)) free).0)
    (free_named ws ((and_parts (is_free_name w && not (list_any (is_word w) ws)) (are_free_names ws) h).1))

named_params : (qs : List PlainParam) (ts : List PlainTensor) → list_all is_name (names_of qs ts) ≡ true → list_all (λ q. is_name q.name) qs ≡ true
named_params [] ts h = refl
named_params (q ∷ qs) ts h =
    and_from (is_name q.name) (list_all (λ r. is_name r.name) qs) ((and_parts (is_name q.name) (list_all is_name (names_of qs ts)) h).0)
    (named_params qs ts ((and_parts (is_name q.name) (list_all is_name (names_of qs ts)) h).1))

named_tensors : (qs : List PlainParam) (ts : List PlainTensor) → list_all is_name (names_of qs ts) ≡ true → list_all (λ t. is_name t.name) ts ≡ true
named_tensors [] [] h = refl
named_tensors [] (t ∷ ts) h =
    and_from (is_name t.name) (list_all (λ u. is_name u.name) ts) ((and_parts (is_name t.name) (list_all is_name (names_of [] ts)) h).0)
    (named_tensors [] ts ((and_parts (is_name t.name) (list_all is_name (names_of [] ts)) h).1))
named_tensors (q ∷ qs) ts h = named_tensors qs ts ((and_parts (is_name q.name) (list_all is_name (names_of qs ts)) h).1)

abbrev name_at : Option PlainTensor → List ℕ
name_at o = elim o [ None ↦ [] | Some t ↦ t.name ]

name_there : (ts : List PlainTensor) (k : ℕ) → list_all (λ t. is_name t.name) ts ≡ true → k < length ts → is_name (name_at (slice_get ts k)) ≡ true
name_there [] k h lt = absurd (omega arith)
name_there (t ∷ ts) zero h lt = (and_parts (is_name t.name) (list_all (λ u. is_name u.name) ts) h).0
name_there (t ∷ ts) (suc k) h lt =
    name_there ts k ((and_parts (is_name t.name) (list_all (λ u. is_name u.name) ts) h).1) (omega arith)

param_named : (qs : List PlainParam) (k : ℕ) (q : PlainParam) → slice_get qs k ≡ Some q → list_all (λ r. is_name r.name) qs ≡ true
    → is_name q.name ≡ true
param_named [] k q e h = cc
param_named (r ∷ qs) zero q e h =
    let same : r ≡ q = same_Some r q e in
    ap (λ (s : PlainParam). is_name s.name) (sym same) ∙ (and_parts (is_name r.name) (list_all (λ s. is_name s.name) qs) h).0
param_named (r ∷ qs) (suc k) q e h = param_named qs k q e ((and_parts (is_name r.name) (list_all (λ s. is_name s.name) qs) h).1)

value_by : (p : PlainProgram) (k i : ℕ) (o : Option PlainParam) → slice_get p.params k ≡ o → list_all (λ q. is_name q.name) p.params ≡ true
    → (elim o as (λ v. Bool) [ None ↦ false | Some q ↦ nat_lt i (size q.sizes) ]) ≡ true → i < 2 ^ 64 → IsValueThere p k i
value_by p k i None e n h lt = cc
value_by p k i (Some q) e n h lt = record {
  param = q;
  there = e;
  name = param_named p.params k q e n;
  small = index_words q.sizes i lt;
}

value_there : (p : PlainProgram) (k i : ℕ) → list_all (λ q. is_name q.name) p.params ≡ true → is_good_place p k i ≡ true → i < 2 ^ 64
    → IsValueThere p k i
value_there p k i n h lt = value_by p k i (slice_get p.params k) refl n h lt

-- what a formula names is good, and its numbers fit
writable : (p : PlainProgram) (f : Formula) → list_all (λ q. is_name q.name) p.params ≡ true → list_all (λ t. is_name t.name) p.tensors ≡ true
    → each_use (is_good_cell p) (is_good_place p) f ≡ true → IsSized f → ((k i : ℕ) → is_good_place p k i ≡ true → i < 2 ^ 64) → IsWritable p f
unfolding tensor_name
writable p (number n) qs ts u s small = s
writable p (read t o) qs ts u s small =
    let both_first : (nat_lt t (length p.tensors) && length o == suc (length p.extents)) ≡ true =
    (and_parts (nat_lt t (length p.tensors) && length o == suc (length p.extents)) (is_near o) u).0 in
    let there : t < length p.tensors = ltb-true t (length p.tensors)
    ((and_parts (nat_lt t (length p.tensors)) (length o == suc (length p.extents)) both_first).0) in
    (name_there p.tensors t ts there, near_small o ((and_parts (nat_lt t (length p.tensors) && length o == suc (length p.extents)) (is_near o) u).1))
writable p (param k i) qs ts u s small = value_there p k i qs u (small k i u)
writable p (unary op a) qs ts u s small = writable p a qs ts u s small
writable p (binary op a b) qs ts u s small =
    let e : Formula → Bool = each_use (is_good_cell p) (is_good_place p) in
    (writable p a qs ts ((and_parts (e a) (e b) u).0) s.0 small, writable p b qs ts ((and_parts (e a) (e b) u).1) s.1 small)
writable p (choice c a b) qs ts u s small =
    let e : Formula → Bool = each_use (is_good_cell p) (is_good_place p) in
    let l : (e c && e a) ≡ true = (and_parts (e c && e a) (e b) u).0 in (
      writable p c qs ts ((and_parts (e c) (e a) l).0) s.0 small,
      writable p a qs ts ((and_parts (e c) (e a) l).1) s.1 small,
      writable p b qs ts
          ((and_parts (e c && e a) (e b) u).1) s.2 small,
    )
writable p (cast t a) qs ts u s small = (type_named t s.0, writable p a qs ts u s.1 small)

-- the values of one param and of those after it
pub count_cons : (q : PlainParam) (qs : List PlainParam) → value_count (q ∷ qs) ≡ size q.sizes + value_count qs
count_cons q qs = sum_by-cons (λ (r : PlainParam). size r.sizes) q qs

-- a param has no more values than all params together
pub count_there : (qs : List PlainParam) (k : ℕ) (q : PlainParam) → slice_get qs k ≡ Some q → size q.sizes ≤ value_count qs
count_there [] k q e = cc
count_there (r ∷ qs) zero q e =
    let same : size r.sizes ≡ size q.sizes = ap (λ (s : PlainParam). size s.sizes) (same_Some r q e) in
    let all : value_count (r ∷ qs) ≡ size r.sizes + value_count qs = count_cons r qs in
    omega arith
count_there (r ∷ qs) (suc k) q e =
    let below : size q.sizes ≤ value_count qs = count_there qs k q e in
    let all : value_count (r ∷ qs) ≡ size r.sizes + value_count qs = count_cons r qs in
    omega arith

place_by : (qs : List PlainParam) (k i : ℕ) (o : Option PlainParam) → slice_get qs k ≡ o → value_count qs ≤ 65536
    → (elim o as (λ v. Bool) [ None ↦ false | Some q ↦ nat_lt i (size q.sizes) ]) ≡ true → i < 2 ^ 64
place_by qs k i None e few h = cc
place_by qs k i (Some q) e few h =
    let lt : i < size q.sizes = ltb-true i (size q.sizes) h in
    let le : size q.sizes ≤ value_count qs = count_there qs k q e in
    omega arith

place_small : (p : PlainProgram) → value_count p.params ≤ 65536 → (k i : ℕ) → is_good_place p k i ≡ true → i < 2 ^ 64
place_small p few k i h = place_by p.params k i (slice_get p.params k) refl few h

params_read : (qs : List PlainParam) → AreSizedParams qs → list_all (λ q. is_name q.name) qs ≡ true → list_all is_good_param qs ≡ true
    → value_count qs ≤ 65536 → AreParams qs
params_read [] s n g few = tt
params_read (q ∷ qs) s n g few =
    let all : value_count (q ∷ qs) ≡ size q.sizes + value_count qs = count_cons q qs in
    let good : is_good_param q ≡ true = (and_parts (is_good_param q) (list_all is_good_param qs) g).0 in
    let sizes : list_all nonzero q.sizes ≡ true = (and_parts (nat_le (length q.sizes) 2) (list_all nonzero q.sizes) good).1 in
    let one : IsParam q = record {
      ty = type_named q.ty s.0;
      name =
          (and_parts (is_name q.name) (list_all (λ r. is_name r.name) qs) n).0;
      sizes = are_words q.sizes sizes (omega arith);
    } in (
      one,
      params_read qs s.1 ((and_parts (is_name q.name) (list_all (λ r. is_name r.name) qs) n).1)
          ((and_parts (is_good_param q) (list_all is_good_param qs) g).1) (omega arith),
    )

-- what all formulas of a program may take for granted
record IsScope (p : PlainProgram) : Type 0 where
  params : list_all (λ q. is_name q.name) p.params ≡ true
  tensors : list_all (λ t. is_name t.name) p.tensors ≡ true
  places : (k i : ℕ) → is_good_place p k i ≡ true → i < 2 ^ 64
  extents : AreWords p.extents

body_read : (p : PlainProgram) (o : Option Formula) → IsScope p
    → (elim o as (λ v. Bool) [ None ↦ true | Some f ↦ each_use (is_good_cell p) (is_good_place p) f ]) ≡ true
    → (elim o as (λ v. Type 0) [ None ↦ Unit {0} | Some f ↦ IsSized f ]) → IsBody p o
body_read p None h u s = h.extents
body_read p (Some f) h u s = writable p f h.params h.tensors u s h.places

tensors_read : (p : PlainProgram) (ts : List PlainTensor) → IsScope p → AreSizedTensors ts → list_all (λ t. is_name t.name) ts ≡ true
    → list_all (has_good_uses p) ts ≡ true → AreTensors p ts
tensors_read p [] h s n u = tt
tensors_read p (t ∷ ts) h s n u =
    let one : IsTensor p t = record {
      ty = type_named t.ty s.0.0;
      name =
          (and_parts (is_name t.name) (list_all (λ v. is_name v.name) ts) n).0;
      body = body_read p t.formula h
          ((and_parts (has_good_uses p t) (list_all (has_good_uses p) ts) u).0) s.0.1;
    } in (
      one,
      tensors_read p ts h s.1 ((and_parts (is_name t.name) (list_all (λ v. is_name v.name) ts) n).1)
          ((and_parts (has_good_uses p t) (list_all (has_good_uses p) ts) u).1),
    )

-- a valid program whose numbers fit their types can be read back
pub readable : (p : PlainProgram) → IsValid p → IsSizedProgram p → IsReadBack p
readable p v s =
    let limits : KeepsLimits p = v.sound.limits in
    let names : list_all is_name (names_of p.params p.tensors) ≡ true = free_named (names_of p.params p.tensors) v.sound.parts.names in
    let of_params : list_all (λ q. is_name q.name) p.params ≡ true = named_params p.params p.tensors names in
    let of_tensors : list_all (λ t. is_name t.name) p.tensors ≡ true = named_tensors p.params p.tensors names in
    let extents : AreWords p.extents = are_words p.extents limits.extents (omega (arith, limits.small_tile)) in
    let scope : IsScope p = record { params = of_params; tensors = of_tensors; places = place_small p limits.few_values; extents = extents } in
    let settings : AreSettings p = record {
      kernel = v.sound.parts.kernel;
      burst = omega (arith, limits.most_burst);
      unroll = omega
          (arith, limits.few_lanes);
      iterate = omega (arith, limits.few_iterations);
    } in
    record {
      settings = settings;
      params = params_read p.params s.params of_params v.sound.parts.params limits.few_values;
      tensors = tensors_read p p.tensors scope s.tensors of_tensors v.sound.parts.uses;
    }

-- the canonical text of such a program has these tokens
pub canonical_read : (p : PlainProgram) → IsValid p → IsSizedProgram p → tokens_of (canonical p) ≡ placed_lines 1 (canonical_tokens p)
canonical_read p v s = canonical_lex p (readable p v s)
