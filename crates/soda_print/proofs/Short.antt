-- The canonical text of a valid program is no longer than a text may be.
use Rattle.std.proofs.Common.{◌≡◌, ℕ, suc, ◌+◌, ◌*◌, ◌<◌, ◌≤◌, ◌^◌, ◌==◌, ◌&&◌, Bool, true, false, not, nat_le, nat_lt, List, [], ◌∷◌, ◌++◌, length, map, Some, None, Option, ℤ, pos, negsuc, unsigned_abs, refl, ap, arith, codes, length-append, if◌then◌else◌, leb-true, ltb-true}
use Rattle.std.specs.Fmt.{decimal, signed_decimal}
use Rattle.std.specs.List.{list_all}
use Rattle.std.proofs.lemmas.Bool.Decides.{nat_tests}
use Rattle.std.proofs.lemmas.List.Sums.{sum_by-cons}
use Rattle.std.proofs.lemmas.Bool.{and_parts}
use Rattle.soda_words.specs.IntType.{IntType}
use Rattle.soda_words.specs.declared.operators.UnOp.{UnOp}
use Rattle.soda_words.specs.declared.operators.UnOp.TheVariants.{Plus, Minus, Flip, Not, Abs}
use Rattle.soda_words.specs.declared.operators.BinOp.{BinOp}
use Rattle.soda_words.specs.declared.operators.BinOp.TheVariants.{LogOr, LogAnd, BitOr, BitXor, BitAnd, Eq, Ne, Lt, Le, Gt, Ge, Add, Sub, Mul, Div, Rem, Min, Max}
use Rattle.soda_ir.specs.Formula.{Formula, number, read, param, unary, binary, choice, cast}
use Rattle.soda_ir.specs.Points.{size}
use Rattle.soda_ir.specs.Program.{PlainParam, PlainProgram, PlainTensor}
use Rattle.soda_ir.specs.Valid.{IsValid, is_good_param, is_small, value_count}
use Rattle.soda_ir.specs.Written.{index_count, left_pairs, most_open, operand_pairs, right_pairs, token_count}
use Rattle.soda_ir.specs.declared.program.Border.{Border}
use Rattle.soda_ir.specs.declared.program.Border.TheVariants.{Ignore, Preserve}
use Rattle.soda_ir.specs.declared.program.Role.{Role}
use Rattle.soda_ir.specs.declared.program.Role.TheVariants.{Input, Local, Output}
use Rattle.soda_words.specs.Names.{begins_name, is_name, is_word_byte}
use Rattle.soda_words.proofs.CallerLemmas.{number_short}
use Rattle.soda_print.specs.Canonical.{behind_commas, binary_text, border_word, canonical, ended, formula_text, headed, in_pairs, indexes, indexes_text, left_text, listed, param_line, parted, role_word, setting_lines, tensor_line, tensor_name, tile_text, type_text, unary_text, value_text}
use Rattle.soda_print.specs.Sized.{IsSizedProgram}
use Rattle.soda_print.proofs.Read.{AreParams, AreSettings, AreTensors, IsBody, IsReadBack}
use Rattle.soda_print.proofs.Readable.{positive, readable}
use Rattle.soda_print.proofs.Tokenized.{AreSmall, AreWords, IsValueThere, IsWritable, value_is}

-- a name has at most 64 bytes
name_short : (w : List ℕ) → is_name w ≡ true → length w ≤ 64
name_short [] h = cc
name_short (b ∷ bs) h =
    let less : length bs < 64 = ltb-true (length bs) 64 ((and_parts (begins_name b && list_all is_word_byte bs) (nat_lt (length bs) 64) h).1) in
    omega arith

component_short : (d : ℤ) → unsigned_abs d < 2 ^ 64 → length (signed_decimal d) ≤ 21
component_short (pos n) h = let few : length (decimal n) ≤ 20 = number_short n h in omega arith
component_short (negsuc n) h = let few : length (decimal (suc n)) ≤ 20 = number_short (suc n) h in omega arith

commas_short : (ds : List ℤ) → AreSmall ds → length (behind_commas (map signed_decimal ds)) ≤ 23 * length ds
commas_short [] h = omega arith
commas_short (d ∷ ds) h =
    omega (arith, length-append (signed_decimal d) (behind_commas (map signed_decimal ds)), component_short d h.0, commas_short ds h.1)

offsets_short : (ds : List ℤ) → AreSmall ds → length (listed (map signed_decimal ds)) ≤ 2 + 23 * length ds
offsets_short [] h = omega arith
offsets_short (d ∷ ds) h =
    let more : length (behind_commas (map signed_decimal ds)) ≤ 23 * length ds = commas_short ds h.1 in
    omega (
      arith,
      length-append (signed_decimal d ++ behind_commas (map signed_decimal ds)) (codes ")"),
      length-append (signed_decimal d)
          (behind_commas (map signed_decimal ds)),
      component_short d h.0,
    )

indexes_short : (is : List ℕ) → AreWords is → length (indexes_text is) ≤ 22 * length is
indexes_short [] h = omega arith
indexes_short (i ∷ is) h =
    let few : length (decimal i) ≤ 20 = number_short i h.0 in
    omega (
      arith,
      length-append (codes "[" ++ (decimal i ++ codes "]")) (indexes_text is),
      length-append (decimal i)
          (codes "]"),
      indexes_short is h.1,
    )

few_by : (z : Bool) (i j n : ℕ) → 2 ≤ n → length (if z then [] else i ∷ j ∷ []) ≤ n
few_by true i j n h = omega arith
few_by false i j n h = omega arith

-- a place has no more indexes than its param has sizes
pub few_indexes : (ns : List ℕ) (i : ℕ) → length (indexes ns i) ≤ length ns
few_indexes [] i = omega arith
few_indexes (n ∷ []) i = omega arith
few_indexes (n ∷ m ∷ ns) i = few_by (m == 0) _ _ (length (n ∷ m ∷ ns)) (omega arith)

abbrev count_by : Option PlainParam → ℕ
count_by r = elim r as (λ (x : Option PlainParam). ℕ) [ None ↦ 0 | Some q ↦ length q.sizes ]

value_short : (p : PlainProgram) (k i : ℕ) → IsValueThere p k i → length (value_text p k i) ≤ 64 * (1 + 3 * index_count p k)
value_short p k i h =
    let is : length (value_text p k i) ≡ length (h.param.name ++ indexes_text (indexes h.param.sizes i)) = ap (λ (w : List ℕ). length w)
    (value_is p k i h.param h.there) in
    let many : index_count p k ≡ length h.param.sizes = ap count_by h.there in
    omega (
      arith,
      is,
      many,
      length-append h.param.name (indexes_text (indexes h.param.sizes i)),
      name_short h.param.name h.name,
      indexes_short
          (indexes h.param.sizes i) h.small,
      few_indexes h.param.sizes i,
    )

pair_short : (z : Bool) (pairs : ℕ) (w : List ℕ) → (z ≡ false → 1 ≤ pairs)
    → length ((if z then [] else codes "(") ++ (w ++ (if z then [] else codes ")"))) ≤ 2 * pairs + length w
pair_short true pairs w h = omega (arith, length-append w [])
pair_short false pairs w h = let one : 1 ≤ pairs = h refl in omega (arith, length-append w (codes ")"))

some_pairs : (pairs : ℕ) → (pairs == 0) ≡ false → 1 ≤ pairs
some_pairs pairs e = grind (arith, nat_tests)

in_pairs_short : (pairs : ℕ) (w : List ℕ) → length (in_pairs pairs w) ≤ 2 * pairs + length w
in_pairs_short pairs w = pair_short (pairs == 0) pairs w (some_pairs pairs)

one_listed : (a : List ℕ) → length (listed (a ∷ [])) ≡ 2 + length a
one_listed a = omega (arith, length-append (a ++ []) (codes ")"), length-append a [])

two_listed : (a b : List ℕ) → length (listed (a ∷ b ∷ [])) ≡ 4 + length a + length b
two_listed a b =
    omega (arith, length-append (a ++ behind_commas (b ∷ [])) (codes ")"), length-append a (behind_commas (b ∷ [])), length-append b [])

three_listed : (a b c : List ℕ) → length (listed (a ∷ b ∷ c ∷ [])) ≡ 6 + length a + length b + length c
three_listed a b c =
    omega (
      arith,
      length-append (a ++ behind_commas (b ∷ c ∷ [])) (codes ")"),
      length-append a (behind_commas (b ∷ c ∷ [])),
      length-append b
          (behind_commas (c ∷ [])),
      length-append c [],
    )

between_short : (l r : ℕ) (word a b : List ℕ) → length word ≤ 2
    → length (in_pairs l a ++ (codes " " ++ (word ++ (codes " " ++ in_pairs r b)))) ≤ 4 + (2 * l + length a) + (2 * r + length b)
between_short l r word a b h =
    omega (
      arith,
      length-append (in_pairs l a) (codes " " ++ (word ++ (codes " " ++ in_pairs r b))),
      length-append word
          (codes " " ++ in_pairs r b),
      in_pairs_short l a,
      in_pairs_short r b,
    )

binary_short : (p : PlainProgram) (op : BinOp) (f g : Formula) (v w : List ℕ) → length v ≤ 64 * token_count p f → length w ≤ 64 * token_count p g
    → length (binary_text op (left_pairs op f) (right_pairs op g) v w) ≤ 64 * token_count p (binary op f g)
unfolding binary_text
binary_short p LogOr f g v w h k = omega (arith, between_short (left_pairs LogOr f) (right_pairs LogOr g) (codes "||") v w (omega arith))
binary_short p LogAnd f g v w h k = omega (arith, between_short (left_pairs LogAnd f) (right_pairs LogAnd g) (codes "&&") v w (omega arith))
binary_short p BitOr f g v w h k = omega (arith, between_short (left_pairs BitOr f) (right_pairs BitOr g) (codes "|") v w (omega arith))
binary_short p BitXor f g v w h k = omega (arith, between_short (left_pairs BitXor f) (right_pairs BitXor g) (codes "^") v w (omega arith))
binary_short p BitAnd f g v w h k = omega (arith, between_short (left_pairs BitAnd f) (right_pairs BitAnd g) (codes "&") v w (omega arith))
binary_short p Eq f g v w h k = omega (arith, between_short (left_pairs Eq f) (right_pairs Eq g) (codes "==") v w (omega arith))
binary_short p Ne f g v w h k = omega (arith, between_short (left_pairs Ne f) (right_pairs Ne g) (codes "!=") v w (omega arith))
binary_short p Lt f g v w h k = omega (arith, between_short (left_pairs Lt f) (right_pairs Lt g) (codes "<") v w (omega arith))
binary_short p Le f g v w h k = omega (arith, between_short (left_pairs Le f) (right_pairs Le g) (codes "<=") v w (omega arith))
binary_short p Gt f g v w h k = omega (arith, between_short (left_pairs Gt f) (right_pairs Gt g) (codes ">") v w (omega arith))
binary_short p Ge f g v w h k = omega (arith, between_short (left_pairs Ge f) (right_pairs Ge g) (codes ">=") v w (omega arith))
binary_short p Add f g v w h k = omega (arith, between_short (left_pairs Add f) (right_pairs Add g) (codes "+") v w (omega arith))
binary_short p Sub f g v w h k = omega (arith, between_short (left_pairs Sub f) (right_pairs Sub g) (codes "-") v w (omega arith))
binary_short p Mul f g v w h k = omega (arith, between_short (left_pairs Mul f) (right_pairs Mul g) (codes "*") v w (omega arith))
binary_short p Div f g v w h k = omega (arith, between_short (left_pairs Div f) (right_pairs Div g) (codes "/") v w (omega arith))
binary_short p Rem f g v w h k = omega (arith, between_short (left_pairs Rem f) (right_pairs Rem g) (codes "%") v w (omega arith))
binary_short p Min f g v w h k = omega (arith, two_listed v w)
binary_short p Max f g v w h k = omega (arith, two_listed v w)

unary_short : (p : PlainProgram) (op : UnOp) (f : Formula) (v : List ℕ) → length v ≤ 64 * token_count p f
    → length (unary_text op (operand_pairs op f) v) ≤ 64 * token_count p (unary op f)
unfolding unary_text
unary_short p Plus f v h = omega (arith, in_pairs_short (operand_pairs Plus f) v)
unary_short p Minus f v h = omega (arith, in_pairs_short (operand_pairs Minus f) v)
unary_short p Flip f v h = omega (arith, in_pairs_short (operand_pairs Flip f) v)
unary_short p Not f v h = omega (arith, in_pairs_short (operand_pairs Not f) v)
unary_short p Abs f v h = omega (arith, one_listed v)

-- a formula has at most 64 bytes for each of its tokens
formula_short : (p : PlainProgram) (f : Formula) → IsWritable p f → length (formula_text p f) ≤ 64 * token_count p f
formula_short p (number n) h = let few : length (decimal n) ≤ 20 = number_short n h in omega arith
formula_short p (read t o) h =
    omega (arith, length-append (tensor_name p t) (listed (map signed_decimal o)), name_short (tensor_name p t) h.0, offsets_short o h.1)
formula_short p (param k i) h = value_short p k i h
formula_short p (unary op a) h = unary_short p op a (formula_text p a) (formula_short p a h)
formula_short p (binary op a b) h =
    binary_short p op a b (formula_text p a) (formula_text p b) (formula_short p a h.0) (formula_short p b h.1)
formula_short p (choice c a b) h =
    omega (
      arith,
      three_listed (formula_text p c) (formula_text p a)
          (formula_text p b),
      formula_short p c h.0,
      formula_short p a h.1,
      formula_short p b h.2,
    )
formula_short p (cast t a) h =
    omega (
      arith,
      length-append (type_text t) (listed (formula_text p a ∷ [])),
      one_listed (formula_text p a),
      name_short
          (type_text t) h.0,
      formula_short p a h.1,
    )

-- lines
head_short : (word : List ℕ) (ty : IntType) (name : List ℕ) → length word ≤ 6 → is_name (type_text ty) ≡ true → is_name name ≡ true
    → length (headed word ty name) ≤ 137
head_short word ty name h k n =
    omega (
      arith,
      length-append word (codes " " ++ (type_text ty ++ (codes ": " ++ name))),
      length-append (type_text ty)
          (codes ": " ++ name),
      name_short (type_text ty) k,
      name_short name n,
    )

tile_commas : (ns : List ℕ) → AreWords ns → length (behind_commas (map decimal ns ++ codes "*" ∷ [])) ≤ 3 + 22 * length ns
tile_commas [] h = omega arith
tile_commas (n ∷ ns) h =
    let few : length (decimal n) ≤ 20 = number_short n h.0 in
    omega (arith, length-append (decimal n) (behind_commas (map decimal ns ++ codes "*" ∷ [])), tile_commas ns h.1)

tile_parts : (ns : List ℕ) → AreWords ns → length (parted (map decimal ns ++ codes "*" ∷ [])) ≤ 3 + 22 * length ns
tile_parts [] h = omega arith
tile_parts (n ∷ ns) h =
    let few : length (decimal n) ≤ 20 = number_short n h.0 in
    omega (arith, length-append (decimal n) (behind_commas (map decimal ns ++ codes "*" ∷ [])), tile_commas ns h.1)

zero_commas : (ns : List ℕ) → length (behind_commas (map (λ n. codes "0") ns ++ codes "0" ∷ [])) ≤ 3 + 3 * length ns
zero_commas [] = omega arith
zero_commas (n ∷ ns) = omega (arith, zero_commas ns)

zero_parts : (ns : List ℕ) → length (parted (map (λ n. codes "0") ns ++ codes "0" ∷ [])) ≤ 3 + 3 * length ns
zero_parts [] = omega arith
zero_parts (n ∷ ns) = omega (arith, zero_commas ns)

tile_short : (p : PlainProgram) → AreWords p.extents → length p.extents ≤ 3 → length (tile_text p) ≤ 71
tile_short p h few =
    omega (arith, length-append (parted (map decimal p.extents ++ codes "*" ∷ [])) (codes ")"), tile_parts p.extents h)

left_short : (p : PlainProgram) → length p.extents ≤ 3 → length (left_text p) ≤ 14
left_short p few =
    omega (arith, length-append (parted (map (λ n. codes "0") p.extents ++ codes "0" ∷ [])) (codes ")"), zero_parts p.extents)

abbrev small_by : PlainProgram → Option Formula → Bool
small_by p o = elim o as (λ v. Bool) [ None ↦ true | Some f ↦ nat_le (token_count p f) 1500 && nat_le (most_open p f) 64 ]

body_short : (p : PlainProgram) (o : Option Formula) → IsBody p o → length p.extents ≤ 3 → small_by p o ≡ true
    → length (elim o as (λ v. List ℕ) [ None ↦ tile_text p | Some f ↦ left_text p ++ (codes " = " ++ formula_text p f) ]) ≤ 96017
body_short p None h few s = omega (arith, tile_short p h few)
body_short p (Some f) h few s =
    let tokens : token_count p f ≤ 1500 = leb-true (token_count p f) 1500
    ((and_parts (nat_le (token_count p f) 1500) (nat_le (most_open p f) 64) s).0) in
    omega (arith, length-append (left_text p) (codes " = " ++ formula_text p f), left_short p few, formula_short p f h)

role_short : (r : Role) → length (role_word r) ≤ 6
unfolding role_word
role_short Input = omega arith
role_short Local = omega arith
role_short Output = omega arith

ended_one : (w : List ℕ) (ws : List (List ℕ)) → length (ended (w ∷ ws)) ≡ 1 + length w + length (ended ws)
ended_one w ws = omega (arith, length-append (w ++ codes "\n") (ended ws), length-append w (codes "\n"))

ended_two : (vs ws : List (List ℕ)) → length (ended (vs ++ ws)) ≡ length (ended vs) + length (ended ws)
ended_two [] ws = omega arith
ended_two (v ∷ vs) ws = omega (arith, ended_one v (vs ++ ws), ended_one v vs, ended_two vs ws)

tensors_short : (p : PlainProgram) (ts : List PlainTensor) → AreTensors p ts → length p.extents ≤ 3 → list_all (is_small p) ts ≡ true
    → length (ended (map (tensor_line p) ts)) ≤ 96155 * length ts
tensors_short p [] h few s = omega arith
tensors_short p (t ∷ ts) h few s =
    let head : length (headed (role_word t.role) t.ty t.name) ≤ 137 = head_short (role_word t.role) t.ty t.name (role_short t.role) h.0.ty h.0.name in
    let body = body_short p t.formula h.0.body few ((and_parts (is_small p t) (list_all (is_small p) ts) s).0) in
    let line : length (tensor_line p t) ≤ 96154 = omega (
      arith,
      length-append (headed (role_word t.role) t.ty t.name)
          (elim t.formula as (λ v. List ℕ) [ None ↦ tile_text p | Some f ↦ left_text p ++ (codes " = " ++ formula_text p f) ]),
    ) in
    omega (
      arith,
      ended_one (tensor_line p t) (map (tensor_line p) ts),
      tensors_short p ts h.1 few
          ((and_parts (is_small p t) (list_all (is_small p) ts) s).1),
    )

abbrev nonzero : ℕ → Bool
nonzero n = not (n == 0)

params_short : (qs : List PlainParam) → AreParams qs → list_all is_good_param qs ≡ true → length (ended (map param_line qs)) ≤ 182 * length qs
params_short [] h g = omega arith
params_short (q ∷ qs) h g =
    let good : is_good_param q ≡ true = (and_parts (is_good_param q) (list_all is_good_param qs) g).0 in
    let two : length q.sizes ≤ 2 = leb-true (length q.sizes) 2 ((and_parts (nat_le (length q.sizes) 2) (list_all nonzero q.sizes) good).0) in
    let head : length (headed (codes "param") q.ty q.name) ≤ 137 = head_short (codes "param") q.ty q.name (omega arith) h.0.ty h.0.name in
    let line : length (param_line q) ≤ 181 = omega
    (arith, length-append (headed (codes "param") q.ty q.name) (indexes_text q.sizes), indexes_short q.sizes h.0.sizes) in
    omega (arith, ended_one (param_line q) (map param_line qs), params_short qs h.1 ((and_parts (is_good_param q) (list_all is_good_param qs) g).1))

-- there are no more params than values of them
params_few : (qs : List PlainParam) → list_all is_good_param qs ≡ true → length qs ≤ value_count qs
params_few [] g = omega arith
params_few (q ∷ qs) g =
    let good : is_good_param q ≡ true = (and_parts (is_good_param q) (list_all is_good_param qs) g).0 in
    let one : 1 ≤ size q.sizes = positive q.sizes ((and_parts (nat_le (length q.sizes) 2) (list_all nonzero q.sizes) good).1) in
    let all : value_count (q ∷ qs) ≡ size q.sizes + value_count qs = sum_by-cons (λ (r : PlainParam). size r.sizes) q qs in
    omega (arith, params_few qs ((and_parts (is_good_param q) (list_all is_good_param qs) g).1))

border_short : (b : Border) → length (border_word b) ≤ 8
unfolding border_word
border_short Ignore = omega arith
border_short Preserve = omega arith

settings_short : (p : PlainProgram) → AreSettings p → length (ended (setting_lines p)) ≤ 190
settings_short p h =
    let kernel : List ℕ = codes "kernel: " ++ p.kernel in
    let burst : List ℕ = codes "burst width: " ++ decimal p.burst in
    let unroll : List ℕ = codes "unroll factor: " ++ decimal p.unroll in
    let iterate : List ℕ = codes "iterate: " ++ decimal p.iterate in
    let border : List ℕ = codes "border: " ++ border_word p.border in
    omega (
      arith,
      ended_one kernel (burst ∷ unroll ∷ iterate ∷ border ∷ []),
      ended_one burst (unroll ∷ iterate ∷ border ∷ []),
      ended_one unroll
          (iterate ∷ border ∷ []),
      ended_one iterate
          (border ∷ []),
      ended_one border [],
      name_short p.kernel h.kernel,
      number_short p.burst h.burst,
      number_short p.unroll h.unroll,
      number_short p.iterate h.iterate,
      border_short p.border,
    )

-- the canonical text has at most 67,108,864 bytes
pub canonical_short : (p : PlainProgram) → IsValid p → IsSizedProgram p → length (canonical p) ≤ 67108864
unfolding canonical
canonical_short p v s =
    let h : IsReadBack p = readable p v s in
    let few : length p.extents ≤ 3 = omega (arith, v.sound.limits.few_dims) in
    let tensors : length
    (ended (map (tensor_line p) p.tensors)) ≤ 96155 * length p.tensors = tensors_short p p.tensors h.tensors few v.sound.parts.small in
    let params : length (ended (map param_line p.params)) ≤ 182 * length p.params = params_short p.params h.params v.sound.parts.params in
    let many : length p.params ≤ 65536 = omega (arith, params_few p.params v.sound.parts.params, v.sound.limits.few_values) in
    omega (
      arith,
      ended_two (setting_lines p) (map param_line p.params ++ map (tensor_line p) p.tensors),
      ended_two (map param_line p.params)
          (map (tensor_line p) p.tensors),
      settings_short p h.settings,
      v.sound.limits.few_tensors,
    )
