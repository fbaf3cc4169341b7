-- The word of a type stands for that type.
use Rattle.std.proofs.Common.{◌≡◌, ℕ, ◌<◌, ◌≤◌, ◌^◌, Bool, true, false, List, ◌++◌, Some, Option, refl, ap, arith, IsTrue, codes}
use Rattle.std.specs.Prelude.{option_map, unwrap_or, if◌then◌else◌}
use Rattle.std.specs.Fmt.{decimal}
use Rattle.std.proofs.lemmas.Fmt.{digits_value-decimal}
use Rattle.soda_words.specs.IntType.{IntType, IsType, int32}
use Rattle.soda_checks.specs.Types.{is_float, type_behind, type_of, width_of}
use Rattle.soda_print.specs.Canonical.{type_text}
use Rattle.soda_words.proofs.CallerLemmas.{number_is, own}
use Rattle.soda_words.specs.Names.{behind}
use Rattle.soda_words.specs.Tokens.{or_else, value_behind}
use Rattle.soda_parse.proofs.Back.{IsTyped}
use Rattle.soda_parse.proofs.Truths.{le_true}

width_back : (least n : ℕ) → least ≤ n → n ≤ 64 → width_of least (decimal n) ≡ Some n
width_back least n h k =
    let small : n < 2 ^ 64 = omega arith in
    let value : value_behind 0 (decimal n) ≡ n = digits_value-decimal own n small in
    rw (number_is n small, value, le_true least n h, le_true n 64 k) refl

abbrev text_by : Bool → ℕ → List ℕ
text_by s n = (if s then codes "int" else codes "uint") ++ decimal n

type_back : (s : Bool) (n : ℕ) → 1 ≤ n → (s ≡ true → 2 ≤ n) → n ≤ 64 → type_of (text_by s n) ≡ Some (record { signed = s; bits = n })
type_back true n some two most =
    ap (λ (w : Option ℕ). or_else (option_map (λ m. record {
      signed = true;
      bits =
          m;
    }) w) (type_behind false 1 (behind (codes "uint") (text_by true n)))) (width_back 2 n (two refl) most)
type_back false n some two most =
    ap (λ (w : Option ℕ). option_map (λ m. record { signed = false; bits = m }) w) (width_back 1 n some most)

sign_of : (s : Bool) → s ≡ true → IsTrue s
sign_of true e = refl
sign_of false e = cc

-- the type of a type's word
pub type_known : (t : IntType) → IsType t → type_of (type_text t) ≡ Some t
unfolding type_text
type_known t h = type_back t.signed t.bits (omega (arith, h.some)) (λ e. h.sign (sign_of t.signed e)) h.most

-- the word of a type that may be stands for it
pub typed : (t : IntType) → IsType t → IsTyped t
typed t h line = ap (λ (o : Option IntType). unwrap_or o int32) (type_known t h)

not_float : (s : Bool) (n : ℕ) → is_float (text_by s n) ≡ false
not_float true n = refl
not_float false n = refl

-- no integer type's word begins as a float type's
pub no_float : (t : IntType) → is_float (type_text t) ≡ false
unfolding type_text
no_float t = not_float t.signed t.bits
