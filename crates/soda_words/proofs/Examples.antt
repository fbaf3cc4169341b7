-- The definitions at small words and texts, by computation.
use Rattle.std.proofs.Common.{◌≡◌, ℕ, ◌++◌, true, false, List, [], ◌∷◌, Some, None, codes, replicate, refl}
use Rattle.std.specs.Prelude.{map}
use Rattle.soda_words.specs.Tokens.{front_of, tokens_behind, tokens_of, end_line, not_ascii}
use Rattle.soda_words.specs.declared.symbol.Symbol.TheVariants.{LessEqual, EqualSign, BarBar, Bar, Dot}
use Rattle.soda_words.specs.declared.token.Placed.{Placed}
use Rattle.soda_words.specs.declared.token.Token.{Token}
use Rattle.soda_words.specs.declared.token.Token.TheVariants.{Name, Number, Sign, Bad}
use Rattle.soda_words.specs.Names.{is_name, is_reserved, is_free_name}

names : (is_name (codes "_x9") ≡ true) × (is_name (codes "9x") ≡ false) × (is_name (codes "a-b") ≡ false) × (is_name [] ≡ false) × (is_name (replicate 64 97) ≡ true) × (is_name (replicate 65 97) ≡ false)
names = (refl, refl, refl, refl, refl, refl)

reserved : (is_reserved (codes "int7") ≡ true) × (is_reserved (codes "int") ≡ false) × (is_reserved (codes "uint64") ≡ true) × (is_reserved (codes "float") ≡ true) × (is_reserved (codes "half2") ≡ true) × (is_reserved (codes "doubles") ≡ false) × (is_reserved (codes "select") ≡ true) × (is_reserved (codes "maximum") ≡ false) × (is_free_name (codes "input") ≡ true) × (is_free_name (codes "abs") ≡ false)
reserved = (refl, refl, refl, refl, refl, refl, refl, refl, refl, refl)

-- the tokens of a text, without their lines
abbrev kinds : List ℕ → List Token
kinds bs = map (λ t. t.token) (tokens_of bs)

abbrev name_on : ℕ → List ℕ → Placed
name_on line text = record { line = line; token = Name text }

longest_first : (kinds (codes "a<==|||1") ≡ Name (codes "a") ∷ Sign LessEqual ∷ Sign EqualSign ∷ Sign BarBar ∷ Sign Bar ∷ Number 1 ∷ []) × (kinds (codes "0.10") ≡ Number 0 ∷ Sign Dot ∷ Number 10 ∷ [])
unfolding tokens_behind front_of
longest_first = (refl, refl)

bad_tokens : (kinds (codes "1a 01 _1 ;") ≡ Bad ∷ Bad ∷ Name (codes "_1") ∷ Bad ∷ []) × (kinds (codes "18446744073709551615 18446744073709551616") ≡ Number 18446744073709551615 ∷ Bad ∷ []) × (kinds (replicate 65 97) ≡ Bad ∷ []) × (kinds (replicate 64 97) ≡ Name (replicate 64 97) ∷ [])
unfolding tokens_behind front_of
bad_tokens = (refl, refl, refl, refl)

comments : (tokens_of (codes "a # b \r c\nd#") ≡ name_on 1 (codes "a") ∷ name_on 2 (codes "d") ∷ []) × (tokens_of [] ≡ [])
unfolding tokens_behind front_of
comments = (refl, refl)

ascii : (not_ascii (codes "a#" ++ 128 ∷ []) ≡ None) × (not_ascii (codes "a#\n" ++ 128 ∷ []) ≡ Some 2) × (not_ascii (codes "#\r" ++ 128 ∷ []) ≡ None)
ascii = (refl, refl, refl)

ends : (end_line [] ≡ 1) × (end_line (codes "a\nb") ≡ 2) × (end_line (codes "a\n#\n") ≡ 3)
ends = (refl, refl, refl)
