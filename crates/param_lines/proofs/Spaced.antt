-- Words with blanks between them are found again, and so are lines.
use Rattle.std.proofs.Common.{◌≡◌, ℕ, ◌<◌, ◌==◌, Bool, true, false, not, ◌&&◌, List, [], ◌∷◌, ◌++◌, map, length, All, ℤ, refl, sym, ◌∙◌, ap, arith, if◌then◌else◌}
use Rattle.std.specs.Fmt.{signed_decimal}
use Rattle.std.specs.List.{filter, list_all}
use Rattle.std.proofs.lemmas.Bool.{and_from, and_parts, both_ways, eqb-true, false_from_ne_true, not-true, not_from_false, or_from, or_left}
use Rattle.std.proofs.lemmas.List.{append-nil}
use Rattle.std.proofs.lemmas.List.Elements.{All-head, All-tail}
use Rattle.std.proofs.lemmas.List.Folds.{list_all-append}
use Rattle.soda_words.specs.Names.{begins_name, is_free_name, is_name, is_reserved, is_word_byte}
use Rattle.soda_words.specs.Limits.{most_name}
use Rattle.std.specs.Prelude.{nat_lt}
use Rattle.array_bytes.specs.Runs.{fields, is_run, is_space, put_first, runs}
use Rattle.param_lines.specs.Lines.{lines}
use Rattle.param_lines.specs.Written.{spaced}

-- no byte is white space
abbrev pub is_dark : List ℕ → Bool
is_dark w = list_all (λ b. not (is_space b)) w

-- no byte is a line feed
abbrev pub is_flat : List ℕ → Bool
is_flat w = list_all (λ b. not (b == 10)) w

-- a word: some bytes, none of them white space
pub record IsWord (w : List ℕ) : Type 0 where
  pub some : 0 < length w
  pub dark : is_dark w ≡ true

dark_fields : (w rest : List ℕ) → is_dark w ≡ true → fields (w ++ (32 ∷ rest)) ≡ w ∷ fields rest
dark_fields [] rest h = refl
dark_fields (b ∷ w) rest h =
    let parts = and_parts (not (is_space b)) (is_dark w) h in
    ap (λ t. if t then [] ∷ fields (w ++ (32 ∷ rest)) else put_first b (fields (w ++ (32 ∷ rest)))) (not-true (is_space b) parts.0) ∙ ap (put_first b) (dark_fields w rest parts.1)

dark_alone : (w : List ℕ) → is_dark w ≡ true → fields w ≡ w ∷ []
dark_alone [] h = refl
dark_alone (b ∷ w) h =
    let parts = and_parts (not (is_space b)) (is_dark w) h in
    ap (λ t. if t then [] ∷ fields w else put_first b (fields w)) (not-true (is_space b) parts.0) ∙ ap (put_first b) (dark_alone w parts.1)

runs_word : (b : ℕ) (w rest : List ℕ) → is_dark (b ∷ w) ≡ true → runs ((b ∷ w) ++ (32 ∷ rest)) ≡ (b ∷ w) ∷ runs rest
unfolding runs
runs_word b w rest h = ap (λ (fs : List (List ℕ)). filter is_run fs) (dark_fields (b ∷ w) rest h)

runs_alone : (b : ℕ) (w : List ℕ) → is_dark (b ∷ w) ≡ true → runs (b ∷ w) ≡ (b ∷ w) ∷ []
unfolding runs
runs_alone b w h = ap (λ (fs : List (List ℕ)). filter is_run fs) (dark_alone (b ∷ w) h)

-- the words of a line
pub runs_spaced : (w : List ℕ) (vs : List ℤ) → IsWord w → All (λ v. IsWord (signed_decimal v)) vs → runs (w ++ spaced vs) ≡ w ∷ map signed_decimal vs
runs_spaced [] vs h k = absurd (omega (arith, h.some))
runs_spaced (b ∷ w) [] h k = ap runs (append-nil (b ∷ w)) ∙ runs_alone b w h.dark
runs_spaced (b ∷ w) (v ∷ vs) h k =
    runs_word b w (signed_decimal v ++ spaced vs) h.dark ∙ ap (λ (rs : List (List ℕ)). (b ∷ w) ∷ rs) (runs_spaced (signed_decimal v) vs (All-head (λ (v : ℤ). IsWord (signed_decimal v)) v vs k) (All-tail (λ (v : ℤ). IsWord (signed_decimal v)) v vs k))

-- the lines of a text
pub lines_line : (w rest : List ℕ) → is_flat w ≡ true → lines (w ++ (10 ∷ rest)) ≡ w ∷ lines rest
lines_line [] rest h = refl
lines_line (b ∷ w) rest h =
    let parts = and_parts (not (b == 10)) (is_flat w) h in
    ap (λ t. if t then [] ∷ lines (w ++ (10 ∷ rest)) else put_first b (lines (w ++ (10 ∷ rest)))) (not-true (b == 10) parts.0) ∙ ap (put_first b) (lines_line w rest parts.1)

dark_byte : (b : ℕ) → not (is_space b) ≡ true → not (b == 10) ≡ true
dark_byte b h =
    not_from_false (b == 10) (false_from_ne_true (b == 10) (λ e. let ten : not (is_space 10) ≡ true = ap (λ k. not (is_space k)) (sym (eqb-true b 10 e)) ∙ h in cc))

dark_flat : (w : List ℕ) → is_dark w ≡ true → is_flat w ≡ true
dark_flat [] h = refl
dark_flat (b ∷ w) h =
    let parts = and_parts (not (is_space b)) (is_dark w) h in
    and_from (not (b == 10)) (is_flat w) (dark_byte b parts.0) (dark_flat w parts.1)

spaced_flat : (vs : List ℤ) → All (λ v. IsWord (signed_decimal v)) vs → is_flat (spaced vs) ≡ true
spaced_flat [] k = refl
spaced_flat (v ∷ vs) k =
    list_all-append (λ b. not (b == 10)) (signed_decimal v) (spaced vs) ∙ and_from (is_flat (signed_decimal v)) (is_flat (spaced vs)) (dark_flat (signed_decimal v) (All-head (λ (v : ℤ). IsWord (signed_decimal v)) v vs k).dark) (spaced_flat vs (All-tail (λ (v : ℤ). IsWord (signed_decimal v)) v vs k))

-- a line has no line feed
pub line_flat : (w : List ℕ) (vs : List ℤ) → IsWord w → All (λ v. IsWord (signed_decimal v)) vs → is_flat (w ++ spaced vs) ≡ true
line_flat w vs h k =
    list_all-append (λ b. not (b == 10)) w (spaced vs) ∙ and_from (is_flat w) (is_flat (spaced vs)) (dark_flat w h.dark) (spaced_flat vs k)

not_byte : (k b : ℕ) → is_word_byte k ≡ false → is_word_byte b ≡ true → (b == k) ≡ false
not_byte k b n h =
    false_from_ne_true (b == k) (λ e. both_ways (is_word_byte k) n (ap is_word_byte (sym (eqb-true b k e)) ∙ h))

word_byte_dark : (b : ℕ) → is_word_byte b ≡ true → not (is_space b) ≡ true
word_byte_dark b h =
    not_from_false (is_space b) (or_from _ _ (or_from _ _ (or_from _ _ (or_from _ _ (not_byte 9 b refl h) (not_byte 10 b refl h)) (not_byte 12 b refl h)) (not_byte 13 b refl h)) (not_byte 32 b refl h))

pub all_dark : (w : List ℕ) → list_all is_word_byte w ≡ true → is_dark w ≡ true
all_dark [] h = refl
all_dark (b ∷ w) h =
    let parts = and_parts (is_word_byte b) (list_all is_word_byte w) h in
    and_from (not (is_space b)) (is_dark w) (word_byte_dark b parts.0) (all_dark w parts.1)

-- a name of a param is a word
pub name_word : (n : List ℕ) → is_free_name n ≡ true → IsWord n
name_word [] h = cc
name_word (b ∷ w) h =
    let name = (and_parts (is_name (b ∷ w)) (not (is_reserved (b ∷ w))) h).0 in
    let front = (and_parts (begins_name b && list_all is_word_byte w) (nat_lt (length w) most_name) name).0 in
    let parts = and_parts (begins_name b) (list_all is_word_byte w) front in
    record {
      some = omega arith;
      dark = and_from (not (is_space b)) (is_dark w) (word_byte_dark b (or_left _ _ parts.0)) (all_dark w parts.1);
    }
