-- The lines of a program in a text: how many bytes they have, and that they are the ones that are cut off.
use Rattle.std.proofs.Common.{◌≡◌, ◌≢◌, ℕ, zero, suc, ◌+◌, ◌-◌, ◌<◌, ◌≤◌, ◌^◌, ◌==◌, true, false, not, if◌then◌else◌, Option, Some, None, option_map, List, [], ◌∷◌, ◌++◌, length, take, drop, get_or, refl, sym, ap, ◌∙◌, codes, arith, append_assoc, length-append, drop-cons}
use Rattle.std.specs.Fmt.{decimal}
use Rattle.std.proofs.Math.Seq.{take-append_seam}
use Rattle.std.proofs.lemmas.Bool.{and_parts, not-true}
use Rattle.std.proofs.lemmas.Bool.Decides.{nat_tests}
use Rattle.std.proofs.lemmas.Fmt.{decimal_injective}
use Rattle.std.proofs.lemmas.List.{append_cancel_left, take-append-drop}
use Rattle.design_lines.specs.Lines.{GoesOn, IsWritten, program_lines}
use Rattle.design_lines.specs.machine.Reading.{line_bytes}
use Rattle.design_lines.proofs.CallerLemmas.{AllInline, canonical_inline, few_lines, is_inline, line_apart, number_inline}
use Rattle.design_reader.specs.machine.Pieces.{IsCut}
use Rattle.soda_ir.specs.Program.{PlainProgram}
use Rattle.soda_print.specs.Canonical.{canonical, canonical_lines, ended}
use Rattle.soda_print.proofs.CallerLemmas.{readable}

plus_suc : (k : ℕ) (o : Option ℕ) → option_map (λ i. k + i) (option_map suc o) ≡ option_map (λ i. (k + 1) + i) o
plus_suc k None = refl
plus_suc k (Some i) = ap Some (omega arith)

-- one byte more
pub bytes_more : (text : List ℕ) (at left next : ℕ) (o : Option ℕ) → o ≡ option_map (λ i. at + i) (line_bytes left (drop at text)) → at < length text → left ≢ 0
    → next ≡ (if get_or text at 0 == 10 then left - 1 else left) → o ≡ option_map (λ i. (at + 1) + i) (line_bytes next (drop (at + 1) text))
bytes_more text at zero next o was lt some is = absurd (some refl)
bytes_more text at (suc n) next o was lt some is =
    let b = get_or text at 0 in
    let e : at + 1 ≡ suc at = omega arith in
    let one : suc n - 1 ≡ n = omega arith in
    let is_next : next ≡ (if b == 10 then n else suc n) = is ∙ ap (λ k. if b == 10 then k else suc n) one in
    was ∙ ap (λ (z : List ℕ). option_map (λ i. at + i) (line_bytes (suc n) z)) (drop-cons text at 0 lt)
    ∙ plus_suc at (line_bytes (if b == 10 then n else suc n) (drop (suc at) text))
    ∙ ap (λ k. option_map (λ i. (at + 1) + i) (line_bytes k (drop (suc at) text))) (sym is_next)
    ∙ ap (λ k. option_map (λ i. (at + 1) + i) (line_bytes next (drop k text))) (sym e)

ten_or : (b left : ℕ) → b ≢ 10 → (if b == 10 then left - 1 else left) ≡ left
ten_or b left h = let no : (b == 10) ≡ false = grind (arith, nat_tests) in ap (λ t. if t then left - 1 else left) no

-- the end of a line
pub bytes_line : (text : List ℕ) (at left next : ℕ) (o : Option ℕ) → o ≡ option_map (λ i. at + i) (line_bytes left (drop at text)) → at < length text → left ≢ 0
    → get_or text at 0 ≡ 10 → next ≡ left - 1 → o ≡ option_map (λ i. (at + 1) + i) (line_bytes next (drop (at + 1) text))
bytes_line text at left next o was lt some here is =
    bytes_more text at left next o was lt some (is ∙ ap (λ b. if b == 10 then left - 1 else left) (sym here))

-- another byte
pub bytes_other : (text : List ℕ) (at left next : ℕ) (o : Option ℕ) → o ≡ option_map (λ i. at + i) (line_bytes left (drop at text)) → at < length text → left ≢ 0
    → get_or text at 0 ≢ 10 → next ≡ left → o ≡ option_map (λ i. (at + 1) + i) (line_bytes next (drop (at + 1) text))
bytes_other text at left next o was lt some here is =
    bytes_more text at left next o was lt some (is ∙ sym (ten_or (get_or text at 0) left here))

-- all lines are there
pub bytes_found : (rest : List ℕ) (at left : ℕ) (o : Option ℕ) → o ≡ option_map (λ i. at + i) (line_bytes left rest) → left ≡ 0 → Some at ≡ o
bytes_found rest at left o was none =
    let e : at + 0 ≡ at = omega arith in
    sym (was ∙ ap (λ k. option_map (λ i. at + i) (line_bytes k rest)) none ∙ ap Some e)

-- some are not
pub bytes_missing : (at left : ℕ) (o : Option ℕ) → o ≡ option_map (λ i. at + i) (line_bytes left []) → left ≢ 0 → None ≡ o
bytes_missing at zero o was some = absurd (some refl)
bytes_missing at (suc n) o was some = sym was

within_more : (k : ℕ) (b : ℕ) (bs : List ℕ) (o : Option ℕ) → ((i : ℕ) → o ≡ Some i → i ≤ length bs) → option_map suc o ≡ Some k → k ≤ length (b ∷ bs)
within_more k b bs None h e = absurd (cc)
within_more k b bs (Some i) h e = let s : suc i ≡ k = cc in omega (arith, h i refl)

-- lines have no more bytes than the text
pub bytes_within : (n : ℕ) (text : List ℕ) (k : ℕ) → line_bytes n text ≡ Some k → k ≤ length text
bytes_within zero text k e = let s : 0 ≡ k = cc in omega arith
bytes_within (suc n) [] k e = absurd (cc)
bytes_within (suc n) (b ∷ bs) k e =
    within_more k b bs (line_bytes (if b == 10 then n else suc n) bs) (λ i h. bytes_within (if b == 10 then n else suc n) bs i h) e

one_plus : (o : Option ℕ) → option_map suc o ≡ option_map (λ i. 1 + i) o
one_plus None = refl
one_plus (Some i) = ap Some (omega arith)

suc_plus : (k : ℕ) (o : Option ℕ) → option_map suc (option_map (λ i. suc k + i) o) ≡ option_map (λ i. suc (suc k) + i) o
suc_plus k None = refl
suc_plus k (Some i) = ap Some (omega arith)

not_ten : (b n : ℕ) → not (b == 10) ≡ true → (if b == 10 then n else suc n) ≡ suc n
not_ten b n h = ap (λ t. if t then n else suc n) (not-true (b == 10) h)

-- the bytes of a line, and of those behind it
line_first : (n : ℕ) (w rest : List ℕ) → is_inline w ≡ true → line_bytes (suc n) (w ++ 10 ∷ rest) ≡ option_map (λ i. suc (length w) + i) (line_bytes n rest)
line_first n [] rest h = one_plus (line_bytes n rest)
line_first n (b ∷ w) rest h =
    let both = and_parts (not (b == 10)) (is_inline w) h in
    ap (λ k. option_map suc (line_bytes k (w ++ 10 ∷ rest))) (not_ten b n both.0) ∙ ap (option_map suc) (line_first n w rest both.1)
    ∙ suc_plus (length w) (line_bytes n rest)

-- the bytes of lines
pub bytes_of : (ws : List (List ℕ)) (rest : List ℕ) → AllInline ws → line_bytes (length ws) (ended ws ++ rest) ≡ Some (length (ended ws))
bytes_of [] rest h = refl
bytes_of (w ∷ ws) rest h =
    let flat : ended (w ∷ ws) ++ rest ≡ w ++ 10 ∷ (ended ws ++ rest) = simp append_assoc in
    let size : suc (length w) + length (ended ws) ≡ length (ended (w ∷ ws)) =
    omega (arith, length-append (w ++ codes "\n") (ended ws), length-append w (codes "\n")) in
    ap (line_bytes (length (w ∷ ws))) flat ∙ line_first (length ws) w (ended ws ++ rest) h.0
    ∙ ap (option_map (λ i. suc (length w) + i)) (bytes_of ws rest h.1) ∙ ap Some size

-- the lines of a program, part by part
pub program_goes : (p : PlainProgram) (text : List ℕ) → GoesOn (program_lines p) text
    → (rest : List ℕ) × (text ≡ codes "program " ++ ((decimal (length (canonical_lines p)) ++ codes "\n") ++ (ended (canonical_lines p) ++ rest)))
program_goes p text g = (g.0, g.1 ∙ flat (codes "program ") (decimal (length (canonical_lines p))) (ended (canonical_lines p)) g.0)
  where
    flat : (a b c d : List ℕ) → (((a ++ b) ++ codes "\n") ++ c) ++ d ≡ a ++ ((b ++ codes "\n") ++ (c ++ d))
    flat a b c d = simp append_assoc

-- no program stands where the word does not
pub no_word : (p : PlainProgram) (text : List ℕ) → ((rest : List ℕ) → text ≢ codes "program " ++ rest) → GoesOn (program_lines p) text → ⊥
no_word p text none g = let h = program_goes p text g in none _ h.1

-- nor where no number does
pub no_count : (p : PlainProgram) (text number : List ℕ) → text ≡ codes "program " ++ number
    → ((n : ℕ) (rest : List ℕ) → n < 2 ^ 64 → number ≢ decimal n ++ (codes "\n" ++ rest)) → IsWritten p → GoesOn (program_lines p) text → ⊥
no_count p text number is none written g =
    let h = program_goes p text g in
    let few = few_lines p written in
    let k = length (canonical_lines p) in
    let behind = append_cancel_left (codes "program ") number ((decimal k ++ codes "\n") ++ (ended (canonical_lines p) ++ h.0)) (sym is ∙ h.1) in
    none k (ended (canonical_lines p) ++ h.0) (omega arith) (behind ∙ append_assoc (decimal k) (codes "\n") (ended (canonical_lines p) ++ h.0))

-- the lines that are cut off a text are those of the program that stands there
pub cut_off : (p : PlainProgram) (text number more : List ℕ) (n : ℕ) → text ≡ codes "program " ++ number → n < 2 ^ 64 → number ≡ decimal n ++ (codes "\n" ++ more)
    → IsWritten p → GoesOn (program_lines p) text
    → (length (canonical_lines p) ≡ n) × ((rest : List ℕ) × (more ≡ ended (canonical_lines p) ++ rest)) × (line_bytes n more ≡ Some (length (ended (canonical_lines p))))
cut_off p text number more n is small told written g =
    let h = program_goes p text g in
    let few = few_lines p written in
    let k = length (canonical_lines p) in
    let tight : k < 2 ^ 64 = omega arith in
    let behind = append_cancel_left (codes "program ") number ((decimal k ++ codes "\n") ++ (ended (canonical_lines p) ++ h.0)) (sym is ∙ h.1) in
    let both : (decimal k ++ codes "\n") ++ (ended (canonical_lines p) ++ h.0) ≡ (decimal n ++ codes "\n") ++ more =
    sym behind ∙ told ∙ sym (append_assoc (decimal n) (codes "\n") more) in
    let parts = line_apart (decimal k) (decimal n) (ended (canonical_lines p) ++ h.0) more (number_inline k tight) (number_inline n small) both in
    let same = decimal_injective k n tight small parts.0 in
    let bytes = bytes_of (canonical_lines p) h.0 (canonical_inline p (readable p written.valid written.sized)) in
    (same, (h.0, sym parts.1), ap (λ i. line_bytes i more) (sym same) ∙ ap (line_bytes k) (sym parts.1) ∙ bytes)

-- no program stands where there are too few lines
pub no_lines : (p : PlainProgram) (text number more : List ℕ) (n : ℕ) → text ≡ codes "program " ++ number → n < 2 ^ 64 → number ≡ decimal n ++ (codes "\n" ++ more)
    → line_bytes n more ≡ None → IsWritten p → GoesOn (program_lines p) text → ⊥
no_lines p text number more n is small told none written g =
    let c = cut_off p text number more n is small told written g in
    let both : None ≡ Some (length (ended (canonical_lines p))) = sym none ∙ c.2 in cc

some_same : (m n : ℕ) → Some m ≡ Some n → m ≡ n
some_same m n e = cc

-- a text that is cut behind its program
pub is_cut : (text number more front back : List ℕ) (n bytes : ℕ) → text ≡ codes "program " ++ number → n < 2 ^ 64 → number ≡ decimal n ++ (codes "\n" ++ more)
    → line_bytes n more ≡ Some bytes → front ≡ take bytes more → back ≡ drop bytes more → IsCut text n front back
unfolding canonical
is_cut text number more front back n bytes is small told found hf hb = record {
  text_is = is ∙ ap (λ (z : List ℕ). codes "program " ++ z) told
      ∙ flat (codes "program ") (decimal n) more
      ∙ ap (λ (z : List ℕ). ((codes "program " ++ decimal n) ++ codes "\n") ++ z) (sym (take-append-drop bytes more))
      ∙ ap (λ (z : List ℕ). ((codes "program " ++ decimal n) ++ codes "\n") ++ (z ++ drop bytes more)) (sym hf)
      ∙ ap (λ (z : List ℕ). ((codes "program " ++ decimal n) ++ codes "\n") ++ (front ++ z)) (sym hb);
  only = λ p written g.
      let c = cut_off p text number more n is small told written g in
      let size : length (ended (canonical_lines p)) ≡ bytes = some_same (length (ended (canonical_lines p))) bytes (sym c.2 ∙ found) in
      let front_is : front ≡ ended (canonical_lines p) =
      hf ∙ ap (take bytes) (c.1).1 ∙ ap (λ k. take k (ended (canonical_lines p) ++ (c.1).0)) (sym size) ∙ take-append_seam (ended (canonical_lines p)) (c.1).0 in
      (sym front_is, c.0);
}
  where
    flat : (a b c : List ℕ) → a ++ (b ++ (codes "\n" ++ c)) ≡ ((a ++ b) ++ codes "\n") ++ c
    flat a b c = simp append_assoc
