-- A file gives one list of values or is refused at one line, and never both.
use Rattle.std.proofs.Common.{◌≡◌, ◌⊎◌, ℕ, zero, suc, ◌<◌, ◌≤◌, Bool, true, false, List, length, Option, Some, None, ℤ, refl, sym, ◌∙◌, ap, arith, ⊎_elim, inl, inr}
use Rattle.std.proofs.lemmas.Bool.{both_ways, cases_lt, cases_order}
use Rattle.soda_ir.specs.Program.{PlainParam}
use Rattle.param_lines.specs.Laws.{IsGivenOrRefused}
use Rattle.param_lines.specs.Lines.{rows_of}
use Rattle.param_lines.specs.Params.{AreAllFine, GivesParams, IsFirstWrong, RefusesLine, is_fine_at, most_params, too_long, wrong_line, no_line, values_of}

pub one_list : (ps : List PlainParam) (bytes : List ℕ) (v w : List ℤ) → GivesParams ps bytes v → GivesParams ps bytes w → v ≡ w
one_list ps bytes v w a b = let same : Some v ≡ Some w = sym a.whole ∙ b.whole in cc

not_both : (ps : List PlainParam) (rows : List (List (List ℕ))) (line : ℕ) → AreAllFine ps rows → IsFirstWrong ps rows line → ⊥
not_both ps rows line fine wrong =
    both_ways (is_fine_at ps rows wrong.place) wrong.wrong (fine.each wrong.place wrong.within)

pub never_both : (ps : List PlainParam) (bytes : List ℕ) (v : List ℤ) (l : ℕ) → GivesParams ps bytes v → RefusesLine ps bytes l → ⊥
never_both ps bytes v _ given (too_long long) = omega (arith, given.short)
never_both ps bytes v l given (wrong_line short wrong) = not_both ps (rows_of bytes) l given.fine wrong
never_both ps bytes v _ given (no_line short fine none) = let same : Some v ≡ None = sym given.whole ∙ none in cc

one_wrong : (ps : List PlainParam) (rows : List (List (List ℕ))) (k l : ℕ) → IsFirstWrong ps rows k → IsFirstWrong ps rows l → k ≡ l
one_wrong ps rows k l a b =
    ⊎_elim (λ (e : a.place ≡ b.place). a.number ∙ (ap suc e ∙ sym b.number)) (λ r. ⊎_elim (λ (h : a.place < b.place). absurd (both_ways (is_fine_at ps rows a.place) a.wrong (b.fine_before a.place h))) (λ (h : b.place < a.place). absurd (both_ways (is_fine_at ps rows b.place) b.wrong (a.fine_before b.place h))) r) (cases_order a.place b.place)

pub one_line : (ps : List PlainParam) (bytes : List ℕ) (k l : ℕ) → RefusesLine ps bytes k → RefusesLine ps bytes l → k ≡ l
one_line ps bytes _ _ (too_long long) (too_long long') = refl
one_line ps bytes _ l (too_long long) (wrong_line short wrong) = absurd (omega arith)
one_line ps bytes _ _ (too_long long) (no_line short fine none) = refl
one_line ps bytes k _ (wrong_line short wrong) (too_long long) = absurd (omega arith)
one_line ps bytes k l (wrong_line short wrong) (wrong_line short' wrong') = one_wrong ps (rows_of bytes) k l wrong wrong'
one_line ps bytes k _ (wrong_line short wrong) (no_line short' fine none) = absurd (not_both ps (rows_of bytes) k fine wrong)
one_line ps bytes _ _ (no_line short fine none) (too_long long) = refl
one_line ps bytes _ l (no_line short fine none) (wrong_line short' wrong) = absurd (not_both ps (rows_of bytes) l fine wrong)
one_line ps bytes _ _ (no_line short fine none) (no_line short' fine' none') = refl

-- all of the first lines are fine, or one is the first that isn't
first_lines : (ps : List PlainParam) (rows : List (List (List ℕ))) (n : ℕ) → n ≤ length rows → ((j : ℕ) → j < n → is_fine_at ps rows j ≡ true) ⊎ ((line : ℕ) × IsFirstWrong ps rows line)
first_lines ps rows zero h = inl (λ j l. absurd (omega arith))
first_lines ps rows (suc n) h = ⊎_elim (λ (fine : (j : ℕ) → j < n → is_fine_at ps rows j ≡ true). by fine (is_fine_at ps rows n) refl) (λ (w : (line : ℕ) × IsFirstWrong ps rows line). inr w) (first_lines ps rows n (omega arith))
  where
    by : ((j : ℕ) → j < n → is_fine_at ps rows j ≡ true) → (t : Bool) → is_fine_at ps rows n ≡ t → ((j : ℕ) → j < suc n → is_fine_at ps rows j ≡ true) ⊎ ((line : ℕ) × IsFirstWrong ps rows line)
    by fine true q = inl (λ j l. ⊎_elim (λ (k : j < n). fine j k) (λ (k : n ≤ j). let same : j ≡ n = omega arith in ap (is_fine_at ps rows) same ∙ q) (cases_lt j n))
    by fine false q = inr (suc n, record { place = n; number = refl; within = omega arith; wrong = q; fine_before = fine })

pub either : (ps : List PlainParam) (bytes : List ℕ) → IsGivenOrRefused ps bytes
either ps bytes =
    ⊎_elim (λ (long : most_params < length bytes). inr (0, too_long long)) (λ (short : length bytes ≤ most_params). within short (first_lines ps (rows_of bytes) (length (rows_of bytes)) (omega arith))) (cases_lt most_params (length bytes))
  where
    whole : length bytes ≤ most_params → AreAllFine ps (rows_of bytes) → (o : Option (List ℤ)) → values_of ps (rows_of bytes) ≡ o → IsGivenOrRefused ps bytes
    whole short fine None e = inr (0, no_line short fine e)
    whole short fine (Some values) e = inl (values, record { short = short; fine = fine; whole = e })

    within : length bytes ≤ most_params → (((j : ℕ) → j < length (rows_of bytes) → is_fine_at ps (rows_of bytes) j ≡ true) ⊎ ((line : ℕ) × IsFirstWrong ps (rows_of bytes) line)) → IsGivenOrRefused ps bytes
    within short (inl fine) = whole short (record { each = fine }) (values_of ps (rows_of bytes)) refl
    within short (inr wrong) = inr (wrong.0, wrong_line short wrong.1)
