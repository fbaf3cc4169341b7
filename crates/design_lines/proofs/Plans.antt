-- The lines of staged tensors and of reads are told from what follows them, with their numbers.
use Rattle.std.proofs.Common.{◌≡◌, ℕ, suc, ◌+◌, ◌<◌, ◌≤◌, ◌^◌, List, [], ◌∷◌, ◌++◌, length, slice_index, refl, sym, ap, ◌∙◌, codes, arith, append_assoc, ⊎_elim}
use Rattle.std.specs.List.{All}
use Rattle.std.proofs.lemmas.Bool.{cases_lt}
use Rattle.std.proofs.lemmas.Fmt.{decimal_injective}
use Rattle.std.proofs.lemmas.List.{get_or_past}
use Rattle.delay_net.specs.declared.net.Read.{Read}
use Rattle.soda_ir.specs.Program.{PlainProgram}
use Rattle.soda_print.specs.Canonical.{ended}
use Rattle.time_stages.specs.declared.staging.StagedTensor.{StagedTensor}
use Rattle.design_lines.specs.PlanLines.{numbered, read_front, read_line, tensor_front, tensor_line}
use Rattle.design_lines.specs.machine.Reading.{two_numbered}
use Rattle.design_lines.proofs.Apart.{two_apart}

pub tensor_is : (p : PlainProgram) (n : ℕ) (s : StagedTensor) (delay storage : ℕ)
    → tensor_line p n s delay storage ≡ two_numbered (tensor_front p n s) (codes " storage ") delay storage
tensor_is p n s delay storage = simp append_assoc

pub read_is : (n : ℕ) (r : Read) (age hold need : ℕ) → read_line n r age hold need ≡ two_numbered (read_front n r age) (codes " need ") hold need
read_is n r age hold need = simp append_assoc

-- numbered lines that are told one by one are told together
pub numbered_apart : {A : Type 0} (R : ℕ → Type 0) (f g : ℕ → A → List ℕ) (k : ℕ) (xs : List A) (x y : List ℕ)
    → ((n : ℕ) (a : A) (u w : List ℕ) → (f n a ++ codes "\n") ++ u ≡ (g n a ++ codes "\n") ++ w → R n × (u ≡ w))
    → ended (numbered f k xs) ++ x ≡ ended (numbered g k xs) ++ y → ((n : ℕ) → k ≤ n → n < k + length xs → R n) × (x ≡ y)
numbered_apart R f g k [] x y each e = (λ n low high. absurd (omega arith), e)
numbered_apart R f g k (a ∷ xs) x y each e =
    let flat : (f k a ++ codes "\n") ++ (ended (numbered f (suc k) xs) ++ x) ≡ (g k a ++ codes "\n") ++ (ended (numbered g (suc k) xs) ++ y) =
    sym (append_assoc (f k a ++ codes "\n") (ended (numbered f (suc k) xs)) x) ∙ (e ∙ append_assoc (g k a ++ codes "\n") (ended (numbered g (suc k) xs)) y) in
    let first = each k a (ended (numbered f (suc k) xs) ++ x) (ended (numbered g (suc k) xs) ++ y) flat in
    let rest = numbered_apart R f g (suc k) xs x y each first.1 in
    (λ n low high. ⊎_elim (λ (lt : k < n). rest.0 n (omega arith) (omega arith)) (λ (le : n ≤ k). let same : k ≡ n = omega arith in rw (sym same) first.0) (cases_lt k n), rest.1)

-- what a list has at a number is small where all that it has is
pub small_at : (bound : ℕ) (xs : List ℕ) (n : ℕ) → 0 < bound → All (λ x. x < bound) xs → slice_index xs n < bound
small_at bound xs n some all = ⊎_elim (λ (lt : n < length xs). all n 0 lt)
    (λ (le : length xs ≤ n). let past : slice_index xs n ≡ 0 = get_or_past xs n 0 le in omega arith) (cases_lt n (length xs))

-- lists as long as each other with the same at each number are one
pub same_list : (xs ys : List ℕ) → length xs ≡ length ys → ((n : ℕ) → n < length xs → slice_index xs n ≡ slice_index ys n) → xs ≡ ys
same_list [] [] many each = refl
same_list [] (y ∷ ys) many each = absurd (omega arith)
same_list (x ∷ xs) [] many each = absurd (omega arith)
same_list (x ∷ xs) (y ∷ ys) many each =
    ap (λ z. z ∷ xs) (each 0 (omega arith)) ∙ ap (λ zs. y ∷ zs) (same_list xs ys (omega arith) (λ n lt. each (suc n) (omega arith)))

-- a line of a staged tensor tells the delay
pub tensor_apart : (p : PlainProgram) (n : ℕ) (s : StagedTensor) (a b m t : ℕ) (u w : List ℕ) → a < 2 ^ 64 → m < 2 ^ 64
    → (tensor_line p n s a b ++ codes "\n") ++ u ≡ (tensor_line p n s m t ++ codes "\n") ++ w → (a ≡ m) × (u ≡ w)
tensor_apart p n s a b m t u w ha hm e =
    let told = two_apart (tensor_front p n s) 32 (codes "storage ") a b m t u w refl
    (ap (λ (l : List ℕ). (l ++ codes "\n") ++ u) (sym (tensor_is p n s a b)) ∙ (e ∙ ap (λ (l : List ℕ). (l ++ codes "\n") ++ w) (tensor_is p n s m t))) in
    (decimal_injective a m ha hm told.0, told.2)

-- a line of a read tells the hold and the need
pub read_apart : (n : ℕ) (r : Read) (age a b c d : ℕ) (u w : List ℕ) → a < 2 ^ 64 → b < 2 ^ 64 → c < 2 ^ 64 → d < 2 ^ 64
    → (read_line n r age a b ++ codes "\n") ++ u ≡ (read_line n r age c d ++ codes "\n") ++ w → (a ≡ c) × (b ≡ d) × (u ≡ w)
read_apart n r age a b c d u w ha hb hc hd e =
    let told = two_apart (read_front n r age) 32 (codes "need ") a b c d u w refl
    (ap (λ (l : List ℕ). (l ++ codes "\n") ++ u) (sym (read_is n r age a b)) ∙ (e ∙ ap (λ (l : List ℕ). (l ++ codes "\n") ++ w) (read_is n r age c d))) in
    (decimal_injective a c ha hc told.0, decimal_injective b d hb hd told.1, told.2)
