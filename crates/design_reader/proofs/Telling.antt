-- Lines that tell two numbers each: one more of them, and all of them.
use Rattle.std.proofs.Common.{◌≡◌, ℕ, suc, ◌+◌, ◌<◌, ◌≤◌, ◌^◌, List, [], ◌∷◌, ◌++◌, length, take, slice_get, slice_index, Some, refl, sym, ap, subst, ◌∙◌, codes, arith, append-nil, append_assoc}
use Rattle.std.specs.List.{All}
use Rattle.std.proofs.lemmas.List.{get_or_append_left, length-append, length-take, take_more}
use Rattle.std.proofs.Math.Seq.{get_or-append_seam}
use Rattle.std.proofs.lemmas.List.Elements.{All-push}
use Rattle.std.proofs.lemmas.Option.{get_or_from_slice_get, slice_get_within}
use Rattle.delay_net.specs.Limits.{delay_end}
use Rattle.delay_net.specs.Windows.{MeetsWindow, age, at_least_0}
use Rattle.delay_net.specs.declared.net.Read.{Read}
use Rattle.design_lines.specs.PlanLines.{numbered, read_line, tensor_line}
use Rattle.soda_ir.specs.Program.{PlainProgram}
use Rattle.soda_print.specs.Canonical.{ended}
use Rattle.soda_print.proofs.CallerLemmas.{ended-append}
use Rattle.time_stages.specs.Staged.{staged_tensors}
use Rattle.time_stages.specs.declared.staging.StagedTensor.{StagedTensor}
use Rattle.design_lines.specs.Lines.{GoesOn}
use Rattle.design_lines.proofs.CallerLemmas.{numbered-append}
use Rattle.design_reader.specs.Stops.{IsReadStop, IsTensorStop}
use Rattle.design_reader.specs.Told.{AreReadsTold, AreTold, told_reads, told_tensors}

-- numbered lines are the same where each of them is
pub numbered_same : {A B : Type 0} (f g : ℕ → A → B) (k : ℕ) (xs : List A) → ((n : ℕ) (x : A) → k ≤ n → n < k + length xs → f n x ≡ g n x)
    → numbered f k xs ≡ numbered g k xs
numbered_same f g k [] same = refl
numbered_same f g k (x ∷ xs) same =
    ap (λ z. z ∷ numbered f (suc k) xs) (same k x (omega arith) (omega arith))
    ∙ ap (λ zs. g k x ∷ zs) (numbered_same f g (suc k) xs (λ n y low high. same n y (omega arith) (omega arith)))

-- there are as many numbered lines as there is of what they are lines of
pub count_numbered : {A B : Type 0} (f : ℕ → A → B) (k : ℕ) (xs : List A) → length (numbered f k xs) ≡ length xs
count_numbered f k [] = refl
count_numbered f k (x ∷ xs) = ap suc (count_numbered f (suc k) xs)

-- lines of the first of a list, each with a number of each of two lists
abbrev pub told : {A : Type 0} → (ℕ → A → ℕ → ℕ → List ℕ) → List A → (firsts seconds : List ℕ) → List (List ℕ)
told f xs ns ms = numbered (λ n x. f n x (slice_index ns n) (slice_index ms n)) 0 (take (length ns) xs)

next_taken : {A : Type 0} (xs : List A) (n m : ℕ) (x : A) → slice_get xs n ≡ Some x → m ≡ n + 1 → take m xs ≡ take n xs ++ x ∷ []
next_taken xs n m x is e =
    ap (λ k. take k xs) e ∙ take_more xs n x (slice_get_within xs n x is) ∙ ap (λ y. take n xs ++ y ∷ []) (get_or_from_slice_get xs n x x is)

-- one more
pub told_more : {A : Type 0} (f : ℕ → A → ℕ → ℕ → List ℕ) (xs : List A) (ns ms : List ℕ) (a b : ℕ) (x : A) → length ms ≡ length ns
    → slice_get xs (length ns) ≡ Some x → told f xs (ns ++ a ∷ []) (ms ++ b ∷ []) ≡ told f xs ns ms ++ f (length ns) x a b ∷ []
told_more {A = A} f xs ns ms a b x many is =
    let n : ℕ = length ns in
    let within = slice_get_within xs n x is in
    let g : ℕ → A → List ℕ = λ k y. f k y (slice_index (ns ++ a ∷ []) k) (slice_index (ms ++ b ∷ []) k) in
    let h : ℕ → A → List ℕ = λ k y. f k y (slice_index ns k) (slice_index ms k) in
    let size : 0 + length (take n xs) ≡ n = omega (arith, length-take n xs) in
    let old : (k : ℕ) (y : A) → 0 ≤ k → k < 0 + length (take n xs) → g k y ≡ h k y =
    λ k y low high. ap (λ v. f k y v (slice_index (ms ++ b ∷ []) k)) (get_or_append_left ns (a ∷ []) 0 k (omega arith))
    ∙ ap (λ v. f k y (slice_index ns k) v) (get_or_append_left ms (b ∷ []) 0 k (omega arith)) in
    let seam : slice_index (ms ++ b ∷ []) n ≡ b = ap (λ k. slice_index (ms ++ b ∷ []) k) (sym many) ∙ get_or-append_seam ms b [] 0 in
    let new : g n x ≡ f n x a b =
    ap (λ v. f n x v (slice_index (ms ++ b ∷ []) n)) (get_or-append_seam ns a [] 0) ∙ ap (λ v. f n x a v) seam in
    ap (numbered g 0) (next_taken xs n (length (ns ++ a ∷ [])) x is (length-append ns (a ∷ [])))
    ∙ numbered-append g 0 (take n xs) (x ∷ [])
    ∙ ap (λ k. numbered g 0 (take n xs) ++ g k x ∷ []) size
    ∙ ap (λ w. numbered g 0 (take n xs) ++ w ∷ []) new
    ∙ ap (λ ws. ws ++ f n x a b ∷ []) (numbered_same g h 0 (take n xs) old)

-- a text with one more line
pub text_more : (ws : List (List ℕ)) (w text rest after : List ℕ) → text ≡ ended ws ++ rest → rest ≡ (w ++ codes "\n") ++ after
    → text ≡ ended (ws ++ w ∷ []) ++ after
text_more ws w text rest after was is =
    was ∙ ap (λ (z : List ℕ). ended ws ++ z) is ∙ sym (append_assoc (ended ws) (w ++ codes "\n") after)
    ∙ ap (λ (z : List ℕ). (ended ws ++ z) ++ after) (sym (append-nil (w ++ codes "\n")))
    ∙ ap (λ (z : List ℕ). z ++ after) (sym (ended-append ws (w ∷ [])))

-- delays and storages with one more of each, and the text behind its line
pub record TensorMore (p : PlainProgram) (text ds ss rest : List ℕ) (n : ℕ) : Type 0 where
  pub count : length ds ≡ n
  pub told : AreTold p ds ss
  pub text_is : text ≡ ended (told_tensors p ds ss) ++ rest

pub tensor_more : (p : PlainProgram) (text ds ss rest after more many : List ℕ) (n a b : ℕ) (s : StagedTensor) → TensorMore p text ds ss rest n
    → slice_get (staged_tensors p) n ≡ Some s → a < delay_end → b < 2 ^ 64 → rest ≡ (tensor_line p n s a b ++ codes "\n") ++ after
    → more ≡ ds ++ a ∷ [] → many ≡ ss ++ b ∷ [] → TensorMore p text more many after (n + 1)
tensor_more p text ds ss rest after more many n a b s h at small fits next m k =
    let is : slice_get (staged_tensors p) (length ds) ≡ Some s = ap (slice_get (staged_tensors p)) h.count ∙ at in
    let line : rest ≡ (tensor_line p (length ds) s a b ++ codes "\n") ++ after =
    next ∙ ap (λ i. (tensor_line p i s a b ++ codes "\n") ++ after) (sym h.count) in
    let all : TensorMore p text (ds ++ a ∷ []) (ss ++ b ∷ []) after (n + 1) = record {
      count = omega (arith, h.count, length-append ds (a ∷ []));
      told = record {
        few = omega (arith, slice_get_within (staged_tensors p) (length ds) s is, length-append ds (a ∷ []));
        as_many = omega (arith, h.told.as_many, length-append ds (a ∷ []), length-append ss (b ∷ []));
        short = All-push (λ d. d < delay_end) ds a h.told.short small;
        small = All-push (λ i. i < 2 ^ 64) ss b h.told.small fits;
      };
      text_is = text_more (told_tensors p ds ss) (tensor_line p (length ds) s a b) text rest after h.text_is line
          ∙ ap (λ ws. ended ws ++ after) (sym (told_more (λ i t d c. tensor_line p i t d c) (staged_tensors p) ds ss a b s h.told.as_many is));
    } in
    subst (λ w. TensorMore p text w many after (n + 1)) (sym m) (subst (λ w. TensorMore p text (ds ++ a ∷ []) w after (n + 1)) (sym k) all)

-- a stop at the line of a tensor
pub tensor_stop : (p : PlainProgram) (text ds ss rest : List ℕ) (n before line : ℕ) (s : StagedTensor) → TensorMore p text ds ss rest n
    → slice_get (staged_tensors p) n ≡ Some s
    → ((d t : ℕ) → d < delay_end → t < 2 ^ 64 → GoesOn (tensor_line p n s d t ∷ []) rest → ⊥) → line ≡ before + n + 1 → IsTensorStop p text before line
tensor_stop p text ds ss rest n before line s h at none number = record {
  delays = ds;
  storages = ss;
  next = s;
  rest = rest;
  told = h.told;
  next_is = ap (slice_get (staged_tensors p)) h.count ∙ at;
  text_is = h.text_is;
  stops = λ d t a b g. none d t a b (subst (λ i. GoesOn (tensor_line p i s d t ∷ []) rest) h.count g);
  number = omega (arith, number, h.count);
}

-- holds and needs with one more of each, and the text behind its line
pub record ReadMore (rs : List Read) (ds text hold need rest : List ℕ) (n : ℕ) : Type 0 where
  pub count : length hold ≡ n
  pub told : AreReadsTold rs ds hold need
  pub text_is : text ≡ ended (told_reads rs ds hold need) ++ rest

pub read_more : (rs : List Read) (ds text hold need rest after more many : List ℕ) (n a b : ℕ) (r : Read) → ReadMore rs ds text hold need rest n
    → slice_get rs n ≡ Some r → a < 2 ^ 32 → b < 2 ^ 32 → MeetsWindow ds r → rest ≡ (read_line n r (at_least_0 (age ds r)) a b ++ codes "\n") ++ after
    → more ≡ hold ++ a ∷ [] → many ≡ need ++ b ∷ [] → ReadMore rs ds text more many after (n + 1)
read_more rs ds text hold need rest after more many n a b r h at small fits met next m k =
    let is : slice_get rs (length hold) ≡ Some r = ap (slice_get rs) h.count ∙ at in
    let line : rest ≡ (read_line (length hold) r (at_least_0 (age ds r)) a b ++ codes "\n") ++ after =
    next ∙ ap (λ i. (read_line i r (at_least_0 (age ds r)) a b ++ codes "\n") ++ after) (sym h.count) in
    let all : ReadMore rs ds text (hold ++ a ∷ []) (need ++ b ∷ []) after (n + 1) = record {
      count = omega (arith, h.count, length-append hold (a ∷ []));
      told = record {
        few = omega (arith, slice_get_within rs (length hold) r is, length-append hold (a ∷ []));
        as_many = omega (arith, h.told.as_many, length-append hold (a ∷ []), length-append need (b ∷ []));
        meets = subst (All (MeetsWindow ds)) (sym (next_taken rs (length hold) (length (hold ++ a ∷ [])) r is (length-append hold (a ∷ []))))
            (All-push (MeetsWindow ds) (take (length hold) rs) r h.told.meets met);
        small_holds = All-push (λ i. i < 2 ^ 32) hold a h.told.small_holds small;
        small_needs = All-push (λ i. i < 2 ^ 32) need b h.told.small_needs fits;
      };
      text_is = text_more (told_reads rs ds hold need) (read_line (length hold) r (at_least_0 (age ds r)) a b) text rest after h.text_is line
          ∙ ap (λ ws. ended ws ++ after) (sym (told_more (λ i x u w. read_line i x (at_least_0 (age ds x)) u w) rs hold need a b r h.told.as_many is));
    } in
    subst (λ w. ReadMore rs ds text w many after (n + 1)) (sym m) (subst (λ w. ReadMore rs ds text (hold ++ a ∷ []) w after (n + 1)) (sym k) all)

-- a stop at the line of a read
pub read_stop : (rs : List Read) (ds text hold need rest : List ℕ) (n before line : ℕ) (r : Read) → ReadMore rs ds text hold need rest n
    → slice_get rs n ≡ Some r
    → ((h k : ℕ) → h < 2 ^ 32 → k < 2 ^ 32 → MeetsWindow ds r → GoesOn (read_line n r (at_least_0 (age ds r)) h k ∷ []) rest → ⊥)
    → line ≡ before + n + 1 → IsReadStop rs ds text before line
read_stop rs ds text hold need rest n before line r h at none number = record {
  hold = hold;
  need = need;
  next = r;
  rest = rest;
  told = h.told;
  next_is = ap (slice_get rs) h.count ∙ at;
  text_is = h.text_is;
  stops = λ x k a b m g. none x k a b m (subst (λ i. GoesOn (read_line i r (at_least_0 (age ds r)) x k ∷ []) rest) h.count g);
  number = omega (arith, number, h.count);
}
