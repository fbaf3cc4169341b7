-- No text of a design has a refused line.
use Rattle.std.proofs.Common.{◌≡◌, ℕ, zero, suc, ◌+◌, ◌<◌, ◌≤◌, ◌^◌, nat_lt, Option, Some, None, List, [], ◌∷◌, ◌++◌, length, take, drop, slice_get, slice_index, refl, sym, ap, subst, ◌∙◌, codes, arith, append-nil, append_assoc, length-append, ⊎_elim, if◌then◌else◌}
use Rattle.std.specs.Fmt.{decimal}
use Rattle.std.specs.List.{All}
use Rattle.std.proofs.Math.Seq.{drop-cons}
use Rattle.std.proofs.lemmas.Bool.{cases_lt, lt-ltb, le-ltb}
use Rattle.std.proofs.lemmas.Fmt.{decimal_injective}
use Rattle.std.proofs.lemmas.List.{append_cancel_left, append_cancel_right, drop_all, length-map, length-take, take-append-drop}
use Rattle.std.proofs.lemmas.Option.{get_or_from_slice_get, slice_get_within}
use Rattle.delay_net.specs.Limits.{delay_end}
use Rattle.delay_net.specs.Sums.{sum_below}
use Rattle.delay_net.specs.Windows.{MeetsWindow, age, at_least_0, storage_of, total_storage}
use Rattle.delay_net.specs.declared.net.Read.{Read}
use Rattle.design_lines.specs.Lines.{GoesOn, program_lines}
use Rattle.design_lines.specs.PlanLines.{numbered, plan_lines, read_line, read_lines, tensor_front, tensor_line, tensor_lines, total_line}
use Rattle.design_lines.proofs.CallerLemmas.{program_apart, read_apart, same_list, small_at, tensor_apart}
use Rattle.design_reader.specs.Limits.{most_design_text}
use Rattle.design_reader.specs.Refused.{HasReads, HasTensors, HasTotal, IsRefusedBehind, IsRefusedLine, at_first, at_network, at_program, at_read, at_tensor, at_total, behind_program, design_of, lines_before, past_end, too_long}
use Rattle.design_reader.specs.Stops.{IsReadStop, IsStop, IsTensorStop}
use Rattle.design_reader.specs.Told.{AreReadsTold, AreStorages, AreTold, told_reads, told_tensors}
use Rattle.design_reader.proofs.Behind.{none_or_some}
use Rattle.module_text.specs.Designs.{IsDesign, PlainDesign}
use Rattle.module_text.specs.Texts.{IsDesignText, Version, lines_behind}
use Rattle.module_text.proofs.CallerLemmas.{each_alone, from_total, same_plan, text_flat}
use Rattle.net_build.specs.Limits.{cells_held, greatest_delay, most_delay, most_reuse}
use Rattle.net_build.specs.Planned.{kind_of, plan_of}
use Rattle.net_build.proofs.CallerLemmas.{widths_length}
use Rattle.net_shape.specs.Modules.{modules_of}
use Rattle.plan_net.specs.Limits.{most_modules}
use Rattle.soda_ir.specs.Program.{PlainProgram}
use Rattle.soda_ir.specs.declared.limit.LimitKind.{LimitKind}
use Rattle.soda_ir.specs.declared.limit.LimitKind.TheVariants.{Delay, Reuse, Modules}
use Rattle.soda_print.specs.Canonical.{ended}
use Rattle.soda_print.proofs.CallerLemmas.{ended-append}
use Rattle.time_stages.specs.Staged.{staged_reads, staged_tensors, staged_widths}
use Rattle.time_stages.specs.declared.staging.StagedTensor.{StagedTensor}

-- a text that goes on with a line
pub goes_on : (w text after : List ℕ) → text ≡ (w ++ codes "\n") ++ after → GoesOn (w ∷ []) text
goes_on w text after e = (after, e ∙ ap (λ (z : List ℕ). z ++ after) (sym (append-nil (w ++ codes "\n"))))

-- The first of numbered lines are told one by one, and what follows them.
told_in_part : {A : Type 0} (R : ℕ → Type 0) (f g : ℕ → A → List ℕ) (k : ℕ) (xs ys : List A) (x y : List ℕ)
    → ((n : ℕ) (a : A) (u w : List ℕ) → k ≤ n → n < k + length xs → (f n a ++ codes "\n") ++ u ≡ (g n a ++ codes "\n") ++ w → R n × (u ≡ w))
    → ended (numbered f k xs) ++ x ≡ ended (numbered g k (xs ++ ys)) ++ y
    → ((n : ℕ) → k ≤ n → n < k + length xs → R n) × (x ≡ ended (numbered g (k + length xs) ys) ++ y)
told_in_part R f g k [] ys x y each e =
    (λ n low high. absurd (omega arith), e ∙ ap (λ m. ended (numbered g m ys) ++ y) (omega arith))
told_in_part R f g k (a ∷ xs) ys x y each e =
    let flat : (f k a ++ codes "\n") ++ (ended (numbered f (suc k) xs) ++ x) ≡ (g k a ++ codes "\n") ++ (ended (numbered g (suc k) (xs ++ ys)) ++ y) =
    sym (append_assoc (f k a ++ codes "\n") (ended (numbered f (suc k) xs)) x) ∙ (e ∙ append_assoc (g k a ++ codes "\n") (ended (numbered g (suc k) (xs ++ ys))) y) in
    let first = each k a (ended (numbered f (suc k) xs) ++ x) (ended (numbered g (suc k) (xs ++ ys)) ++ y) (omega arith) (omega arith) flat in
    let rest = told_in_part R f g (suc k) xs ys x y (λ n b u w low high. each n b u w (omega arith) (omega arith)) first.1 in (
      λ n low high. ⊎_elim (λ (lt : k < n). rest.0 n (omega arith) (omega arith)) (λ (le : n ≤ k). let same : k ≡ n = omega arith in rw (sym same) first.0) (cases_lt k n),
      rest.1 ∙ ap (λ m. ended (numbered g m ys) ++ y) (omega arith),
    )

-- the same of the first of a list
pub told_first : {A : Type 0} (R : ℕ → Type 0) (f g : ℕ → A → List ℕ) (xs : List A) (i : ℕ) (x y : List ℕ) → i ≤ length xs
    → ((n : ℕ) (a : A) (u w : List ℕ) → n < i → (f n a ++ codes "\n") ++ u ≡ (g n a ++ codes "\n") ++ w → R n × (u ≡ w))
    → ended (numbered f 0 (take i xs)) ++ x ≡ ended (numbered g 0 xs) ++ y
    → ((n : ℕ) → n < i → R n) × (x ≡ ended (numbered g i (drop i xs)) ++ y)
told_first R f g xs i x y le each e =
    let size : length (take i xs) ≡ i = omega (arith, length-take i xs) in
    let all = told_in_part R f g 0 (take i xs) (drop i xs) x y (λ n a u w low high. each n a u w (omega (arith, size)))
    (e ∙ ap (λ zs. ended (numbered g 0 zs) ++ y) (sym (take-append-drop i xs))) in
    (λ n lt. all.0 n (omega arith) (omega (arith, size)), all.1 ∙ ap (λ m. ended (numbered g m (drop i xs)) ++ y) (omega (arith, size)))

-- behind the first comes the line of the next
next_told : {A : Type 0} (g : ℕ → A → List ℕ) (xs : List A) (i : ℕ) (a : A) (x y : List ℕ) → slice_get xs i ≡ Some a
    → x ≡ ended (numbered g i (drop i xs)) ++ y → GoesOn (g i a ∷ []) x
next_told g xs i a x y at e =
    let later = numbered g (suc i) (drop (suc i) xs) in
    let here : drop i xs ≡ a ∷ drop (suc i) xs =
    drop-cons xs i a (slice_get_within xs i a at) ∙ ap (λ b. b ∷ drop (suc i) xs) (get_or_from_slice_get xs i a a at) in
    goes_on (g i a) x (ended later ++ y)
    (e ∙ ap (λ zs. ended (numbered g i zs) ++ y) here ∙ append_assoc (g i a ++ codes "\n") (ended later) y)

-- and behind all comes what follows them
all_told : {A : Type 0} (g : ℕ → A → List ℕ) (xs : List A) (i : ℕ) (x y : List ℕ) → i ≡ length xs → x ≡ ended (numbered g i (drop i xs)) ++ y → x ≡ y
all_told g xs i x y all e = e ∙ ap (λ zs. ended (numbered g i zs) ++ y) (drop_all i xs (omega arith))

-- a line of a staged tensor tells its storage too
pub tensor_told : (p : PlainProgram) (n : ℕ) (s : StagedTensor) (a b m t : ℕ) (u w : List ℕ) → a < 2 ^ 64 → b < 2 ^ 64 → m < 2 ^ 64 → t < 2 ^ 64
    → (tensor_line p n s a b ++ codes "\n") ++ u ≡ (tensor_line p n s m t ++ codes "\n") ++ w → ((a ≡ m) × (b ≡ t)) × (u ≡ w)
tensor_told p n s a b m t u w ha hb hm ht e =
    let first = tensor_apart p n s a b m t u w ha hm e in
    let same : (tensor_line p n s a b ++ codes "\n") ++ u ≡ (tensor_line p n s a t ++ codes "\n") ++ u =
    e ∙ ap (λ k. (tensor_line p n s k t ++ codes "\n") ++ w) (sym first.0) ∙ ap (λ z. (tensor_line p n s a t ++ codes "\n") ++ z) (sym first.1) in
    let line : tensor_line p n s a b ≡ tensor_line p n s a t =
    append_cancel_right (tensor_line p n s a b) (tensor_line p n s a t) (codes "\n")
    (append_cancel_right (tensor_line p n s a b ++ codes "\n") (tensor_line p n s a t ++ codes "\n") u same) in
    let numbers : decimal a ++ (codes " storage " ++ decimal b) ≡ decimal a ++ (codes " storage " ++ decimal t) =
    append_cancel_left (tensor_front p n s) (decimal a ++ (codes " storage " ++ decimal b)) (decimal a ++ (codes " storage " ++ decimal t)) line in
    let last : codes " storage " ++ decimal b ≡ codes " storage " ++ decimal t =
    append_cancel_left (decimal a) (codes " storage " ++ decimal b) (codes " storage " ++ decimal t) numbers in
    ((first.0, decimal_injective b t hb ht (append_cancel_left (codes " storage ") (decimal b) (decimal t) last)), first.1)

-- a part of a sum is at most the sum
part_within : (n m : ℕ) (f : ℕ → ℕ) → n < m → f n ≤ sum_below m f
unfolding sum_below
part_within n zero f h = absurd (omega arith)
part_within n (suc m) f h =
    ⊎_elim (λ (lt : n < m). omega (arith, part_within n m f lt)) (λ (le : m ≤ n). let e : n ≡ m = omega arith in omega (arith, ap f e)) (cases_lt n m)

-- a limit that is not passed, and those behind it
kept_limit : (kind : LimitKind) (most n : ℕ) (later : Option (LimitKind × ℕ)) → (if nat_lt most n then Some (kind, n) else later) ≡ None
    → (n ≤ most) × (later ≡ None)
kept_limit kind most n later e =
    let P : _ → Option (LimitKind × ℕ) = λ b. if b then Some (kind, n) else later in
    ⊎_elim (λ (h : most < n). absurd (none_or_some _ _ (ap P (lt-ltb most n h)) e)) (λ (h : n ≤ most). (h, sym (ap P (le-ltb most n h)) ∙ e)) (cases_lt most n)

-- the storages of a design are small
small_storage : (d : PlainDesign) → IsDesign d → (n : ℕ) → n < length (staged_tensors d.program) → storage_of (staged_reads d.program) d.delays n < 2 ^ 64
small_storage d h n lt =
    let p = plan_of d.program d.delays in
    let by_modules : Option (LimitKind × ℕ) = if nat_lt most_modules (length (modules_of p)) then Some (Modules, length (modules_of p)) else None in
    let by_reuse : Option (LimitKind × ℕ) = if nat_lt most_reuse (cells_held p) then Some (Reuse, cells_held p) else by_modules in
    let first = kept_limit Delay most_delay (greatest_delay p) by_reuse h.within in
    let second = kept_limit Reuse most_reuse (cells_held p) by_modules first.1 in
    let size : length (p.kinds) ≡ length (staged_tensors d.program) = length-map (staged_tensors d.program) (kind_of d.program) in
    omega (arith, part_within n (length (p.kinds)) (storage_of (staged_reads d.program) d.delays) (omega (arith, size)), second.0)

-- and its modules are few
pub few_modules : (d : PlainDesign) → IsDesign d → length (modules_of (plan_of d.program d.delays)) ≤ most_modules
few_modules d h =
    let p = plan_of d.program d.delays in
    let by_modules : Option (LimitKind × ℕ) = if nat_lt most_modules (length (modules_of p)) then Some (Modules, length (modules_of p)) else None in
    let by_reuse : Option (LimitKind × ℕ) = if nat_lt most_reuse (cells_held p) then Some (Reuse, cells_held p) else by_modules in
    let first = kept_limit Delay most_delay (greatest_delay p) by_reuse h.within in
    let second = kept_limit Reuse most_reuse (cells_held p) by_modules first.1 in
    (kept_limit Modules most_modules (length (modules_of p)) None second.1).0

module _ (d : PlainDesign) (h : IsDesign d) where
  small_delay : (n : ℕ) → slice_index d.delays n < delay_end
  small_delay n = small_at delay_end d.delays n (omega arith) h.short

  -- the line of a staged tensor of the design
  abbrev tensor_of : ℕ → StagedTensor → List ℕ
  tensor_of n s = tensor_line d.program n s (slice_index d.delays n) (storage_of (staged_reads d.program) d.delays n)

  -- the line of a read of the design
  abbrev read_of : ℕ → Read → List ℕ
  read_of n r = read_line n r (at_least_0 (age d.delays r)) (slice_index d.hold n) (slice_index d.need n)

  -- tensors that are told are those of the design
  tensors_match : (ds ss rest tail : List ℕ) → AreTold d.program ds ss → ended (told_tensors d.program ds ss) ++ rest ≡ ended (tensor_lines d.program d.delays) ++ tail
      → ((n : ℕ) → n < length ds → (slice_index ds n ≡ slice_index d.delays n) × (slice_index ss n ≡ storage_of (staged_reads d.program) d.delays n))
      × (rest ≡ ended (numbered tensor_of (length ds) (drop (length ds) (staged_tensors d.program))) ++ tail)
  tensors_match ds ss rest tail t e =
      told_first (λ n. (slice_index ds n ≡ slice_index d.delays n) × (slice_index ss n ≡ storage_of (staged_reads d.program) d.delays n))
      (λ n s. tensor_line d.program n s (slice_index ds n) (slice_index ss n)) tensor_of (staged_tensors d.program) (length ds) rest tail t.few
      (λ n s u w lt. tensor_told d.program n s (slice_index ds n) (slice_index ss n) (slice_index d.delays n) (storage_of (staged_reads d.program) d.delays n) u w
      (omega (arith, small_at delay_end ds n (omega arith) t.short)) (small_at (2 ^ 64) ss n (omega arith) t.small) (omega (arith, small_delay n))
      (small_storage d h n (omega (arith, t.few)))) e

  -- reads that are told are those of the design
  reads_match : (hs ns rest tail : List ℕ) → AreReadsTold (staged_reads d.program) d.delays hs ns
      → ended (told_reads (staged_reads d.program) d.delays hs ns) ++ rest ≡ ended (read_lines d.program d.delays d.hold d.need) ++ tail
      → ((n : ℕ) → n < length hs → (slice_index hs n ≡ slice_index d.hold n) × (slice_index ns n ≡ slice_index d.need n))
      × (rest ≡ ended (numbered read_of (length hs) (drop (length hs) (staged_reads d.program))) ++ tail)
  reads_match hs ns rest tail t e =
      let small : (xs : List ℕ) → All (λ i. i < 2 ^ 32) xs → (n : ℕ) → slice_index xs n < 2 ^ 64 = λ xs all n. omega (arith, small_at (2 ^ 32) xs n (omega arith) all) in
      told_first (λ n. (slice_index hs n ≡ slice_index d.hold n) × (slice_index ns n ≡ slice_index d.need n))
      (λ n r. read_line n r (at_least_0 (age d.delays r)) (slice_index hs n) (slice_index ns n)) read_of (staged_reads d.program) (length hs) rest tail t.few
      (λ n r u w lt f. let one = read_apart n r (at_least_0 (age d.delays r)) (slice_index hs n) (slice_index ns n) (slice_index d.hold n) (slice_index d.need n) u w
      (small hs t.small_holds n) (small ns t.small_needs n) (small d.hold h.small_holds n) (small d.need h.small_needs n) f in ((one.0, one.1), one.2)) e

  -- all staged tensors are told
  pub all_tensors : (text ds ss rest tail : List ℕ) → text ≡ ended (tensor_lines d.program d.delays) ++ tail → HasTensors d.program text ds ss rest
      → (ds ≡ d.delays) × AreStorages (staged_reads d.program) d.delays ss × (rest ≡ tail)
  all_tensors text ds ss rest tail is t =
      let m = tensors_match ds ss rest tail t.told (sym t.text_is ∙ is) in (
        same_list ds d.delays (t.all ∙ sym (widths_length d.program) ∙ sym h.assignment) (λ n lt. (m.0 n lt).0),
        λ n lt. (m.0 n (omega (arith, t.told.as_many))).1,
        all_told tensor_of (staged_tensors d.program) (length ds) rest tail t.all m.1,
      )

  -- and all reads
  all_reads : (text hs ns rest tail : List ℕ) → text ≡ ended (read_lines d.program d.delays d.hold d.need) ++ tail → HasReads d.program d.delays text hs ns rest
      → (hs ≡ d.hold) × (ns ≡ d.need) × (rest ≡ tail)
  all_reads text hs ns rest tail is t =
      let m = reads_match hs ns rest tail t.told (sym t.text_is ∙ is) in (
        same_list hs d.hold (t.all ∙ sym h.holds) (λ n lt. (m.0 n lt).0),
        same_list ns d.need (t.told.as_many ∙ t.all ∙ sym h.needs) (λ n lt. (m.0 n (omega (arith, t.told.as_many))).1),
        all_told read_of (staged_reads d.program) (length hs) rest tail t.all m.1,
      )

  -- no line of a staged tensor is refused
  pub no_tensor_stop : (text tail : List ℕ) (before line : ℕ) → text ≡ ended (tensor_lines d.program d.delays) ++ tail → IsTensorStop d.program text before line → ⊥
  no_tensor_stop text tail before line is s =
      let m = tensors_match s.delays s.storages s.rest tail s.told (sym s.text_is ∙ is) in
      let k = length s.delays in
      s.stops (slice_index d.delays k) (storage_of (staged_reads d.program) d.delays k) (small_delay k)
      (small_storage d h k (slice_get_within (staged_tensors d.program) k s.next s.next_is))
      (next_told tensor_of (staged_tensors d.program) k s.next s.rest tail s.next_is m.1)

  -- nor that of a read
  pub no_read_stop : (text tail : List ℕ) (before line : ℕ) → text ≡ ended (read_lines d.program d.delays d.hold d.need) ++ tail
      → IsReadStop (staged_reads d.program) d.delays text before line → ⊥
  no_read_stop text tail before line is s =
      let m = reads_match s.hold s.need s.rest tail s.told (sym s.text_is ∙ is) in
      let rs = staged_reads d.program in
      let k = length s.hold in
      s.stops (slice_index d.hold k) (slice_index d.need k) (small_at (2 ^ 32) d.hold k (omega arith) h.small_holds) (small_at (2 ^ 32) d.need k (omega arith) h.small_needs)
      (subst (MeetsWindow d.delays) (get_or_from_slice_get rs k s.next s.next s.next_is) (h.meets k s.next (slice_get_within rs k s.next s.next_is)))
      (next_told read_of rs k s.next s.rest tail s.next_is m.1)

  -- nor that of the total
  pub no_total_stop : (ds ss hs ns text rest after : List ℕ) → ds ≡ d.delays → AreStorages (staged_reads d.program) d.delays ss
      → text ≡ ended (read_lines d.program d.delays d.hold d.need)
      ++ ((total_line (total_storage (staged_widths d.program) (staged_reads d.program) d.delays) ++ codes "\n") ++ after)
      → HasReads d.program ds text hs ns rest → (HasTotal d.program ds ss hs ns rest → ⊥) → ⊥
  no_total_stop ds ss hs ns text rest after same ages is t none =
      let total = total_line (total_storage (staged_widths d.program) (staged_reads d.program) d.delays) in
      let reads = all_reads text hs ns rest ((total ++ codes "\n") ++ after) is (subst (λ a. HasReads d.program a text hs ns rest) same t) in
      let all : HasTotal d.program d.delays ss d.hold d.need rest = record {
        ages = ages;
        fits = h.fits;
        within = h.within;
        line = goes_on total rest after reads.2;
      } in
      none (subst (λ a. HasTotal d.program a ss hs ns rest) (sym same) (subst (λ a. HasTotal d.program d.delays ss a ns rest) (sym reads.0)
      (subst (λ a. HasTotal d.program d.delays ss d.hold a rest) (sym reads.1) all)))

  -- a text that goes on with the lines of the plan of the design, part by part
  pub plan_flat : (text rest : List ℕ) → text ≡ ended (plan_lines d.program d.delays d.hold d.need) ++ rest
      → text ≡ ended (tensor_lines d.program d.delays) ++ (ended (read_lines d.program d.delays d.hold d.need)
      ++ ((total_line (total_storage (staged_widths d.program) (staged_reads d.program) d.delays) ++ codes "\n") ++ rest))
  plan_flat text rest is =
      let total = total_line (total_storage (staged_widths d.program) (staged_reads d.program) d.delays) in
      let a = tensor_lines d.program d.delays in
      let b = read_lines d.program d.delays d.hold d.need in
      is ∙ ap (λ (z : List ℕ). z ++ rest) (ended-append a (b ++ total ∷ []) ∙ ap (λ (z : List ℕ). ended a ++ z) (ended-append b (total ∷ [])
      ∙ ap (λ (z : List ℕ). ended b ++ z) (append-nil (total ++ codes "\n"))))
      ∙ append_assoc (ended a) (ended b ++ (total ++ codes "\n")) rest ∙ ap (λ (z : List ℕ). ended a ++ z) (append_assoc (ended b) (total ++ codes "\n") rest)

-- behind the lines of a plan come those of the network
plan_rest : (d : PlainDesign) → IsDesign d → (v : Version) (ds hs ns text rest : List ℕ) → IsDesign (design_of d.program ds hs ns)
    → text ≡ ended (tensor_lines d.program d.delays) ++ (ended (read_lines d.program d.delays d.hold d.need) ++ from_total v d)
    → text ≡ ended (plan_lines d.program ds hs ns) ++ rest → ended (lines_behind v (design_of d.program ds hs ns)) ≡ rest
plan_rest d h v ds hs ns text rest design is told =
    let e = design_of d.program ds hs ns in
    let total = total_line (total_storage (staged_widths d.program) (staged_reads d.program) ds) in
    let both = same_plan d e (from_total v d) ((total ++ codes "\n") ++ rest) refl h design (sym is ∙ plan_flat e design text rest told) in
    append_cancel_left (total ++ codes "\n") (ended (lines_behind v e)) rest (sym (ap (from_total v) both.0) ∙ both.1)

-- a text that goes on with all lines stops at none of them
pub no_stop_within : (lines : List (List ℕ)) (text rest : List ℕ) (before line : ℕ) → text ≡ ended lines ++ rest → IsStop lines text before line → ⊥
no_stop_within lines text rest before line is s =
    let all : ended s.kept ++ s.rest ≡ ended s.kept ++ ((s.next ++ codes "\n") ++ (ended s.after ++ rest)) =
    sym s.text_is ∙ is ∙ ap (λ ws. ended ws ++ rest) s.lines_are ∙ ap (λ (z : List ℕ). z ++ rest) (ended-append s.kept (s.next ∷ s.after))
    ∙ append_assoc (ended s.kept) (ended (s.next ∷ s.after)) rest
    ∙ ap (λ (z : List ℕ). ended s.kept ++ z) (append_assoc (s.next ++ codes "\n") (ended s.after) rest) in
    s.stops (goes_on s.next s.rest (ended s.after ++ rest) (append_cancel_left (ended s.kept) s.rest ((s.next ++ codes "\n") ++ (ended s.after ++ rest)) all))

-- nothing follows a text
nothing_past : (text rest : List ℕ) (byte : ℕ) → text ≡ text ++ byte ∷ rest → ⊥
nothing_past text rest byte e = absurd (omega (arith, ap length e, length-append text (byte ∷ rest)))

-- behind the lines of its program, no text of a design is refused
unrefused_behind : (v : Version) (d : PlainDesign) (text : List ℕ) (line : ℕ) → IsDesign d
    → text ≡ ended (tensor_lines d.program d.delays) ++ (ended (read_lines d.program d.delays d.hold d.need) ++ from_total v d)
    → IsRefusedBehind v d.program text line → ⊥
unrefused_behind v d text line h is (at_tensor s) =
    no_tensor_stop d h text (ended (read_lines d.program d.delays d.hold d.need) ++ from_total v d) (lines_before d.program) line is s
unrefused_behind v d text line h is (at_read ds ss rest t s) =
    let all = all_tensors d h text ds ss rest (ended (read_lines d.program d.delays d.hold d.need) ++ from_total v d) is t in
    no_read_stop d h rest (from_total v d) (lines_before d.program + length ds) line all.2
    (subst (λ a. IsReadStop (staged_reads d.program) a rest (lines_before d.program + length ds) line) all.0 s)
unrefused_behind v d text line h is (at_total ds ss hs ns middle rest t r none) =
    let all = all_tensors d h text ds ss middle (ended (read_lines d.program d.delays d.hold d.need) ++ from_total v d) is t in
    no_total_stop d h ds ss hs ns middle rest (ended (lines_behind v d)) all.0 all.1 all.2 r none
unrefused_behind v d text line h is (at_network ds hs ns rest design told s) =
    let e = design_of d.program ds hs ns in
    no_stop_within (lines_behind v e) rest [] _ line
    (sym (plan_rest d h v ds hs ns text rest design is told) ∙ sym (append-nil (ended (lines_behind v e)))) s
unrefused_behind v d text line h is (past_end ds hs ns byte rest design told) =
    let e = design_of d.program ds hs ns in
    let a = plan_lines d.program ds hs ns in
    let b = lines_behind v e in
    let flat : text ≡ ended a ++ (ended b ++ byte ∷ rest) =
    told ∙ ap (λ (z : List ℕ). z ++ byte ∷ rest) (ended-append a b) ∙ append_assoc (ended a) (ended b) (byte ∷ rest) in
    nothing_past (ended b) rest byte (plan_rest d h v ds hs ns text (ended b ++ byte ∷ rest) design is flat)

-- no text of a design is refused
pub unrefused : (v : Version) (bytes : List ℕ) (d : PlainDesign) (line : ℕ) → length bytes ≤ most_design_text → IsDesignText v bytes d
    → IsRefusedLine v bytes line → ⊥
unrefused v bytes d line short t (too_long lt) = absurd (omega arith)
unrefused v bytes d line short t (at_first s none) = none (goes_on v.first bytes _ (t.text ∙ text_flat v d))
unrefused v bytes d line short t (at_program rest s e none) =
    let behind = ended (tensor_lines d.program d.delays) ++ (ended (read_lines d.program d.delays d.hold d.need) ++ from_total v d) in
    none d.program t.program (behind, append_cancel_left (v.first ++ codes "\n") rest (ended (program_lines d.program) ++ behind) (sym e ∙ t.text ∙ text_flat v d))
unrefused v bytes d line short t (behind_program p rest s w e r) =
    let behind = ended (tensor_lines d.program d.delays) ++ (ended (read_lines d.program d.delays d.hold d.need) ++ from_total v d) in
    let first = v.first ++ codes "\n" in
    let both : ended (program_lines p) ++ rest ≡ ended (program_lines d.program) ++ behind =
    append_cancel_left first (ended (program_lines p) ++ rest) (ended (program_lines d.program) ++ behind)
    (sym (append_assoc first (ended (program_lines p)) rest) ∙ sym e ∙ t.text ∙ text_flat v d) in
    let parts = program_apart each_alone p d.program rest behind w t.program both in
    unrefused_behind v d rest line t.design parts.1 (subst (λ q. IsRefusedBehind v q rest line) parts.0 r)
