-- A text has one refused line at most.
use Rattle.std.proofs.Common.{◌≡◌, ℕ, suc, ◌+◌, ◌<◌, ◌≤◌, ◌^◌, List, [], ◌∷◌, ◌++◌, length, take, drop, get_or, slice_get, slice_index, Some, refl, sym, ap, subst, ◌∙◌, codes, arith, append_assoc, length-append, ⊎_elim}
use Rattle.std.specs.List.{All}
use Rattle.std.proofs.Math.Seq.{drop-cons}
use Rattle.std.proofs.lemmas.Bool.{cases_lt}
use Rattle.std.proofs.lemmas.List.{append_cancel_left, drop_all, get_or-take, length-take, take-take}
use Rattle.std.proofs.lemmas.Option.{get_or_from_slice_get, slice_get_within}
use Rattle.delay_net.specs.Limits.{delay_end}
use Rattle.delay_net.specs.Windows.{MeetsWindow, age, at_least_0, total_storage}
use Rattle.delay_net.specs.declared.net.Read.{Read}
use Rattle.design_lines.specs.Lines.{GoesOn, IsWritten, program_lines}
use Rattle.design_lines.specs.PlanLines.{numbered, plan_lines, read_line, read_lines, tensor_line, total_line}
use Rattle.design_lines.proofs.CallerLemmas.{program_apart, read_apart, same_list, small_at}
use Rattle.design_reader.specs.Refused.{HasReads, HasTensors, HasTotal, IsRefusedBehind, IsRefusedLine, at_first, at_network, at_program, at_read, at_tensor, at_total, behind_program, design_of, lines_before, past_end, too_long}
use Rattle.design_reader.specs.Stops.{IsReadStop, IsStop, IsTensorStop}
use Rattle.design_reader.specs.Told.{AreReadsTold, AreTold, told_reads, told_tensors}
use Rattle.design_reader.specs.machine.Pieces.{IsEndStop, past, within}
use Rattle.design_reader.proofs.Unrefused.{all_tensors, goes_on, no_read_stop, no_stop_within, no_tensor_stop, no_total_stop, plan_flat, tensor_told, told_first}
use Rattle.module_text.specs.Designs.{IsDesign, PlainDesign}
use Rattle.module_text.specs.Texts.{Version, design_lines, lines_behind, lines_to_total}
use Rattle.module_text.proofs.CallerLemmas.{each_alone, same_plan}
use Rattle.soda_ir.specs.Program.{PlainProgram}
use Rattle.soda_print.specs.Canonical.{ended}
use Rattle.soda_print.proofs.CallerLemmas.{ended-append}
use Rattle.time_stages.specs.Staged.{staged_reads, staged_tensors, staged_widths}
use Rattle.time_stages.specs.declared.staging.StagedTensor.{StagedTensor}

-- what of a list's first stands at a number
at_taken : {A : Type 0} (xs : List A) (i j : ℕ) (a : A) → i < j → slice_get xs i ≡ Some a → get_or (take j xs) i a ≡ a
at_taken xs i j a lt at = get_or-take j xs i a lt ∙ get_or_from_slice_get xs i a a at

within_taken : {A : Type 0} (xs : List A) (i j : ℕ) → i < j → j ≤ length xs → i < length (take j xs)
within_taken xs i j lt le = omega (arith, lt, le, length-take j xs)

-- the line of the next of them
next_taken : {A : Type 0} (g : ℕ → A → List ℕ) (xs : List A) (i j : ℕ) (a : A) (x y : List ℕ) → i < j → j ≤ length xs → slice_get xs i ≡ Some a
    → x ≡ ended (numbered g i (drop i (take j xs))) ++ y → GoesOn (g i a ∷ []) x
next_taken g xs i j a x y lt le at e =
    let later = numbered g (suc i) (drop (suc i) (take j xs)) in
    let here : drop i (take j xs) ≡ a ∷ drop (suc i) (take j xs) =
    drop-cons (take j xs) i a (within_taken xs i j lt le) ∙ ap (λ b. b ∷ drop (suc i) (take j xs)) (at_taken xs i j a lt at) in
    goes_on (g i a) x (ended later ++ y)
    (e ∙ ap (λ zs. ended (numbered g i zs) ++ y) here ∙ append_assoc (g i a ++ codes "\n") (ended later) y)

-- of two numbers of first ones of a list the lesser's lines are the other's
fewer_told : {A : Type 0} (R : ℕ → Type 0) (f g : ℕ → A → List ℕ) (xs : List A) (i j : ℕ) (x y : List ℕ) → i ≤ j → j ≤ length xs
    → ((n : ℕ) (a : A) (u w : List ℕ) → n < i → (f n a ++ codes "\n") ++ u ≡ (g n a ++ codes "\n") ++ w → R n × (u ≡ w))
    → ended (numbered f 0 (take i xs)) ++ x ≡ ended (numbered g 0 (take j xs)) ++ y
    → ((n : ℕ) → n < i → R n) × (x ≡ ended (numbered g i (drop i (take j xs))) ++ y)
fewer_told R f g xs i j x y le most each e =
    told_first R f g (take j xs) i x y (omega (arith, length-take j xs)) each
    (ap (λ zs. ended (numbered f 0 zs) ++ x) (take-take i j xs le) ∙ e)

-- the same numbers at a number, of two and two lists
abbrev Both : (ws xs ys zs : List ℕ) → ℕ → Type 0
Both ws xs ys zs n = (slice_index ws n ≡ slice_index ys n) × (slice_index xs n ≡ slice_index zs n)

-- the line of a staged tensor, and of a read, with numbers of two lists
abbrev tensor_by : PlainProgram → (ds ss : List ℕ) → ℕ → StagedTensor → List ℕ
tensor_by p ds ss n s = tensor_line p n s (slice_index ds n) (slice_index ss n)

abbrev read_by : (ds hs ns : List ℕ) → ℕ → Read → List ℕ
read_by ds hs ns n r = read_line n r (at_least_0 (age ds r)) (slice_index hs n) (slice_index ns n)

below : (bound : ℕ) (xs : List ℕ) (n : ℕ) → bound ≤ 2 ^ 64 → 0 < bound → All (λ i. i < bound) xs → slice_index xs n < 2 ^ 64
below bound xs n le some all = omega (arith, small_at bound xs n some all, le)

-- fewer staged tensors that are told are the first of more of them
fewer_tensors : (p : PlainProgram) (text ds ss rest es ts tail : List ℕ) → AreTold p ds ss → AreTold p es ts → text ≡ ended (told_tensors p ds ss) ++ rest
    → text ≡ ended (told_tensors p es ts) ++ tail → length ds ≤ length es
    → ((n : ℕ) → n < length ds → Both ds ss es ts n)
    × (rest ≡ ended (numbered (tensor_by p es ts) (length ds) (drop (length ds) (take (length es) (staged_tensors p)))) ++ tail)
fewer_tensors p text ds ss rest es ts tail t u e f le =
    fewer_told (Both ds ss es ts) (tensor_by p ds ss) (tensor_by p es ts) (staged_tensors p) (length ds) (length es) rest tail le u.few
    (λ n s v w lt. tensor_told p n s (slice_index ds n) (slice_index ss n) (slice_index es n) (slice_index ts n) v w
    (below delay_end ds n (omega arith) (omega arith) t.short) (below (2 ^ 64) ss n (omega arith) (omega arith) t.small)
    (below delay_end es n (omega arith) (omega arith) u.short) (below (2 ^ 64) ts n (omega arith) (omega arith) u.small))
    (sym e ∙ f)

-- a text does not stop at a tensor that is told
no_stop_told : (p : PlainProgram) (text es ts tail : List ℕ) (before line : ℕ) (s : IsTensorStop p text before line) → AreTold p es ts
    → text ≡ ended (told_tensors p es ts) ++ tail → length (s.delays) < length es → ⊥
no_stop_told p text es ts tail before line s u f lt =
    let k = length (s.delays) in
    let m = fewer_tensors p text s.delays s.storages s.rest es ts tail s.told u s.text_is f (omega arith) in
    s.stops (slice_index es k) (slice_index ts k) (small_at delay_end es k (omega arith) u.short) (small_at (2 ^ 64) ts k (omega arith) u.small)
    (next_taken (tensor_by p es ts) (staged_tensors p) k (length es) s.next s.rest tail lt u.few s.next_is m.1)

-- staged tensors are told once
two_tensors : (p : PlainProgram) (text ds ss rest es ts tail : List ℕ) → HasTensors p text ds ss rest → HasTensors p text es ts tail
    → (ds ≡ es) × (ss ≡ ts) × (rest ≡ tail)
two_tensors p text ds ss rest es ts tail t u =
    let same : length ds ≡ length es = t.all ∙ sym u.all in
    let m = fewer_tensors p text ds ss rest es ts tail t.told u.told t.text_is u.text_is (omega (arith, same)) in
    let none : drop (length ds) (take (length es) (staged_tensors p)) ≡ [] =
    drop_all (length ds) (take (length es) (staged_tensors p)) (omega (arith, same, length-take (length es) (staged_tensors p))) in (
      same_list ds es same (λ n lt. (m.0 n lt).0),
      same_list ss ts (t.told.as_many ∙ same ∙ sym u.told.as_many) (λ n lt. (m.0 n (omega (arith, t.told.as_many))).1),
      m.1 ∙ ap (λ zs. ended (numbered (tensor_by p es ts) (length ds) zs) ++ tail) none,
    )

-- fewer reads that are told are the first of more of them
fewer_reads : (rs : List Read) (ds text hs ns rest gs ms tail : List ℕ) → AreReadsTold rs ds hs ns → AreReadsTold rs ds gs ms
    → text ≡ ended (told_reads rs ds hs ns) ++ rest → text ≡ ended (told_reads rs ds gs ms) ++ tail → length hs ≤ length gs
    → ((n : ℕ) → n < length hs → Both hs ns gs ms n)
    × (rest ≡ ended (numbered (read_by ds gs ms) (length hs) (drop (length hs) (take (length gs) rs))) ++ tail)
fewer_reads rs ds text hs ns rest gs ms tail t u e f le =
    fewer_told (Both hs ns gs ms) (read_by ds hs ns) (read_by ds gs ms) rs (length hs) (length gs) rest tail le u.few
    (λ n r v w lt h. let one = read_apart n r (at_least_0 (age ds r)) (slice_index hs n) (slice_index ns n) (slice_index gs n) (slice_index ms n) v w
    (below (2 ^ 32) hs n (omega arith) (omega arith) t.small_holds) (below (2 ^ 32) ns n (omega arith) (omega arith) t.small_needs)
    (below (2 ^ 32) gs n (omega arith) (omega arith) u.small_holds) (below (2 ^ 32) ms n (omega arith) (omega arith) u.small_needs) h in ((one.0, one.1), one.2))
    (sym e ∙ f)

-- a text does not stop at a read that is told
no_stop_read : (rs : List Read) (ds text gs ms tail : List ℕ) (before line : ℕ) (s : IsReadStop rs ds text before line) → AreReadsTold rs ds gs ms
    → text ≡ ended (told_reads rs ds gs ms) ++ tail → length (s.hold) < length gs → ⊥
no_stop_read rs ds text gs ms tail before line s u f lt =
    let k = length (s.hold) in
    let m = fewer_reads rs ds text s.hold s.need s.rest gs ms tail s.told u s.text_is f (omega arith) in
    let met : MeetsWindow ds s.next =
    subst (MeetsWindow ds) (at_taken rs k (length gs) s.next lt s.next_is) (u.meets k s.next (within_taken rs k (length gs) lt u.few)) in
    s.stops (slice_index gs k) (slice_index ms k) (small_at (2 ^ 32) gs k (omega arith) u.small_holds) (small_at (2 ^ 32) ms k (omega arith) u.small_needs) met
    (next_taken (read_by ds gs ms) rs k (length gs) s.next s.rest tail lt u.few s.next_is m.1)

-- reads are told once
two_reads : (p : PlainProgram) (ds text hs ns rest gs ms tail : List ℕ) → HasReads p ds text hs ns rest → HasReads p ds text gs ms tail
    → (hs ≡ gs) × (ns ≡ ms) × (rest ≡ tail)
two_reads p ds text hs ns rest gs ms tail t u =
    let rs = staged_reads p in
    let same : length hs ≡ length gs = t.all ∙ sym u.all in
    let m = fewer_reads rs ds text hs ns rest gs ms tail t.told u.told t.text_is u.text_is (omega (arith, same)) in
    let none : drop (length hs) (take (length gs) rs) ≡ [] =
    drop_all (length hs) (take (length gs) rs) (omega (arith, same, length-take (length gs) rs)) in (
      same_list hs gs same (λ n lt. (m.0 n lt).0),
      same_list ns ms (t.told.as_many ∙ same ∙ sym u.told.as_many) (λ n lt. (m.0 n (omega (arith, t.told.as_many))).1),
      m.1 ∙ ap (λ zs. ended (numbered (read_by ds gs ms) (length hs) zs) ++ tail) none,
    )

-- two stops among the lines of staged tensors
tensor_stops : (p : PlainProgram) (text : List ℕ) (before m n : ℕ) → IsTensorStop p text before m → IsTensorStop p text before n → m ≡ n
tensor_stops p text before m n s t =
    ⊎_elim (λ (lt : length (s.delays) < length (t.delays)). absurd (no_stop_told p text t.delays t.storages t.rest before m s t.told t.text_is lt))
    (λ (le : length (t.delays) ≤ length (s.delays)).
    ⊎_elim (λ (lt : length (t.delays) < length (s.delays)). absurd (no_stop_told p text s.delays s.storages s.rest before n t s.told s.text_is lt))
    (λ (ge : length (s.delays) ≤ length (t.delays)). omega (arith, le, ge, s.number, t.number)) (cases_lt (length (t.delays)) (length (s.delays))))
    (cases_lt (length (s.delays)) (length (t.delays)))

-- and of reads
read_stops : (rs : List Read) (ds text : List ℕ) (before m n : ℕ) → IsReadStop rs ds text before m → IsReadStop rs ds text before n → m ≡ n
read_stops rs ds text before m n s t =
    ⊎_elim (λ (lt : length (s.hold) < length (t.hold)). absurd (no_stop_read rs ds text t.hold t.need t.rest before m s t.told t.text_is lt))
    (λ (le : length (t.hold) ≤ length (s.hold)).
    ⊎_elim (λ (lt : length (t.hold) < length (s.hold)). absurd (no_stop_read rs ds text s.hold s.need s.rest before n t s.told s.text_is lt))
    (λ (ge : length (s.hold) ≤ length (t.hold)). omega (arith, le, ge, s.number, t.number)) (cases_lt (length (t.hold)) (length (s.hold))))
    (cases_lt (length (s.hold)) (length (t.hold)))

-- no stop at a tensor where all are told
tensor_or_all : (p : PlainProgram) (text ds ss rest : List ℕ) (before line : ℕ) → IsTensorStop p text before line → HasTensors p text ds ss rest → ⊥
tensor_or_all p text ds ss rest before line s t =
    no_stop_told p text ds ss rest before line s t.told t.text_is (omega (arith, t.all, slice_get_within (staged_tensors p) (length (s.delays)) s.next s.next_is))

read_or_all : (p : PlainProgram) (ds text hs ns rest : List ℕ) (before line : ℕ) → IsReadStop (staged_reads p) ds text before line → HasReads p ds text hs ns rest → ⊥
read_or_all p ds text hs ns rest before line s t =
    no_stop_read (staged_reads p) ds text hs ns rest before line s t.told t.text_is
    (omega (arith, t.all, slice_get_within (staged_reads p) (length (s.hold)) s.next s.next_is))

-- of two beginnings of one list the longer goes on with what follows the shorter
begins_longer : (xs ys : List (List ℕ)) (a : List ℕ) (ms ns : List (List ℕ)) → xs ++ a ∷ ms ≡ ys ++ ns → length xs < length ys
    → (zs : List (List ℕ)) × (ys ≡ xs ++ a ∷ zs)
begins_longer [] [] a ms ns e lt = absurd (omega arith)
begins_longer [] (y ∷ ys) a ms ns e lt = let same : y ≡ a = cc in (ys, ap (λ z. z ∷ ys) same)
begins_longer (x ∷ xs) [] a ms ns e lt = absurd (omega arith)
begins_longer (x ∷ xs) (y ∷ ys) a ms ns e lt =
    let same : y ≡ x = cc in
    let later : xs ++ a ∷ ms ≡ ys ++ ns = cc in
    let rest = begins_longer xs ys a ms ns later (omega arith) in
    (rest.0, ap (λ z. z ∷ ys) same ∙ ap (λ zs. x ∷ zs) rest.1)

-- a text does not stop before another stop
no_earlier : (lines : List (List ℕ)) (text : List ℕ) (before m n : ℕ) (s : IsStop lines text before m) (t : IsStop lines text before n)
    → length (s.kept) < length (t.kept) → ⊥
no_earlier lines text before m n s t lt =
    let more = begins_longer s.kept t.kept s.next s.after (t.next ∷ t.after) (sym s.lines_are ∙ t.lines_are) lt in
    let all : ended s.kept ++ s.rest ≡ ended s.kept ++ ((s.next ++ codes "\n") ++ (ended more.0 ++ t.rest)) =
    sym s.text_is ∙ t.text_is ∙ ap (λ ks. ended ks ++ t.rest) more.1 ∙ ap (λ (z : List ℕ). z ++ t.rest) (ended-append s.kept (s.next ∷ more.0))
    ∙ append_assoc (ended s.kept) (ended (s.next ∷ more.0)) t.rest
    ∙ ap (λ (z : List ℕ). ended s.kept ++ z) (append_assoc (s.next ++ codes "\n") (ended more.0) t.rest) in
    s.stops (goes_on s.next s.rest (ended more.0 ++ t.rest) (append_cancel_left (ended s.kept) s.rest ((s.next ++ codes "\n") ++ (ended more.0 ++ t.rest)) all))

stops_one : (lines : List (List ℕ)) (text : List ℕ) (before m n : ℕ) → IsStop lines text before m → IsStop lines text before n → m ≡ n
stops_one lines text before m n s t =
    ⊎_elim (λ (lt : length (s.kept) < length (t.kept)). absurd (no_earlier lines text before m n s t lt))
    (λ (le : length (t.kept) ≤ length (s.kept)).
    ⊎_elim (λ (lt : length (t.kept) < length (s.kept)). absurd (no_earlier lines text before n m t s lt))
    (λ (ge : length (s.kept) ≤ length (t.kept)). omega (arith, le, ge, s.number, t.number)) (cases_lt (length (t.kept)) (length (s.kept))))
    (cases_lt (length (s.kept)) (length (t.kept)))

ends_one : (lines : List (List ℕ)) (text : List ℕ) (before m n : ℕ) → IsEndStop lines text before m → IsEndStop lines text before n → m ≡ n
ends_one lines text before m n (within s) (within t) = stops_one lines text before m n s t
ends_one lines text before m n (within s) (past byte rest e) = absurd (no_stop_within lines text (byte ∷ rest) before m e s)
ends_one lines text before m n (past byte rest e) (within t) = absurd (no_stop_within lines text (byte ∷ rest) before n e t)
ends_one lines text before m n (past byte rest e) (past other more f) = refl

-- a refused line behind a program, those behind the total as one case
data Place (v : Version) (p : PlainProgram) (text : List ℕ) : ℕ → Type 0 where
  tensor : {line : ℕ} → IsTensorStop p text (lines_before p) line → Place v p text line
  read : {line : ℕ} (ds ss rest : List ℕ) → HasTensors p text ds ss rest
      → IsReadStop (staged_reads p) ds rest (lines_before p + length ds) line → Place v p text line
  total : (ds ss hs ns middle rest : List ℕ) → HasTensors p text ds ss middle → HasReads p ds middle hs ns rest
      → (HasTotal p ds ss hs ns rest → ⊥) → Place v p text (suc (lines_before p + length ds + length hs))
  later : {line : ℕ} (ds hs ns rest : List ℕ) → IsDesign (design_of p ds hs ns) → text ≡ ended (plan_lines p ds hs ns) ++ rest
      → IsEndStop (lines_behind v (design_of p ds hs ns)) rest (length (lines_to_total v (design_of p ds hs ns))) line → Place v p text line

place_of : (v : Version) (p : PlainProgram) (text : List ℕ) (line : ℕ) → IsRefusedBehind v p text line → Place v p text line
place_of v p text line (at_tensor s) = tensor s
place_of v p text line (at_read ds ss rest t s) = read ds ss rest t s
place_of v p text line (at_total ds ss hs ns middle rest t r none) = total ds ss hs ns middle rest t r none
place_of v p text line (at_network ds hs ns rest design is s) = later ds hs ns rest design is (within s)
place_of v p text line (past_end ds hs ns byte rest design is) =
    let d = design_of p ds hs ns in
    let a = plan_lines p ds hs ns in
    let b = lines_behind v d in
    let size : suc (length (lines_to_total v d) + length b) ≡ suc (length (design_lines v d)) = omega (arith, length-append (lines_to_total v d) b) in
    later ds hs ns (ended b ++ byte ∷ rest) design
    (is ∙ ap (λ (z : List ℕ). z ++ byte ∷ rest) (ended-append a b) ∙ append_assoc (ended a) (ended b) (byte ∷ rest))
    (subst (IsEndStop b (ended b ++ byte ∷ rest) (length (lines_to_total v d))) size (past byte rest refl))

-- the line of the total of a design
abbrev total_of : PlainDesign → List ℕ
total_of d = total_line (total_storage (staged_widths d.program) (staged_reads d.program) d.delays) ++ codes "\n"

-- what follows the line of the reads, and of the tensors, of a design
abbrev from_reads : PlainDesign → List ℕ → List ℕ
from_reads d rest = ended (read_lines d.program d.delays d.hold d.need) ++ (total_of d ++ rest)

tensor_or_later : (p : PlainProgram) (text ds hs ns rest : List ℕ) (before line : ℕ) → IsDesign (design_of p ds hs ns) → text ≡ ended (plan_lines p ds hs ns) ++ rest
    → IsTensorStop p text before line → ⊥
tensor_or_later p text ds hs ns rest before line design is s =
    let d = design_of p ds hs ns in
    no_tensor_stop d design text (from_reads d rest) before line (plan_flat d design text rest is) s

read_or_later : (p : PlainProgram) (text ds hs ns rest es ss middle : List ℕ) (line : ℕ) → IsDesign (design_of p ds hs ns) → text ≡ ended (plan_lines p ds hs ns) ++ rest
    → HasTensors p text es ss middle → IsReadStop (staged_reads p) es middle (lines_before p + length es) line → ⊥
read_or_later p text ds hs ns rest es ss middle line design is t s =
    let d = design_of p ds hs ns in
    let all = all_tensors d design text es ss middle (from_reads d rest) (plan_flat d design text rest is) t in
    no_read_stop d design middle (total_of d ++ rest) (lines_before p + length es) line all.2
    (subst (λ a. IsReadStop (staged_reads p) a middle (lines_before p + length es) line) all.0 s)

total_or_later : (p : PlainProgram) (text ds hs ns rest es ss gs ms middle last : List ℕ) → IsDesign (design_of p ds hs ns) → text ≡ ended (plan_lines p ds hs ns) ++ rest
    → HasTensors p text es ss middle → HasReads p es middle gs ms last → (HasTotal p es ss gs ms last → ⊥) → ⊥
total_or_later p text ds hs ns rest es ss gs ms middle last design is t r none =
    let d = design_of p ds hs ns in
    let all = all_tensors d design text es ss middle (from_reads d rest) (plan_flat d design text rest is) t in
    no_total_stop d design es ss gs ms middle last rest all.0 all.1 all.2 r none

-- no stop at a read where all are told
read_or_total : (p : PlainProgram) (text ds ss rest es ts middle gs ms last : List ℕ) (line : ℕ) → HasTensors p text ds ss rest
    → IsReadStop (staged_reads p) ds rest (lines_before p + length ds) line → HasTensors p text es ts middle → HasReads p es middle gs ms last → ⊥
read_or_total p text ds ss rest es ts middle gs ms last line t s u r =
    let same = two_tensors p text ds ss rest es ts middle t u in
    read_or_all p es middle gs ms last (lines_before p + length ds) line
    (subst (λ (z : List ℕ). IsReadStop (staged_reads p) es z (lines_before p + length ds) line) same.2
    (subst (λ a. IsReadStop (staged_reads p) a rest (lines_before p + length ds) line) same.0 s)) r

two_read_stops : (p : PlainProgram) (text ds ss rest es ts middle : List ℕ) (m n : ℕ) → HasTensors p text ds ss rest
    → IsReadStop (staged_reads p) ds rest (lines_before p + length ds) m → HasTensors p text es ts middle
    → IsReadStop (staged_reads p) es middle (lines_before p + length es) n → m ≡ n
two_read_stops p text ds ss rest es ts middle m n t s u r =
    let same = two_tensors p text ds ss rest es ts middle t u in
    read_stops (staged_reads p) es middle (lines_before p + length es) m n
    (subst (λ (z : List ℕ). IsReadStop (staged_reads p) es z (lines_before p + length es) m) same.2
    (subst (λ a. IsReadStop (staged_reads p) a rest (lines_before p + length a) m) same.0 s)) r

two_later : (v : Version) (p : PlainProgram) (text ds hs ns rest es gs ms more : List ℕ) (m n : ℕ) → IsDesign (design_of p ds hs ns)
    → text ≡ ended (plan_lines p ds hs ns) ++ rest → IsEndStop (lines_behind v (design_of p ds hs ns)) rest (length (lines_to_total v (design_of p ds hs ns))) m
    → IsDesign (design_of p es gs ms) → text ≡ ended (plan_lines p es gs ms) ++ more
    → IsEndStop (lines_behind v (design_of p es gs ms)) more (length (lines_to_total v (design_of p es gs ms))) n → m ≡ n
two_later v p text ds hs ns rest es gs ms more m n h is s k told t =
    let d = design_of p ds hs ns in
    let e = design_of p es gs ms in
    let both = same_plan d e (total_of d ++ rest) (total_of e ++ more) refl h k (sym (plan_flat d h text rest is) ∙ plan_flat e k text more told) in
    let rests : rest ≡ more = append_cancel_left (total_of e) rest more (ap (λ c. total_of c ++ rest) (sym both.0) ∙ both.1) in
    let s' : IsEndStop (lines_behind v e) more (length (lines_to_total v e)) m =
    subst (λ (z : List ℕ). IsEndStop (lines_behind v e) z (length (lines_to_total v e)) m) rests
    (subst (λ c. IsEndStop (lines_behind v c) rest (length (lines_to_total v c)) m) both.0 s) in
    ends_one (lines_behind v e) more (length (lines_to_total v e)) m n s' t

one_place : (v : Version) (p : PlainProgram) (text : List ℕ) (m n : ℕ) → Place v p text m → Place v p text n → m ≡ n
one_place v p text m n (tensor s) (tensor t) = tensor_stops p text (lines_before p) m n s t
one_place v p text m n (tensor s) (read ds ss rest t r) = absurd (tensor_or_all p text ds ss rest (lines_before p) m s t)
one_place v p text m n (tensor s) (total ds ss hs ns middle rest t r none) = absurd (tensor_or_all p text ds ss middle (lines_before p) m s t)
one_place v p text m n (tensor s) (later ds hs ns rest design is e) = absurd (tensor_or_later p text ds hs ns rest (lines_before p) m design is s)
one_place v p text m n (read ds ss rest t r) (tensor s) = absurd (tensor_or_all p text ds ss rest (lines_before p) n s t)
one_place v p text m n (read ds ss rest t r) (read es ts middle u q) = two_read_stops p text ds ss rest es ts middle m n t r u q
one_place v p text m n (read ds ss rest t r) (total es ts gs ms middle last u q none) = absurd (read_or_total p text ds ss rest es ts middle gs ms last m t r u q)
one_place v p text m n (read es ts middle u q) (later ds hs ns rest design is e) = absurd (read_or_later p text ds hs ns rest es ts middle m design is u q)
one_place v p text m n (total ds ss hs ns middle rest t r none) (tensor s) = absurd (tensor_or_all p text ds ss middle (lines_before p) n s t)
one_place v p text m n (total es ts gs ms middle last u q none) (read ds ss rest t r) = absurd (read_or_total p text ds ss rest es ts middle gs ms last n t r u q)
one_place v p text m n (total ds ss hs ns middle rest t r none) (total es ts gs ms far last u q never) = omega (arith, t.all, u.all, r.all, q.all)
one_place v p text m n (total es ts gs ms middle last u q none) (later ds hs ns rest design is e) =
    absurd (total_or_later p text ds hs ns rest es ts gs ms middle last design is u q none)
one_place v p text m n (later ds hs ns rest design is e) (tensor s) = absurd (tensor_or_later p text ds hs ns rest (lines_before p) n design is s)
one_place v p text m n (later ds hs ns rest design is e) (read es ts middle u q) = absurd (read_or_later p text ds hs ns rest es ts middle n design is u q)
one_place v p text m n (later ds hs ns rest design is e) (total es ts gs ms middle last u q none) =
    absurd (total_or_later p text ds hs ns rest es ts gs ms middle last design is u q none)
one_place v p text m n (later ds hs ns rest h is s) (later es gs ms more k told t) = two_later v p text ds hs ns rest es gs ms more m n h is s k told t

-- behind the first line, and the lines of a program
goes_behind : (v : Version) (bytes rest : List ℕ) (p : PlainProgram) → bytes ≡ ended (v.first ∷ program_lines p) ++ rest
    → bytes ≡ (v.first ++ codes "\n") ++ (ended (program_lines p) ++ rest)
goes_behind v bytes rest p e = e ∙ append_assoc (v.first ++ codes "\n") (ended (program_lines p)) rest

no_program_then : (v : Version) (bytes rest more : List ℕ) (p : PlainProgram) → bytes ≡ (v.first ++ codes "\n") ++ rest
    → ((q : PlainProgram) → IsWritten q → GoesOn (program_lines q) rest → ⊥) → IsWritten p → bytes ≡ ended (v.first ∷ program_lines p) ++ more → ⊥
no_program_then v bytes rest more p e none w f =
    none p w (more, append_cancel_left (v.first ++ codes "\n") rest (ended (program_lines p) ++ more) (sym e ∙ goes_behind v bytes more p f))

two_behind : (v : Version) (bytes rest more : List ℕ) (p q : PlainProgram) (m n : ℕ) → IsWritten p → bytes ≡ ended (v.first ∷ program_lines p) ++ rest
    → IsRefusedBehind v p rest m → IsWritten q → bytes ≡ ended (v.first ∷ program_lines q) ++ more → IsRefusedBehind v q more n → m ≡ n
two_behind v bytes rest more p q m n w e r u f s =
    let same = program_apart each_alone p q rest more w u
    (append_cancel_left (v.first ++ codes "\n") (ended (program_lines p) ++ rest) (ended (program_lines q) ++ more)
    (sym (goes_behind v bytes rest p e) ∙ goes_behind v bytes more q f)) in
    let r' : IsRefusedBehind v q more m =
    subst (λ (z : List ℕ). IsRefusedBehind v q z m) same.1 (subst (λ c. IsRefusedBehind v c rest m) same.0 r) in
    one_place v q more m n (place_of v q more m r') (place_of v q more n s)

-- a text has one refused line at most
pub one_line : (v : Version) (bytes : List ℕ) (m n : ℕ) → IsRefusedLine v bytes m → IsRefusedLine v bytes n → m ≡ n
one_line v bytes m n (too_long lt) (too_long gt) = refl
one_line v bytes m n (too_long lt) (at_first s none) = absurd (omega arith)
one_line v bytes m n (too_long lt) (at_program rest s e none) = absurd (omega arith)
one_line v bytes m n (too_long lt) (behind_program p rest s w e r) = absurd (omega arith)
one_line v bytes m n (at_first s none) (too_long lt) = absurd (omega arith)
one_line v bytes m n (at_first s none) (at_first t never) = refl
one_line v bytes m n (at_first s none) (at_program rest t e never) = absurd (none (goes_on v.first bytes rest e))
one_line v bytes m n (at_first s none) (behind_program p rest t w e r) = absurd (none (goes_on v.first bytes (ended (program_lines p) ++ rest) (goes_behind v bytes rest p e)))
one_line v bytes m n (at_program rest s e none) (too_long lt) = absurd (omega arith)
one_line v bytes m n (at_program rest s e none) (at_first t never) = absurd (never (goes_on v.first bytes rest e))
one_line v bytes m n (at_program rest s e none) (at_program more t f never) = refl
one_line v bytes m n (at_program rest s e none) (behind_program p more t w f r) = absurd (no_program_then v bytes rest more p e none w f)
one_line v bytes m n (behind_program p rest s w e r) (too_long lt) = absurd (omega arith)
one_line v bytes m n (behind_program p rest s w e r) (at_first t never) = absurd (never (goes_on v.first bytes (ended (program_lines p) ++ rest) (goes_behind v bytes rest p e)))
one_line v bytes m n (behind_program p more s w f r) (at_program rest t e none) = absurd (no_program_then v bytes rest more p e none w f)
one_line v bytes m n (behind_program p rest s w e r) (behind_program q more t u f k) = two_behind v bytes rest more p q m n w e r u f k
