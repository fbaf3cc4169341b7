-- The modules that are ends, and what stalls stall of them.
use Rattle.std.proofs.Common.{◌≡◌, ◌≢◌, ◌<◌, ◌≤◌, ℕ, zero, suc, ◌+◌, Bool, true, false, ◌&&◌, ◌||◌, ◌==◌, List, [], ◌∷◌, ◌++◌, length, take, slice_get, slice_index_or, get_or, add-one, Option, Some, None, refl, sym, ◌∙◌, ap, arith, if◌then◌else◌, ⊎_elim}
use Rattle.std.specs.List.{All, cons_option, filter_map, list_any}
use Rattle.std.proofs.lemmas.Bool.{and_right, cases_lt, eq-eqb, ne_eqb}
use Rattle.std.proofs.lemmas.List.{append_assoc, get_or-map, length-map, take_more}
use Rattle.std.proofs.lemmas.List.Elements.{All-append, All-cons, All-head, All-nil, All-tail, All-weaker, filter_map-append}
use Rattle.std.proofs.lemmas.List.Folds.{list_any-append, list_any_none}
use Rattle.std.proofs.lemmas.Option.{slice_get-get_or}
use Rattle.soda_ir.specs.Points.{listed}
use Rattle.soda_ir.proofs.CallerLemmas.{known_list}
use Rattle.net_ir.specs.declared.network.Module.{Module}
use Rattle.net_ir.specs.declared.network.Module.TheVariants.{Sink}
use Rattle.time_stages.specs.declared.staging.StagedTensor.{StagedTensor}
use Rattle.sim_lines.specs.declared.stall.Stall.{Stall}
use Rattle.sim_lines.specs.declared.stalled.ModuleEnd.{ModuleEnd}
use Rattle.sim_lines.specs.declared.stalled.StalledModule.{StalledModule}
use Rattle.sim_lines.specs.Flags.{end_of, flags_in, is_listed, is_stalled}
use Rattle.sim_lines.specs.Timetable.{is_stalled_in}
use Rattle.sim_lines.specs.machine.Ends.{all_stalled, end_at, ends_before, is_end_in, stalled_by}

-- the end of a tensor, at a number
abbrev ended : (number : ℕ) → Option ℕ → List ModuleEnd
ended n end = elim end [ None ↦ [] | Some tensor ↦ record { tensor = tensor; number = n } ∷ [] ]

-- the ends of the module of a number, if there is such a module
abbrev added : List StagedTensor → (number : ℕ) → Option Module → List ModuleEnd
added staged n o = elim o [ None ↦ [] | Some x ↦ end_at staged n x ]

-- a tensor is this one, if there is one
abbrev is_it : (tensor : ℕ) → Option ℕ → Bool
is_it tensor end = elim end [ None ↦ false | Some t ↦ tensor == t ]

number_of : (n : ℕ) (end : Option ℕ) → All (λ e. e.number < suc n) (ended n end)
number_of n None = All-nil (λ (e : ModuleEnd). e.number < suc n)
number_of n (Some tensor) =
    All-cons (λ (e : ModuleEnd). e.number < suc n) (record { tensor = tensor; number = n }) [] (omega arith) (All-nil (λ (e : ModuleEnd). e.number < suc n))

numbers_added : (staged : List StagedTensor) (n : ℕ) (o : Option Module) → All (λ e. e.number < suc n) (added staged n o)
numbers_added staged n None = All-nil (λ (e : ModuleEnd). e.number < suc n)
numbers_added staged n (Some x) = number_of n (end_of staged x)

pub numbers_before : (staged : List StagedTensor) (modules : List Module) (n : ℕ) → All (λ e. e.number < n) (ends_before staged modules n)
unfolding ends_before
numbers_before staged modules zero = All-nil (λ (e : ModuleEnd). e.number < 0)
numbers_before staged modules (suc n) =
    All-append (λ (e : ModuleEnd). e.number < suc n) (ends_before staged modules n) (added staged n (slice_get modules n)) (All-weaker (λ (e : ModuleEnd). e.number < n) (λ (e : ModuleEnd). e.number < suc n) (λ e h. omega arith) (ends_before staged modules n) (numbers_before staged modules n)) (numbers_added staged n (slice_get modules n))

ended_here : (n tensor : ℕ) (end : Option ℕ) → is_end_in (ended n end) tensor n ≡ is_it tensor end
ended_here n tensor None = refl
ended_here n tensor (Some t) = both_true (tensor == t) (n == n) (eq-eqb n n refl)
  where
    both_true : (a b : Bool) → b ≡ true → (a && b || false) ≡ a
    both_true true b h = ap (λ c. c || false) h
    both_true false b h = refl

not_at : (ends : List ModuleEnd) (tensor m : ℕ) → All (λ e. e.number ≢ m) ends → is_end_in ends tensor m ≡ false
not_at ends tensor m h =
    list_any_none (λ e. tensor == e.tensor && e.number == m) ends (λ k d l. and_right (tensor == (get_or ends k d).tensor) ((get_or ends k d).number == m) (ne_eqb (get_or ends k d).number m (h k d l)))

ended_other : (n tensor m : ℕ) (end : Option ℕ) → n ≢ m → is_end_in (ended n end) tensor m ≡ false
ended_other n tensor m None ne = refl
ended_other n tensor m (Some t) ne = ap (λ b. b || false) (and_right (tensor == t) (n == m) (ne_eqb n m ne))

added_other : (staged : List StagedTensor) (n tensor m : ℕ) (o : Option Module) → n ≢ m → is_end_in (added staged n o) tensor m ≡ false
added_other staged n tensor m None ne = refl
added_other staged n tensor m (Some x) ne = ended_other n tensor m (end_of staged x) ne

or_false_right : (b c : Bool) → c ≡ false → (b || c) ≡ b
or_false_right true c h = refl
or_false_right false c h = h

-- a module among the first n is an end of a tensor exactly where it is listed
ends_are : (staged : List StagedTensor) (modules : List Module) (tensor n m : ℕ) (x : Module) → slice_get modules m ≡ Some x → m < n → is_end_in (ends_before staged modules n) tensor m ≡ is_it tensor (end_of staged x)
unfolding ends_before
ends_are staged modules tensor zero m x at h = absurd (omega arith)
ends_are staged modules tensor (suc n) m x at h =
    let test = λ (e : ModuleEnd). tensor == e.tensor && e.number == m in
    let before = ends_before staged modules n in
    let last = added staged n (slice_get modules n) in
    list_any-append test before last
    ∙ ⊎_elim (λ (l : m < n). or_false_right (is_end_in before tensor m) (is_end_in last tensor m) (added_other staged n tensor m (slice_get modules n) (λ e. absurd (omega arith))) ∙ ends_are staged modules tensor n m x at l) (λ (l : n ≤ m). let same : m ≡ n = omega arith in ap (λ b. b || is_end_in last tensor m) (not_at before tensor m (All-weaker (λ (e : ModuleEnd). e.number < n) (λ (e : ModuleEnd). e.number ≢ m) (λ e q w. absurd (omega arith)) before (numbers_before staged modules n))) ∙ (ap (λ o. is_end_in (added staged n o) tensor m) (ap (slice_get modules) (sym same) ∙ at) ∙ (ap (λ k. is_end_in (ended n (end_of staged x)) tensor k) same ∙ ended_here n tensor (end_of staged x)))) (cases_lt m n)

-- what a stall stalls of one end
stalled_one : (s : Stall) (e : ModuleEnd) (cycle m : ℕ) (b r : Bool) (rest : List StalledModule) → is_stalled_in rest cycle m ≡ (s.cycle == cycle && r) → is_stalled_in (cons_option (if b then Some (record { cycle = s.cycle; number = e.number }) else None) rest) cycle m ≡ (s.cycle == cycle && (b && e.number == m || r))
stalled_one s e cycle m true r rest h = both (s.cycle == cycle) (e.number == m) r (is_stalled_in rest cycle m) h
  where
    both : (a n r z : Bool) → z ≡ (a && r) → (a && n || z) ≡ (a && (n || r))
    both true n r z h = ap (λ c. n || c) h
    both false n r z h = h
stalled_one s e cycle m false r rest h = h

stalled_of : (s : Stall) (ends : List ModuleEnd) (cycle m : ℕ) → is_stalled_in (filter_map (stalled_by s) ends) cycle m ≡ (s.cycle == cycle && is_end_in ends s.tensor m)
stalled_of s [] cycle m = sym (and_right (s.cycle == cycle) false refl)
stalled_of s (e ∷ es) cycle m =
    stalled_one s e cycle m (s.tensor == e.tensor) (is_end_in es s.tensor m) (filter_map (stalled_by s) es) (stalled_of s es cycle m)

stalled_of_all : (ends : List ModuleEnd) (stalls : List Stall) (cycle m : ℕ) → is_stalled_in (all_stalled ends stalls) cycle m ≡ list_any (λ s. s.cycle == cycle && is_end_in ends s.tensor m) stalls
stalled_of_all ends [] cycle m = refl
stalled_of_all ends (s ∷ ss) cycle m =
    let all = all_stalled ends ss in
    let more = list_any (λ (t : Stall). t.cycle == cycle && is_end_in ends t.tensor m) ss in
    list_any-append (λ t. t.cycle == cycle && t.number == m) (filter_map (stalled_by s) ends) all
    ∙ (ap (λ b. b || is_stalled_in all cycle m) (stalled_of s ends cycle m)
    ∙ ap (λ b. (s.cycle == cycle && is_end_in ends s.tensor m) || b) (stalled_of_all ends ss cycle m))

-- the stalls that list what a module is the end of
listed_end : (stalls : List Stall) (cycle : ℕ) (end : Option ℕ) → list_any (λ s. s.cycle == cycle && is_it s.tensor end) stalls ≡ elim end [ None ↦ false | Some tensor ↦ is_listed stalls cycle tensor ]
listed_end stalls cycle None =
    list_any_none (λ s. s.cycle == cycle && false) stalls (λ k d h. and_right ((get_or stalls k d).cycle == cycle) false refl)
listed_end stalls cycle (Some t) = refl

same_tests : (p q : Stall → Bool) (stalls : List Stall) → ((s : Stall) → p s ≡ q s) → list_any p stalls ≡ list_any q stalls
same_tests p q [] h = refl
same_tests p q (s ∷ ss) h = cc (h s, same_tests p q ss h)

-- what is stalled of the ends among all modules
pub stalled_modules : (staged : List StagedTensor) (modules : List Module) (stalls : List Stall) (cycle m : ℕ) (d : Module) → m < length modules → is_stalled_in (all_stalled (ends_before staged modules (length modules)) stalls) cycle m ≡ is_stalled staged stalls cycle (slice_index_or modules m d)
stalled_modules staged modules stalls cycle m d h =
    let x = get_or modules m d in
    let ends = ends_before staged modules (length modules) in
    stalled_of_all ends stalls cycle m
    ∙ (same_tests (λ s. s.cycle == cycle && is_end_in ends s.tensor m) (λ s. s.cycle == cycle && is_it s.tensor (end_of staged x)) stalls (λ s. ap (λ b. s.cycle == cycle && b) (ends_are staged modules s.tensor (length modules) m x (slice_get-get_or modules m d h) h))
    ∙ listed_end stalls cycle (end_of staged x))

one_known : (n : ℕ) (s : Stall) (e : ModuleEnd) (b : Bool) (rest : List StalledModule) → e.number < n → All (λ t. t.number < n) rest → All (λ t. t.number < n) (cons_option (if b then Some (record { cycle = s.cycle; number = e.number }) else None) rest)
one_known n s e true rest h all =
    All-cons (λ (t : StalledModule). t.number < n) (record { cycle = s.cycle; number = e.number }) rest h all
one_known n s e false rest h all = all

known_of : (n : ℕ) (s : Stall) (ends : List ModuleEnd) → All (λ e. e.number < n) ends → All (λ t. t.number < n) (filter_map (stalled_by s) ends)
known_of n s [] h = All-nil (λ (t : StalledModule). t.number < n)
known_of n s (e ∷ es) h =
    one_known n s e (s.tensor == e.tensor) (filter_map (stalled_by s) es) (All-head (λ (e : ModuleEnd). e.number < n) e es h) (known_of n s es (All-tail (λ (e : ModuleEnd). e.number < n) e es h))

pub all_known : (n : ℕ) (ends : List ModuleEnd) (stalls : List Stall) → All (λ e. e.number < n) ends → All (λ t. t.number < n) (all_stalled ends stalls)
all_known n ends [] h = All-nil (λ (t : StalledModule). t.number < n)
all_known n ends (s ∷ ss) h =
    All-append (λ (t : StalledModule). t.number < n) (filter_map (stalled_by s) ends) (all_stalled ends ss) (known_of n s ends h) (all_known n ends ss h)

-- flags that say of each module whether it is stalled are those of the cycle
pub flags_are : (staged : List StagedTensor) (stalls : List Stall) (modules : List Module) (stalled : List StalledModule) (cycle n : ℕ) → n ≡ length modules → ((m : ℕ) (d : Module) → m < length modules → is_stalled_in stalled cycle m ≡ is_stalled staged stalls cycle (slice_index_or modules m d)) → listed (is_stalled_in stalled cycle) n ≡ flags_in staged stalls modules cycle
flags_are staged stalls modules stalled cycle n long each =
    sym (known_list (is_stalled_in stalled cycle) n (flags_in staged stalls modules cycle) false (length-map modules (is_stalled staged stalls cycle) ∙ sym long) (λ m h. let few : m < length modules = omega arith in get_or-map (is_stalled staged stalls cycle) modules m (Sink 0) false few ∙ sym (each m (Sink 0) few)))

-- the ends among one module more
pub ends_more : (staged : List StagedTensor) (modules : List Module) (n : ℕ) (d : Module) (now more : List ModuleEnd) → n < length modules → now ≡ ends_before staged modules n → more ≡ now ++ end_at staged n (get_or modules n d) → more ≡ ends_before staged modules (n + 1)
unfolding ends_before
ends_more staged modules n d now more h before step =
    step
    ∙ (ap (λ es. es ++ end_at staged n (get_or modules n d)) before
    ∙ (ap (λ o. ends_before staged modules n ++ added staged n o) (sym (slice_get-get_or modules n d h))
    ∙ ap (ends_before staged modules) (sym (add-one n))))

pub is_stalled_by : (s : Stall) (e : ModuleEnd) → s.tensor ≡ e.tensor → record { cycle = s.cycle; number = e.number } ∷ [] ≡ cons_option (stalled_by s e) []
is_stalled_by s e h =
    ap (λ b. cons_option (if b then Some (record { cycle = s.cycle; number = e.number }) else None) []) (sym (eq-eqb s.tensor e.tensor h))

pub is_passed_by : (s : Stall) (e : ModuleEnd) → s.tensor ≢ e.tensor → [] ≡ cons_option (stalled_by s e) []
is_passed_by s e h =
    ap (λ b. cons_option (if b then Some (record { cycle = s.cycle; number = e.number }) else None) []) (sym (ne_eqb s.tensor e.tensor h))

-- what a stall stalls of one end more
pub stalled_more : (s : Stall) (ends : List ModuleEnd) (i : ℕ) (d : ModuleEnd) (old now more : List StalledModule) → i < length ends → now ≡ old ++ filter_map (stalled_by s) (take i ends) → more ≡ now ++ cons_option (stalled_by s (get_or ends i d)) [] → more ≡ old ++ filter_map (stalled_by s) (take (i + 1) ends)
stalled_more s ends i d old now more h before step =
    let all = filter_map (stalled_by s) in
    let e = get_or ends i d in
    step
    ∙ (ap (λ ss. ss ++ all (e ∷ [])) before
    ∙ (append_assoc old (all (take i ends)) (all (e ∷ []))
    ∙ ap (λ ss. old ++ ss) (sym (filter_map-append (stalled_by s) (take i ends) (e ∷ [])) ∙ ap all (sym (take_more ends i d h)))))
