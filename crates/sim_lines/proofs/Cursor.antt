-- The flags of a cycle and the stalls of modules, cycle by cycle.
use Rattle.std.proofs.Common.{◌≡◌, ◌≢◌, ◌<◌, ◌≤◌, ℕ, ◌+◌, ◌-◌, Bool, true, false, ◌&&◌, ◌||◌, ◌==◌, List, [], ◌∷◌, ◌++◌, length, take, drop, set, get_or, refl, sym, ◌∙◌, ap, subst, arith, slice_range, ⊎_elim}
use Rattle.std.specs.List.{All, AllWithin, HoldsAt, list_any}
use Rattle.std.specs.List.Sorted.{IsNonDecreasingBy}
use Rattle.std.proofs.lemmas.Bool.{and_left, cases_eq, cases_lt, eq-eqb, false_from_ne_true, false≢true, ne_eqb, or_right}
use Rattle.std.proofs.lemmas.List.{drop_all, drop_more, get_or-drop, get_or-set_other, get_or-set_same, get_or-take, length-drop, length-set, length-take, take-append-drop}
use Rattle.std.proofs.lemmas.List.Elements.{All-head, All-tail}
use Rattle.std.proofs.lemmas.List.Folds.{drop_split, list_any-append, list_any_more, list_any_none}
use Rattle.soda_ir.specs.Points.{listed}
use Rattle.soda_ir.proofs.CallerLemmas.{known_list}
use Rattle.sim_lines.specs.declared.stalled.StalledModule.{StalledModule}
use Rattle.sim_lines.specs.Timetable.{is_stalled_in}
use Rattle.sim_lines.specs.machine.Cursor.{AreSet, IsAt, is_among}

or_false : (b c : Bool) → c ≡ false → b ≡ (b || c)
or_false true c h = refl
or_false false c h = sym h

-- a flag more is set
pub marked_more : (stalled : List StalledModule) (i : ℕ) (s : StalledModule) (flags : List Bool) → i < length stalled → s ≡ get_or stalled i s → AreSet (take i stalled) flags → AreSet (take (i + 1) stalled) (set flags s.number true)
marked_more stalled i s flags within is marked = λ m h.
    let among = is_among (take i stalled) m in
    let more : is_among (take (i + 1) stalled) m ≡ (among || (s.number == m)) = list_any_more (λ t. t.number == m) stalled i s within ∙ ap (λ (t : StalledModule). among || (t.number == m)) (sym is) in
    let few : m < length flags = omega (arith, length-set flags s.number true) in
    ⊎_elim (λ (e : m ≡ s.number). let at : s.number < length flags = omega arith in ap (λ n. get_or (set flags s.number true) n false) e ∙ (get_or-set_same flags s.number true false at ∙ sym (more ∙ or_right among (s.number == m) (eq-eqb s.number m (sym e))))) (λ (ne : m ≢ s.number). get_or-set_other flags s.number m true false ne ∙ (marked m few ∙ (or_false among (s.number == m) (ne_eqb s.number m (λ e. ne (sym e))) ∙ sym more))) (cases_eq m s.number)

-- the flags that are set are of these modules
abbrev pub AreAmong : List StalledModule → (flags : List Bool) → Type 0
AreAmong stalled flags = (m : ℕ) → m < length flags → get_or flags m false ≡ true → is_among stalled m ≡ true

pub all_among : (stalled : List StalledModule) (flags : List Bool) → AreSet stalled flags → AreAmong stalled flags
all_among stalled flags marked = λ m h on. sym (marked m h) ∙ on

-- a flag less is set
pub cleared_more : (stalled : List StalledModule) (i : ℕ) (s : StalledModule) (flags : List Bool) → i < length stalled → s ≡ get_or stalled i s → AreAmong (drop i stalled) flags → AreAmong (drop (i + 1) stalled) (set flags s.number false)
cleared_more stalled i s flags within is among = λ m h on.
    let few : m < length flags = omega (arith, length-set flags s.number false) in
    ⊎_elim (λ (e : m ≡ s.number). let at : s.number < length flags = omega arith in absurd (false≢true (sym (ap (λ n. get_or (set flags s.number false) n false) e ∙ get_or-set_same flags s.number false false at) ∙ on))) (λ (ne : m ≢ s.number). ap (λ b. b || is_among (drop (i + 1) stalled) m) (sym (ap (λ (t : StalledModule). t.number == m) (sym is) ∙ ne_eqb s.number m (λ e. ne (sym e)))) ∙ (sym (ap (λ ss. is_among ss m) (drop_more stalled i s within)) ∙ among m few (sym (get_or-set_other flags s.number m false false ne) ∙ on))) (cases_eq m s.number)

pub none_among : (stalled : List StalledModule) (i : ℕ) (flags : List Bool) → length stalled ≤ i → AreAmong (drop i stalled) flags → AreSet [] flags
none_among stalled i flags past among = λ m h. false_from_ne_true (get_or flags m false) (λ on. false≢true (ap (λ ss. is_among ss m) (sym (drop_all i stalled past)) ∙ among m h on))

tests_agree : {X : Type 0} → (p q : X → Bool) (xs : List X) → All (λ x. p x ≡ q x) xs → list_any p xs ≡ list_any q xs
tests_agree p q [] h = refl
tests_agree p q (x ∷ xs) h = cc (All-head (λ x. p x ≡ q x) x xs h, tests_agree p q xs (All-tail (λ x. p x ≡ q x) x xs h))

-- The flags of a cycle say what is stalled in it.
module _ (stalled : List StalledModule) (first end cycle : ℕ) (flags : List Bool) (at : IsAt stalled first end cycle flags) where
  abbrev here : ℕ → StalledModule → Bool
  here m s = s.cycle == cycle && s.number == m

  none_before : (m : ℕ) → list_any (here m) (take first stalled) ≡ false
  none_before m =
      list_any_none (here m) (take first stalled) (λ k d h. let low : k < first = omega (arith, length-take first stalled) in ap (here m) (get_or-take first stalled k d low) ∙ and_left ((get_or stalled k d).cycle == cycle) ((get_or stalled k d).number == m) (ne_eqb (get_or stalled k d).cycle cycle (λ e. absurd (omega (arith, at.before k d (omega arith) low)))))

  none_after : (m : ℕ) → list_any (here m) (drop end stalled) ≡ false
  none_after m =
      list_any_none (here m) (drop end stalled) (λ k d h. let high : end + k < length stalled = omega (arith, length-drop end stalled) in ap (here m) (get_or-drop end stalled k d) ∙ and_left ((get_or stalled (end + k) d).cycle == cycle) ((get_or stalled (end + k) d).number == m) (ne_eqb (get_or stalled (end + k) d).cycle cycle (λ e. absurd (omega (arith, at.after (end + k) d (omega arith) high)))))

  all_now : (m : ℕ) → list_any (here m) (slice_range stalled first end) ≡ is_among (slice_range stalled first end) m
  all_now m =
      tests_agree (here m) (λ s. s.number == m) (slice_range stalled first end) (λ k d h. let low : k < end - first = omega (arith, length-take (end - first) (drop first stalled)) in let is : get_or (slice_range stalled first end) k d ≡ get_or stalled (first + k) d = get_or-take (end - first) (drop first stalled) k d low ∙ get_or-drop first stalled k d in let same : (get_or (slice_range stalled first end) k d).cycle ≡ cycle = ap (λ (s : StalledModule). s.cycle) is ∙ at.now (first + k) d (omega arith) (omega arith) in ap (λ b. b && (get_or (slice_range stalled first end) k d).number == m) (eq-eqb (get_or (slice_range stalled first end) k d).cycle cycle same))

  stalled_now : (m : ℕ) → is_stalled_in stalled cycle m ≡ is_among (slice_range stalled first end) m
  stalled_now m =
      let parts : stalled ≡ take first stalled ++ (slice_range stalled first end ++ drop end stalled) = sym (take-append-drop first stalled) ∙ ap (λ r. take first stalled ++ r) (drop_split stalled first end at.order) in
      ap (list_any (here m)) parts
      ∙ (list_any-append (here m) (take first stalled) (slice_range stalled first end ++ drop end stalled)
      ∙ (ap (λ b. b || list_any (here m) (slice_range stalled first end ++ drop end stalled)) (none_before m)
      ∙ (list_any-append (here m) (slice_range stalled first end) (drop end stalled)
      ∙ (sym (or_false (list_any (here m) (slice_range stalled first end)) (list_any (here m) (drop end stalled)) (none_after m))
      ∙ all_now m))))

  pub flags_now : flags ≡ listed (is_stalled_in stalled cycle) (length flags)
  flags_now = known_list (is_stalled_in stalled cycle) (length flags) flags false refl (λ m h. at.marked m h ∙ sym (stalled_now m))

-- The flags of the next cycle, where those that are stalled in it are marked.
pub at_next : (stalled : List StalledModule) (first end cycle count : ℕ) (flags : List Bool) → IsNonDecreasingBy (λ s. s.cycle) stalled → All (λ s. s.number < length flags) stalled → first ≤ length stalled → AllWithin (λ s. s.cycle < cycle) stalled 0 first → AllWithin (λ s. cycle ≤ s.cycle) stalled first (length stalled) → count ≤ length (drop first stalled) → AllWithin (λ s. s.cycle ≡ cycle) (drop first stalled) 0 count → (count < length (drop first stalled) → HoldsAt (λ s. s.cycle ≢ cycle) (drop first stalled) count) → AreSet (take count (drop first stalled)) flags → end ≡ first + count → IsAt stalled first end cycle flags
at_next stalled first end cycle count flags rising known least before later few now stop marked is =
    let long = length-drop first stalled in
    record {
      rising = rising;
      known = known;
      order = omega arith;
      within = omega arith;
      before = before;
      now = λ k d low high.
          let place : first + (k - first) ≡ k = omega arith in
          ap (λ (s : StalledModule). s.cycle) (ap (λ n. get_or stalled n d) (sym place) ∙ sym (get_or-drop first stalled (k - first) d)) ∙ now (k - first) d (omega arith) (omega arith);
      after = λ k d low high.
          let there : count < length (drop first stalled) = omega arith in
          let same : get_or (drop first stalled) count d ≡ get_or stalled end d = get_or-drop first stalled count d ∙ ap (λ n. get_or stalled n d) (sym is) in
          let ne : (get_or stalled end d).cycle ≢ cycle = λ e. stop there d (ap (λ (s : StalledModule). s.cycle) same ∙ e) in
          let least : cycle ≤ (get_or stalled end d).cycle = later end d (omega arith) (omega arith) in
          let rises : (get_or stalled end d).cycle ≤ (get_or stalled k d).cycle = rising end k d low high in
          omega arith;
      marked = λ m h. let count_is : count ≡ end - first = omega arith in marked m h ∙ ap (λ n. is_among (take n (drop first stalled)) m) count_is;
    }

-- one cycle on: those of the cycle before are past
pub past : (stalled : List StalledModule) (first end cycle : ℕ) (flags : List Bool) → IsAt stalled first end cycle flags → AllWithin (λ s. s.cycle < cycle + 1) stalled 0 end
past stalled first end cycle flags at = λ k d low high.
    ⊎_elim (λ (l : k < first). let b : (get_or stalled k d).cycle < cycle = at.before k d low l in omega arith) (λ (l : first ≤ k). let b : (get_or stalled k d).cycle ≡ cycle = at.now k d l high in omega arith) (cases_lt k first)

pub to_come : (stalled : List StalledModule) (first end cycle : ℕ) (flags : List Bool) → IsAt stalled first end cycle flags → AllWithin (λ s. cycle + 1 ≤ s.cycle) stalled end (length stalled)
to_come stalled first end cycle flags at = λ k d low high.
    let b : cycle < (get_or stalled k d).cycle = at.after k d low high in omega arith

-- the first of these entries, so many, are of a cycle and marked, and the next isn't of it
abbrev pub AreMarked : (cycle count : ℕ) (flags : List Bool) → (there : List StalledModule) → Type 0
AreMarked cycle count flags there =
    (count ≤ length there) × AllWithin (λ s. s.cycle ≡ cycle) there 0 count × (count < length there → HoldsAt (λ s. s.cycle ≢ cycle) there count) × AreSet (take count there) flags

-- one cycle on
pub advanced : (stalled there : List StalledModule) (first end cycle count : ℕ) (flags marked written : List Bool) → IsAt stalled first end cycle flags → there ≡ drop end stalled → length marked ≡ length flags → written ≡ marked → AreMarked (cycle + 1) count marked there → IsAt stalled end (end + count) (cycle + 1) written
advanced stalled there first end cycle count flags marked written at rest long same marks =
    let m = subst (AreMarked (cycle + 1) count marked) rest marks in
    let known : All (λ s. s.number < length marked) stalled = subst (λ n. All (λ (s : StalledModule). s.number < n) stalled) (sym long) at.known in
    subst (IsAt stalled end (end + count) (cycle + 1)) (sym same) (at_next stalled end (end + count) (cycle + 1) count marked at.rising known at.within (past stalled first end cycle flags at) (to_come stalled first end cycle flags at) m.0 m.1 m.2 m.3 refl)
