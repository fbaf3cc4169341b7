-- A cycle visits each module once, in firing order.
use Rattle.std.proofs.Common.{◌≡◌, ◌≢◌, ◌<◌, ◌≤◌, ◌+◌, ◌-◌, ℕ, zero, suc, Bool, cond, List, ◌++◌, length, length-set, length-append, length-drop, length-take-le, take, drop, get_or, set, refl, sym, ap, ◌∙◌, ⊎_elim, arith, get_or-set_same, get_or-set_other}
use Rattle.std.proofs.lemmas.Bool.{cases_Bool, cases_lt}
use Rattle.std.proofs.lemmas.List.{ext_get_or, get_or_append_left, get_or-append_right, get_or-take, get_or-drop}
use Rattle.net_ir.specs.declared.events.Turn.{Turn}
use Rattle.net_ir.specs.Nets.{Net}
use Rattle.net_ir.specs.States.{unmoved, turn_at}
use Rattle.net_ir.specs.CycleRun.{fires, fired_wholly, visit, met, cycle, VisitsEachOnce}

module _ (net : Net) (firings : ℕ) (stalled : List Bool) where
  -- a visit changes the module that is visited alone
  visit_other : (state : List Turn) (m n : ℕ) → n ≢ m → turn_at (visit net firings stalled state m) n ≡ turn_at state n
  unfolding visit
  visit_other state m n ne =
      ⊎_elim
      (λ b. ap (λ c. turn_at (cond c (set state m (fired_wholly (turn_at state m))) state) n) b
      ∙ get_or-set_other state m n (fired_wholly (turn_at state m)) unmoved ne)
      (λ b. ap (λ c. turn_at (cond c (set state m (fired_wholly (turn_at state m))) state) n) b)
      (cases_Bool (fires net firings stalled state m))

  visit_same : (state : List Turn) (m : ℕ) → m < length state
      → turn_at (visit net firings stalled state m) m ≡ cond (fires net firings stalled state m) (fired_wholly (turn_at state m)) (turn_at state m)
  unfolding visit
  visit_same state m h =
      ⊎_elim
      (λ b. ap (λ c. turn_at (cond c (set state m (fired_wholly (turn_at state m))) state) m) b
      ∙ get_or-set_same state m (fired_wholly (turn_at state m)) unmoved h ∙ sym (ap (λ c. cond c (fired_wholly (turn_at state m)) (turn_at state m)) b))
      (λ b. ap (λ c. turn_at (cond c (set state m (fired_wholly (turn_at state m))) state) m) b
      ∙ sym (ap (λ c. cond c (fired_wholly (turn_at state m)) (turn_at state m)) b))
      (cases_Bool (fires net firings stalled state m))

  length-visit : (state : List Turn) (m : ℕ) → length (visit net firings stalled state m) ≡ length state
  unfolding visit
  length-visit state m =
      ⊎_elim
      (λ b. ap (λ c. length (cond c (set state m (fired_wholly (turn_at state m))) state)) b ∙ length-set state m (fired_wholly (turn_at state m)))
      (λ b. ap (λ c. length (cond c (set state m (fired_wholly (turn_at state m))) state)) b)
      (cases_Bool (fires net firings stalled state m))

  length-met : (state : List Turn) (m : ℕ) → length (met net firings stalled state m) ≡ length state
  unfolding met
  length-met state zero = refl
  length-met state (suc m) = length-visit (met net firings stalled state m) m ∙ length-met state m

  -- modules that weren't visited yet are as they were
  met_later : (state : List Turn) (m n : ℕ) → m ≤ n → turn_at (met net firings stalled state m) n ≡ turn_at state n
  unfolding met
  met_later state zero n h = refl
  met_later state (suc m) n h = visit_other (met net firings stalled state m) m n (λ e. omega arith) ∙ met_later state m n (omega arith)

  -- modules that were visited stay as they are
  met_earlier : (state : List Turn) (m more n : ℕ) → n < m → turn_at (met net firings stalled state (more + m)) n ≡ turn_at (met net firings stalled state m) n
  unfolding met
  met_earlier state m zero n h = let e : 0 + m ≡ m = omega arith in ap (λ k. turn_at (met net firings stalled state k) n) e
  met_earlier state m (suc more) n h =
      let e : suc more + m ≡ suc (more + m) = omega arith in
      ap (λ k. turn_at (met net firings stalled state k) n) e
      ∙ visit_other (met net firings stalled state (more + m)) (more + m) n (λ x. omega arith) ∙ met_earlier state m more n h

  pub visits_each_once : (state : List Turn) → length state ≡ length net.modules → VisitsEachOnce net firings stalled state
  unfolding met
  visits_each_once state whole = record { meets = meets; leaves = leaves }
    where
      full : (m n : ℕ) → m ≤ length net.modules → n < m → turn_at (cycle net firings stalled state) n ≡ turn_at (met net firings stalled state m) n
      full m n h l =
          let e : length net.modules ≡ (length net.modules - m) + m = omega arith in
          ap (λ k. turn_at (met net firings stalled state k) n) e ∙ met_earlier state m (length net.modules - m) n l

      meets : (m : ℕ) → m < length net.modules → met net firings stalled state m ≡ take m (cycle net firings stalled state) ++ drop m state
      meets m h =
          let end : List Turn = cycle net firings stalled state in
          let front : length (take m end) ≡ m = length-take-le m end (omega (arith, length-met state (length net.modules))) in
          ext_get_or unmoved (met net firings stalled state m) (take m end ++ drop m state)
          (omega (arith, length-met state m, length-append (take m end) (drop m state), length-drop m state))
          (λ i l. ⊎_elim
          (λ less. sym (full m i (omega arith) less) ∙ sym (get_or_append_left (take m end) (drop m state) unmoved i (omega arith)
          ∙ get_or-take m end i unmoved less))
          (λ more. let at : m + (i - m) ≡ i = omega arith in
          met_later state m i more ∙ sym (get_or-append_right (take m end) (drop m state) m i unmoved front more ∙ get_or-drop m state (i - m) unmoved
          ∙ ap (λ k. get_or state k unmoved) at))
          (cases_lt i m))

      leaves : (m : ℕ) → m < length net.modules → turn_at (cycle net firings stalled state) m
          ≡ cond (fires net firings stalled (met net firings stalled state m) m) (fired_wholly (turn_at state m)) (turn_at state m)
      leaves m h =
          let now : List Turn = met net firings stalled state m in
          full (suc m) m (omega arith) (omega arith)
          ∙ visit_same now m (omega (arith, length-met state m))
          ∙ ap (λ t. cond (fires net firings stalled now m) (fired_wholly t) t) (met_later state m m (omega arith))
