-- The line of a read, as it is read back.
use Rattle.std.proofs.Common.{◌≡◌, ℕ, ◌<◌, ◌^◌, List, [], ◌∷◌, ◌++◌, Option, Some, None, MatchOption, sym, ap, ◌∙◌, codes, arith, pos}
use Rattle.delay_net.specs.declared.net.Read.{Read}
use Rattle.delay_net.specs.Windows.{MeetsWindow, age, at_least_0}
use Rattle.design_lines.specs.PlanLines.{read_front, read_line}
use Rattle.design_lines.specs.declared.told.Amounts.{Amounts}
use Rattle.design_lines.specs.Lines.{GoesOn}
use Rattle.design_lines.specs.machine.Reading.{two_numbered}
use Rattle.design_lines.proofs.Pieces.{one_line}
use Rattle.design_lines.proofs.Plans.{read_apart, read_is}

-- a line with this front is that of the read, whose age is this
pub read_yes : (n : ℕ) (r : Read) (ds : List ℕ) (old : ℕ) (text rest : List ℕ) (a b : ℕ) → age ds r ≡ pos old
    → text ≡ (two_numbered (read_front n r old) (codes " need ") a b ++ codes "\n") ++ rest
    → text ≡ (read_line n r (at_least_0 (age ds r)) a b ++ codes "\n") ++ rest
read_yes n r ds old text rest a b is e =
    e ∙ ap (λ (l : List ℕ). (l ++ codes "\n") ++ rest) (sym (read_is n r old a b))
    ∙ ap (λ z. (read_line n r (at_least_0 z) a b ++ codes "\n") ++ rest) (sym is)

-- where there is no line with this front there is none of the read
pub read_none : (n : ℕ) (r : Read) (ds : List ℕ) (old : ℕ) (text : List ℕ) → age ds r ≡ pos old
    → ((a b : ℕ) → a < 2 ^ 64 → b < 2 ^ 64 → GoesOn (two_numbered (read_front n r old) (codes " need ") a b ∷ []) text → ⊥)
    → (a b : ℕ) → a < 2 ^ 32 → b < 2 ^ 32 → MeetsWindow ds r → GoesOn (read_line n r (at_least_0 (age ds r)) a b ∷ []) text → ⊥
read_none n r ds old text is none a b small fits met g =
    none a b (omega arith) (omega arith) (
      g.0,
      g.1 ∙ ap (λ z. ((read_line n r (at_least_0 z) a b ++ codes "\n") ++ []) ++ g.0) is
          ∙ ap (λ (l : List ℕ). ((l ++ codes "\n") ++ []) ++ g.0) (read_is n r old a b),
    )

-- a line of the read, where its two numbers fit, and none where one does not
pub read_case : (n : ℕ) (r : Read) (ds : List ℕ) (text rest : List ℕ) (a b : ℕ) (o : Option Amounts) → MeetsWindow ds r → a < 2 ^ 64 → b < 2 ^ 64
    → text ≡ (read_line n r (at_least_0 (age ds r)) a b ++ codes "\n") ++ rest
    → MatchOption o (a < 2 ^ 32 → b < 2 ^ 32 → ⊥)
    (λ t. (t.hold < 2 ^ 32) × (t.need < 2 ^ 32) × (t.hold ≡ a) × (t.need ≡ b) × (t.rest.now ≡ rest))
    → MatchOption o
    ((h m : ℕ) → h < 2 ^ 32 → m < 2 ^ 32 → MeetsWindow ds r → GoesOn (read_line n r (at_least_0 (age ds r)) h m ∷ []) text → ⊥)
    (λ t. (t.hold < 2 ^ 32) × (t.need < 2 ^ 32) × MeetsWindow ds r
    × (text ≡ (read_line n r (at_least_0 (age ds r)) t.hold t.need ++ codes "\n") ++ t.rest.now))
read_case n r ds text rest a b None met fa fb e none = λ h m sh sm w g.
    let l = one_line (read_line n r (at_least_0 (age ds r)) h m) text g in
    let told = read_apart n r (at_least_0 (age ds r)) a b h m rest l.0 fa fb (omega arith) (omega arith) (sym e ∙ l.1) in
    let first : a ≡ h = told.0 in
    let second : b ≡ m = told.1 in
    none (omega arith) (omega arith)
read_case n r ds text rest a b (Some t) met fa fb e h =
    let line = λ (x y : ℕ). read_line n r (at_least_0 (age ds r)) x y in (
      h.0,
      h.1,
      met,
      e ∙ ap (λ x. (line x b ++ codes "\n") ++ rest) (sym h.2) ∙ ap (λ y. (line t.hold y ++ codes "\n") ++ rest) (sym h.3)
          ∙ ap (λ (z : List ℕ). (line t.hold t.need ++ codes "\n") ++ z) (sym h.4),
    )
