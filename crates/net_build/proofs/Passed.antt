-- Which limit a plan passes.
use Rattle.std.proofs.Common.{◌≡◌, ℕ, ◌<◌, ◌≤◌, nat_lt, Option, Some, None, length, sym, ap, ◌∙◌, ⊎_elim, if◌then◌else◌}
use Rattle.std.proofs.lemmas.Bool.{cases_lt, lt-ltb, le-ltb}
use Rattle.net_shape.specs.Modules.{modules_of}
use Rattle.net_shape.specs.Plans.{Plan}
use Rattle.plan_net.specs.Limits.{most_modules}
use Rattle.soda_ir.specs.declared.limit.LimitKind.{LimitKind}
use Rattle.soda_ir.specs.declared.limit.LimitKind.TheVariants.{Delay, Reuse, Modules}
use Rattle.net_build.specs.Limits.{cells_held, greatest_delay, limit_passed, most_delay, most_reuse}

-- one limit, and those behind it
abbrev passed_or : (kind : LimitKind) (most n : ℕ) → Option (LimitKind × ℕ) → Option (LimitKind × ℕ)
passed_or kind most n later = if nat_lt most n then Some (kind, n) else later

passed : (kind : LimitKind) (most n : ℕ) (later : Option (LimitKind × ℕ)) → most < n → passed_or kind most n later ≡ Some (kind, n)
passed kind most n later h = ap (λ b. if b then Some (kind, n) else later) (lt-ltb most n h)

kept : (kind : LimitKind) (most n : ℕ) (later : Option (LimitKind × ℕ)) → n ≤ most → passed_or kind most n later ≡ later
kept kind most n later h = ap (λ b. if b then Some (kind, n) else later) (le-ltb most n h)

-- where none is passed, this one is kept, and those behind it are
kept_by : (kind : LimitKind) (most n : ℕ) (later : Option (LimitKind × ℕ)) → passed_or kind most n later ≡ None → (n ≤ most) × (later ≡ None)
kept_by kind most n later e =
    ⊎_elim (λ (h : most < n). absurd (no_some (kind, n) (sym (passed kind most n later h) ∙ e))) (λ (h : n ≤ most). (h, sym (kept kind most n later h) ∙ e))
    (cases_lt most n)
  where
    no_some : (x : LimitKind × ℕ) → Some x ≡ None → ⊥
    no_some x h = cc

module _ (p : Plan) where
  abbrev by_modules : Option (LimitKind × ℕ)
  by_modules = passed_or Modules most_modules (length (modules_of p)) None

  abbrev by_reuse : Option (LimitKind × ℕ)
  by_reuse = passed_or Reuse most_reuse (cells_held p) by_modules

  pub delay_passed : most_delay < greatest_delay p → limit_passed p ≡ Some (Delay, greatest_delay p)
  delay_passed h = passed Delay most_delay (greatest_delay p) by_reuse h

  pub reuse_passed : greatest_delay p ≤ most_delay → most_reuse < cells_held p → limit_passed p ≡ Some (Reuse, cells_held p)
  reuse_passed d h = kept Delay most_delay (greatest_delay p) by_reuse d ∙ passed Reuse most_reuse (cells_held p) by_modules h

  pub modules_passed : greatest_delay p ≤ most_delay → cells_held p ≤ most_reuse → most_modules < length (modules_of p)
      → limit_passed p ≡ Some (Modules, length (modules_of p))
  modules_passed d r h =
      kept Delay most_delay (greatest_delay p) by_reuse d ∙ kept Reuse most_reuse (cells_held p) by_modules r
      ∙ passed Modules most_modules (length (modules_of p)) None h

  pub none_passed : greatest_delay p ≤ most_delay → cells_held p ≤ most_reuse → length (modules_of p) ≤ most_modules → limit_passed p ≡ None
  none_passed d r h =
      kept Delay most_delay (greatest_delay p) by_reuse d ∙ kept Reuse most_reuse (cells_held p) by_modules r
      ∙ kept Modules most_modules (length (modules_of p)) None h

  pub none_where : limit_passed p ≡ None → (greatest_delay p ≤ most_delay) × (cells_held p ≤ most_reuse) × (length (modules_of p) ≤ most_modules)
  none_where e =
      let a = kept_by Delay most_delay (greatest_delay p) by_reuse e in
      let b = kept_by Reuse most_reuse (cells_held p) by_modules a.1 in
      let c = kept_by Modules most_modules (length (modules_of p)) None b.1 in
      (a.0, b.0, c.0)
