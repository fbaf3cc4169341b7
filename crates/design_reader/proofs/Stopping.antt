-- Where a text stops to go on with lines: among those of one list, and of two.
use Rattle.std.proofs.Common.{◌≡◌, ◌≢◌, ℕ, suc, ◌+◌, ◌<◌, List, [], ◌∷◌, ◌++◌, length, take, drop, get_or, refl, sym, ap, subst, ◌∙◌, codes, arith, append_assoc, length-append, Err}
use Rattle.std.proofs.Math.Seq.{drop-cons}
use Rattle.std.proofs.lemmas.List.{length-take, take-append-drop}
use Rattle.design_lines.specs.PlanLines.{numbered}
use Rattle.soda_print.specs.Canonical.{ended}
use Rattle.soda_print.proofs.CallerLemmas.{ended-append}
use Rattle.net_ir.specs.Nets.{Net}
use Rattle.net_ir.specs.declared.network.Module.{Module}
use Rattle.net_ir.specs.declared.network.Queue.{Queue}
use Rattle.design_lines.specs.Lines.{GoesOn, module_line, network_lines, queue_line}
use Rattle.design_lines.proofs.CallerLemmas.{numbered-append, numbered_more, one_line}
use Rattle.design_reader.specs.Stops.{IfRefused, IsStop}
use Rattle.design_reader.specs.declared.fail.TextFail.{TextFail}
use Rattle.design_reader.specs.declared.fail.TextFail.TheVariants.{Refused, Memory}
use Rattle.design_reader.proofs.Telling.{count_numbered}

-- two lists of lines, one after the other
pub two_parts : (a b : List (List ℕ)) (text r₁ r₂ : List ℕ) → text ≡ ended a ++ r₁ → r₁ ≡ ended b ++ r₂ → text ≡ ended (a ++ b) ++ r₂
two_parts a b text r₁ r₂ h₁ h₂ =
    h₁ ∙ ap (λ (z : List ℕ). ended a ++ z) h₂ ∙ sym (append_assoc (ended a) (ended b) r₂) ∙ ap (λ (z : List ℕ). z ++ r₂) (sym (ended-append a b))

-- the text behind one more numbered line
pub lines_more : {A : Type 0} (f : ℕ → A → List ℕ) (xs : List A) (i : ℕ) (d : A) (text rest line after : List ℕ)
    → text ≡ ended (numbered f 0 (take i xs)) ++ rest → i < length xs → line ≡ f i (get_or xs i d) ++ codes "\n" → rest ≡ line ++ after
    → text ≡ ended (numbered f 0 (take (i + 1) xs)) ++ after
lines_more f xs i d text rest line after was lt here next =
    let before = ended (numbered f 0 (take i xs)) in
    was ∙ ap (λ (z : List ℕ). before ++ z) (next ∙ ap (λ (z : List ℕ). z ++ after) here)
    ∙ sym (append_assoc before (f i (get_or xs i d) ++ codes "\n") after)
    ∙ ap (λ (z : List ℕ). z ++ after) (sym (numbered_more f xs i d lt))

-- a list of numbered lines around one of them
lines_around : {A : Type 0} (f : ℕ → A → List ℕ) (xs : List A) (i : ℕ) (d : A) → i < length xs
    → numbered f 0 xs ≡ numbered f 0 (take i xs) ++ f i (get_or xs i d) ∷ numbered f (suc i) (drop (suc i) xs)
lines_around f xs i d lt =
    let x = get_or xs i d in
    let size : 0 + length (take i xs) ≡ i = omega (arith, length-take i xs) in
    ap (numbered f 0) (sym (take-append-drop i xs) ∙ ap (λ ys. take i xs ++ ys) (drop-cons xs i d lt))
    ∙ numbered-append f 0 (take i xs) (x ∷ drop (suc i) xs)
    ∙ ap (λ n. numbered f 0 (take i xs) ++ numbered f n (x ∷ drop (suc i) xs)) size

-- a stop at a numbered line
pub lines_stop : {A : Type 0} (f : ℕ → A → List ℕ) (xs : List A) (i : ℕ) (d : A) (text rest line : List ℕ) (before told : ℕ)
    → text ≡ ended (numbered f 0 (take i xs)) ++ rest → i < length xs → line ≡ f i (get_or xs i d) ++ codes "\n"
    → ((after : List ℕ) → rest ≢ line ++ after) → told ≡ before + i + 1 → IsStop (numbered f 0 xs) text before told
lines_stop f xs i d text rest line before told was lt here none number =
    let x = get_or xs i d in
    let kept = numbered f 0 (take i xs) in
    record {
      kept = kept;
      next = f i x;
      after = numbered f (suc i) (drop (suc i) xs);
      rest = rest;
      lines_are = lines_around f xs i d lt;
      text_is = was;
      stops = λ g. let l = one_line (f i x) rest g in none l.0 (l.1 ∙ ap (λ (z : List ℕ). z ++ l.0) (sym here));
      number = omega (arith, number, count_numbered f 0 (take i xs), length-take i xs);
    }

-- a stop in the first of two lists
pub stop_left : (a b : List (List ℕ)) (text : List ℕ) (before line : ℕ) → IsStop a text before line → IsStop (a ++ b) text before line
stop_left a b text before line s = record {
  kept = s.kept;
  next = s.next;
  after = s.after ++ b;
  rest = s.rest;
  lines_are = ap (λ (ws : List (List ℕ)). ws ++ b) s.lines_are ∙ append_assoc s.kept (s.next ∷ s.after) b;
  text_is = s.text_is;
  stops = s.stops;
  number = s.number;
}

-- a stop in the second
pub stop_right : (a b : List (List ℕ)) (text rest : List ℕ) (before middle line : ℕ) → text ≡ ended a ++ rest → middle ≡ before + length a
    → IsStop b rest middle line → IsStop (a ++ b) text before line
stop_right a b text rest before middle line is m s = record {
  kept = a ++ s.kept;
  next = s.next;
  after = s.after;
  rest = s.rest;
  lines_are = ap (λ (ws : List (List ℕ)). a ++ ws) s.lines_are ∙ sym (append_assoc a s.kept (s.next ∷ s.after));
  text_is = two_parts a s.kept text rest s.rest is s.text_is;
  stops = s.stops;
  number = omega (arith, s.number, m, length-append a s.kept);
}

-- a stop at a line alone
pub stop_one : (w text : List ℕ) (before line : ℕ) → (GoesOn (w ∷ []) text → ⊥) → line ≡ suc before → IsStop (w ∷ []) text before line
stop_one w text before line none number = record {
  kept = [];
  next = w;
  after = [];
  rest = text;
  lines_are = refl;
  text_is = refl;
  stops = none;
  number = omega (arith, number);
}

-- a refusal is told on
pub refused_on : (e : TextFail) (P Q : ℕ → Type 0) → ((n : ℕ) → P n → Q n) → IfRefused {A = ℕ} (Err e) P → IfRefused {A = ℕ} (Err e) Q
refused_on (Refused n) P Q f h = f n h
refused_on Memory P Q f h = tt

-- a stop among the lines of the modules of a network
pub network_stop_in_modules : (net : Net) (modules : List Module) (text : List ℕ) (before line : ℕ) → modules ≡ net.modules
    → IsStop (numbered module_line 0 modules) text before line → IsStop (network_lines net) text before line
network_stop_in_modules net modules text before line same s =
    stop_left (numbered module_line 0 net.modules) (numbered queue_line 0 net.queues ++ codes "end" ∷ []) text before line
    (subst (λ ms. IsStop (numbered module_line 0 ms) text before line) same s)

-- among those of its queues
pub network_stop_in_queues : (net : Net) (modules : List Module) (queues : List Queue) (text rest : List ℕ) (before line : ℕ) → modules ≡ net.modules
    → queues ≡ net.queues → text ≡ ended (numbered module_line 0 modules) ++ rest → IsStop (numbered queue_line 0 queues) rest (before + length modules) line
    → IsStop (network_lines net) text before line
network_stop_in_queues net modules queues text rest before line same also is s =
    let last = codes "end" ∷ [] in
    let in_queues : IsStop (numbered queue_line 0 net.queues ++ last) rest (before + length modules) line =
    stop_left (numbered queue_line 0 net.queues) last rest (before + length modules) line
    (subst (λ qs. IsStop (numbered queue_line 0 qs) rest (before + length modules) line) also s) in
    subst (λ ms. IsStop (numbered module_line 0 ms ++ (numbered queue_line 0 net.queues ++ last)) text before line) same
    (stop_right (numbered module_line 0 modules) (numbered queue_line 0 net.queues ++ last) text rest before (before + length modules) line is
    (omega (arith, count_numbered module_line 0 modules)) in_queues)

-- and at the last line
pub network_stop_at_end : (net : Net) (modules : List Module) (queues : List Queue) (text middle rest : List ℕ) (before : ℕ) → modules ≡ net.modules
    → queues ≡ net.queues → text ≡ ended (numbered module_line 0 modules) ++ middle → middle ≡ ended (numbered queue_line 0 queues) ++ rest
    → (GoesOn (codes "end" ∷ []) rest → ⊥) → IsStop (network_lines net) text before (before + length modules + length queues + 1)
network_stop_at_end net modules queues text middle rest before same also is more none =
    let last = codes "end" ∷ [] in
    let line : ℕ = before + length modules + length queues + 1 in
    let at_last : IsStop last rest (before + length modules + length queues) line =
    stop_one (codes "end") rest (before + length modules + length queues) line none (omega arith) in
    let in_rest : IsStop (numbered queue_line 0 queues ++ last) middle (before + length modules) line =
    stop_right (numbered queue_line 0 queues) last middle rest (before + length modules) (before + length modules + length queues) line more
    (omega (arith, count_numbered queue_line 0 queues)) at_last in
    let all : IsStop (numbered module_line 0 modules ++ (numbered queue_line 0 queues ++ last)) text before line =
    stop_right (numbered module_line 0 modules) (numbered queue_line 0 queues ++ last) text middle before (before + length modules) line is
    (omega (arith, count_numbered module_line 0 modules)) in_rest in
    subst (λ qs. IsStop (numbered module_line 0 net.modules ++ (numbered queue_line 0 qs ++ last)) text before line) also
    (subst (λ ms. IsStop (numbered module_line 0 ms ++ (numbered queue_line 0 queues ++ last)) text before line) same all)
