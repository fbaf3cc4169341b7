-- The machine reads each formula.
use Rattle.std.proofs.Common.{◌≡◌, ℕ, suc, ◌≤◌, ◌<◌, nat_le, true, false, List, [], ◌∷◌, ◌++◌, length, Option, Some, None, ℤ, refl, ◌∙◌, ap, arith, append_assoc}
use Rattle.std.proofs.lemmas.Option.{same_Some}
use Rattle.std.proofs.lemmas.Bool.{lt-leb, le-leb}
use Rattle.soda_words.specs.declared.operators.UnOp.TheVariants.{Abs}
use Rattle.soda_words.specs.declared.symbol.Symbol.{Symbol}
use Rattle.soda_words.specs.declared.symbol.Symbol.TheVariants.{OpenRound, CloseRound, Comma}
use Rattle.soda_words.specs.declared.token.Placed.{Placed}
use Rattle.soda_words.specs.declared.token.Token.TheVariants.{Sign}
use Rattle.soda_words.specs.declared.token.Word.{Word}
use Rattle.soda_formula.specs.Terms.{Term, literal, cell, value, unary, binary, choice, cast}
use Rattle.soda_formula.specs.Grammar.{Infix, infix_of, symbol_on, word_on, IsTerm, tighter, joined, prefixed, a_literal, bracketed, a_cast, an_abs, a_call, a_choice, a_cell, a_value, IsComponent, ahead, back, AreParted, last_item, item_before, AreIndexes, no_index, index_before}
use Rattle.soda_formula.specs.machine.Steps.{Frame, behind_prefix, behind_infix, in_group, in_cast, in_abs, in_first, in_second, in_test, in_then, in_else, Mode, wanted, called, whole, named, at_component, behind_component, indexed, State, Held, in_state, reduce, closing, parting, infix_after, sign_after, sign_begun, after, name_followed, index_followed, feed, feeds, then_feed, operand, word_mode, start, ends, left_alone, finished}
use Rattle.soda_formula.proofs.Words.{infix-level, infix-opening, word-cast, word-call, word-free}

pub feeds-append : (o : Option State) (ts us : List Placed) → feeds o (ts ++ us) ≡ feeds (feeds o ts) us
feeds-append o [] us = refl
feeds-append o (t ∷ ts) us = feeds-append (then_feed o t) ts us

pub feeds-none : (ts : List Placed) → feeds None ts ≡ None
feeds-none [] = refl
feeds-none (t ∷ ts) = feeds-none ts

-- a formula of this level may stand behind these frames
abbrev pub Fits : ℕ → List Frame → Type 0
Fits l [] = Unit {0}
Fits l (behind_prefix op ∷ fs) = 9 ≤ l
Fits l (behind_infix k op a ∷ fs) = k < l
Fits l (f ∷ fs) = Unit {0}

pub fits-up : (l : ℕ) (fs : List Frame) → Fits l fs → Fits (suc l) fs
fits-up l [] h = tt
fits-up l (behind_prefix op ∷ fs) h = omega arith
fits-up l (behind_infix k op a ∷ fs) h = omega arith
fits-up l (f ∷ fs) h = tt

-- looser operators stay where they are
reduce-fits : (l : ℕ) (fs : List Frame) (t : Term) → Fits l fs → l ≤ 8 → reduce l fs t ≡ record { frames = fs; term = t }
reduce-fits l [] t h b = refl
reduce-fits l (behind_prefix op ∷ fs) t h b = absurd (omega arith)
reduce-fits l (behind_infix k op a ∷ fs) t h b = let e : nat_le l k ≡ false = lt-leb l k h in rw e
reduce-fits l (f ∷ fs) t h b = refl

-- the state behind the tokens of a term of this level, where these frames are around it
pub record Ends (l : ℕ) (fs : List Frame) (t : Term) (s : State) : Type 0 where
  pub term : Term
  pub operand_is : operand s.mode ≡ Some term
  pub same : (m : ℕ) → m ≤ l → reduce m s.frames term ≡ reduce m fs t

abbrev pub Reads : ℕ → List Frame → List Placed → Term → Type 0
Reads l fs ts t = (s : State) × (feeds (in_state wanted fs) ts ≡ Some s) × Ends l fs t s

after-infix : (fs : List Frame) (s : Symbol) (i : Infix) (u t : Term) → infix_of s ≡ Some i → u ≡ t → after fs u (Sign s) ≡ infix_after i (reduce i.level fs t)
after-infix fs s i u t e d =
    ap (λ o. sign_after o s fs u) e ∙ ap (λ x. infix_after i (reduce i.level fs x)) d

infix-step : (m : Mode) (fs : List Frame) (line : ℕ) (s : Symbol) (i : Infix) (t : Term) → infix_of s ≡ Some i → operand m ≡ Some t
    → feed m fs (symbol_on line s) ≡ infix_after i (reduce i.level fs t)
infix-step (whole u) fs line s i t e d = after-infix fs s i u t e (same_Some u t d)
infix-step (named w) fs line s i t e d =
    ap (λ o. name_followed o w fs (Sign s)) (infix-opening s i e) ∙ after-infix fs s i (value w []) t e (same_Some _ t d)
infix-step (indexed w is) fs line s i t e d =
    ap (λ o. index_followed o w is fs (Sign s)) (infix-opening s i e) ∙ after-infix fs s i (value w is) t e (same_Some _ t d)
infix-step _ fs line s i t e d = cc

pub close-step : (m : Mode) (fs : List Frame) (line : ℕ) (t : Term) (h : Held) → operand m ≡ Some t → reduce 0 fs t ≡ h
    → feed m fs (symbol_on line CloseRound) ≡ closing h.frames h.term
close-step (whole u) fs line t h d r =
    ap (λ (x : Held). closing x.frames x.term) (ap (reduce 0 fs) (same_Some u t d) ∙ r)
close-step (named w) fs line t h d r =
    ap (λ (x : Held). closing x.frames x.term) (ap (reduce 0 fs) (same_Some (value w []) t d) ∙ r)
close-step (indexed w is) fs line t h d r =
    ap (λ (x : Held). closing x.frames x.term) (ap (reduce 0 fs) (same_Some (value w is) t d) ∙ r)
close-step _ fs line t h d r = cc

pub part-step : (m : Mode) (fs : List Frame) (line : ℕ) (t : Term) (h : Held) → operand m ≡ Some t → reduce 0 fs t ≡ h
    → feed m fs (symbol_on line Comma) ≡ parting h.frames h.term
part-step (whole u) fs line t h d r =
    ap (λ (x : Held). parting x.frames x.term) (ap (reduce 0 fs) (same_Some u t d) ∙ r)
part-step (named w) fs line t h d r =
    ap (λ (x : Held). parting x.frames x.term) (ap (reduce 0 fs) (same_Some (value w []) t d) ∙ r)
part-step (indexed w is) fs line t h d r =
    ap (λ (x : Held). parting x.frames x.term) (ap (reduce 0 fs) (same_Some (value w is) t d) ∙ r)
part-step _ fs line t h d r = cc

go_on : (o : Option State) (ts us : List Placed) (p : Placed) (s : State) (next : Option State) → feeds o ts ≡ Some s → feed s.mode s.frames p ≡ next
    → feeds o (ts ++ p ∷ us) ≡ feeds next us
go_on o ts us p s next e d =
    feeds-append o ts (p ∷ us) ∙ ap (λ x. feeds (then_feed x p) us) e ∙ ap (λ x. feeds x us) d

-- a formula in brackets, to its end
closed-read : (f : Frame) (fs : List Frame) (ts : List Placed) (a u : Term) (line : ℕ) → Reads 0 (f ∷ fs) ts a
    → reduce 0 (f ∷ fs) a ≡ record { frames = f ∷ fs; term = a } → closing (f ∷ fs) a ≡ in_state (whole u) fs
    → feeds (in_state wanted (f ∷ fs)) (ts ++ symbol_on line CloseRound ∷ []) ≡ in_state (whole u) fs
closed-read f fs ts a u line r e c =
    go_on (in_state wanted (f ∷ fs)) ts [] (symbol_on line CloseRound) r.0 (closing (f ∷ fs) a) r.1
    (close-step r.0.mode r.0.frames line r.2.term (record { frames = f ∷ fs; term = a }) r.2.operand_is (r.2.same 0 (omega arith) ∙ e)) ∙ c

-- a formula in brackets, to its comma
parted-read : (f g : Frame) (fs : List Frame) (ts us : List Placed) (a : Term) (line : ℕ) → Reads 0 (f ∷ fs) ts a
    → reduce 0 (f ∷ fs) a ≡ record { frames = f ∷ fs; term = a } → parting (f ∷ fs) a ≡ in_state wanted (g ∷ fs)
    → feeds (in_state wanted (f ∷ fs)) (ts ++ symbol_on line Comma ∷ us) ≡ feeds (in_state wanted (g ∷ fs)) us
parted-read f g fs ts us a line r e c =
    go_on (in_state wanted (f ∷ fs)) ts us (symbol_on line Comma) r.0 (parting (f ∷ fs) a) r.1
    (part-step r.0.mode r.0.frames line r.2.term (record { frames = f ∷ fs; term = a }) r.2.operand_is (r.2.same 0 (omega arith) ∙ e))
    ∙ ap (λ x. feeds x us) c

whole-ends : (l : ℕ) (fs : List Frame) (t : Term) → Ends l fs t (record { mode = whole t; frames = fs })
whole-ends l fs t = record { term = t; operand_is = refl; same = λ m h. refl }

component-read : {ts : List Placed} {z : ℤ} → IsComponent ts z → (w : Word) (zs : List ℤ) (fs : List Frame)
    → feeds (in_state (at_component w zs) fs) ts ≡ in_state (behind_component w (zs ++ z ∷ [])) fs
component-read (ahead line n) w zs fs = refl
component-read (back minus line n) w zs fs = refl

components-read : {ts : List Placed} {others : List ℤ} → AreParted IsComponent ts others → (w : Word) (zs : List ℤ) (fs : List Frame)
    → feeds (in_state (at_component w zs) fs) ts ≡ in_state (behind_component w (zs ++ others)) fs
components-read (last_item c) w zs fs = component-read c w zs fs
components-read (item_before {ts = ts} {us = us} {a = a} {others = others} line c rest) w zs fs =
    go_on (in_state (at_component w zs) fs) ts us (symbol_on line Comma) (record { mode = behind_component w (zs ++ a ∷ []); frames = fs })
    (in_state (at_component w (zs ++ a ∷ [])) fs) (component-read c w zs fs) refl
    ∙ components-read rest w (zs ++ a ∷ []) fs
    ∙ ap (λ x. in_state (behind_component w x) fs) (append_assoc zs (a ∷ []) others)

indexes-read : {ts : List Placed} {is : List ℕ} → AreIndexes ts is → length is ≤ 2 → (w : Word) (fs : List Frame)
    → (s : State) × (feeds (in_state (named w) fs) ts ≡ Some s) × Ends 10 fs (value w is) s
indexes-read no_index h w fs =
    (record { mode = named w; frames = fs }, refl, record { term = value w []; operand_is = refl; same = λ m h. refl })
indexes-read (index_before {indexes = is} o l n c no_index) h w fs =
    (record { mode = indexed w (n ∷ []); frames = fs }, refl, record { term = value w (n ∷ []); operand_is = refl; same = λ m h. refl })
indexes-read (index_before o l n c (index_before o' l' n' c' no_index)) h w fs =
    (record { mode = indexed w (n ∷ n' ∷ []); frames = fs }, refl, record { term = value w (n ∷ n' ∷ []); operand_is = refl; same = λ m h. refl })
indexes-read (index_before o l n c (index_before o' l' n' c' (index_before {indexes = is} o2 l2 n2 c2 x))) h w fs = absurd (omega arith)

word_read : (w : Word) (m : Mode) (fs : List Frame) (ts : List Placed) → word_mode w ≡ m
    → feeds (in_state wanted fs) (word_on w ∷ ts) ≡ feeds (in_state m fs) ts
word_read w m fs ts e = ap (λ x. feeds (in_state x fs) ts) e

pub completes : {l : ℕ} {ts : List Placed} {t : Term} → IsTerm l ts t → (fs : List Frame) → Fits l fs → Reads l fs ts t
completes (tighter {level = l} x) fs f =
    let r = completes x fs (fits-up l fs f) in
    (r.0, r.1, record { term = r.2.term; operand_is = r.2.operand_is; same = λ m h. r.2.same m (omega arith) })
completes (joined {level = l} {ts = ts} {us = us} {a = a} {b = b} line s op e x y) fs f =
    let low : l ≤ 8 = infix-level s (record { level = l; op = op }) e in
    let r = completes x fs f in
    let q = completes y (behind_infix l op a ∷ fs) (omega arith) in
    let here : reduce l r.0.frames r.2.term ≡ record { frames = fs; term = a } = r.2.same l (omega arith) ∙ reduce-fits l fs a f low in
    let step : feed r.0.mode r.0.frames (symbol_on line s) ≡ in_state wanted (behind_infix l op a ∷ fs) = infix-step r.0.mode r.0.frames line s
    (record { level = l; op = op }) r.2.term e r.2.operand_is ∙ ap (infix_after (record { level = l; op = op })) here in (
      q.0,
      go_on (in_state wanted fs) ts us (symbol_on line s) r.0 _ r.1 step
          ∙ q.1,
      record {
        term = q.2.term;
        operand_is = q.2.operand_is;
        same = λ m h. q.2.same m (omega arith)
            ∙ (let k : nat_le m l ≡ true = le-leb m l h in rw k);
      },
    )
completes (prefixed {ts = ts} {a = a} line s op e x) fs f =
    let r = completes x (behind_prefix op ∷ fs) (omega arith) in
    (r.0, ap (λ o. feeds (sign_begun o s fs) ts) e ∙ r.1, record { term = r.2.term; operand_is = r.2.operand_is; same = λ m h. r.2.same m h })
completes (a_literal line n) fs f = (record { mode = whole (literal n); frames = fs }, refl, whole-ends 10 fs (literal n))
completes (bracketed {ts = ts} {a = a} opened closed x) fs f =
    (record { mode = whole a; frames = fs }, closed-read in_group fs ts a a closed (completes x (in_group ∷ fs) tt) refl refl, whole-ends 10 fs a)
completes (a_cast {ts = ts} {a = a} type opened closed e x) fs f = (
  record { mode = whole (cast type a); frames = fs },
  word_read type (called (in_cast type)) fs
      (symbol_on opened OpenRound ∷ (ts ++ symbol_on closed CloseRound ∷ [])) (word-cast type e)
      ∙ closed-read (in_cast type) fs ts a (cast type a) closed (completes x (in_cast type ∷ fs) tt) refl refl,
  whole-ends 10 fs (cast type a),
)
completes (an_abs {ts = ts} {a = a} line opened closed x) fs f = (
  record { mode = whole (unary Abs a); frames = fs },
  closed-read in_abs fs ts a (unary Abs a) closed
      (completes x (in_abs ∷ fs) tt) refl refl,
  whole-ends 10 fs (unary Abs a),
)
completes (a_call {ts = ts} {us = us} {a = a} {b = b} line opened comma closed op text e x y) fs f = (
  record { mode = whole (binary op a b); frames = fs },
  word_read (record { line = line; text = text }) (called (in_first op)) fs
      (symbol_on opened OpenRound ∷ (ts ++ symbol_on comma Comma ∷ (us ++ symbol_on closed CloseRound ∷ []))) (word-call line op text e)
      ∙ parted-read (in_first op) (in_second op a) fs ts (us ++ symbol_on closed CloseRound ∷ []) a comma
      (completes x (in_first op ∷ fs) tt) refl refl ∙ closed-read (in_second op a) fs us b (binary op a b) closed
      (completes y (in_second op a ∷ fs) tt) refl refl,
  whole-ends 10 fs (binary op a b),
)
completes (a_choice {ts = ts} {us = us} {vs = vs} {a = a} {b = b} {c = c} line opened first second closed x y z) fs f = (
  record { mode = whole (choice a b c); frames = fs },
  parted-read in_test (in_then a) fs ts
      (us ++ symbol_on second Comma ∷ (vs ++ symbol_on closed CloseRound ∷ [])) a first (completes x (in_test ∷ fs) tt) refl refl
      ∙ parted-read (in_then a) (in_else a b) fs us (vs ++ symbol_on closed CloseRound ∷ []) b second (completes y (in_then a ∷ fs) tt) refl refl
      ∙ closed-read (in_else a b) fs vs c (choice a b c) closed (completes z (in_else a b ∷ fs) tt) refl refl,
  whole-ends 10 fs (choice a b c),
)
completes (a_cell {ts = ts} {offsets = offsets} tensor e r) fs f = (
  record { mode = whole (cell tensor offsets); frames = fs },
  word_read tensor (named tensor) fs ts (word-free tensor e)
      ∙ ap (feeds (in_state (named tensor) fs)) r.is ∙ go_on (in_state (at_component tensor []) fs) r.inside [] (symbol_on r.closed CloseRound)
      (record { mode = behind_component tensor offsets; frames = fs }) (in_state (whole (cell tensor offsets)) fs)
      (components-read r.item tensor [] fs) refl,
  whole-ends 10 fs (cell tensor offsets),
)
completes (a_value {ts = ts} {indexes = is} param e r h) fs f =
    let q = indexes-read r h param fs in
    (q.0, word_read param (named param) fs ts (word-free param e) ∙ q.1, q.2)

-- behind a whole formula the machine may end, with that formula
pub formula-ends : (ts : List Placed) (a : Term) → IsTerm 0 ts a → ends (feeds start ts) ≡ Some a
formula-ends ts a x =
    let r = completes x [] tt in
    ap ends r.1 ∙ ap (λ o. finished o r.0.frames) r.2.operand_is ∙ ap left_alone (r.2.same 0 (omega arith))
