-- What the machine holds stands for the tokens that it read.
use Rattle.std.proofs.Common.{◌≡◌, ℕ, zero, suc, ◌+◌, ◌-◌, ◌≤◌, ◌<◌, nat_le, Bool, true, false, List, [], ◌∷◌, ◌++◌, length, codes, Option, Some, None, IfSome, ℤ, refl, sym, ◌∙◌, ap, subst, arith, append_assoc, if◌then◌else◌}
use Rattle.std.proofs.lemmas.Bool.{leb-true, leb-false}
use Rattle.soda_words.specs.Names.{is_cast_word, is_reserved}
use Rattle.soda_words.specs.declared.symbol.Symbol.{Symbol}
use Rattle.soda_words.specs.declared.symbol.Symbol.TheVariants.{MinusSign, OpenRound, CloseRound, OpenSquare, CloseSquare, Comma}
use Rattle.soda_words.specs.declared.token.Placed.{Placed}
use Rattle.soda_words.specs.declared.token.Token.{Token}
use Rattle.soda_words.specs.declared.token.Token.TheVariants.{Sign}
use Rattle.soda_formula.specs.Terms.{Term, unary, binary}
use Rattle.soda_formula.specs.Grammar.{Infix, infix_of, prefix_of, call_text, symbol_on, name_on, word_on, IsTerm, tighter, joined, prefixed, bracketed, a_cast, an_abs, a_call, a_choice, IsComponent, AreParted, AreIndexes}
use Rattle.soda_formula.specs.machine.Steps.{Frame, behind_prefix, behind_infix, in_group, in_cast, in_abs, in_first, in_second, in_test, in_then, in_else, Mode, wanted, called, whole, named, at_component, at_magnitude, behind_component, at_index, at_close, indexed, State, Held, reduce, closing, parting, sign_after, after}
use Rattle.soda_formula.proofs.Words.{infix-level}
use Rattle.soda_formula.proofs.Complete.{Fits, fits-up}

-- the tokens of a frame
abbrev pub Opens : Frame → List Placed → Type 0
Opens (behind_prefix op) us =
    (line : ℕ) × (s : Symbol) × (us ≡ symbol_on line s ∷ []) × (prefix_of s ≡ Some op)
Opens (behind_infix l op a) us =
    (line : ℕ) × (s : Symbol) × (vs : List Placed) × (us ≡ vs ++ symbol_on line s ∷ []) × (infix_of s ≡ Some (record { level = l; op = op })) × IsTerm l vs a
Opens in_group us = (line : ℕ) × (us ≡ symbol_on line OpenRound ∷ [])
Opens (in_cast w) us =
    (line : ℕ) × (us ≡ word_on w ∷ symbol_on line OpenRound ∷ []) × (is_cast_word w.text ≡ true)
Opens in_abs us =
    (line : ℕ) × (o : ℕ) × (us ≡ name_on line (codes "abs") ∷ symbol_on o OpenRound ∷ [])
Opens (in_first op) us =
    (line : ℕ) × (o : ℕ) × (text : List ℕ) × (us ≡ name_on line text ∷ symbol_on o OpenRound ∷ []) × (call_text op ≡ Some text)
Opens (in_second op a) us =
    (line : ℕ) × (o : ℕ) × (comma : ℕ) × (text : List ℕ) × (vs : List Placed)
    × (us ≡ name_on line text ∷ symbol_on o OpenRound ∷ (vs ++ symbol_on comma Comma ∷ [])) × (call_text op ≡ Some text) × IsTerm 0 vs a
Opens in_test us =
    (line : ℕ) × (o : ℕ) × (us ≡ name_on line (codes "select") ∷ symbol_on o OpenRound ∷ [])
Opens (in_then a) us =
    (line : ℕ) × (o : ℕ) × (first : ℕ) × (vs : List Placed) × (us ≡ name_on line (codes "select") ∷ symbol_on o OpenRound
    ∷ (vs ++ symbol_on first Comma ∷ [])) × IsTerm 0 vs a
Opens (in_else a b) us =
    (line : ℕ) × (o : ℕ) × (first : ℕ) × (second : ℕ) × (vs : List Placed) × (ws : List Placed)
    × (us ≡ name_on line (codes "select") ∷ symbol_on o OpenRound ∷ (vs ++ symbol_on first Comma ∷ (ws ++ symbol_on second Comma ∷ [])))
    × IsTerm 0 vs a × IsTerm 0 ws b

-- an operator stands only behind looser ones
abbrev pub Under : Frame → List Frame → Type 0
Under (behind_infix l op a) fs = Fits l fs
Under _ fs = Unit {0}

-- the tokens of some frames, in front of a wanted operand
abbrev pub Open : List Frame → List Placed → Type 0
Open [] ts = ts ≡ []
Open (f ∷ fs) ts =
    (before : List Placed) × (us : List Placed) × (ts ≡ before ++ us) × Open fs before × Opens f us × Under f fs

-- the tokens of some frames, and then some tokens more
abbrev pub Behind : List Frame → List Placed → (List Placed → Type 0) → Type 0
Behind fs ts P = (front : List Placed) × (us : List Placed) × (ts ≡ front ++ us) × Open fs front × P us

-- components, the last one to come
abbrev pub ComponentsBefore : List Placed → List ℤ → Type 0
ComponentsBefore us zs =
    (vs : List Placed) (z : ℤ) → IsComponent vs z → AreParted IsComponent (us ++ vs) (zs ++ z ∷ [])

-- the tokens of a state
abbrev pub Describes : Mode → List Frame → List Placed → Type 0
Describes wanted fs ts = Open fs ts
Describes (called f) fs ts =
    Behind fs ts (λ us. (p : Placed) × (us ≡ p ∷ []) × ((o : ℕ) → Opens f (p ∷ symbol_on o OpenRound ∷ [])) × Under f fs)
Describes (whole t) fs ts = Behind fs ts (λ us. IsTerm 10 us t)
Describes (named w) fs ts = Behind fs ts (λ us. (us ≡ word_on w ∷ []) × (is_reserved w.text ≡ false))
Describes (at_component w zs) fs ts =
    Behind fs ts (λ us. (o : ℕ) × (vs : List Placed) × (us ≡ word_on w ∷ symbol_on o OpenRound ∷ vs) × (is_reserved w.text ≡ false) × ComponentsBefore vs zs)
Describes (at_magnitude w zs) fs ts =
    Behind fs ts (λ us. (o : ℕ) × (minus : ℕ) × (vs : List Placed) × (us ≡ word_on w ∷ symbol_on o OpenRound ∷ (vs ++ symbol_on minus MinusSign ∷ []))
    × (is_reserved w.text ≡ false) × ComponentsBefore vs zs)
Describes (behind_component w zs) fs ts =
    Behind fs ts (λ us. (o : ℕ) × (vs : List Placed) × (us ≡ word_on w ∷ symbol_on o OpenRound ∷ vs) × (is_reserved w.text ≡ false)
    × AreParted IsComponent vs zs)
Describes (at_index w is) fs ts =
    Behind fs ts (λ us. (o : ℕ) × (vs : List Placed) × (us ≡ word_on w ∷ (vs ++ symbol_on o OpenSquare ∷ [])) × (is_reserved w.text ≡ false)
    × AreIndexes vs is × (length is < 2))
Describes (at_close w is) fs ts =
    Behind fs ts (λ us. (vs : List Placed) × (us ≡ word_on w ∷ vs) × (is_reserved w.text ≡ false)
    × ((c : ℕ) → AreIndexes (vs ++ symbol_on c CloseSquare ∷ []) is) × (length is ≤ 2))
Describes (indexed w is) fs ts =
    Behind fs ts (λ us. (vs : List Placed) × (us ≡ word_on w ∷ vs) × (is_reserved w.text ≡ false) × AreIndexes vs is × (length is ≤ 2))

-- the state behind some tokens, if there is one, stands for them
abbrev pub Tells : Option State → List Placed → Type 0
Tells o ts = IfSome o (λ s. Describes s.mode s.frames ts)

tells-same : (o : Option State) (ts us : List Placed) → ts ≡ us → Tells o ts → Tells o us
tells-same o ts us e h = let P : List Placed → Type 0 = λ x. Tells o x in subst P e h

-- a formula of a level is one of each looser level
loosened : (d l : ℕ) (ts : List Placed) (t : Term) → IsTerm (d + l) ts t → IsTerm l ts t
loosened zero l ts t x = let e : 0 + l ≡ l = omega arith in let P : ℕ → Type 0 = λ n. IsTerm n ts t in subst P e x
loosened (suc d) l ts t x =
    let e : suc d + l ≡ suc (d + l) = omega arith in
    let P : ℕ → Type 0 = λ n. IsTerm n ts t in
    loosened d l ts t (tighter (subst P e x))

pub loosen : (m l : ℕ) (ts : List Placed) (t : Term) → l ≤ m → IsTerm m ts t → IsTerm l ts t
loosen m l ts t h x =
    let e : m ≡ (m - l) + l = omega arith in
    let P : ℕ → Type 0 = λ n. IsTerm n ts t in
    loosened (m - l) l ts t (subst P e x)

pub fits-prefix : (fs : List Frame) (ts : List Placed) → Open fs ts → Fits 9 fs
fits-prefix [] ts o = tt
fits-prefix (behind_prefix op ∷ fs) ts o = omega arith
fits-prefix (behind_infix k op a ∷ fs) ts (before, us, e, p, (line, s, vs, d, i, x), u) =
    let low : k ≤ 8 = infix-level s (record { level = k; op = op }) i in omega arith
fits-prefix (f ∷ fs) ts o = tt

-- a term of this level, the frames around it, and looser frames around those
abbrev Held-as : ℕ → List Placed → Held → Type 0
Held-as l ts h = Behind h.frames ts (λ us. IsTerm l us h.term) × Fits l h.frames

held-same : (l : ℕ) (h : Held) (ts us : List Placed) → ts ≡ us → Held-as l ts h → Held-as l us h
held-same l h ts us e x = let P : List Placed → Type 0 = λ v. Held-as l v h in subst P e x

chosen : (l k : ℕ) (ts : List Placed) (a b : Held) (c : Bool) → nat_le l k ≡ c → (l ≤ k → Held-as l ts a) → (k < l → Held-as l ts b)
    → Held-as l ts (if c then a else b)
chosen l k ts a b true e y n = y (leb-true l k e)
chosen l k ts a b false e y n = n (leb-false l k e)

pub reduced : (l : ℕ) (fs : List Frame) (t : Term) (m : ℕ) (ts us : List Placed) → Open fs ts → IsTerm m us t → Fits m fs → l ≤ m → l ≤ 8
    → Held-as l (ts ++ us) (reduce l fs t)
reduced l [] t m ts us o x f h b = ((ts, us, refl, o, loosen m l us t h x), tt)
reduced l (behind_prefix op ∷ fs) t m ts us (before, ws, e, o, (line, s, d, p), u) x f h b =
    let r = reduced l fs (unary op t) 9 before (symbol_on line s ∷ us) o (prefixed line s op p (loosen m 9 us t f x)) (fits-prefix fs before o)
    (omega arith) b in
    held-same l (reduce l fs (unary op t)) (before ++ symbol_on line s ∷ us) (ts ++ us) (rw (e, d) (sym (append_assoc before (symbol_on line s ∷ []) us))) r
reduced l (behind_infix k op a ∷ fs) t m ts us (before, ws, e, o, (line, s, vs, d, i, y), u) x f h b =
    chosen l k (ts ++ us) (reduce l fs (binary op a t)) (record { frames = behind_infix k op a ∷ fs; term = t }) (nat_le l k) refl
    (λ q. held-same l (reduce l fs (binary op a t)) (before ++ (vs ++ symbol_on line s ∷ us)) (ts ++ us) (rw (e, d) (simp append_assoc))
    (reduced l fs (binary op a t) k before (vs ++ symbol_on line s ∷ us) o (joined line s op i y (loosen m (suc k) us t f x)) u q b))
    (λ q. ((ts, us, refl, (before, ws, e, o, (line, s, vs, d, i, y), u), loosen m l us t h x), q))
reduced l (f ∷ fs) t m ts us o x g h b = ((ts, us, refl, o, loosen m l us t h x), tt)

closed-tells : (fs : List Frame) (t : Term) (ts us : List Placed) (line : ℕ) → Open fs ts → IsTerm 0 us t
    → Tells (closing fs t) ((ts ++ us) ++ symbol_on line CloseRound ∷ [])
closed-tells [] t ts us line o x = tt
closed-tells (in_group ∷ fs) t ts us line (before, ws, e, o, (p, d), u) x =
    (before, symbol_on p OpenRound ∷ (us ++ symbol_on line CloseRound ∷ []), rw (e, d) (simp append_assoc), o, bracketed p line x)
closed-tells (in_cast w ∷ fs) t ts us line (before, ws, e, o, (p, d, c), u) x =
    (before, word_on w ∷ symbol_on p OpenRound ∷ (us ++ symbol_on line CloseRound ∷ []), rw (e, d) (simp append_assoc), o, a_cast w p line c x)
closed-tells (in_abs ∷ fs) t ts us line (before, ws, e, o, (n, p, d), u) x =
    (before, name_on n (codes "abs") ∷ symbol_on p OpenRound ∷ (us ++ symbol_on line CloseRound ∷ []), rw (e, d) (simp append_assoc), o, an_abs n p line x)
closed-tells (in_second op a ∷ fs) t ts us line (before, ws, e, o, (n, p, comma, text, vs, d, c, y), u) x = (
  before,
  name_on n text ∷ symbol_on p OpenRound ∷ (vs ++ symbol_on comma Comma ∷ (us ++ symbol_on line CloseRound ∷ [])),
  rw (e, d)
      (simp append_assoc),
  o,
  a_call n p comma line op text c y x,
)
closed-tells (in_else a b ∷ fs) t ts us line (before, ws, e, o, (n, p, first, second, vs, ws', d, y, z), u) x = (
  before,
  name_on n (codes "select") ∷ symbol_on p OpenRound ∷ (vs ++ symbol_on first Comma
      ∷ (ws' ++ symbol_on second Comma ∷ (us ++ symbol_on line CloseRound ∷ []))),
  rw (e, d) (simp append_assoc),
  o,
  a_choice n p first second line y z x,
)
closed-tells (f ∷ fs) t ts us line o x = tt

parted-tells : (fs : List Frame) (t : Term) (ts us : List Placed) (line : ℕ) → Open fs ts → IsTerm 0 us t
    → Tells (parting fs t) ((ts ++ us) ++ symbol_on line Comma ∷ [])
parted-tells [] t ts us line o x = tt
parted-tells (in_first op ∷ fs) t ts us line (before, ws, e, o, (n, p, text, d, c), u) x = (
  before,
  name_on n text ∷ symbol_on p OpenRound ∷ (us ++ symbol_on line Comma ∷ []),
  rw (e, d) (simp append_assoc),
  o,
  (n, p, line, text, us, refl, c, x),
  tt,
)
parted-tells (in_test ∷ fs) t ts us line (before, ws, e, o, (n, p, d), u) x = (
  before,
  name_on n (codes "select") ∷ symbol_on p OpenRound ∷ (us ++ symbol_on line Comma ∷ []),
  rw (e, d) (simp append_assoc),
  o,
  (n, p, line, us, refl, x),
  tt,
)
parted-tells (in_then a ∷ fs) t ts us line (before, ws, e, o, (n, p, first, vs, d, y), u) x = (
  before,
  name_on n (codes "select") ∷ symbol_on p OpenRound ∷ (vs ++ symbol_on first Comma ∷ (us ++ symbol_on line Comma ∷ [])),
  rw (e, d)
      (simp append_assoc),
  o,
  (n, p, first, line, vs, us, refl, y, x),
  tt,
)
parted-tells (f ∷ fs) t ts us line o x = tt

sign-tells : (i : Option Infix) (s : Symbol) (fs : List Frame) (t : Term) (ts us : List Placed) (line : ℕ) → infix_of s ≡ i → Open fs ts
    → IsTerm 10 us t → Tells (sign_after i s fs t) ((ts ++ us) ++ symbol_on line s ∷ [])
sign-tells (Some i) s fs t ts us line e o x =
    let low : i.level ≤ 8 = infix-level s i e in
    let h = reduced i.level fs t 10 ts us o x (fits-up 9 fs (fits-prefix fs ts o)) (omega arith) low in (
      h.0.0,
      h.0.1 ++ symbol_on line s ∷ [],
      ap (λ v. v ++ symbol_on line s ∷ []) h.0.2
          ∙ append_assoc h.0.0 h.0.1 (symbol_on line s ∷ []),
      h.0.3,
      (line, s, h.0.1, refl, e, h.0.4),
      h.1,
    )
sign-tells None CloseRound fs t ts us line e o x =
    let h = reduced 0 fs t 10 ts us o x (fits-up 9 fs (fits-prefix fs ts o)) (omega arith) (omega arith) in
    let r = reduce 0 fs t in
    tells-same (closing r.frames r.term) ((h.0.0 ++ h.0.1) ++ symbol_on line CloseRound ∷ []) ((ts ++ us) ++ symbol_on line CloseRound ∷ [])
    (ap (λ v. v ++ symbol_on line CloseRound ∷ []) (sym h.0.2)) (closed-tells r.frames r.term h.0.0 h.0.1 line h.0.3 h.0.4)
sign-tells None Comma fs t ts us line e o x =
    let h = reduced 0 fs t 10 ts us o x (fits-up 9 fs (fits-prefix fs ts o)) (omega arith) (omega arith) in
    let r = reduce 0 fs t in
    tells-same (parting r.frames r.term) ((h.0.0 ++ h.0.1) ++ symbol_on line Comma ∷ []) ((ts ++ us) ++ symbol_on line Comma ∷ [])
    (ap (λ v. v ++ symbol_on line Comma ∷ []) (sym h.0.2)) (parted-tells r.frames r.term h.0.0 h.0.1 line h.0.3 h.0.4)
sign-tells None _ fs t ts us line e o x = tt

pub after-tells : (k : Token) (line : ℕ) (fs : List Frame) (t : Term) (ts front us : List Placed) → ts ≡ front ++ us → Open fs front → IsTerm 10 us t
    → Tells (after fs t k) (ts ++ record { line = line; token = k } ∷ [])
after-tells (Sign s) line fs t ts front us e o x =
    rw e (sign-tells (infix_of s) s fs t front us line refl o x)
after-tells _ line fs t ts front us e o x = tt
