-- The reader's frames, the innermost last, against the machine's.
use Rattle.std.proofs.Common.{◌≡◌, ℕ, ◌≤◌, ◌<◌, nat_le, true, false, List, [], ◌∷◌, ◌++◌, length, Option, Some, None, option_map, refl, sym, ◌∙◌, ap, arith, length-append}
use Rattle.std.proofs.lemmas.Bool.{le-leb, lt-leb}
use Rattle.soda_words.specs.declared.operators.UnOp.{UnOp}
use Rattle.soda_formula.specs.declared.written.Written.{Written}
use Rattle.soda_formula.specs.declared.frame.Infix.{Infix as Operator}
use Rattle.soda_formula.specs.declared.frame.Frame.{Frame as Waiting}
use Rattle.soda_formula.specs.declared.frame.Frame.TheVariants as waiting
use Rattle.soda_formula.specs.Terms.{Term, unary, binary}
use Rattle.soda_formula.specs.Tree.{term_of}
use Rattle.soda_formula.specs.machine.Steps.{Frame, wanted, whole, in_state, reduce, enclosed, closing, parted, parting, left_alone, start}
use Rattle.soda_formula.specs.machine.Views.{frame_of, frames_of, stacked}

stacked-push : (around : List Frame) (fs : List Waiting) (f : Waiting) → stacked around (fs ++ f ∷ []) ≡ frame_of f ∷ stacked around fs
unfolding stacked
stacked-push around [] f = refl
stacked-push around (g ∷ fs) f = stacked-push (frame_of g ∷ around) fs f

pub frames-push : (fs : List Waiting) (f : Waiting) → frames_of (fs ++ f ∷ []) ≡ frame_of f ∷ frames_of fs
unfolding frames_of
frames-push fs f = stacked-push [] fs f

pub frames-empty : frames_of [] ≡ []
unfolding frames_of stacked
frames-empty = refl

-- the innermost frame
pub frames-last : (before fs : List Waiting) (f : Waiting) → before ≡ fs ++ f ∷ [] → frames_of before ≡ frame_of f ∷ frames_of fs
frames-last before fs f e = ap frames_of e ∙ frames-push fs f

shorter : (before fs : List Waiting) (f : Waiting) → before ≡ fs ++ f ∷ [] → length fs < length before
shorter before fs f e = rw e (omega (arith, length-append fs (f ∷ [])))

pub reduce-empty : (l : ℕ) (before fs : List Waiting) (t : Term) → before ≡ [] → fs ≡ []
    → reduce l (frames_of before) t ≡ record { frames = frames_of fs; term = t }
reduce-empty l before fs t e d = rw (e, d, frames-empty)

pub reduce-prefix : (l : ℕ) (before fs : List Waiting) (f : Waiting) (op : UnOp) (t : Term) (w : Written) → before ≡ fs ++ f ∷ []
    → f ≡ waiting.Prefix op → term_of w ≡ unary op t → (reduce l (frames_of before) t ≡ reduce l (frames_of fs) (term_of w)) × (length fs < length before)
reduce-prefix l before fs f op t w e g d =
    (rw (frames-last before fs f e, g, d), shorter before fs f e)

pub reduce-infix : (l : ℕ) (before fs : List Waiting) (f : Waiting) (i : Operator) (a : Written) (t : Term) (w : Written) → before ≡ fs ++ f ∷ []
    → f ≡ waiting.Infix i a → l ≤ i.level → term_of w ≡ binary i.op (term_of a) t
    → (reduce l (frames_of before) t ≡ reduce l (frames_of fs) (term_of w)) × (length fs < length before)
reduce-infix l before fs f i a t w e g h d =
    let k : nat_le l i.level ≡ true = le-leb l i.level h in
    (rw (frames-last before fs f e, g, k, d), shorter before fs f e)

pub reduce-looser : (l : ℕ) (before fs after : List Waiting) (f : Waiting) (i : Operator) (a : Written) (t : Term) → before ≡ fs ++ f ∷ []
    → f ≡ waiting.Infix i a → after ≡ fs ++ waiting.Infix i a ∷ [] → i.level < l → reduce l (frames_of before) t ≡ record { frames = frames_of after; term = t }
reduce-looser l before fs after f i a t e g d h =
    let k : nat_le l i.level ≡ false = lt-leb l i.level h in
    rw (frames-last before fs f e, g, frames-last after fs (waiting.Infix i a) d, k)

at-bracket : (l : ℕ) (f : Waiting) (fs : List Frame) (t : Term) → ((op : UnOp) → f ≡ waiting.Prefix op → ⊥)
    → ((i : Operator) (a : Written) → f ≡ waiting.Infix i a → ⊥) → reduce l (frame_of f ∷ fs) t ≡ record { frames = frame_of f ∷ fs; term = t }
at-bracket l (waiting.Prefix op) fs t n m = absurd (n op refl)
at-bracket l (waiting.Infix i a) fs t n m = absurd (m i a refl)
at-bracket l _ fs t n m = refl

pub reduce-bracket : (l : ℕ) (before fs after : List Waiting) (f : Waiting) (t : Term) → before ≡ fs ++ f ∷ [] → after ≡ fs ++ f ∷ []
    → ((op : UnOp) → f ≡ waiting.Prefix op → ⊥) → ((i : Operator) (a : Written) → f ≡ waiting.Infix i a → ⊥)
    → reduce l (frames_of before) t ≡ record { frames = frames_of after; term = t }
reduce-bracket l before fs after f t e d n m =
    rw (frames-last before fs f e, frames-last after fs f d) (at-bracket l f (frames_of fs) t n m)

pub lone-some : (fs : List Waiting) (t : Term) → fs ≡ [] → Some t ≡ left_alone (record { frames = frames_of fs; term = t })
lone-some fs t d = rw (d, frames-empty)

stacked-some : (around : List Frame) (f : Frame) (fs : List Waiting) (t : Term) → None ≡ left_alone (record { frames = stacked (f ∷ around) fs; term = t })
unfolding stacked
stacked-some around f [] t = refl
stacked-some around f (g ∷ fs) t = stacked-some (f ∷ around) (frame_of g) fs t

pub lone-none : (fs : List Waiting) (t : Term) → (fs ≡ [] → ⊥) → None ≡ left_alone (record { frames = frames_of fs; term = t })
unfolding frames_of stacked
lone-none [] t h = absurd (h refl)
lone-none (f ∷ fs) t h = stacked-some [] (frame_of f) fs t

pub waiting-is : (fs after : List Waiting) (f : Waiting) → after ≡ fs ++ f ∷ []
    → in_state wanted (frames_of after) ≡ in_state wanted (frame_of f ∷ frames_of fs)
waiting-is fs after f e = ap (in_state wanted) (frames-last after fs f e)

-- behind a bracket that closes
pub closed-on : (before fs : List Waiting) (f : Waiting) (t : Term) (o : Option Written) (w : Written) → before ≡ fs ++ f ∷ [] → o ≡ Some w
    → option_map term_of o ≡ enclosed (frame_of f) t → in_state (whole (term_of w)) (frames_of fs) ≡ closing (frames_of before) t
closed-on before fs f t o w e g d =
    let h : enclosed (frame_of f) t ≡ Some (term_of w) = sym d ∙ ap (option_map term_of) g in
    rw (frames-last before fs f e, h)

-- no bracket closes
pub closed-none : (before fs : List Waiting) (f : Waiting) (t : Term) (o : Option Written) → before ≡ fs ++ f ∷ [] → o ≡ None
    → option_map term_of o ≡ enclosed (frame_of f) t → (closing (frames_of before) t ≡ None)
    × (None ≡ left_alone (record { frames = frames_of before; term = t }))
closed-none before fs f t o e g d =
    let h : enclosed (frame_of f) t ≡ None = sym d ∙ ap (option_map term_of) g in
    let k = frames-last before fs f e in
    (rw (k, h), rw k)

pub closed-alone : (before : List Waiting) (t : Term) → before ≡ [] → (closing (frames_of before) t ≡ None)
    × (Some t ≡ left_alone (record { frames = frames_of before; term = t }))
closed-alone before t e = (rw (e, frames-empty), rw (e, frames-empty))

-- behind a comma that parts
pub parted-on : (before fs : List Waiting) (f g : Waiting) (t : Term) → before ≡ fs ++ f ∷ [] → Some (frame_of g) ≡ parted (frame_of f) t
    → in_state wanted (frame_of g ∷ frames_of fs) ≡ parting (frames_of before) t
parted-on before fs f g t e d = rw (frames-last before fs f e, ← d)

-- no comma parts
pub parted-none : (before fs : List Waiting) (f : Waiting) (t : Term) → before ≡ fs ++ f ∷ [] → None ≡ parted (frame_of f) t
    → (parting (frames_of before) t ≡ None) × (None ≡ left_alone (record { frames = frames_of before; term = t }))
parted-none before fs f t e d =
    let k = frames-last before fs f e in
    (rw (k, ← d), rw k)

pub parted-alone : (before : List Waiting) (t : Term) → before ≡ [] → (parting (frames_of before) t ≡ None)
    × (Some t ≡ left_alone (record { frames = frames_of before; term = t }))
parted-alone before t e = (rw (e, frames-empty), rw (e, frames-empty))

pub start-is : (fs : List Waiting) → fs ≡ [] → in_state wanted (frames_of fs) ≡ start
start-is fs e = rw (e, frames-empty)
