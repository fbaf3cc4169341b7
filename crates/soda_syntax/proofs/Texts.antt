-- How statements stand one behind another: what one that is read says of a text.
use Rattle.std.proofs.Common.{◌≡◌, ◌⊎◌, inl, inr, List, [], ◌∷◌, ◌++◌, Some, refl, sym, ◌∙◌, ap, subst, append-nil, append_assoc}
use Rattle.soda_words.specs.declared.token.Placed.{Placed}
use Rattle.soda_formula.specs.Reading.{BeginsFormula, IsLarge}
use Rattle.soda_syntax.specs.declared.stage.LeftSide.{LeftSide}
use Rattle.soda_syntax.specs.declared.stage.Stage.TheVariants.{Start, Formula}
use Rattle.soda_formula.specs.Statements.{PlainStatement}
use Rattle.soda_syntax.specs.Grammar.{IsStatement, AreStatements, no_statement, statement_before}
use Rattle.soda_syntax.specs.SyntaxError.{BeginsText, IsHead, EndsInFormula, IsTooLarge}
use Rattle.soda_syntax.specs.machine.Steps.{steps}
use Rattle.soda_syntax.proofs.Lists.{compare}
use Rattle.soda_syntax.proofs.Complete.{local_read, output_read}
use Rattle.soda_syntax.proofs.Standing.{BeginsStatement, first_name, name_ends}
use Rattle.soda_syntax.proofs.Completions.{formula_begins, head_begins}

-- the tokens are a left side and so much of a formula that it is too large
pub record IsLargeLine (ts : List Placed) : Type 0 where
  pub head : List Placed
  pub part : List Placed
  pub is : ts ≡ head ++ part
  pub left : IsHead head
  pub begun : BeginsFormula part
  pub large : IsLarge part

-- a statement is read from the front, and it goes on no further
pub record IsRead (front rest : List Placed) (s : PlainStatement) : Type 0 where
  pub whole : IsStatement front s
  pub ended : (t : Placed) (r : List Placed) → rest ≡ t ∷ r → BeginsStatement (front ++ t ∷ []) → ⊥
  pub small : (p y : List Placed) → front ≡ p ++ y → IsLargeLine p → ⊥

-- a head is read by the steps
pub head_steps : (h : List Placed) → IsHead h → (l : LeftSide) × (steps (Some Start) h ≡ Some (Formula l))
head_steps h (ty, name, left, is) =
    elim is [
      | inl k ↦ (_, local_read h ty name left k)
      | inr k ↦ (_, output_read h ty name left k)
    ]

-- a head and the beginning of a formula begin a statement
pub line_begins : (head part : List Placed) → IsHead head → BeginsFormula part → BeginsStatement (head ++ part)
line_begins head part h b = let l : (l : LeftSide) × (steps (Some Start) head ≡ Some (Formula l)) = head_steps head h in formula_begins head part l.0 l.1 b

pub no_empty_head : IsHead [] → ⊥
no_empty_head h = let l : (l : LeftSide) × (steps (Some Start) [] ≡ Some (Formula l)) = head_steps [] h in let e : Some Start ≡ Some (Formula l.0) = l.1 in cc

pub no_empty : {s : PlainStatement} → IsStatement [] s → ⊥
no_empty is = let n = first_name is in cc (n.3)

pub begins_front : (xs ys : List Placed) → BeginsStatement (xs ++ ys) → BeginsStatement xs
begins_front xs ys (rest, s, is) = (ys ++ rest, s, subst (λ x. IsStatement x s) (append_assoc xs ys rest) is)

pub whole_begins : {ts : List Placed} {s : PlainStatement} → IsStatement ts s → BeginsStatement ts
whole_begins {ts} {s} is = ([], s, subst (λ x. IsStatement x s) (sym (append-nil ts)) is)

pub nothing_begins : BeginsStatement []
nothing_begins = head_begins [] Start refl

-- one more token of a front
pub one_more : (xs : List Placed) (u : Placed) (z : List Placed) → BeginsStatement (xs ++ u ∷ z) → BeginsStatement (xs ++ u ∷ [])
one_more xs u z b = begins_front (xs ++ u ∷ []) z (subst BeginsStatement (sym (append_assoc xs (u ∷ []) z)) b)

-- what stands behind whole statements begins with a token that begins a statement
pub tail_begins : {us : List Placed} {ss : List PlainStatement} (x : List Placed) (u : Placed) (z : List Placed) → AreStatements us ss
    → BeginsStatement x → us ++ x ≡ u ∷ z → BeginsStatement (u ∷ [])
tail_begins x u z no_statement b e = one_more [] u z (subst BeginsStatement e b)
tail_begins x u z (statement_before {ts} {us} st more) b e =
    let n = first_name st in
    let first : (ts ++ us) ++ x ≡ _ ∷ ((n.2 ++ us) ++ x) = ap (λ k. (k ++ us) ++ x) (n.3) in
    let same : _ ≡ u = cc in
    one_more [] u n.2 (subst (λ k. BeginsStatement (k ∷ n.2)) same (subst BeginsStatement (n.3) (whole_begins st)))

-- whole statements, and what begins one more
pub record Parts (ts : List Placed) : Type 0 where
  pub before : List Placed
  pub statements : List PlainStatement
  pub tail : List Placed
  pub is : ts ≡ before ++ tail
  pub whole : AreStatements before statements
  pub begun : BeginsStatement tail

pub parts_of_begun : (ts : List Placed) → BeginsStatement ts → Parts ts
parts_of_begun ts b = record { before = []; statements = []; tail = ts; is = refl; whole = no_statement; begun = b }

statements_snoc : {ts us : List Placed} {ss : List PlainStatement} {s : PlainStatement} → AreStatements ts ss → IsStatement us s
    → AreStatements (ts ++ us) (ss ++ s ∷ [])
statements_snoc {us = us} {s = s} no_statement st = subst (λ x. AreStatements x (s ∷ [])) (append-nil us) (statement_before st no_statement)
statements_snoc {us = vs} {s = r} (statement_before {ts} {us} {s} {ss} first more) st =
    subst (λ x. AreStatements x (s ∷ (ss ++ r ∷ []))) (sym (append_assoc ts us vs)) (statement_before first (statements_snoc more st))

pub parts_text : (ts : List Placed) → Parts ts → BeginsText ts
parts_text ts p =
    let b : BeginsStatement p.tail = p.begun in (
      b.0,
      p.statements ++ b.1 ∷ [],
      subst (λ x. AreStatements x (p.statements ++ b.1 ∷ []))
          (sym (append_assoc p.before p.tail b.0) ∙ ap (λ x. x ++ b.0) (sym p.is)) (statements_snoc p.whole b.2),
    )

pub parts_before : {a : List Placed} {s : PlainStatement} (w : List Placed) → IsStatement a s → Parts w → Parts (a ++ w)
parts_before {a} {s} w st p =
    record {
      before = a ++ p.before;
      statements = s ∷ p.statements;
      tail = p.tail;
      is = ap (λ x. a ++ x) p.is ∙ sym (append_assoc a p.before p.tail);
      whole = statement_before st p.whole;
      begun = p.begun;
    }

pub text_parts : {all : List Placed} {ss : List PlainStatement} → AreStatements all ss → (ts more : List Placed) → all ≡ ts ++ more → Parts ts
text_parts no_statement [] more e = parts_of_begun [] nothing_begins
text_parts no_statement (t ∷ ts) more e = cc
text_parts (statement_before {ts = a} {us = us} st rest) ts more e =
    elim (compare a ts us more e) [
      | inl b ↦ subst Parts (sym b.front) (parts_before b.more st (text_parts rest b.more more b.rest))
      | inr b ↦ parts_of_begun ts (begins_front ts (b.first ∷ b.more) (subst BeginsStatement b.front (whole_begins st)))
    ]

-- the first statement of several is the one that is read
pub record IsCut (front w before x : List Placed) (ss : List PlainStatement) : Type 0 where
  pub others : List Placed
  pub first : PlainStatement
  pub statements : List PlainStatement
  pub is : before ≡ front ++ others
  pub whole : IsStatement front first
  pub all : ss ≡ first ∷ statements
  pub are : AreStatements others statements
  pub rest : w ≡ others ++ x

pub cut : {front rest : List Placed} {s : PlainStatement} → IsRead front rest s → (w y : List Placed) → rest ≡ w ++ y
    → {before : List Placed} {ss : List PlainStatement} → AreStatements before ss → (x : List Placed) → BeginsStatement x → front ++ w ≡ before ++ x
    → ((before ≡ []) × (w ≡ []) × (x ≡ front)) ⊎ IsCut front w before x ss
cut {front} r [] y e no_statement x b eq = inl (refl, refl, sym eq ∙ append-nil front)
cut {front} r (u ∷ z) y e no_statement x b eq = absurd (r.ended u (z ++ y) e (one_more front u z (subst BeginsStatement (sym eq) b)))
cut {front} {rest} r w y e (statement_before {ts} {us} {s} {ss} st more) x b eq =
    elim (compare front ts w (us ++ x) (eq ∙ append_assoc ts us x)) [
      | inl k ↦ beyond k.more k.front k.rest
      | inr k ↦ absurd (name_ends k.first st (tail_begins x k.first (k.more ++ w) more b k.rest)
          (one_more ts k.first k.more (subst BeginsStatement k.front (whole_begins r.whole))))
    ]
  where
    beyond : (z : List Placed) → ts ≡ front ++ z → w ≡ z ++ (us ++ x) → ((ts ++ us ≡ []) × (w ≡ []) × (x ≡ front)) ⊎ IsCut front w (ts ++ us) x (s ∷ ss)
    beyond [] f k =
        let same : ts ≡ front = f ∙ append-nil front in
        inr (record {
          others = us;
          first = s;
          statements = ss;
          is = ap (λ v. v ++ us) same;
          whole = subst
              (λ v. IsStatement v s) same st;
          all = refl;
          are = more;
          rest = k;
        })
    beyond (u ∷ z) f k = absurd (r.ended u ((z ++ (us ++ x)) ++ y) (e ∙ ap (λ v. v ++ y) k) (one_more front u z (subst BeginsStatement f (whole_begins st))))

pub parts_down : {front rest : List Placed} {s : PlainStatement} → IsRead front rest s → (w y : List Placed) → rest ≡ w ++ y → Parts (front ++ w) → Parts w
parts_down r w y e p =
    elim (cut r w y e p.whole p.tail p.begun p.is) [
      | inl k ↦ subst Parts (sym k.1) (parts_of_begun [] nothing_begins)
      | inr k ↦ record { before = k.others; statements = k.statements; tail = p.tail; is = k.rest; whole = k.are; begun = p.begun }
    ]

pub large_down : {front rest : List Placed} {s : PlainStatement} → IsRead front rest s → (w y : List Placed) → rest ≡ w ++ y → IsTooLarge (front ++ w)
    → IsTooLarge w
large_down {front} r w y e l =
    let p : EndsInFormula (front ++ w) l.part = l.within in
    elim (cut r w y e p.whole (p.head ++ l.part) (line_begins p.head l.part p.left p.begun) p.is) [
      | inl k ↦ absurd (r.small front [] (sym (append-nil front))
          (record { head = p.head; part = l.part; is = sym k.2; left = p.left; begun = p.begun; large = l.large }))
      | inr k ↦
          record {
            part = l.part;
            within = record { before = k.others; statements = k.statements; head = p.head; is = k.rest; whole = k.are; left = p.left; begun = p.begun };
            large = l.large;
          }
    ]

pub whole_down : {front rest : List Placed} {s : PlainStatement} → IsRead front rest s → (w y : List Placed) → rest ≡ w ++ y
    → (rs : List PlainStatement) → AreStatements (front ++ w) rs → (qs : List PlainStatement) × AreStatements w qs
whole_down {front} {s = s} r w y e rs a =
    elim (cut r w y e a [] nothing_begins (sym (append-nil (front ++ w)))) [
      | inl k ↦ absurd (no_empty (subst (λ v. IsStatement v s) (sym k.2) r.whole))
      | inr k ↦ (k.statements, subst (λ v. AreStatements v k.statements) (sym (k.rest ∙ append-nil k.others)) k.are)
    ]

pub large_up : {front : List Placed} {s : PlainStatement} → IsStatement front s → (w : List Placed) → IsTooLarge w → IsTooLarge (front ++ w)
large_up {front} {s} st w l =
    let p : EndsInFormula w l.part = l.within in
    record {
      part = l.part;
      within = record {
        before = front ++ p.before;
        statements = s ∷ p.statements;
        head = p.head;
        is = ap (λ x. front ++ x) p.is ∙ sym (append_assoc front p.before (p.head ++ l.part));
        whole = statement_before st p.whole;
        left = p.left;
        begun = p.begun;
      };
      large = l.large;
    }

append_empty : (xs ys : List Placed) → xs ++ ys ≡ [] → ys ≡ []
append_empty [] ys e = e
append_empty (x ∷ xs) ys e = cc

-- within a statement that is begun, only its own formula can be too large
pub inside_small : (ts : List Placed) → BeginsStatement ts → (IsLargeLine ts → ⊥) → IsTooLarge ts → ⊥
inside_small ts b small l = by l.within.whole l.within.is
  where
    head : List Placed
    head = l.within.head

    nonempty : (us z : List Placed) → us ++ (l.within.head ++ l.part) ≡ z → (z ≡ [] → ⊥)
    nonempty us z e none =
        let h : l.within.head ++ l.part ≡ [] = append_empty us (l.within.head ++ l.part) (e ∙ none) in
        no_head l.within.head l.part l.within.left h
      where
        no_head : (h p : List Placed) → IsHead h → h ++ p ≡ [] → ⊥
        no_head [] p k f = no_empty_head k
        no_head (x ∷ h) p k f = cc

    by : {before : List Placed} {ss : List PlainStatement} → AreStatements before ss → ts ≡ before ++ (l.within.head ++ l.part) → ⊥
    by no_statement e = small (record { head = l.within.head; part = l.part; is = e; left = l.within.left; begun = l.within.begun; large = l.large })
    by (statement_before {ts = a} {us = us} st more) e = split (us ++ (l.within.head ++ l.part)) refl
      where
        split : (z : List Placed) → us ++ (l.within.head ++ l.part) ≡ z → ⊥
        split [] f = nonempty us [] f refl
        split (u ∷ z) f =
            name_ends u st (tail_begins (l.within.head ++ l.part) u z more (line_begins l.within.head l.part l.within.left l.within.begun) f)
            (one_more a u z (subst BeginsStatement (e ∙ (append_assoc a us (l.within.head ++ l.part) ∙ ap (λ x. a ++ x) f)) b))
