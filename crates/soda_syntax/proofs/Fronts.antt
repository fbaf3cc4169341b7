-- A statement that is read from the front, and a place where reading stops, as fronts of the tokens.
use Rattle.std.proofs.Common.{◌≡◌, inl, inr, ℕ, suc, ◌+◌, ◌≤◌, List, [], ◌∷◌, ◌++◌, length, take, drop, Some, None, sym, ◌∙◌, ap, subst, arith, append_assoc}
use Rattle.std.proofs.Math.Seq.{take-add}
use Rattle.soda_words.specs.declared.token.Placed.{Placed}
use Rattle.soda_formula.specs.Terms.{Term}
use Rattle.soda_formula.specs.Grammar.{name_on, IsFormula}
use Rattle.soda_formula.specs.Reading.{BeginsFormula, IsLarge}
use Rattle.soda_formula.proofs.CallerLemmas.{name_ends_formula}
use Rattle.soda_syntax.specs.declared.stage.LeftSide.{LeftSide}
use Rattle.soda_syntax.specs.declared.stage.Stage.{Stage}
use Rattle.soda_syntax.specs.declared.stage.Stage.TheVariants.{Start, Formula}
use Rattle.soda_formula.specs.declared.statement.Statement.{Statement}
use Rattle.soda_formula.specs.Statements.{PlainStatement, plain_statement}
use Rattle.soda_syntax.specs.Grammar.{IsStatement}
use Rattle.soda_syntax.specs.SyntaxError.{IsHead}
use Rattle.soda_syntax.specs.machine.Steps.{steps, finish}
use Rattle.soda_syntax.specs.machine.Pieces.{left_of, ReadsPlain, ReadsLine, ReadsStatement, StopsPlain, StopsLine, StopsStatement}
use Rattle.soda_syntax.proofs.Takes.{get_of_drop, take_one_more, one_more_within, drop_add, front_taken, front_short, drop_none_short}
use Rattle.soda_syntax.proofs.Running.{steps-append, steps-formula, some_not_none, one_head}
use Rattle.soda_syntax.proofs.Complete.{complete}
use Rattle.soda_syntax.proofs.Outcomes.{ends, outcomes}
use Rattle.soda_syntax.proofs.Sound.{IsAs, as_statement, sound, local_head, output_head, IsHeadAs}
use Rattle.soda_syntax.proofs.Standing.{BeginsStatement, first_name, stuck, head_refuses, formula_refuses, finished_outcome, finished_no_formula}
use Rattle.soda_syntax.proofs.Completions.{line_whole, head_is, head_begins, formula_begins}
use Rattle.soda_syntax.proofs.Texts.{IsLargeLine, IsRead, head_steps}
use Rattle.soda_syntax.proofs.Chain.{IsStop}

-- where the steps stand at no formula, none is read
no_formula_before : {A : Type 0} (head x : List Placed) (l : LeftSide) (stage : Stage) → steps (Some Start) head ≡ Some (Formula l)
    → steps (Some Start) (head ++ x) ≡ Some stage → left_of stage ≡ None → A
no_formula_before head x l stage h e nf = by x (sym (steps-append (Some Start) head x ∙ ap (λ o. steps o x) h) ∙ e)
  where
    by : {A : Type 0} (x : List Placed) → steps (Some (Formula l)) x ≡ Some stage → A
    by [] f =
        let same : Formula l ≡ stage = cc in
        absurd (some_not_none (ap left_of same ∙ nf))
    by (t ∷ x) f = absurd (some_not_none (sym f ∙ steps-formula l t x))

pub no_large : (front : List Placed) (stage : Stage) → steps (Some Start) front ≡ Some stage → left_of stage ≡ None → (p y : List Placed)
    → front ≡ p ++ y → IsLargeLine p → ⊥
no_large front stage e nf p y is large =
    let h : (l : LeftSide) × (steps (Some Start) large.head ≡ Some (Formula l)) = head_steps large.head large.left in
    let whole : large.head ++ (large.part ++ y) ≡ front = sym (append_assoc large.head large.part y) ∙ (ap (λ x. x ++ y) (sym large.is) ∙ sym is) in
    no_formula_before large.head (large.part ++ y) h.0 stage h.1 (ap (steps (Some Start)) whole ∙ e) nf

plain_whole : {s : Statement} {ts : List Placed} → IsAs (ends s) ts → IsStatement ts (plain_statement s)
plain_whole (as_statement is) = is

plain_is_read : (ts : List Placed) (n : ℕ) (s : PlainStatement) → ReadsPlain ts n s → IsRead (take n ts) (drop n ts) s
plain_is_read ts n s r =
    record {
      whole = subst (IsStatement (take n ts)) r.is (plain_whole (sound (take n ts) (ends r.end)
          (ap outcomes r.at.read ∙ finished_outcome r.stage r.end r.ended)));
      ended = λ t x e b. stuck (take n ts) t (head_refuses r.stage r.at.read (finished_no_formula r.stage r.end r.ended)
          (r.at.refuses t (get_of_drop n ts t x e))) b;
      small = no_large (take n ts) r.stage r.at.read (finished_no_formula r.stage r.end r.ended);
    }

plain_is_stop : (ts : List Placed) (n : ℕ) → StopsPlain ts n → IsStop (take n ts) (drop n ts)
plain_is_stop ts n r =
    record {
      begins = head_begins (take n ts) r.stage r.at.read;
      small = no_large (take n ts) r.stage r.at.read r.no_formula;
      wrong = λ t x e b nl. stuck (take n ts) t (head_refuses r.stage r.at.read r.no_formula (r.at.refuses t (get_of_drop n ts t x e))) b;
      not_whole = λ s is e. unfinished s is;
      not_before = λ s is t x e b. unfinished s is;
    }
  where
    unfinished : (s : PlainStatement) → IsStatement (take n ts) s → ⊥
    unfinished s is =
        elim (complete is) [
          | inl p ↦
              (let same : Some p.stage ≡ Some r.stage = sym p.read ∙ r.at.read in
              let stage : p.stage ≡ r.stage = cc in
              some_not_none (sym p.ended ∙ (ap finish stage ∙ r.open_)))
          | inr k ↦ no_formula_before k.head k.part k.left r.stage k.read (ap (steps (Some Start)) (sym k.is) ∙ r.at.read) r.no_formula
        ]

-- a left side, and a front of what follows it
module _ (ts : List Placed) (n at size : ℕ) (left : LeftSide) (read : steps (Some Start) (take at ts) ≡ Some (Formula left)) (all : n ≡ at + size) where
  parted : take n ts ≡ take at ts ++ take size (drop at ts)
  parted = ap (λ k. take k ts) all ∙ take-add at size ts

  next_of : (t : Placed) (x : List Placed) → drop n ts ≡ t ∷ x → drop size (drop at ts) ≡ t ∷ x
  next_of t x e = sym (drop_add at size ts) ∙ (ap (λ k. drop k ts) (sym all) ∙ e)

  refused : (t : Placed) (x : List Placed) → drop n ts ≡ t ∷ x → (BeginsFormula (take (suc size) (drop at ts)) → ⊥) → BeginsStatement (take n ts ++ t ∷ []) → ⊥
  refused t x e never b =
      stuck (take n ts) t (formula_refuses (take at ts) (take size (drop at ts)) left parted read
      (λ f. never (subst BeginsFormula (sym (take_one_more size (drop at ts) t x (next_of t x e))) f))) b

  line_small : ((j : ℕ) → j ≤ size → IsLarge (take j (drop at ts)) → ⊥) → (p y : List Placed) → take n ts ≡ p ++ y → IsLargeLine p → ⊥
  line_small never p y e large =
      let h : (l : LeftSide) × (steps (Some Start) large.head ≡ Some (Formula l)) = head_steps large.head large.left in
      let whole : take at ts ++ take size (drop at ts) ≡ large.head ++ (large.part ++ y) = sym parted
      ∙ (e ∙ (ap (λ x. x ++ y) large.is ∙ append_assoc large.head large.part y)) in
      let o : (take at ts ≡ large.head) × (take size (drop at ts) ≡ large.part ++ y)
      × (left ≡ h.0) = one_head (take at ts) large.head (take size (drop at ts)) (large.part ++ y) left h.0 whole read h.1 in
      never (length large.part) (front_short size (drop at ts) large.part y o.1)
      (subst IsLarge (sym (front_taken size (drop at ts) large.part y o.1)) large.large)

  -- a whole statement there is a whole formula there
  formula_there : (s : PlainStatement) → IsStatement (take n ts) s → (a : Term) × IsFormula (take size (drop at ts)) a
  formula_there s is =
      elim (complete is) [
        | inl p ↦ no_formula_before (take at ts) (take size (drop at ts)) left p.stage read (ap (steps (Some Start)) (sym parted) ∙ p.read)
            (finished_no_formula p.stage p.end p.ended)
        | inr k ↦
            (let o : (k.head ≡ take at ts) × (k.part ≡ take size (drop at ts))
            × (k.left ≡ left) = one_head k.head (take at ts) k.part (take size (drop at ts)) k.left left (sym k.is ∙ parted) k.read read in
            (k.formula, subst (λ x. IsFormula x k.formula) o.1 k.whole))
      ]

line_is_read : (ts : List Placed) (n : ℕ) (s : PlainStatement) → ReadsLine ts n s → IsRead (take n ts) (drop n ts) s
line_is_read ts n s r =
    record {
      whole = subst (λ x. IsStatement x s) (sym (parted ts n r.at r.size r.left r.read r.all))
          (subst (IsStatement (take r.at ts ++ take r.size (drop r.at ts))) r.is (line_whole (head_is (take r.at ts) r.left r.read) r.whole.whole));
      ended = λ t x e b. refused ts n r.at r.size r.left r.read r.all t x e
          (r.whole.ended (one_more_within r.size (drop r.at ts) t x (next_of ts n r.at r.size r.left r.read r.all t x e))) b;
      small = line_small ts n r.at r.size r.left r.read r.all r.whole.small;
    }

line_is_stop : (ts : List Placed) (n : ℕ) → StopsLine ts n → IsStop (take n ts) (drop n ts)
line_is_stop ts n r =
    record {
      begins = subst BeginsStatement (sym whole) (formula_begins (take r.at ts) (take r.size (drop r.at ts)) r.left r.read
          (r.stops.good r.size (omega arith)).begins);
      small = line_small ts n r.at r.size r.left r.read r.all (λ j le. (r.stops.good j le).small);
      wrong = λ t x e b nl. refused ts n r.at r.size r.left r.read r.all t x e (λ f. too_large t x e f nl) b;
      not_whole = λ s is e.
          (let a : (a : Term) × IsFormula (take r.size (drop r.at ts)) a = formula_there ts n r.at r.size r.left r.read r.all s is in
          let none : drop r.size (drop r.at ts) ≡ [] = sym (drop_add r.at r.size ts) ∙ (ap (λ k. drop k ts) (sym r.all) ∙ e) in
          absurd (omega (arith, (r.stops.unfinished a.0 a.1).0, drop_none_short r.size (drop r.at ts) none)));
      not_before = λ s is t x e b.
          (let a : (a : Term) × IsFormula (take r.size (drop r.at ts)) a = formula_there ts n r.at r.size r.left r.read r.all s is in
          named a.0 a.1 t x e b (r.stops.unfinished a.0 a.1).1);
    }
  where
    whole : take n ts ≡ take r.at ts ++ take r.size (drop r.at ts)
    whole = parted ts n r.at r.size r.left r.read r.all

    next : (t : Placed) (x : List Placed) → drop n ts ≡ t ∷ x → drop r.size (drop r.at ts) ≡ t ∷ x
    next = next_of ts n r.at r.size r.left r.read r.all

    head_there : {l : LeftSide} → IsHeadAs l (take r.at ts) → IsHead (take r.at ts)
    head_there (local_head ty name left h) = (ty, name, left, inl h)
    head_there (output_head ty name left h) = (ty, name, left, inr h)

    too_large : (t : Placed) (x : List Placed) → drop n ts ≡ t ∷ x → BeginsFormula (take (suc r.size) (drop r.at ts))
        → (IsLargeLine (take n ts ++ t ∷ []) → ⊥) → ⊥
    too_large t x e f nl =
        let more : take (suc r.size) (drop r.at ts) ≡ take r.size (drop r.at ts) ++ t ∷ [] = take_one_more r.size (drop r.at ts) t x (next t x e) in
        r.stops.wrong (one_more_within r.size (drop r.at ts) t x (next t x e)) (record {
          begins = f;
          small = λ large.
              nl (record {
                head = take r.at ts;
                part = take r.size (drop r.at ts) ++ t ∷ [];
                is = ap (λ v. v ++ t ∷ []) whole ∙ append_assoc (take r.at ts) (take r.size (drop r.at ts)) (t ∷ []);
                left = head_there (head_is (take r.at ts) r.left r.read);
                begun = subst BeginsFormula more f;
                large = subst IsLarge more large;
              });
        })

    named : (a : Term) → IsFormula (take r.size (drop r.at ts)) a → (t : Placed) (x : List Placed) → drop n ts ≡ t ∷ x → BeginsStatement (t ∷ [])
        → BeginsFormula (take (suc r.size) (drop r.at ts)) → ⊥
    named a f t x e (rest, s, is) b =
        let w : (line : ℕ) × (w : List ℕ) × (others : List Placed) × (t ∷ rest ≡ name_on line w ∷ others) = first_name is in
        let same : t ≡ name_on w.0 w.1 = cc (w.3) in
        let more : take (suc r.size) (drop r.at ts) ≡ take r.size (drop r.at ts) ++ t ∷ [] = take_one_more r.size (drop r.at ts) t x (next t x e) in
        name_ends_formula (take r.size (drop r.at ts)) a w.0 w.1 f (subst (λ v. BeginsFormula (take r.size (drop r.at ts) ++ v ∷ [])) same
        (subst BeginsFormula more b))

pub is_read : (ts : List Placed) (n : ℕ) (s : PlainStatement) → ReadsStatement ts n s → IsRead (take n ts) (drop n ts) s
is_read ts n s r =
    elim r [
      | inl p ↦ plain_is_read ts n s p
      | inr k ↦ line_is_read ts n s k
    ]

pub is_stop : (ts : List Placed) (n : ℕ) → StopsStatement ts n → IsStop (take n ts) (drop n ts)
is_stop ts n r =
    elim r [
      | inl p ↦ plain_is_stop ts n p
      | inr k ↦ line_is_stop ts n k
    ]
