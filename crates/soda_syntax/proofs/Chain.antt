-- Statements read one behind another, and where reading stops.
use Rattle.std.proofs.Common.{◌≡◌, ◌⊎◌, inl, inr, List, [], ◌∷◌, ◌++◌, refl, sym, ◌∙◌, ap, subst, append-nil, append_assoc}
use Rattle.soda_words.specs.declared.token.Placed.{Placed}
use Rattle.soda_formula.specs.Statements.{PlainStatement}
use Rattle.soda_syntax.specs.Grammar.{IsStatement, AreStatements, no_statement, statement_before}
use Rattle.soda_syntax.specs.SyntaxError.{BeginsText, IsTooLarge, IsGoodStart}
use Rattle.soda_syntax.proofs.Lists.{compare}
use Rattle.soda_syntax.proofs.Standing.{BeginsStatement, name_ends}
use Rattle.soda_syntax.proofs.Texts.{IsLargeLine, IsRead, Parts, parts_of_begun, parts_before, text_parts, begins_front, whole_begins, nothing_begins, one_more, tail_begins, parts_down, large_down, whole_down, large_up, inside_small}

-- these statements are read from the front, one behind another, and so much is left
pub data Reads : List Placed → List PlainStatement → List Placed → Type 0 where
  reads_none : (ts : List Placed) → Reads ts [] ts
  reads_more : {front rest last : List Placed} {s : PlainStatement} {ss : List PlainStatement} → IsRead front rest s → Reads rest ss last
      → Reads (front ++ rest) (s ∷ ss) last

-- reading stops behind these tokens, and so much is left
pub record IsStop (front rest : List Placed) : Type 0 where
  pub begins : BeginsStatement front
  pub small : (p y : List Placed) → front ≡ p ++ y → IsLargeLine p → ⊥
  pub wrong : (t : Placed) (r : List Placed) → rest ≡ t ∷ r → BeginsStatement (front ++ t ∷ []) → (IsLargeLine (front ++ t ∷ []) → ⊥) → ⊥
  pub not_whole : (s : PlainStatement) → IsStatement front s → rest ≡ [] → ⊥
  pub not_before : (s : PlainStatement) → IsStatement front s → (t : Placed) (r : List Placed) → rest ≡ t ∷ r → BeginsStatement (t ∷ []) → ⊥

pub reads_snoc : {ts last : List Placed} {ss : List PlainStatement} → Reads ts ss last → (front rest : List Placed) (s : PlainStatement)
    → last ≡ front ++ rest → IsRead front rest s → Reads ts (ss ++ s ∷ []) rest
reads_snoc (reads_none ts) front rest s e r = subst (λ x. Reads x (s ∷ []) rest) (sym e) (reads_more r (reads_none rest))
reads_snoc (reads_more first more) front rest s e r = reads_more first (reads_snoc more front rest s e r)

restricted : {front rest : List Placed} {s : PlainStatement} → IsRead front rest s → (w y : List Placed) → rest ≡ w ++ y → IsRead front w s
restricted r w y e = record { whole = r.whole; ended = λ t q f. r.ended t (q ++ y) (e ∙ ap (λ x. x ++ y) f); small = r.small }

-- the same statements are read where less is left
pub record Shrunk (ts : List Placed) (ss : List PlainStatement) (w y : List Placed) : Type 0 where
  pub less : List Placed
  pub is : ts ≡ less ++ y
  pub reads : Reads less ss w

pub shrink : {ts last : List Placed} {ss : List PlainStatement} → Reads ts ss last → (w y : List Placed) → last ≡ w ++ y → Shrunk ts ss w y
shrink (reads_none ts) w y e = record { less = w; is = e; reads = reads_none w }
shrink (reads_more {front = front} r more) w y e =
    let k : Shrunk _ _ w y = shrink more w y e in
    record {
      less = front ++ k.less;
      is = ap (λ x. front ++ x) k.is ∙ sym (append_assoc front k.less y);
      reads = reads_more
          (restricted r k.less y k.is) k.reads;
    }

nothing_left : (ts : List Placed) → ts ≡ ts ++ []
nothing_left ts = sym (append-nil ts)

pub parts_last : {ts last : List Placed} {ss : List PlainStatement} → Reads ts ss last → Parts ts → Parts last
parts_last (reads_none ts) p = p
parts_last (reads_more {rest = rest} r more) p = parts_last more (parts_down r rest [] (nothing_left rest) p)

pub large_last : {ts last : List Placed} {ss : List PlainStatement} → Reads ts ss last → IsTooLarge ts → IsTooLarge last
large_last (reads_none ts) l = l
large_last (reads_more {rest = rest} r more) l = large_last more (large_down r rest [] (nothing_left rest) l)

pub whole_last : {ts last : List Placed} {ss : List PlainStatement} → Reads ts ss last → (rs : List PlainStatement) → AreStatements ts rs
    → (qs : List PlainStatement) × AreStatements last qs
whole_last (reads_none ts) rs a = (rs, a)
whole_last (reads_more {rest = rest} r more) rs a =
    let d : (qs : List PlainStatement) × AreStatements rest qs = whole_down r rest [] (nothing_left rest) rs a in
    whole_last more d.0 d.1

pub large_first : {ts last : List Placed} {ss : List PlainStatement} → Reads ts ss last → IsTooLarge last → IsTooLarge ts
large_first (reads_none ts) l = l
large_first (reads_more {rest = rest} r more) l = large_up r.whole rest (large_first more l)

pub parts_first : {ts last : List Placed} {ss : List PlainStatement} → Reads ts ss last → Parts last → Parts ts
parts_first (reads_none ts) p = p
parts_first (reads_more {rest = rest} r more) p = parts_before rest r.whole (parts_first more p)

pub all_read : {ts last : List Placed} {ss : List PlainStatement} → Reads ts ss last → last ≡ [] → AreStatements ts ss
all_read (reads_none ts) e = subst (λ x. AreStatements x []) (sym e) no_statement
all_read (reads_more r more) e = statement_before r.whole (all_read more e)

-- nothing is wrong with the tokens so far
pub record IsGood (p : List Placed) : Type 0 where
  pub parts : Parts p
  pub small : IsTooLarge p → ⊥

-- a front of what was read ends where nothing is wrong, or in what is left
pub record IsPast (p y last : List Placed) (ss : List PlainStatement) : Type 0 where
  pub more : List Placed
  pub is : last ≡ more ++ y
  pub reads : Reads p ss more

pub fronts : {ts last : List Placed} {ss : List PlainStatement} → Reads ts ss last → (p y : List Placed) → ts ≡ p ++ y → IsGood p ⊎ IsPast p y last ss
fronts (reads_none ts) p y e = inr (record { more = p; is = e; reads = reads_none p })
fronts (reads_more {front = front} {rest = rest} {s = s} {ss = ss} r others) p y e =
    elim (compare front p rest y e) [
      | inl b ↦
          elim (fronts others b.more y b.rest) [
            | inl g ↦
                inl (record {
                  parts = subst Parts (sym b.front) (parts_before b.more r.whole g.parts);
                  small = λ l. g.small (large_down r b.more y b.rest (subst IsTooLarge b.front l));
                })
            | inr k ↦ inr (record {
              more = k.more;
              is = k.is;
              reads = subst (λ x. Reads x (s ∷ ss) k.more) (sym b.front)
                  (reads_more (restricted r b.more y b.rest) k.reads);
            })
          ]
      | inr b ↦
          (let begun : BeginsStatement p = begins_front p (b.first ∷ b.more) (subst BeginsStatement b.front (whole_begins r.whole)) in
          inl (record { parts = parts_of_begun p begun; small = inside_small p begun (r.small p (b.first ∷ b.more) b.front) }))
    ]

-- each front of what is read up to a stop is good
pub good_front : {whole front rest : List Placed} {ss : List PlainStatement} → Reads whole ss front → IsStop front rest → (p y : List Placed)
    → whole ≡ p ++ y → IsGood p
good_front {front = front} r stop p y e =
    elim (fronts r p y e) [
      | inl g ↦ g
      | inr k ↦
          (let begun : BeginsStatement k.more = begins_front k.more y (subst BeginsStatement k.is stop.begins) in
          record {
            parts = parts_first k.reads (parts_of_begun k.more begun);
            small = λ l. inside_small k.more begun (stop.small k.more y k.is)
                (large_last k.reads l);
          })
    ]

-- a text that goes on with the next token goes on with it in this statement
stop_goes : (front rest : List Placed) (t : Placed) (r : List Placed) → IsStop front rest → rest ≡ t ∷ r → Parts (front ++ t ∷ [])
    → BeginsStatement (front ++ t ∷ [])
stop_goes front rest t r stop e p = by p.whole p.is
  where
    by : {before : List Placed} {ss : List PlainStatement} → AreStatements before ss → front ++ t ∷ [] ≡ before ++ p.tail → BeginsStatement (front ++ t ∷ [])
    by no_statement f = subst BeginsStatement (sym f) p.begun
    by (statement_before {ts = a} {us = us} {s = s} st more) f =
        elim (compare front a (t ∷ []) (us ++ p.tail) (f ∙ append_assoc a us p.tail)) [
          | inl k ↦ beyond k.more k.front k.rest
          | inr k ↦ absurd (name_ends k.first st (tail_begins p.tail k.first (k.more ++ t ∷ []) more p.begun k.rest)
              (one_more a k.first k.more (subst BeginsStatement k.front stop.begins)))
        ]
      where
        beyond : (z : List Placed) → a ≡ front ++ z → t ∷ [] ≡ z ++ (us ++ p.tail) → BeginsStatement (front ++ t ∷ [])
        beyond [] g h =
            let same : a ≡ front = g ∙ append-nil front in
            absurd (stop.not_before s (subst (λ x. IsStatement x s) same st) t r e (tail_begins p.tail t [] more p.begun (sym h)))
        beyond (u ∷ z) g h =
            let first : u ≡ t = cc in
            subst (λ x. BeginsStatement (front ++ x ∷ [])) first (one_more front u z (subst BeginsStatement g (whole_begins st)))

-- with the next token the tokens so far are no good start
pub wrong_front : (ts : List Placed) (ss : List PlainStatement) (front rest : List Placed) (t : Placed) → Reads ts ss (front ++ t ∷ [])
    → IsStop front rest → (r : List Placed) → rest ≡ t ∷ r → IsGoodStart ts → ⊥
wrong_front ts ss front rest t reads stop r e g =
    let b : BeginsText ts = g.begins in
    let p : Parts (front ++ t ∷ []) = parts_last reads (text_parts b.2 ts b.0 refl) in
    stop.wrong t r e (stop_goes front rest t r stop e p) (λ l. g.small (large_first reads (as_large l)))
  where
    as_large : IsLargeLine (front ++ t ∷ []) → IsTooLarge (front ++ t ∷ [])
    as_large l =
        record {
          part = l.part;
          within = record {
            before = [];
            statements = [];
            head = l.head;
            is = l.is;
            whole = no_statement;
            left = l.left;
            begun =
                l.begun;
          };
          large = l.large;
        }

-- a text that stops at its end is no text
pub no_end : (ts : List Placed) (ss : List PlainStatement) (front : List Placed) → Reads ts ss front → IsStop front [] → (front ≡ [] → ⊥)
    → (rs : List PlainStatement) → AreStatements ts rs → ⊥
no_end ts ss front reads stop some rs a = let q : (qs : List PlainStatement) × AreStatements front qs = whole_last reads rs a in by q.1 refl
  where
    by : {all : List Placed} {qs : List PlainStatement} → AreStatements all qs → all ≡ front → ⊥
    by no_statement e = some (sym e)
    by (statement_before {ts = b} {us = us} {s = s} st more) e = split us more e
      where
        split : (vs : List Placed) {qs : List PlainStatement} → AreStatements vs qs → b ++ vs ≡ front → ⊥
        split [] m f = stop.not_whole s (subst (λ x. IsStatement x s) (sym (append-nil b) ∙ f) st) refl
        split (u ∷ z) m f = name_ends u st (tail_begins [] u z m nothing_begins (append-nil (u ∷ z)))
            (one_more b u z (subst BeginsStatement (sym f) stop.begins))
