-- The first place at which a read stands among those of its reader.
use Rattle.std.proofs.Common.{◌≡◌, ℕ, ◌+◌, ◌<◌, Bool, true, false, not, ◌&&◌, ◌==◌, List, [], ◌∷◌, ◌++◌, length, take, drop, get_or, refl, sym, ◌∙◌, ap, arith, cond, ℤ}
use Rattle.std.specs.List.{filter, list_any, position_or_len}
use Rattle.std.specs.Ordering.{int_eq}
use Rattle.std.proofs.lemmas.Bool.{or_parts}
use Rattle.std.proofs.lemmas.List.{drop_more, take-append-drop, take_all}
use Rattle.std.proofs.lemmas.List.Elements.{filter-append}
use Rattle.delay_net.specs.declared.net.Read.{Read}
use Rattle.staged_cells.specs.Cells.{port_of, reads_by}

place_here : {A : Type 0} (f : A → Bool) (before after : List A) (x : A) → list_any f before ≡ false → f x ≡ true
    → position_or_len f (before ++ x ∷ after) ≡ length before
place_here f [] after x e h = ap (λ b. cond (not b) (1 + position_or_len f after) 0) h
place_here f (y ∷ ys) after x e h =
    let parts = or_parts (f y) (list_any f ys) e in
    ap (λ b. cond (not b) (1 + position_or_len f (ys ++ x ∷ after)) 0) parts.0 ∙ omega (arith, place_here f ys after x parts.1 h)

place_none : {A : Type 0} (f : A → Bool) (xs : List A) → list_any f xs ≡ false → position_or_len f xs ≡ length xs
place_none f [] e = refl
place_none f (y ∷ ys) e =
    let parts = or_parts (f y) (list_any f ys) e in
    ap (λ b. cond (not b) (1 + position_or_len f ys) 0) parts.0 ∙ omega (arith, place_none f ys parts.1)

abbrev pub is_it : (of : ℕ) → ℤ → Read → Bool
is_it of offset r = r.of == of && int_eq r.offset offset

pub port_here : (reads : List Read) (reader of : ℕ) (offset : ℤ) (i port : ℕ) (r : Read) → i < length reads → r ≡ get_or reads i r
    → port ≡ length (reads_by (take i reads) reader) → list_any (is_it of offset) (reads_by (take i reads) reader) ≡ false
    → (r.reader == reader) ≡ true → is_it of offset r ≡ true → port ≡ port_of reads reader of offset
port_here reads reader of offset i port r l is e none mine here =
    let m : Read → Bool = λ q. q.reader == reader in
    let split : reads ≡ take i reads ++ r ∷ drop (i + 1) reads = sym (take-append-drop i reads)
    ∙ ap (λ zs. take i reads ++ zs) (drop_more reads i r l ∙ ap (λ (q : Read). q ∷ drop (i + 1) reads) (sym is)) in
    let kept : reads_by reads reader ≡ reads_by (take i reads) reader ++ r ∷ filter m (drop (i + 1) reads) = ap (filter m) split
    ∙ filter-append m (take i reads) (r ∷ drop (i + 1) reads)
    ∙ ap (λ b. filter m (take i reads) ++ cond b (r ∷ filter m (drop (i + 1) reads)) (filter m (drop (i + 1) reads))) mine in
    e ∙ sym (place_here (is_it of offset) (reads_by (take i reads) reader) (filter m (drop (i + 1) reads)) r none here)
    ∙ sym (ap (position_or_len (is_it of offset)) kept)

pub port_none : (reads : List Read) (reader of : ℕ) (offset : ℤ) (i port : ℕ) → length reads ≡ i → port ≡ length (reads_by (take i reads) reader)
    → list_any (is_it of offset) (reads_by (take i reads) reader) ≡ false
    → port ≡ port_of reads reader of offset
port_none reads reader of offset i port l e none =
    let whole : take i reads ≡ reads = take_all i reads (omega arith) in
    e ∙ sym (place_none (is_it of offset) (reads_by (take i reads) reader) none) ∙ ap (λ rs. position_or_len (is_it of offset) (reads_by rs reader)) whole
