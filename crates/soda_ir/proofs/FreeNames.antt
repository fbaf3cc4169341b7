-- Names that may stand beside each other.
use Rattle.std.proofs.Common.{◌≡◌, ℕ, ◌+◌, ◌<◌, Bool, true, false, not, ◌&&◌, ◌||◌, List, [], ◌∷◌, ◌++◌, length, map, get_or, take, drop, refl, sym, ◌∙◌, ap, append_assoc}
use Rattle.std.specs.List.{list_any}
use Rattle.std.proofs.lemmas.Bool.{and_from, and_parts}
use Rattle.std.proofs.lemmas.List.{map-append, take-append-drop, take_more}
use Rattle.std.proofs.lemmas.List.Folds.{list_any-append}
use Rattle.soda_words.specs.Names.{is_free_name, is_word}
use Rattle.soda_words.proofs.CallerLemmas.{is_word-turned}
use Rattle.soda_ir.specs.declared.program.Param.{Param}
use Rattle.soda_ir.specs.declared.program.Tensor.{Tensor}
use Rattle.soda_ir.specs.Program.{PlainParam, PlainTensor, plain_param, plain_tensor}
use Rattle.soda_ir.specs.Valid.{are_free_names}

-- the tests of one name more, behind the others or in front of them
regrouped : (f l s a g m : Bool) → ((f && not (l || (s || false))) && ((a && g) && not m)) ≡ ((((f && not l) && a) && g) && not (s || m))
regrouped false l s a g m = refl
regrouped true true s a g m = refl
regrouped true false true false g m = refl
regrouped true false true true false m = refl
regrouped true false true true true m = refl
regrouped true false false a g m = refl

one_name : (f : Bool) → ((f && true) && true) ≡ ((true && f) && true)
one_name true = refl
one_name false = refl

-- names with one more behind them
name_more : (ws : List (List ℕ)) (w : List ℕ) → are_free_names (ws ++ w ∷ []) ≡ (are_free_names ws && is_free_name w && not (list_any (is_word w) ws))
name_more [] w = one_name (is_free_name w)
name_more (v ∷ vs) w =
    let L = list_any (is_word v) vs in
    let M = list_any (is_word w) vs in
    ap (λ b. (is_free_name v && not b) && are_free_names (vs ++ w ∷ [])) (list_any-append (is_word v) vs (w ∷ []))
    ∙ ap (λ b. (is_free_name v && not (L || (is_word v w || false))) && b) (name_more vs w)
    ∙ ap (λ b. (is_free_name v && not (L || (b || false))) && ((are_free_names vs && is_free_name w) && not M)) (is_word-turned v w)
    ∙ regrouped (is_free_name v) L (is_word w v) (are_free_names vs) (is_free_name w) M

pub good_more : (ws : List (List ℕ)) (w : List ℕ) (b : Bool) → are_free_names ws ≡ true → is_free_name w ≡ true → b ≡ not (list_any (is_word w) ws) → b ≡ are_free_names (ws ++ w ∷ [])
good_more ws w b h f e =
    e ∙ sym (name_more ws w ∙ ap (λ a. (a && is_free_name w) && not (list_any (is_word w) ws)) h ∙ ap (λ a. (true && a) && not (list_any (is_word w) ws)) f)

pub bad_more : (ws : List (List ℕ)) (w : List ℕ) → are_free_names ws ≡ true → is_free_name w ≡ false → false ≡ are_free_names (ws ++ w ∷ [])
bad_more ws w h f =
    sym (name_more ws w ∙ ap (λ a. (a && is_free_name w) && not (list_any (is_word w) ws)) h ∙ ap (λ a. (true && a) && not (list_any (is_word w) ws)) f)

-- the front of names that are free
fewer : (l r : Bool) → not (l || r) ≡ true → not l ≡ true
fewer true r e = e
fewer false r e = refl

front_free : (vs ws : List (List ℕ)) → are_free_names (vs ++ ws) ≡ true → are_free_names vs ≡ true
front_free [] ws e = refl
front_free (v ∷ vs) ws e =
    let both = and_parts (is_free_name v && not (list_any (is_word v) (vs ++ ws))) (are_free_names (vs ++ ws)) e in
    let name = and_parts (is_free_name v) (not (list_any (is_word v) (vs ++ ws))) both.0 in
    let apart : not (list_any (is_word v) vs) ≡ true = fewer (list_any (is_word v) vs) (list_any (is_word v) ws) (ap not (sym (list_any-append (is_word v) vs ws)) ∙ name.1) in
    and_from _ _ (and_from _ _ name.0 apart) (front_free vs ws both.1)

-- a name that may not stand behind others spoils what goes on with it
not_true : (b : Bool) → (b ≡ true → false ≡ true) → false ≡ b
not_true true h = h refl
not_true false h = refl

pub spoiled : (before front rest all now : List (List ℕ)) (w : List ℕ) (b : Bool) → now ≡ before ++ front → all ≡ (front ++ w ∷ []) ++ rest → b ≡ are_free_names (now ++ w ∷ []) → b ≡ false → false ≡ are_free_names (before ++ all)
spoiled before front rest all now w b n a k e =
    let joined : before ++ all ≡ (now ++ w ∷ []) ++ rest = ap (λ xs. before ++ xs) a ∙ sym (append_assoc before (front ++ w ∷ []) rest) ∙ ap (λ xs. xs ++ rest) (sym (append_assoc before front (w ∷ []))) ∙ ap (λ xs. (xs ++ w ∷ []) ++ rest) (sym n) in
    not_true (are_free_names (before ++ all)) (λ t. sym e ∙ k ∙ front_free (now ++ w ∷ []) rest (ap are_free_names (sym joined) ∙ t))

pub front_spoiled : (vs ws : List (List ℕ)) (b : Bool) → b ≡ are_free_names vs → b ≡ false → false ≡ are_free_names (vs ++ ws)
front_spoiled vs ws b k e =
    not_true (are_free_names (vs ++ ws)) (λ t. sym e ∙ k ∙ front_free vs ws t)

-- the names of a front, one longer
param_names_more : (qs : List Param) (i : ℕ) (q : Param) → i < length qs → q ≡ get_or qs i q → map (λ p. p.name) (map plain_param (take (i + 1) qs)) ≡ map (λ p. p.name) (map plain_param (take i qs)) ++ q.name ∷ []
param_names_more qs i q h e =
    let name : PlainParam → List ℕ = λ p. p.name in
    ap (λ us. map name (map plain_param us)) (take_more qs i q h)
    ∙ ap (λ us. map name us) (map-append plain_param (take i qs) (get_or qs i q ∷ []))
    ∙ map-append name (map plain_param (take i qs)) (plain_param (get_or qs i q) ∷ [])
    ∙ ap (λ (u : Param). map name (map plain_param (take i qs)) ++ u.name ∷ []) (sym e)

-- the names of all params: of those in front of one, its own, and of those behind it
pub param_names_split : (qs : List Param) (i : ℕ) (q : Param) → i < length qs → q ≡ get_or qs i q → map (λ p. p.name) (map plain_param qs) ≡ (map (λ p. p.name) (map plain_param (take i qs)) ++ q.name ∷ []) ++ map (λ p. p.name) (map plain_param (drop (i + 1) qs))
param_names_split qs i q h e =
    let name : PlainParam → List ℕ = λ p. p.name in
    ap (λ us. map name (map plain_param us)) (sym (take-append-drop (i + 1) qs))
    ∙ ap (λ us. map name us) (map-append plain_param (take (i + 1) qs) (drop (i + 1) qs))
    ∙ map-append name (map plain_param (take (i + 1) qs)) (map plain_param (drop (i + 1) qs))
    ∙ ap (λ xs. xs ++ map name (map plain_param (drop (i + 1) qs))) (param_names_more qs i q h e)

tensor_names_more : (ts : List Tensor) (i : ℕ) (t : Tensor) → i < length ts → t ≡ get_or ts i t → map (λ u. u.name) (map plain_tensor (take (i + 1) ts)) ≡ map (λ u. u.name) (map plain_tensor (take i ts)) ++ t.name ∷ []
tensor_names_more ts i t h e =
    let name : PlainTensor → List ℕ = λ u. u.name in
    ap (λ us. map name (map plain_tensor us)) (take_more ts i t h)
    ∙ ap (λ us. map name us) (map-append plain_tensor (take i ts) (get_or ts i t ∷ []))
    ∙ map-append name (map plain_tensor (take i ts)) (plain_tensor (get_or ts i t) ∷ [])
    ∙ ap (λ (u : Tensor). map name (map plain_tensor (take i ts)) ++ u.name ∷ []) (sym e)

pub tensor_names_split : (ts : List Tensor) (i : ℕ) (t : Tensor) → i < length ts → t ≡ get_or ts i t → map (λ u. u.name) (map plain_tensor ts) ≡ (map (λ u. u.name) (map plain_tensor (take i ts)) ++ t.name ∷ []) ++ map (λ u. u.name) (map plain_tensor (drop (i + 1) ts))
tensor_names_split ts i t h e =
    let name : PlainTensor → List ℕ = λ u. u.name in
    ap (λ us. map name (map plain_tensor us)) (sym (take-append-drop (i + 1) ts))
    ∙ ap (λ us. map name us) (map-append plain_tensor (take (i + 1) ts) (drop (i + 1) ts))
    ∙ map-append name (map plain_tensor (take (i + 1) ts)) (map plain_tensor (drop (i + 1) ts))
    ∙ ap (λ xs. xs ++ map name (map plain_tensor (drop (i + 1) ts))) (tensor_names_more ts i t h e)
