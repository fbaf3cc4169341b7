use Rattle.std.proofs.Common.{◌≡◌, ℕ, List, map, length, sym, ap, ◌∙◌, rules}
use Rattle.std.proofs.lemmas.List.{map-append, length-map}
use Rattle.std.specs.Prelude.{not, nat_eq}
use Rattle.std.specs.Borrow.{Bor}
use Rattle.std.specs.Cmp.Lexicographic.{pointwise}
use Rattle.std.specs.List.{list_any}
use Rattle.indexmap.proofs.CallerLemmas.{insert_entry-new}
use Rattle.soda_words.specs.Names.{is_word}
use Rattle.soda_words.proofs.CallerLemmas.{absent}
use Rattle.soda_words.proofs.Tables.{among, firsts-new, firsts-repeated}
use Rattle.soda_words.proofs.table.NameTable.add.Goals as goal

pub returns-then-contains_key-clause-fresh : goal.returns-then-contains_key-clause-fresh
returns-then-contains_key-clause-fresh c =
    ap not (sym c.if-contains_key.true ∙ (c.contains_key.ensures ∙ (among _ _ c.self.invariant c.args.name.now ∙ ap (list_any (is_word c.args.name.now)) c.self.view_is)))

pub invariant_of-self-then-contains_key : goal.invariant_of-self-then-contains_key
invariant_of-self-then-contains_key c =
    let there = sym (among _ _ c.self.invariant c.args.name.now) ∙ (sym c.contains_key.ensures ∙ c.if-contains_key.true) in
    rw (c.in_ok-push.ensures.items, map-append) (firsts-repeated _ _ c.self.invariant c.args.name.now there)

pub invariant_of-self-in-Ok : goal.invariant_of-self-in-Ok
invariant_of-self-in-Ok c =
    let none = absent (sym c.contains_key.ensures ∙ c.if-contains_key.false) in
    let more = c.in-Ok.ensures.entries ∙ insert_entry-new (λ a b. pointwise nat_eq a.now b.now) c.self.inside.places c.args.name c.len-place.result none in
    let place : c.len-place.result ≡ length (map (λ (n : Bor (List ℕ)). n.now) c.self.inside.names.items) = search (rules, length-map) in
    rw (more, place, c.in_ok-push-2.ensures.items, map-append) (firsts-new _ _ c.self.invariant c.args.name)

pub returns-in-Ok-clause-fresh : goal.returns-in-Ok-clause-fresh
returns-in-Ok-clause-fresh c =
    ap not (sym c.if-contains_key.false ∙ (c.contains_key.ensures ∙ (among _ _ c.self.invariant c.args.name.now ∙ ap (list_any (is_word c.args.name.now)) c.self.view_is)))
