use Rattle.std.proofs.Common.{◌≡◌, ◌∙◌, Some, None, map, length, set, sym, ap, List, Option, ℕ, ℤ}
use Rattle.std.specs.Prelude.{position}
use Rattle.std.proofs.lemmas.List.{length-map}
use Rattle.soda_words.specs.Names.{is_word}
use Rattle.soda_ir.specs.Program.{plain_param}
use Rattle.array_bytes.specs.Runs.{runs}
use Rattle.param_lines.specs.pieces.Slots.{are_taken, is_taken, slots_with}
use Rattle.param_lines.proofs.Placed.{IsAt, at_filled, at_taken, not_placed}
use Rattle.param_lines.proofs.row.read_row.Goals as goal

pub returns-in_default-place-clause-fine : goal.returns-in_default-place-clause-fine
returns-in_default-place-clause-fine c =
    let ps = map plain_param c.args.params.now in
    let many : length c.args.slots.now ≡ length ps = c.requires.slots ∙ sym (length-map c.args.params.now plain_param) in
    let place : None ≡ position (is_word c.in-Some.name.now) c.args.names.now = cc in
    let none : None ≡ position (is_word c.in-Some.name.now) (map (λ p. p.name) ps) = place ∙ ap (λ (ns : List (List ℕ)). position (is_word c.in-Some.name.now) ns) c.requires.names in
    sym (ap (are_taken ps c.args.slots.now) c.in-Some.ensures.found ∙ not_placed ps c.args.slots.now c.in-Some.name.now (runs c.in-Some.text.now) many none)

pub returns-clause-fine : goal.returns-clause-fine
returns-clause-fine c =
    let ps = map plain_param c.args.params.now in
    let place : Some c.in-Some-place.place ≡ position (is_word c.in-Some.name.now) c.args.names.now = cc in
    let found : Some c.in-Some-place.place ≡ position (is_word c.in-Some.name.now) (map (λ p. p.name) ps) = place ∙ ap (λ (ns : List (List ℕ)). position (is_word c.in-Some.name.now) ns) c.requires.names in
    let at : IsAt c.args.params.now c.args.slots.now c.in-Some.name.now c.in-Some-place.place c.index-params-place.result c.index-slots-place.result = record { many = c.requires.slots; found = found; its_param = c.index-params-place.is; its_slot = c.index-slots-place.is } in
    c.in_ok-fine.ensures.fine ∙ (ap (λ (s : Option (List ℤ)). is_taken (plain_param c.index-params-place.result) s (runs c.in-Some.text.now)) (sym c.index-slots-place.is)
    ∙ (at_taken _ _ _ _ _ _ (runs c.in-Some.text.now) at ∙ ap (are_taken ps c.args.slots.now) (sym c.in-Some.ensures.found)))

pub returns-clause-filled : goal.returns-clause-filled
returns-clause-filled c =
    let ps = map plain_param c.args.params.now in
    let place : Some c.in-Some-place.place ≡ position (is_word c.in-Some.name.now) c.args.names.now = cc in
    let found : Some c.in-Some-place.place ≡ position (is_word c.in-Some.name.now) (map (λ p. p.name) ps) = place ∙ ap (λ (ns : List (List ℕ)). position (is_word c.in-Some.name.now) ns) c.requires.names in
    let at : IsAt c.args.params.now c.args.slots.now c.in-Some.name.now c.in-Some-place.place c.index-params-place.result c.index-slots-place.result = record { many = c.requires.slots; found = found; its_param = c.index-params-place.is; its_slot = c.index-slots-place.is } in
    λ fine. ap (set c.args.slots.now c.in-Some-place.place) (c.in_ok-fine.ensures.filled fine)
    ∙ (at_filled _ _ _ _ _ _ (runs c.in-Some.text.now) at ∙ ap (slots_with ps c.args.slots.now) (sym c.in-Some.ensures.found))
