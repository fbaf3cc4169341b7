use Rattle.std.proofs.Common.{◌≢◌, ℕ, List, false, [], ◌∷◌, ap, arith}
use Rattle.std.proofs.lemmas.List.Elements.{All-nil}
use Rattle.job_files.proofs.CallerLemmas.{begin}
use Rattle.sodac_cli.specs.Work.{modules_file, program_file, target_of}
use Rattle.sodac_cli.proofs.Compiled.{both, create_fault, create_memory, file_empty, file_named, made_opened, none_yet, text_fault, text_made, text_memory}
use Rattle.sodac_cli.proofs.compile.write_text.Goals as goal

pub write_to-requires-clause-created : goal.write_to-requires-clause-created
write_to-requires-clause-created g c = λ told.
    let first = g.F.Files.given c.args.files.now in
    let begun = g.F.Files.store c.args.files.now in
    made_opened first begun c.args.name.now _ _ c.in-Ok.id (λ f e. c.in-Ok.ensures.journal told first begun [] 0 (λ n. 0) f e (begin first begun))

pub returns-in-Ok-write_to-clause-goes : goal.returns-in-Ok-write_to-clause-goes
returns-in-Ok-write_to-clause-goes g c = λ told first begun a p named is_text d.
    let text = c.args.text.now in
    let name = c.args.name.now in
    let asked = c.in-Ok.ensures.journal told first begun (program_file a ∷ []) 1 d.asked.places (modules_file a) (ap (λ (n : List ℕ). (false, n)) named) d.asked.progress in
    let empty = c.in-Ok.ensures.emptied told begun.bytes [] (none_yet first begun a p _ _ d text is_text) (All-nil (λ (o : List ℕ × List ℕ). o.0 ≢ name)) in
    let e = c.in-Ok-write_to.ensures in
    let puts = e.puts told begun.bytes [] [] (target_of a) [] (file_named first begun a p _ _ d text is_text name named c.in-Ok.id _ _ asked empty)
    (file_empty first begun a p _ _ d text is_text name named c.in-Ok.id _ _ asked empty) in
    text_made first begun a p _ _ d text is_text name named c.in-Ok.id _ _ asked empty _ _ e.given _ puts puts.puts.all
    (e.journal told first begun (both a) 1 d.asked.places 1 asked.0 (omega arith) asked.1)

pub returns-in-Err-Failed-write_to-clause-ends : goal.returns-in-Err-Failed-write_to-clause-ends
returns-in-Err-Failed-write_to-clause-ends g c = λ told first begun a p named is_text d.
    let text = c.args.text.now in
    let name = c.args.name.now in
    let asked = c.in-Ok.ensures.journal told first begun (program_file a ∷ []) 1 d.asked.places (modules_file a) (ap (λ (n : List ℕ). (false, n)) named) d.asked.progress in
    let empty = c.in-Ok.ensures.emptied told begun.bytes [] (none_yet first begun a p _ _ d text is_text) (All-nil (λ (o : List ℕ × List ℕ). o.0 ≢ name)) in
    let e = c.in-Err-Failed-write_to.ensures in
    let puts = e.puts told begun.bytes [] [] (target_of a) [] (file_named first begun a p _ _ d text is_text name named c.in-Ok.id _ _ asked empty)
    (file_empty first begun a p _ _ d text is_text name named c.in-Ok.id _ _ asked empty) in
    text_fault first begun a p _ _ d text is_text name named c.in-Ok.id _ _ asked empty _ _ e.given _ puts c.in-Err-Failed-write_to.field-0
    c.in-Err-Failed-write_to.field-0-is (e.journal told first begun (both a) 1 d.asked.places 1 asked.0 (omega arith) asked.1)

pub returns-in-Err-Memory-write_to-clause-ends : goal.returns-in-Err-Memory-write_to-clause-ends
returns-in-Err-Memory-write_to-clause-ends g c = λ told first begun a p named is_text d.
    let text = c.args.text.now in
    let name = c.args.name.now in
    let asked = c.in-Ok.ensures.journal told first begun (program_file a ∷ []) 1 d.asked.places (modules_file a) (ap (λ (n : List ℕ). (false, n)) named) d.asked.progress in
    let empty = c.in-Ok.ensures.emptied told begun.bytes [] (none_yet first begun a p _ _ d text is_text) (All-nil (λ (o : List ℕ × List ℕ). o.0 ≢ name)) in
    let e = c.in-Err-Memory-write_to.ensures in
    let puts = e.puts told begun.bytes [] [] (target_of a) [] (file_named first begun a p _ _ d text is_text name named c.in-Ok.id _ _ asked empty)
    (file_empty first begun a p _ _ d text is_text name named c.in-Ok.id _ _ asked empty) in
    text_memory first begun a p _ _ d text is_text name named c.in-Ok.id _ _ asked empty _ _ e.given _ puts c.in-Err-Memory-write_to.field-0
    c.in-Err-Memory-write_to.field-0-is (e.journal told first begun (both a) 1 d.asked.places 1 asked.0 (omega arith) asked.1)

pub returns-in-Err-Failed-clause-ends : goal.returns-in-Err-Failed-clause-ends
returns-in-Err-Failed-clause-ends g c = λ told first begun a p named is_text d.
    let e = c.in-Err-Failed.ensures in
    create_fault first begun a p _ _ d c.args.text.now is_text _ _ (e.kept told) c.in-Err-Failed.field-0
    (e.journal told first begun (program_file a ∷ []) 1 d.asked.places (modules_file a) (ap (λ (n : List ℕ). (false, n)) named) d.asked.progress)
    c.in-Err-Failed.field-0-is e.id

pub returns-in-Err-Memory-clause-ends : goal.returns-in-Err-Memory-clause-ends
returns-in-Err-Memory-clause-ends g c = λ told first begun a p named is_text d.
    let e = c.in-Err-Memory.ensures in
    create_memory first begun a p _ _ d c.args.text.now is_text _ _ (e.kept told) c.in-Err-Memory.field-0
    (e.journal told first begun (program_file a ∷ []) 1 d.asked.places (modules_file a) (ap (λ (n : List ℕ). (false, n)) named) d.asked.progress)
    c.in-Err-Memory.field-0-is
