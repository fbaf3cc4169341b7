use Rattle.std.proofs.Common.{sym, subst, map, arith, drop, length-drop, ◌+◌}
use Rattle.std.proofs.lemmas.List.{take_rest}
use Rattle.soda_syntax.specs.machine.Pieces.{ReadsStatement, StopsStatement}
use Rattle.soda_formula.specs.Statements.{plain_statement}
use Rattle.soda_syntax.proofs.Chain.{Reads, reads_none}
use Rattle.soda_syntax.proofs.Tops.{one_read, read_within, whole_syntax, refused}
use Rattle.soda_syntax.proofs.reading.read_tokens.Goals as goal

pub loop-at-init : goal.loop-at-init
loop-at-init c = record {
  within = omega arith;
  reads = subst (λ xs. Reads c.args.tokens.now (map plain_statement xs) c.args.tokens.now) (sym c.new-found.ensures.items) (reads_none c.args.tokens.now);
}

pub loop-at-preserved : goal.loop-at-preserved
loop-at-preserved c =
    let tokens = c.args.tokens.now in
    let read : ReadsStatement (drop c.loop-at.at tokens) c.in-Ok.size (plain_statement c.in-Ok.statement) = subst
    (λ us. ReadsStatement us c.in-Ok.size (plain_statement c.in-Ok.statement)) (take_rest tokens c.loop-at.at) c.in-Ok.ensures.found in
    record {
      within = omega (arith, read_within (drop c.loop-at.at tokens) c.in-Ok.size (plain_statement c.in-Ok.statement) read, length-drop c.loop-at.at tokens);
      reads = subst (λ xs. Reads tokens (map plain_statement xs) (drop (c.loop-at.at + c.in-Ok.size) tokens)) (sym c.in_ok-push-in-Ok.ensures.items)
          (one_read tokens c.loop-at.found.items c.loop-at.at c.in-Ok.size c.in-Ok.statement c.loop-at.invariant.reads read);
    }

pub returns-in-Wrong-clause-refused : goal.returns-in-Wrong-clause-refused
returns-in-Wrong-clause-refused c =
    let stops : StopsStatement (drop c.loop-at.at c.args.tokens.now) c.in-Wrong.size = subst (λ us. StopsStatement us c.in-Wrong.size)
    (take_rest c.args.tokens.now c.loop-at.at) (rw c.in-Wrong.is at c.in-Err.ensures.wrong) in
    refused c.args.tokens.now
    (map plain_statement c.loop-at.found.items) c.loop-at.at c.in-Wrong.size c.args.end c.line_at.result c.loop-at-test.true c.loop-at.invariant.reads
    stops c.line_at.ensures

pub returns-clause-found : goal.returns-clause-found
returns-clause-found c =
    whole_syntax c.args.tokens.now (map plain_statement c.loop-at.found.items) c.loop-at.at c.loop-at-test.false c.loop-at.invariant.reads
