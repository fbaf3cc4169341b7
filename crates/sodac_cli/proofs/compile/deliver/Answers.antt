use Rattle.sodac_cli.proofs.compile.deliver.Goals as goal

pub returns-in-Ok-clause-runs : goal.returns-in-Ok-clause-runs
returns-in-Ok-clause-runs g c = λ told first begun a p named is_text d.
    c.put_lines.ensures.runs first begun a p _ _ c.args.text.now is_text (c.in-Ok.ensures.goes told first begun a p named is_text d)
