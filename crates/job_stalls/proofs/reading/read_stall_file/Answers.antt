use Rattle.std.proofs.Common.{◌+◌, length, Err, refl, subst, arith, inl}
use Rattle.whole_files.specs.declared.reading.ReadFail.{ReadFail}
use Rattle.job_texts.specs.Texts.{ReadsText}
use Rattle.sim_lines.specs.Limits.{most_stall_bytes}
use Rattle.job_stalls.proofs.reading.read_stall_file.Goals as goal

pub returns-in-Err-TooLong-clause-journal : goal.returns-in-Err-TooLong-clause-journal
returns-in-Err-TooLong-clause-journal g c = λ told first begun files places f is p.
    let given = g.F.Files.given c.read_text.new.files in
    let now = g.F.Files.store c.read_text.new.files in
    let P : ReadFail → Type 0 = λ x. ReadsText first begun files places given now f most_stall_bytes (Err x) in (
      length files,
      most_stall_bytes + 1,
      omega arith,
      λ ne. absurd (ne refl),
      subst P c.in-Err-TooLong.field-0-is (c.in-Err-TooLong.ensures.journal told first begun files places f is p),
    )

pub returns-in-Err-Failed-clause-journal : goal.returns-in-Err-Failed-clause-journal
returns-in-Err-Failed-clause-journal g c = λ told first begun files places f is p.
    let given = g.F.Files.given c.read_text.new.files in
    let now = g.F.Files.store c.read_text.new.files in
    let P : ReadFail → Type 0 = λ x. ReadsText first begun files places given now f most_stall_bytes (Err x) in
    subst P c.in-Err-Failed.field-0-is (c.in-Err-Failed.ensures.journal told first begun files places f is p)

pub returns-in-Err-Memory-clause-journal : goal.returns-in-Err-Memory-clause-journal
returns-in-Err-Memory-clause-journal g c = λ told first begun files places f is p.
    let given = g.F.Files.given c.read_text.new.files in
    let now = g.F.Files.store c.read_text.new.files in
    let P : ReadFail → Type 0 = λ x. ReadsText first begun files places given now f most_stall_bytes (Err x) in
    inl (subst P c.in-Err-Memory.field-0-is (c.in-Err-Memory.ensures.journal told first begun files places f is p))

pub returns-in-Err-Line-clause-journal : goal.returns-in-Err-Line-clause-journal
returns-in-Err-Line-clause-journal g c = λ told first begun files places f is p. (
  length files + 1,
  length c.in-Ok.text.items,
  omega (arith, c.in-Ok.ensures.short),
  λ ne. refl,
  c.in-Ok.ensures.journal told first begun files places f is p,
)
