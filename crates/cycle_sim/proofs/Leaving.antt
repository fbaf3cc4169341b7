-- What a firing leaves.
use Rattle.std.proofs.Common.{◌≡◌, ℕ, ◌<◌, List, ◌++◌, Option, None, Some, Ok, Err, subst, get_or, slice_index_or, refl, ◌∙◌, ap, arith, ℤ, pos}
use Rattle.std.proofs.lemmas.List.{get_or-map}
use Rattle.std.proofs.lemmas.List.FromFn.{get_or-range_with_len, length-range_with_len}
use Rattle.std.specs.List.{range_with_len}
use Rattle.array_bytes.specs.Written.{array_bytes, begun}
use Rattle.soda_io.specs.declared.error.IoErr.{IoErr}
use Rattle.bursts.specs.Writers.{Finishes, HasPut, IsPrefix, Output, Puts, output}
use Rattle.bursts.specs.declared.writer.CellWriter.{CellWriter}
use Rattle.file_modules.specs.Firings.{lane_of, lanes_of}

-- one of the lanes
pub lane_in : (u d n k : ℕ) (cells : List ℤ) (r : ℕ) → r < u → slice_index_or (lanes_of u d n cells k) r (pos 0) ≡ lane_of u d n cells k r
lane_in u d n k cells r lt =
    let same : get_or (range_with_len 0 u) r 0 ≡ r = omega (arith, get_or-range_with_len 0 u r 0 lt) in
    get_or-map (lane_of u d n cells k) (range_with_len 0 u) r 0 (pos 0) (omega (arith, length-range_with_len 0 u))
    ∙ ap (lane_of u d n cells k) same

-- after a put without an error the file is there, and the cells are put
pub was_put : (w : CellWriter) (before cells : List ℤ) (now : Option (List ℕ)) → Puts w before cells now (Ok tt)
    → (more : List ℕ) × (now ≡ Some more) × HasPut w (before ++ cells) more
was_put w before cells None h = absurd h
was_put w before cells (Some bytes) h = (bytes, refl, h)

-- after a put with an error the file is there, and holds a prefix
pub put_failed : (w : CellWriter) (o : Output) (had cells : List ℤ) (now : Option (List ℕ)) (e : IoErr) → output w ≡ o → Puts w had cells now (Err e)
    → (more : List ℕ) × (now ≡ Some more) × IsPrefix more (begun o.form o.ty o.run (had ++ cells))
put_failed w o had cells None e same h = absurd h
put_failed w o had cells (Some bytes) e same h =
    (bytes, refl, subst (λ (q : Output). IsPrefix bytes (begun q.form q.ty q.run (had ++ cells))) same h)

-- after finishing without an error the file is there, and whole
pub was_finished : (o : Output) (had : List ℤ) (now : Option (List ℕ)) → Finishes o had now (Ok tt)
    → now ≡ Some (array_bytes o.form o.ty o.run had)
was_finished o had None h = absurd h
was_finished o had (Some bytes) h = ap Some h

-- after an error it is there, and holds a prefix
pub finish_failed : (o : Output) (had : List ℤ) (now : Option (List ℕ)) (e : IoErr) → Finishes o had now (Err e)
    → (more : List ℕ) × (now ≡ Some more) × IsPrefix more (array_bytes o.form o.ty o.run had)
finish_failed o had None e h = absurd h
finish_failed o had (Some bytes) e h = (bytes, refl, h)
