-- What a sink in memory stands for.
use Rattle.std.specs.Prelude.{ℕ, List, Contains}
use Rattle.soda_io.specs.declared.mem_sink.MemSink.{MemSink}

-- the bytes taken so far
abbrev pub sink_taken : MemSink → List ℕ
sink_taken s = s.taken.items

-- how many calls answered `Ok` or `Failed`: the number of the next call
abbrev pub sink_calls : MemSink → ℕ
sink_calls s = s.calls

-- the numbers of the calls that fail
abbrev pub sink_fails : MemSink → List ℕ
sink_fails s = s.fails.items

-- the count of faults
abbrev pub sink_faults : MemSink → ℕ
sink_faults s = s.faults

-- the next call's number is one of those that fail
abbrev pub NextWriteFails : MemSink → Type 0
NextWriteFails s = Contains (sink_fails s) (sink_calls s)
