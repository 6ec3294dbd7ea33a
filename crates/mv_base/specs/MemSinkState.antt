-- What a sink in memory shows of itself.
use Rattle.std.specs.Prelude.{ℕ, List}
use Rattle.mv_base.specs.declared.mem_sink.MemSink.{MemSink}

-- the bytes that were written
abbrev pub written_bytes : MemSink → List ℕ
written_bytes s = s.written.items

-- the numbers of the calls that are to fail
abbrev pub failing_puts : MemSink → List ℕ
failing_puts s = s.fail_puts.items

-- how many calls of `put` there were
abbrev pub put_count : MemSink → ℕ
put_count s = s.puts

-- how many calls failed
abbrev pub fault_count : MemSink → ℕ
fault_count s = s.faults
