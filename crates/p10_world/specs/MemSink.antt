-- What a sink in memory shows of itself.
use Rattle.std.specs.Prelude.{ℕ, ◌-◌, List, length, min, Option, None, Some}
use Rattle.p10_world.specs.declared.mem_sink.MemSink.{MemSink}

-- the bytes that it took
abbrev pub taken_of : MemSink → List ℕ
taken_of sink = sink.bytes.items

-- how many bytes more it takes before it fails
abbrev pub room_of : MemSink → ℕ
room_of sink = sink.room - length sink.bytes.items

-- how many calls failed
abbrev pub faults_of : MemSink → ℕ
faults_of sink = sink.faults

-- how many bytes a sink of that capacity takes that is to fail after some count of them
abbrev pub room_for : ℕ → Option ℕ → ℕ
room_for capacity None = capacity
room_for capacity (Some count) = min count capacity
