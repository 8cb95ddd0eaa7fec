-- What the sink of a certificate's text shows of itself.
use Rattle.std.specs.Prelude.{ℕ, List}
use Rattle.p10_finder.specs.declared.text.TextSink.{TextSink}

-- the bytes that it took
abbrev pub bytes_of : TextSink → List ℕ
bytes_of sink = sink.bytes.items

-- how many calls failed
abbrev pub faults_of : TextSink → ℕ
faults_of sink = sink.faults
