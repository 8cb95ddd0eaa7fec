-- What the forms over the host show of themselves.
use Rattle.std.specs.Prelude.{ℕ}
use Rattle.p10_world.specs.declared.host_files.HostFiles.{HostFiles}
use Rattle.p10_world.specs.declared.host_streams.HostSource.{HostSource}
use Rattle.p10_world.specs.declared.host_streams.HostSink.{HostSink}

-- how many reads of files failed
abbrev pub files_faults_of : {R : Type 0} → HostFiles R → ℕ
files_faults_of host = host.faults

-- the stream under a source
abbrev pub source_of : {R : Type 0} → HostSource R → R
source_of host = host.stream

-- how many calls of a source failed
abbrev pub source_faults_of : {R : Type 0} → HostSource R → ℕ
source_faults_of host = host.faults

-- the stream under a sink
abbrev pub sink_of : {W : Type 0} → HostSink W → W
sink_of host = host.stream

-- how many calls of a sink failed
abbrev pub sink_faults_of : {W : Type 0} → HostSink W → ℕ
sink_faults_of host = host.faults
