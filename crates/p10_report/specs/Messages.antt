-- The lines that report why nothing can be said of the sources.
use Rattle.std.specs.Prelude.{ℕ, List, codes}
use Rattle.p10_report.specs.Lines.{labelled}
use Rattle.p10_report.specs.Stops.{◌then◌}

-- the command line is that of no command
unfoldable pub usage_line : List ℕ
usage_line = codes "p10: usage: p10 (check|derive|verify|run|gen|migrate|recheck) [options] FILE..\n"

-- what stands before the name of a file that isn't there
unfoldable pub absent_label : List ℕ
absent_label = codes "p10: absent: "

-- a file isn't there: p10: absent: NAME
unfoldable pub absent_line : List ℕ → List ℕ
absent_line name = absent_label then name then codes "\n"

-- what stands before the number of the line at which a certificate is refused
unfoldable pub refused_at_label : List ℕ
refused_at_label = codes "p10: certificate refused at line "

-- a text is no certificate's: p10: certificate refused at line N
unfoldable pub bad_certificate_line : ℕ → List ℕ
bad_certificate_line line = labelled refused_at_label line then codes "\n"

-- what stands before the number of the line at which the certificate from before an edit is refused
unfoldable pub old_refused_label : List ℕ
old_refused_label = codes "p10: old certificate refused at line "

-- the text of the certificate from before an edit is no certificate's: p10: old certificate refused at line N
unfoldable pub bad_old_certificate_line : ℕ → List ℕ
bad_old_certificate_line line = labelled old_refused_label line then codes "\n"

-- what stands before the number of the line at which a file of sensor values is refused
unfoldable pub sensors_refused_label : List ℕ
sensors_refused_label = codes "p10: sensor file refused at line "

-- a text isn't that of sensor values: p10: sensor file refused at line N
unfoldable pub bad_sensors_line : ℕ → List ℕ
bad_sensors_line line = labelled sensors_refused_label line then codes "\n"

-- a read failed
unfoldable pub read_fault_line : List ℕ
read_fault_line = codes "p10: read fault\n"

-- memory is out
unfoldable pub out_of_memory_line : List ℕ
out_of_memory_line = codes "p10: out of memory\n"
