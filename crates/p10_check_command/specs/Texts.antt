-- How a report is written: its status and its text.
use Rattle.std.specs.Prelude.{ℕ, List, [], ◌∷◌, ◌++◌, codes, Bool, true, false, Option, Some, None}
use Rattle.p10_base.specs.declared.report.Refusal.{Refusal}
use Rattle.p10_base.specs.declared.report.Violation.{Violation}
use Rattle.p10_base.specs.Gathered.{Gathered}
use Rattle.p10_report.specs.Json.{json_text}
use Rattle.p10_report.specs.Lines.{refusal_line}
use Rattle.p10_report.specs.Violations.{violation_lines}
use Rattle.p10_check_command.specs.declared.report.Report.{Report}

-- the status: 3 with a refusal, else 1 where something breaks a rule, and 0 where nothing does
abbrev pub status_with : List Violation → Option Refusal → ℕ
status_with violations (Some refusal) = 3
status_with [] None = 0
status_with (v ∷ violations) None = 1

abbrev pub report_status : Report → ℕ
report_status report = status_with report.violations report.refusal

-- the line of a refusal, if there is one
abbrev pub refusal_lines : Gathered → Option Refusal → List ℕ
refusal_lines g None = []
refusal_lines g (Some refusal) = refusal_line g refusal

-- a report as text: the lines of the violations, and then that of the refusal
unfoldable pub report_lines : Gathered → Report → List ℕ
report_lines g report = violation_lines g report.violations ++ refusal_lines g report.refusal

-- a report as JSON, on one line
unfoldable pub json_line : Gathered → Report → List ℕ
json_line g report = json_text g report.violations report.refusal ++ codes "\n"

-- a report in the form that is asked for
abbrev pub report_text : Bool → Gathered → Report → List ℕ
report_text true g report = json_line g report
report_text false g report = report_lines g report
