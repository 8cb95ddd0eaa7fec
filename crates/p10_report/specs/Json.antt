-- A report as JSON (RFC 8259).
use Rattle.std.specs.Prelude.{List, codes, map, Option, Some, None}
use Rattle.p10_base.specs.declared.report.Refusal.{Refusal}
use Rattle.p10_base.specs.declared.report.Violation.{Violation}
use Rattle.p10_base.specs.Codes.{IsCode, code_text}
use Rattle.p10_base.specs.Gathered.{Gathered, name_of, text_of}
use Rattle.p10_base.specs.Places.{column_of, line_of}
use Rattle.p10_base.specs.Words.{Text}
use Rattle.serde_json.specs.Data.{Data, array, member, no_members, null, number, object, string, unsigned}
use Rattle.serde_json.specs.View.{items_of}
use Rattle.serde_json.specs.Written.{compact_text}
use Rattle.p10_report.specs.Lines.{place_text, refused_part}
use Rattle.p10_report.specs.Stops.{◌then◌}
use Rattle.p10_report.specs.Violations.{row_number, row_text}

-- the line of a refused source without its line end: FILE:LINE:COLUMN: refused CODE: TEXT
unfoldable pub refusal_text : Gathered → Refusal → Text
refusal_text g r = place_text g r.span then refused_part r.family r.number then codes ": " then code_text r.family r.number

-- the code of a refusal has a text, if there is one
abbrev pub IsPrintable : Option Refusal → Type 0
IsPrintable None = Unit {0}
IsPrintable (Some r) = IsCode r.family r.number

-- a refusal as a string, or null where there is none
unfoldable pub refusal_data : Gathered → Option Refusal → Data
refusal_data g None = null
refusal_data g (Some r) = string (refusal_text g r)

-- a violation as an object: its place, its row and the row's text
unfoldable pub violation_data : Gathered → Violation → Data
violation_data g v =
    object (member (codes "col") (number (unsigned (column_of (text_of g v.span.file) v.span.start)))
    (member (codes "file") (string (name_of g v.span.file))
    (member (codes "line") (number (unsigned (line_of (text_of g v.span.file) v.span.start)))
    (member (codes "rule") (string (row_number v.sub))
    (member (codes "text") (string (row_text v.sub)) no_members)))))

-- a report as an object: the refusal, and the violations in their order
unfoldable pub report_data : Gathered → List Violation → Option Refusal → Data
report_data g violations refusal =
    object (member (codes "refusal") (refusal_data g refusal) (member (codes "violations") (array (items_of (map (violation_data g) violations))) no_members))

-- the text of a report as JSON, with no blank
unfoldable pub json_text : Gathered → List Violation → Option Refusal → Text
json_text g violations refusal = compact_text (report_data g violations refusal)
