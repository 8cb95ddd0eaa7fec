-- What holds of the lines and texts.
use Rattle.std.specs.Prelude.{◌≡◌, ◌++◌, [], ◌∷◌, codes, false, None}
use Rattle.p10_base.specs.declared.report.Refusal.{Refusal}
use Rattle.p10_base.specs.declared.report.Violation.{Violation}
use Rattle.p10_base.specs.Gathered.{Gathered}
use Rattle.p10_base.specs.Words.{span_of}
use Rattle.p10_report.specs.Json.{json_text, refusal_text}
use Rattle.p10_report.specs.Lines.{refusal_line}
use Rattle.p10_report.specs.Violations.{violation_line}

-- the line of a refusal is its text and a line end
abbrev pub RefusalLineIsItsText : Type 0
RefusalLineIsItsText = (g : Gathered) (r : Refusal) → refusal_line g r ≡ refusal_text g r ++ codes "\n"

-- a file with one function, whose name is at the bytes 4 to 8
abbrev pub one_file : Gathered
one_file = record { files = (record { name = codes "a.c"; text = codes "int main(void) { return 0; }\n"; built_in = false; words = []; links = [] }) ∷ []; roots = 0 ∷ [] }

-- it asserts nothing
abbrev pub unasserted : Violation
unasserted = record { sub = record { rule = 5; sub = 1 }; span = span_of 0 4 8 }

-- how this is written, as a line and as JSON
pub record ExampleIsTold : Type 0 where
  pub as_line : violation_line one_file unasserted ≡ codes "a.c:1:5: rule 5.1: fewer than two assertions per function\n"
  pub as_json : json_text one_file (unasserted ∷ []) None
      ≡ codes "{\"refusal\":null,\"violations\":[{\"col\":5,\"file\":\"a.c\",\"line\":1,\"rule\":\"5.1\",\"text\":\"fewer than two assertions per function\"}]}"
