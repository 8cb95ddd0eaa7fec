use Rattle.std.proofs.Common.{refl}
use Rattle.std.specs.Fmt.{digits}
use Rattle.serde_json.proofs.OnLiterals.{serde_json_on_literals}
use Rattle.p10_report.specs.Json.{json_text, refusal_data, report_data, violation_data}
use Rattle.p10_report.specs.Lines.{labelled, place_text}
use Rattle.p10_report.specs.Stops.{◌then◌}
use Rattle.p10_report.specs.Violations.{row_number, row_text, row_text_part, row_texts, violated_part, violation_line}
use Rattle.p10_report.proofs.laws.example_is_told.Goals as goal

pub returns : goal.returns
unfolding digits serde_json_on_literals json_text refusal_data report_data violation_data labelled place_text ◌then◌ row_number row_text row_text_part row_texts violated_part violation_line
returns c = record { as_line = refl; as_json = refl }
