-- Texts that are put together in memory, and JSON values.
use Rattle.std.proofs.Common.{◌≡◌, ℕ, List, [], ◌∷◌, ◌++◌, Bool, false, map, codes, decimal, refl, sym, ap, ◌∙◌, append_assoc, rules, Option, Some, None, Result, Ok, Err, IfOk, String, Global, string_bytes}
use Rattle.std.specs.Prelude.{◌||◌}
use Rattle.p10_base.specs.declared.report.Refusal.{Refusal}
use Rattle.p10_base.specs.declared.report.Sub.{Sub}
use Rattle.p10_base.specs.declared.report.Violation.{Violation}
use Rattle.p10_base.specs.declared.span.Span.{Span}
use Rattle.p10_base.specs.Codes.{code_text, letter_of}
use Rattle.p10_base.specs.Gathered.{Gathered, name_of, text_of}
use Rattle.p10_base.specs.Places.{column_of, line_of}
use Rattle.p10_base.specs.Words.{Text}
use Rattle.serde_json.specs.Data.{Data, array, member, no_members, null, number, object, string, unsigned}
use Rattle.serde_json.specs.View.{items_of, view}
use Rattle.serde_json.specs.Written.{compact_text, has_float, items_have_float}
use Rattle.serde_json.specs.declared.value.Value as value
use Rattle.p10_report.specs.Json.{json_text, refusal_data, refusal_text, report_data, violation_data}
use Rattle.p10_report.specs.Laws.{RefusalLineIsItsText}
use Rattle.p10_report.specs.Lines.{labelled, place_text, reason_part, refusal_line, refused_part}
use Rattle.p10_report.specs.Stops.{◌then◌}
use Rattle.p10_report.specs.Violations.{row_number, row_text}

-- ## Texts

pub row_is : (sub : Sub) (now rule row : Text) → now ≡ (rule ++ codes ".") ++ row → rule ≡ decimal sub.rule → row ≡ decimal sub.sub → now ≡ row_number sub
unfolding row_number labelled ◌then◌
row_is sub now rule row is r s = is ∙ rw (r, s) (simp append_assoc)

pub place_is : (g : Gathered) (at : Span) (now name line column : Text) → now ≡ (((name ++ codes ":") ++ line) ++ codes ":") ++ column → name ≡ name_of g at.file
    → line ≡ decimal (line_of (text_of g at.file) at.start) → column ≡ decimal (column_of (text_of g at.file) at.start) → now ≡ place_text g at
unfolding place_text labelled ◌then◌
place_is g at now name line column is n l c = is ∙ rw (n, l, c) (simp append_assoc)

pub refusal_is : (g : Gathered) (r : Refusal) (now place letter digits text : Text) → now ≡ ((((place ++ codes ": refused ") ++ letter) ++ digits) ++ codes ": ") ++ text
    → place ≡ place_text g r.span → letter ≡ letter_of r.family → digits ≡ decimal r.number → text ≡ code_text r.family r.number → now ≡ refusal_text g r
unfolding refusal_text refused_part labelled ◌then◌
refusal_is g r now place letter digits text is p l n t = is ∙ rw (p, l, n, t) (simp append_assoc)

pub line_is_text : RefusalLineIsItsText
unfolding refusal_line refusal_text reason_part ◌then◌
line_is_text g r = simp append_assoc

-- ## Values

view_string : (text : String Global) → view (value.String text) ≡ string (string_bytes text)
view_string text = search (rules, value.the_lemmas)

view_null : view value.Null ≡ null
view_null = search (rules, value.the_lemmas)

pub refused_value : (g : Gathered) (r : Option Refusal) (refusal : Refusal) (text : String Global) → r ≡ Some refusal → string_bytes text ≡ refusal_text g refusal → view (value.String text) ≡ refusal_data g r
unfolding refusal_data
refused_value g r refusal text is bytes = view_string text ∙ ap string bytes ∙ sym (ap (refusal_data g) is)

pub unrefused_value : (g : Gathered) (r : Option Refusal) → r ≡ None → view value.Null ≡ refusal_data g r
unfolding refusal_data
unrefused_value g r is = view_null ∙ sym (ap (refusal_data g) is)

violation_has_none : (g : Gathered) (v : Violation) → has_float (violation_data g v) ≡ false
unfolding violation_data
violation_has_none g v = refl

violations_have_none : (g : Gathered) (violations : List Violation) → items_have_float (items_of (map (violation_data g) violations)) ≡ false
violations_have_none g [] = refl
violations_have_none g (v ∷ violations) = ap (λ (b : Bool). b || items_have_float (items_of (map (violation_data g) violations))) (violation_has_none g v) ∙ violations_have_none g violations

refusal_has_none : (g : Gathered) (r : Option Refusal) → has_float (refusal_data g r) ≡ false
unfolding refusal_data
refusal_has_none g None = refl
refusal_has_none g (Some r) = refl

-- no number of a report is a fraction
pub report_has_none : (g : Gathered) (violations : List Violation) (r : Option Refusal) → has_float (report_data g violations r) ≡ false
unfolding report_data
report_has_none g violations r =
    ap (λ (b : Bool). b || (items_have_float (items_of (map (violation_data g) violations)) || false)) (refusal_has_none g r) ∙ ap (λ (b : Bool). b || false) (violations_have_none g violations)

pub violation_is : {E : Type 0} (g : Gathered) (v : Violation) (line column : ℕ) (file rule text : Text) (r : Result value.Value E) → line ≡ line_of (text_of g v.span.file) v.span.start
    → column ≡ column_of (text_of g v.span.file) v.span.start → file ≡ name_of g v.span.file → rule ≡ row_number v.sub → text ≡ row_text v.sub
    → IfOk r (λ found. view found ≡ object
    (member (codes "col") (number (unsigned column))
    (member (codes "file") (string file) (member (codes "line") (number (unsigned line)) (member (codes "rule") (string rule) (member (codes "text") (string text) no_members))))))
    → IfOk r (λ found. view found ≡ violation_data g v)
unfolding violation_data
violation_is g v line column file rule text (Err e) l c f n t is = tt
violation_is g v line column file rule text (Ok found) l c f n t is = is ∙ rw (l, c, f, n, t) refl

pub json_is : {E : Type 0} (g : Gathered) (violations : List Violation) (r : Option Refusal) (refusal report : Data) (values : List Data) (answer : Result (String Global) E) → refusal ≡ refusal_data g r
    → values ≡ map (violation_data g) violations → report ≡ object (member (codes "refusal") refusal (member (codes "violations") (array (items_of values)) no_members))
    → IfOk answer (λ text. has_float report ≡ false → string_bytes text ≡ compact_text report) → IfOk answer (λ text. string_bytes text ≡ json_text g violations r)
unfolding json_text report_data
json_is g violations r refusal report values (Err e) refused listed is written = tt
json_is g violations r refusal report values (Ok text) refused listed is written =
    let whole : report ≡ report_data g violations r = is ∙ rw (refused, listed) refl in
    written (ap has_float whole ∙ report_has_none g violations r) ∙ ap compact_text whole
