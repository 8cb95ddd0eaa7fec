-- The violations of lines and definitions, one after the other.
use Rattle.std.specs.Prelude.{ℕ, ◌==◌, List, [], ◌∷◌, ◌++◌, Bool, false, not, ◌&&◌, Option, Some, None, if◌then◌else◌, bytes_eq, slice_index}
use Rattle.std.specs.List.{list_any, filter_map}
use Rattle.p10_base.specs.declared.span.Span.{Span}
use Rattle.p10_base.specs.declared.report.Sub.{Sub}
use Rattle.p10_base.specs.declared.report.Violation.{Violation}
use Rattle.p10_base.specs.Words.{PlainWord, Text, is_name_kind, spellings_of}
use Rattle.p10_direct.specs.Directives.{Definition}
use Rattle.p10_base.specs.Names.{place_in}
use Rattle.p10_expand.specs.Obeying.{PlainObeyed}
use Rattle.p10_pprules.specs.Lines.{name_of, operands_of, begins_conditional, is_barred, pastes}
use Rattle.p10_pprules.specs.Recursion.{parameters_of}
use Rattle.p10_pprules.specs.private.Scanning.{is_unit, dereferences_behind}
use Rattle.p10_pprules.specs.Violations.{row}

-- a violation of a row, where it holds
abbrev pub violation_if : Sub → Bool → Span → List Violation
violation_if sub holds at = if holds then record { sub = sub; span = at } ∷ [] else []

-- ## Lines

-- the violations by one obeyed directive, at its place: of 8.1, if it begins a conditional that is no include guard, and
-- of 8.5, if it isn't allowed
abbrev pub line_violations : PlainObeyed → List Violation
line_violations line =
    violation_if (row 8 1) (begins_conditional (name_of line.words) && not line.guard) line.span
    ++ violation_if (row 8 5) (is_barred (name_of line.words) (operands_of line.words)) line.span

-- ## Recursion

-- the place of the macro that a word of a list uses, where these are the parameters
abbrev pub used_by : List Text → List Text → PlainWord → Option ℕ
used_by names parameters word = if is_name_kind word.kind && not (list_any (bytes_eq word.text) parameters) then place_in names word.text else None

-- the places of the macros that a definition uses
abbrev pub used_places : List Text → Definition → List ℕ
used_places names definition = filter_map (used_by names (spellings_of (parameters_of definition))) definition.body

-- whether one of the places has the number
abbrev pub has_number : List ℕ → ℕ → List ℕ → Bool
has_number numbers number places = list_any (λ place. slice_index numbers place == number) places

-- whether one of the places has the number of the macro at the place `own`, if there is one
abbrev pub returns_from : List ℕ → List ℕ → Option ℕ → Bool
returns_from numbers places None = false
returns_from numbers places (Some own) = has_number numbers (slice_index numbers own) places

-- whether a definition uses a macro that has the number of its own macro
abbrev pub returns_to : List Text → List ℕ → Definition → Bool
returns_to names numbers definition = returns_from numbers (used_places names definition) (place_in names definition.name.text)

-- ## Definitions

-- the violations of 8.2, 8.3, 8.4 and 9.2 by one definition, at its name; the macros have these names, and
-- their components these numbers
abbrev pub definition_violations : List Text → List ℕ → Definition → List Violation
definition_violations names numbers definition =
    violation_if (row 8 2) (pastes definition) definition.name.at
    ++ violation_if (row 8 3) (returns_to names numbers definition) definition.name.at
    ++ violation_if (row 8 4) (not (is_unit definition.body)) definition.name.at
    ++ violation_if (row 9 2) (dereferences_behind false definition.body) definition.name.at
