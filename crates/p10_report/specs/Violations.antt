-- The rows of Holzmann's rules ("The Power of Ten", 2006), and the lines in which violations are reported.
use Rattle.std.specs.Prelude.{ℕ, ◌==◌, Bool, ◌&&◌, List, [], ◌∷◌, codes, if◌then◌else◌, decimal}
use Rattle.std.specs.List.{flat_map}
use Rattle.p10_base.specs.declared.report.Sub.{Sub}
use Rattle.p10_base.specs.declared.report.Violation.{Violation}
use Rattle.p10_base.specs.Gathered.{Gathered}
use Rattle.p10_base.specs.Words.{Text}
use Rattle.p10_report.specs.Lines.{labelled, place_text}
use Rattle.p10_report.specs.Stops.{◌then◌}

-- a row of a rule, by the number of the rule and its own in it, and its text
abbrev pub row_with_text : ℕ → ℕ → Text → Sub × Text
row_with_text rule sub text = (record { rule = rule; sub = sub }, text)

-- all rows and their texts, in their order
unfoldable pub row_texts : List (Sub × Text)
row_texts =
    row_with_text 1 1 (codes "goto or label")
    ∷ row_with_text 1 2 (codes "setjmp or longjmp")
    ∷ row_with_text 1 3 (codes "recursive call")
    ∷ row_with_text 2 1 (codes "loop without a proved bound")
    ∷ row_with_text 2 2 (codes "the task loop can end")
    ∷ row_with_text 3 1 (codes "allocation or free after initialisation")
    ∷ row_with_text 4 1 (codes "function over 60 lines")
    ∷ row_with_text 4 2 (codes "function over 60 statements")
    ∷ row_with_text 5 1 (codes "fewer than two assertions per function")
    ∷ row_with_text 5 2 (codes "assertion with a call")
    ∷ row_with_text 5 3 (codes "assertion is no Boolean test")
    ∷ row_with_text 5 4 (codes "constant assertion")
    ∷ row_with_text 5 5 (codes "c_assert without recovery")
    ∷ row_with_text 6 1 (codes "scope too large: file")
    ∷ row_with_text 6 2 (codes "scope too large: block")
    ∷ row_with_text 7 1 (codes "result not checked")
    ∷ row_with_text 7 2 (codes "parameter not checked")
    ∷ row_with_text 8 1 (codes "conditional compilation")
    ∷ row_with_text 8 2 (codes "token pasting or variable arguments")
    ∷ row_with_text 8 3 (codes "recursive macro")
    ∷ row_with_text 8 4 (codes "macro that is no complete unit")
    ∷ row_with_text 8 5 (codes "directive not allowed")
    ∷ row_with_text 9 1 (codes "more than one dereference")
    ∷ row_with_text 9 2 (codes "dereference in a macro")
    ∷ row_with_text 9 3 (codes "pointer typedef")
    ∷ row_with_text 9 4 (codes "function pointer")
    ∷ row_with_text 10 1 (codes "unused object")
    ∷ row_with_text 10 2 (codes "unused function")
    ∷ row_with_text 10 3 (codes "implicit narrowing")
    ∷ row_with_text 10 4 (codes "signed and unsigned compared")
    ∷ row_with_text 10 5 (codes "name shadowed")
    ∷ row_with_text 10 6 (codes "switch without default")
    ∷ row_with_text 10 7 (codes "statement after a jump")
    ∷ row_with_text 10 8 (codes "end without return")
    ∷ []

-- whether two rows have the same numbers
abbrev pub is_same_row : Sub → Sub → Bool
is_same_row this that = this.rule == that.rule && this.sub == that.sub

-- the text of a row among these; none where it isn't among them
abbrev pub text_among : List (Sub × Text) → Sub → Text
text_among [] sub = []
text_among (row ∷ rows) sub = if is_same_row row.0 sub then row.1 else text_among rows sub

-- the text of a row, and none of a number that no row has
unfoldable pub row_text : Sub → Text
row_text sub = text_among row_texts sub

-- a row as it is printed: RULE.ROW
unfoldable pub row_number : Sub → Text
row_number sub = decimal sub.rule then labelled (codes ".") sub.sub

-- the text of a row, which ends a line
unfoldable pub row_text_part : Sub → List ℕ
row_text_part sub = codes ": " then row_text sub then codes "\n"

-- which row is violated, which ends a line
unfoldable pub violated_part : Sub → List ℕ
violated_part sub = codes ": rule " then row_number sub then row_text_part sub

-- the line of a violation: FILE:LINE:COLUMN: rule RULE.ROW: TEXT
unfoldable pub violation_line : Gathered → Violation → List ℕ
violation_line g v = place_text g v.span then violated_part v.sub

-- the lines of violations, one after the other
abbrev pub violation_lines : Gathered → List Violation → List ℕ
violation_lines g violations = flat_map (violation_line g) violations
