-- The pragmas of p10 in the body of `main`: where each may stand.
use Rattle.std.specs.Prelude.{Bool, true, false, not, ◌||◌, if◌then◌else◌, List, [], ◌∷◌, codes, bytes_eq, Option, Some, None}
use Rattle.p10_base.specs.Words.{Text}
use Rattle.p10_base.specs.declared.codes.SubsetCode.TheVariants as subset
use Rattle.p10_core.specs.declared.statements.MarkKind.{MarkKind}
use Rattle.p10_core.specs.declared.statements.MarkKind.TheVariants.{InitDone, TaskLoop}
use Rattle.p10_core.specs.Typed.{PlainValue}
use Rattle.p10_core.specs.WholePrograms.{is_true_test}
use Rattle.p10_elabx.specs.First.{Keep}
use Rattle.p10_elabd.specs.Standing.{PlainStanding, refusing}
use Rattle.p10_elabs.specs.declared.kind.Kind.{Kind}
use Rattle.p10_elabs.specs.declared.kind.Kind.TheVariants as item

-- which pragma a text is
abbrev pub mark_of : Text → MarkKind
mark_of text = if bytes_eq text (codes "task_loop") then TaskLoop else InitDone

-- a `while` by its condition, which may be refused: that of the task loop is a constant other than 0
abbrev pub test_kind : Option PlainValue → Kind
test_kind (Some v) = if is_true_test v then item.Task else item.Other
test_kind None = item.Unknown

-- whether there are no items
abbrev pub no_more : List Kind → Bool
no_more [] = true
no_more (k ∷ rest) = false

-- whether items are at most one `return`
abbrev pub is_last_return : List Kind → Bool
is_last_return [] = true
is_last_return (item.Return ∷ []) = true
is_last_return ks = false

-- whether the mark of the task loop may stand before these items: directly before a loop that may be it, after which at most one
-- `return` stands
abbrev pub may_precede : List Kind → Bool
may_precede (item.Task ∷ rest) = is_last_return rest
may_precede (item.Unknown ∷ rest) = is_last_return rest
may_precede ks = false

-- the pragmas of the items from one on, where it is known whether it is the first, and which pragmas stood before: each stands once at
-- most, `init_done` between two items and before the task loop
abbrev pub marks_noted : Keep → Bool → Bool → Bool → List Kind → PlainStanding → PlainStanding
marks_noted h first init task [] s = s
marks_noted h first init task (item.Mark InitDone at ∷ rest) s =
    marks_noted h false true task rest (refusing h (first || (no_more rest || (init || task))) subset.MisplacedPragma at s)
marks_noted h first init task (item.Mark TaskLoop at ∷ rest) s =
    marks_noted h false init true rest (refusing h (task || not (may_precede rest)) subset.MisplacedPragma at s)
marks_noted h first init task (k ∷ rest) s = marks_noted h false init task rest s

-- whether an item is a pragma of a kind
abbrev pub is_kind : MarkKind → Kind → Bool
is_kind InitDone (item.Mark InitDone at) = true
is_kind TaskLoop (item.Mark TaskLoop at) = true
is_kind kind k = false
