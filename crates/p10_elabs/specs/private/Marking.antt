-- The pragmas among the items of a body, one item at a time.
use Rattle.std.specs.Prelude.{Bool, true, not, ◌||◌, List}
use Rattle.p10_base.specs.declared.codes.SubsetCode.TheVariants as subset
use Rattle.p10_core.specs.declared.statements.MarkKind.{MarkKind}
use Rattle.p10_core.specs.declared.statements.MarkKind.TheVariants.{InitDone, TaskLoop}
use Rattle.p10_elabx.specs.First.{Keep}
use Rattle.p10_elabd.specs.Standing.{PlainStanding, refusing}
use Rattle.p10_elabs.specs.declared.kind.Kind.{Kind}
use Rattle.p10_elabs.specs.declared.kind.Kind.TheVariants.{Mark}
use Rattle.p10_elabs.specs.Marks.{no_more, may_precede}

-- whether `init_done` stood before, with an item more
abbrev pub after_init : Bool → Kind → Bool
after_init init (Mark InitDone at) = true
after_init init kind = init

-- whether `task_loop` stood before, with an item more
abbrev pub after_task : Bool → Kind → Bool
after_task task (Mark TaskLoop at) = true
after_task task kind = task

-- whether a pragma may not stand before the items after it
abbrev pub is_misplaced : MarkKind → Bool → Bool → Bool → List Kind → Bool
is_misplaced InitDone first init task rest = first || (no_more rest || (init || task))
is_misplaced TaskLoop first init task rest = task || not (may_precede rest)

-- an item, if it is a pragma
abbrev pub mark_noted : Keep → Bool → Bool → Bool → Kind → List Kind → PlainStanding → PlainStanding
mark_noted h first init task (Mark mark at) rest s = refusing h (is_misplaced mark first init task rest) subset.MisplacedPragma at s
mark_noted h first init task kind rest s = s
