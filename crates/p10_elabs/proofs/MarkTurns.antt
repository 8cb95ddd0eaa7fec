-- The pragmas among the items of a body, one turn after the other.
use Rattle.std.specs.Prelude.{◌≡◌, Bool, false, List, ◌∷◌, refl}
use Rattle.std.proofs.Common.{◌∙◌, ap, sym}
use Rattle.p10_core.specs.declared.statements.MarkKind.TheVariants.{InitDone, TaskLoop}
use Rattle.p10_elabx.specs.First.{Keep}
use Rattle.p10_elabd.specs.Standing.{PlainStanding}
use Rattle.p10_elabs.specs.declared.kind.Kind.{Kind}
use Rattle.p10_elabs.specs.declared.kind.Kind.TheVariants.{Mark, Task, Unknown, Return, Other}
use Rattle.p10_elabs.specs.Marks.{marks_noted}
use Rattle.p10_elabs.specs.private.Marking.{after_init, after_task, mark_noted}

one_mark : (h : Keep) (first init task : Bool) (kind : Kind) (rest : List Kind) (s : PlainStanding) →
    marks_noted h first init task (kind ∷ rest) s ≡ marks_noted h false (after_init init kind) (after_task task kind) rest (mark_noted h first init task kind rest s)
one_mark h first init task (Mark InitDone at) rest s = refl
one_mark h first init task (Mark TaskLoop at) rest s = refl
one_mark h first init task Task rest s = refl
one_mark h first init task Unknown rest s = refl
one_mark h first init task Return rest s = refl
one_mark h first init task Other rest s = refl

-- one turn of the loop
pub step_marks : (h : Keep) (first init task init' task' : Bool) (kind : Kind) (all rest : List Kind) (s t whole : PlainStanding) → all ≡ kind ∷ rest →
    t ≡ mark_noted h first init task kind rest s → init' ≡ after_init init kind → task' ≡ after_task task kind → marks_noted h first init task all s ≡ whole →
    marks_noted h false init' task' rest t ≡ whole
step_marks h first init task init' task' kind all rest s t whole cut noted i k holds =
    ap (λ x. marks_noted h false x task' rest t) i ∙ ap (λ x. marks_noted h false (after_init init kind) x rest t) k
    ∙ ap (marks_noted h false (after_init init kind) (after_task task kind) rest) noted
    ∙ sym (one_mark h first init task kind rest s) ∙ sym (ap (λ xs. marks_noted h first init task xs s) cut) ∙ holds
