-- Each item of a body is one, and labels are noted as they are written.
use Rattle.std.specs.Prelude.{◌≡◌, Bool, true, false, if◌then◌else◌, List, [], ◌∷◌, ◌++◌, Option, Some, None, refl}
use Rattle.std.proofs.Common.{sym, ◌∙◌, append_assoc}
use Rattle.std.proofs.lemmas.List.{append-nil}
use Rattle.p10_base.specs.declared.at.At.{At}
use Rattle.p10_syn.specs.Trees.{Statement, While, Case, Default, Declare, Pragma, Statements, NoStatements, MoreStatements}
use Rattle.p10_core.specs.Typed.{PlainValue, mark}
use Rattle.p10_core.specs.WholePrograms.{is_true_test}
use Rattle.p10_elabx.specs.First.{Keep}
use Rattle.p10_elabd.specs.declared.site.Site.TheVariants as site_is
use Rattle.p10_elabs.specs.declared.kind.Kind.{Kind}
use Rattle.p10_elabs.specs.declared.kind.Kind.TheVariants as item
use Rattle.p10_elabs.specs.Locals.{Local, opened}
use Rattle.p10_elabs.specs.LocalDeclarations.{declared_locally}
use Rattle.p10_elabs.specs.Expressions.{test_done}
use Rattle.p10_elabs.specs.Marks.{mark_of, test_kind}
use Rattle.p10_elabs.specs.Statements.{with_loop, done, kind_of, with_declared, with_statement, pragma_done, case_done, default_done}
use Rattle.p10_elabs.specs.Laws.{is_of_while, IsKindOf, AreKindsOf, ItemsAreThoseWritten, LabelsAreThoseWritten}

-- a `while` loop
while_kind : (o : Option PlainValue) → is_of_while (test_kind o) ≡ true
while_kind None = refl
while_kind (Some v) = by_test (is_true_test v)
  where
    by_test : (b : Bool) → is_of_while (if b then item.Task else item.Other) ≡ true
    by_test true = refl
    by_test false = refl

-- what a statement is among the items
kind_is : (h : Keep) (l : Local) (s : Statement At) → IsKindOf s (kind_of h l s)
kind_is h l (While at word e s) = while_kind (test_done h (opened (with_loop l)) e).made
kind_is h l s = refl

-- items of which the first is known
one_more : (before : List Kind) (k : Kind) (s : Statement At) (rest : Statements At) (all : List Kind) → IsKindOf s k →
    (ks : List Kind) × (all ≡ (before ++ k ∷ []) ++ ks) × AreKindsOf rest ks → (ks : List Kind) × (all ≡ before ++ ks) × AreKindsOf (MoreStatements s rest) ks
one_more before k s rest all is (ks, e, are) = (k ∷ ks, e ∙ append_assoc before (k ∷ []) ks, (is, are))

pub items_are_those_written : ItemsAreThoseWritten
items_are_those_written h f in_main r b NoStatements = ([], sym (append-nil b.kinds), tt)
items_are_those_written h f in_main r b (MoreStatements (Declare d) rest) =
    one_more b.kinds item.Other (Declare d) rest _ refl (items_are_those_written h f in_main r (with_declared b (declared_locally h f site_is.InBlock b.after d)) rest)
items_are_those_written h f in_main r b (MoreStatements (Pragma at text) rest) =
    one_more b.kinds (item.Mark (mark_of text) at) (Pragma at text) rest _ refl
    (items_are_those_written h f in_main r (with_statement b (item.Mark (mark_of text) at) (pragma_done h in_main at (mark (mark_of text)) b.after)) rest)
items_are_those_written h f in_main r b (MoreStatements s rest) =
    one_more b.kinds (kind_of h b.after s) s rest _ (kind_is h b.after s)
    (items_are_those_written h f in_main r (with_statement b (kind_of h b.after s) (done h f r b.after s)) rest)

pub labels_are_those_written : LabelsAreThoseWritten
labels_are_those_written h n on' k (Case at e s) = labels_are_those_written h n on' (case_done h at n on' k e) s
labels_are_those_written h n on' k (Default at s) = labels_are_those_written h n on' (default_done h at n k) s
labels_are_those_written h n on' k s = refl
