-- Declarations where statements stand, and what stands in the parentheses of a `for`.
use Rattle.std.specs.Prelude.{◌≡◌, true, Option, None, List}
use Rattle.std.proofs.Common.{◌∙◌, ap}
use Rattle.p10_base.specs.declared.at.At.{At}
use Rattle.p10_base.specs.declared.codes.SubsetCode.TheVariants as subset
use Rattle.p10_syn.specs.Trees.{Optional, Declaration, Statement}
use Rattle.p10_core.specs.Typed.{PlainValue, PlainStatement}
use Rattle.p10_elabx.specs.First.{only_first}
use Rattle.p10_elabd.specs.declared.site.Site.TheVariants as site_is
use Rattle.p10_elabs.specs.Expressions.{optional_clause, optional_test}
use Rattle.p10_elabs.specs.Locals.{Frame, Local, Done, refusing_in}
use Rattle.p10_elabs.specs.LocalDeclarations.{declared_locally}
use Rattle.p10_elabs.specs.Statements.{Block', no_items_yet, with_declared, start_done, declared_at_labels}
use Rattle.p10_elabs.specs.private.Steps.{ForClauses, declared_start, clauses_done}
use Rattle.p10_elabs.proofs.StatementParts.{as_done}

pub start_declared : (f : Frame) (l : Local) (d : Declaration At) (b0 b : Block') → b0 ≡ no_items_yet l → b ≡ with_declared b0 (declared_locally only_first f site_is.InFor l d) →
    as_done b.made b.after ≡ declared_start only_first f l d
start_declared f l d b0 b none is =
    ap (λ (x : Block'). as_done x.made x.after) (is ∙ ap (λ x. with_declared x (declared_locally only_first f site_is.InFor l d)) none)

pub refused_declared : (f : Frame) (l0 l2 : Local) (d : Declaration At) (b0 b : Block') → b ≡ with_declared b0 (declared_locally only_first f site_is.InBlock l0 d) →
    l2 ≡ refusing_in only_first true subset.BadJump d.place b.after → as_done {A = PlainStatement} None l2 ≡ declared_at_labels only_first f l0 d
refused_declared f l0 l2 d b0 b is refuse =
    ap (as_done {A = PlainStatement} None) (refuse ∙ ap (λ (x : Block'). refusing_in only_first true subset.BadJump d.place x.after) is)

-- the clauses of a `for`, and what the body has then
abbrev pub clauses_of : Option (List PlainStatement) → Option (Option PlainValue) → Option (List PlainStatement) → Local → ForClauses
clauses_of first test third l = record { first = first; test = test; third = third; after = l }

pub clauses_made : (f : Frame) (l0 l1 l2 l3 : Local) (start : Statement At) (test step : Optional At) (a c : Option (List PlainStatement)) (v : Option (Option PlainValue)) →
    as_done a l1 ≡ start_done only_first f l0 start → as_done v l2 ≡ optional_test only_first l1 test → as_done c l3 ≡ optional_clause only_first l2 step →
    clauses_of a v c l3 ≡ clauses_done only_first f l0 start test step
clauses_made f l0 l1 l2 l3 start test step a c v first second third =
    ap (λ (x : Done (List PlainStatement)). clauses_of a v x.made x.after) third
    ∙ ap (λ (x : Done (Option PlainValue)). let y : Done (List PlainStatement) = optional_clause only_first x.after step in clauses_of a x.made y.made y.after) second
    ∙ ap (λ (x : Done (List PlainStatement)).
    let w : Done (Option PlainValue) = optional_test only_first x.after test in
    let y : Done (List PlainStatement) = optional_clause only_first w.after step in
    clauses_of x.made w.made y.made y.after) first
