use Rattle.std.proofs.Common.{◌++◌, List, map, refl, ◌∙◌, ap}
use Rattle.std.proofs.lemmas.Result.{IfOk-weaker}
use Rattle.p10_base.specs.Words.{Text}
use Rattle.p10_core.specs.Typed.{PlainObject, PlainVariable}
use Rattle.p10_core.specs.Views.{plain_variable, plain_statements}
use Rattle.p10_warn.specs.Scopes.{ScopedDeclaration, declarations_among, declarations_of_parameters}
use Rattle.p10_warn.specs.private.Contexts.{objects_known, file_known, variables_known, listed_by}
use Rattle.p10_warn.specs.private.ScopeNames.{names_in}
use Rattle.p10_warn.specs.private.Listing.{declaration_violations}
use Rattle.p10_warn.proofs.StatementForms.{both_listed}
use Rattle.p10_warn.proofs.scopes.push_all.Goals as goal

pub returns : goal.returns
returns c =
    let objects : List PlainObject = objects_known c.args.context.now in
    let variables : List PlainVariable = variables_known c.args.context.now in
    let around : List Text = names_in c.args.names.now in
    let first : List ScopedDeclaration = declarations_of_parameters around (map plain_variable c.args.parameters.now) in
    let second : List ScopedDeclaration = declarations_among objects variables (around ++ map (λ v. v.name) (map plain_variable c.args.parameters.now)) (plain_statements c.args.body.now) in
    IfOk-weaker c.push_among.result _ _
    (λ _ e. both_listed (declaration_violations (file_known c.args.context.now) c.args.context.now.function) first second (first ++ second) c.args.violations.now.items c.push_parameters.new.violations.items c.push_among.new.violations.items
    c.in_ok-push_parameters.ensures.violations
    (e ∙ ap (λ names. c.push_parameters.new.violations.items ++ listed_by c.args.context.now (declarations_among objects variables names (plain_statements c.args.body.now))) c.in_ok-push_parameters.ensures.names) refl)
    c.push_among.ensures.violations
