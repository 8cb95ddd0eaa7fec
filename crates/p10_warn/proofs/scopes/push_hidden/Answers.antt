use Rattle.std.proofs.Common.{◌++◌, map, ◌∙◌, ap}
use Rattle.std.specs.List.{flat_map}
use Rattle.std.proofs.lemmas.Result.{IfOk-weaker}
use Rattle.p10_core.specs.Views.{plain_object}
use Rattle.p10_warn.specs.private.Contexts.{names_at}
use Rattle.p10_warn.specs.private.ScopeNames.{names_in}
use Rattle.p10_warn.specs.private.Listing.{declaration_violations}
use Rattle.p10_warn.proofs.ScopeSteps.{function_declarations}
use Rattle.p10_warn.proofs.scopes.push_hidden.Goals as goal

pub returns : goal.returns
returns c =
    IfOk-weaker c.push_all.result _ _
    (λ _ e. e ∙ ap (λ ds. c.args.violations.now.items ++ flat_map (declaration_violations (names_at c.args.file.now) c.args.number) ds)
    (function_declarations (map plain_object c.args.file.now.objects.now) c.args.function.now (names_in c.new-names.result) c.as_slice-variables.result.now c.first_of-parameters.result.now c.as_slice.result.now
    (ap (map (λ b. b.0)) c.new-names.ensures) c.as_slice-variables.ensures c.first_of-parameters.ensures c.as_slice.ensures))
    c.push_all.ensures
