use Rattle.std.proofs.Common.{◌≡◌, ◌++◌, ◌∙◌, List, None, Some, IfOk, Option, ℕ, sym, ap, subst}
use Rattle.std.proofs.lemmas.List.{append-nil}
use Rattle.p10_core.specs.Walks.{left_in}
use Rattle.p10_elabx.specs.declared.problem.Problem.{Problem}
use Rattle.p10_program.specs.Mains.{calls_of_main, missing_main}
use Rattle.p10_program.specs.FirstProblems.{first_with}
use Rattle.p10_program.proofs.FirstUses.{first_with_append}
use Rattle.p10_program.proofs.main_calls.first_of_main.Goals as goal

pub returns-in-Some : goal.returns-in-Some
returns-in-Some c =
    let calls : List Problem = calls_of_main (Some c.in-Some.main) (left_in c.args.nodes.now) in
    let P : Option Problem → Type 0 = λ first. IfOk c.first_call_of_main.result (λ found. found ≡ first) in
    subst P
    (ap (λ first. first_with first calls) c.first_problem.ensures
    ∙ sym (first_with_append None c.args.declared.now calls)
    ∙ ap (λ (main : Option ℕ). first_with None (missing_main main (c.args.declared.now ++ calls_of_main main (left_in c.args.nodes.now)))) (sym c.in-Some.is))
    c.first_call_of_main.ensures

pub returns-in-None : goal.returns-in-None
returns-in-None c =
    c.first_without_main.ensures
    ∙ ap (λ declared. first_with None (missing_main None declared)) (sym (append-nil c.args.declared.now))
    ∙ ap (λ (main : Option ℕ). first_with None (missing_main main (c.args.declared.now ++ calls_of_main main (left_in c.args.nodes.now)))) (sym c.in-None.is)
