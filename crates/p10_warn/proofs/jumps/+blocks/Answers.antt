use Rattle.std.proofs.Common.{◌≡◌, ◌++◌, ◌∷◌, [], ℕ, List, option_map, IfOk, sym, ◌∙◌, ap, subst}
use Rattle.std.specs.List.{flat_map}
use Rattle.std.proofs.lemmas.Result.{IfOk-weaker}
use Rattle.p10_core.specs.Views.{plain_statement, plain_statements, plain_statement_form}
use Rattle.p10_core.proofs.StatementRows.{plain_block}
use Rattle.p10_warn.specs.Jumps.{LabelledBlock, blocks_in, blocks_in_form, blocks_among}
use Rattle.p10_warn.specs.private.Branches.{blocks_in_branch}
use Rattle.p10_warn.specs.private.Listing.{block_violations}
use Rattle.p10_warn.proofs.StatementForms.{both_listed, blocks_in_both}
use Rattle.p10_warn.proofs.jumps.+blocks.Goals as goal

pub push_in-returns-in-Block : goal.push_in-returns-in-Block
push_in-returns-in-Block t c =
    let is : (record { items = plain_statements c.as_slice.result.now; labelled = c.args.labelled.now } ∷ blocks_among (plain_statements c.as_slice.result.now)) ≡ blocks_in c.args.labelled.now (plain_statement c.args.statement.now) =
    ap (λ all. record { items = plain_statements all; labelled = c.args.labelled.now } ∷ blocks_among (plain_statements all)) c.as_slice.ensures
    ∙ sym (ap (blocks_in_form c.args.labelled.now) (ap plain_statement_form c.in-Block.is ∙ plain_block c.in-Block.items)) in
    let P : List LabelledBlock → Type 0 = λ bs. IfOk c.push_blocks.result (λ _. c.push_blocks.new.violations.items ≡ c.args.violations.now.items ++ flat_map block_violations bs) in
    subst P is c.push_blocks.ensures

pub push_in-returns-in_ok-push_in-in-If : goal.push_in-returns-in_ok-push_in-in-If
push_in-returns-in_ok-push_in-in-If t c =
    let labelled : List ℕ = c.args.labelled.now in
    IfOk-weaker c.push_branch.result _ _
    (λ _ e. both_listed block_violations (blocks_in [] (plain_statement c.in-If.then.value)) (blocks_in_branch (option_map (λ b. plain_statement b.value) c.in-If.other)) (blocks_in labelled (plain_statement c.args.statement.now))
    c.args.violations.now.items c.push_in.new.violations.items c.push_branch.new.violations.items
    (c.in_ok-push_in-in-If.ensures ∙ ap (λ s. c.args.violations.now.items ++ flat_map block_violations (blocks_in [] (plain_statement s))) c.deref.ensures) e
    (blocks_in_both labelled c.in-If.field-0 c.in-If.then c.in-If.other ∙ sym (ap (blocks_in_form labelled) (ap plain_statement_form c.in-If.is))))
    c.push_branch.ensures
