use Rattle.std.proofs.Common.{map, option_map, ap, ◌∙◌}
use Rattle.p10_syn.specs.Trees.{specifier_row}
use Rattle.p10_syn.specs.Built.{identifier_of, specifier_of, declarator_of}
use Rattle.p10_syn.specs.BuiltStatements.{definition_of}
use Rattle.p10_elabx.specs.First.{only_first}
use Rattle.p10_elabd.specs.Standing.{Passed}
use Rattle.p10_elabd.specs.Words.{storage_of}
use Rattle.p10_elabd.specs.Shapes.{DeclaredType}
use Rattle.p10_elabd.specs.Declaring.{declarator_passed}
use Rattle.p10_elabd.specs.Views.{plain_standing, plain_declared}
use Rattle.p10_heads.specs.PlainHeads.{plain_heads}
use Rattle.p10_elab.specs.Knowledge.{Known, with_standing}
use Rattle.p10_elab.specs.Outer.{function_by_type}
use Rattle.p10_elab.specs.KnownViews.{plain_known}
use Rattle.p10_elab.proofs.definitions.define_name.Goals as goal

pub returns : goal.returns
returns c =
    let k : Known = plain_known c.args.known.now in
    let heads = plain_heads c.args.setting.now.heads.now in
    let d = definition_of c.args.f.now in
    let name = identifier_of c.args.name in
    let storage = c.storage_of.ensures ∙ ap (λ specs. storage_of (specifier_row (map specifier_of specs))) c.deref.ensures.value in
    c.in_ok-function_by_type.ensures
    ∙ ap (λ s. function_by_type only_first heads s d name (with_standing k (plain_standing c.declarator_passed.new.standing)) (option_map plain_declared c.in_ok-declared.declared)) storage
    ∙ ap (λ (j : Passed DeclaredType). function_by_type only_first heads (storage_of d.specifiers) d name (with_standing k j.after) j.made)
    (c.in_ok-declared.ensures ∙ ap (λ o. declarator_passed only_first c.args.name.at (record { made = o; after = k.standing }) (declarator_of c.args.f.now.declarator)) c.based.ensures)
