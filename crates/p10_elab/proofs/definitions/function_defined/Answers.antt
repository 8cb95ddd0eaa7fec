use Rattle.std.proofs.Common.{true, false, map, refl, sym, ap, ◌∙◌}
use Rattle.std.proofs.lemmas.List.{length-map}
use Rattle.p10_syn.specs.Trees.{statement_row}
use Rattle.p10_syn.specs.Built.{identifier_of}
use Rattle.p10_syn.specs.BuiltStatements.{statement_of, definition_of}
use Rattle.p10_core.specs.Types.{plain_type}
use Rattle.p10_elabx.specs.First.{only_first}
use Rattle.p10_elabd.specs.Views.{plain_parameter, plain_function}
use Rattle.p10_heads.specs.Heads.{number_in}
use Rattle.p10_heads.specs.PlainHeads.{plain_heads}
use Rattle.p10_linkage.specs.LinkedViews.{linked_of_name}
use Rattle.p10_elab.specs.Knowledge.{Known, linked_of}
use Rattle.p10_elab.specs.KnownViews.{plain_known}
use Rattle.p10_elab.specs.private.Bodies.{body_by}
use Rattle.p10_elab.proofs.FunctionBodies.{defined_function}
use Rattle.p10_elab.proofs.definitions.function_defined.Goals as goal

pub returns : goal.returns
returns c =
    let k : Known = plain_known c.args.known.now in
    let heads = plain_heads c.args.setting.now.heads.now in
    let name = identifier_of c.args.name in
    let t = plain_function c.args.function in
    let linked = c.linked_of-linked.ensures k refl refl ∙ ap (λ ty. linked_of k name ty c.args.storage true false) c.in_ok-kind.ensures in
    let parameters = c.in_ok-parameters.ensures ∙ c.len.ensures ∙ c.args.function.parameters.ok.0 ∙ sym (length-map c.args.function.parameters.items plain_parameter) in
    defined_function heads c.args.storage (definition_of c.args.f.now) name t k _ _ (linked_of_name c.linked_of-linked.result) _ linked c.in_ok-declare_linked.ensures
    (λ i. record { name = record { place = sym (ap (λ l. l.at) linked) i; name = sym (ap (λ l. l.name) linked) i }; number = c.function_number-number.ensures i; internal = c.linked_of-linked.result.internal; parameters = parameters i; result = c.in_ok-result.ensures i })
    (c.in_ok-body_done.ensures
    ∙ ap (λ ss. body_by only_first heads (record { name = name; number = c.function_number-number.result; internal = c.linked_of-linked.result.internal; parameters = c.in_ok-parameters.parameters; result = plain_type c.in_ok-result.result }) t (statement_row (map statement_of ss)) (plain_known c.declare_linked.new.known)) c.deref.ensures.value)
