use Rattle.std.proofs.Common.{map, false, ap, ◌∙◌}
use Rattle.p10_syn.specs.Trees.{specifier_row}
use Rattle.p10_syn.specs.Built.{specifier_of}
use Rattle.p10_elabd.specs.Words.{storage_of}
use Rattle.p10_linkage.specs.Linkage.{is_static}
use Rattle.p10_elab.proofs.OuterTypes.{static_is}
use Rattle.p10_elab.proofs.definitions.allowed_at_definition.Goals as goal

pub returns : goal.returns
returns c =
    let inline = c.is_static.ensures ∙ static_is _ ∙ ap is_static (c.storage_of.ensures ∙ ap (λ specs. storage_of (specifier_row (map specifier_of specs))) c.deref.ensures.value) in
    λ i. record { inline = inline i; volatile = false }
