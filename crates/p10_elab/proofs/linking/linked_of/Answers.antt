use Rattle.std.proofs.Common.{◌≡◌, None, sym, ◌∙◌, ap}
use Rattle.p10_linkage.specs.Linkage.{last_linked, internal_by}
use Rattle.p10_linkage.specs.LinkedViews.{plain_kind}
use Rattle.p10_elab.proofs.linking.linked_of.Goals as goal

pub returns : goal.returns
returns c = λ k root_is linked_is.
    let before : _ ≡ last_linked None k.root c.args.name.text.now k.linked = c.last.ensures ∙ (λ i. last_linked None (sym root_is i) c.args.name.text.now (sym linked_is i)) in
    let internal : c.internal_by-internal.result ≡ internal_by c.args.says.storage (plain_kind c.args.kind) (last_linked None k.root c.args.name.text.now k.linked) =
    c.internal_by-internal.ensures ∙ ap (internal_by c.args.says.storage (plain_kind c.args.kind)) before in
    λ i. record {
      root = sym root_is i;
      name = c.args.name.text.now;
      at = c.args.name.at;
      type = plain_kind c.args.kind;
      internal = internal i;
      defines = c.args.says.defines;
      sensor = c.args.says.sensor;
    }
