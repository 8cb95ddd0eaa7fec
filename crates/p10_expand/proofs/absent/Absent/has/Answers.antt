use Rattle.std.proofs.Common.{◌∙◌, ap, bytes_eq}
use Rattle.std.specs.List.{list_any}
use Rattle.p10_expand.proofs.Lacking.{keys_any}
use Rattle.p10_expand.proofs.absent.Absent.has.Goals as goal

pub returns : goal.returns
returns c = c.contains.ensures ∙ keys_any c.args.name.now c.self.inside.names.keys ∙ ap (list_any (λ other. bytes_eq other c.args.name.now)) c.self.view_is
