use Rattle.std.proofs.Common.{◌∙◌, ap, bytes_eq}
use Rattle.std.specs.List.{list_any}
use Rattle.p10_base.proofs.Naming.{keys_any}
use Rattle.p10_base.proofs.name_list.NameList.contains.Goals as goal

pub returns : goal.returns
returns c = c.contains.ensures ∙ keys_any c.self.inside.set.keys c.args.name.now ∙ ap (list_any (bytes_eq c.args.name.now)) c.self.view_is
