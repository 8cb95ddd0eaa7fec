use Rattle.std.proofs.Common.{◌∙◌, ap}
use Rattle.p10_base.specs.Names.{place_in}
use Rattle.p10_base.proofs.Naming.{key_place}
use Rattle.p10_base.proofs.name_list.NameList.place.Goals as goal

pub returns : goal.returns
returns c = c.get_index_of.ensures.index ∙ key_place c.self.inside.set.keys c.args.name.now ∙ ap (λ names. place_in names c.args.name.now) c.self.view_is
