use Rattle.std.proofs.Common.{Some, ◌∙◌, ap, map, sym}
use Rattle.p10_base.specs.Names.{place_in, with_name}
use Rattle.p10_base.proofs.Naming.{key_added, key_index, place_added}
use Rattle.p10_base.proofs.name_list.NameList.add.Goals as goal

pub returns-clause-ok : goal.returns-clause-ok
returns-clause-ok c = ap (map (λ k. k.now)) c.in_ok-place.ensures.keys ∙ key_added c.self.inside.set.keys c.args.name ∙ ap (λ names. with_name names c.args.name.now) c.self.view_is

pub returns-clause-place : goal.returns-clause-place
returns-clause-place c =
    ap (λ names. place_in names c.args.name.now) (ap (map (λ k. k.now)) c.in_ok-place.ensures.keys ∙ key_added c.self.inside.set.keys c.args.name)
    ∙ place_added (map (λ k. k.now) c.self.inside.set.keys) c.args.name.now
    ∙ ap Some (sym (c.in_ok-place.ensures.index ∙ key_index c.self.inside.set.keys c.args.name.now))
