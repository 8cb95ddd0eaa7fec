use Rattle.std.proofs.Common.{◌++◌, [], ◌∷◌, map, sym, ◌∙◌, ap, arith}
use Rattle.std.proofs.lemmas.List.{map-set, length-map}
use Rattle.p10_base.specs.Names.{place_in}
use Rattle.p10_base.proofs.Naming.{place_before}
use Rattle.p10_warn.specs.private.NamedExtents.{extents_at}
use Rattle.p10_warn.proofs.Groupings.{group_more, index_mapped}
use Rattle.p10_warn.proofs.named_extents.NamedExtents.add.Goals as goal

pub returns-in_ok-push-in-Some : goal.returns-in_ok-push-in-Some
returns-in_ok-push-in-Some c = λ other.
    ap (λ places. extents_at places (place_in c.args.self.now.names other)) (map-set (λ group. group.items) c.args.self.now.groups.items c.in-Some.group c.push.new.self)
    ∙ group_more c.args.self.now.names c.args.name.now other (map (λ group. group.items) c.args.self.now.groups.items) c.in-Some.group c.push.new.self.items c.args.extent
    (sym c.place.ensures ∙ c.in-Some.is)
    (length-map c.args.self.now.groups.items (λ group. group.items) ∙ c.args.self.now.as_many)
    (c.in_ok-push-in-Some.ensures.items
    ∙ ap (λ group. group.items ++ c.args.extent ∷ []) c.index_mut.ensures.value
    ∙ ap (λ items. items ++ c.args.extent ∷ [])
    (sym (index_mapped (λ group. group.items) c.args.self.now.groups.items c.in-Some.group c.index_mut.result.now []
    (omega (arith, place_before c.args.self.now.names c.args.name.now c.in-Some.group (sym c.place.ensures ∙ c.in-Some.is), c.args.self.now.as_many)))))
