use Rattle.std.proofs.Common.{◌++◌, [], ◌∷◌, map, if◌then◌else◌, bytes_eq, ◌∙◌, ap}
use Rattle.std.proofs.lemmas.List.{map-append, length-map}
use Rattle.p10_base.specs.Names.{place_in}
use Rattle.p10_warn.specs.private.NamedExtents.{extents_at, noted_for}
use Rattle.p10_warn.proofs.Groupings.{group_begun}
use Rattle.p10_warn.proofs.named_extents.NamedExtents.begin.Goals as goal

pub returns-in-Ok : goal.returns-in-Ok
returns-in-Ok c = λ other.
    ap (λ places. extents_at (map (λ group. group.items) places) (place_in c.add.new.self other)) c.in_ok-push-2.ensures.items
    ∙ ap (λ places. extents_at places (place_in c.add.new.self other)) (map-append (λ group. group.items) c.args.self.now.groups.items (c.push.new.self ∷ []))
    ∙ ap (λ names. extents_at (map (λ group. group.items) c.args.self.now.groups.items ++ c.push.new.self.items ∷ []) (place_in names other)) c.in-Ok.ensures.ok
    ∙ group_begun c.args.self.now.names c.args.name.now other (map (λ group. group.items) c.args.self.now.groups.items) c.push.new.self.items c.requires.new
    (length-map c.args.self.now.groups.items (λ group. group.items) ∙ c.args.self.now.as_many)
    ∙ ap (λ group. if bytes_eq c.args.name.now other then group else noted_for c.args.self.now other) (c.in_ok-push.ensures.items ∙ ap (λ xs. xs ++ c.args.extent ∷ []) c.new-group.ensures.items)
