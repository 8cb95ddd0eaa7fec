use Rattle.std.proofs.Common.{◌++◌, [], ◌∷◌, map, if◌then◌else◌, bytes_eq, ◌∙◌, ap}
use Rattle.std.proofs.lemmas.List.{map-append, length-map}
use Rattle.p10_base.specs.Names.{place_in}
use Rattle.p10_linkage.specs.private.Grouping.{group_at, group_of}
use Rattle.p10_linkage.proofs.Groupings.{group_begun}
use Rattle.p10_linkage.proofs.groups.Groups.begin.Goals as goal

pub returns-in-Ok : goal.returns-in-Ok
returns-in-Ok c = λ other.
    ap (λ places. group_at (map (λ group. group.items) places) (place_in c.add.new.self other)) c.in_ok-push-2.ensures.items
    ∙ ap (λ places. group_at places (place_in c.add.new.self other)) (map-append (λ group. group.items) c.args.self.now.places.items (c.push.new.self ∷ []))
    ∙ ap (λ names. group_at (map (λ group. group.items) c.args.self.now.places.items ++ c.push.new.self.items ∷ []) (place_in names other)) c.in-Ok.ensures.ok
    ∙ group_begun c.args.self.now.names c.args.name.now other (map (λ group. group.items) c.args.self.now.places.items) c.push.new.self.items c.requires.new
    (length-map c.args.self.now.places.items (λ group. group.items) ∙ c.args.self.now.as_many)
    ∙ ap (λ group. if bytes_eq c.args.name.now other then group else group_of c.args.self.now other) (c.in_ok-push.ensures.items ∙ ap (λ xs. xs ++ c.args.place ∷ []) c.new-group.ensures.items)
