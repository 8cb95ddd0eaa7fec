use Rattle.std.proofs.Common.{◌||◌, not, List, map, ◌∙◌, ap}
use Rattle.p10_linkage.specs.Linkage.{Linked}
use Rattle.p10_linkage.specs.LinkedViews.{linked_of_name}
use Rattle.p10_linkage.specs.private.Covering.{has_alike}
use Rattle.p10_linkage.specs.private.Grouping.{group_of, grouped_after, rows_at}
use Rattle.p10_linkage.proofs.known.note.Goals as goal

pub returns-clause-kept : goal.returns-clause-kept
returns-clause-kept c =
    let all : List Linked = map linked_of_name c.args.linked.now in
    let now : Linked = linked_of_name c.args.now.now in
    λ other.
    c.in_ok-note_where.ensures other
    ∙ ap (λ b. grouped_after (not b) now.name c.args.place other (group_of c.args.known.now.kept other))
    (c.is_covered-covered.ensures ∙ ap (λ places. now.internal || has_alike c.args.stands.now (rows_at places all) now) c.of.ensures)
