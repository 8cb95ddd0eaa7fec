use Rattle.std.proofs.Common.{true}
use Rattle.std.specs.Result.{is_ok}
use Rattle.p10_linkage.specs.LinkedViews.{linked_of_name}
use Rattle.p10_linkage.specs.private.Grouping.{group_of}
use Rattle.p10_linkage.specs.private.Lookups.{name_of, defines}
use Rattle.p10_linkage.proofs.LastNames.{places_kept}
use Rattle.p10_linkage.proofs.linked_names.LinkedNames.add.Goals as goal

pub invariant_of-self : goal.invariant_of-self
invariant_of-self c = record {
  all_named = λ name.
      places_kept linked_of_name name_of (λ l. true) name (is_ok c.add_row.result) c.args.self.now.rows.items _ c.args.linked (group_of c.args.self.now.all name) _ c.add_row.ensures.rows (c.add_row.ensures.all name)
      (c.args.self.now.all_named name);
  definitions_named = λ name.
      places_kept linked_of_name name_of defines name (is_ok c.add_row.result) c.args.self.now.rows.items _ c.args.linked (group_of c.args.self.now.definitions name) _ c.add_row.ensures.rows (c.add_row.ensures.definitions name)
      (c.args.self.now.definitions_named name);
}
