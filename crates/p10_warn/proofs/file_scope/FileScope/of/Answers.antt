use Rattle.std.proofs.Common.{◌∙◌, ap, map}
use Rattle.std.specs.List.{list_any}
use Rattle.p10_core.specs.Views.{plain_object, plain_seen}
use Rattle.p10_warn.specs.Scopes.{covers}
use Rattle.p10_warn.proofs.Noting.{name_is_in_scope}
use Rattle.p10_warn.proofs.file_scope.FileScope.of.Goals as goal

pub invariant_of-result : goal.invariant_of-result
invariant_of-result c = record {
  known = λ name n. ap (list_any (covers n)) (c.in_ok-extents.ensures name) ∙ name_is_in_scope (record { objects = map plain_object c.args.objects.now; outside = map plain_seen c.args.outside.now }) n name;
}
