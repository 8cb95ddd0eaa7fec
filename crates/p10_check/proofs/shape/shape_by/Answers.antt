use Rattle.std.proofs.Common.{ap, map}
use Rattle.p10_core.specs.Views.{plain_program}
use Rattle.p10_cert.specs.Claims.{func_of, claims_of}
use Rattle.p10_check.specs.Fails.{failures_of}
use Rattle.p10_check.proofs.ByTurn.{shape_in_order}
use Rattle.p10_check.proofs.shape.shape_by.Goals as goal

pub returns : goal.returns
returns c = record {
  late = c.in_ok-late.late.items;
  late_are = c.in_ok-late.ensures;
  are = shape_in_order (plain_program c.args.program.now) (claims_of c.args.certificate.now) c.args.turn c.in_ok-late.late.items c.args.sites.now (map func_of c.as_slice.result.now) c.as_slice-2.result.now
      c.name_at-main.result c.in_ok-wrong.wrong c.bounds_main-bounds.result (failures_of c.new-failing.result.items) (failures_of c.push_rising.new.failing.items) (failures_of c.push_if.new.failing.items)
      (failures_of c.push_effects.new.failing.items) (failures_of c.push_if-2.new.failing.items) (ap failures_of c.new-failing.ensures.items) (ap (map func_of) c.as_slice.ensures) c.requires.calls c.in_ok-push_rising.ensures
      c.in_ok-wrong.ensures c.name_at-main.ensures c.in_ok-push_if.ensures c.as_slice-2.ensures.value c.in_ok-push_effects.ensures c.bounds_main-bounds.ensures c.in_ok-push_if-2.ensures;
}
