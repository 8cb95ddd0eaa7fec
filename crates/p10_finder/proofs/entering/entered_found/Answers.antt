use Rattle.std.proofs.Common.{length, map, refl, sym, ap}
use Rattle.std.specs.Option.{option_map, option_copied}
use Rattle.std.proofs.lemmas.List.{length-map}
use Rattle.p10_core.specs.Views.{plain_value, plain_variable, plain_statement}
use Rattle.p10_candidates.specs.Trials.{rounds_in}
use Rattle.p10_finder.specs.private.Looking.{search_by}
use Rattle.p10_finder.proofs.LoopForms.{entry_is, task_entered, other_entered}
use Rattle.p10_finder.proofs.entering.entered_found.Goals as goal

pub returns-then-task : goal.returns-then-task
returns-then-task c =
    task_entered c.task_found.result (search_by c.args.s.now) c.args.s.now.depth c.args.parts.now.head (option_map plain_value c.args.parts.now.tested.now) (plain_statement c.args.parts.now.looped.now) c.args.task c.args.entry.now.values (rounds_in (map plain_variable c.args.s.now.variables.now) (plain_statement c.args.parts.now.looped.now)) _ refl
    (entry_is (search_by c.args.s.now) c.args.entry.now.values c.as_slice.result.now c.in_ok-marks.marks.items (length c.args.s.now.variables.now) (plain_statement c.args.parts.now.looped.now) (option_map plain_value (option_copied c.guard_of.result))
    (option_map plain_value c.args.parts.now.tested.now) c.as_slice.ensures.value c.in_ok-marks.ensures (sym (length-map c.args.s.now.variables.now plain_variable)) (ap (option_map plain_value) c.guard_of.ensures)) c.if-task.true c.task_found.ensures

pub returns : goal.returns
returns c =
    other_entered c.untasked_found.result (search_by c.args.s.now) c.args.s.now.depth c.args.parts.now.head (option_map plain_value c.args.parts.now.tested.now) (plain_statement c.args.parts.now.looped.now) c.args.task c.args.entry.now.values (rounds_in (map plain_variable c.args.s.now.variables.now) (plain_statement c.args.parts.now.looped.now)) _ refl
    (entry_is (search_by c.args.s.now) c.args.entry.now.values c.as_slice.result.now c.in_ok-marks.marks.items (length c.args.s.now.variables.now) (plain_statement c.args.parts.now.looped.now) (option_map plain_value (option_copied c.guard_of.result))
    (option_map plain_value c.args.parts.now.tested.now) c.as_slice.ensures.value c.in_ok-marks.ensures (sym (length-map c.args.s.now.variables.now plain_variable)) (ap (option_map plain_value) c.guard_of.ensures)) c.if-task.false c.untasked_found.ensures
