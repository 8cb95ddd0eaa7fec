use Rattle.std.proofs.Common.{◌∙◌, ap}
use Rattle.p10_core.specs.Views.{plain_labels}
use Rattle.p10_pass.specs.private.Walking.{marks_cases}
use Rattle.p10_pass.proofs.Marked.{labels_told}
use Rattle.p10_pass.proofs.marks.label_marks.Goals as goal

pub returns : goal.returns
returns c =
    labels_told (plain_labels c.args.labels.now) c.args.count c.in_ok-marks.marks.items c.mark_cases.new.marks.items c.mark_otherwise.new.marks.items c.in_ok-marks.ensures
    (c.mark_cases.ensures ∙ ap (λ cases. marks_cases cases c.in_ok-marks.marks.items) c.as_slice.ensures) c.mark_otherwise.ensures
