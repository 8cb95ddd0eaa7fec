use Rattle.std.proofs.Common.{◌≡◌, ◌≤◌, ◌∙◌, List, Bool, length, map, sym, ap, subst, arith}
use Rattle.std.proofs.lemmas.Bool.Decides.{nat_tests}
use Rattle.std.proofs.lemmas.List.{length-map}
use Rattle.p10_calls.specs.declared.sites.CallSite.{CallSite}
use Rattle.p10_core.specs.Views.{plain_program, plain_function}
use Rattle.p10_core.specs.WholePrograms.{numbers_from}
use Rattle.p10_incr.specs.Edits.{is_dirty, is_touched}
use Rattle.p10_incr.specs.private.Entries.{known_edit}
use Rattle.p10_incr.specs.private.Marks.{marked_or, with_callers}
use Rattle.p10_incr.proofs.Marks.{all_marked, as_many_marks, dirty_found}
use Rattle.p10_incr.proofs.dirty.dirty.Goals as goal

pub numbers_marked-requires : goal.numbers_marked-requires
numbers_marked-requires c =
    let small : length c.as_slice-count.result.now ≤ 4294967295 = grind (arith, nat_tests, c.if-count.false) in
    subst (λ n. n ≤ 4294967295)
    (sym (as_many_marks (is_dirty (plain_program c.args.program.now) (known_edit c.args.edit)) (length c.as_slice-count.result.now) c.as_slice-2.result.now
    (c.as_slice-2.ensures.value
    ∙ all_marked (plain_program c.args.program.now) (known_edit c.args.edit) (length c.as_slice-count.result.now) c.as_slice.result.now c.in_ok-marks.marks.items c.args.sites.now
    (c.as_slice.ensures.value ∙ c.in_ok-touched.ensures) c.requires c.in_ok-marks.ensures)))
    small

pub returns : goal.returns
returns c =
    dirty_found (plain_program c.args.program.now) (known_edit c.args.edit) (length c.as_slice-count.result.now) c.as_slice-2.result.now
    (ap length c.as_slice-count.ensures ∙ sym (length-map c.args.program.now.functions plain_function))
    (c.as_slice-2.ensures.value
    ∙ all_marked (plain_program c.args.program.now) (known_edit c.args.edit) (length c.as_slice-count.result.now) c.as_slice.result.now c.in_ok-marks.marks.items c.args.sites.now
    (c.as_slice.ensures.value ∙ c.in_ok-touched.ensures) c.requires c.in_ok-marks.ensures)
    c.numbers_marked.result c.numbers_marked.ensures
