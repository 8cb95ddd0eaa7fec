use Rattle.std.proofs.Common.{sym, refl, ◌∙◌, arith}
use Rattle.std.proofs.lemmas.Result.{err_from_is_err_and}
use Rattle.p10_expand.proofs.Lacking.{lacked, noted_absent}
use Rattle.p10_expand.proofs.Standing.{adds_stands, added_file, file_fails_to_add, front_of}
use Rattle.p10_expand.proofs.load.load.Goals as goal

pub returns-then-lacks-clause-found : goal.returns-then-lacks-clause-found
returns-then-lacks-clause-found g c =
    (lacked _ _ c.args.name.now c.requires.stands.absent (sym c.lacks.ensures ∙ c.if-lacks.true), record { sources = refl; known = refl })

pub returns-in_err-add-in-Ok-clause-cause : goal.returns-in_err-add-in-Ok-clause-cause
returns-in_err-add-in-Ok-clause-cause g c =
    let p = err_from_is_err_and c.from_residual-in_err-add-in-Ok.result c.from_residual-in_err-add-in-Ok.ensures.1 in
    rw (p.1, p.2) (file_fails_to_add _ _ c.add.new.self c.args.name.now _ _ _ _ c.requires.new (omega (arith, c.present.ensures, c.if-present-ge-MOST_FILES.false)) (c.of.ensures ∙ c.in_ok-from_str-in-Ok.ensures.ok) c.new-text.ensures.items c.in-Ok.ensures.read c.in_err-add-in-Ok.ensures.refused)

pub returns-in-Ok-clause-stands : goal.returns-in-Ok-clause-stands
returns-in-Ok-clause-stands g c =
    adds_stands _ _ _ _ _ _ _ c.requires.stands (front_of _ c.args.name.now _ _ _ (c.of.ensures ∙ c.in_ok-from_str-in-Ok.ensures.ok) c.new-text.ensures.items c.in-Ok.ensures.read) c.in_ok-add-in-Ok.ensures.added c.in_ok-add-in-Ok.ensures.absent

pub returns-in-Ok-clause-found : goal.returns-in-Ok-clause-found
returns-in-Ok-clause-found g c =
    added_file _ _ _ c.args.name.now _ _ _ _ _ c.requires.new (omega (arith, c.present.ensures, c.if-present-ge-MOST_FILES.false)) (c.of.ensures ∙ c.in_ok-from_str-in-Ok.ensures.ok) c.new-text.ensures.items c.in-Ok.ensures.read c.in_ok-add-in-Ok.ensures.added

pub returns-in-Err-Absent-clause-noted : goal.returns-in-Err-Absent-clause-noted
returns-in-Err-Absent-clause-noted g c none =
    noted_absent _ _ _ c.args.name.now c.in_ok-add-in-Err-Absent.ensures.ok c.in_ok-from_str-in-Err-Absent.ensures.ok
