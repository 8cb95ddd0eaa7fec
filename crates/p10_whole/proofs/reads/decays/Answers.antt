use Rattle.std.proofs.Common.{◌∙◌, ap, sym}
use Rattle.p10_core.specs.declared.c_type.CType.{CType}
use Rattle.p10_core.specs.Types.{plain_type, plain_form_of_type, array}
use Rattle.p10_core.specs.Views.{plain_place}
use Rattle.p10_whole.specs.private.Surroundings.{surroundings_in}
use Rattle.p10_whole.proofs.Reading.{decays_shown}
use Rattle.p10_whole.proofs.reads.decays.Goals as goal

pub returns-in-Array : goal.returns-in-Array
returns-in-Array c =
    decays_shown (surroundings_in c.args.around.now) (plain_type c.args.t.now) (plain_type c.deref.result.now) (plain_place c.args.p.now) c.args.p.now.ty.is_const c.in-Array.field-1 c.is_pointer_to.result c.is_no_frame.result
    (ap (plain_form_of_type c.args.p.now.ty.is_const) c.in-Array.is ∙ ap (λ (e : CType). array c.args.p.now.ty.is_const (plain_type e) c.in-Array.field-1) (sym c.deref.ensures)) c.is_pointer_to.ensures c.is_no_frame.ensures
