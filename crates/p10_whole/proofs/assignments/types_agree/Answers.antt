use Rattle.std.proofs.Common.{◌∙◌, ap, sym}
use Rattle.p10_core.specs.declared.c_type.CType.{CType}
use Rattle.p10_core.specs.Types.{plain_type, plain_form_of_type, pointer}
use Rattle.p10_core.specs.Rows.{is_complete}
use Rattle.p10_core.specs.Views.{plain_types}
use Rattle.p10_whole.proofs.Updating.{by_integers, by_pointer}
use Rattle.p10_whole.proofs.assignments.types_agree.Goals as goal

pub returns-in-Int-Int : goal.returns-in-Int-Int
returns-in-Int-Int c = by_integers _ _ _ _ _ _ _ _ _ _ c.in-Int-Int.is-0 c.in-Int-Int.is-1 c.integers_agree.ensures

pub returns-in-Pointer-Int : goal.returns-in-Pointer-Int
returns-in-Pointer-Int c =
    by_pointer (plain_types c.args.types.now) c.args.op c.args.place.now.is_const c.args.operand.now.is_const (plain_type c.deref-in-Pointer-Int.result.now) _ _ _ _ _ _
    (ap (plain_form_of_type c.args.place.now.is_const) c.in-Pointer-Int.is-0 ∙ ap (λ (u : CType). pointer c.args.place.now.is_const (plain_type u)) (sym c.deref-in-Pointer-Int.ensures))
    c.in-Pointer-Int.is-1
    (c.is_complete.ensures ∙ ap (λ (u : CType). is_complete (plain_types c.args.types.now) (plain_type u)) (c.deref.ensures ∙ sym c.deref-in-Pointer-Int.ensures))
    c.pointer_agrees.ensures
