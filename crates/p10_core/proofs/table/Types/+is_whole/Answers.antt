use Rattle.std.proofs.Common.{false, sym, ◌∙◌, ap}
use Rattle.p10_core.specs.declared.c_type.CType.{CType}
use Rattle.p10_core.specs.Types.{plain_type, plain_form_of_type, array}
use Rattle.p10_core.specs.Views.{plain_types}
use Rattle.p10_core.specs.Completing.{is_whole_type}
use Rattle.p10_core.proofs.MemberLayouts.{array_unmarked}
use Rattle.p10_core.proofs.table.Types.+is_whole.Goals as goal

pub returns-in-Array : goal.returns-in-Array
returns-in-Array t c =
    c.array_is_whole.ensures
    ∙ ap (λ (e : CType). is_whole_type (plain_types c.args.self.now) (array false (plain_type e) c.in-Array.length)) c.deref-in-Array-2.ensures
    ∙ array_unmarked (plain_types c.args.self.now) c.args.t.now.is_const (plain_type c.in-Array.element.value) c.in-Array.length
    ∙ sym (ap (λ f. is_whole_type (plain_types c.args.self.now) (plain_form_of_type c.args.t.now.is_const f)) c.in-Array.is)
