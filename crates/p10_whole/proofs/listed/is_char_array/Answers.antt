use Rattle.std.proofs.Common.{◌∙◌, ap, sym}
use Rattle.p10_core.specs.declared.c_type.CType.{CType}
use Rattle.p10_core.specs.Types.{plain_type, plain_form_of_type, array}
use Rattle.p10_whole.proofs.Listing.{array_shown}
use Rattle.p10_whole.proofs.listed.is_char_array.Goals as goal

pub returns-in-Array : goal.returns-in-Array
returns-in-Array c =
    array_shown (plain_type c.args.t.now) (plain_type c.deref.result.now) c.args.t.now.is_const c.in-Array.length c.args.count c.is_integer_of.result
    (ap (plain_form_of_type c.args.t.now.is_const) c.in-Array.is ∙ ap (λ (e : CType). array c.args.t.now.is_const (plain_type e) c.in-Array.length) (sym c.deref.ensures)) c.is_integer_of.ensures
