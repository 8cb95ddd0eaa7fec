-- The arguments of calls stand in a list.
use Rattle.std.proofs.Common.{map}
use Rattle.p10_core.specs.Types.{plain_type}
use Rattle.p10_compile.specs.Views.{plain_op, plain_site}
use Rattle.p10_compile.proofs.Calls.{call_coded, built_in_coded}
use Rattle.p10_compile.proofs.site.Site.+values.Goals as goal

pub form_code-returns-in-Call : goal.form_code-returns-in-Call
form_code-returns-in-Call t c =
    call_coded (plain_site c.args.self.now) c.args.start.slot c.args.start.free c.args.start.debt c.args.start.at c.args.v.now.at (plain_type c.args.v.now.ty) c.args.v.now.form c.in-Call.field-0 c.in-Call.f c.in-Call.arguments c.as_slice-in-Call.result.now
    c.call_code.result (λ code. map plain_op code.items) c.in-Call.is c.as_slice-in-Call.ensures c.call_code.ensures

pub form_code-returns-in-Builtin : goal.form_code-returns-in-Builtin
form_code-returns-in-Builtin t c =
    built_in_coded (plain_site c.args.self.now) c.args.start.slot c.args.start.free c.args.start.debt c.args.start.at c.args.v.now.at (plain_type c.args.v.now.ty) c.args.v.now.form c.in-Builtin.field-0 c.in-Builtin.f c.in-Builtin.arguments c.as_slice-in-Builtin.result.now
    c.library_code.result (λ code. map plain_op code.items) c.in-Builtin.is c.as_slice-in-Builtin.ensures c.library_code.ensures
