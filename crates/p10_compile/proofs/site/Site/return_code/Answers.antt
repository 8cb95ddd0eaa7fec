-- A value that is returned.
use Rattle.std.proofs.Common.{map}
use Rattle.p10_compile.specs.Views.{plain_op, plain_site, plain_exits}
use Rattle.p10_compile.proofs.Forms.{returned_along}
use Rattle.p10_compile.proofs.site.Site.return_code.Goals as goal

pub returns-in-Some : goal.returns-in-Some
returns-in-Some c =
    returned_along (plain_site c.args.self.now) (plain_exits c.args.around.exits) c.args.around.at c.args.around.here c.args.v.now c.in-Some.v c.value_returned.result (λ code. map plain_op code.items) c.in-Some.is c.value_returned.ensures
