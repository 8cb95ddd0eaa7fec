use Rattle.std.proofs.Common.{◌∙◌, sym, ap, map}
use Rattle.p10_core.specs.Views.{plain_function}
use Rattle.p10_program.specs.Pragmas.{pragma_in}
use Rattle.p10_program.specs.private.Marked.{pragma_of}
use Rattle.p10_program.proofs.PragmaRows.{pragma_at}
use Rattle.p10_program.proofs.pragmas.pragma_in.Goals as goal

pub returns-in-Some : goal.returns-in-Some
returns-in-Some c =
    c.pragma_of.ensures ∙ ap (pragma_of c.args.kind) c.function_at.ensures ∙ pragma_at c.args.kind c.in-Some.number (map plain_function c.args.functions.now) ∙ ap (λ n. pragma_in c.args.kind n (map plain_function c.args.functions.now)) (sym c.in-Some.is)
