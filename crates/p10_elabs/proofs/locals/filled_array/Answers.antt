use Rattle.std.proofs.Common.{◌∙◌, sym}
use Rattle.std.specs.Prelude.{option_map}
use Rattle.p10_syn.specs.Built.{identifier_of}
use Rattle.p10_syn.specs.BuiltStatements.{initializer_of}
use Rattle.p10_core.specs.Types.{plain_type}
use Rattle.p10_elabx.specs.First.{only_first}
use Rattle.p10_elabd.specs.Views.{plain_standing, told}
use Rattle.p10_elabs.proofs.FilledArrays.{filled_by}
use Rattle.p10_elabs.proofs.locals.filled_array.Goals as goal

pub returns : goal.returns
returns c =
    filled_by only_first (identifier_of c.args.name) c.args.brackets (plain_type c.args.element) _ (initializer_of c.args.i.now) _ c.in-Some.count (plain_standing c.args.standing.now)
    (told (option_map plain_type c.in_ok-whole-in-Some.whole) c.counted_array.new.standing) _
    (sym c.in_ok-given.ensures ∙ c.in-Some.is) c.in_ok-kept-in-Some.ensures c.in_ok-whole-in-Some.ensures c.in_ok-made-in-Some.ensures
