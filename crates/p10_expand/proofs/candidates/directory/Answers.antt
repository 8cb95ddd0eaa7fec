use Rattle.std.proofs.Common.{arith, ◌∙◌}
use Rattle.std.proofs.lemmas.Str.Pattern.{rfind_char}
use Rattle.p10_expand.proofs.Naming.{directory_to, no_directory}
use Rattle.p10_expand.proofs.candidates.directory.Goals as goal

pub returns-in-Some : goal.returns-in-Some
returns-in-Some c =
    let found = rfind_char 47 c.args.name.now c.rfind.result c.rfind.ensures.cases (omega arith) in
    let last = rw c.in-Some.is at found in
    c.range.ensures.value ∙ directory_to c.args.name.now c.in-Some.last last.0 last.1 last.2

pub returns-in-None : goal.returns-in-None
returns-in-None c =
    let found = rfind_char 47 c.args.name.now c.rfind.result c.rfind.ensures.cases (omega arith) in
    no_directory c.args.name.now (rw c.in-None.is at found)
