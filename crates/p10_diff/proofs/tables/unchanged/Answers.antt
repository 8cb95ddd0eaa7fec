use Rattle.p10_core.specs.Views.{plain_statement}
use Rattle.p10_meaning.specs.Variables.{may_change}
use Rattle.p10_diff.proofs.Tabled.{unmarked_listed}
use Rattle.p10_diff.proofs.tables.unchanged.Goals as goal

pub returns : goal.returns
returns c = unmarked_listed (λ n. may_change n (plain_statement c.args.c.now.by.now)) c.args.table.now c.in_ok-left.left.items c.in_ok-left.ensures
