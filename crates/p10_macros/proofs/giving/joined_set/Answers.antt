use Rattle.std.proofs.Common.{arith}
use Rattle.p10_macros.proofs.Results.{if_ok_so}
use Rattle.p10_macros.proofs.Uniting.{joined_none, joined_same, joined_both}
use Rattle.p10_macros.proofs.giving.joined_set.Goals as goal

pub returns-then-own-eq0-clause-joined : goal.returns-then-own-eq0-clause-joined
returns-then-own-eq0-clause-joined c = λ macro' name' known less is. joined_none _ _ c.args.own macro' name' (omega arith) is

pub returns-then-own-name-clause-joined : goal.returns-then-own-name-clause-joined
returns-then-own-name-clause-joined c = λ macro' name' known less is. joined_same _ c.args.name _ c.args.own macro' name' (omega arith) known is

pub returns-clause-joined : goal.returns-clause-joined
returns-clause-joined c =
    if_ok_so c.unite.result c.unite.ensures.both (λ all has. λ macro' name' known less is. joined_both _ _ _ _ all macro' name' is (has less is.known))
