use Rattle.std.proofs.Common.{◌<◌, length, map, sym, ◌∙◌, subst}
use Rattle.std.specs.List.{All}
use Rattle.std.proofs.lemmas.Result.{IfOk-weaker}
use Rattle.p10_base.specs.Words.{plain_word}
use Rattle.p10_pprules.proofs.Using.{used_same, used_within}
use Rattle.p10_pprules.proofs.recursion.used.Goals as goal

pub returns-clause-value : goal.returns-clause-value
returns-clause-value c = IfOk-weaker c.used_in.result _ _ (λ places e. e ∙ used_same c.args.names.now _ _ c.in_ok-parameters.ensures (map plain_word c.args.definition.now.body.now)) c.used_in.ensures

pub returns-clause-within : goal.returns-clause-within
returns-clause-within c =
    IfOk-weaker c.used_in.result _ _ (λ places e. subst (All (λ place. place < length c.args.names.now)) (sym e) (used_within c.args.names.now _ (map plain_word c.args.definition.now.body.now))) c.used_in.ensures
