use Rattle.std.proofs.Common.{◌∙◌, ap, sym, map, take}
use Rattle.std.proofs.lemmas.List.{take-map}
use Rattle.p10_core.specs.Views.{plain_variable}
use Rattle.p10_userules.proofs.rules.parameters_of.Goals as goal

pub returns-then-count-all : goal.returns-then-count-all
returns-then-count-all c = ap (λ l. map plain_variable (take c.args.f.now.params l)) c.as_slice-all.ensures ∙ sym (take-map plain_variable c.args.f.now.params c.args.f.now.vars)
