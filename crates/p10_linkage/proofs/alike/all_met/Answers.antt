use Rattle.std.proofs.Common.{map, sym, ◌∙◌}
use Rattle.std.proofs.lemmas.List.{length-map}
use Rattle.p10_core.specs.Types.{plain_type}
use Rattle.p10_linkage.proofs.Sameness.{all_apart}
use Rattle.p10_linkage.proofs.alike.all_met.Goals as goal

pub returns-then-these-those : goal.returns-then-these-those
returns-then-these-those c =
    sym (all_apart c.args.stands.now (map plain_type c.args.these.now) (map plain_type c.args.those.now)
    (λ e. c.if-these-those.true (sym (length-map c.args.these.now plain_type) ∙ e ∙ length-map c.args.those.now plain_type)))
