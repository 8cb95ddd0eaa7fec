use Rattle.std.proofs.Common.{sym, ◌∙◌, ap, option_map, option_copied}
use Rattle.p10_core.specs.Types.{plain_type, plain_member}
use Rattle.p10_whole.specs.private.Surroundings.{surroundings_in}
use Rattle.p10_whole.proofs.Naming.{member_shown}
use Rattle.p10_whole.proofs.named.has_member.Goals as goal

pub returns-in-Some : goal.returns-in-Some
returns-in-Some c =
    member_shown (surroundings_in c.args.around.now) c.args.mark c.args.number c.args.place (plain_type c.args.t.now) (plain_member c.in-Some.entry.now) c.is_qualified_of.result
    (sym (ap (λ r. option_map plain_member (option_copied r)) c.in-Some.is) ∙ c.member_at.ensures) c.is_qualified_of.ensures
