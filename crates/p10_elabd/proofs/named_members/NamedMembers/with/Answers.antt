use Rattle.p10_elabd.proofs.Membership.{named_with}
use Rattle.p10_elabd.proofs.named_members.NamedMembers.with.Goals as goal

pub invariant_of-result : goal.invariant_of-result
invariant_of-result c = record { named = named_with c.args.self.names c.add.new.self c.args.self.list.items c.push.new.self.items c.args.member c.args.self.named c.in_ok-add.ensures.ok c.in_ok-push.ensures.items }
