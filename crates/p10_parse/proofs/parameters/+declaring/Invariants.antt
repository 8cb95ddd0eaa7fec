use Rattle.std.proofs.Common.{◌≡◌, ◌≤◌, map, length}
use Rattle.p10_syn.specs.Trees.{specifier_row, member_row}
use Rattle.p10_syn.specs.Declaring.{after_specifiers, after_members}
use Rattle.p10_syn.specs.Built.{bare_specifier_of, bare_member_of}
use Rattle.p10_pexpr.proofs.Sizes.{specifiers_size, specifier_size, members_size}
use Rattle.p10_parse.proofs.parameters.+declaring.Given as goal

-- each goes to a smaller part of the specifiers

abbrev pub decreases-declare_specifiers : goal.decreases-declare_specifiers
decreases-declare_specifiers l = specifiers_size (specifier_row (map bare_specifier_of l.specs.now))

abbrev pub decreases-declare_specifier : goal.decreases-declare_specifier
decreases-declare_specifier l = specifier_size (bare_specifier_of l.spec.now)

abbrev pub decreases-declare_members : goal.decreases-declare_members
decreases-declare_members l = members_size (member_row (map bare_member_of l.members.now))

abbrev pub invariant-declare_specifiers-loop-rest : goal.invariant-declare_specifiers-loop-rest
invariant-declare_specifiers-loop-rest l = record {
  smaller : specifiers_size (specifier_row (map bare_specifier_of l.rest)) ≤ specifiers_size (specifier_row (map bare_specifier_of l.specs));
  same : after_specifiers l.scope (specifier_row (map bare_specifier_of l.rest)) ≡ after_specifiers l.fn.scope (specifier_row (map bare_specifier_of l.specs));
}

abbrev pub decreases-declare_specifiers-loop-rest : goal.decreases-declare_specifiers-loop-rest
decreases-declare_specifiers-loop-rest l = length l.rest

abbrev pub invariant-declare_members-loop-rest : goal.invariant-declare_members-loop-rest
invariant-declare_members-loop-rest l = record {
  smaller : members_size (member_row (map bare_member_of l.rest)) ≤ members_size (member_row (map bare_member_of l.members));
  same : after_members l.scope (member_row (map bare_member_of l.rest)) ≡ after_members l.fn.scope (member_row (map bare_member_of l.members));
}

abbrev pub decreases-declare_members-loop-rest : goal.decreases-declare_members-loop-rest
decreases-declare_members-loop-rest l = length l.rest
