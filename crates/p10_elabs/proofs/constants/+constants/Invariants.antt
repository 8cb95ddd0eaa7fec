use Rattle.std.proofs.Common.{◌≡◌, ◌++◌, map, drop}
use Rattle.p10_syn.specs.Trees.{specifier_row, member_row}
use Rattle.p10_syn.specs.Built.{identifier_of, specifier_of, member_of}
use Rattle.p10_elabs.specs.Addresses.{constants_of, constants_in_members}
use Rattle.p10_elabs.proofs.constants.+constants.Given as goal

abbrev pub invariant-put_constants-loop-spec : goal.invariant-put_constants-loop-spec
invariant-put_constants-loop-spec l =
    map identifier_of l.into.items ++ constants_of (specifier_row (map specifier_of (drop l.spec-index l.specs)))
    ≡ map identifier_of l.fn.into.items ++ constants_of (specifier_row (map specifier_of l.specs))

abbrev pub invariant-put_members-loop-member : goal.invariant-put_members-loop-member
invariant-put_members-loop-member l =
    map identifier_of l.into.items ++ constants_in_members (member_row (map member_of (drop l.member-index l.members)))
    ≡ map identifier_of l.fn.into.items ++ constants_in_members (member_row (map member_of l.members))
