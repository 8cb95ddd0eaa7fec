use Rattle.std.proofs.Common.{map, ap}
use Rattle.p10_syn.specs.Trees.{specifier_row, member_row}
use Rattle.p10_syn.specs.Built.{specifier_of, member_of}
use Rattle.p10_elabs.specs.Addresses.{constants_of, constants_in_members}
use Rattle.p10_elabs.proofs.Enumerated.{of_member, of_structure, of_enumeration}
use Rattle.p10_heads.proofs.ListRows.{cut_list, more_put}
use Rattle.p10_elabs.proofs.constants.+constants.Goals as goal

pub put_constants_in-returns-in_ok-put_members-in-Structure : goal.put_constants_in-returns-in_ok-put_members-in-Structure
put_constants_in-returns-in_ok-put_members-in-Structure t c =
    of_structure c.args.spec.now c.in-Structure.structure c.deref.result.now _ _ c.in-Structure.is c.deref.ensures.value c.in_ok-put_members-in-Structure.ensures

pub put_constants_in-returns-in_ok-put_enumerators-in-Enumeration : goal.put_constants_in-returns-in_ok-put_enumerators-in-Enumeration
put_constants_in-returns-in_ok-put_enumerators-in-Enumeration t c =
    of_enumeration c.args.spec.now c.in-Enumeration.enumeration c.deref-in-Enumeration.result.now _ _ c.in-Enumeration.is c.deref-in-Enumeration.ensures.value c.in_ok-put_enumerators-in-Enumeration.ensures

pub put_constants-loop-spec-preserved : goal.put_constants-loop-spec-preserved
put_constants-loop-spec-preserved t c =
    more_put _ _ _ _ _ _ c.in_ok-put_constants_in.ensures
    (ap (λ xs. constants_of (specifier_row (map specifier_of xs))) (cut_list c.args.specs.now c.loop-spec.spec-index c.spec-item.result c.loop-spec-test.true c.spec-item.is))
    c.loop-spec.invariant

pub put_members-loop-member-preserved : goal.put_members-loop-member-preserved
put_members-loop-member-preserved t c =
    more_put _ _ _ _ _ _ (of_member c.member-item.result c.deref.result.now _ _ c.deref.ensures.value c.in_ok-put_constants.ensures)
    (ap (λ xs. constants_in_members (member_row (map member_of xs))) (cut_list c.args.members.now c.loop-member.member-index c.member-item.result c.loop-member-test.true c.member-item.is))
    c.loop-member.invariant
