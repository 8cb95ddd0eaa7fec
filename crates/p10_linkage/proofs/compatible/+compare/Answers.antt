use Rattle.std.proofs.Common.{◌≡◌, ◌∙◌, ◌-◌, true, false, List, map, Option, Some, None, option_map, option_copied, slice_get, ap, sym}
use Rattle.std.proofs.lemmas.List.{length-map}
use Rattle.p10_core.specs.Types.{PlainType, PlainStructure, plain_type, plain_body, plain_member, plain_structure, body_of}
use Rattle.p10_core.specs.Views.{plain_types}
use Rattle.p10_linkage.specs.Uniting.{tagged_alike}
use Rattle.p10_linkage.specs.Compatible.{Pairs, is_settled, members_compatible, bodies_compatible, types_compatible, compatible_within}
use Rattle.p10_linkage.specs.private.Comparing.{met_so}
use Rattle.p10_linkage.proofs.Comparisons.{types_compared, within_settled, within_none, within_new, none_alike, members_uneven, second_lacks, first_lacks}
use Rattle.p10_linkage.proofs.compatible.+compare.Goals as goal

pub compare_types-returns-in-Never : goal.compare_types-returns-in-Never
compare_types-returns-in-Never t c =
    let compare = compatible_within c.args.more (plain_types c.args.types.now) in
    sym (types_compared compare (plain_type c.args.t.now) (plain_type c.args.u.now) c.args.pairs.now.items
    ∙ ap (λ m. met_so compare m c.args.pairs.now.items) (sym c.meeting_of.ensures ∙ c.in-Never.is))

pub compare_types-returns-in-Always : goal.compare_types-returns-in-Always
compare_types-returns-in-Always t c =
    let compare = compatible_within c.args.more (plain_types c.args.types.now) in
    sym (types_compared compare (plain_type c.args.t.now) (plain_type c.args.u.now) c.args.pairs.now.items
    ∙ ap (λ m. met_so compare m c.args.pairs.now.items) (sym c.meeting_of.ensures ∙ c.in-Always.is))

pub compare_types-returns-in_ok-alike-in-Where : goal.compare_types-returns-in_ok-alike-in-Where
compare_types-returns-in_ok-alike-in-Where t c =
    let compare = compatible_within c.args.more (plain_types c.args.types.now) in
    c.in_ok-alike-in-Where.ensures
    ∙ sym (types_compared compare (plain_type c.args.t.now) (plain_type c.args.u.now) c.args.pairs.now.items
    ∙ ap (λ m. met_so compare m c.args.pairs.now.items) (sym c.meeting_of.ensures ∙ c.in-Where.is))

pub compare_structures-returns-then-is_settled : goal.compare_structures-returns-then-is_settled
compare_structures-returns-then-is_settled t c =
    sym (within_settled c.args.more c.args.m c.args.n (plain_types c.args.types.now) c.args.pairs.now.items
    (ap (is_settled c.args.m c.args.n) (sym c.as_slice.ensures.value) ∙ sym c.is_settled.ensures ∙ c.if-is_settled.true))

pub compare_structures-returns-then-more-eq0 : goal.compare_structures-returns-then-more-eq0
compare_structures-returns-then-more-eq0 t c =
    let new = ap (is_settled c.args.m c.args.n) (sym c.as_slice.ensures.value) ∙ sym c.is_settled.ensures ∙ c.if-is_settled.false in
    sym (ap (λ k. compatible_within k (plain_types c.args.types.now) c.args.m c.args.n c.args.pairs.now.items) c.if-more-eq0.true
    ∙ within_none c.args.m c.args.n (plain_types c.args.types.now) c.args.pairs.now.items new)

pub compare_structures-returns-then-not-same_tags : goal.compare_structures-returns-then-not-same_tags
compare_structures-returns-then-not-same_tags t c =
    let ss : List PlainStructure = plain_types c.args.types.now in
    let new = ap (is_settled c.args.m c.args.n) (sym c.as_slice.ensures.value) ∙ sym c.is_settled.ensures ∙ c.if-is_settled.false in
    let one : slice_get ss c.args.m ≡ Some (plain_structure c.in-Some-Some.one.now) = sym c.structure.ensures ∙ ap (λ r. option_map plain_structure (option_copied r)) c.in-Some-Some.is-0 in
    let other : slice_get ss c.args.n ≡ Some (plain_structure c.in-Some-Some.other.now) = sym c.structure-2.ensures ∙ ap (λ r. option_map plain_structure (option_copied r)) c.in-Some-Some.is-1 in
    sym (within_new c.args.more c.args.m c.args.n ss c.args.pairs.now.items false c.if-more-eq0.false new
    ((λ i. tagged_alike (one i) (other i)) ∙ sym c.same_tags.ensures ∙ c.if-not-same_tags.true))

pub compare_structures-returns-in_ok-alike-in-Some-Some : goal.compare_structures-returns-in_ok-alike-in-Some-Some
compare_structures-returns-in_ok-alike-in-Some-Some t c =
    let ss : List PlainStructure = plain_types c.args.types.now in
    let new = ap (is_settled c.args.m c.args.n) (sym c.as_slice.ensures.value) ∙ sym c.is_settled.ensures ∙ c.if-is_settled.false in
    let one : slice_get ss c.args.m ≡ Some (plain_structure c.in-Some-Some.one.now) = sym c.structure.ensures ∙ ap (λ r. option_map plain_structure (option_copied r)) c.in-Some-Some.is-0 in
    let other : slice_get ss c.args.n ≡ Some (plain_structure c.in-Some-Some.other.now) = sym c.structure-2.ensures ∙ ap (λ r. option_map plain_structure (option_copied r)) c.in-Some-Some.is-1 in
    c.in_ok-alike-in-Some-Some.ensures
    ∙ ap (bodies_compatible (types_compatible (compatible_within (c.args.more - 1) ss)) (body_of ss c.args.m) (body_of ss c.args.n)) c.in_ok-push-in-Some-Some.ensures.items
    ∙ sym (within_new c.args.more c.args.m c.args.n ss c.args.pairs.now.items true c.if-more-eq0.false new
    ((λ i. tagged_alike (one i) (other i)) ∙ sym c.same_tags.ensures ∙ c.if-not-same_tags.false))

pub compare_structures-returns-in_default : goal.compare_structures-returns-in_default
compare_structures-returns-in_default t c =
    let ss : List PlainStructure = plain_types c.args.types.now in
    let new = ap (is_settled c.args.m c.args.n) (sym c.as_slice.ensures.value) ∙ sym c.is_settled.ensures ∙ c.if-is_settled.false in
    sym (within_new c.args.more c.args.m c.args.n ss c.args.pairs.now.items false c.if-more-eq0.false new
    (none_alike (slice_get ss c.args.m) (slice_get ss c.args.n) (sym c.structure-2.ensures ∙ ap (λ r. option_map plain_structure (option_copied r)) c.in_default.is-1)))

pub compare_structures-returns-in_default-2 : goal.compare_structures-returns-in_default-2
compare_structures-returns-in_default-2 t c =
    let ss : List PlainStructure = plain_types c.args.types.now in
    let new = ap (is_settled c.args.m c.args.n) (sym c.as_slice.ensures.value) ∙ sym c.is_settled.ensures ∙ c.if-is_settled.false in
    let one : slice_get ss c.args.m ≡ None = sym c.structure.ensures ∙ ap (λ r. option_map plain_structure (option_copied r)) c.in_default.is-0 in
    sym (within_new c.args.more c.args.m c.args.n ss c.args.pairs.now.items false c.if-more-eq0.false new
    (ap (λ o. tagged_alike o (slice_get ss c.args.n)) one))

pub compare_bodies-returns-in_default : goal.compare_bodies-returns-in_default
compare_bodies-returns-in_default t c =
    let ss : List PlainStructure = plain_types c.args.types.now in
    sym (second_lacks (types_compatible (compatible_within c.args.more ss)) (body_of ss c.args.m) (body_of ss c.args.n) c.args.pairs.now.items
    (sym c.body-2.ensures ∙ ap (λ r. option_map plain_body (option_copied r)) c.in_default.is-1))

pub compare_bodies-returns-in_default-2 : goal.compare_bodies-returns-in_default-2
compare_bodies-returns-in_default-2 t c =
    let ss : List PlainStructure = plain_types c.args.types.now in
    sym (first_lacks (types_compatible (compatible_within c.args.more ss)) (body_of ss c.args.m) (body_of ss c.args.n) c.args.pairs.now.items
    (sym c.body.ensures ∙ ap (λ r. option_map plain_body (option_copied r)) c.in_default.is-0))

pub compare_bodies-returns-in_ok-alike-in-Some-Some : goal.compare_bodies-returns-in_ok-alike-in-Some-Some
compare_bodies-returns-in_ok-alike-in-Some-Some t c =
    let ss : List PlainStructure = plain_types c.args.types.now in
    let compare : PlainType → PlainType → Pairs → Option Pairs = types_compatible (compatible_within c.args.more ss) in
    let one : body_of ss c.args.m ≡ Some (plain_body c.in-Some-Some.one.now) = sym c.body.ensures ∙ ap (λ r. option_map plain_body (option_copied r)) c.in-Some-Some.is-0 in
    let other : body_of ss c.args.n ≡ Some (plain_body c.in-Some-Some.other.now) = sym c.body-2.ensures ∙ ap (λ r. option_map plain_body (option_copied r)) c.in-Some-Some.is-1 in
    c.in_ok-alike-in-Some-Some.ensures
    ∙ (λ i. members_compatible compare (map plain_member (c.as_slice.ensures i)) (map plain_member (c.as_slice-in-Some-Some.ensures i)) c.args.pairs.now.items)
    ∙ sym (λ i. bodies_compatible compare (one i) (other i) c.args.pairs.now.items)

pub compare_members-returns-then-members-others : goal.compare_members-returns-then-members-others
compare_members-returns-then-members-others t c =
    sym (members_uneven (types_compatible (compatible_within c.args.more (plain_types c.args.types.now))) (map plain_member c.args.members.now) (map plain_member c.args.others.now) c.args.pairs.now.items
    (λ e. c.if-members-others.true (sym (length-map c.args.members.now plain_member) ∙ e ∙ length-map c.args.others.now plain_member)))
