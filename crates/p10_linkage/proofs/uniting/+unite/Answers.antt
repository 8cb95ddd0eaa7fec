use Rattle.std.proofs.Common.{◌≡◌, false, true, List, map, Option, Some, None, option_map, option_copied, is_some, slice_get, if◌then◌else◌, sym, ◌∙◌, ap}
use Rattle.std.proofs.lemmas.List.{length-map}
use Rattle.p10_core.specs.Types.{PlainType, PlainStructure, plain_type, plain_body, plain_member, plain_structure, body_of, representative_of}
use Rattle.p10_core.specs.Views.{plain_types}
use Rattle.p10_core.specs.Representing.{represented}
use Rattle.p10_linkage.specs.Uniting.{tagged_alike, stands_for_both, types_united, members_united, bodies_united, united_within}
use Rattle.p10_linkage.specs.private.Meetings.{met, slice_or}
use Rattle.p10_linkage.proofs.ByNumbers.{types_met, stands_by_number, members_apart, both_represented, some_mapped, second_lacks, first_lacks, none_alike, within_apart}
use Rattle.p10_linkage.proofs.uniting.+unite.Goals as goal

pub unite_types-returns-in-Never-clause-united : goal.unite_types-returns-in-Never-clause-united
unite_types-returns-in-Never-clause-united t c =
    sym (types_met (united_within c.args.pairs) (plain_type c.args.t.now) (plain_type c.args.u.now) (represented (plain_types c.args.types.now) c.args.stands.now.numbers.items)
    ∙ ap (λ m. met (united_within c.args.pairs) m (represented (plain_types c.args.types.now) c.args.stands.now.numbers.items)) (sym c.meeting_of.ensures ∙ c.in-Never.is))

pub unite_types-returns-in-Always-clause-united : goal.unite_types-returns-in-Always-clause-united
unite_types-returns-in-Always-clause-united t c =
    sym (types_met (united_within c.args.pairs) (plain_type c.args.t.now) (plain_type c.args.u.now) (represented (plain_types c.args.types.now) c.args.stands.now.numbers.items)
    ∙ ap (λ m. met (united_within c.args.pairs) m (represented (plain_types c.args.types.now) c.args.stands.now.numbers.items)) (sym c.meeting_of.ensures ∙ c.in-Always.is))

pub unite_types-returns-in-Where-clause-united : goal.unite_types-returns-in-Where-clause-united
unite_types-returns-in-Where-clause-united t c =
    let ss : List PlainStructure = plain_types c.args.types.now in
    let rs : List PlainStructure = represented ss c.args.stands.now.numbers.items in
    let one : c.standing-one.result ≡ representative_of rs c.in-Where.m =
    c.standing-one.ensures ∙ ap (λ numbers. slice_or numbers c.in-Where.m) c.deref.ensures.value ∙ sym (stands_by_number ss c.args.stands.now.numbers.items c.in-Where.m c.requires.as_many) in
    let other : c.standing-other.result ≡ representative_of rs c.in-Where.n =
    c.standing-other.ensures ∙ ap (λ numbers. slice_or numbers c.in-Where.n) c.deref-in-Where.ensures.value ∙ sym (stands_by_number ss c.args.stands.now.numbers.items c.in-Where.n c.requires.as_many) in
    c.unite_structures.ensures.united
    ∙ (λ i. united_within c.args.pairs (one i) (other i) rs)
    ∙ sym (types_met (united_within c.args.pairs) (plain_type c.args.t.now) (plain_type c.args.u.now) rs
    ∙ ap (λ m. met (united_within c.args.pairs) m rs) (sym c.meeting_of.ensures ∙ c.in-Where.is))

pub unite_structures-returns-then-not-same_tags-clause-united : goal.unite_structures-returns-then-not-same_tags-clause-united
unite_structures-returns-then-not-same_tags-clause-united t c =
    let ss : List PlainStructure = plain_types c.args.types.now in
    let one : slice_get ss c.args.m ≡ Some (plain_structure c.in-Some-Some.one.now) = sym c.structure.ensures ∙ ap (λ r. option_map plain_structure (option_copied r)) c.in-Some-Some.is-0 in
    let other : slice_get ss c.args.n ≡ Some (plain_structure c.in-Some-Some.other.now) = sym c.structure-2.ensures ∙ ap (λ r. option_map plain_structure (option_copied r)) c.in-Some-Some.is-1 in
    sym (within_apart c.args.pairs c.args.m c.args.n ss c.args.stands.now.numbers.items false c.if-pairs-eq0.false c.if-m-n.false
    ((λ i. tagged_alike (one i) (other i)) ∙ sym c.same_tags.ensures ∙ c.if-not-same_tags.true))

pub unite_structures-returns-else-not-same_tags-clause-united : goal.unite_structures-returns-else-not-same_tags-clause-united
unite_structures-returns-else-not-same_tags-clause-united t c =
    let ss : List PlainStructure = plain_types c.args.types.now in
    let one : slice_get ss c.args.m ≡ Some (plain_structure c.in-Some-Some.one.now) = sym c.structure.ensures ∙ ap (λ r. option_map plain_structure (option_copied r)) c.in-Some-Some.is-0 in
    let other : slice_get ss c.args.n ≡ Some (plain_structure c.in-Some-Some.other.now) = sym c.structure-2.ensures ∙ ap (λ r. option_map plain_structure (option_copied r)) c.in-Some-Some.is-1 in
    c.unite_bodies.ensures.united
    ∙ sym (within_apart c.args.pairs c.args.m c.args.n ss c.args.stands.now.numbers.items true c.if-pairs-eq0.false c.if-m-n.false
    ((λ i. tagged_alike (one i) (other i)) ∙ sym c.same_tags.ensures ∙ c.if-not-same_tags.false))

pub unite_structures-returns-in_default-clause-united : goal.unite_structures-returns-in_default-clause-united
unite_structures-returns-in_default-clause-united t c =
    let ss : List PlainStructure = plain_types c.args.types.now in
    sym (within_apart c.args.pairs c.args.m c.args.n ss c.args.stands.now.numbers.items false c.if-pairs-eq0.false c.if-m-n.false
    (none_alike (slice_get ss c.args.m) (slice_get ss c.args.n) (sym c.structure-2.ensures ∙ ap (λ r. option_map plain_structure (option_copied r)) c.in_default.is-1)))

pub unite_structures-returns-in_default-2-clause-united : goal.unite_structures-returns-in_default-2-clause-united
unite_structures-returns-in_default-2-clause-united t c =
    let ss : List PlainStructure = plain_types c.args.types.now in
    let one : slice_get ss c.args.m ≡ None = sym c.structure.ensures ∙ ap (λ r. option_map plain_structure (option_copied r)) c.in_default.is-0 in
    sym (within_apart c.args.pairs c.args.m c.args.n ss c.args.stands.now.numbers.items false c.if-pairs-eq0.false c.if-m-n.false
    (ap (λ o. tagged_alike o (slice_get ss c.args.n)) one))

pub unite_members-returns-then-members-others-clause-united : goal.unite_members-returns-then-members-others-clause-united
unite_members-returns-then-members-others-clause-united t c =
    sym (members_apart (types_united (united_within c.args.pairs)) (map plain_member c.args.members.now) (map plain_member c.args.others.now) (represented (plain_types c.args.types.now) c.args.stands.now.numbers.items)
    (λ e. c.if-members-others.true (sym (length-map c.args.members.now plain_member) ∙ e ∙ length-map c.args.others.now plain_member)))

pub unite_bodies-returns-in_default-clause-united : goal.unite_bodies-returns-in_default-clause-united
unite_bodies-returns-in_default-clause-united t c =
    let ss : List PlainStructure = plain_types c.args.types.now in
    ap Some (both_represented ss c.args.stands.now.numbers.items c.stand_for_both.new.stands.numbers.items c.args.m c.args.n c.is_some.result c.requires.as_many
    (c.is_some.ensures ∙ sym (some_mapped _ c.body-one.result) ∙ sym (some_mapped plain_body (option_copied c.body-one.result)) ∙ ap is_some c.body-one.ensures)
    c.stand_for_both.ensures)
    ∙ sym (second_lacks (types_united (united_within c.args.pairs)) (body_of ss c.args.m) (body_of ss c.args.n) (stands_for_both (represented ss c.args.stands.now.numbers.items) c.args.m c.args.n)
    (sym c.body-other.ensures ∙ ap (λ r. option_map plain_body (option_copied r)) c.in_default.is-1))

pub unite_bodies-returns-in_default-2-clause-united : goal.unite_bodies-returns-in_default-2-clause-united
unite_bodies-returns-in_default-2-clause-united t c =
    let ss : List PlainStructure = plain_types c.args.types.now in
    ap Some (both_represented ss c.args.stands.now.numbers.items c.stand_for_both.new.stands.numbers.items c.args.m c.args.n c.is_some.result c.requires.as_many
    (c.is_some.ensures ∙ sym (some_mapped _ c.body-one.result) ∙ sym (some_mapped plain_body (option_copied c.body-one.result)) ∙ ap is_some c.body-one.ensures)
    c.stand_for_both.ensures)
    ∙ sym (first_lacks (types_united (united_within c.args.pairs)) (body_of ss c.args.m) (body_of ss c.args.n) (stands_for_both (represented ss c.args.stands.now.numbers.items) c.args.m c.args.n)
    (sym c.body-one.ensures ∙ ap (λ r. option_map plain_body (option_copied r)) c.in_default.is-0))

pub unite_bodies-returns-in-Some-Some-clause-united : goal.unite_bodies-returns-in-Some-Some-clause-united
unite_bodies-returns-in-Some-Some-clause-united t c =
    let ss : List PlainStructure = plain_types c.args.types.now in
    let unite : PlainType → PlainType → List PlainStructure → Option (List PlainStructure) = types_united (united_within c.args.pairs) in
    let both = both_represented ss c.args.stands.now.numbers.items c.stand_for_both.new.stands.numbers.items c.args.m c.args.n c.is_some.result c.requires.as_many
    (c.is_some.ensures ∙ sym (some_mapped _ c.body-one.result) ∙ sym (some_mapped plain_body (option_copied c.body-one.result)) ∙ ap is_some c.body-one.ensures)
    c.stand_for_both.ensures in
    let one : body_of ss c.args.m ≡ Some (plain_body c.in-Some-Some.one.now) = sym c.body-one.ensures ∙ ap (λ r. option_map plain_body (option_copied r)) c.in-Some-Some.is-0 in
    let other : body_of ss c.args.n ≡ Some (plain_body c.in-Some-Some.other.now) = sym c.body-other.ensures ∙ ap (λ r. option_map plain_body (option_copied r)) c.in-Some-Some.is-1 in
    c.unite_members.ensures.united
    ∙ (λ i. members_united unite (map plain_member (c.as_slice.ensures i)) (map plain_member (c.as_slice-in-Some-Some.ensures i)) (both i))
    ∙ sym (λ i. bodies_united unite (one i) (other i) (stands_for_both (represented ss c.args.stands.now.numbers.items) c.args.m c.args.n))
