-- The walk over rows of declarations, one turn at a time.
use Rattle.std.specs.Prelude.{◌≡◌, ℕ, ◌+◌, ℤ, Bool, List, Option}
use Rattle.std.proofs.Common.{ap, sym, ◌∙◌}
use Rattle.p10_base.specs.declared.at.At.{At}
use Rattle.p10_syn.specs.Trees.{Specifier, Specifiers, MoreSpecifiers, Members, MemberDeclaration, MoreMembers, Fields, Field, MoreFields, Enumerators, Enumerator, MoreEnumerators, Parameters, Parameter, MoreParameters}
use Rattle.p10_core.specs.Types.{PlainType, PlainMember}
use Rattle.p10_elabx.specs.First.{only_first}
use Rattle.p10_elabd.specs.declared.site.Site.{Site}
use Rattle.p10_elabd.specs.declared.site.Allowed.{Allowed}
use Rattle.p10_elabd.specs.Standing.{PlainStanding, Passed}
use Rattle.p10_elabd.specs.Declaring.{both_named, stored_by, specifiers_passed, specifier_passed, members_passed, member_passed, fields_passed, field_passed, enumerators_passed, one_enumerator_passed, Listing, parameters_passed, one_parameter_passed}

-- one specifier
pub step_specifiers : (site : Site) (allowed : Allowed) (alone stored next : Bool) (p : Passed (Option PlainType)) (x : Specifier At) (all rest : Specifiers At)
    (one named : Option (Option PlainType)) (after : PlainStanding) → all ≡ MoreSpecifiers x rest →
    record { made = one; after = after } ≡ specifier_passed only_first site allowed alone stored p.after x → next ≡ stored_by stored x → named ≡ both_named p.made one →
    specifiers_passed only_first site allowed alone stored p all ≡ specifiers_passed only_first site allowed alone next (record { made = named; after = after }) rest
step_specifiers site allowed alone stored next p x all rest one named after cut eq es en =
    ap (specifiers_passed only_first site allowed alone stored p) cut
    ∙ ap (λ (q : Passed (Option PlainType)). specifiers_passed only_first site allowed alone (stored_by stored x) (record { made = both_named p.made q.made; after = q.after }) rest) (sym eq)
    ∙ ap (λ b. specifiers_passed only_first site allowed alone b (record { made = both_named p.made one; after = after }) rest) (sym es)
    ∙ ap (λ n. specifiers_passed only_first site allowed alone next (record { made = n; after = after }) rest) (sym en)

-- one declaration of members
pub step_members : (p q : Passed (List PlainMember)) (x : MemberDeclaration At) (all rest : Members At) → all ≡ MoreMembers x rest → q ≡ member_passed only_first p x →
    members_passed only_first p all ≡ members_passed only_first q rest
step_members p q x all rest cut e = ap (members_passed only_first p) cut ∙ ap (λ r. members_passed only_first r rest) (sym e)

-- one member
pub step_fields : (t : Option PlainType) (p q : Passed (List PlainMember)) (x : Field At) (all rest : Fields At) → all ≡ MoreFields x rest → q ≡ field_passed only_first t p x →
    fields_passed only_first t p all ≡ fields_passed only_first t q rest
step_fields t p q x all rest cut e = ap (fields_passed only_first t p) cut ∙ ap (λ r. fields_passed only_first t r rest) (sym e)

-- one constant
pub step_enumerators : (p q : Passed ℤ) (x : Enumerator At) (all rest : Enumerators At) → all ≡ MoreEnumerators x rest → q ≡ one_enumerator_passed only_first p x →
    enumerators_passed only_first p all ≡ enumerators_passed only_first q rest
step_enumerators p q x all rest cut e = ap (enumerators_passed only_first p) cut ∙ ap (λ r. enumerators_passed only_first r rest) (sym e)

-- one parameter
pub step_parameters : (i n : ℕ) (p q : Listing) (x : Parameter At) (all rest : Parameters At) → all ≡ MoreParameters x rest →
    q ≡ one_parameter_passed only_first i p x → n ≡ i + 1 → parameters_passed only_first i p all ≡ parameters_passed only_first n q rest
step_parameters i n p q x all rest cut e en =
    ap (parameters_passed only_first i p) cut ∙ ap (λ r. parameters_passed only_first (i + 1) r rest) (sym e) ∙ ap (λ k. parameters_passed only_first k q rest) (sym en)
