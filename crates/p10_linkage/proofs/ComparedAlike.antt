-- Which structures stand for others changes nothing when types are compared.
use Rattle.std.proofs.Common.{◌≡◌, ℕ, zero, suc, ◌*◌, Bool, true, false, ◌&&◌, ◌||◌, if◌then◌else◌, List, [], ◌∷◌, ◌++◌, length, Option, Some, None, is_some, refl, sym, ◌∙◌, ap}
use Rattle.std.specs.Bool.{beq}
use Rattle.p10_core.specs.Types.{PlainType, PlainStructure}
use Rattle.p10_core.specs.Representing.{represented}
use Rattle.p10_linkage.specs.Linkage.{LinkedType, a_function, an_object, a_part_function, unknown_object, is_function, parameters_of, known_result, lists_agree, is_none_listed, Linked}
use Rattle.p10_linkage.specs.Compatible.{Pairs, is_settled, bodies_compatible, types_compatible, compatible_within, is_compatible, known_compatible, parameters_compatible, functions_compatible, objects_compatible, are_compatible}
use Rattle.p10_linkage.specs.Between.{linked_united, unless_compatible, is_other, agreed_with}
use Rattle.p10_linkage.specs.private.Meetings.{given}
use Rattle.p10_linkage.proofs.ByNumbers.{body_represented, as_many_represented, alike_represented}

same_within : (more : ℕ) (ss : List PlainStructure) (numbers : List ℕ) (m n : ℕ) (ps : Pairs) → compatible_within more (represented ss numbers) m n ps ≡ compatible_within more ss m n ps
same_within zero ss numbers m n ps = refl
same_within (suc more) ss numbers m n ps = λ i.
    if is_settled m n ps then Some ps
    else (if alike_represented ss numbers m n i
    then bodies_compatible (types_compatible (λ j k qs. same_within more ss numbers j k qs i)) (body_represented ss numbers m i) (body_represented ss numbers n i) (ps ++ (m, n) ∷ []) else None)

pub same_compatible : (ss : List PlainStructure) (numbers : List ℕ) (t u : PlainType) → is_compatible (represented ss numbers) t u ≡ is_compatible ss t u
same_compatible ss numbers t u =
    (λ i. is_some (types_compatible (compatible_within (as_many_represented ss numbers i * as_many_represented ss numbers i) (represented ss numbers)) t u []))
    ∙ (λ i. is_some (types_compatible (λ m n ps. same_within (length ss * length ss) ss numbers m n ps i) t u []))

-- ## Declarations

same_known : (ss : List PlainStructure) (numbers : List ℕ) (t u : Option PlainType) → known_compatible (represented ss numbers) t u ≡ known_compatible ss t u
same_known ss numbers (Some t) (Some u) = same_compatible ss numbers t u
same_known ss numbers (Some t) None = refl
same_known ss numbers None u = refl

same_parameters : (ss : List PlainStructure) (numbers : List ℕ) (ts us : List (Option PlainType)) → parameters_compatible (represented ss numbers) ts us ≡ parameters_compatible ss ts us
same_parameters ss numbers [] [] = refl
same_parameters ss numbers [] (u ∷ us) = refl
same_parameters ss numbers (t ∷ ts) [] = refl
same_parameters ss numbers (t ∷ ts) (u ∷ us) = λ i. same_known ss numbers t u i && same_parameters ss numbers ts us i

same_functions : (ss : List PlainStructure) (numbers : List ℕ) (before now : Linked) → functions_compatible (represented ss numbers) before now ≡ functions_compatible ss before now
same_functions ss numbers before now = λ i.
    lists_agree before.defines now.defines before.type now.type
    && (same_known ss numbers (known_result before.type) (known_result now.type) i
    && (is_none_listed before.type now.type || same_parameters ss numbers (parameters_of before.type) (parameters_of now.type) i))

same_objects : (ss : List PlainStructure) (numbers : List ℕ) (t u : LinkedType) → objects_compatible (represented ss numbers) t u ≡ objects_compatible ss t u
same_objects ss numbers (an_object t) (an_object u) = same_compatible ss numbers t u
same_objects ss numbers (an_object t) (a_function us r) = refl
same_objects ss numbers (an_object t) (a_part_function p) = refl
same_objects ss numbers (an_object t) unknown_object = refl
same_objects ss numbers (a_function ts r) u = refl
same_objects ss numbers (a_part_function p) u = refl
same_objects ss numbers unknown_object u = refl

pub same_declarations : (ss : List PlainStructure) (numbers : List ℕ) (before now : Linked) → are_compatible (represented ss numbers) before now ≡ are_compatible ss before now
same_declarations ss numbers before now = λ i.
    if is_function before.type && is_function now.type then same_functions ss numbers before now i
    else same_objects ss numbers before.type now.type i

-- two declarations that became one agree
pub made_one : (before now : Linked) (rs after : List PlainStructure) → given true after ≡ linked_united before now rs → given true after ≡ unless_compatible before now rs (linked_united before now rs)
made_one before now rs after e = ap (unless_compatible before now rs) e

-- two that are of different roots, and have the same mark
pub united_so : (before now : Linked) (ss rs : List PlainStructure) (one : Bool) → is_other before now ≡ true → beq before.sensor now.sensor ≡ true →
    given one rs ≡ linked_united before now ss → one ≡ true → agreed_with before now ss ≡ Some rs
united_so before now ss rs true other marked e holds =
    ap (λ b. if b then (if beq before.sensor now.sensor then unless_compatible before now ss (linked_united before now ss) else None) else Some ss) other
    ∙ ap (λ b. if b then unless_compatible before now ss (linked_united before now ss) else None) marked
    ∙ sym (made_one before now ss rs e)
united_so before now ss rs false other marked e holds = absurd cc

-- two that can't become one agree where they are compatible
pub compared_so : (before now : Linked) (ss other : List PlainStructure) (numbers : List ℕ) (agrees : Bool) → given false other ≡ linked_united before now (represented ss numbers) →
    agrees ≡ are_compatible ss before now → given agrees (represented ss numbers) ≡ unless_compatible before now (represented ss numbers) (linked_united before now (represented ss numbers))
compared_so before now ss other numbers agrees none is =
    let rs : List PlainStructure = represented ss numbers in
    given_if agrees rs
    ∙ ap (λ b. if b then Some rs else None) (is ∙ sym (same_declarations ss numbers before now))
    ∙ ap (unless_compatible before now rs) none
  where
    given_if : (b : Bool) (ss : List PlainStructure) → given b ss ≡ (if b then Some ss else None)
    given_if true ss = refl
    given_if false ss = refl
