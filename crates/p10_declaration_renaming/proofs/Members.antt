-- Members of structures and constants of enumerations are the same in both programs.
use Rattle.std.proofs.Common.{ap, subst, ℕ, ℤ, ◌+ℤ◌, true, List, [], ◌∷◌, ◌++◌, Option, Some, None}
use Rattle.std.specs.Prelude.{pos}
use Rattle.p10_base.specs.Words.{Text}
use Rattle.p10_base.specs.declared.at.At.{At}
use Rattle.p10_base.specs.declared.codes.SubsetCode.TheVariants as subset
use Rattle.p10_int.specs.declared.types.IntType.TheVariants.{Int}
use Rattle.p10_int.specs.Types.{holds}
use Rattle.p10_syn.specs.Trees.{Identifier, Optional, Absent, Present}
use Rattle.p10_core.specs.Types.{PlainType, PlainMember}
use Rattle.p10_core.specs.Rows.{is_complete}
use Rattle.p10_elabx.specs.First.{Keep}
use Rattle.p10_elabx.specs.Scopes.{number}
use Rattle.p10_elabd.specs.Standing.{PlainStanding, Passed, passed, refusing}
use Rattle.p10_elabd.specs.Expressions.{constant_number}
use Rattle.p10_elabd.specs.Shapes.{DeclaredType}
use Rattle.p10_elabd.specs.Members.{member_declared, with_width, member_added, is_member, with_member, enumerator_value, int_value, enumerator_meaning, value_after, enumerator_passed}
use Rattle.p10_renaming.specs.Renaming.{Pairing, SameType}
use Rattle.p10_expression_renaming.specs.Mapped.{mapped_identifier, mapped_optional, mapped_expression}
use Rattle.p10_expression_renaming.specs.Knowing.{SameMeaning, same_number, same_unknown_name, SameMembers, same_no_members, same_more_members, IsOneToOne}
use Rattle.p10_expression_renaming.proofs.Sameness.{SameName, same_no_name, same_name}
use Rattle.p10_expression_renaming.proofs.TypeNames.{left, right}
use Rattle.p10_declaration_renaming.specs.Standings.{Both, SameStanding, SameDeclared, same_of_type, same_of_open_array, same_of_function, same_of_part_function}
use Rattle.p10_declaration_steps.proofs.Members.{over_member, over_int}
use Rattle.p10_declaration_steps.proofs.Steps.{over_value}
use Rattle.p10_declaration_renaming.proofs.Expressions.{alike_value, SameNumber, constant_number_both}
use Rattle.p10_declaration_renaming.proofs.Naming.{alike_declaring}
use Rattle.p10_declaration_renaming.proofs.Alike.{Alike, Ends, alike_map, forget, alike_ends, alike_refusing, ends_nothing, ends_passed, ends_unless, quiet_before, never_left}
use Rattle.p10_declaration_renaming.proofs.Growing.{grown}

-- ## Members

member_by : (R : Pairing) (last : ℕ) (h : Keep) (name_at name_to : At) (s t : PlainStanding) → SameStanding R last s t → {x y : DeclaredType} → SameDeclared R x y
    → Ends R last (SameType R) (member_declared h name_at (Some x) s) (member_declared h name_to (Some y) t)
member_by R last h name_at name_to s t know (same_of_type {t = u} {u = v} k) =
    ends_unless R last (SameType R) h subset.IncompleteType subset.IncompleteType name_at name_to (is_complete s.scope.structures u) (is_complete t.scope.structures v) (passed u s) (passed v t) s t
    (λ e d. ends_passed R last (SameType R) u v s t k know)
member_by R last h name_at name_to s t know (same_of_open_array k) = ends_nothing R last (SameType R) s t know
member_by R last h name_at name_to s t know (same_of_function k) = ends_nothing R last (SameType R) s t know
member_by R last h name_at name_to s t know (same_of_part_function k) = ends_nothing R last (SameType R) s t know

member_ends : (R : Pairing) (last : ℕ) (h : Keep) (name_at name_to : At) (m n : Option DeclaredType) → Both (SameDeclared R) m n → (s t : PlainStanding) → SameStanding R last s t
    → Ends R last (SameType R) (member_declared h name_at m s) (member_declared h name_to n t)
member_ends R last h name_at name_to None None k s t know = ends_nothing R last (SameType R) s t know
member_ends R last h name_at name_to (Some x) (Some y) k s t know = member_by R last h name_at name_to s t know k
member_ends R last h name_at name_to None (Some y) k s t know = absurd k
member_ends R last h name_at name_to (Some x) None k s t know = absurd k

pub alike_member : {B : Type 0} (R : Pairing) (last : ℕ) (h : Keep) (name_at name_to : At) (m n : Option DeclaredType) (s t : PlainStanding) → (B → Both (SameDeclared R) m n) → Alike B R last s t
    → Alike (B × Both (SameType R) (member_declared h name_at m s).made (member_declared h name_to n t).made) R last (member_declared h name_at m s).after (member_declared h name_to n t).after
alike_member R last h name_at name_to m n s t k a =
    alike_ends R last (SameType R) s t (member_declared h name_at m s) (member_declared h name_to n t) (grown (over_member h name_at m s)) (grown (over_member h name_to n t)) (λ b know. member_ends R last h name_at name_to m n (k b) s t know) a

-- a bit-field is refused
pub alike_width : {B : Type 0} (R : Pairing) (last : ℕ) (h : Keep) (at to : At) (width : Optional (At × At)) (s t : PlainStanding) → Alike B R last s t → Alike B R last (with_width h at (mapped_optional left width) s) (with_width h to (mapped_optional right width) t)
alike_width R last h at to Absent s t a = a
alike_width R last h at to (Present e) s t a = λ q.
    let r : PlainStanding = refusing h true subset.UnionOrBitField at s in
    let p : PlainStanding = refusing h true subset.UnionOrBitField to t in
    never_left last h subset.UnionOrBitField at s p (quiet_before last r p _ _ (grown (over_value h r (mapped_expression left e) constant_number)) (grown (over_value h p (mapped_expression right e) constant_number)) q)

one_more_member : (R : Pairing) {ms ks : List PlainMember} → SameMembers R ms ks → (name : Text) {u v : PlainType} → SameType R u v → SameMembers R (ms ++ record { name = name; type = u } ∷ []) (ks ++ record { name = name; type = v } ∷ [])
one_more_member R same_no_members name h = same_more_members h same_no_members
one_more_member R (same_more_members k rest) name h = same_more_members k (one_more_member R rest name h)

member_added_both : (R : Pairing) (o p : Option (List PlainMember)) → Both (SameMembers R) o p → {a b : Option (Identifier At)} → SameName a b → (m n : Option PlainType) → Both (SameType R) m n → Both (SameMembers R) (member_added o a m) (member_added p b n)
member_added_both R None None i names m n k = tt
member_added_both R None (Some ks) i names m n k = absurd i
member_added_both R (Some ms) None i names m n k = absurd i
member_added_both R (Some ms) (Some ks) i same_no_name m n k = tt
member_added_both R (Some ms) (Some ks) i same_name None None k = tt
member_added_both R (Some ms) (Some ks) i same_name None (Some v) k = absurd k
member_added_both R (Some ms) (Some ks) i same_name (Some u) None k = absurd k
member_added_both R (Some ms) (Some ks) i (same_name {name = name}) (Some u) (Some v) k = one_more_member R i name k

pub alike_with_member : {B : Type 0} (R : Pairing) (last : ℕ) (h : Keep) (name_at name_to : At) (o p : Option (List PlainMember)) (a b : Option (Identifier At)) → SameName a b → (x y : Passed PlainType) → (B → Both (SameMembers R) o p)
    → Alike (B × Both (SameType R) x.made y.made) R last x.after y.after
    → Alike (B × Both (SameMembers R) (with_member h name_at o a x).made (with_member h name_to p b y).made) R last (with_member h name_at o a x).after (with_member h name_to p b y).after
alike_with_member R last h name_at name_to o p a b names x y i alike =
    alike_refusing R last h (is_member o a) (is_member p b) subset.DefinedTwice subset.DefinedTwice name_at name_to x.after y.after
    (alike_map (λ z. (z.0, member_added_both R o p (i z.0) names x.made y.made z.1)) alike)

-- ## Constants of enumerations

alike_enumerator_value : {B : Type 0} (R : Pairing) → IsOneToOne R → (last : ℕ) (h : Keep) (o p : Option ℤ) (value : Optional (At × At)) (s t : PlainStanding) → (B → Both SameNumber o p) → Alike B R last s t
    → Alike (B × Both SameNumber (enumerator_value h o (mapped_optional left value) s).made (enumerator_value h p (mapped_optional right value) t).made) R last
    (enumerator_value h o (mapped_optional left value) s).after (enumerator_value h p (mapped_optional right value) t).after
alike_enumerator_value R one last h o p Absent s t k a = alike_map (λ b. (b, k b)) a
alike_enumerator_value R one last h o p (Present e) s t k a = alike_value R one last h SameNumber e constant_number constant_number s t (λ b v w j. constant_number_both R v w j) a

int_ends : (R : Pairing) (last : ℕ) (h : Keep) (at to : At) (o p : Option ℤ) → Both SameNumber o p → (s t : PlainStanding) → SameStanding R last s t → Ends R last SameNumber (int_value h at o s) (int_value h to p t)
int_ends R last h at to None None k s t know = ends_nothing R last SameNumber s t know
int_ends R last h at to None (Some z) k s t know = absurd k
int_ends R last h at to (Some z) None k s t know = absurd k
int_ends R last h at to (Some z) (Some w) k s t know =
    ends_unless R last SameNumber h subset.ConstantStops subset.ConstantStops at to (holds Int z) (holds Int w) (passed z s) (passed w t) s t (λ e d. ends_passed R last SameNumber z w s t k know)

meaning_both : (R : Pairing) (o p : Option ℤ) → Both SameNumber o p → SameMeaning R (enumerator_meaning o) (enumerator_meaning p)
meaning_both R None None k = same_unknown_name
meaning_both R None (Some z) k = absurd k
meaning_both R (Some z) None k = absurd k
meaning_both R (Some z) (Some w) k = subst (λ x. SameMeaning R (number z) (number x)) k same_number

next_both : (o p : Option ℤ) → Both SameNumber o p → Both SameNumber (value_after o) (value_after p)
next_both None None k = tt
next_both None (Some z) k = absurd k
next_both (Some z) None k = absurd k
next_both (Some z) (Some w) k = ap (λ x. x +ℤ pos 1) k

pub alike_enumerator : {B : Type 0} (R : Pairing) → IsOneToOne R → (last : ℕ) (h : Keep) (o p : Option ℤ) (x : Identifier (At × At)) (value : Optional (At × At)) (s t : PlainStanding) → (B → Both SameNumber o p) → Alike B R last s t
    → Alike (B × Both SameNumber (enumerator_passed h o (mapped_identifier left x) (mapped_optional left value) s).made (enumerator_passed h p (mapped_identifier right x) (mapped_optional right value) t).made) R last
    (enumerator_passed h o (mapped_identifier left x) (mapped_optional left value) s).after (enumerator_passed h p (mapped_identifier right x) (mapped_optional right value) t).after
alike_enumerator R one last h o p x value s t k a =
    let v : Passed ℤ = enumerator_value h o (mapped_optional left value) s in
    let w : Passed ℤ = enumerator_value h p (mapped_optional right value) t in
    let f : Passed ℤ = int_value h x.place.0 v.made v.after in
    let g : Passed ℤ = int_value h x.place.1 w.made w.after in
    let found = forget (alike_ends R last SameNumber v.after w.after f g (grown (over_int h x.place.0 v.made v.after)) (grown (over_int h x.place.1 w.made w.after))
    (λ b know. int_ends R last h x.place.0 x.place.1 v.made w.made b.1 v.after w.after know) (alike_enumerator_value R one last h o p value s t k a)) in
    alike_map (λ z. (z.0, next_both f.made g.made z.1))
    (alike_declaring R last h x.name x.place.0 x.place.1 (enumerator_meaning f.made) (enumerator_meaning g.made) f.after g.after (λ z. meaning_both R f.made g.made z.1) found)
