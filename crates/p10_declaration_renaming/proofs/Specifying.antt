-- Words of specifiers, and the types that they name, are the same in both programs.
use Rattle.std.proofs.Common.{◌≡◌, sym, refl, ap, subst, arith, ℕ, ℤ, Bool, Option, Some, None, Ok, Err, option_map}
use Rattle.std.specs.Prelude.{if◌then◌else◌}
use Rattle.p10_base.specs.declared.at.At.{At}
use Rattle.p10_base.specs.declared.codes.SubsetCode.{SubsetCode}
use Rattle.p10_base.specs.declared.codes.SubsetCode.TheVariants as subset
use Rattle.p10_syn.specs.declared.sign.Sign.{Sign}
use Rattle.p10_syn.specs.Places.{nowhere}
use Rattle.p10_syn.specs.Trees.{Identifier, Specifiers, Enumerators, NoEnumerators, MoreEnumerators, Enumerator, enumerator}
use Rattle.p10_core.specs.Types.{PlainType}
use Rattle.p10_elabx.specs.declared.words.Said.{Said}
use Rattle.p10_elabx.specs.First.{Keep, Ruled, lift}
use Rattle.p10_elabx.specs.Scopes.{named}
use Rattle.p10_elabx.specs.TypeNames.{said_of, nothing_specified, is_bad_mixture, typedef_rule, type_of_words, specified_type, specifiers_at}
use Rattle.p10_elabd.specs.declared.site.Site.{Site}
use Rattle.p10_elabd.specs.declared.site.Allowed.{Allowed}
use Rattle.p10_elabd.specs.Standing.{PlainStanding, Passed, noted}
use Rattle.p10_elabd.specs.Words.{word_row}
use Rattle.p10_elabd.specs.Tagged.{enumeration_begun}
use Rattle.p10_elabd.specs.Declaring.{both_named, word_passed, type_specified, one_enumerator_passed, enumerators_passed, first_constant, enumeration_passed}
use Rattle.p10_renaming.specs.Renaming.{Pairing, SameType, same_integer}
use Rattle.p10_expression_renaming.specs.Mapped.{mapped_specifiers, mapped_enumerators, mapped_enumerator}
use Rattle.p10_expression_renaming.specs.Knowing.{IsOneToOne}
use Rattle.p10_expression_renaming.proofs.Finding.{by_same}
use Rattle.p10_expression_renaming.proofs.Sameness.{SameMaybeType, same_no_type, same_one_type}
use Rattle.p10_expression_renaming.proofs.TypeNames.{left, right, typedef_both, said_same, later_both, IsWordType, no_word, one_word, own_word, words_are, word_types}
use Rattle.p10_expression_renaming.proofs.Types.{qualified_same}
use Rattle.p10_declaration_renaming.specs.Standings.{Both}
use Rattle.p10_declaration_renaming.proofs.Boths.{both_by, both_map}
use Rattle.p10_declaration_steps.proofs.Steps.{over_noted}
use Rattle.p10_declaration_renaming.proofs.Scopes.{named_same}
use Rattle.p10_declaration_renaming.proofs.Alike.{Alike, alike_map, forget, alike_ends, alike_refusing, ends_noted, never_left, never_right}
use Rattle.p10_declaration_renaming.proofs.Expressions.{SameNumber}
use Rattle.p10_declaration_renaming.proofs.Tagging.{left_name, right_name, alike_by_name, alike_with_enumeration, alike_enumeration_begun}
use Rattle.p10_declaration_renaming.proofs.Members.{alike_enumerator}
use Rattle.p10_declaration_renaming.proofs.Growing.{grown}

-- ## One specifier

pub alike_word : {B : Type 0} (R : Pairing) (last : ℕ) (h : Keep) (site : Site) (allowed other : Allowed) (stored later_stored : Bool) (at to : At) (word : Sign) (s t : PlainStanding) → Alike B R last s t
    → Alike (B × Both (SameMaybeType R) (word_passed h site allowed stored at word s).made (word_passed h site other later_stored to word t).made) R last
    (word_passed h site allowed stored at word s).after (word_passed h site other later_stored to word t).after
alike_word {B = B} R last h site allowed other stored later_stored at to word s t a = by_rows (word_row site allowed stored word) (word_row site other later_stored word) refl refl
  where
    by_rows : (o q : Option SubsetCode) → word_row site allowed stored word ≡ o → word_row site other later_stored word ≡ q
        → Alike (B × Both (SameMaybeType R) (word_passed h site allowed stored at word s).made (word_passed h site other later_stored to word t).made) R last
        (word_passed h site allowed stored at word s).after (word_passed h site other later_stored to word t).after
    by_rows None None e d = rw (e, d) (alike_map (λ b. (b, same_no_type)) a)
    by_rows None (Some code) e d = rw (e, d) (λ quiet. never_right last h code to s t quiet)
    by_rows (Some code) None e d = rw (e, d) (λ quiet. never_left last h code at s t quiet)
    by_rows (Some code) (Some another) e d = rw (e, d) (λ quiet. never_left last h code at s _ quiet)

pub alike_typedef : {B : Type 0} (R : Pairing) (last : ℕ) (h : Keep) (x : Identifier (At × At)) (s t : PlainStanding) → Alike B R last s t
    → Alike (B × Both (SameMaybeType R) (noted h (lift (typedef_rule x.place.0 (named s.scope x.name))) s).made (noted h (lift (typedef_rule x.place.1 (named t.scope x.name))) t).made) R last
    (noted h (lift (typedef_rule x.place.0 (named s.scope x.name))) s).after (noted h (lift (typedef_rule x.place.1 (named t.scope x.name))) t).after
alike_typedef R last h x s t a =
    alike_ends R last (SameMaybeType R) s t (noted h (lift (typedef_rule x.place.0 (named s.scope x.name))) s) (noted h (lift (typedef_rule x.place.1 (named t.scope x.name))) t)
    (grown (over_noted h (lift (typedef_rule x.place.0 (named s.scope x.name))) s)) (grown (over_noted h (lift (typedef_rule x.place.1 (named t.scope x.name))) t))
    (λ b know. ends_noted R last (SameMaybeType R) h (lift (typedef_rule x.place.0 (named s.scope x.name))) (lift (typedef_rule x.place.1 (named t.scope x.name))) s t
    (typedef_both R x.place.0 x.place.1 (named s.scope x.name) (named t.scope x.name) (named_same R last s.scope t.scope know x.name)) know) a

pub named_both : (R : Pairing) (m n k l : Option (Option PlainType)) → Both (SameMaybeType R) m n → Both (SameMaybeType R) k l → Both (SameMaybeType R) (both_named m k) (both_named n l)
named_both R None None k l i j = tt
named_both R None (Some y) k l i j = absurd i
named_both R (Some x) None k l i j = absurd i
named_both R (Some x) (Some y) None None i j = tt
named_both R (Some x) (Some y) None (Some w) i j = absurd j
named_both R (Some x) (Some y) (Some v) None i j = absurd j
named_both R (Some x) (Some y) (Some v) (Some w) i j = later_both R i j

pub as_named_both : (R : Pairing) (m n : Option PlainType) → Both (SameType R) m n → Both (SameMaybeType R) (option_map (λ t. Some t) m) (option_map (λ t. Some t) n)
as_named_both R m n k = both_map (SameType R) (SameMaybeType R) (λ t. Some t) (λ t. Some t) (λ t u j. same_one_type j) m n k

-- ## The type that specifiers name

abbrev ok_type : Ruled PlainType → Option PlainType
ok_type (Ok t) = Some t
ok_type (Err r) = None

abbrev type_by : Said → Option (Option PlainType) → Option PlainType
type_by said None = None
type_by said (Some t) = ok_type (specified_type said t)

type_made : (h : Keep) (all : Specifiers At) (m : Option (Option PlainType)) (s : PlainStanding)
    → (type_specified h all (record { made = m; after = s })).made ≡ (if is_bad_mixture (said_of all nothing_specified) then None else type_by (said_of all nothing_specified) m)
type_made h all None s = refl
type_made h all (Some t) s = grind arith

own_type_both : (R : Pairing) (said : Said) (o : Option PlainType) → IsWordType o → Both (SameType R) (ok_type (own_word said o)) (ok_type (own_word said o))
own_type_both R said None no_word = tt
own_type_both R said (Some t) (one_word word) = qualified_same R said.is_const (word R)

named_type_both : (R : Pairing) (said : Said) {a b : Option PlainType} → SameMaybeType R a b → Both (SameType R) (ok_type (specified_type said a)) (ok_type (specified_type said b))
named_type_both R said same_no_type = subst (λ r. Both (SameType R) (ok_type r) (ok_type r)) (sym (words_are said)) (own_type_both R said (type_of_words said.words) (word_types said.words))
named_type_both R said (same_one_type k) = qualified_same R said.is_const k

type_by_both : (R : Pairing) (said : Said) (m n : Option (Option PlainType)) → Both (SameMaybeType R) m n → Both (SameType R) (type_by said m) (type_by said n)
type_by_both R said None None k = tt
type_by_both R said (Some a) (Some b) k = named_type_both R said k
type_by_both R said None (Some b) k = absurd k
type_by_both R said (Some a) None k = absurd k

type_made_both : (R : Pairing) (h : Keep) (all : Specifiers (At × At)) (m n : Option (Option PlainType)) (s t : PlainStanding) → Both (SameMaybeType R) m n
    → Both (SameType R) (type_specified h (mapped_specifiers left all) (record { made = m; after = s })).made (type_specified h (mapped_specifiers right all) (record { made = n; after = t })).made
type_made_both R h all m n s t k =
    let these : Said = said_of (mapped_specifiers left all) nothing_specified in
    let others : Said = said_of (mapped_specifiers right all) nothing_specified in
    let same : these ≡ others = said_same all nothing_specified nothing_specified refl in
    both_by (SameType R) (type_made h (mapped_specifiers left all) m s) (type_made h (mapped_specifiers right all) n t)
    (by_same (Both (SameType R)) (is_bad_mixture these) (is_bad_mixture others) (ap is_bad_mixture same) None (type_by these m) None (type_by others n) tt
    (subst (λ x. Both (SameType R) (type_by these m) (type_by x n)) same (type_by_both R these m n k)))

pub alike_type_specified : {B : Type 0} (R : Pairing) (last : ℕ) (h : Keep) (all : Specifiers (At × At)) (p q : Passed (Option PlainType)) → Alike (B × Both (SameMaybeType R) p.made q.made) R last p.after q.after
    → Alike (B × Both (SameType R) (type_specified h (mapped_specifiers left all) p).made (type_specified h (mapped_specifiers right all) q).made) R last
    (type_specified h (mapped_specifiers left all) p).after (type_specified h (mapped_specifiers right all) q).after
alike_type_specified R last h all p q a =
    alike_refusing R last h (is_bad_mixture (said_of (mapped_specifiers left all) nothing_specified)) (is_bad_mixture (said_of (mapped_specifiers right all) nothing_specified)) subset.BadSpecifier subset.BadSpecifier
    (specifiers_at nowhere (mapped_specifiers left all)) (specifiers_at nowhere (mapped_specifiers right all)) p.after q.after (alike_map (λ z. (z.0, type_made_both R h all p.made q.made p.after q.after z.1)) a)

-- ## Enumerations

alike_one_enumerator : {B : Type 0} (R : Pairing) → IsOneToOne R → (last : ℕ) (h : Keep) (p q : Passed ℤ) (e : Enumerator (At × At)) → Alike (B × Both SameNumber p.made q.made) R last p.after q.after
    → Alike (B × Both SameNumber (one_enumerator_passed h p (mapped_enumerator left e)).made (one_enumerator_passed h q (mapped_enumerator right e)).made) R last
    (one_enumerator_passed h p (mapped_enumerator left e)).after (one_enumerator_passed h q (mapped_enumerator right e)).after
alike_one_enumerator R one last h p q (enumerator at x value) a = forget (alike_enumerator R one last h p.made q.made x value p.after q.after (λ b. b.1) a)

alike_enumerators : {B : Type 0} (R : Pairing) → IsOneToOne R → (last : ℕ) (h : Keep) (p q : Passed ℤ) (all : Enumerators (At × At)) → Alike (B × Both SameNumber p.made q.made) R last p.after q.after
    → Alike (B × Both SameNumber (enumerators_passed h p (mapped_enumerators left all)).made (enumerators_passed h q (mapped_enumerators right all)).made) R last
    (enumerators_passed h p (mapped_enumerators left all)).after (enumerators_passed h q (mapped_enumerators right all)).after
alike_enumerators R one last h p q NoEnumerators a = a
alike_enumerators R one last h p q (MoreEnumerators e rest) a =
    alike_enumerators R one last h (one_enumerator_passed h p (mapped_enumerator left e)) (one_enumerator_passed h q (mapped_enumerator right e)) rest (alike_one_enumerator R one last h p q e a)

pub alike_enumeration : {B : Type 0} (R : Pairing) → IsOneToOne R → (last : ℕ) (h : Keep) (at to : At) (tag : Option (Identifier (At × At))) (all : Enumerators (At × At)) (s t : PlainStanding) → Alike B R last s t
    → Alike (B × Both (SameType R) (enumeration_passed h at (left_name tag) s (mapped_enumerators left all)).made (enumeration_passed h to (right_name tag) t (mapped_enumerators right all)).made) R last
    (enumeration_passed h at (left_name tag) s (mapped_enumerators left all)).after (enumeration_passed h to (right_name tag) t (mapped_enumerators right all)).after
alike_enumeration R one last h at to tag NoEnumerators s t a = alike_by_name R last h at to tag s t a
alike_enumeration R one last h at to tag (MoreEnumerators e rest) s t a =
    let x : PlainStanding = enumeration_begun h (left_name tag) s in
    let y : PlainStanding = enumeration_begun h (right_name tag) t in
    let all : Enumerators (At × At) = MoreEnumerators e rest in
    let p : Passed ℤ = enumerators_passed h (first_constant x) (mapped_enumerators left all) in
    let q : Passed ℤ = enumerators_passed h (first_constant y) (mapped_enumerators right all) in
    alike_map (λ z. (z.0, same_integer))
    (alike_with_enumeration R last tag p.after q.after
    (alike_enumerators R one last h (first_constant x) (first_constant y) all (alike_map (λ b. (b, refl)) (alike_enumeration_begun R last h tag s t a))))
