-- The types that specifiers and declarators name, where they are the same.
use Rattle.std.proofs.Common.{◌≡◌, ◌∙◌, ℕ, Bool, true, false, ◌||◌, List, [], ◌∷◌, ◌++◌, map, Option, Some, None, Result, Ok, Err, ℤ, refl, sym, ap, subst, arith, ◌+◌, not, ◌&&◌, nat_eq}
use Rattle.std.specs.Prelude.{if◌then◌else◌, option_map, nat_le}
use Rattle.p10_base.specs.declared.at.At.{At}
use Rattle.p10_base.specs.declared.codes.SubsetCode.{SubsetCode}
use Rattle.p10_base.specs.declared.codes.SubsetCode.TheVariants as subset
use Rattle.p10_int.specs.declared.types.IntType.{IntType}
use Rattle.p10_int.specs.declared.types.IntType.TheVariants as type
use Rattle.p10_syn.specs.declared.sign.Sign.{Sign}
use Rattle.p10_syn.specs.declared.sign.Sign.TheVariants as sign
use Rattle.p10_syn.specs.Trees.{Identifier, Qualifier, Specifiers, NoSpecifiers, MoreSpecifiers, Specifier, Keyword, Typedef, Structure, Enumeration}
use Rattle.p10_core.specs.Types.{PlainType, void, integer, pointer, array, qualified, PlainStructure}
use Rattle.p10_core.specs.Typed.{PlainValue, at_of, type_of}
use Rattle.p10_core.specs.Constants.{inconstant_part, fold}
use Rattle.p10_core.specs.Rows.{is_integer}
use Rattle.p10_elabx.specs.declared.words.Words.{Words}
use Rattle.p10_elabx.specs.declared.words.Said.{Said}
use Rattle.p10_elabx.specs.declared.shape.Length.{Length}
use Rattle.p10_elabx.specs.declared.shape.Made.{Made}
use Rattle.p10_elabx.specs.First.{Keep, Found, Ruled, nothing_said, lift, Judged, on, on_part, pair, also}
use Rattle.p10_elabx.specs.Scopes.{Meaning, PlainScope, named, tagged}
use Rattle.p10_elabx.specs.TypeNames.{Shape, a_type, nothing_specified, type_of_words, said_by, said_of, keyword_rule, typedef_rule, tag_found, structure_type, enumeration_type, tag_rule, enum_rule, specifier_rule, later, with_specifier, specifiers_found, specified_type, specifiers_at, specifiers_judged, is_const_word, has_const_word, other_word, also_word, is_of_function, is_of_open_array, pointed, pointer_judged, element, array_length, counted_length, folded_length, constant_length, length_found, sized_array, array_of, array_judged, open_array_judged, given_type, plain_parameter, parameter_type, with_type, with_parameter, function_judged, long_type, stand, stand_alone, is_signed_once, char_type, signed_or_not}
use Rattle.p10_renaming.specs.Renaming.{Pairing, SameType, same_void, same_integer, same_pointer, same_array, same_structure, SameValue}
use Rattle.p10_expression_renaming.specs.Mapped.{mapped_identifier, mapped_qualifier, mapped_specifier, mapped_specifiers}
use Rattle.p10_expression_renaming.specs.Knowing.{Together, Ruling, SameTypes, same_no_types, same_more_types, same_named_type, same_tagged_type, SameScope}
use Rattle.p10_expression_renaming.proofs.Finding.{none_right, when_both, when_ok, unless_ok, on_both, ruled_both, pair_both, Pairs, refused_both, Alike, also_both}
use Rattle.p10_expression_renaming.proofs.Sameness.{SameNamed, same_nothing_named, same_one_named, SameMaybeType, same_no_type, same_one_type, SameShape, same_a_type, same_an_open_array, same_a_function_type}
use Rattle.p10_expression_renaming.proofs.Types.{qualified_same}
use Rattle.p10_expression_renaming.proofs.Values.{Folded, fold_both}
use Rattle.p10_expression_renaming.proofs.Calls.{named_both, last_both}

-- the first place and the second one
abbrev pub left : At × At → At
left p = p.0

abbrev pub right : At × At → At
right p = p.1

-- ## Specifiers

keyword_both : (R : Pairing) (at to : At) (word : Sign) → Ruling (SameMaybeType R) (keyword_rule at word) (keyword_rule to word)
keyword_both R at to sign.Float = tt
keyword_both R at to sign.Double = tt
keyword_both R at to sign.Complex = tt
keyword_both R at to sign.Imaginary = tt
keyword_both R at to sign.Volatile = tt
keyword_both R at to sign.Restrict = tt
keyword_both R at to sign.Inline = tt
keyword_both R at to sign.Typedef = tt
keyword_both R at to sign.Extern = tt
keyword_both R at to sign.Static = tt
keyword_both R at to sign.Auto = tt
keyword_both R at to sign.Register = tt
keyword_both R at to word = same_no_type

pub typedef_both : (R : Pairing) (at to : At) (a b : Option Meaning) → SameNamed R a b → Ruling (SameMaybeType R) (typedef_rule at a) (typedef_rule to b)
typedef_both R at to a b same_nothing_named = tt
typedef_both R at to a b (same_one_named (same_named_type h)) = same_one_type h
typedef_both R at to a b (same_one_named h) = tt

tag_found_both : (R : Pairing) (at to : At) (a b : Option Meaning) → SameNamed R a b → Ruling (SameType R) (tag_found at a) (tag_found to b)
tag_found_both R at to a b same_nothing_named = tt
tag_found_both R at to a b (same_one_named (same_tagged_type h)) = h
tag_found_both R at to a b (same_one_named h) = tt

structure_both : (R : Pairing) (at to : At) (t u : PlainType) → SameType R t u → Ruling (SameMaybeType R) (structure_type at t) (structure_type to u)
structure_both R at to t u (same_structure paired) = same_one_type (same_structure paired)
structure_both R at to t u h = tt

enumeration_both : (R : Pairing) (at to : At) (t u : PlainType) → SameType R t u → Ruling (SameMaybeType R) (enumeration_type at t) (enumeration_type to u)
enumeration_both R at to t u same_integer = same_one_type same_integer
enumeration_both R at to t u h = tt

tagged_both : (R : Pairing) (s t : PlainScope) → SameScope R s t → (x : Identifier (At × At)) → SameNamed R (tagged s x.name) (tagged t x.name)
tagged_both R s t know x = last_both R x.name know.tags same_nothing_named

tag_both : (R : Pairing) (s t : PlainScope) → SameScope R s t → (at to : At) (word : Sign) (tag : Option (Identifier (At × At)))
    → Ruling (SameMaybeType R) (tag_rule at word s (option_map (mapped_identifier left) tag)) (tag_rule to word t (option_map (mapped_identifier right) tag))
tag_both R s t know at to sign.Union tag = tt
tag_both R s t know at to word None = tt
tag_both R s t know at to word (Some x) =
    ruled_both (SameType R) (SameMaybeType R) (tag_found x.place.0 (tagged s x.name)) (tag_found x.place.1 (tagged t x.name)) (structure_type x.place.0) (structure_type x.place.1)
    (tag_found_both R x.place.0 x.place.1 (tagged s x.name) (tagged t x.name) (tagged_both R s t know x)) (structure_both R x.place.0 x.place.1)

enum_both : (R : Pairing) (s t : PlainScope) → SameScope R s t → (at to : At) (tag : Option (Identifier (At × At)))
    → Ruling (SameMaybeType R) (enum_rule at s (option_map (mapped_identifier left) tag)) (enum_rule to t (option_map (mapped_identifier right) tag))
enum_both R s t know at to None = tt
enum_both R s t know at to (Some x) =
    ruled_both (SameType R) (SameMaybeType R) (tag_found at (tagged s x.name)) (tag_found to (tagged t x.name)) (enumeration_type x.place.0) (enumeration_type x.place.1)
    (tag_found_both R at to (tagged s x.name) (tagged t x.name) (tagged_both R s t know x)) (enumeration_both R x.place.0 x.place.1)

specifier_both : (R : Pairing) (s t : PlainScope) → SameScope R s t → (one : Specifier (At × At)) → Ruling (SameMaybeType R) (specifier_rule s (mapped_specifier left one)) (specifier_rule t (mapped_specifier right one))
specifier_both R s t know (Keyword at word) = keyword_both R at.0 at.1 word
specifier_both R s t know (Typedef x) = typedef_both R x.place.0 x.place.1 (named s x.name) (named t x.name) (named_both R s t know x.name)
specifier_both R s t know (Structure at word tag members) = tag_both R s t know at.0 at.1 word tag
specifier_both R s t know (Enumeration at tag constants comma) = enum_both R s t know at.0 at.1 tag

pub later_both : (R : Pairing) {a b c d : Option PlainType} → SameMaybeType R a b → SameMaybeType R c d → SameMaybeType R (later a c) (later b d)
later_both R h same_no_type = h
later_both R h (same_one_type k) = same_one_type k

specifiers_both : (R : Pairing) (h : Keep) (s t : PlainScope) → SameScope R s t → (f g : Found (Option PlainType)) → Together (SameMaybeType R) f g → (all : Specifiers (At × At))
    → Together (SameMaybeType R) (specifiers_found h s f (mapped_specifiers left all)) (specifiers_found h t g (mapped_specifiers right all))
specifiers_both R h s t know f g a NoSpecifiers = a
specifiers_both R h s t know f g a (MoreSpecifiers one rest) =
    specifiers_both R h s t know (with_specifier h f (specifier_rule s (mapped_specifier left one))) (with_specifier h g (specifier_rule t (mapped_specifier right one)))
    (on_both (Pairs (SameMaybeType R) (SameMaybeType R)) (SameMaybeType R) (pair h f (lift (specifier_rule s (mapped_specifier left one)))) (pair h g (lift (specifier_rule t (mapped_specifier right one))))
    (λ (a, b). Ok (later a b)) (λ (a, b). Ok (later a b))
    (pair_both (SameMaybeType R) (SameMaybeType R) h h f g (lift (specifier_rule s (mapped_specifier left one))) (lift (specifier_rule t (mapped_specifier right one))) a
    (specifier_both R s t know one))
    (λ p q both. later_both R both.0 both.1))
    rest

-- the words are the same
said_by_same : (one : Specifier (At × At)) (s : Said) → said_by (mapped_specifier left one) s ≡ said_by (mapped_specifier right one) s
said_by_same (Keyword at word) s = refl
said_by_same (Typedef x) s = refl
said_by_same (Structure at word tag members) s = refl
said_by_same (Enumeration at tag constants comma) s = refl

pub said_same : (all : Specifiers (At × At)) (s r : Said) → s ≡ r → said_of (mapped_specifiers left all) s ≡ said_of (mapped_specifiers right all) r
said_same NoSpecifiers s r e = e
said_same (MoreSpecifiers one rest) s r e = said_same rest (said_by (mapped_specifier left one) s) (said_by (mapped_specifier right one) r) (said_by_same one s ∙ ap (said_by (mapped_specifier right one)) e)

-- words name integers, or nothing
pub data IsWordType : Option PlainType → Type 0 where
  no_word : IsWordType None
  one_word : {t : PlainType} → ((R : Pairing) → SameType R t t) → IsWordType (Some t)

either_word : (test : Bool) (a b : Option PlainType) → IsWordType a → IsWordType b → IsWordType (if test then a else b)
either_word true a b h k = h
either_word false a b h k = k

void_word : IsWordType (Some (void false))
void_word = one_word (λ R. same_void)

integer_word : (i : IntType) → IsWordType (Some (integer false i))
integer_word i = one_word (λ R. same_integer)

long_word : (w : Words) → IsWordType (long_type w)
long_word w =
    either_word (nat_eq w.long_words 0) _ _ (either_word (nat_eq (w.int_words + w.signed_words + w.unsigned_words) 0) _ _ no_word (integer_word (signed_or_not w.unsigned_words type.Int type.UInt)))
    (either_word (nat_eq w.long_words 1) _ _ (integer_word (signed_or_not w.unsigned_words type.Long type.ULong)) (either_word (nat_eq w.long_words 2) _ _ (integer_word (signed_or_not w.unsigned_words type.LLong type.ULLong)) no_word))

pub word_types : (w : Words) → IsWordType (type_of_words w)
word_types w =
    either_word (stand w 1 0 0 0 && stand_alone w) _ _ void_word
    (either_word (stand w 0 1 0 0 && stand_alone w) _ _ (integer_word type.Bool)
    (either_word (not (is_signed_once w) || not (nat_le w.int_words 1)) _ _ no_word
    (either_word (stand w 0 0 1 0 && (nat_eq w.int_words 0 && nat_eq w.long_words 0)) _ _ (integer_word (char_type w))
    (either_word (stand w 0 0 0 1 && nat_eq w.long_words 0) _ _ (integer_word (signed_or_not w.unsigned_words type.Short type.UShort))
    (either_word (stand w 0 0 0 0) _ _ (long_word w) no_word)))))

-- what words name
abbrev pub own_word : Said → Option PlainType → Ruled PlainType
own_word s None = nothing_said
own_word s (Some t) = Ok (qualified s.is_const t)

pub words_are : (s : Said) → specified_type s None ≡ own_word s (type_of_words s.words)
words_are s = grind arith

own_both : (R : Pairing) (s : Said) (o : Option PlainType) → IsWordType o → Ruling (SameType R) (own_word s o) (own_word s o)
own_both R s None no_word = tt
own_both R s (Some t) (one_word word) = qualified_same R s.is_const (word R)

pub specified_both : (R : Pairing) (s : Said) (a b : Option PlainType) → SameMaybeType R a b → Ruling (SameType R) (specified_type s a) (specified_type s b)
specified_both R s a b (same_one_type h) = qualified_same R s.is_const h
specified_both R s a b same_no_type = subst (λ r. Ruling (SameType R) r r) (sym (words_are s)) (own_both R s (type_of_words s.words) (word_types s.words))

pub specifiers_judged_both : (R : Pairing) (h : Keep) (s t : PlainScope) → SameScope R s t → (at to : At) (all : Specifiers (At × At))
    → Alike (SameShape R) (specifiers_judged h s at (mapped_specifiers left all)) (specifiers_judged h t to (mapped_specifiers right all))
unfolding specifiers_judged
specifiers_judged_both R h s t know at to all =
    let same : said_of (mapped_specifiers left all) nothing_specified ≡ said_of (mapped_specifiers right all) nothing_specified = said_same all nothing_specified nothing_specified refl in
    refused_both (SameShape R) h h _ _ subset.BadSpecifier subset.BadSpecifier (specifiers_at at (mapped_specifiers left all)) (specifiers_at to (mapped_specifiers right all)) _ _
    (on_both (SameType R) (SameShape R) _ _ _ _
    (on_both (SameMaybeType R) (SameType R) (specifiers_found h s (Ok None) (mapped_specifiers left all)) (specifiers_found h t (Ok None) (mapped_specifiers right all)) (specified_type (said_of (mapped_specifiers left all) nothing_specified))
    (specified_type (said_of (mapped_specifiers right all) nothing_specified)) (specifiers_both R h s t know (Ok None) (Ok None) same_no_type all)
    (λ a b k. subst (λ r. Ruling (SameType R) (specified_type (said_of (mapped_specifiers left all) nothing_specified) a) (specified_type r b)) same (specified_both R (said_of (mapped_specifiers left all) nothing_specified) a b k)))
    (λ t u k. same_a_type k))

-- ## Declarators

pub has_const_same : (all : List (Qualifier (At × At))) → has_const_word (map (mapped_qualifier left) all) ≡ has_const_word (map (mapped_qualifier right) all)
has_const_same [] = refl
has_const_same (q ∷ rest) = ap (λ b. is_const_word q.word || b) (has_const_same rest)

pub marked_pointer : (R : Pairing) (c d : Bool) → c ≡ d → {t u : PlainType} → SameType R t u → SameType R (pointer c t) (pointer d u)
marked_pointer R true true e h = same_pointer h
marked_pointer R true false e h = absurd cc
marked_pointer R false true e h = absurd cc
marked_pointer R false false e h = same_pointer h

also_word_both : {A : Type 0} (P : A → A → Type 0) (h : Keep) (o q : Option At) (code : SubsetCode) (j k : Judged A) → Alike P j k → Alike P (also_word h o code j) (also_word h q code k)
also_word_both P h None None code j k a = a
also_word_both P h None (Some r) code j k a = refused_both P h h false true code code r r j.found k.found a
also_word_both P h (Some r) None code j k a = refused_both P h h true false code code r r j.found k.found a
also_word_both P h (Some r) (Some q) code j k a = refused_both P h h true true code code r q j.found k.found a

pointed_both : (R : Pairing) (at name_at to name_to : At) (all : List (Qualifier (At × At))) (x y : Shape) → SameShape R x y
    → Ruling (SameShape R) (pointed at name_at (map (mapped_qualifier left) all) x) (pointed to name_to (map (mapped_qualifier right) all) y)
pointed_both R at name_at to name_to all x y (same_a_type h) = unless_ok (SameShape R) _ _ _ _ _ _ _ (same_a_type (marked_pointer R _ _ (has_const_same all) h))
pointed_both R at name_at to name_to all x y (same_an_open_array h) = tt
pointed_both R at name_at to name_to all x y (same_a_function_type hs h) = tt

pub pointer_both : (R : Pairing) (h : Keep) (at name_at to name_to : At) (all : List (Qualifier (At × At))) (made : Made) (j k : Judged Shape) → Alike (SameShape R) j k
    → Alike (SameShape R) (pointer_judged h at name_at (map (mapped_qualifier left) all) made j) (pointer_judged h to name_to (map (mapped_qualifier right) all) made k)
unfolding pointer_judged
pointer_both R h at name_at to name_to all made j k a =
    let these : List (Qualifier At) = map (mapped_qualifier left) all in
    let others : List (Qualifier At) = map (mapped_qualifier right) all in
    let x : Judged Shape = also_word h (other_word these) subset.BadSpecifier (on_part j (pointed at name_at these)) in
    let y : Judged Shape = also_word h (other_word others) subset.BadSpecifier (on_part k (pointed to name_to others)) in
    also_both (SameShape R) h h (is_of_function made) (is_of_function made) subset.BadPointer subset.BadPointer at to (also h (is_of_open_array made) subset.IncompleteType name_at x) (also h (is_of_open_array made) subset.IncompleteType name_to y)
    (also_both (SameShape R) h h (is_of_open_array made) (is_of_open_array made) subset.IncompleteType subset.IncompleteType name_at name_to x y
    (also_word_both (SameShape R) h (other_word these) (other_word others) subset.BadSpecifier (on_part j (pointed at name_at these)) (on_part k (pointed to name_to others))
    (on_both (SameShape R) (SameShape R) j.found k.found (pointed at name_at these) (pointed to name_to others) a (pointed_both R at name_at to name_to all))))

element_both : (R : Pairing) (these others : List PlainStructure) (at to : At) (x y : Shape) → SameShape R x y → Ruling (SameType R) (element these at x) (element others to y)
element_both R these others at to x y (same_a_type h) = when_ok (SameType R) _ _ _ _ _ _ _ h
element_both R these others at to x y (same_an_open_array h) = tt
element_both R these others at to x y (same_a_function_type hs h) = tt

-- lengths of as many elements
abbrev pub SameLength : Length → Length → Type 0
SameLength m n = m.count ≡ n.count

counted_length_both : (at to : At) (o : Option ℕ) → Ruling SameLength (counted_length at o) (counted_length to o)
counted_length_both at to None = tt
counted_length_both at to (Some n) = refl

folded_length_both : (at to : At) (f g : Result ℤ At) → Folded f g → Ruling SameLength (folded_length at f) (folded_length to g)
folded_length_both at to (Ok x) (Ok y) e = subst (λ z. Ruling SameLength (folded_length at (Ok x)) (folded_length to (Ok z))) e (counted_length_both at to (array_length x))
folded_length_both at to (Ok x) (Err r) e = none_right SameLength (folded_length at (Ok x)) _
folded_length_both at to (Err r) g e = tt

constant_length_both : (R : Pairing) (v w : PlainValue) → SameValue R v w → (o q : Option At) → Ruling SameLength (constant_length v o) (constant_length w q)
constant_length_both R v w k None None = folded_length_both (at_of v) (at_of w) (fold v) (fold w) (fold_both R k)
constant_length_both R v w k None (Some r) = none_right SameLength (constant_length v None) _
constant_length_both R v w k (Some r) q = tt

pub length_found_both : (R : Pairing) (v w : PlainValue) → SameValue R v w → Ruling SameLength (length_found v) (length_found w)
length_found_both R v w k = when_both SameLength (is_integer (type_of v)) (is_integer (type_of w)) (constant_length v (inconstant_part v)) (constant_length w (inconstant_part w)) _ _ (constant_length_both R v w k (inconstant_part v) (inconstant_part w))

pub sized_array_both : (R : Pairing) (these others : List PlainStructure) (t u : PlainType) → SameType R t u → (m n : Length) → SameLength m n → Ruling (SameType R) (sized_array these t m) (sized_array others u n)
sized_array_both R these others t u h m n e = when_ok (SameType R) _ _ _ _ _ _ _ (subst (λ k. SameType R (array false t m.count) (array false u k)) e (same_array h))

array_of_both : (R : Pairing) (these others : List PlainStructure) (t u : PlainType) → SameType R t u → (m n : Length) → SameLength m n → Ruling (SameShape R) (array_of these t m) (array_of others u n)
array_of_both R these others t u h m n e = ruled_both (SameType R) (SameShape R) (sized_array these t m) (sized_array others u n) (λ x. Ok (a_type x)) (λ x. Ok (a_type x)) (sized_array_both R these others t u h m n e) (λ x y k. same_a_type k)

pub array_both : (R : Pairing) (h : Keep) (these others : List PlainStructure) (name_at name_to : At) (made : Made) (x y : Judged PlainValue) → Alike (SameValue R) x y → (j k : Judged Shape) → Alike (SameShape R) j k
    → Alike (SameShape R) (array_judged h these name_at made x j) (array_judged h others name_to made y k)
unfolding array_judged
array_both R h these others name_at name_to made x y b j k a =
    refused_both (SameShape R) h h _ _ subset.IncompleteType subset.IncompleteType name_at name_to _ _
    (on_both (Pairs (SameType R) SameLength) (SameShape R) (pair h (on j.found (element these name_at)) (on x.found length_found)) (pair h (on k.found (element others name_to)) (on y.found length_found)) (λ (t, n). array_of these t n) (λ (t, n). array_of others t n)
    (pair_both (SameType R) SameLength h h (on j.found (element these name_at)) (on k.found (element others name_to)) (on x.found length_found) (on y.found length_found)
    (on_both (SameShape R) (SameType R) j.found k.found (element these name_at) (element others name_to) a (element_both R these others name_at name_to))
    (on_both (SameValue R) SameLength x.found y.found length_found length_found b (length_found_both R)))
    (λ p q both. array_of_both R these others p.0 q.0 both.0 p.1 q.1 both.1))

pub open_array_both : (R : Pairing) (h : Keep) (these others : List PlainStructure) (name_at name_to : At) (made : Made) (j k : Judged Shape) → Alike (SameShape R) j k
    → Alike (SameShape R) (open_array_judged h these name_at made j) (open_array_judged h others name_to made k)
unfolding open_array_judged
open_array_both R h these others name_at name_to made j k a =
    refused_both (SameShape R) h h _ _ subset.IncompleteType subset.IncompleteType name_at name_to _ _
    (on_both (SameType R) (SameShape R) (on j.found (element these name_at)) (on k.found (element others name_to)) _ _
    (on_both (SameShape R) (SameType R) j.found k.found (element these name_at) (element others name_to) a (element_both R these others name_at name_to)) (λ t u k. same_an_open_array k))

given_both : (R : Pairing) (at name_at to name_to : At) (x y : Shape) → SameShape R x y → Ruling (SameType R) (given_type at name_at x) (given_type to name_to y)
given_both R at name_at to name_to x y (same_a_type same_void) = same_void
given_both R at name_at to name_to x y (same_a_type same_integer) = same_integer
given_both R at name_at to name_to x y (same_a_type (same_pointer h)) = same_pointer h
given_both R at name_at to name_to x y (same_a_type (same_array h)) = tt
given_both R at name_at to name_to x y (same_a_type (same_structure paired)) = tt
given_both R at name_at to name_to x y (same_an_open_array h) = tt
given_both R at name_at to name_to x y (same_a_function_type hs h) = tt

-- ## Parameters

plain_both : (R : Pairing) (alone other : Bool) (at name_at to name_to : At) {t u : PlainType} → SameType R t u → Ruling (SameMaybeType R) (plain_parameter alone at name_at t) (plain_parameter other to name_to u)
plain_both R alone other at name_at to name_to same_void = when_ok (SameMaybeType R) _ _ _ _ _ _ _ same_no_type
plain_both R alone other at name_at to name_to same_integer = same_one_type same_integer
plain_both R alone other at name_at to name_to (same_pointer h) = same_one_type (same_pointer h)
plain_both R alone other at name_at to name_to (same_array h) = same_one_type (same_pointer h)
plain_both R alone other at name_at to name_to (same_structure paired) = tt

pub parameter_both : (R : Pairing) (alone other : Bool) (at name_at d_at to name_to d_to : At) (x y : Shape) → SameShape R x y → Ruling (SameMaybeType R) (parameter_type alone at name_at d_at x) (parameter_type other to name_to d_to y)
parameter_both R alone other at name_at d_at to name_to d_to x y (same_a_type h) = plain_both R alone other at name_at to name_to h
parameter_both R alone other at name_at d_at to name_to d_to x y (same_an_open_array h) = same_one_type (same_pointer h)
parameter_both R alone other at name_at d_at to name_to d_to x y (same_a_function_type hs h) = tt

one_more_type : (R : Pairing) {ts us : List PlainType} → SameTypes R ts us → {t u : PlainType} → SameType R t u → SameTypes R (ts ++ t ∷ []) (us ++ u ∷ [])
one_more_type R same_no_types h = same_more_types h same_no_types
one_more_type R (same_more_types k rest) h = same_more_types k (one_more_type R rest h)

with_type_both : (R : Pairing) {ts us : List PlainType} → SameTypes R ts us → {o q : Option PlainType} → SameMaybeType R o q → SameTypes R (with_type ts o) (with_type us q)
with_type_both R all same_no_type = all
with_type_both R all (same_one_type h) = one_more_type R all h

pub with_parameter_both : (R : Pairing) (h : Keep) (f g : Found (List PlainType)) → Together (SameTypes R) f g → (x y : Found (Option PlainType)) → Together (SameMaybeType R) x y → Together (SameTypes R) (with_parameter h f x) (with_parameter h g y)
with_parameter_both R h f g a x y b =
    on_both (Pairs (SameTypes R) (SameMaybeType R)) (SameTypes R) (pair h f x) (pair h g y) (λ (ts, o). Ok (with_type ts o)) (λ (ts, o). Ok (with_type ts o)) (pair_both (SameTypes R) (SameMaybeType R) h h f g x y a b)
    (λ p q both. with_type_both R both.0 both.1)

pub function_both : (R : Pairing) (h : Keep) (at name_at par_at to name_to par_to : At) (lacking other : Bool) (made : Made) (f g : Found (List PlainType)) → Together (SameTypes R) f g → (j k : Judged Shape) → Alike (SameShape R) j k
    → Alike (SameShape R) (function_judged h at name_at par_at lacking made f j) (function_judged h to name_to par_to other made g k)
unfolding function_judged
function_both R h at name_at par_at to name_to par_to lacking other made f g b j k a =
    refused_both (SameShape R) h h lacking other subset.NoPrototype subset.NoPrototype par_at par_to _ _
    (refused_both (SameShape R) h h _ _ subset.IncompleteType subset.IncompleteType name_at name_to _ _
    (on_both (Pairs (SameTypes R) (SameType R)) (SameShape R) (pair h f (on j.found (given_type at name_at))) (pair h g (on k.found (given_type to name_to))) _ _
    (pair_both (SameTypes R) (SameType R) h h f g (on j.found (given_type at name_at)) (on k.found (given_type to name_to)) b
    (on_both (SameShape R) (SameType R) j.found k.found (given_type at name_at) (given_type to name_to) a (given_both R at name_at to name_to)))
    (λ p q both. same_a_function_type both.0 both.1)))
