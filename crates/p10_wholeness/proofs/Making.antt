-- Types that specifiers name are whole.
use Rattle.std.proofs.Common.{◌≡◌, ◌∙◌, sym, refl, ap, subst, arith, ℕ, ◌+◌, ◌*◌, ◌<◌, ◌≤◌, Bool, true, false, not, ◌&&◌, ◌||◌, List, [], ◌∷◌, length, drop, Option, Some, None, Ok, Err, nat_le, nat_eq, bytes_eq}
use Rattle.std.specs.Prelude.{if◌then◌else◌, option_map, is_some}
use Rattle.std.proofs.lemmas.Bool.{leb-true}
use Rattle.p10_base.specs.Words.{Text}
use Rattle.p10_base.specs.declared.at.At.{At}
use Rattle.p10_base.specs.declared.codes.SubsetCode.{SubsetCode}
use Rattle.p10_base.specs.declared.codes.SubsetCode.TheVariants as subset
use Rattle.p10_int.specs.declared.types.IntType.{IntType}
use Rattle.p10_int.specs.declared.types.IntType.TheVariants as type
use Rattle.p10_syn.specs.declared.sign.Sign.{Sign}
use Rattle.p10_syn.specs.declared.sign.Sign.TheVariants as sign
use Rattle.p10_syn.specs.Places.{nowhere}
use Rattle.p10_syn.specs.Trees.{Identifier, Specifiers, NoSpecifiers, MoreSpecifiers, Specifier, Keyword, Typedef, Structure, Enumeration, Members, NoMembers, MoreMembers, Enumerators, NoEnumerators, MoreEnumerators}
use Rattle.p10_core.specs.Types.{PlainType, void, integer, pointer, array, structure, qualified, PlainMember, PlainStructure}
use Rattle.p10_core.specs.Sizes.{Layout, layout_by, structure_layout, layout_of, size_of}
use Rattle.p10_core.specs.Rows.{is_complete}
use Rattle.p10_core.specs.WholePrograms.{most_bytes, IsWholeType}
use Rattle.p10_core.specs.Completing.{member_layout, completed, takes_members, MayComplete}
use Rattle.p10_core.proofs.MemberLayouts.{may_by_test}
use Rattle.p10_elabx.specs.First.{Keep, Ruled, nothing_said, lift}
use Rattle.p10_elabx.specs.Scopes.{Meaning, named_type, tagged_type, unknown_name, Binding, PlainScope, last_named, last_floor, tagged, named}
use Rattle.p10_elabx.specs.Innermost.{tagged_here}
use Rattle.p10_elabx.specs.declared.words.Words.{Words}
use Rattle.p10_elabx.specs.declared.words.Said.{Said}
use Rattle.p10_elabx.specs.TypeNames.{said_of, nothing_specified, is_bad_mixture, signed_or_not, is_signed_once, stand, stand_alone, char_type, long_type, type_of_words, typedef_rule, specified_type, specifiers_at}
use Rattle.p10_elabd.specs.declared.known_tag.KnownTag.{KnownTag}
use Rattle.p10_elabd.specs.declared.known_tag.KnownTag.TheVariants as tag_is
use Rattle.p10_elabd.specs.declared.site.Site.{Site}
use Rattle.p10_elabd.specs.declared.site.Allowed.{Allowed}
use Rattle.p10_elabd.specs.Standing.{PlainStanding, Passed, passed, nothing_made, refusing, noted}
use Rattle.p10_elabd.specs.Words.{word_row}
use Rattle.p10_elabd.specs.Tagged.{known_tag, structure_by_tag, structure_named, enumeration_by_tag, ended, completed_small, completed_by, structure_made}
use Rattle.p10_elabd.specs.Declaring.{both_named, stored_by, type_specified, unless_union, tag_passed, enumeration_by_name, enumeration_passed, begun_with, specifiers_passed, specifier_passed, structure_passed, members_passed, member_passed, specified}
use Rattle.p10_wholeness.specs.Names.{IfMade, IsWholeMeaning, AreWholeMeanings, IsWholeScope}
use Rattle.p10_wholeness.specs.Laws.{Keeps, MadeType}
use Rattle.p10_wholeness.proofs.Growth.{completed_stays_built, types_stay_whole}
use Rattle.p10_wholeness.proofs.Scopes.{test_either, dropped_meanings, last_there}
use Rattle.p10_declaration_steps.proofs.Declaring.{over_specifier}
use Rattle.p10_wholeness.proofs.Keeping.{kept}

-- ## What is made

pub either_made : {A : Type 0} (P : A → Type 0) (b : Bool) (x y : Option A) → IfMade P x → IfMade P y → IfMade P (if b then x else y)
either_made P true x y h k = h
either_made P false x y h k = k

pub made_map : {A : Type 0} (P Q : A → Type 0) → ((x : A) → P x → Q x) → (o : Option A) → IfMade P o → IfMade Q o
made_map P Q go None h = tt
made_map P Q go (Some x) h = go x h

-- a type stays whole over what keeps a scope whole
pub type_moves : (s t : PlainStanding) → Keeps s t → IsWholeScope s.scope → (u : PlainType) → IsWholeType s.scope.structures u → IsWholeType t.scope.structures u
type_moves s t k w u h = (types_stay_whole s.scope.structures t.scope.structures u w.built.whole k.tables.more).whole h

-- ## Marks

bytes_marked : (ss : List PlainStructure) (F : ℕ → Layout) (q : Bool) (t : PlainType) → (layout_by ss F (qualified q t)).bytes ≡ (layout_by ss F t).bytes
bytes_marked ss F q (void c) = refl
bytes_marked ss F q (integer c i) = refl
bytes_marked ss F q (pointer c t) = refl
bytes_marked ss F q (array c t n) = ap (λ b. n * b) (bytes_marked ss F q t)
bytes_marked ss F q (structure c n) = refl

size_marked : (ss : List PlainStructure) (q c : Bool) (t : PlainType) (n : ℕ) → size_of ss (array c (qualified q t) n) ≡ size_of ss (array c t n)
unfolding layout_of
size_marked ss q c t n = ap (λ b. n * b) (bytes_marked ss (structure_layout (length ss) ss) q t)

complete_marked : (ss : List PlainStructure) (q : Bool) (t : PlainType) → is_complete ss (qualified q t) ≡ is_complete ss t
complete_marked ss q (void c) = refl
complete_marked ss q (integer c i) = refl
complete_marked ss q (pointer c t) = refl
complete_marked ss q (array c t n) = complete_marked ss q t
complete_marked ss q (structure c n) = refl

pub marked_whole : (ss : List PlainStructure) (q : Bool) (t : PlainType) → IsWholeType ss t → IsWholeType ss (qualified q t)
marked_whole ss q (void c) h = tt
marked_whole ss q (integer c i) h = tt
marked_whole ss q (pointer c t) h = h
marked_whole ss q (array c t n) h =
    (marked_whole ss q t h.0, complete_marked ss q t ∙ h.1, h.2, subst (λ k. k ≤ most_bytes) (sym (size_marked ss q c t n)) h.3)
marked_whole ss q (structure c n) h = h

-- ## Names

found_whole : (ss : List PlainStructure) (bs : List Binding) (name : Text) (found : Option Meaning) → IfMade (IsWholeMeaning ss) found → AreWholeMeanings ss bs → IfMade (IsWholeMeaning ss) (last_named found name bs)
found_whole ss [] name found f h = f
found_whole ss (b ∷ bs) name found f h =
    found_whole ss bs name (if bytes_eq b.name name then Some b.what else found) (either_made (IsWholeMeaning ss) (bytes_eq b.name name) (Some b.what) found h.0 f) h.1

pub named_whole : (s : PlainScope) → IsWholeScope s → (name : Text) → IfMade (IsWholeMeaning s.structures) (named s name)
named_whole s w name = found_whole s.structures s.names name None tt w.names

tagged_whole : (s : PlainScope) → IsWholeScope s → (name : Text) → IfMade (IsWholeMeaning s.structures) (tagged s name)
tagged_whole s w name = found_whole s.structures s.tags name None tt w.tags

here_whole : (s : PlainScope) → IsWholeScope s → (name : Text) → IfMade (IsWholeMeaning s.structures) (tagged_here s name)
here_whole s w name =
    found_whole s.structures (drop (last_floor s.floors).1 s.tags) name None tt (dropped_meanings s.structures (last_floor s.floors).1 s.tags w.tags)

-- ## Specifiers

-- what specifiers name so far
abbrev MadeNamed : Passed (Option PlainType) → Type 0
MadeNamed p = IfMade (IfMade (IsWholeType p.after.scope.structures)) p.made

typedef_made : (h : Keep) (at : At) (what : Option Meaning) (s : PlainStanding) → IfMade (IsWholeMeaning s.scope.structures) what → MadeNamed (noted h (lift (typedef_rule at what)) s)
typedef_made h at (Some (named_type t)) s m = m
typedef_made h at (Some unknown_name) s m = tt
typedef_made h at what s m = tt

word_made : (ss : List PlainStructure) (b : Bool) → IfMade (IfMade (IsWholeType ss)) (if b then None else Some None)
word_made ss true = tt
word_made ss false = tt

as_named_made : (ss : List PlainStructure) (o : Option PlainType) → IfMade (IsWholeType ss) o → IfMade (IfMade (IsWholeType ss)) (option_map (λ t. Some t) o)
as_named_made ss None h = tt
as_named_made ss (Some t) h = h

both_made : (ss : List PlainStructure) (a b : Option (Option PlainType)) → IfMade (IfMade (IsWholeType ss)) a → IfMade (IfMade (IsWholeType ss)) b → IfMade (IfMade (IsWholeType ss)) (both_named a b)
both_made ss None b h k = tt
both_made ss (Some a) None h k = tt
both_made ss (Some a) (Some None) h k = h
both_made ss (Some a) (Some (Some t)) h k = k

-- a structure's number is there
abbrev IsThere : List PlainStructure → KnownTag → Type 0
IsThere ss (tag_is.Structure c n) = n < length ss
IsThere ss k = Unit {0}

known_there : (ss : List PlainStructure) (o : Option Meaning) → IfMade (IsWholeMeaning ss) o → IsThere ss (known_tag o)
known_there ss (Some (tagged_type (structure c n))) m = m
known_there ss o m = tt

by_tag_made : (h : Keep) (k : KnownTag) (tag : Identifier At) (s : PlainStanding) → IsThere s.scope.structures k → MadeType (structure_by_tag h k tag s)
by_tag_made h (tag_is.Structure c n) tag s m = m
by_tag_made h tag_is.Refused tag s m = tt
by_tag_made h tag_is.Nothing tag s m = last_there s.scope.structures (Some tag.name)
by_tag_made h tag_is.Enumeration tag s m = tt
by_tag_made h tag_is.OtherType tag s m = tt
by_tag_made h tag_is.NoTag tag s m = tt

structure_named_made : (h : Keep) (alone : Bool) (tag : Identifier At) (s : PlainStanding) → IsWholeScope s.scope → MadeType (structure_named h alone tag s)
structure_named_made h alone tag s w =
    let o : Option Meaning = if alone then tagged_here s.scope tag.name else tagged s.scope tag.name in
    by_tag_made h (known_tag o) tag s
    (known_there s.scope.structures o (either_made (IsWholeMeaning s.scope.structures) alone (tagged_here s.scope tag.name) (tagged s.scope tag.name) (here_whole s.scope w tag.name) (tagged_whole s.scope w tag.name)))

-- a structure that was completed is there
small_made : (h : Keep) (at : At) (n : ℕ) (members : List PlainMember) (s : PlainStanding) → takes_members s.scope.structures n members ≡ true → MadeType (completed_small h at n members s)
small_made h at n members s takes =
    let may : MayComplete s.scope.structures n members = may_by_test s.scope.structures n members takes in
    let ts : List PlainStructure = completed s.scope.structures n members in
    test_either MadeType (nat_le (member_layout s.scope.structures members).bytes most_bytes)
    (passed (structure false n) (record s { scope = record s.scope { structures = ts } })) (nothing_made (refusing h true subset.BadLength at s))
    (λ e. omega (arith, may.there, (completed_stays_built s.scope.structures n members takes (leb-true _ _ e)).more.count)) (λ e. tt)

completed_made : (h : Keep) (at : At) (n : ℕ) (members : List PlainMember) (s : PlainStanding) → MadeType (completed_by h at n members s)
completed_made h at n members s =
    test_either MadeType (takes_members s.scope.structures n members) (completed_small h at n members s) (nothing_made s) (small_made h at n members s) (λ e. tt)

with_members_made : (h : Keep) (at : At) (tag : Option (Identifier At)) (n : ℕ) (o : Option (List PlainMember)) (s : PlainStanding) → MadeType (structure_made h at tag n o s)
with_members_made h at tag n None s = tt
with_members_made h at tag n (Some members) s = completed_made h at n members s

no_union_made : (h : Keep) (at : At) (word : Sign) (p : Passed PlainType) → MadeType p → MadeType (unless_union h at word p)
no_union_made h at sign.Union p m = tt
no_union_made h at word p m = m

tag_made : (h : Keep) (alone : Bool) (at : At) (word : Sign) (tag : Option (Identifier At)) (s : PlainStanding) → IsWholeScope s.scope → MadeType (tag_passed h alone at word tag s)
tag_made h alone at sign.Union tag s w = tt
tag_made h alone at word None s w = tt
tag_made h alone at word (Some tag) s w = structure_named_made h alone tag s w

structure_passed_made : (h : Keep) (alone : Bool) (at : At) (word : Sign) (tag : Option (Identifier At)) (s : PlainStanding) (members : Members At) → IsWholeScope s.scope → MadeType (structure_passed h alone at word tag s members)
structure_passed_made h alone at word tag s NoMembers w = tag_made h alone at word tag s w
structure_passed_made h alone at word tag s (MoreMembers m rest) w =
    let p : Passed (List PlainMember) = members_passed h (member_passed h (passed [] (begun_with h word tag s).standing) m) rest in
    no_union_made h at word (structure_made h at tag (begun_with h word tag s).number p.made (ended p.after)) (with_members_made h at tag (begun_with h word tag s).number p.made (ended p.after))

enumeration_by_tag_made : (h : Keep) (at : At) (k : KnownTag) (tag : Identifier At) (s : PlainStanding) → MadeType (enumeration_by_tag h at k tag s)
enumeration_by_tag_made h at tag_is.Enumeration tag s = tt
enumeration_by_tag_made h at (tag_is.Structure c n) tag s = tt
enumeration_by_tag_made h at tag_is.OtherType tag s = tt
enumeration_by_tag_made h at tag_is.Refused tag s = tt
enumeration_by_tag_made h at tag_is.Nothing tag s = tt
enumeration_by_tag_made h at tag_is.NoTag tag s = tt

by_name_made : (h : Keep) (at : At) (tag : Option (Identifier At)) (s : PlainStanding) → MadeType (enumeration_by_name h at tag s)
by_name_made h at None s = tt
by_name_made h at (Some tag) s = enumeration_by_tag_made h at (known_tag (tagged s.scope tag.name)) tag s

enumeration_made : (h : Keep) (at : At) (tag : Option (Identifier At)) (s : PlainStanding) (all : Enumerators At) → MadeType (enumeration_passed h at tag s all)
enumeration_made h at tag s NoEnumerators = by_name_made h at tag s
enumeration_made h at tag s (MoreEnumerators e rest) = tt

specifier_made : (h : Keep) (site : Site) (allowed : Allowed) (alone stored : Bool) (s : PlainStanding) (one : Specifier At) → IsWholeScope s.scope → MadeNamed (specifier_passed h site allowed alone stored s one)
specifier_made h site allowed alone stored s (Keyword at word) w = word_made _ (is_some (word_row site allowed stored word))
specifier_made h site allowed alone stored s (Typedef name) w = typedef_made h name.place (named s.scope name.name) s (named_whole s.scope w name.name)
specifier_made h site allowed alone stored s (Structure at word tag members) w =
    let p : Passed PlainType = structure_passed h alone at word tag s members in
    as_named_made p.after.scope.structures p.made (structure_passed_made h alone at word tag s members w)
specifier_made h site allowed alone stored s (Enumeration at tag enumerators comma) w =
    let p : Passed PlainType = enumeration_passed h at tag s enumerators in
    as_named_made p.after.scope.structures p.made (enumeration_made h at tag s enumerators)

specifiers_made : (h : Keep) (site : Site) (allowed : Allowed) (alone stored : Bool) (p : Passed (Option PlainType)) (all : Specifiers At) → IsWholeScope p.after.scope → MadeNamed p → MadeNamed (specifiers_passed h site allowed alone stored p all)
specifiers_made h site allowed alone stored p NoSpecifiers w m = m
specifiers_made h site allowed alone stored p (MoreSpecifiers one rest) w m =
    let q : Passed (Option PlainType) = specifier_passed h site allowed alone stored p.after one in
    let k : Keeps p.after q.after = kept (over_specifier h site allowed alone stored p.after one) in
    let ss : List PlainStructure = p.after.scope.structures in
    let ts : List PlainStructure = q.after.scope.structures in
    specifiers_made h site allowed alone (stored_by stored one) (record { made = both_named p.made q.made; after = q.after }) rest (k.whole w)
    (both_made ts p.made q.made (made_map (IfMade (IsWholeType ss)) (IfMade (IsWholeType ts)) (made_map (IsWholeType ss) (IsWholeType ts) (type_moves p.after q.after k w)) p.made m)
    (specifier_made h site allowed alone stored p.after one w))

-- ## The type of specifiers

-- a type that words name
data IsWordType : Option PlainType → Type 0 where
  no_word : IsWordType None
  void_word : IsWordType (Some (void false))
  integer_word : (i : IntType) → IsWordType (Some (integer false i))

either_word : (test : Bool) (a b : Option PlainType) → IsWordType a → IsWordType b → IsWordType (if test then a else b)
either_word true a b h k = h
either_word false a b h k = k

long_word : (w : Words) → IsWordType (long_type w)
long_word w =
    either_word (nat_eq w.long_words 0) _ _ (either_word (nat_eq (w.int_words + w.signed_words + w.unsigned_words) 0) _ _ no_word (integer_word (signed_or_not w.unsigned_words type.Int type.UInt)))
    (either_word (nat_eq w.long_words 1) _ _ (integer_word (signed_or_not w.unsigned_words type.Long type.ULong)) (either_word (nat_eq w.long_words 2) _ _ (integer_word (signed_or_not w.unsigned_words type.LLong type.ULLong)) no_word))

word_types : (w : Words) → IsWordType (type_of_words w)
word_types w =
    either_word (stand w 1 0 0 0 && stand_alone w) _ _ void_word
    (either_word (stand w 0 1 0 0 && stand_alone w) _ _ (integer_word type.Bool)
    (either_word (not (is_signed_once w) || not (nat_le w.int_words 1)) _ _ no_word
    (either_word (stand w 0 0 1 0 && (nat_eq w.int_words 0 && nat_eq w.long_words 0)) _ _ (integer_word (char_type w))
    (either_word (stand w 0 0 0 1 && nat_eq w.long_words 0) _ _ (integer_word (signed_or_not w.unsigned_words type.Short type.UShort))
    (either_word (stand w 0 0 0 0) _ _ (long_word w) no_word)))))

abbrev ok_type : Ruled PlainType → Option PlainType
ok_type (Ok t) = Some t
ok_type (Err r) = None

abbrev own_word : Said → Option PlainType → Ruled PlainType
own_word s None = nothing_said
own_word s (Some t) = Ok (qualified s.is_const t)

abbrev type_by : Said → Option (Option PlainType) → Option PlainType
type_by said None = None
type_by said (Some t) = ok_type (specified_type said t)

words_are : (s : Said) → specified_type s None ≡ own_word s (type_of_words s.words)
words_are s = grind arith

specified_is : (h : Keep) (all : Specifiers At) (m : Option (Option PlainType)) (s : PlainStanding)
    → (type_specified h all (record { made = m; after = s })).made ≡ (if is_bad_mixture (said_of all nothing_specified) then None else type_by (said_of all nothing_specified) m)
specified_is h all None s = refl
specified_is h all (Some t) s = grind arith

own_whole : (ss : List PlainStructure) (said : Said) (o : Option PlainType) → IsWordType o → IfMade (IsWholeType ss) (ok_type (own_word said o))
own_whole ss said o no_word = tt
own_whole ss said o void_word = tt
own_whole ss said o (integer_word i) = tt

by_whole : (ss : List PlainStructure) (said : Said) (m : Option (Option PlainType)) → IfMade (IfMade (IsWholeType ss)) m → IfMade (IsWholeType ss) (type_by said m)
by_whole ss said None h = tt
by_whole ss said (Some None) h = subst (λ r. IfMade (IsWholeType ss) (ok_type r)) (sym (words_are said)) (own_whole ss said (type_of_words said.words) (word_types said.words))
by_whole ss said (Some (Some t)) h = marked_whole ss said.is_const t h

-- rows that are noted leave the structures
noted_structures : (h : Keep) (b : Bool) (code : SubsetCode) (at : At) (s : PlainStanding) → s.scope.structures ≡ (refusing h b code at s).scope.structures
noted_structures h true code at s = refl
noted_structures h false code at s = refl

pub type_specified_made : (h : Keep) (all : Specifiers At) (p : Passed (Option PlainType)) → MadeNamed p → MadeType (type_specified h all p)
type_specified_made h all p m =
    let ss : List PlainStructure = p.after.scope.structures in
    subst (λ ts. IfMade (IsWholeType ts) (type_specified h all p).made) (noted_structures h (is_bad_mixture (said_of all nothing_specified)) subset.BadSpecifier (specifiers_at nowhere all) p.after)
    (subst (λ o. IfMade (IsWholeType ss) o) (sym (specified_is h all p.made p.after))
    (either_made (IsWholeType ss) (is_bad_mixture (said_of all nothing_specified)) None (type_by (said_of all nothing_specified) p.made) tt (by_whole ss (said_of all nothing_specified) p.made m)))

pub specified_made : (h : Keep) (site : Site) (allowed : Allowed) (alone : Bool) (s : PlainStanding) (all : Specifiers At) → IsWholeScope s.scope → MadeType (specified h site allowed alone s all)
specified_made h site allowed alone s all w =
    type_specified_made h all (specifiers_passed h site allowed alone false (passed None s) all) (specifiers_made h site allowed alone false (passed None s) all w tt)
