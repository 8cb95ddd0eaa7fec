-- The types that specifiers and declarators name, as far as they declare nothing (C99 6.7.2, 6.7.3, 6.7.5, 6.7.6).
use Rattle.std.specs.Prelude.{ℕ, ◌+◌, ℤ, pos, negsuc, Bool, true, false, not, ◌&&◌, ◌||◌, nat_eq, nat_le, Option, Some, None, is_some, Result, Ok, Err, if◌then◌else◌, List, [], ◌∷◌, ◌++◌}
use Rattle.p10_base.specs.Words.{span_to}
use Rattle.p10_base.specs.declared.at.At.{At}
use Rattle.p10_base.specs.declared.codes.SubsetCode.{SubsetCode}
use Rattle.p10_base.specs.declared.codes.SubsetCode.TheVariants as subset
use Rattle.p10_int.specs.declared.types.IntType.{IntType}
use Rattle.p10_int.specs.declared.types.IntType.TheVariants as type
use Rattle.p10_syn.specs.declared.sign.Sign.{Sign}
use Rattle.p10_syn.specs.declared.sign.Sign.TheVariants as sign
use Rattle.p10_core.specs.Types.{PlainType, void, integer, pointer, array, structure, qualified, PlainStructure}
use Rattle.p10_core.specs.Typed.{PlainValue, at_of, type_of}
use Rattle.p10_core.specs.Rows.{is_void, is_integer, is_complete}
use Rattle.p10_core.specs.Constants.{inconstant_part, fold}
use Rattle.p10_core.specs.WholePrograms.{most_bytes}
use Rattle.p10_elabx.specs.declared.words.Words.{Words}
use Rattle.p10_elabx.specs.declared.words.Said.{Said}
use Rattle.p10_elabx.specs.declared.shape.Length.{Length}
use Rattle.p10_elabx.specs.declared.shape.Made.{Made}
use Rattle.p10_elabx.specs.declared.shape.Made.TheVariants as around
use Rattle.p10_elabx.specs.First.{Keep, Found, Ruled, ruled, refused, nothing_said, lift, Judged, pair, on, on_part, also, refused_where}
use Rattle.p10_elabx.specs.Operators.{has_size}
use Rattle.p10_elabx.specs.Scopes.{Meaning, named_type, tagged_type, unknown_name, unknown_tag, PlainScope, named, tagged}
use Rattle.p10_syn.specs.Trees.{Identifier, Optional, Absent, Present, Qualifier, Specifiers, NoSpecifiers, MoreSpecifiers, Specifier, Keyword, Typedef, Structure, Enumeration, Declarator, Named, Unnamed, Pointer, Parenthesised, Array, Function, Parameters, NoParameters, MoreParameters, parameter}

-- what a declarator makes of a type: a type; an array of a type, whose length is lacking; or a function with the types of its
-- parameters and its result
pub data Shape : Type 0 where
  a_type : PlainType → Shape
  an_open_array : PlainType → Shape
  a_function_type : List PlainType → PlainType → Shape

-- ## Specifiers

-- no words
abbrev pub no_words : Words
no_words = record { void_words = 0; char_words = 0; short_words = 0; int_words = 0; long_words = 0; signed_words = 0; unsigned_words = 0; bool_words = 0 }

-- nothing
abbrev pub nothing_specified : Said
nothing_specified = record { words = no_words; names = 0; is_const = false; floating = false }

-- one word more of a type (C99 6.7.2)
abbrev pub with_word : Sign → Words → Words
with_word sign.Void w = record w { void_words = w.void_words + 1 }
with_word sign.Char w = record w { char_words = w.char_words + 1 }
with_word sign.Short w = record w { short_words = w.short_words + 1 }
with_word sign.Int w = record w { int_words = w.int_words + 1 }
with_word sign.Long w = record w { long_words = w.long_words + 1 }
with_word sign.Signed w = record w { signed_words = w.signed_words + 1 }
with_word sign.Unsigned w = record w { unsigned_words = w.unsigned_words + 1 }
with_word sign.Bool w = record w { bool_words = w.bool_words + 1 }
with_word s w = w

-- the integer types of one rank: the signed and the unsigned one
abbrev pub signed_or_not : ℕ → IntType → IntType → IntType
signed_or_not unsigned_words signed_type unsigned_type = if nat_eq unsigned_words 0 then signed_type else unsigned_type

-- at most one of `signed` and `unsigned`, once
abbrev pub is_signed_once : Words → Bool
is_signed_once w = nat_le (w.signed_words + w.unsigned_words) 1

-- whether `void`, `_Bool`, `char` and `short` stand this many times each
abbrev pub stand : Words → ℕ → ℕ → ℕ → ℕ → Bool
stand w v b c s = nat_eq w.void_words v && (nat_eq w.bool_words b && (nat_eq w.char_words c && nat_eq w.short_words s))

-- whether neither `int`, `long`, `signed` nor `unsigned` stands
abbrev pub stand_alone : Words → Bool
stand_alone w = nat_eq (w.int_words + w.long_words + w.signed_words + w.unsigned_words) 0

-- the type of `char` with its sign: three types (C99 6.2.5p15)
abbrev pub char_type : Words → IntType
char_type w = if nat_eq w.unsigned_words 1 then type.UChar else (if nat_eq w.signed_words 1 then type.SChar else type.Char)

-- the type of `int`, or of the `long`s that are written
abbrev pub long_type : Words → Option PlainType
long_type w =
    if nat_eq w.long_words 0 then (if nat_eq (w.int_words + w.signed_words + w.unsigned_words) 0 then None else Some (integer false (signed_or_not w.unsigned_words type.Int type.UInt)))
    else (if nat_eq w.long_words 1 then Some (integer false (signed_or_not w.unsigned_words type.Long type.ULong))
    else (if nat_eq w.long_words 2 then Some (integer false (signed_or_not w.unsigned_words type.LLong type.ULLong)) else None))

-- the type that words name, if they are one of the lists of C99 6.7.2p2
abbrev pub type_of_words : Words → Option PlainType
type_of_words w =
    if stand w 1 0 0 0 && stand_alone w then Some (void false)
    else (if stand w 0 1 0 0 && stand_alone w then Some (integer false type.Bool)
    else (if not (is_signed_once w) || not (nat_le w.int_words 1) then None
    else (if stand w 0 0 1 0 && (nat_eq w.int_words 0 && nat_eq w.long_words 0) then Some (integer false (char_type w))
    else (if stand w 0 0 0 1 && nat_eq w.long_words 0 then Some (integer false (signed_or_not w.unsigned_words type.Short type.UShort))
    else (if stand w 0 0 0 0 then long_type w else None)))))

-- whether no word stands
abbrev pub has_no_words : Words → Bool
has_no_words w = stand w 0 0 0 0 && stand_alone w

-- whether the words are one of the lists, or one name stands alone (C99 6.7.2p2)
abbrev pub is_mixture : Said → Bool
is_mixture s = (nat_eq s.names 0 && is_some (type_of_words s.words)) || (nat_eq s.names 1 && has_no_words s.words)

-- a bad mixture of specifiers, or none, is a row on their form; a floating type is refused at its word alone
abbrev pub is_bad_mixture : Said → Bool
is_bad_mixture s = not s.floating && not (is_mixture s)

-- what a keyword adds by its form
abbrev pub said_keyword : Sign → Said → Said
said_keyword sign.Const s = record s { is_const = true }
said_keyword sign.Float s = record s { floating = true }
said_keyword sign.Double s = record s { floating = true }
said_keyword sign.Complex s = record s { floating = true }
said_keyword sign.Imaginary s = record s { floating = true }
said_keyword word s = record s { words = with_word word s.words }

-- what one specifier adds by its form
abbrev pub said_by : {P : Type 0} → Specifier P → Said → Said
said_by (Keyword at word) s = said_keyword word s
said_by (Typedef name) s = record s { names = s.names + 1 }
said_by (Structure at word tag _) s = record s { names = s.names + 1 }
said_by (Enumeration at tag _ _) s = record s { names = s.names + 1 }

-- what specifiers say by their form, after those before
abbrev pub said_of : {P : Type 0} → Specifiers P → Said → Said
said_of NoSpecifiers s = s
said_of (MoreSpecifiers one rest) s = said_of rest (said_by one s)

-- a keyword where a type is named: storage, `inline` and other qualifiers than `const` don't stand there
abbrev pub keyword_rule : At → Sign → Ruled (Option PlainType)
keyword_rule at sign.Float = refused subset.FloatingType at
keyword_rule at sign.Double = refused subset.FloatingType at
keyword_rule at sign.Complex = refused subset.FloatingType at
keyword_rule at sign.Imaginary = refused subset.FloatingType at
keyword_rule at sign.Volatile = refused subset.BadSpecifier at
keyword_rule at sign.Restrict = refused subset.BadSpecifier at
keyword_rule at sign.Inline = refused subset.BadSpecifier at
keyword_rule at sign.Typedef = refused subset.BadSpecifier at
keyword_rule at sign.Extern = refused subset.BadSpecifier at
keyword_rule at sign.Static = refused subset.BadSpecifier at
keyword_rule at sign.Auto = refused subset.BadSpecifier at
keyword_rule at sign.Register = refused subset.BadSpecifier at
keyword_rule at word = Ok None

-- a typedef name (C99 6.7.7)
abbrev pub typedef_rule : At → Option Meaning → Ruled (Option PlainType)
typedef_rule at (Some (named_type t)) = Ok (Some t)
typedef_rule at (Some unknown_name) = nothing_said
typedef_rule at what = refused subset.UnknownName at

-- the type that a tag names (C99 6.7.2.3); an unknown one is refused at a place that is given
abbrev pub tag_found : At → Option Meaning → Ruled PlainType
tag_found at (Some (tagged_type t)) = Ok t
tag_found at (Some unknown_tag) = nothing_said
tag_found at what = refused subset.UnknownName at

-- the type of a tag after `struct`
abbrev pub structure_type : At → PlainType → Ruled (Option PlainType)
structure_type name_at (structure c n) = Ok (Some (structure c n))
structure_type name_at t = refused subset.DefinedTwice name_at

-- the type of a tag after `enum`, which is `int`
abbrev pub enumeration_type : At → PlainType → Ruled (Option PlainType)
enumeration_type name_at (integer c i) = Ok (Some (integer c i))
enumeration_type name_at t = refused subset.DefinedTwice name_at

-- the tag of a structure, after `struct`
abbrev pub structure_rule : At → Option Meaning → Ruled (Option PlainType)
structure_rule name_at what = ruled (tag_found name_at what) (structure_type name_at)

-- the tag of an enumeration, after `enum`: an unknown one is refused at the specifier
abbrev pub enumeration_rule : At → At → Option Meaning → Ruled (Option PlainType)
enumeration_rule at name_at what = ruled (tag_found at what) (enumeration_type name_at)

-- `struct` with a tag, or `union`, which isn't in the subset
abbrev pub tag_rule : At → Sign → PlainScope → Option (Identifier At) → Ruled (Option PlainType)
tag_rule at sign.Union s tag = refused subset.UnionOrBitField at
tag_rule at word s None = refused subset.BadSpecifier at
tag_rule at word s (Some tag) = structure_rule tag.place (tagged s tag.name)

-- `enum` with a tag
abbrev pub enum_rule : At → PlainScope → Option (Identifier At) → Ruled (Option PlainType)
enum_rule at s None = refused subset.BadSpecifier at
enum_rule at s (Some tag) = enumeration_rule at tag.place (tagged s tag.name)

-- what one specifier names, where nothing is declared
abbrev pub specifier_rule : PlainScope → Specifier At → Ruled (Option PlainType)
specifier_rule s (Keyword at word) = keyword_rule at word
specifier_rule s (Typedef name) = typedef_rule name.place (named s name.name)
specifier_rule s (Structure at word tag _) = tag_rule at word s tag
specifier_rule s (Enumeration at tag _ _) = enum_rule at s tag

-- the later of two types that are named
abbrev pub later : Option PlainType → Option PlainType → Option PlainType
later a None = a
later a (Some t) = Some t

-- one specifier more
abbrev pub with_specifier : Keep → Found (Option PlainType) → Ruled (Option PlainType) → Found (Option PlainType)
with_specifier h before one = on (pair h before (lift one)) (λ (a, b). Ok (later a b))

-- what the specifiers name, from the left
abbrev pub specifiers_found : Keep → PlainScope → Found (Option PlainType) → Specifiers At → Found (Option PlainType)
specifiers_found h s found NoSpecifiers = found
specifiers_found h s found (MoreSpecifiers one rest) = specifiers_found h s (with_specifier h found (specifier_rule s one)) rest

-- the type that a mixture of words and names is, with its mark
abbrev pub specified_type : Said → Option PlainType → Ruled PlainType
specified_type s (Some t) = Ok (qualified s.is_const t)
specified_type s None = word_type s (type_of_words s.words)
  where
    word_type : Said → Option PlainType → Ruled PlainType
    word_type s None = nothing_said
    word_type s (Some t) = Ok (qualified s.is_const t)

-- the place of a specifier
abbrev pub specifier_at : Specifier At → At
specifier_at (Keyword at word) = at
specifier_at (Typedef name) = name.place
specifier_at (Structure at word tag _) = at
specifier_at (Enumeration at tag _ _) = at

-- the place of all specifiers, from the first to the last
abbrev pub last_specifier_at : At → Specifiers At → At
last_specifier_at at NoSpecifiers = at
last_specifier_at at (MoreSpecifiers one rest) = last_specifier_at (specifier_at one) rest

-- from the first word of one tree to the last of another
abbrev pub from_to : At → At → At
from_to a b = record { first = a.first; past = b.past; span = span_to a.span b.span }

-- the place of specifiers, from the first to the last; where there are none, one that is given
abbrev pub specifiers_at : At → Specifiers At → At
specifiers_at at NoSpecifiers = at
specifiers_at at (MoreSpecifiers one rest) = from_to (specifier_at one) (last_specifier_at (specifier_at one) rest)

-- the type that specifiers name at a tree
unfoldable pub specifiers_judged : Keep → PlainScope → At → Specifiers At → Judged Shape
specifiers_judged h s at specifiers =
    let said : Said = said_of specifiers nothing_specified in
    record {
      found = refused_where h (is_bad_mixture said) subset.BadSpecifier (specifiers_at at specifiers)
          (on (on (specifiers_found h s (Ok None) specifiers) (specified_type said)) (λ t. Ok (a_type t)));
      acts = false;
      reads = false;
    }

-- ## Places in declarators

-- the place of a declarator
abbrev pub declarator_place : Declarator At → At
declarator_place (Named name) = name.place
declarator_place (Unnamed at) = at
declarator_place (Pointer at qualifiers d) = at
declarator_place (Parenthesised at d) = at
declarator_place (Array at d brackets length) = at
declarator_place (Function at d parentheses _ _) = at

-- where an incomplete type is refused: at the declared name; where nothing is named, at a tree that is given
abbrev pub name_place : At → Declarator At → At
name_place otherwise (Named name) = name.place
name_place otherwise (Unnamed at) = otherwise
name_place otherwise (Pointer at qualifiers d) = name_place otherwise d
name_place otherwise (Parenthesised at d) = name_place otherwise d
name_place otherwise (Array at d brackets length) = name_place otherwise d
name_place otherwise (Function at d parentheses _ _) = name_place otherwise d

-- ## Declarators

-- whether a qualifier is `const`
abbrev pub is_const_word : Sign → Bool
is_const_word sign.Const = true
is_const_word s = false

-- whether `const` stands among the qualifiers of a pointer
abbrev pub has_const_word : List (Qualifier At) → Bool
has_const_word [] = false
has_const_word (q ∷ rest) = is_const_word q.word || has_const_word rest

-- where the first qualifier stands that isn't `const`
abbrev pub other_word : List (Qualifier At) → Option At
other_word [] = None
other_word (q ∷ rest) = if is_const_word q.word then other_word rest else Some q.place

-- a row on a word that may be there
abbrev pub also_word : {A : Type 0} → Keep → Option At → SubsetCode → Judged A → Judged A
also_word h None code j = j
also_word h (Some at) code j = also h true code at j

-- whether a function stands round
abbrev pub is_of_function : Made → Bool
is_of_function around.Function = true
is_of_function made = false

-- whether an array without a length stands round
abbrev pub is_of_open_array : Made → Bool
is_of_open_array around.OpenArray = true
is_of_open_array made = false

-- whether what stands round has no size: a function, or an array without a length
abbrev pub lacks_size : Made → Bool
lacks_size around.Function = true
lacks_size around.OpenArray = true
lacks_size made = false

-- whether a function or an array stands round
abbrev pub is_of_aggregate : Made → Bool
is_of_aggregate around.Function = true
is_of_aggregate around.Array = true
is_of_aggregate around.OpenArray = true
is_of_aggregate made = false

-- a pointer to a type: not to `void`, nor to a function; one to an array without a length has no type here (C99 6.7.5.1)
abbrev pub pointed : At → At → List (Qualifier At) → Shape → Ruled Shape
pointed at name_at qualifiers (a_type t) = if is_void t then refused subset.BadPointer at else Ok (a_type (pointer (has_const_word qualifiers) t))
pointed at name_at qualifiers (an_open_array t) = refused subset.IncompleteType name_at
pointed at name_at qualifiers (a_function_type parameters t) = refused subset.BadPointer at

-- a pointer: not to a function, nor to an array without a length, which are rows on the form, and `const` is its only qualifier
unfoldable pub pointer_judged : Keep → At → At → List (Qualifier At) → Made → Judged Shape → Judged Shape
pointer_judged h at name_at qualifiers made j =
    also h (is_of_function made) subset.BadPointer at
    (also h (is_of_open_array made) subset.IncompleteType name_at
    (also_word h (other_word qualifiers) subset.BadSpecifier (on_part j (pointed at name_at qualifiers))))

-- an element of an array has a size (C99 6.7.5.2p1)
abbrev pub element : List PlainStructure → At → Shape → Ruled PlainType
element structures name_at (a_type t) = if is_complete structures t then Ok t else refused subset.IncompleteType name_at
element structures name_at (an_open_array t) = refused subset.IncompleteType name_at
element structures name_at (a_function_type parameters t) = refused subset.IncompleteType name_at

-- the length of an array, from 1 on: each element has a byte at least
abbrev pub array_length : ℤ → Option ℕ
array_length (pos n) = if nat_le 1 n && nat_le n most_bytes then Some n else None
array_length (negsuc n) = None

-- a number of elements as a length, at its tree
abbrev pub counted_length : At → Option ℕ → Ruled Length
counted_length at None = refused subset.BadLength at
counted_length at (Some n) = Ok (record { at = at; count = n })

-- a length that is a constant expression: a part that stops refuses it at that part
abbrev pub folded_length : At → Result ℤ At → Ruled Length
folded_length at (Ok z) = counted_length at (array_length z)
folded_length at (Err part) = refused subset.ConstantStops part

-- a length with the first part of it that isn't constant, if there is one
abbrev pub constant_length : PlainValue → Option At → Ruled Length
constant_length v None = folded_length (at_of v) (fold v)
constant_length v (Some part) = refused subset.BadLength (at_of v)

-- the length of an array, whatever its elements are: an integer constant expression of at least 1 (C99 6.7.5.2p1)
abbrev pub length_found : PlainValue → Ruled Length
length_found v = if is_integer (type_of v) then constant_length v (inconstant_part v) else refused subset.BadLength (at_of v)

-- an array with a length: it isn't larger than a type may be
abbrev pub sized_array : List PlainStructure → PlainType → Length → Ruled PlainType
sized_array structures t n =
    if has_size structures (array false t n.count) then Ok (array false t n.count) else refused subset.BadLength n.at

-- the same, as what a declarator makes
abbrev pub array_of : List PlainStructure → PlainType → Length → Ruled Shape
array_of structures t n = ruled (sized_array structures t n) (λ u. Ok (a_type u))

-- an array with a length: not of functions, nor of arrays without a length, which are rows on the form. Nothing in the
-- length counts for the order of evaluation
unfoldable pub array_judged : Keep → List PlainStructure → At → Made → Judged PlainValue → Judged Shape → Judged Shape
array_judged h structures name_at made length j = also h (lacks_size made) subset.IncompleteType name_at (record {
  found = on (pair h (on j.found (element structures name_at)) (on length.found length_found)) (λ (t, n). array_of structures t n);
  acts = false;
  reads = false;
})

-- an array whose length is lacking
unfoldable pub open_array_judged : Keep → List PlainStructure → At → Made → Judged Shape → Judged Shape
open_array_judged h structures name_at made j =
    also h (lacks_size made) subset.IncompleteType name_at (on_part (on_part j (element structures name_at)) (λ t. Ok (an_open_array t)))

-- what a function gives: a value or nothing, no array and no structure (C99 6.7.5.3p1)
abbrev pub given_type : At → At → Shape → Ruled PlainType
given_type at name_at (a_type (void c)) = Ok (void c)
given_type at name_at (a_type (integer c i)) = Ok (integer c i)
given_type at name_at (a_type (pointer c t)) = Ok (pointer c t)
given_type at name_at (a_type (array c t n)) = refused subset.IncompleteType name_at
given_type at name_at (a_type (structure c n)) = refused subset.StructurePassed at
given_type at name_at (an_open_array t) = refused subset.IncompleteType name_at
given_type at name_at (a_function_type parameters t) = refused subset.IncompleteType name_at

-- ## Parameters

-- before the first parameter
abbrev pub no_parameters : Found (List PlainType)
no_parameters = Ok []

-- whether a declarator names nothing and adds nothing
abbrev pub is_unnamed : Declarator At → Bool
is_unnamed (Unnamed at) = true
is_unnamed d = false

-- whether there is one parameter alone, whose declarator names nothing
abbrev pub is_alone : Parameters At → Bool
is_alone (MoreParameters (parameter at _ d) NoParameters) = is_unnamed d
is_alone all = false

-- a parameter of type `void`: alone and unnamed it says that there are none (C99 6.7.5.3p10)
abbrev pub void_parameter : Bool → At → Ruled (Option PlainType)
void_parameter alone name_at = if alone then Ok None else refused subset.IncompleteType name_at

-- the type of a parameter that has one: an array becomes a pointer to its elements (C99 6.7.5.3p7)
abbrev pub plain_parameter : Bool → At → At → PlainType → Ruled (Option PlainType)
plain_parameter alone at name_at (void c) = void_parameter alone name_at
plain_parameter alone at name_at (integer c i) = Ok (Some (integer c i))
plain_parameter alone at name_at (pointer c t) = Ok (Some (pointer c t))
plain_parameter alone at name_at (array c t n) = Ok (Some (pointer false t))
plain_parameter alone at name_at (structure c n) = refused subset.StructurePassed at

-- the type of a parameter; a function would become a pointer to it
abbrev pub parameter_type : Bool → At → At → At → Shape → Ruled (Option PlainType)
parameter_type alone at name_at declarator_at (a_type t) = plain_parameter alone at name_at t
parameter_type alone at name_at declarator_at (an_open_array t) = Ok (Some (pointer false t))
parameter_type alone at name_at declarator_at (a_function_type parameters t) = refused subset.BadPointer declarator_at

-- what the declarator of an array makes, by whether its length is there
abbrev pub array_made : Optional At → Made
array_made Absent = around.OpenArray
array_made (Present e) = around.Array

-- what a declarator makes by its form, if it stands in one that makes something
abbrev pub made_by : Made → Declarator At → Made
made_by made (Named name) = made
made_by made (Unnamed at) = made
made_by made (Pointer at qualifiers d) = made_by around.Pointer d
made_by made (Parenthesised at d) = made_by made d
made_by made (Array at d brackets length) = made_by (array_made length) d
made_by made (Function at d parentheses _ _) = made_by around.Function d

-- a parameter: that it is a function is a row on the form
unfoldable pub parameter_judged : Keep → Bool → At → Declarator At → Judged Shape → Found (Option PlainType)
parameter_judged h alone at d j =
    refused_where h (is_of_function (made_by around.Nothing d)) subset.BadPointer (declarator_place d)
    (on j.found (parameter_type alone at (name_place at d) (declarator_place d)))

-- types with one more at the end, if there is one
abbrev pub with_type : List PlainType → Option PlainType → List PlainType
with_type ts None = ts
with_type ts (Some t) = ts ++ t ∷ []

-- one parameter more
abbrev pub with_parameter : Keep → Found (List PlainType) → Found (Option PlainType) → Found (List PlainType)
with_parameter h before one = on (pair h before one) (λ (ts, o). Ok (with_type ts o))

-- `()`, or `...` after the parameters
abbrev pub lacks_prototype : Parameters At → Bool → Bool
lacks_prototype NoParameters dots = true
lacks_prototype (MoreParameters p rest) dots = dots

-- a function with its parameters: that it has a prototype, and gives neither a function nor an array, are rows on the form
unfoldable pub function_judged : Keep → At → At → At → Bool → Made → Found (List PlainType) → Judged Shape → Judged Shape
function_judged h at name_at parentheses lacking made parameters j =
    also h lacking subset.NoPrototype parentheses (also h (is_of_aggregate made) subset.IncompleteType name_at (record {
      found = on (pair h parameters (on j.found (given_type at name_at))) (λ (ts, t). Ok (a_function_type ts t));
      acts = false;
      reads = false;
    }))
