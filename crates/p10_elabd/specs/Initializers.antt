-- Initialisers (C99 6.7.8). Braces aren't left out, except that `{0}` may stand for any aggregate.
use Rattle.std.specs.Prelude.{ℕ, nat_eq, ◌&&◌, ◌+◌, ◌-◌, pos, nat_le, nat_lt, Bool, true, false, if◌then◌else◌, List, [], ◌∷◌, ◌++◌, map, length, slice_get, Option, Some, None, is_some, option_map, Ok, codes, bytes_eq}
use Rattle.p10_base.specs.Words.{Text}
use Rattle.p10_base.specs.declared.at.At.{At}
use Rattle.p10_base.specs.declared.codes.SubsetCode.TheVariants as subset
use Rattle.p10_syn.specs.Trees.{Expression, expression, Number, Strings, Initializer, Value, Braced, Initializers, NoInitializers, MoreInitializers}
use Rattle.p10_core.specs.Types.{PlainType, void, array, structure, unqualified, PlainStructure, members_of}
use Rattle.p10_core.specs.Sizes.{scalars_of}
use Rattle.p10_core.specs.Completing.{is_object_type}
use Rattle.p10_core.specs.Rows.{same, is_scalar, int_type}
use Rattle.p10_core.specs.Typed.{PlainPlace, PlainValue, value, constant, read, at_of, PlainWritten, one_scalar, scalars_of_text, PlainItem, PlainInitializer, single, copied, listed}
use Rattle.p10_core.specs.WholePrograms.{is_character}
use Rattle.p10_elabx.specs.First.{Keep, Ruled, ruled, refused}
use Rattle.p10_elabx.specs.Operands.{converted}
use Rattle.p10_elabx.specs.Operators.{fitted}
use Rattle.p10_elabx.specs.Literals.{strings_value}
use Rattle.p10_elabd.specs.declared.lifetime.Lifetime.{Lifetime}
use Rattle.p10_elabd.specs.declared.lifetime.Lifetime.TheVariants as life_is
use Rattle.p10_elabd.specs.Standing.{PlainStanding, Passed, passed, nothing_made, refusing}
use Rattle.p10_elabd.specs.Expressions.{value_by}
use Rattle.p10_elabd.specs.StaticValues.{static_value}

-- ## Values

-- a value for an object of a lifetime
abbrev pub living : Lifetime → PlainValue → Ruled PlainValue
living life_is.Automatic v = Ok v
living life_is.Static v = static_value v

-- a value for a scalar of a type
abbrev pub scalar_value : Lifetime → PlainType → PlainValue → Ruled PlainValue
scalar_value life t v = ruled (fitted (at_of v) v t) (living life)

-- the copy of a place, which is no constant
abbrev pub copied_place : Lifetime → At → PlainPlace → Ruled PlainInitializer
copied_place life_is.Automatic at q = Ok (copied q)
copied_place life_is.Static at q = refused subset.NotConstant at

-- the copy of a structure
abbrev pub copied_value : Lifetime → PlainType → PlainValue → Ruled PlainInitializer
copied_value life t (value at u (read q)) = if same (unqualified t) u then copied_place life at q else refused subset.TypesDiffer at
copied_value life t v = refused subset.TypesDiffer (at_of v)

-- ## Strings

-- the bytes of strings that stand alone, without parentheses
abbrev pub string_in : Expression At → Option Text
string_in (expression at n (Strings texts)) = if nat_eq n 0 then strings_value (Some []) texts else None
string_in e = None

-- bytes with their place, where they may stand
abbrev pub with_place : Bool → At → Option Text → Option (At × Text)
with_place true at (Some bytes) = Some (at, bytes)
with_place b at bytes = None

-- the bytes of a string that isn't in braces, where characters are initialised
abbrev pub value_string : Bool → Initializer At → Option (At × Text)
value_string characters (Value (expression at n f)) = with_place characters at (string_in (expression at n f))
value_string characters i = None

-- the bytes of a string that stands alone in braces
abbrev pub string_alone : Bool → Initializers At → Option (At × Text)
string_alone characters (MoreInitializers i NoInitializers) = value_string characters i
string_alone characters items = None

-- the bytes of a string for an array of characters (C99 6.7.8p14): one in braces is one too
abbrev pub string_by : Bool → Initializer At → Option (At × Text)
string_by characters (Value e) = value_string characters (Value e)
string_by characters (Braced at items comma) = string_alone characters items

-- the same, by the type of the array's elements
abbrev pub string_for : PlainType → Initializer At → Option (At × Text)
string_for t i = string_by (is_character t) i

-- ## Lists

-- whether an expression is the number written `0`
abbrev pub is_zero : Expression At → Bool
is_zero (expression at n (Number text)) = nat_eq n 0 && bytes_eq text (codes "0")
is_zero e = false

-- whether an item is
abbrev pub is_zero_item : Initializer At → Bool
is_zero_item (Value e) = is_zero e
is_zero_item i = false

-- whether a list is `{0}`
abbrev pub is_zero_list : Initializers At → Bool
is_zero_list (MoreInitializers i NoInitializers) = is_zero_item i
is_zero_list items = false

-- where an initialiser stands
abbrev pub initializer_at : Initializer At → At
initializer_at (Value (expression at n f)) = at
initializer_at (Braced at items comma) = at

-- how many items there are
abbrev pub count_items : Initializers At → ℕ
count_items NoInitializers = 0
count_items (MoreInitializers i rest) = 1 + count_items rest

-- how many scalars a type of objects has; each type that is declared and has a size is one
abbrev pub scalar_count : List PlainStructure → PlainType → ℕ
scalar_count structures t = if is_object_type structures t then length (scalars_of structures t) else 0

-- the items so far with one more
abbrev pub item_added : Option (List PlainItem) → Option PlainItem → Option (List PlainItem)
item_added (Some items) (Some i) = Some (items ++ i ∷ [])
item_added items i = None

-- an item more, that was made or not
abbrev pub with_item : Passed (List PlainItem) → Passed PlainItem → Passed (List PlainItem)
with_item p q = record { made = item_added p.made q.made; after = q.after }

-- a value as an item for the scalar at a place
abbrev pub scalar_item : Lifetime → PlainType → ℕ → PlainValue → Ruled PlainItem
scalar_item life t scalar v = ruled (scalar_value life t v) (λ w. Ok (record { scalar = scalar; written = one_scalar w }))

-- zero for the first scalar of an aggregate
abbrev pub zero_item : At → ℕ → Option PlainType → Option PlainItem
zero_item at scalar None = None
zero_item at scalar (Some t) = Some (record { scalar = scalar; written = one_scalar (converted (value at int_type (constant (pos 0))) t) })

-- a value as an item: for a scalar; an aggregate needs braces
abbrev pub expression_ruled : Lifetime → PlainType → ℕ → PlainValue → Ruled PlainItem
expression_ruled life t scalar v = if is_scalar t then scalar_item life t scalar v else refused subset.TypesDiffer (at_of v)

-- an expression as an item
abbrev pub expression_item : Keep → Lifetime → PlainType → ℕ → PlainStanding → Expression At → Passed PlainItem
expression_item h life t scalar s e = value_by h s e (expression_ruled life t scalar)

-- a string as an item: it is no longer than the array, except for the 0 at its end
abbrev pub text_item : Keep → ℕ → ℕ → PlainStanding → At × Text → Passed PlainItem
text_item h n scalar s (at, bytes) =
    if nat_le (length bytes) n then passed (record { scalar = scalar; written = scalars_of_text bytes }) s
    else nothing_made (refusing h true subset.TypesDiffer at s)

-- the place of an item, if a part after it isn't refused either
abbrev pub place_if_made : Passed At → Passed At → Passed At
place_if_made p q = record { made = if is_some q.made then p.made else None; after = q.after }

abbrev mutual
  -- the place of an item for which there is nothing left to initialise, if no part of it is refused: the expressions in it are values
  -- whose types nothing is asked of
  pub unplaced : Keep → PlainStanding → Initializer At → Passed At
  unplaced h s (Value e) = value_by h s e (λ v. Ok (at_of v))
  unplaced h s (Braced at items comma) = unplaced_items h (passed at s) items

  -- the same of the items in a list
  pub unplaced_items : Keep → Passed At → Initializers At → Passed At
  unplaced_items h p NoInitializers = p
  unplaced_items h p (MoreInitializers i rest) = unplaced_items h (place_if_made p (unplaced h p.after i)) rest

-- the row on types at a place, where no part is refused
abbrev pub differing_at : Keep → Option At → PlainStanding → Passed PlainItem
differing_at h None s = nothing_made s
differing_at h (Some at) s = nothing_made (refusing h true subset.TypesDiffer at s)

-- an item for which there is nothing left to initialise
abbrev pub surplus_item : Keep → PlainStanding → Initializer At → Passed PlainItem
surplus_item h s i = let p : Passed At = unplaced h s i in differing_at h p.made p.after

-- items after the last: the first of them is one too many
abbrev pub no_surplus : Keep → Passed (List PlainItem) → Initializers At → Passed (List PlainItem)
no_surplus h p NoInitializers = p
no_surplus h p (MoreInitializers i rest) = with_item p (surplus_item h p.after i)

-- the first item in the braces of a scalar, which is an expression
abbrev pub braced_first : Keep → Lifetime → PlainType → ℕ → Passed (List PlainItem) → Initializer At → Passed (List PlainItem)
braced_first h life t scalar p (Value e) = with_item p (expression_item h life t scalar p.after e)
braced_first h life t scalar p (Braced at items comma) = with_item p (surplus_item h p.after (Braced at items comma))

-- the braces of a scalar hold one expression (C99 6.7.8p11)
abbrev pub braced_scalar : Keep → Lifetime → PlainType → ℕ → Passed (List PlainItem) → Initializers At → Passed (List PlainItem)
braced_scalar h life t scalar p NoInitializers = p
braced_scalar h life t scalar p (MoreInitializers one rest) = no_surplus h (braced_first h life t scalar p one) rest

-- what is left to initialise of an aggregate: a number of elements of a type; or members of these types
pub data Slots : Type 0 where
  elements : PlainType → ℕ → Slots
  members : List PlainType → Slots
  no_slots : Slots

-- what there is to initialise of a type
abbrev pub slots_of : List PlainStructure → PlainType → Slots
slots_of structures (array c t n) = elements t n
slots_of structures (structure c n) = members (map (λ m. m.type) (members_of structures n))
slots_of structures t = no_slots

-- whether something is left
abbrev pub has_slot : Slots → Bool
has_slot (elements t n) = nat_lt 0 n
has_slot (members []) = false
has_slot (members (t ∷ rest)) = true
has_slot no_slots = false

-- the type of what comes next; `void` where nothing does
abbrev pub slot_type : Slots → PlainType
slot_type (elements t n) = t
slot_type (members []) = void false
slot_type (members (t ∷ rest)) = t
slot_type no_slots = void false

-- what is left after that
abbrev pub after_slot : Slots → Slots
after_slot (elements t n) = elements t (n - 1)
after_slot (members []) = members []
after_slot (members (t ∷ rest)) = members rest
after_slot no_slots = no_slots

-- the type of an array's elements; `void` for what is no array
abbrev pub element_of : PlainType → PlainType
element_of (array c t n) = t
element_of t = void false

-- the length of an array
abbrev pub length_of : PlainType → ℕ
length_of (array c t n) = n
length_of t = 0

-- an expression as an item, which may be a string for an array of characters
abbrev pub by_string : Keep → Lifetime → PlainType → ℕ → PlainStanding → Expression At → Option (At × Text) → Passed PlainItem
by_string h life t scalar s e None = expression_item h life t scalar s e
by_string h life t scalar s e (Some text) = text_item h (length_of t) scalar s text

-- a string in braces, or what the list in them is
abbrev pub braced_string : Keep → PlainType → ℕ → Passed (List PlainItem) → Option (At × Text) → Passed (List PlainItem) → Passed (List PlainItem)
braced_string h t scalar p None others = others
braced_string h t scalar p (Some text) others = with_item p (text_item h (length_of t) scalar p.after text)

-- what is written in braces, where it is known what the items of an aggregate are
abbrev pub list_passed : Keep → Lifetime → PlainType → ℕ → Passed (List PlainItem) → At → Initializers At → Passed (List PlainItem) → Passed (List PlainItem)
list_passed h life t scalar p at items others =
    if is_scalar t then braced_scalar h life t scalar p items
    else (if is_zero_list items then with_item p (record { made = zero_item at scalar (slice_get (scalars_of p.after.scope.structures t) 0); after = p.after })
    else braced_string h t scalar p (string_alone (is_character (element_of t)) items) others)

abbrev mutual
  -- what is written for the scalars of a type from a place on, after the items before
  pub item_passed : Keep → Lifetime → PlainType → ℕ → Passed (List PlainItem) → Initializer At → Passed (List PlainItem)
  item_passed h life t scalar p (Value e) = with_item p (by_string h life t scalar p.after e (string_for (element_of t) (Value e)))
  item_passed h life t scalar p (Braced at items comma) =
      list_passed h life t scalar p at items (items_passed h life (slots_of p.after.scope.structures t) scalar p items)

  -- items for what is left of an aggregate
  pub items_passed : Keep → Lifetime → Slots → ℕ → Passed (List PlainItem) → Initializers At → Passed (List PlainItem)
  items_passed h life slots scalar p NoInitializers = p
  items_passed h life slots scalar p (MoreInitializers one rest) =
      if has_slot slots
      then items_passed h life (after_slot slots) (scalar + scalar_count p.after.scope.structures (slot_type slots)) (item_passed h life (slot_type slots) scalar p one) rest
      else no_surplus h p (MoreInitializers one rest)

-- ## Whole initialisers

-- what is written, as a value
abbrev pub as_value : PlainWritten → Option PlainInitializer
as_value (one_scalar v) = Some (single v)
as_value (scalars_of_text bytes) = None

-- the only item as a value
abbrev pub only_value : Option (List PlainItem) → Option PlainInitializer
only_value (Some (i ∷ [])) = as_value i.written
only_value items = None

-- the items of a scalar's braces as its value
abbrev pub as_single : Passed (List PlainItem) → Passed PlainInitializer
as_single p = record { made = only_value p.made; after = p.after }

-- items as a list with its place
abbrev pub as_listed : At → Passed (List PlainItem) → Passed PlainInitializer
as_listed at p = record { made = option_map (listed at) p.made; after = p.after }

-- a value for an object of a type: of a structure it is copied
abbrev pub value_for : Lifetime → PlainType → PlainValue → Ruled PlainInitializer
value_for life (structure c n) v = copied_value life (structure c n) v
value_for life (array c t n) v = refused subset.TypesDiffer (at_of v)
value_for life t v = ruled (scalar_value life t v) (λ w. Ok (single w))

-- an expression for an object of a type
abbrev pub expression_passed : Keep → Lifetime → PlainType → PlainStanding → Expression At → Passed PlainInitializer
expression_passed h life t s e = value_by h s e (value_for life t)

-- an initialiser that isn't in braces, which may be a string
abbrev pub unbraced : Keep → Lifetime → PlainType → PlainStanding → Expression At → Option (At × Text) → Passed PlainInitializer
unbraced h life t s e None = expression_passed h life t s e
unbraced h life t s e (Some (at, bytes)) = as_listed at (with_item (passed [] s) (text_item h (length_of t) 0 s (at, bytes)))

-- the initialiser of an object of a type
abbrev pub initialized : Keep → Lifetime → PlainType → PlainStanding → Initializer At → Passed PlainInitializer
initialized h life t s (Value e) = unbraced h life t s e (string_for (element_of t) (Value e))
initialized h life t s (Braced at items comma) =
    let p : Passed (List PlainItem) = item_passed h life t 0 (passed [] s) (Braced at items comma) in
    if is_scalar t then as_single p else as_listed at p

-- how many items a list has
abbrev pub listed_count : Initializer At → Option ℕ
listed_count (Value e) = None
listed_count (Braced at items comma) = Some (count_items items)

-- how many elements an initialiser gives to an array without a length (C99 6.7.8p22): one for each item, or for each byte of a
-- string and the 0 at its end; none where it is an expression
abbrev pub elements_given : PlainType → Initializer At → Option ℕ
elements_given t i = by_text (string_for t i) i
  where
    by_text : Option (At × Text) → Initializer At → Option ℕ
    by_text (Some (at, bytes)) i = Some (length bytes + 1)
    by_text None i = listed_count i
