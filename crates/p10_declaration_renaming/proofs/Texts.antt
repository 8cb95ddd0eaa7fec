-- Strings in initialisers that stand at two places, and how many elements they give, are the same.
use Rattle.std.proofs.Common.{◌≡◌, refl, ap, subst, ◌+◌, Bool, true, false, length, Option, Some, None}
use Rattle.p10_base.specs.Words.{Text}
use Rattle.p10_base.specs.declared.at.At.{At}
use Rattle.p10_syn.specs.Trees.{Expression, expression, Number, Strings, Initializer, Value, Braced, Initializers, NoInitializers, MoreInitializers}
use Rattle.p10_core.specs.Types.{PlainType}
use Rattle.p10_core.specs.WholePrograms.{is_character}
use Rattle.p10_elabd.specs.Initializers.{string_in, with_place, value_string, string_alone, string_by, string_for, is_zero, is_zero_item, is_zero_list, count_items, listed_count, elements_given}
use Rattle.p10_renaming.specs.Renaming.{Pairing, SameType, same_void, same_integer, same_pointer, same_array, same_structure}
use Rattle.p10_expression_renaming.specs.Mapped.{mapped_expression}
use Rattle.p10_expression_renaming.specs.MappedStatements.{mapped_initializer, mapped_initializers}
use Rattle.p10_expression_renaming.proofs.TypeNames.{left, right}
use Rattle.p10_declaration_renaming.specs.Standings.{Both}

-- strings with the same bytes
abbrev pub SameText : Option (At × Text) → Option (At × Text) → Type 0
SameText o q = Both (λ x y. x.1 ≡ y.1) o q

pub character_same : (R : Pairing) {t u : PlainType} → SameType R t u → is_character t ≡ is_character u
character_same R same_void = refl
character_same R same_integer = refl
character_same R (same_pointer h) = refl
character_same R (same_array h) = refl
character_same R (same_structure paired) = refl

string_in_same : (e : Expression (At × At)) → string_in (mapped_expression left e) ≡ string_in (mapped_expression right e)
string_in_same (expression at n (Strings texts)) = refl
string_in_same (expression at n form) = refl

placed_same : (c : Bool) (at to : At) (o : Option Text) → SameText (with_place c at o) (with_place c to o)
placed_same true at to None = tt
placed_same true at to (Some bytes) = refl
placed_same false at to o = tt

value_string_same : (c d : Bool) → c ≡ d → (i : Initializer (At × At)) → SameText (value_string c (mapped_initializer left i)) (value_string d (mapped_initializer right i))
value_string_same c d same (Braced at items comma) = tt
value_string_same c d same (Value (expression at n form)) =
    let e : Expression (At × At) = expression at n form in
    subst (λ x. SameText (value_string c (mapped_initializer left (Value e))) (with_place x at.1 (string_in (mapped_expression right e)))) same
    (subst (λ o. SameText (value_string c (mapped_initializer left (Value e))) (with_place c at.1 o)) (string_in_same e) (placed_same c at.0 at.1 (string_in (mapped_expression left e))))

pub string_alone_same : (c d : Bool) → c ≡ d → (items : Initializers (At × At)) → SameText (string_alone c (mapped_initializers left items)) (string_alone d (mapped_initializers right items))
string_alone_same c d same NoInitializers = tt
string_alone_same c d same (MoreInitializers i NoInitializers) = value_string_same c d same i
string_alone_same c d same (MoreInitializers i (MoreInitializers j rest)) = tt

string_by_same : (c d : Bool) → c ≡ d → (i : Initializer (At × At)) → SameText (string_by c (mapped_initializer left i)) (string_by d (mapped_initializer right i))
string_by_same c d same (Value e) = value_string_same c d same (Value e)
string_by_same c d same (Braced at items comma) = string_alone_same c d same items

pub string_for_same : (R : Pairing) {t u : PlainType} → SameType R t u → (i : Initializer (At × At)) → SameText (string_for t (mapped_initializer left i)) (string_for u (mapped_initializer right i))
string_for_same R {t = t} {u = u} h i = string_by_same (is_character t) (is_character u) (character_same R h) i

-- ## `{0}`

zero_same : (e : Expression (At × At)) → is_zero (mapped_expression left e) ≡ is_zero (mapped_expression right e)
zero_same (expression at n (Number text)) = refl
zero_same (expression at n form) = refl

zero_item_same : (i : Initializer (At × At)) → is_zero_item (mapped_initializer left i) ≡ is_zero_item (mapped_initializer right i)
zero_item_same (Value e) = zero_same e
zero_item_same (Braced at items comma) = refl

pub zero_list_same : (items : Initializers (At × At)) → is_zero_list (mapped_initializers left items) ≡ is_zero_list (mapped_initializers right items)
zero_list_same NoInitializers = refl
zero_list_same (MoreInitializers i NoInitializers) = zero_item_same i
zero_list_same (MoreInitializers i (MoreInitializers j rest)) = refl

-- ## Elements

count_same : (items : Initializers (At × At)) → count_items (mapped_initializers left items) ≡ count_items (mapped_initializers right items)
count_same NoInitializers = refl
count_same (MoreInitializers i rest) = ap (λ n. 1 + n) (count_same rest)

listed_same : (i : Initializer (At × At)) → listed_count (mapped_initializer left i) ≡ listed_count (mapped_initializer right i)
listed_same (Value e) = refl
listed_same (Braced at items comma) = ap Some (count_same items)

elements_by : (t u : PlainType) (i : Initializer (At × At)) (o q : Option (At × Text)) → string_for t (mapped_initializer left i) ≡ o → string_for u (mapped_initializer right i) ≡ q → SameText o q
    → elements_given t (mapped_initializer left i) ≡ elements_given u (mapped_initializer right i)
elements_by t u i None None e d k = rw (e, d) (listed_same i)
elements_by t u i (Some (at, bytes)) (Some (to, others)) e d k = rw (e, d) (ap (λ (b : Text). Some (length b + 1)) k)
elements_by t u i None (Some y) e d k = absurd k
elements_by t u i (Some x) None e d k = absurd k

-- how many elements an array gets from its initialiser
pub elements_same : (R : Pairing) {t u : PlainType} → SameType R t u → (i : Initializer (At × At)) → elements_given t (mapped_initializer left i) ≡ elements_given u (mapped_initializer right i)
elements_same R {t = t} {u = u} h i = elements_by t u i (string_for t (mapped_initializer left i)) (string_for u (mapped_initializer right i)) refl refl (string_for_same R h i)
