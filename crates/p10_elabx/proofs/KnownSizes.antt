-- Sizes of types as far as a type may be large.
use Rattle.std.specs.Prelude.{◌≡◌, ℕ, ◌*◌, ◌≤◌, ◌<◌, Bool, true, false, ◌&&◌, nat_le, is_some, Option, Some, None, List, if◌then◌else◌, refl}
use Rattle.std.proofs.Common.{ap, sym, ◌∙◌, subst, arith}
use Rattle.std.proofs.lemmas.Bool.{le-leb, leb-true}
use Rattle.std.proofs.lemmas.Bool.Decides.{nat_tests}
use Rattle.p10_int.specs.declared.types.IntType.{IntType}
use Rattle.p10_int.specs.declared.types.IntType.TheVariants.{Bool as Truth, Char, SChar, UChar, Short, UShort, Int, UInt, Long, ULong, LLong, ULLong}
use Rattle.p10_core.specs.Types.{PlainType, void, integer, pointer, array, structure, PlainBody, PlainStructure, body_of}
use Rattle.p10_core.specs.Sizes.{integer_bytes, layout_of, size_of}
use Rattle.p10_core.specs.WholePrograms.{AreWholeStructures, IsWholeBody, most_bytes}
use Rattle.p10_elabx.specs.Operators.{has_size}

-- a number, if a condition holds
abbrev where_so : ℕ → Bool → Option ℕ
where_so n b = if b then Some n else None

-- the size of a type, if it has one
abbrev known : List PlainStructure → PlainType → Option ℕ
known ss t = where_so (size_of ss t) (has_size ss t)

known_some : (b : Bool) (n size : ℕ) → Some size ≡ where_so n b → (b ≡ true) × (size ≡ n)
known_some true n size e = (refl, cc)
known_some false n size e = absurd cc

known_none : (b : Bool) (n : ℕ) → None ≡ where_so n b → b ≡ false
known_none true n e = absurd cc
known_none false n e = refl

second : (a b : Bool) → (a && b) ≡ true → b ≡ true
second true b e = e
second false b e = absurd cc

above : (a b : ℕ) → b < a → nat_le a b ≡ false
above a b h = grind (arith, nat_tests)

-- the most bytes as a number
pub most_is : (n : ℕ) → nat_le n most_bytes ≡ nat_le n 1099511627776
unfolding most_bytes
most_is n = refl

-- ## Scalars

integer_small : (i : IntType) → nat_le (integer_bytes i) most_bytes ≡ true
unfolding most_bytes
integer_small Truth = refl
integer_small Char = refl
integer_small SChar = refl
integer_small UChar = refl
integer_small Short = refl
integer_small UShort = refl
integer_small Int = refl
integer_small UInt = refl
integer_small Long = refl
integer_small ULong = refl
integer_small LLong = refl
integer_small ULLong = refl

-- an integer type has a size
pub integer_known : (ss : List PlainStructure) (c : Bool) (i : IntType) →
    Some (size_of ss (integer c i)) ≡ (if has_size ss (integer c i) then Some (size_of ss (integer c i)) else None)
unfolding layout_of
integer_known ss c i = ap (where_so (integer_bytes i)) (sym (integer_small i))

-- so has a pointer
pub pointer_known : (ss : List PlainStructure) (c : Bool) (t : PlainType) →
    Some 8 ≡ (if has_size ss (pointer c t) then Some (size_of ss (pointer c t)) else None)
unfolding layout_of most_bytes
pointer_known ss c t = refl

-- ## Arrays

pub product_within : (n r : ℕ) → n * r ≤ 1099511627776 → Some (n * r) ≡ (if nat_le (n * r) most_bytes then Some (n * r) else None)
unfolding most_bytes
product_within n r h = ap (where_so (n * r)) (sym (le-leb (n * r) 1099511627776 h))

pub product_beyond : (n r : ℕ) → 1099511627776 < n * r → None ≡ (if nat_le (n * r) most_bytes then Some (n * r) else None)
unfolding most_bytes
product_beyond n r h = ap (where_so (n * r)) (sym (above (n * r) 1099511627776 h))

has_small : (ss : List PlainStructure) (t : PlainType) → has_size ss t ≡ true → nat_le (size_of ss t) most_bytes ≡ true
has_small ss (void c) e = absurd cc
has_small ss (integer c i) e = e
has_small ss (pointer c t) e = e
has_small ss (array c t n) e = second (has_size ss t) (nat_le (size_of ss (array c t n)) most_bytes) e
has_small ss (structure c n) e = second (is_some (body_of ss n)) (nat_le (size_of ss (structure c n)) most_bytes) e

-- a known size isn't larger than a type may be
pub known_small : (ss : List PlainStructure) (t : PlainType) (size : ℕ) →
    Some size ≡ (if has_size ss t then Some (size_of ss t) else None) → size ≤ most_bytes
known_small ss t size e =
    let both : (has_size ss t ≡ true) × (size ≡ size_of ss t) = known_some _ _ size e in
    subst (λ k. k ≤ most_bytes) (sym both.1) (leb-true _ _ (has_small ss t both.0))

-- an array has n times the size of an element
pub array_known : (ss : List PlainStructure) (whole : PlainType) (c : Bool) (t : PlainType) (n size : ℕ) (r : Option ℕ) → whole ≡ array c t n →
    Some size ≡ (if has_size ss t then Some (size_of ss t) else None) →
    r ≡ (if nat_le (n * size) most_bytes then Some (n * size) else None) →
    r ≡ (if has_size ss whole then Some (size_of ss whole) else None)
unfolding layout_of
array_known ss whole c t n size r is e p =
    let both : (has_size ss t ≡ true) × (size ≡ size_of ss t) = known_some _ _ size e in
    p
    ∙ ap (λ k. where_so (n * k) (nat_le (n * k) most_bytes)) both.1
    ∙ ap (λ b. where_so (n * size_of ss t) (b && nat_le (n * size_of ss t) most_bytes)) (sym both.0)
    ∙ ap (known ss) (sym is)

-- an array of elements without a known size has none
pub array_unknown : (ss : List PlainStructure) (c : Bool) (t : PlainType) (n : ℕ) →
    None ≡ (if has_size ss t then Some (size_of ss t) else None) →
    None ≡ (if has_size ss (array c t n) then Some (size_of ss (array c t n)) else None)
unfolding layout_of
array_unknown ss c t n e = ap (λ b. where_so (size_of ss (array c t n)) (b && nat_le (size_of ss (array c t n)) most_bytes)) (sym (known_none _ _ e))

-- ## Structures

-- a complete structure has the size of its body
pub structure_known : (ss : List PlainStructure) → AreWholeStructures ss → (c : Bool) (n : ℕ) (b : PlainBody) → Some b ≡ body_of ss n →
    Some b.bytes ≡ (if has_size ss (structure c n) then Some (size_of ss (structure c n)) else None)
unfolding layout_of
structure_known ss w c n b e =
    let whole : IsWholeBody ss n b = w.bodies n b (sym e) in
    let there : true ≡ is_some (body_of ss n) = ap is_some e in
    let small : nat_le (size_of ss (structure false n)) most_bytes ≡ true = le-leb _ _ (subst (λ k. k ≤ most_bytes) whole.bytes_are whole.small) in
    ap (λ (k : ℕ). let o : Option ℕ = Some k in o) whole.bytes_are
    ∙ ap (where_so (size_of ss (structure false n))) (sym small)
    ∙ ap (λ x. where_so (size_of ss (structure false n)) (x && nat_le (size_of ss (structure false n)) most_bytes)) there

-- one that isn't complete has none
pub structure_unknown : (ss : List PlainStructure) (c : Bool) (n : ℕ) → None ≡ body_of ss n →
    None ≡ (if has_size ss (structure c n) then Some (size_of ss (structure c n)) else None)
structure_unknown ss c n e =
    ap (λ o. where_so (size_of ss (structure c n)) (is_some o && nat_le (size_of ss (structure c n)) most_bytes)) e
