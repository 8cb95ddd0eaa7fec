-- Literals: their bytes, and the numbers in the ranges of their types.
use Rattle.std.specs.Prelude.{◌≡◌, ℕ, zero, suc, ◌<◌, ◌-◌, ℤ, pos, Bool, true, false, ◌||◌, ◌==◌, nat_lt, Option, Some, None, option_map, option_and_then, List, [], ◌∷◌, ◌++◌, if◌then◌else◌, refl}
use Rattle.std.proofs.Common.{◌-ℤ◌, ap, sym, subst, arith}
use Rattle.std.proofs.lemmas.Int.{ints}
use Rattle.p10_base.specs.Words.{Text}
use Rattle.p10_base.specs.declared.at.At.{At}
use Rattle.p10_int.specs.declared.types.IntType.{IntType}
use Rattle.p10_int.specs.declared.types.IntType.TheVariants.{Int}
use Rattle.p10_int.specs.Types.{InRange, holds}
use Rattle.p10_int.proofs.InRange.{holds_in}
use Rattle.p10_lex.specs.declared.integers.Integer.{Integer}
use Rattle.p10_lex.specs.Integers.{integer_constant}
use Rattle.p10_lex.specs.Splices.{joined, joined_after, splice_length}
use Rattle.p10_lex.specs.Characters.{simple_escape, is_allowed, IsEscape, simple, octal, hexadecimal, Characters, none, plain, escape, char_value}
use Rattle.p10_lex.specs.Literals.{inside, values_of, one_of, character_value}
use Rattle.p10_lex.proofs.CharacterLaws.{reads}
use Rattle.p10_lex.proofs.Enclosing.{inside_takes}
use Rattle.p10_core.specs.Whole.{Surroundings, IsListed}
use Rattle.p10_elabx.specs.Literals.{constant_types, first_type, constant_of_type, integer_value, number_found, character_by, character_found, string_value, joined_after as values_after, strings_value, string_by, strings_found}
use Rattle.p10_elabx.specs.Wholeness.{AreBytes, AllAreBytes}
use Rattle.p10_elabx.proofs.WholeParts.{IfRuled, WholeOperand, if_so}

-- ## Numbers

-- the first type that has the value has it
first_holds : (types : List IntType) (z : ℤ) (i : IntType) → first_type types z ≡ Some i → InRange i z
first_holds [] z i e = absurd cc
first_holds (j ∷ rest) z i e = by (holds j z) refl (first_holds rest z i) e
  where
    by : (b : Bool) → holds j z ≡ b → (first_type rest z ≡ Some i → InRange i z) → (if b then Some j else first_type rest z) ≡ Some i → InRange i z
    by true h others e = let same : j ≡ i = cc in subst (λ k. InRange k z) same (holds_in j z h)
    by false h others e = others e

of_type_whole : (c : Surroundings) (at : At) (z : ℤ) (o : Option IntType) → ((i : IntType) → o ≡ Some i → InRange i z) → IfRuled (WholeOperand c false) (constant_of_type at z o)
of_type_whole c at z None h = tt
of_type_whole c at z (Some i) h = (record { kind = i; type_is = refl; in_range = h i refl }, refl)

constant_whole : (c : Surroundings) (at : At) (o : Option Integer) → IfRuled (WholeOperand c false) (integer_value at o)
constant_whole c at None = tt
constant_whole c at (Some n) = of_type_whole c at (pos n.value) _ (first_holds (constant_types n.base n.suffix) (pos n.value))

pub number_whole : (c : Surroundings) (at : At) (text : Text) → IfRuled (WholeOperand c false) (number_found at text)
number_whole c at text = constant_whole c at (integer_constant text)

-- ## Bytes

-- bytes, one after another
abbrev Bytes : Text → Type 0
Bytes [] = Unit {0}
Bytes (b ∷ rest) = (b < 256) × Bytes rest

bytes_in : (text : Text) → AreBytes text → Bytes text
bytes_in [] all = tt
bytes_in (b ∷ rest) all = (all 0 0 (omega arith), bytes_in rest (λ k d below. all (suc k) d (omega (arith, below))))

bytes_out : (text : Text) → Bytes text → AreBytes text
bytes_out [] all k d below = absurd (omega (arith, below))
bytes_out (b ∷ rest) all zero d below = all.0
bytes_out (b ∷ rest) all (suc k) d below = bytes_out rest all.1 k d (omega (arith, below))

bytes_both : (xs ys : Text) → Bytes xs → Bytes ys → Bytes (xs ++ ys)
bytes_both [] ys p q = q
bytes_both (x ∷ xs) ys p q = (p.0, bytes_both xs ys p.1 q)

bytes_left : (xs ys : Text) → Bytes (xs ++ ys) → Bytes xs
bytes_left [] ys p = tt
bytes_left (x ∷ xs) ys p = (p.0, bytes_left xs ys p.1)

bytes_right : (xs ys : Text) → Bytes (xs ++ ys) → Bytes ys
bytes_right [] ys p = p
bytes_right (x ∷ xs) ys p = bytes_right xs ys p.1

bytes_either : (b : Bool) (xs ys : Text) → Bytes xs → Bytes ys → Bytes (if b then xs else ys)
bytes_either true xs ys p q = p
bytes_either false xs ys p q = q

-- without splices
bytes_joined : (skip : ℕ) (text : Text) → Bytes text → Bytes (joined_after skip text)
unfolding joined_after
bytes_joined skip [] p = tt
bytes_joined (suc skip) (c ∷ rest) p = bytes_joined skip rest p.1
bytes_joined zero (c ∷ rest) p =
    bytes_either (nat_lt 0 (splice_length (c ∷ rest))) (joined_after (splice_length (c ∷ rest) - 1) rest) (c ∷ joined_after 0 rest)
    (bytes_joined (splice_length (c ∷ rest) - 1) rest p.1) (p.0, bytes_joined 0 rest p.1)

-- a simple escape is a byte
escape_byte : (byte value : ℕ) → byte < 256 → simple_escape byte ≡ Some value → value < 256
unfolding simple_escape
escape_byte byte value p e = by ((byte == 39) || (byte == 34) || (byte == 63) || (byte == 92)) e
  where
    one : (b : Bool) (n value : ℕ) (o : Option ℕ) → n < 256 → (o ≡ Some value → value < 256) → (if b then Some n else o) ≡ Some value → value < 256
    one true n value o p h e = let same : n ≡ value = cc in subst (λ k. k < 256) same p
    one false n value o p h e = h e

    by : (b : Bool) →
        (if b then Some byte
        else if byte == 97 then Some 7
        else if byte == 98 then Some 8
        else if byte == 116 then Some 9
        else if byte == 110 then Some 10
        else if byte == 118 then Some 11
        else if byte == 102 then Some 12
        else if byte == 114 then Some 13
        else None) ≡ Some value → value < 256
    by b = one b byte value _ p
        (one (byte == 97) 7 value _ (omega arith)
        (one (byte == 98) 8 value _ (omega arith)
        (one (byte == 116) 9 value _ (omega arith)
        (one (byte == 110) 10 value _ (omega arith)
        (one (byte == 118) 11 value _ (omega arith)
        (one (byte == 102) 12 value _ (omega arith)
        (one (byte == 114) 13 value _ (omega arith) (λ e. absurd cc))))))))

escaped : (rest body : Text) (value : ℕ) → IsEscape rest value body → Bytes body → value < 256
escaped rest body value (simple byte e) p = escape_byte byte value p.0 e
escaped rest body value (octal byte more a b d e small) p = omega (arith, small)
escaped rest body value (hexadecimal byte more a b e small) p = omega (arith, small)

characters_bytes : (allowed : ℕ → Bool) (text values : Text) → Characters allowed text values → Bytes text → Bytes values
characters_bytes allowed text values none p = tt
characters_bytes allowed text values (plain byte rest more other may r) p = (p.0, characters_bytes allowed rest more r p.1)
characters_bytes allowed text values (escape value body rest after more is parts r) p =
    let q : Bytes (body ++ rest) = subst Bytes parts p.1 in
    (escaped rest body value is (bytes_left body rest q), characters_bytes allowed rest more r (bytes_right body rest q))

-- the values between quotes
quoted_bytes : (quote : ℕ) (text values : Text) → option_and_then (values_of quote) (inside quote quote text) ≡ Some values → Bytes text → Bytes values
quoted_bytes quote text values e p = by (inside quote quote text) refl e
  where
    by : (found : Option Text) → inside quote quote text ≡ found → option_and_then (values_of quote) found ≡ Some values → Bytes values
    by None there e = absurd cc
    by (Some found) there e =
        let q : Bytes (quote ∷ found ++ quote ∷ []) = subst Bytes (inside_takes quote quote text found there) p in
        characters_bytes (is_allowed quote) (joined found) values (reads quote (joined found) values e)
        (bytes_joined 0 found (bytes_left found (quote ∷ []) q.1))

-- ## Characters

char_in : (n : ℕ) → n < 256 → InRange Int (char_value n)
char_in n p = by (nat_lt n 128) refl
  where
    by : (b : Bool) → nat_lt n 128 ≡ b → InRange Int (if b then pos n else pos n -ℤ pos 256)
    by true e = record { low = omega (arith, ints, p); high = omega (arith, ints, p) }
    by false e = record { low = omega (arith, ints, p); high = omega (arith, ints, p) }

-- the value of the only character
only_one : (values : Option Text) (n : ℕ) → option_and_then one_of values ≡ Some n → values ≡ Some (n ∷ [])
only_one None n e = absurd cc
only_one (Some []) n e = absurd cc
only_one (Some (m ∷ [])) n e = let same : m ≡ n = cc in ap (λ k. Some (k ∷ [])) same
only_one (Some (m ∷ k ∷ rest)) n e = absurd cc

character_in : (text : Text) (z : ℤ) → AreBytes text → character_value text ≡ Some z → InRange Int z
unfolding character_value
character_in text z p e = by (option_and_then (λ text. option_and_then one_of (values_of 39 text)) (inside 39 39 text)) refl e
  where
    only : (found : Option Text) (n : ℕ) → option_and_then (λ text. option_and_then one_of (values_of 39 text)) found ≡ Some n → option_and_then (values_of 39) found ≡ Some (n ∷ [])
    only None n e = absurd cc
    only (Some found) n e = only_one (values_of 39 found) n e

    by : (o : Option ℕ) → option_and_then (λ text. option_and_then one_of (values_of 39 text)) (inside 39 39 text) ≡ o → option_map char_value o ≡ Some z → InRange Int z
    by None there e = absurd cc
    by (Some n) there e =
        let same : char_value n ≡ z = cc in
        subst (InRange Int) same (char_in n (quoted_bytes 39 text (n ∷ []) (only (inside 39 39 text) n there) (bytes_in text p)).0)

pub character_whole : (c : Surroundings) (at : At) (text : Text) → AreBytes text → IfRuled (WholeOperand c false) (character_found at text)
character_whole c at text p = by (character_value text) refl
  where
    by : (o : Option ℤ) → character_value text ≡ o → IfRuled (WholeOperand c false) (character_by at o)
    by None e = tt
    by (Some z) e = (record { kind = Int; type_is = refl; in_range = character_in text z p e }, refl)

-- ## Strings

strings_bytes : (before : Option Text) (texts : List Text) (bytes : Text) → ((b : Text) → before ≡ Some b → Bytes b) → AllAreBytes texts → strings_value before texts ≡ Some bytes → Bytes bytes
strings_bytes None [] bytes p q e = absurd cc
strings_bytes None (text ∷ rest) bytes p q e = absurd cc
strings_bytes (Some b) [] bytes p q e = p bytes e
strings_bytes (Some b) (text ∷ rest) bytes p q e = strings_bytes (values_after b (string_value text)) rest bytes (by (string_value text) refl) q.1 e
  where
    by : (o : Option Text) → string_value text ≡ o → (x : Text) → values_after b o ≡ Some x → Bytes x
    by None there x e = absurd cc
    by (Some more) there x e =
        let same : b ++ more ≡ x = cc in
        subst Bytes same (bytes_both b more (p b refl) (quoted_bytes 34 text more there (bytes_in text q.0)))

pub strings_whole : (c : Surroundings) (at : At) (texts : List Text) → c.literals ≡ None → AllAreBytes texts → IfRuled (WholeOperand c false) (strings_found at texts)
strings_whole c at texts none_known p = by (strings_value (Some []) texts) refl
  where
    start : (b : Text) → Some [] ≡ Some b → Bytes b
    start b e = let same : [] ≡ b = cc in subst Bytes same tt

    by : (o : Option Text) → strings_value (Some []) texts ≡ o → IfRuled (WholeOperand c false) (string_by at o)
    by None e = tt
    by (Some bytes) e =
        if_so (WholeOperand c false) _ _ _
        (λ k. (
          record {
            type_is = refl;
            are_bytes = bytes_out (bytes ++ 0 ∷ []) (bytes_both bytes (0 ∷ []) (strings_bytes (Some []) texts bytes start p e) (omega arith, tt));
            is_listed = subst (λ o. IsListed o (record { number = at.first; bytes = bytes ++ 0 ∷ [] })) (sym none_known) tt;
          },
          record { frame_is = refl; sensor_is = refl },
        ))
