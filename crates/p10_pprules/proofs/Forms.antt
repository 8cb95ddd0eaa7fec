-- The test for complete units finds them.
use Rattle.std.proofs.Common.{◌≡◌, List, [], ◌∷◌, true, ◌||◌, codes, Option, Some, None, refl, ◌∙◌, ap, inl, inr}
use Rattle.std.proofs.lemmas.Bool.{and_parts}
use Rattle.p10_base.specs.Words.{PlainWord, is_name, is_name_kind, is_punctuator}
use Rattle.p10_pprules.specs.declared.bracket.Bracket.TheVariants.{Round, Curly}
use Rattle.p10_pprules.specs.Units.{is_number_kind, IsUnit, nothing, one_word, negative, parentheses, braces, call, do_while}
use Rattle.p10_pprules.specs.private.Scanning.{behind_group, is_one_group, is_negative, is_call, then_while_zero, is_do_while, is_short, is_long_unit, is_unit}
use Rattle.p10_pprules.proofs.Booleans.{or_left, or_right, either, both}
use Rattle.p10_pprules.proofs.Nesting.{group_again, group_found, one_group_is, is_group_one}

-- ## What passes is a unit

short_is : (words : List PlainWord) → is_short words ≡ true → IsUnit words
short_is [] e = nothing
short_is (word ∷ []) e = one_word word
short_is (word ∷ next ∷ words) e = absurd cc

negative_is : (words : List PlainWord) → is_negative words ≡ true → IsUnit words
negative_is (minus ∷ number ∷ []) e = let h = and_parts (is_punctuator (codes "-") minus) (is_number_kind number.kind) e in negative minus number h.0 h.1
negative_is [] e = absurd cc
negative_is (minus ∷ []) e = absurd cc
negative_is (minus ∷ number ∷ next ∷ words) e = absurd cc

call_is : (words : List PlainWord) → is_call words ≡ true → IsUnit words
call_is [] e = absurd cc
call_is (name ∷ words) e = let h = and_parts (is_name_kind name.kind) (is_one_group Round words) e in call name words h.0 (one_group_is Round words h.1)

do_while_of : (keyword : PlainWord) (words : List PlainWord) (rest : Option (List PlainWord)) → is_name (codes "do") keyword ≡ true → behind_group Curly words ≡ rest → then_while_zero rest ≡ true → IsUnit (keyword ∷ words)
do_while_of keyword words None is at e = absurd cc
do_while_of keyword words (Some rest) is at e = let found = group_found Curly words rest at in do_while keyword found.0 rest words is found.2 e found.1

do_while_is : (words : List PlainWord) → is_do_while words ≡ true → IsUnit words
do_while_is [] e = absurd cc
do_while_is (keyword ∷ words) e =
    let h = and_parts (is_name (codes "do") keyword) (then_while_zero (behind_group Curly words)) e in
    do_while_of keyword words (behind_group Curly words) h.0 refl h.1

long_is : (words : List PlainWord) → is_long_unit words ≡ true → IsUnit words
long_is words e =
    elim (either ((is_one_group Round words || is_one_group Curly words) || is_call words) (is_do_while words) e) [
      | inl e ↦ elim (either (is_one_group Round words || is_one_group Curly words) (is_call words) e) [
        | inl e ↦ elim (either (is_one_group Round words) (is_one_group Curly words) e) [
          | inl e ↦ parentheses words (one_group_is Round words e)
          | inr e ↦ braces words (one_group_is Curly words e)
        ]
        | inr e ↦ call_is words e
      ]
      | inr e ↦ do_while_is words e
    ]

pub unit_is : (words : List PlainWord) → is_unit words ≡ true → IsUnit words
unit_is words e =
    elim (either (is_short words || is_negative words) (is_long_unit words) e) [
      | inl e ↦ elim (either (is_short words) (is_negative words) e) [ inl e ↦ short_is words e | inr e ↦ negative_is words e ]
      | inr e ↦ long_is words e
    ]

-- ## A unit passes

is_long : (words : List PlainWord) → is_long_unit words ≡ true → is_unit words ≡ true
is_long words e = or_right (is_short words || is_negative words) (is_long_unit words) e

pub is_unit_one : (words : List PlainWord) → IsUnit words → is_unit words ≡ true
is_unit_one _ nothing = refl
is_unit_one _ (one_word word) = refl
is_unit_one _ (negative minus number sign is) =
    or_left (is_short (minus ∷ number ∷ []) || is_negative (minus ∷ number ∷ [])) (is_long_unit (minus ∷ number ∷ [])) (both (is_punctuator (codes "-") minus) (is_number_kind number.kind) sign is)
is_unit_one _ (parentheses words group) =
    is_long words (or_left _ (is_do_while words) (or_left _ (is_call words) (or_left _ (is_one_group Curly words) (is_group_one Round words group))))
is_unit_one _ (braces words group) =
    is_long words (or_left _ (is_do_while words) (or_left _ (is_call words) (or_right (is_one_group Round words) _ (is_group_one Curly words group))))
is_unit_one _ (call name words is group) =
    is_long (name ∷ words) (or_left _ (is_do_while (name ∷ words)) (or_right (is_one_group Round (name ∷ words) || is_one_group Curly (name ∷ words)) _ (both (is_name_kind name.kind) (is_one_group Round words) is (is_group_one Round words group))))
is_unit_one _ (do_while keyword group end words is braced once parts) =
    is_long (keyword ∷ words) (or_right ((is_one_group Round (keyword ∷ words) || is_one_group Curly (keyword ∷ words)) || is_call (keyword ∷ words)) _
    (both (is_name (codes "do") keyword) (then_while_zero (behind_group Curly words)) is (ap (λ l. then_while_zero (behind_group Curly l)) parts ∙ ap then_while_zero (group_again Curly group end braced) ∙ once)))
