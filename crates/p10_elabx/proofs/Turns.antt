-- Loops over specifiers and strings, one turn at a time.
use Rattle.std.specs.Prelude.{◌≡◌, ℕ, suc, ◌+◌, Some, Option, List, ◌∷◌, ◌++◌, length, map}
use Rattle.std.proofs.Common.{◌∙◌, ◌<◌, ap, sym, drop, drop-cons, get_or, add-one}
use Rattle.std.specs.Borrow.{Bor}
use Rattle.p10_base.specs.Words.{Text}
use Rattle.p10_syn.specs.declared.tree.Spec.{Spec}
use Rattle.p10_syn.specs.Trees.{MoreSpecifiers, specifier_row}
use Rattle.p10_syn.specs.Built.{specifier_of}
use Rattle.p10_core.specs.Types.{PlainType}
use Rattle.p10_elabx.specs.declared.words.Said.{Said}
use Rattle.p10_elabx.specs.First.{Found, Ruled, only_first}
use Rattle.p10_elabx.specs.Scopes.{PlainScope}
use Rattle.p10_elabx.specs.Literals.{string_value, joined_after, strings_value}
use Rattle.p10_elabx.specs.TypeNames.{said_by, said_of, specifier_rule, with_specifier, specifiers_found}

-- what one specifier says
pub step_said : (i : ℕ) (all : List Spec) (one : Spec) (old new : Said) →
    specifier_row (map specifier_of (drop i all)) ≡ MoreSpecifiers (specifier_of one) (specifier_row (map specifier_of (drop (i + 1) all))) →
    new ≡ said_by (specifier_of one) old →
    said_of (specifier_row (map specifier_of (drop i all))) old ≡ said_of (specifier_row (map specifier_of (drop (i + 1) all))) new
step_said i all one old new cut e =
    ap (λ row. said_of row old) cut ∙ ap (said_of (specifier_row (map specifier_of (drop (i + 1) all)))) (sym e)

-- what one specifier names
pub step_specifiers : (s : PlainScope) (i : ℕ) (all : List Spec) (one : Spec) (f g : Found (Option PlainType)) (r : Ruled (Option PlainType)) →
    specifier_row (map specifier_of (drop i all)) ≡ MoreSpecifiers (specifier_of one) (specifier_row (map specifier_of (drop (i + 1) all))) →
    r ≡ specifier_rule s (specifier_of one) → g ≡ with_specifier only_first f r →
    specifiers_found only_first s f (specifier_row (map specifier_of (drop i all)))
    ≡ specifiers_found only_first s g (specifier_row (map specifier_of (drop (i + 1) all)))
step_specifiers s i all one f g r cut er eg =
    ap (specifiers_found only_first s f) cut
    ∙ ap (λ x. specifiers_found only_first s x (specifier_row (map specifier_of (drop (i + 1) all)))) (sym (eg ∙ ap (with_specifier only_first f) er))

-- the texts from a place on
pub cut_texts : (all : List (Bor (List ℕ))) (i : ℕ) (text : Bor (List ℕ)) → i < length all → text ≡ get_or all i text → drop i all ≡ text ∷ drop (i + 1) all
cut_texts all i text below is =
    drop-cons all i text below ∙ ap (λ x. x ∷ drop (suc i) all) (sym is) ∙ ap (λ n. text ∷ drop n all) (sym (add-one i))

-- one string
pub step_strings : (i : ℕ) (all : List (Bor (List ℕ))) (text : Bor (List ℕ)) (old more new : Text) → drop i all ≡ text ∷ drop (i + 1) all →
    Some more ≡ string_value text.now → new ≡ old ++ more →
    strings_value (Some old) (map (λ t. t.now) (drop i all)) ≡ strings_value (Some new) (map (λ t. t.now) (drop (i + 1) all))
step_strings i all text old more new cut is e =
    ap (λ ts. strings_value (Some old) (map (λ t. t.now) ts)) cut
    ∙ ap (λ o. strings_value (joined_after old o) (map (λ t. t.now) (drop (i + 1) all))) (sym is)
    ∙ ap (λ (x : Text). strings_value (Some x) (map (λ t. t.now) (drop (i + 1) all))) (sym e)
