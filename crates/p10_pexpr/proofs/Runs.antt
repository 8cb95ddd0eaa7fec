-- Runs of strings and of qualifiers.
use Rattle.std.proofs.Common.{◌≡◌, ◌<◌, List, [], ◌∷◌, ◌++◌, drop, length, true, false, cond, refl, sym, ap, arith, Some, None}
use Rattle.std.proofs.lemmas.Option.{none-some, same_Some}
use Rattle.p10_base.specs.Words.{Text}
use Rattle.p10_syn.specs.declared.sign.Sign.{Sign}
use Rattle.p10_syn.specs.Symbols.{Symbol, Fixed}
use Rattle.p10_syn.specs.Symbols as symbol
use Rattle.p10_syn.specs.Forms.{is_qualifier}
use Rattle.p10_syn.specs.Trees.{Bare, Qualifier}
use Rattle.p10_pexpr.specs.Fronts.{string_first, qualifier_first}
use Rattle.p10_pexpr.specs.DeclaratorReading.{plain_qualifier, qualifiers_from}
use Rattle.p10_pexpr.specs.ExpressionReading.{strings_from}

pub strings_more : (done : List Text) (symbols : List Symbol) (x : Text) → string_first symbols ≡ Some x → strings_from done symbols ≡ strings_from (done ++ x ∷ []) (drop 1 symbols)
strings_more done [] x e = absurd (none-some x e)
strings_more done (symbol.String y ∷ rest) x e = ap (λ y. strings_from (done ++ y ∷ []) rest) (same_Some _ _ e)
strings_more done (_ ∷ rest) x e = absurd (none-some x e)

pub strings_end : (done : List Text) (symbols : List Symbol) → string_first symbols ≡ None → strings_from done symbols ≡ (done, symbols)
strings_end done [] e = refl
strings_end done (symbol.String y ∷ rest) e = absurd (none-some y (sym e))
strings_end done (_ ∷ rest) e = refl

pub strings_shorter : (symbols : List Symbol) (x : Text) → string_first symbols ≡ Some x → length (drop 1 symbols) < length symbols
strings_shorter [] x e = absurd (none-some x e)
strings_shorter (y ∷ rest) x e = omega arith

pub qualifiers_more : (done : List (Qualifier Bare)) (symbols : List Symbol) (s : Sign) → qualifier_first symbols ≡ Some s → qualifiers_from done symbols ≡ qualifiers_from (done ++ plain_qualifier s ∷ []) (drop 1 symbols)
qualifiers_more done [] s e = absurd (none-some s e)
qualifiers_more done (Fixed x ∷ rest) s e =
    elim (is_qualifier x) as (λ b. cond b (Some x) None ≡ Some s → cond b (qualifiers_from (done ++ plain_qualifier x ∷ []) rest) (done, Fixed x ∷ rest) ≡ qualifiers_from (done ++ plain_qualifier s ∷ []) rest)
    [ true ↦ λ h. ap (λ y. qualifiers_from (done ++ plain_qualifier y ∷ []) rest) (same_Some _ _ h) | false ↦ λ h. absurd (none-some s h) ] e
qualifiers_more done (_ ∷ rest) s e = absurd (none-some s e)

pub qualifiers_end : (done : List (Qualifier Bare)) (symbols : List Symbol) → qualifier_first symbols ≡ None → qualifiers_from done symbols ≡ (done, symbols)
qualifiers_end done [] e = refl
qualifiers_end done (Fixed x ∷ rest) e =
    elim (is_qualifier x) as (λ b. cond b (Some x) None ≡ None → cond b (qualifiers_from (done ++ plain_qualifier x ∷ []) rest) (done, Fixed x ∷ rest) ≡ (done, Fixed x ∷ rest))
    [ true ↦ λ h. absurd (none-some x (sym h)) | false ↦ λ h. refl ] e
qualifiers_end done (_ ∷ rest) e = refl

pub qualifiers_shorter : (symbols : List Symbol) (s : Sign) → qualifier_first symbols ≡ Some s → length (drop 1 symbols) < length symbols
qualifiers_shorter [] s e = absurd (none-some s e)
qualifiers_shorter (y ∷ rest) s e = omega arith
