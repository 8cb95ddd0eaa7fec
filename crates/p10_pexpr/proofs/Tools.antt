-- Chains that answered, taken apart; what follows speaks of plain variables.
use Rattle.std.proofs.Common.{◌≡◌, List, [], ◌∷◌, drop, Bool, true, false, ◌&&◌, ◌||◌, cond, refl, ◌∙◌, ap, Option, Some, None, option_map, option_and_then}
use Rattle.std.proofs.lemmas.Option.{none-some, same_Some}
use Rattle.std.proofs.lemmas.Bool.{false≢true, true≢false}
use Rattle.p10_base.specs.Words.{Text}
use Rattle.p10_syn.specs.declared.sign.Sign.{Sign}
use Rattle.p10_syn.specs.Symbols.{Symbol, Name, Fixed}
use Rattle.p10_pexpr.specs.Heads.{is_sign, heads, expected, closed_by, name_at}
use Rattle.p10_pexpr.proofs.SameSigns.{same_is}

pub then_some : {A B P : Type 0} (f : A → Option B) (o : Option A) (y : B) → option_and_then f o ≡ Some y → ((x : A) → o ≡ Some x → f x ≡ Some y → P) → P
then_some f None y e go = absurd (none-some y e)
then_some f (Some x) y e go = go x refl e

pub then_map : {A B P : Type 0} (f : A → B) (o : Option A) (y : B) → option_map f o ≡ Some y → ((x : A) → o ≡ Some x → f x ≡ y → P) → P
then_map f None y e go = absurd (none-some y e)
then_map f (Some x) y e go = go x refl (same_Some _ _ e)

-- a choice, by its condition
pub either : {A P : Type 0} (b : Bool) (x y z : A) → cond b x y ≡ z → (b ≡ true → x ≡ z → P) → (b ≡ false → y ≡ z → P) → P
either true x y z e on off = on refl e
either false x y z e on off = off refl e

-- ## Tests

pub or_false : (a b : Bool) → a || b ≡ false → (a ≡ false) × (b ≡ false)
or_false true b h = absurd (true≢false h)
or_false false b h = (refl, h)

pub and_false : (b : Bool) → b && false ≡ false
and_false true = refl
and_false false = refl

pub and_true : (b : Bool) → b && true ≡ b
and_true true = refl
and_true false = refl

-- a conjunction that fails though its first part holds
pub and_second : (a b : Bool) → a && b ≡ false → a ≡ true → b ≡ false
and_second true b h is = h
and_second false b h is = absurd (false≢true is)

pub and_later : (a b : Bool) → (a ≡ true → b ≡ false) → a && b ≡ false
and_later true b h = h refl
and_later false b h = refl

pub or_true : (a b : Bool) → b ≡ true → a || b ≡ true
or_true true b h = refl
or_true false b h = h

-- ## Signs

sign_is : (s : Sign) (x : Symbol) → is_sign s x ≡ true → x ≡ Fixed s
sign_is s (Fixed other) h = ap Fixed (same_is other s h)
sign_is s _ h = absurd (false≢true h)

pub heads_is : (s : Sign) (symbols : List Symbol) → heads s symbols ≡ true → symbols ≡ Fixed s ∷ drop 1 symbols
heads_is s [] h = absurd (false≢true h)
heads_is s (x ∷ rest) h = ap (λ y. y ∷ rest) (sign_is s x h)

pub expected_is : (s : Sign) (symbols rest : List Symbol) → expected s symbols ≡ Some rest → symbols ≡ Fixed s ∷ rest
expected_is s symbols rest e =
    either (heads s symbols) _ _ _ e (λ h same. heads_is s symbols h ∙ ap (λ r. Fixed s ∷ r) (same_Some _ _ same)) (λ off none. absurd (none-some rest none))

-- a sign that closes what was read before it
pub ended : {A P : Type 0} (s : Sign) (a : A) (symbols : List Symbol) (p : A × List Symbol) → closed_by s a symbols ≡ Some p →
    ((rest : List Symbol) → symbols ≡ Fixed s ∷ rest → (a, rest) ≡ p → P) → P
ended s a symbols p e go = then_map (λ rest. (a, rest)) (expected s symbols) p e (λ rest is same. go rest (expected_is s symbols rest is) same)

pub name_takes : (symbols : List Symbol) (p : Text × List Symbol) → name_at symbols ≡ Some p → symbols ≡ Name p.0 ∷ p.1
name_takes [] p e = absurd (none-some p e)
name_takes (Name x ∷ rest) p e = ap (λ q. Name q.0 ∷ q.1) (same_Some _ _ e)
name_takes (_ ∷ rest) p e = absurd (none-some p e)
