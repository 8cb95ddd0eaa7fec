-- Numbers, formats and versions of options.
use Rattle.std.proofs.Common.{◌≡◌, ℕ, ◌<◌, ◌≤◌, ◌^◌, ap, sym, ◌∙◌, arith, subst, Bor, Option, Some, None, Result, Ok, Err}
use Rattle.std.proofs.lemmas.Fmt.{parse-decimal, decimal_is_IsNumeral}
use Rattle.std.specs.Prelude.{IfNone, option_map}
use Rattle.std.specs.Str.Parse.{ParsesUnsigned, digits_value}
use Rattle.p10_base.specs.Words.{Text}
use Rattle.p10_words.specs.CommandLines.{IsNumber, HasNumber}

small : (n : ℕ) → n ≤ 10 ^ 18 → n < 2 ^ 64
small n h = omega (arith, h)

gives : {E : Type 0} (value : Text) (n : ℕ) (r : Result ℕ E) → ParsesUnsigned 64 10 value r → IsNumber value n → r ≡ Ok n
gives value n r p i = parse-decimal 64 n value r (small n i.small) (small n i.small) i.digits p

pub not_checked : {E : Type 0} (value : Text) (number : ℕ) (r : Result ℕ E) (o : Option ℕ) → ParsesUnsigned 64 10 value r → r ≡ Ok number → IfNone o (IsNumber value number → ⊥) → IfNone o ((n : ℕ) → IsNumber value n → ⊥)
not_checked value number r None p e h = λ n i. h (let same : n ≡ number = (let g = gives value n r p i in cc) in subst (IsNumber value) same i)
not_checked value number r (Some m) p e h = tt

pub not_parsed : {E : Type 0} (value : Text) (x : E) (r : Result ℕ E) → ParsesUnsigned 64 10 value r → r ≡ Err x → (n : ℕ) → IsNumber value n → ⊥
not_parsed value x r p e n i = let g = gives value n r p i in cc

-- a value is one number at most
one_number : (value : Text) (m n : ℕ) → IsNumber value m → IsNumber value n → m ≡ n
one_number value m n i j =
    sym (decimal_is_IsNumeral m (small m i.small)).1 ∙ ap (digits_value 10) (sym i.digits ∙ j.digits) ∙ (decimal_is_IsNumeral n (small n j.small)).1

pub same_number : (o : Option Text) (standard m n : ℕ) → HasNumber o standard m → HasNumber o standard n → m ≡ n
same_number None standard m n i j = i ∙ sym j
same_number (Some value) standard m n i j = one_number value m n i j

-- a value that is given asks for nothing: for no format, or for no version
pub asks_for_none : {A : Type 0} (asks : Option Text → A → Type 0) (o : Option (Bor Text)) (value : Bor Text) (found : Option A) → o ≡ Some value → IfNone found ((a : A) → asks (Some value.now) a → ⊥)
    → IfNone found ((a : A) → asks (option_map (λ w. w.now) o) a → ⊥)
asks_for_none asks o value None is none = λ a has. none a (subst (λ (o : Option (Bor Text)). asks (option_map (λ w. w.now) o) a) is has)
asks_for_none asks o value (Some found) is none = tt
