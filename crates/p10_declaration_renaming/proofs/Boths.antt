-- What is made in both programs, or in neither.
use Rattle.std.proofs.Common.{◌≡◌, sym, refl, subst, Option, Some, None, option_map, is_some}
use Rattle.p10_declaration_renaming.specs.Standings.{Both}

pub both_by : {A : Type 0} (P : A → A → Type 0) {m n k l : Option A} → m ≡ k → n ≡ l → Both P k l → Both P m n
both_by P {n = n} {k = k} e d h = subst (λ x. Both P x n) (sym e) (subst (λ y. Both P k y) (sym d) h)

pub both_map : {A B : Type 0} (P : A → A → Type 0) (Q : B → B → Type 0) (f g : A → B) → ((a b : A) → P a b → Q (f a) (g b)) → (m n : Option A) → Both P m n → Both Q (option_map f m) (option_map g n)
both_map P Q f g each None None h = tt
both_map P Q f g each (Some a) (Some b) h = each a b h
both_map P Q f g each None (Some b) h = absurd h
both_map P Q f g each (Some a) None h = absurd h

pub both_are : {A : Type 0} (P : A → A → Type 0) (m n : Option A) → Both P m n → is_some m ≡ is_some n
both_are P None None h = refl
both_are P (Some a) (Some b) h = refl
both_are P None (Some b) h = absurd h
both_are P (Some a) None h = absurd h
