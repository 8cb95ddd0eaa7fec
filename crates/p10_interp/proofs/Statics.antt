-- Objects of static lifetime and string literals, opened one after the other.
use Rattle.std.proofs.Common.{◌≡◌, ℕ, zero, suc, ◌+◌, ◌≤◌, cond, Bool, true, false, List, [], ◌∷◌, ◌++◌, length, take, map, pos, refl, sym, ◌∙◌, ap, subst, arith, Option, Some, None, slice_get}
use Rattle.std.proofs.lemmas.Option.{none-some, same_Some}
use Rattle.std.proofs.lemmas.List.{take_all}
use Rattle.std.specs.List.{All}
use Rattle.std.proofs.lemmas.List.Elements.{All-head, All-tail}
use Rattle.p10_core.specs.Typed.{PlainObject, PlainLiteral}
use Rattle.p10_interp.proofs.Items.{take_next}
use Rattle.p10_meaning.specs.declared.pointers.Cell.{Cell}
use Rattle.p10_meaning.specs.declared.pointers.Scalar.TheVariants.{Int}
use Rattle.p10_int.specs.declared.types.IntType.TheVariants.{Char}
use Rattle.p10_int.specs.Conversion.{converted}
use Rattle.p10_meaning.specs.Pointers.{holding}
use Rattle.p10_meaning.specs.Objects.{Object, declared, literal}
use Rattle.p10_meaning.specs.Opening.{static_objects, literal_objects}

if_more : (b : Bool) (x : Object) (xs ys zs : List Object) → xs ≡ ys ++ zs → cond b xs (x ∷ xs) ≡ cond b ys (x ∷ ys) ++ zs
if_more true x xs ys zs e = e
if_more false x xs ys zs e = ap (λ l. x ∷ l) e

statics_end : (cells : PlainObject → List Cell) (n : ℕ) (xs : List PlainObject) (o : PlainObject) → static_objects cells n (xs ++ o ∷ []) ≡ static_objects cells n xs ++ static_objects cells (n + length xs) (o ∷ [])
statics_end cells n [] o = ap (λ k. static_objects cells k (o ∷ [])) (let d : n ≡ n + 0 = omega arith in d)
statics_end cells n (x ∷ xs) o =
    if_more x.sensor (record { number = n; origin = declared; cells = cells x }) (static_objects cells (suc n) (xs ++ o ∷ [])) (static_objects cells (suc n) xs) (static_objects cells (n + length (x ∷ xs)) (o ∷ []))
    (statics_end cells (suc n) xs o ∙ ap (λ k. static_objects cells (suc n) xs ++ static_objects cells k (o ∷ [])) (let d : suc n + length xs ≡ n + suc (length xs) = omega arith in d))

length_take : {A : Type 0} (xs : List A) (i : ℕ) (x : A) → slice_get xs i ≡ Some x → length (take i xs) ≡ i
length_take [] i x e = absurd (none-some _ e)
length_take (y ∷ xs) zero x e = refl
length_take (y ∷ xs) (suc i) x e = ap (λ n. suc n) (length_take xs i x e)

-- one more object was opened
pub static_next : (cells : PlainObject → List Cell) (all : List PlainObject) (i j : ℕ) (o : PlainObject) (given : List Cell) (old new : List Object) (opened : ℕ) → slice_get all i ≡ Some o → j ≡ i + 1 → opened ≡ i → given ≡ cells o → old ≡ static_objects cells 0 (take i all) →
    new ≡ old ++ static_objects (λ _. given) opened (o ∷ []) → new ≡ static_objects cells 0 (take j all)
static_next cells all i j o given old new opened there e at is h more =
    more ∙ (ap (λ old. old ++ static_objects (λ _. given) opened (o ∷ [])) h ∙
    (ap (λ n. static_objects cells 0 (take i all) ++ static_objects (λ _. given) n (o ∷ [])) (let d : opened ≡ 0 + length (take i all) = (let l : length (take i all) ≡ i = length_take all i o there in omega (arith, at, l)) in d) ∙
    (ap (λ g. static_objects cells 0 (take i all) ++ static_objects (λ _. g) (0 + length (take i all)) (o ∷ [])) is ∙
    (sym (statics_end cells 0 (take i all) o) ∙ (ap (λ xs. static_objects cells 0 xs) (sym (take_next all i o there)) ∙ ap (λ i. static_objects cells 0 (take i all)) (let d : suc i ≡ j = omega (arith, e) in d))))))

-- the object of a literal
abbrev literal_object : ℕ → PlainLiteral → Object
literal_object n l = record { number = n; origin = literal; cells = map (λ byte. holding (Int (converted Char (pos byte)))) l.bytes }

literals_end : (n : ℕ) (xs : List PlainLiteral) (l : PlainLiteral) → literal_objects n (xs ++ l ∷ []) ≡ literal_objects n xs ++ literal_objects (n + length xs) (l ∷ [])
literals_end n [] l = ap (λ k. literal_objects k (l ∷ [])) (let d : n ≡ n + 0 = omega arith in d)
literals_end n (x ∷ xs) l =
    ap (λ ys. literal_object n x ∷ ys) (literals_end (suc n) xs l ∙ ap (λ k. literal_objects (suc n) xs ++ literal_objects k (l ∷ [])) (let d : suc n + length xs ≡ n + suc (length xs) = omega arith in d))

-- one more literal was opened
pub literal_next : (first : List Object) (from : ℕ) (all : List PlainLiteral) (i j : ℕ) (l : PlainLiteral) (old new : List Object) (opened : ℕ) → slice_get all i ≡ Some l → j ≡ i + 1 → opened ≡ from + i → old ≡ first ++ literal_objects from (take i all) →
    new ≡ old ++ literal_objects opened (l ∷ []) → new ≡ first ++ literal_objects from (take j all)
literal_next first from all i j l old new opened there e at h more =
    more ∙ (ap (λ old. old ++ literal_objects opened (l ∷ [])) h ∙
    (Rattle.std.proofs.Common.append_assoc first (literal_objects from (take i all)) (literal_objects opened (l ∷ [])) ∙
    ap (λ ys. first ++ ys)
    (ap (λ n. literal_objects from (take i all) ++ literal_objects n (l ∷ [])) (let d : opened ≡ from + length (take i all) = (let k : length (take i all) ≡ i = length_take all i l there in omega (arith, at, k)) in d) ∙
    (sym (literals_end from (take i all) l) ∙ (ap (λ xs. literal_objects from xs) (sym (take_next all i l there)) ∙ ap (λ i. literal_objects from (take i all)) (let d : suc i ≡ j = omega (arith, e) in d))))))

pub all_at : {A : Type 0} (P : A → Type 0) (xs : List A) (i : ℕ) (x : A) → All P xs → slice_get xs i ≡ Some x → P x
all_at P [] i x a e = absurd (none-some _ e)
all_at P (y ∷ xs) zero x a e = subst P (same_Some _ _ e) (All-head P y xs a)
all_at P (y ∷ xs) (suc i) x a e = all_at P xs i x (All-tail P y xs a) e

pub literals_all : (first : List Object) (from : ℕ) (all : List PlainLiteral) (i : ℕ) (now : List Object) → length all ≤ i → now ≡ first ++ literal_objects from (take i all) → now ≡ first ++ literal_objects from all
literals_all first from all i now l e = e ∙ ap (λ xs. first ++ literal_objects from xs) (take_all i all l)
