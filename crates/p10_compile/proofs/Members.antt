-- The scalars of the members of structures.
use Rattle.std.proofs.Common.{◌≡◌, ℕ, zero, suc, ◌+◌, List, [], ◌∷◌, ◌++◌, length, take, sym, ◌∙◌, ap, arith, Option, Some, None, IfSome, slice_get, false, length-append}
use Rattle.std.proofs.lemmas.Option.{none-some, same_Some}
use Rattle.std.specs.Prelude.{flat_map}
use Rattle.p10_core.specs.Types.{PlainType, PlainMember, PlainBody, PlainStructure, structure, bare, body_of, members_in, members_of}
use Rattle.p10_core.specs.Sizes.{scalars_of}
use Rattle.p10_core.specs.Typed.{PlainProgram}
use Rattle.p10_meaning.specs.Values.{scalars_before}

more_taken : {A B : Type 0} (f : A → List B) (xs : List A) (i : ℕ) (x : A) → slice_get xs i ≡ Some x → length (flat_map f (take (suc i) xs)) ≡ length (flat_map f (take i xs)) + length (f x)
more_taken f [] i x e = absurd (none-some _ e)
more_taken f (y ∷ ys) zero x e = length-append (f y) [] ∙ (ap (λ z. length (f z) + 0) (same_Some _ _ e) ∙ omega arith)
more_taken f (y ∷ ys) (suc i) x e =
    let h : length (f y ++ flat_map f (take i ys)) ≡ length (f y) + length (flat_map f (take i ys)) = length-append (f y) (flat_map f (take i ys)) in
    let k : length (flat_map f (take (suc i) ys)) ≡ length (flat_map f (take i ys)) + length (f x) = more_taken f ys i x e in
    length-append (f y) (flat_map f (take (suc i) ys)) ∙ omega (arith, h, k)

-- the scalars of one more member were counted
pub taken_next : {A B : Type 0} (f : A → List B) (xs : List A) (i : ℕ) (x : A) (before wide more : ℕ) → slice_get xs i ≡ Some x → wide ≡ length (f x) → before ≡ length (flat_map f (take i xs)) → more ≡ before + wide → more ≡ length (flat_map f (take (i + 1) xs))
taken_next f xs i x before wide more e w h m =
    let k : length (flat_map f (take (suc i) xs)) ≡ length (flat_map f (take i xs)) + length (f x) = more_taken f xs i x e in
    omega (arith, w, h, m, k) ∙ ap (λ j. length (flat_map f (take j xs))) (let d : suc i ≡ i + 1 = omega arith in d)

pub before_member : (p : PlainProgram) (ss : List PlainStructure) (whole : PlainType) (r n : ℕ) (b : PlainBody) (ms : List PlainMember) (o : Option ℕ) → p.structures ≡ ss → whole ≡ structure false r → body_of ss r ≡ Some b → b.members ≡ ms →
    IfSome o (λ k. k ≡ length (flat_map (λ (x : PlainMember). scalars_of ss (bare ss x.type)) (take n ms))) → IfSome o (λ k. k ≡ scalars_before p whole n)
before_member p ss whole r n b ms None e is there same h = tt
before_member p ss whole r n b ms (Some k) e is there same h =
    let these : ms ≡ members_of ss r = sym (ap members_in there ∙ same) in
    h ∙ (ap (λ ms. length (flat_map (λ (x : PlainMember). scalars_of ss (bare ss x.type)) (take n ms))) these ∙
    (ap (λ ss. length (flat_map (λ (x : PlainMember). scalars_of ss (bare ss x.type)) (take n (members_of ss r)))) (sym e) ∙ ap (λ t. scalars_before p t n) (sym is)))
