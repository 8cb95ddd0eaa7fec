-- Members of structures.
use Rattle.std.proofs.Common.{◌≡◌, ℕ, suc, ◌+◌, ◌-◌, ◌≤◌, List, ◌∷◌, length, take, sym, ◌∙◌, ap, subst, arith, Result, Ok, Err, OnOk, IfErr, Option, Some, None, IfSome, slice_get, false}
use Rattle.std.specs.Prelude.{flat_map}
use Rattle.p10_base.specs.declared.span.Span.{Span}
use Rattle.p10_core.specs.Types.{PlainType, PlainMember, PlainBody, PlainStructure, structure, bare, body_of, members_in, members_of}
use Rattle.p10_core.specs.Sizes.{scalars_of}
use Rattle.p10_core.specs.Typed.{PlainProgram}
use Rattle.p10_meaning.specs.declared.pointers.Ptr.{Ptr}
use Rattle.p10_meaning.specs.Objects.{inner}
use Rattle.p10_meaning.specs.States.{State, or_undefined}
use Rattle.p10_meaning.specs.Values.{Target, Element, width, pointer_to, scalars_before}
use Rattle.p10_interp.specs.declared.work.Halt.{Halt}
use Rattle.p10_interp.specs.declared.work.Halt.TheVariants.{Memory}
use Rattle.p10_interp.specs.private.Tasks.{member_at, Operand, located, Open, Left}
use Rattle.p10_interp.specs.private.Operations.{first_target, below, on_some, leaves, done_by}
use Rattle.p10_interp.specs.private.Views.{Answers, left_with}
use Rattle.p10_interp.proofs.Pointed.{more_taken}

-- the scalars of one more member were counted
pub taken_next : {A B : Type 0} (f : A → List B) (xs : List A) (i : ℕ) (x : A) (before wide more : ℕ) → slice_get xs i ≡ Some x → wide ≡ length (f x) → before ≡ length (flat_map f (take i xs)) → more ≡ before + wide → more ≡ length (flat_map f (take (i + 1) xs))
taken_next f xs i x before wide more e w h m =
    let k : length (flat_map f (take (suc i) xs)) ≡ length (flat_map f (take i xs)) + length (f x) = more_taken f xs i x e in
    omega (arith, w, h, m, k) ∙ ap (λ j. length (flat_map f (take j xs))) (let d : suc i ≡ i + 1 = omega arith in d)

-- and were taken off
pub left_next : {A B : Type 0} (f : A → List B) (xs : List A) (i : ℕ) (x : A) (left wide number : ℕ) → slice_get xs i ≡ Some x → wide ≡ length (f x) → wide ≤ left → length (flat_map f (take i xs)) + left ≡ number → length (flat_map f (take (i + 1) xs)) + (left - wide) ≡ number
left_next f xs i x left wide number e w fits h =
    let k : length (flat_map f (take (suc i) xs)) ≡ length (flat_map f (take i xs)) + length (f x) = more_taken f xs i x e in
    let d : length (flat_map f (take (i + 1) xs)) ≡ length (flat_map f (take (suc i) xs)) = ap (λ j. length (flat_map f (take j xs))) (let d : i + 1 ≡ suc i = omega arith in d) in
    omega (arith, w, fits, h, k, d)

pub before_member : (p : PlainProgram) (ss : List PlainStructure) (whole : PlainType) (r n : ℕ) (b : PlainBody) (ms : List PlainMember) (o : Option ℕ) → p.structures ≡ ss → whole ≡ structure false r → body_of ss r ≡ Some b → b.members ≡ ms →
    IfSome o (λ k. k ≡ length (flat_map (λ (x : PlainMember). scalars_of ss (bare ss x.type)) (take n ms))) → IfSome o (λ k. k ≡ scalars_before p whole n)
before_member p ss whole r n b ms None e is there same h = tt
before_member p ss whole r n b ms (Some k) e is there same h =
    let these : ms ≡ members_of ss r = sym (ap members_in there ∙ same) in
    h ∙ (ap (λ ms. length (flat_map (λ (x : PlainMember). scalars_of ss (bare ss x.type)) (take n ms))) these ∙
    (ap (λ ss. length (flat_map (λ (x : PlainMember). scalars_of ss (bare ss x.type)) (take n (members_of ss r)))) (sym e) ∙ ap (λ t. scalars_before p t n) (sym is)))

pub member_placed : {B : Type 0} (p : PlainProgram) (span : Span) (whole : PlainType) (m : ℕ) (t : PlainType) (operands rest new : List Operand) (calls : List Open) (w : State) (target : Target) (to there : Ptr) (before wide : ℕ) (r : Result B Halt) →
    first_target operands ≡ Some target → rest ≡ below operands → to ≡ pointer_to target → before ≡ scalars_before p (bare p.structures whole) m → wide ≡ width p t → inner w.objects to before wide 1 ≡ Ok there → OnOk r (new ≡ located (Element there) ∷ rest) → IfErr r (λ halt. halt ≡ Memory) →
    Answers (done_by p (member_at span whole m t) operands calls w) r (left_with new calls) w
member_placed p span whole m t operands rest new calls w target to there before wide (Ok done) found left is first most h ok err =
    let place : inner w.objects (pointer_to target) (scalars_before p (bare p.structures whole) m) (width p t) 1 ≡ Ok there =
    ap (λ x. inner w.objects x (scalars_before p (bare p.structures whole) m) (width p t) 1) (sym is) ∙ (ap (λ b. inner w.objects to b (width p t) 1) (sym first) ∙ (ap (λ k. inner w.objects to before k 1) (sym most) ∙ h)) in
    ap (λ o. on_some o w (λ target. or_undefined (inner w.objects (pointer_to target) (scalars_before p (bare p.structures whole) m) (width p t) 1) span w (λ q. leaves (located (Element q) ∷ below operands) calls w))) found ∙
    (ap (λ r. or_undefined r span w (λ q. leaves (located (Element q) ∷ below operands) calls w)) place ∙
    (ap (λ operands. leaves (located (Element there) ∷ operands) calls w) (sym left) ∙ ap (λ operands. leaves operands calls w) (sym ok)))
member_placed {B = B} p span whole m t operands rest new calls w target to there before wide (Err halt) found left is first most h ok err =
    subst (λ halt. Answers {A = Left} {B = B} (done_by p (member_at span whole m t) operands calls w) (Err halt) (left_with new calls) w) (sym err) tt
