-- A part of a declaration, and of a body, leaves the names of the blocks that are open, and adds its own after them.
use Rattle.std.proofs.Common.{◌≡◌, ◌∙◌, refl, ap, arith, ℕ, ◌+◌, ◌-◌, false, List, [], ◌∷◌, ◌++◌, length, take, slice_index_or}
use Rattle.std.proofs.lemmas.List.{length-append}
use Rattle.p10_core.specs.Types.{structure}
use Rattle.p10_elabx.specs.First.{Keep}
use Rattle.p10_elabx.specs.Scopes.{Binding, PlainScope, tagged_type, last_floor, entered, left, named_type}
use Rattle.p10_elabd.specs.Standing.{PlainStanding}
use Rattle.p10_block_scopes.specs.Laws.{GoesOn, ExtendsIn, ExtendsScope, IsAgain}
use Rattle.p10_statement_steps.proofs.Each.{AreLocalSteps}

-- ## Scopes that go on

abbrev pub Extends : PlainStanding → PlainStanding → Type 0
Extends s t = ExtendsScope s.scope t.scope

with_none : (xs : List Binding) → xs ≡ xs ++ []
with_none [] = refl
with_none (x ∷ xs) = ap (λ ys. x ∷ ys) (with_none xs)

joined_twice : (xs ys zs : List Binding) → (xs ++ ys) ++ zs ≡ xs ++ (ys ++ zs)
joined_twice [] ys zs = refl
joined_twice (x ∷ xs) ys zs = ap (λ vs. x ∷ vs) (joined_twice xs ys zs)

goes_no_further : (xs : List Binding) → GoesOn xs xs
goes_no_further xs = record { rest = []; same = with_none xs }

goes_one_more : (xs : List Binding) (b : Binding) → GoesOn xs (xs ++ b ∷ [])
goes_one_more xs b = record { rest = b ∷ []; same = refl }

goes_farther : {xs ys zs : List Binding} → GoesOn xs ys → GoesOn ys zs → GoesOn xs zs
goes_farther {xs = xs} a b = record { rest = a.rest ++ b.rest; same = b.same ∙ ap (λ vs. vs ++ b.rest) a.same ∙ joined_twice xs a.rest b.rest }

pub scope_before : (s : PlainScope) → ExtendsScope s s
scope_before s = record { floors = refl; names = goes_no_further s.names; tags = goes_no_further s.tags }

pub as_before : (s : PlainStanding) → Extends s s
as_before s = scope_before s.scope

pub extends_on : {fs gs hs : List (ℕ × ℕ)} {ns ms ks ts us vs : List Binding} → ExtendsIn fs gs ns ms ts us → ExtendsIn gs hs ms ks us vs → ExtendsIn fs hs ns ks ts vs
extends_on a b = record { floors = b.floors ∙ a.floors; names = goes_farther a.names b.names; tags = goes_farther a.tags b.tags }

pub one_tag_more : (s : PlainScope) (b : Binding) → ExtendsIn s.floors s.floors s.names s.names s.tags (s.tags ++ b ∷ [])
one_tag_more s b = record { floors = refl; names = goes_no_further s.names; tags = goes_one_more s.tags b }

pub one_name_more : (s : PlainScope) (b : Binding) → ExtendsIn s.floors s.floors s.names (s.names ++ b ∷ []) s.tags s.tags
one_name_more s b = record { floors = refl; names = goes_one_more s.names b; tags = goes_no_further s.tags }

-- ## A block that is closed

length_more : (xs : List (ℕ × ℕ)) (f : ℕ × ℕ) → length (xs ++ f ∷ []) - 1 ≡ length xs
length_more xs f = let e : length (xs ++ f ∷ []) ≡ length xs + 1 = length-append xs (f ∷ []) in omega (arith, e)

index_last : (xs : List (ℕ × ℕ)) (f d : ℕ × ℕ) → slice_index_or (xs ++ f ∷ []) (length xs) d ≡ f
index_last [] f d = refl
index_last (x ∷ xs) f d = index_last xs f d

pub last_floor_is : (xs : List (ℕ × ℕ)) (f : ℕ × ℕ) → last_floor (xs ++ f ∷ []) ≡ f
last_floor_is xs f = ap (λ n. slice_index_or (xs ++ f ∷ []) n (0, 0)) (length_more xs f) ∙ index_last xs f (0, 0)

floors_taken : (xs : List (ℕ × ℕ)) (f : ℕ × ℕ) → take (length xs) (xs ++ f ∷ []) ≡ xs
floors_taken [] f = refl
floors_taken (x ∷ xs) f = ap (λ ys. x ∷ ys) (floors_taken xs f)

names_taken : (xs ys : List Binding) → take (length xs) (xs ++ ys) ≡ xs
names_taken [] [] = refl
names_taken [] (y ∷ ys) = refl
names_taken (x ∷ xs) ys = ap (λ zs. x ∷ zs) (names_taken xs ys)

pub left_again : (s q : PlainScope) → ExtendsScope (entered s) q → IsAgain s (left q)
left_again s q a =
    let f : ℕ × ℕ = (length s.names, length s.tags) in
    let floor : last_floor q.floors ≡ f = ap last_floor a.floors ∙ last_floor_is s.floors f in
    record {
      floors = ap (λ (fs : List (ℕ × ℕ)). take (length fs - 1) fs) a.floors ∙ ap (λ n. take n (s.floors ++ f ∷ [])) (length_more s.floors f) ∙ floors_taken s.floors f;
      names = ap (λ (g : ℕ × ℕ). take g.0 q.names) floor ∙ ap (take (length s.names)) a.names.same ∙ names_taken s.names a.names.rest;
      tags = ap (λ (g : ℕ × ℕ). take g.1 q.tags) floor ∙ ap (take (length s.tags)) a.tags.same ∙ names_taken s.tags a.tags.rest;
    }

again_goes : {xs ys : List Binding} → ys ≡ xs → GoesOn xs ys
again_goes {xs = xs} e = record { rest = []; same = e ∙ with_none xs }

pub extends_left : (s q : PlainScope) → ExtendsScope (entered s) q → ExtendsScope s (left q)
extends_left s q a = let again : IsAgain s (left q) = left_again s q a in record { floors = again.floors; names = again_goes again.names; tags = again_goes again.tags }

-- ## What holds of each step

pub extending : (h : Keep) → AreLocalSteps h Extends
extending h = record {
  parts = record {
    same = as_before;
    followed = λ s t u a b. extends_on a b;
    told = λ rs s. as_before s;
    name_more = λ name what s m. one_name_more s.scope (record { name = name; what = what });
    tag_more = λ name what s m. one_tag_more s.scope (record { name = name; what = what });
    structure_more = λ tag s. as_before s;
    structure_tagged = λ name s. one_tag_more s.scope (record { name = name; what = tagged_type (structure false (length s.scope.structures)) });
    bodies_open = λ numbers s. as_before s;
    members_taken = λ word tag s t members begun inside takes small. extends_on begun inside;
    block_closed = λ s t inside. extends_left s.scope t.scope inside;
  };
  type_name_more = λ name t s. one_name_more s.scope (record { name = name; what = named_type t });
}
