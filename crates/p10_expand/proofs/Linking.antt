-- What noting for which file a request stands changes in the gathered files.
use Rattle.std.proofs.Common.{◌≡◌, ◌≢◌, ℕ, zero, suc, ◌<◌, Bool, true, false, ◌&&◌, cond, [], ◌∷◌, Option, Some, None, refl, ap, sym, ◌∙◌, subst, inl, inr, arith, ◌⊎◌}
use Rattle.std.specs.Prelude.{Contains, is_some, bytes_eq}
use Rattle.std.specs.Bool.{beq}
use Rattle.std.specs.Cmp.{booleans_Decides}
use Rattle.std.proofs.lemmas.Bool.{and_parts, cases_order}
use Rattle.std.proofs.lemmas.Option.{same_Some}
use Rattle.std.proofs.lemmas.Slice.Eq.{bytes_eq-Decides}
use Rattle.std.proofs.lemmas.List.{length-set}
use Rattle.std.proofs.lemmas.List.Elements.{Contains-append_left}
use Rattle.p10_base.specs.Gathered.{Gathered, count_of, file_of, candidate_of, with_link}
use Rattle.p10_base.proofs.Gathering.{candidate_of-with_link_own, candidate_of-with_link_elsewhere, candidate_of-with_link_other}
use Rattle.p10_expand.specs.declared.place.Include.{Include}
use Rattle.p10_expand.specs.Gathering.{Request, Root, Line, linked, noted}
use Rattle.p10_expand.specs.Gathered.{EndsChain}
use Rattle.p10_expand.proofs.Standing.{AreAlike, alike, link_file}

-- the file to which an include is linked
abbrev pub target : Gathered → ℕ → Include → Option ℕ
target g from include = candidate_of g from include.name include.angle

-- ## One link

by_option : (P : Gathered → Type 0) (g h : Gathered) (o : Option ℕ) → ((number : ℕ) → o ≡ Some number → P g) → (o ≡ None → P h) → P (cond (is_some o) g h)
by_option P g h None some none = none refl
by_option P g h (Some number) some none = some number refl

-- an include was linked before, or is linked now
pub either_linked : (P : Gathered → Type 0) (from : ℕ) (include : Include) (number : ℕ) (g : Gathered) →
    ((other : ℕ) → target g from include ≡ Some other → P g) → (target g from include ≡ None → P (with_link g from include.name include.angle number)) → P (linked from include number g)
either_linked P from include number g some none = by_option P g (with_link g from include.name include.angle number) (target g from include) some none

some_or_none : (o : Option ℕ) (number : ℕ) → o ≡ None → o ≡ Some number → ⊥
some_or_none o number none some = cc

includes_are : (i j : Include) → i.name ≡ j.name → i.angle ≡ j.angle → i ≡ j
includes_are i j name angle = λ k. record { name = name k; angle = angle k }

tested : (i j : Include) (b : Bool) → (bytes_eq i.name j.name && beq i.angle j.angle) ≡ b → (i ≡ j) ⊎ (i.name ≡ j.name → i.angle ≡ j.angle → ⊥)
tested i j true test =
    let both = and_parts (bytes_eq i.name j.name) (beq i.angle j.angle) test in
    inl (includes_are i j ((bytes_eq-Decides i.name j.name).0 both.0) ((booleans_Decides i.angle j.angle).0 both.1))
tested i j false test =
    inr (λ name angle. (let yes : (bytes_eq i.name j.name && beq i.angle j.angle) ≡ true =
    ap (λ b. b && beq i.angle j.angle) ((bytes_eq-Decides i.name j.name).1 name) ∙ (booleans_Decides i.angle j.angle).1 angle in
    absurd cc))

same_or_other : (i j : Include) → (i ≡ j) ⊎ (i.name ≡ j.name → i.angle ≡ j.angle → ⊥)
same_or_other i j = tested i j (bytes_eq i.name j.name && beq i.angle j.angle) refl

same_or_elsewhere : (f from : ℕ) → (f ≡ from) ⊎ (f ≢ from)
same_or_elsewhere f from = elim (cases_order f from) [ inl same ↦ inl same | inr apart ↦ inr (elim apart [ inl lt ↦ omega (arith, lt) | inr lt ↦ omega (arith, lt) ]) ]

-- a link changes the target of its own include alone
link_changes : (g : Gathered) (from : ℕ) (include : Include) (number : ℕ) → from < count_of g → (f : ℕ) (i : Include) →
    (target (with_link g from include.name include.angle number) f i ≡ target g f i) ⊎ ((f ≡ from) × (i ≡ include))
link_changes g from include number held f i =
    elim (same_or_elsewhere f from) [
      | inr apart ↦ inl (candidate_of-with_link_elsewhere g from include.name include.angle number f apart i.name i.angle)
      | inl here ↦ elim (same_or_other include i) [
        | inl same ↦ inr (here, sym same)
        | inr apart ↦ inl (subst (λ x. target (with_link g from include.name include.angle number) x i ≡ target g x i) (sym here)
            (candidate_of-with_link_other g from include.name include.angle number held i.name i.angle apart))
      ]
    ]

own_target : (g : Gathered) (from : ℕ) (include : Include) (number : ℕ) → from < count_of g → target g from include ≡ None → target (with_link g from include.name include.angle number) from include ≡ Some number
own_target g from include number held none = candidate_of-with_link_own g from include.name include.angle number held none

-- ## What is kept

-- a target stays
link_keeps : (g : Gathered) (from : ℕ) (include : Include) (number : ℕ) → from < count_of g → target g from include ≡ None → (f : ℕ) (i : Include) (to : ℕ) →
    target g f i ≡ Some to → target (with_link g from include.name include.angle number) f i ≡ Some to
link_keeps g from include number held none f i to some =
    elim (link_changes g from include number held f i) [
      | inl same ↦ same ∙ some
      | inr (here, is) ↦ absurd (some_or_none (target g from include) to none (sym (λ k. target g (here k) (is k)) ∙ some))
    ]

abbrev pub IsHeld : Gathered → Request → Type 0
IsHeld g (Root name) = Unit {0}
IsHeld g (Line from depth include) = from < count_of g

pub noted_keeps : (g : Gathered) (request : Request) (number : ℕ) → IsHeld g request → (f : ℕ) (i : Include) (to : ℕ) → target g f i ≡ Some to → target (noted request number g) f i ≡ Some to
noted_keeps g (Root name) number held f i to some = some
noted_keeps g (Line from depth include) number held f i to some =
    either_linked (λ h. target h f i ≡ Some to) from include number g (λ other is. some) (λ none. link_keeps g from include number held none f i to some)

-- a target was there before, or is the one that was noted
pub noted_targets : (g : Gathered) (request : Request) (number : ℕ) → IsHeld g request → (f : ℕ) (i : Include) (to : ℕ) → target (noted request number g) f i ≡ Some to →
    (target g f i ≡ Some to) ⊎ ((depth : ℕ) × (request ≡ Line f depth i) × (to ≡ number))
noted_targets g (Root name) number held f i to = λ some. inl some
noted_targets g (Line from depth include) number held f i to =
    either_linked (λ h. target h f i ≡ Some to → (target g f i ≡ Some to) ⊎ ((d : ℕ) × (Line from depth include ≡ Line f d i) × (to ≡ number))) from include number g
    (λ other is some. inl some)
    (λ none some. elim (link_changes g from include number held f i) [
      | inl same ↦ inl (sym same ∙ some)
      | inr (here, is) ↦ inr (
        depth,
        (λ k. Line (sym here k) depth (sym is k)),
        same_Some to number (sym some ∙ ((λ k. target (with_link g from include.name include.angle number) (here k) (is k)) ∙ own_target g from include number held none)),
      )
    ])

-- the include that was noted has a target, which it had before or which is the one that was noted
pub noted_own : (g : Gathered) (from depth : ℕ) (include : Include) (number : ℕ) → from < count_of g →
    (to : ℕ) × (target (noted (Line from depth include) number g) from include ≡ Some to) × ((target g from include ≡ Some to) ⊎ (to ≡ number))
noted_own g from depth include number held =
    either_linked (λ h. (to : ℕ) × (target h from include ≡ Some to) × ((target g from include ≡ Some to) ⊎ (to ≡ number))) from include number g
    (λ other is. (other, is, inl is)) (λ none. (number, own_target g from include number held none, inr refl))

link_count : (g : Gathered) (from : ℕ) (include : Include) (number : ℕ) → count_of (with_link g from include.name include.angle number) ≡ count_of g
link_count g from include number = length-set g.files from _

pub noted_count : (g : Gathered) (request : Request) (number : ℕ) → count_of (noted request number g) ≡ count_of g
noted_count g (Root name) number = refl
noted_count g (Line from depth include) number = either_linked (λ h. count_of h ≡ count_of g) from include number g (λ other is. refl) (λ none. link_count g from include number)

-- the names, the texts and the marks of files
pub noted_file : (g : Gathered) (request : Request) (number : ℕ) → IsHeld g request → (n : ℕ) → AreAlike (file_of g n) (file_of (noted request number g) n)
noted_file g (Root name) number held n = alike (file_of g n)
noted_file g (Line from depth include) number held n =
    either_linked (λ h. AreAlike (file_of g n) (file_of h n)) from include number g
    (λ other is. alike (file_of g n)) (λ none. link_file g.files from n (record { name = include.name; angle = include.angle; to = number }) held)

pub noted_roots : (g : Gathered) (request : Request) (number : ℕ) (root : ℕ) → Contains g.roots root → Contains (noted request number g).roots root
noted_roots g (Root name) number root there = Contains-append_left g.roots (number ∷ []) root there
noted_roots g (Line from depth include) number root there = either_linked (λ h. Contains h.roots root) from include number g (λ other is. there) (λ none. there)

-- ## Chains

pub chain_keeps : (g h : Gathered) → ((root : ℕ) → Contains g.roots root → Contains h.roots root) → ((f : ℕ) (i : Include) (to : ℕ) → target g f i ≡ Some to → target h f i ≡ Some to) →
    (n number : ℕ) → EndsChain g n number → EndsChain h n number
chain_keeps g h roots targets zero number there = roots number there
chain_keeps g h roots targets (suc n) number (from, include, chain, link) = (from, include, chain_keeps g h roots targets n from chain, targets from include number link)
