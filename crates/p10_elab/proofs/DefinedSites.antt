-- Where objects outside of functions are defined.
use Rattle.std.specs.Prelude.{◌≡◌, ℕ, zero, suc, Bool, true, false, ◌&&◌, ◌||◌, not, nat_eq, if◌then◌else◌, List, [], ◌∷◌, ◌++◌, Option, Some, None, option_map, slice_get, refl}
use Rattle.std.proofs.Common.{ap, sym, ◌∙◌}
use Rattle.p10_base.specs.declared.at.At.{At}
use Rattle.p10_syn.specs.Trees.{Identifier}
use Rattle.p10_core.specs.Types.{PlainType}
use Rattle.p10_core.specs.Typed.{PlainInitializer}
use Rattle.p10_heads.specs.Heads.{Heads, Head, number_in}
use Rattle.p10_linkage.specs.Linkage.{Linked}
use Rattle.p10_elab.specs.Knowledge.{Defined, Known}
use Rattle.p10_elab.specs.Outer.{is_defined_at, is_site, with_defined}
use Rattle.p10_elab.specs.private.Defining.{defined_after, is_there, object_with}

or_true : (b : Bool) → (b || true) ≡ true
or_true true = refl
or_true false = refl

-- one that is found by its place is among all
pub found_among : (first place : ℕ) (all : List Head) → is_there first (slice_get all place) ≡ true → is_defined_at first all ≡ true
found_among first place [] is = absurd cc
found_among first zero (g ∷ rest) is = ap (λ b. b || is_defined_at first rest) is
found_among first (suc place) (g ∷ rest) is =
    ap (λ b. (nat_eq g.at.first first && not g.in_block) || b) (found_among first place rest is) ∙ or_true (nat_eq g.at.first first && not g.in_block)

known_where : (b : Bool) (k : Known) (more : List Defined) → record k { objects = if b then more else k.objects } ≡ (if b then record k { objects = more } else k)
known_where true k more = refl
known_where false k more = refl

-- the object is defined where its declaration is the one that defines it
pub defined_is : (heads : Heads) (l : Linked) (name : Identifier At) (t : PlainType) (i : Option PlainInitializer) (k : Known) →
    record k { objects = defined_after heads (option_map (object_with (number_in heads.objects l.root l.internal l.name) name t l.sensor) i) k.objects } ≡ with_defined heads l name t i k
defined_is heads l name t None k = refl
defined_is heads l name t (Some i) k = known_where (is_site heads name) k (k.objects ++ object_with (number_in heads.objects l.root l.internal l.name) name t l.sensor i ∷ [])
