-- Initialisers of the code as the definitions see them, and rows of them.
use Rattle.std.specs.Prelude.{◌≡◌, ℕ, suc, ◌+◌, ◌-◌, Bool, true, false, nat_lt, List, [], ◌∷◌, map, length, drop, slice_get, Option, Some, None, refl}
use Rattle.std.proofs.Common.{◌<◌, ap, sym, ◌∙◌, rules, arith, drop-cons, get_or, add-one, Vec}
use Rattle.std.specs.declared.alloc.Global.{Global}
use Rattle.p10_base.specs.declared.at.At.{At}
use Rattle.p10_syn.specs.declared.statement.Init.{Init, Row_of-Init, end_of-Init, more_of-Init, items-the_row-Init}
use Rattle.p10_syn.specs.declared.statement.Init.TheVariants as init
use Rattle.p10_syn.specs.declared.statement.Init.TheViews.{the_lemmas}
use Rattle.p10_syn.specs.Trees.{Braced, MoreInitializers, initializer_row}
use Rattle.p10_syn.specs.BuiltStatements.{initializers_of, initializer_of}
use Rattle.p10_elabd.specs.Initializers.{count_items, string_alone, is_zero_list}

pub initializers_listed : (n : _) (all : Row_of-Init n) → initializers_of all ≡ initializer_row (map initializer_of (items-the_row-Init n all))
initializers_listed n end_of-Init = refl
initializers_listed n (more_of-Init x rest) = ap (MoreInitializers (initializer_of x)) (initializers_listed _ rest)

pub braced_is : (at : At) (all : Vec Init Global) (comma : Bool) → initializer_of (init.Braced at all comma) ≡ Braced at (initializer_row (map initializer_of all.items)) comma
braced_is at all comma = search (rules, the_lemmas, initializers_listed)

-- how many items there are
pub counted : (all : List Init) → count_items (initializer_row (map initializer_of all)) ≡ length all
counted [] = refl
counted (x ∷ rest) = let h : count_items (initializer_row (map initializer_of rest)) ≡ length rest = counted rest in omega arith

-- the items from a place on
pub cut_initializers : (all : List Init) (i : ℕ) (x : Init) → i < length all → x ≡ get_or all i x →
    initializer_row (map initializer_of (drop i all)) ≡ MoreInitializers (initializer_of x) (initializer_row (map initializer_of (drop (i + 1) all)))
cut_initializers all i x below is =
    ap (λ es. initializer_row (map initializer_of es)) (drop-cons all i x below)
    ∙ ap (λ y. MoreInitializers (initializer_of y) (initializer_row (map initializer_of (drop (suc i) all)))) (sym is)
    ∙ ap (λ n. MoreInitializers (initializer_of x) (initializer_row (map initializer_of (drop n all)))) (sym (add-one i))

-- of several items none is a string that stands alone
pub many_strings : (characters : Bool) (all : List Init) (x : Init) → Some x ≡ slice_get all 0 → (length all ≡ 1 → ⊥) →
    None ≡ string_alone characters (initializer_row (map initializer_of all))
many_strings characters [] x e more = absurd cc
many_strings characters (y ∷ []) x e more = absurd (more refl)
many_strings characters (y ∷ z ∷ rest) x e more = refl

-- nor are they `{0}`
pub many_items : (all : List Init) (x : Init) → Some x ≡ slice_get all 0 → (length all ≡ 1 → ⊥) → false ≡ is_zero_list (initializer_row (map initializer_of all))
many_items [] x e more = absurd cc
many_items (y ∷ []) x e more = absurd (more refl)
many_items (y ∷ z ∷ rest) x e more = refl
