-- Declarators of the code, by their form.
use Rattle.std.specs.Prelude.{◌≡◌, Bool, List, map, Vec}
use Rattle.std.specs.declared.alloc.Global.{Global}
use Rattle.std.proofs.Common.{Box, ap, sym, ◌∙◌}
use Rattle.p10_base.specs.declared.at.At.{At}
use Rattle.p10_base.specs.declared.codes.SubsetCode.TheVariants as subset
use Rattle.p10_syn.specs.declared.tree.Declarator.TheVariants as declarator
use Rattle.p10_syn.specs.declared.tree.Declarator.{Declarator}
use Rattle.p10_syn.specs.declared.tree.Parameter.{Parameter}
use Rattle.p10_syn.specs.Trees.{parameter_row}
use Rattle.p10_syn.specs.Built.{declarator_of, parameter_of}
use Rattle.p10_core.specs.Types.{PlainType}
use Rattle.p10_elabx.specs.First.{only_first}
use Rattle.p10_elabd.specs.Standing.{PlainStanding, Passed, refusing}
use Rattle.p10_elabd.specs.Shapes.{DeclaredType, result_declared, function_inside}
use Rattle.p10_elabd.specs.Declaring.{declarator_passed, function_passed}
use Rattle.p10_elabd.proofs.TreeRows.{function_is}

-- a function's declarator
pub function_arm : (name_at : At) (p j last : Passed DeclaredType) (d x y : Declarator) (at : At) (inner : Box Declarator Global) (parentheses : At) (all : Vec Parameter Global) (more : Bool)
    (items : List Parameter) (r : Passed PlainType) (s z : PlainStanding) → d ≡ declarator.Function at inner parentheses all more → items ≡ all.items → x ≡ inner.value → y ≡ inner.value →
    r ≡ result_declared only_first at name_at p.made p.after → s ≡ refusing only_first more subset.NoPrototype parentheses r.after →
    z ≡ function_inside only_first name_at (declarator_of y) s → j ≡ function_passed only_first parentheses more r.made z (parameter_row (map parameter_of items)) → last ≡ declarator_passed only_first name_at j (declarator_of x) →
    last ≡ declarator_passed only_first name_at p (declarator_of d)
function_arm name_at p j last d x y at inner parentheses all more items r s z is same inside there er es ez ej el =
    let made : Passed PlainType → PlainStanding → List Parameter → Passed DeclaredType = (λ q u xs. function_passed only_first parentheses more q.made u (parameter_row (map parameter_of xs))) in
    let told : Passed PlainType → PlainStanding = (λ q. function_inside only_first name_at (declarator_of inner.value) (refusing only_first more subset.NoPrototype parentheses q.after)) in
    let stands : z ≡ told r = ez ∙ ap (λ w. function_inside only_first name_at (declarator_of w) s) there ∙ ap (function_inside only_first name_at (declarator_of inner.value)) es in
    el ∙ ap (λ y. declarator_passed only_first name_at j (declarator_of y)) inside
    ∙ ap (λ k. declarator_passed only_first name_at k (declarator_of inner.value))
    (ej ∙ ap (made r z) same ∙ ap (λ u. made r u all.items) stands ∙ ap (λ (q : Passed PlainType). made q (told q) all.items) er)
    ∙ ap (declarator_passed only_first name_at p) (sym (function_is at inner parentheses all more))
    ∙ ap (λ y. declarator_passed only_first name_at p (declarator_of y)) (sym is)
