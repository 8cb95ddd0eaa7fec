-- Parameters of the code, by how many there are.
use Rattle.std.specs.Prelude.{◌≡◌, Bool, true, false, ◌&&◌, nat_eq, Some, None, List, [], ◌∷◌, map, length, slice_get, refl}
use Rattle.std.proofs.Common.{ap, sym, ◌∙◌, arith}
use Rattle.std.proofs.lemmas.Bool.{eq-eqb, ne_eqb}
use Rattle.p10_syn.specs.declared.tree.Parameter.{Parameter}
use Rattle.p10_syn.specs.Trees.{parameter_row}
use Rattle.p10_syn.specs.Built.{declarator_of, parameter_of}
use Rattle.p10_elabx.specs.TypeNames.{is_unnamed, is_alone, lacks_prototype}

alone_is : (all : List Parameter) (p : Parameter) → Some p ≡ slice_get all 0 → nat_eq (length all) 1 && is_unnamed (declarator_of p.declarator) ≡ is_alone (parameter_row (map parameter_of all))
alone_is [] p e = absurd cc
alone_is (q ∷ []) p e = let same : p ≡ q = cc in ap (λ (x : Parameter). is_unnamed (declarator_of x.declarator)) same
alone_is (q ∷ r ∷ rest) p e =
    ap (λ b. b && is_unnamed (declarator_of p.declarator)) (ne_eqb (length (q ∷ r ∷ rest)) 1 (λ same. omega (arith, same)))

-- one parameter stands alone where there is no other one
pub alone_one : (all : List Parameter) (p : Parameter) → Some p ≡ slice_get all 0 → length all ≡ 1 → is_unnamed (declarator_of p.declarator) ≡ is_alone (parameter_row (map parameter_of all))
alone_one all p e one =
    let yes : nat_eq (length all) 1 ≡ true = eq-eqb (length all) 1 one in
    ap (λ b. b && is_unnamed (declarator_of p.declarator)) (sym yes) ∙ alone_is all p e

-- none stands alone where there are more
pub alone_many : (all : List Parameter) (p : Parameter) → Some p ≡ slice_get all 0 → (length all ≡ 1 → ⊥) → nat_eq (length all) 1 ≡ is_alone (parameter_row (map parameter_of all))
alone_many all p e more =
    let no : nat_eq (length all) 1 ≡ false = ne_eqb (length all) 1 more in
    no ∙ ap (λ b. b && is_unnamed (declarator_of p.declarator)) (sym no) ∙ alone_is all p e

-- nor where there is none
pub none_alone : (all : List Parameter) → None ≡ slice_get all 0 → false ≡ is_alone (parameter_row (map parameter_of all))
none_alone [] e = refl
none_alone (p ∷ rest) e = absurd cc

-- without parameters there is no prototype
pub lacking_none : (all : List Parameter) (dots : Bool) → None ≡ slice_get all 0 → true ≡ lacks_prototype (parameter_row (map parameter_of all)) dots
lacking_none [] dots e = refl
lacking_none (p ∷ rest) dots e = absurd cc

-- with parameters there is one unless `...` stands after them
pub lacking_some : (all : List Parameter) (p : Parameter) (dots : Bool) → Some p ≡ slice_get all 0 → dots ≡ lacks_prototype (parameter_row (map parameter_of all)) dots
lacking_some [] p dots e = absurd cc
lacking_some (q ∷ rest) p dots e = refl
