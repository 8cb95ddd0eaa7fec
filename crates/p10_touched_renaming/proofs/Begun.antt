-- In the same words the same was made where the parameters of a function begin.
use Rattle.std.proofs.Common.{ℕ, true, false, map, Option}
use Rattle.p10_base.specs.declared.at.At.{At}
use Rattle.p10_syn.specs.Trees.{Absent, Present, Declarator, Named, Unnamed, Pointer, Parenthesised, Array, Function}
use Rattle.p10_core.specs.Types.{PlainType}
use Rattle.p10_elabx.specs.First.{Keep}
use Rattle.p10_elabd.specs.Standing.{PlainStanding, Passed}
use Rattle.p10_elabd.specs.Shapes.{DeclaredType, pointer_declared, element_declared, array_inside, open_declared, array_declared}
use Rattle.p10_elabd.specs.Declaring.{declarator_passed, based}
use Rattle.p10_declaration_steps.proofs.Shaping.{over_pointer, over_array_inside, over_element, over_array}
use Rattle.p10_declaration_steps.proofs.Declaring.{over_declarator}
use Rattle.p10_renaming.specs.Renaming.{Pairing, SameType}
use Rattle.p10_expression_renaming.specs.Mapped.{mapped_qualifier, mapped_expression, mapped_declarator}
use Rattle.p10_expression_renaming.specs.Knowing.{IsOneToOne}
use Rattle.p10_expression_renaming.proofs.TypeNames.{left, right}
use Rattle.p10_declaration_renaming.specs.Standings.{Both, AreQuiet, Passes, SameDeclared}
use Rattle.p10_declaration_renaming.proofs.Growing.{Grows, as_before, grows_on, grown}
use Rattle.p10_declaration_renaming.proofs.Alike.{Alike, alike_map, forget, leads_by}
use Rattle.p10_declaration_renaming.proofs.Shaping.{alike_pointer, alike_element, alike_array, open_both, alike_array_inside}
use Rattle.p10_declaration_renaming.proofs.Declaring.{based_both}
use Rattle.p10_touched_renaming.specs.Touched.{up_to_parameters}

alike_up_to : {B : Type 0} (R : Pairing) → IsOneToOne R → (last : ℕ) (h : Keep) (name_at name_to : At) (p q : Passed DeclaredType) (d : Declarator (At × At)) → Alike (B × Both (SameDeclared R) p.made q.made) R last p.after q.after
    → Alike (B × Both (SameDeclared R) (up_to_parameters h name_at p (mapped_declarator left d)).made (up_to_parameters h name_to q (mapped_declarator right d)).made) R last
    (up_to_parameters h name_at p (mapped_declarator left d)).after (up_to_parameters h name_to q (mapped_declarator right d)).after
alike_up_to R one last h name_at name_to p q (Named x) a = a
alike_up_to R one last h name_at name_to p q (Unnamed at) a = a
alike_up_to R one last h name_at name_to p q (Pointer at qualifiers d) a =
    alike_up_to R one last h name_at name_to (pointer_declared h at.0 name_at (map (mapped_qualifier left) qualifiers) p.made p.after) (pointer_declared h at.1 name_to (map (mapped_qualifier right) qualifiers) q.made q.after) d
    (forget (alike_pointer R last h at.0 name_at at.1 name_to qualifiers p.made q.made p.after q.after (λ b. b.1) a))
alike_up_to R one last h name_at name_to p q (Parenthesised at d) a = alike_up_to R one last h name_at name_to p q d a
alike_up_to R one last h name_at name_to p q (Array at d brackets Absent) a =
    let s : PlainStanding = array_inside h name_at true (mapped_declarator left d) p.after in
    let t : PlainStanding = array_inside h name_to true (mapped_declarator right d) q.after in
    let u : Passed PlainType = element_declared h name_at p.made s in
    let v : Passed PlainType = element_declared h name_to q.made t in
    let typed = forget (alike_element R last h name_at name_to p.made q.made s t (λ b. b.1) (alike_array_inside R last h name_at name_to true d p.after q.after a)) in
    alike_up_to R one last h name_at name_to (open_declared u) (open_declared v) d (alike_map (λ z. (z.0, open_both R u.made v.made z.1)) typed)
alike_up_to R one last h name_at name_to p q (Array at d brackets (Present e)) a =
    let s : PlainStanding = array_inside h name_at false (mapped_declarator left d) p.after in
    let t : PlainStanding = array_inside h name_to false (mapped_declarator right d) q.after in
    let u : Passed PlainType = element_declared h name_at p.made s in
    let v : Passed PlainType = element_declared h name_to q.made t in
    let typed = forget (alike_element R last h name_at name_to p.made q.made s t (λ b. b.1) (alike_array_inside R last h name_at name_to false d p.after q.after a)) in
    alike_up_to R one last h name_at name_to (array_declared h (mapped_expression left e) u) (array_declared h (mapped_expression right e) v) d (forget (alike_array R one last h e u v (λ b. b.1) typed))
alike_up_to R one last h name_at name_to p q (Function at d parentheses all more) a = a

pub parameters_begin : (R : Pairing) → IsOneToOne R → (last : ℕ) (h : Keep) (s t : PlainStanding) (at to : At) (m n : Option PlainType) → (AreQuiet last s t → Both (SameType R) m n) → (d : Declarator (At × At))
    → Passes R last (SameDeclared R) s t (up_to_parameters h at (based m s) (mapped_declarator left d)) (up_to_parameters h to (based n t) (mapped_declarator right d))
parameters_begin R one last h s t at to m n k d =
    leads_by R last s t (up_to_parameters h at (based m s) (mapped_declarator left d)).after (up_to_parameters h to (based n t) (mapped_declarator right d)).after
    (λ a. alike_up_to R one last h at to (based m s) (based n t) d (alike_map (λ q. (q, based_both R m n (k q))) a))

-- what stands there is before what stands after the declarator
pub grows_from_parameters : (h : Keep) (name_at : At) (p : Passed DeclaredType) (d : Declarator At) → Grows (up_to_parameters h name_at p d).after (declarator_passed h name_at p d).after
grows_from_parameters h name_at p (Named name) = as_before p.after
grows_from_parameters h name_at p (Unnamed at) = as_before p.after
grows_from_parameters h name_at p (Pointer at qualifiers d) = grows_from_parameters h name_at (pointer_declared h at name_at qualifiers p.made p.after) d
grows_from_parameters h name_at p (Parenthesised at d) = grows_from_parameters h name_at p d
grows_from_parameters h name_at p (Array at d brackets Absent) = grows_from_parameters h name_at (open_declared (element_declared h name_at p.made (array_inside h name_at true d p.after))) d
grows_from_parameters h name_at p (Array at d brackets (Present e)) = grows_from_parameters h name_at (array_declared h e (element_declared h name_at p.made (array_inside h name_at false d p.after))) d
grows_from_parameters h name_at p (Function at d parentheses all more) = grown (over_declarator h name_at p (Function at d parentheses all more))

-- and after what stood before the declarator
pub grows_up_to : (h : Keep) (name_at : At) (p : Passed DeclaredType) (d : Declarator At) → Grows p.after (up_to_parameters h name_at p d).after
grows_up_to h name_at p (Named name) = as_before p.after
grows_up_to h name_at p (Unnamed at) = as_before p.after
grows_up_to h name_at p (Pointer at qualifiers d) = grows_on (grown (over_pointer h at name_at qualifiers p.made p.after)) (grows_up_to h name_at (pointer_declared h at name_at qualifiers p.made p.after) d)
grows_up_to h name_at p (Parenthesised at d) = grows_up_to h name_at p d
grows_up_to h name_at p (Array at d brackets Absent) =
    let s : PlainStanding = array_inside h name_at true d p.after in
    let u : Passed PlainType = element_declared h name_at p.made s in
    grows_on (grown (over_array_inside h name_at true d p.after)) (grows_on (grown (over_element h name_at p.made s)) (grows_up_to h name_at (open_declared u) d))
grows_up_to h name_at p (Array at d brackets (Present e)) =
    let s : PlainStanding = array_inside h name_at false d p.after in
    let u : Passed PlainType = element_declared h name_at p.made s in
    grows_on (grown (over_array_inside h name_at false d p.after)) (grows_on (grown (over_element h name_at p.made s)) (grows_on (grown (over_array h e u)) (grows_up_to h name_at (array_declared h e u) d)))
grows_up_to h name_at p (Function at d parentheses all more) = as_before p.after
