-- Rows on the form of a declarator are noted, whatever its parts are.
use Rattle.std.specs.Prelude.{Bool, true, false, if◌then◌else◌, List, [], ◌∷◌, ◌++◌}
use Rattle.std.proofs.Common.{◌⊎◌, inl, inr}
use Rattle.p10_base.specs.declared.at.At.{At}
use Rattle.p10_base.specs.declared.codes.SubsetCode.{SubsetCode}
use Rattle.p10_base.specs.declared.codes.SubsetCode.TheVariants as subset
use Rattle.p10_syn.specs.Trees.{Absent, Present, Declarator, Named, Unnamed, Pointer, Parenthesised, Array, Function}
use Rattle.p10_core.specs.Types.{PlainType}
use Rattle.p10_elabx.specs.declared.problem.Problem.{Problem}
use Rattle.p10_elabx.specs.First.{Among, every}
use Rattle.p10_elabd.specs.Standing.{PlainStanding, Passed, refusing}
use Rattle.p10_elabd.specs.Shapes.{DeclaredType, pointer_declared, element_declared, array_declared, open_declared, array_inside, function_inside, result_declared, among_parameters, list_of, function_declared}
use Rattle.p10_elabd.specs.Declaring.{Listing, declarator_passed, all_parameters_passed}
use Rattle.p10_elabd.specs.Laws.{inside_parentheses, array_form, function_form, form_rows, FormRowsAreTold}
use Rattle.p10_elabd.proofs.Growing.{Grows, grows_on, grows_element, grows_array, grows_all_parameters, grows_declarator}

among_later : (rs qs : List Problem) (r : Problem) → Among r qs → Among r (rs ++ qs)
among_later [] qs r h = h
among_later (q ∷ rs) qs r h = inr (among_later rs qs r h)

among_either : (rs qs : List Problem) (r : Problem) → Among r (rs ++ qs) → Among r rs ⊎ Among r qs
among_either [] qs r h = inr h
among_either (q ∷ rs) qs r (inl e) = inl (inl e)
among_either (q ∷ rs) qs r (inr h) = further (among_either rs qs r h)
  where
    further : Among r rs ⊎ Among r qs → Among r (q ∷ rs) ⊎ Among r qs
    further (inl a) = inl (inr a)
    further (inr b) = inr b

refused_told : (b : Bool) (code : SubsetCode) (at : At) (s : PlainStanding) (r : Problem) → Among r (if b then record { code = code; at = at } ∷ [] else []) → Among r (refusing every b code at s).problems
refused_told true code at s r h = among_later s.problems (record { code = code; at = at } ∷ []) r h
refused_told false code at s r h = absurd h

array_told : (name_at : At) (lacking : Bool) (d : Declarator At) (s : PlainStanding) (r : Problem) → Among r (array_form name_at lacking (inside_parentheses d)) → Among r (array_inside every name_at lacking d s).problems
array_told name_at lacking (Named name) s r h = absurd h
array_told name_at lacking (Unnamed at) s r h = absurd h
array_told name_at lacking (Pointer at qualifiers d) s r h = refused_told lacking subset.IncompleteType name_at s r h
array_told name_at lacking (Parenthesised at d) s r h = array_told name_at lacking d s r h
array_told name_at lacking (Array at d brackets length) s r h = refused_told lacking subset.IncompleteType name_at s r h
array_told name_at lacking (Function at d parentheses all more) s r h = refused_told true subset.IncompleteType name_at s r h

function_told : (name_at : At) (d : Declarator At) (s : PlainStanding) (r : Problem) → Among r (function_form name_at (inside_parentheses d)) → Among r (function_inside every name_at d s).problems
function_told name_at (Named name) s r h = absurd h
function_told name_at (Unnamed at) s r h = absurd h
function_told name_at (Pointer at qualifiers d) s r h = refused_told true subset.BadPointer at s r h
function_told name_at (Parenthesised at d) s r h = function_told name_at d s r h
function_told name_at (Array at d brackets length) s r h = refused_told true subset.IncompleteType name_at s r h
function_told name_at (Function at d parentheses all more) s r h = refused_told true subset.IncompleteType name_at s r h

-- what is noted at one of two places is noted at the end
from_either : (rs qs : List Problem) (s t : PlainStanding) (r : Problem) → (Among r rs → Among r s.problems) → Grows s t → (Among r qs → Among r t.problems) → Among r (rs ++ qs) → Among r t.problems
from_either rs qs s t r here on inside h = elim (among_either rs qs r h) as (λ _. Among r t.problems) [
  | inl a ↦ on.among r (here a)
  | inr b ↦ inside b
]

told : (name_at : At) (p : Passed DeclaredType) (d : Declarator At) (r : Problem) → Among r (form_rows name_at d) → Among r (declarator_passed every name_at p d).after.problems
told name_at p (Named name) r h = absurd h
told name_at p (Unnamed at) r h = absurd h
told name_at p (Pointer at qualifiers d) r h = told name_at (pointer_declared every at name_at qualifiers p.made p.after) d r h
told name_at p (Parenthesised at d) r h = told name_at p d r h
told name_at p (Array at d brackets Absent) r h =
    let s : PlainStanding = array_inside every name_at true d p.after in
    let q : Passed PlainType = element_declared every name_at p.made s in
    from_either (array_form name_at true (inside_parentheses d)) (form_rows name_at d) s (declarator_passed every name_at (open_declared q) d).after r
    (array_told name_at true d p.after r)
    (grows_on (grows_element name_at p.made s) (grows_declarator name_at (open_declared q) d))
    (told name_at (open_declared q) d r) h
told name_at p (Array at d brackets (Present e)) r h =
    let s : PlainStanding = array_inside every name_at false d p.after in
    let q : Passed PlainType = element_declared every name_at p.made s in
    let a : Passed DeclaredType = array_declared every e q in
    from_either (array_form name_at false (inside_parentheses d)) (form_rows name_at d) s (declarator_passed every name_at a d).after r
    (array_told name_at false d p.after r)
    (grows_on (grows_element name_at p.made s) (grows_on (grows_array e q) (grows_declarator name_at a d)))
    (told name_at a d r) h
told name_at p (Function at d parentheses all more) r h =
    let u : Passed PlainType = result_declared every at name_at p.made p.after in
    let t : PlainStanding = refusing every more subset.NoPrototype parentheses u.after in
    let s : PlainStanding = function_inside every name_at d t in
    let q : Listing = all_parameters_passed every (among_parameters s) parentheses all in
    let f : Passed DeclaredType = function_declared (list_of all more) u.made q.parameters q.after in
    from_either (function_form name_at (inside_parentheses d)) (form_rows name_at d) s (declarator_passed every name_at f d).after r
    (function_told name_at d t r)
    (grows_on (grows_all_parameters (among_parameters s) parentheses all) (grows_declarator name_at f d))
    (told name_at f d r) h

pub form_rows_are_told : FormRowsAreTold
form_rows_are_told = record { told = told; kept = λ name_at p d r h. (grows_declarator name_at p d).among r h }
