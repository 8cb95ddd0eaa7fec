-- Declarators that declare no function, by their form.
use Rattle.std.specs.Prelude.{◌≡◌, Bool, true, false, if◌then◌else◌, List, Option, Some, None, option_map, Ok, Err}
use Rattle.p10_base.specs.declared.at.At.{At}
use Rattle.p10_syn.specs.Trees.{Qualifier, Absent, Present, Declarator, Named, Unnamed, Pointer, Parenthesised, Array, Function}
use Rattle.p10_core.specs.Types.{PlainType}
use Rattle.p10_core.specs.Rows.{is_void}
use Rattle.p10_elabx.specs.declared.shape.Length.{Length}
use Rattle.p10_elabx.specs.declared.shape.Made.{Made}
use Rattle.p10_elabx.specs.declared.shape.Made.TheVariants as around
use Rattle.p10_elabx.specs.First.{Ruled, every, lift, ruled}
use Rattle.p10_elabx.specs.TypeNames.{is_of_open_array, made_by, length_found, sized_array}
use Rattle.p10_elabd.specs.Laws.{elements_in}
use Rattle.p10_elabd.specs.Standing.{PlainStanding, Passed, noted}
use Rattle.p10_elabd.specs.Expressions.{value_by}
use Rattle.p10_elabd.specs.Shapes.{DeclaredType, of_type, of_open_array, of_function, of_part_function, has_parameters, pointer_declared, element_declared, array_with, array_inside, array_declared, open_declared}
use Rattle.p10_elabd.specs.Declaring.{declarator_passed}
use Rattle.p10_refusals.specs.Forms.{function_made_of}

-- no function is declared, as far as that is known
abbrev pub IsNoFunction : Option DeclaredType → Type 0
IsNoFunction (Some (of_function f)) = ⊥
IsNoFunction (Some (of_part_function f)) = ⊥
IsNoFunction (Some (of_type t)) = Unit {0}
IsNoFunction (Some (of_open_array t)) = Unit {0}
IsNoFunction None = Unit {0}

pub based_none : (t : Option PlainType) → IsNoFunction (option_map of_type t)
based_none None = tt
based_none (Some t) = tt

open_none : (t : Option PlainType) → IsNoFunction (option_map of_open_array t)
open_none None = tt
open_none (Some t) = tt

either_none : (b : Bool) (p q : Passed DeclaredType) → IsNoFunction p.made → IsNoFunction q.made → IsNoFunction (if b then p else q).made
either_none true p q m n = m
either_none false p q m n = n

pointer_none : (at name_at : At) (qualifiers : List (Qualifier At)) (o : Option DeclaredType) (s : PlainStanding) → IsNoFunction (pointer_declared every at name_at qualifiers o s).made
pointer_none at name_at qualifiers None s = tt
pointer_none at name_at qualifiers (Some (of_type t)) s = either_none (is_void t) _ _ tt tt
pointer_none at name_at qualifiers (Some (of_open_array t)) s = tt
pointer_none at name_at qualifiers (Some (of_function f)) s = tt
pointer_none at name_at qualifiers (Some (of_part_function f)) s = tt

sized_none : (x : Ruled PlainType) (s : PlainStanding) → IsNoFunction (noted every (lift (ruled x (λ u. Ok (of_type u)))) s).made
sized_none (Ok u) s = tt
sized_none (Err r) s = tt

array_none : (t : Option PlainType) (n : Option Length) (s : PlainStanding) → IsNoFunction (array_with every t n s).made
array_none (Some t) (Some n) s = sized_none (sized_array s.scope.structures t n) s
array_none (Some t) None s = tt
array_none None n s = tt

-- where no parameters stand
pub none_made : (name_at : At) (p : Passed DeclaredType) (d : Declarator At) → has_parameters d ≡ false → IsNoFunction p.made → IsNoFunction (declarator_passed every name_at p d).made
none_made name_at p (Named name) h n = n
none_made name_at p (Unnamed at) h n = n
none_made name_at p (Pointer at qualifiers d) h n =
    none_made name_at (pointer_declared every at name_at qualifiers p.made p.after) d h (pointer_none at name_at qualifiers p.made p.after)
none_made name_at p (Parenthesised at d) h n = none_made name_at p d h n
none_made name_at p (Array at d brackets Absent) h n =
    let element : Passed PlainType = element_declared every name_at p.made (array_inside every name_at true d p.after) in
    none_made name_at (open_declared element) d h (open_none element.made)
none_made name_at p (Array at d brackets (Present e)) h n =
    let element : Passed PlainType = elements_in name_at p d in
    let count : Passed Length = value_by every element.after e length_found in
    none_made name_at (array_declared every e element) d h (array_none element.made count.made count.after)
none_made name_at p (Function at d parentheses all more) h n = absurd cc

-- where an array without a length is declared, by what stands round the rest
open_by : (name_at : At) (p : Passed DeclaredType) (m : Made) (d : Declarator At) → is_of_open_array (made_by m d) ≡ true → (is_of_open_array m ≡ true → IsNoFunction p.made) →
    IsNoFunction (declarator_passed every name_at p d).made
open_by name_at p m (Named name) h n = n h
open_by name_at p m (Unnamed at) h n = n h
open_by name_at p m (Pointer at qualifiers d) h n = open_by name_at (pointer_declared every at name_at qualifiers p.made p.after) around.Pointer d h (λ e. absurd cc)
open_by name_at p m (Parenthesised at d) h n = open_by name_at p m d h n
open_by name_at p m (Array at d brackets Absent) h n =
    let element : Passed PlainType = element_declared every name_at p.made (array_inside every name_at true d p.after) in
    open_by name_at (open_declared element) around.OpenArray d h (λ e. open_none element.made)
open_by name_at p m (Array at d brackets (Present x)) h n = open_by name_at (array_declared every x (elements_in name_at p d)) around.Array d h (λ e. absurd cc)
open_by name_at p m (Function at d parentheses all more) h n = open_by name_at (function_made_of name_at at p d parentheses all more) around.Function d h (λ e. absurd cc)

pub open_made : (name_at : At) (p : Passed DeclaredType) (d : Declarator At) → is_of_open_array (made_by around.Nothing d) ≡ true → IsNoFunction (declarator_passed every name_at p d).made
open_made name_at p d h = open_by name_at p around.Nothing d h (λ e. absurd cc)
