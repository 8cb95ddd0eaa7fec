-- When a certificate speaks of a program: condition K1.
use Rattle.std.specs.Prelude.{ℕ, ◌+◌, nat_eq, bytes_eq, Bool, true, false, not, ◌&&◌, List, [], ◌∷◌, Option, Some, None, is_some, if◌then◌else◌, slice_get}
use Rattle.std.specs.List.{list_all}
use Rattle.p10_int.specs.declared.types.IntType.{IntType}
use Rattle.p10_range.specs.Ranges.{is_within}
use Rattle.p10_range.specs.Rows.{values_of}
use Rattle.p10_cert.specs.declared.claims.Rank.{Rank}
use Rattle.p10_cert.specs.declared.claims.Rank.TheVariants.{Up, Down, One, Task}
use Rattle.p10_cert.specs.Claims.{Value, Number, Address, Nothing, Var, Loop, Func, Claims}
use Rattle.p10_core.specs.Types.{PlainType, void, integer, pointer}
use Rattle.p10_core.specs.Typed.{PlainVariable, PlainFunction, PlainProgram}
use Rattle.p10_core.specs.WholePrograms.{is_among, parameter_types}
use Rattle.p10_fit.specs.Sites.{LoopSite, loop_sites, task_loop_number}

-- ## Parameters and results

-- whether this may be claimed of a value of a type: of an integer a range of numbers of the type, of a pointer that it is one, and
-- of `void` that there is none
abbrev pub fits_type : PlainType → Value → Bool
fits_type (integer c t) (Number ends) = is_within ends (values_of t)
fits_type (pointer c t) Address = true
fits_type (void c) Nothing = true
fits_type t v = false

-- whether these may be claimed of values of these types, one after the other
abbrev pub fits_types : List PlainType → List Value → Bool
fits_types [] [] = true
fits_types (t ∷ types) (v ∷ values) = fits_type t v && fits_types types values
fits_types types values = false

-- ## Loops

-- the type of an integer
abbrev pub kind_of_integer : PlainType → Option IntType
kind_of_integer (integer c t) = Some t
kind_of_integer t = None

-- the type of an integer frame variable
abbrev pub frame_integer : Option PlainVariable → Option IntType
frame_integer None = None
frame_integer (Some v) = if v.frame then kind_of_integer v.type else None

-- the type of the integer frame variable with a number, where it is in scope: a certificate may speak of no other variable
abbrev pub counter_type : PlainFunction → List ℕ → ℕ → Option IntType
counter_type f scope n = if is_among n scope then frame_integer (slice_get f.variables n) else None

-- whether the ends of a range lie in the variable's type
abbrev pub has_range : Option IntType → Var → Bool
has_range None v = false
has_range (Some t) v = is_within v.ends (values_of t)

-- whether this may be the rank of a loop, which is the task loop or another one: its variable is an integer frame variable in scope
abbrev pub fits_rank : PlainFunction → List ℕ → Bool → Rank → Bool
fits_rank f scope task (Up n bound) = not task && is_some (counter_type f scope n)
fits_rank f scope task (Down n bound) = not task && is_some (counter_type f scope n)
fits_rank f scope task One = not task
fits_rank f scope task Task = task

-- whether this may be the range of a variable at the head of a loop
abbrev pub fits_variable : PlainFunction → List ℕ → Var → Bool
fits_variable f scope v = has_range (counter_type f scope v.var) v

-- whether a loop's number is that of the task
abbrev pub is_task : Option ℕ → ℕ → Bool
is_task None n = false
is_task (Some task) n = nat_eq task n

-- whether this may be claimed of a loop of a function, of which the number of the task loop is given, if it has one
abbrev pub fits_loop : PlainFunction → Option ℕ → LoopSite → Loop → Bool
fits_loop f task site claim =
    nat_eq claim.depth site.depth && (fits_rank f site.scope (is_task task site.head.number) claim.rank && list_all (fits_variable f site.scope) claim.vars)

-- whether these may be claimed of loops, one after the other
abbrev pub fits_loops : PlainFunction → Option ℕ → List LoopSite → List Loop → Bool
fits_loops f task [] [] = true
fits_loops f task (site ∷ sites) (claim ∷ claims) = fits_loop f task site claim && fits_loops f task sites claims
fits_loops f task sites claims = false

-- ## Functions

-- whether a claim is on the function: it has its name, and its parameters and its result fit
abbrev pub fits_heading : PlainFunction → Func → Bool
fits_heading f claim = bytes_eq claim.name f.name && (fits_types (parameter_types f) claim.params && fits_type f.result claim.result)

-- whether a claim speaks of the function with a number: of its name, its parameters, its result and its loops
abbrev pub fits_function : PlainProgram → ℕ → PlainFunction → Func → Bool
fits_function p n f claim = fits_heading f claim && fits_loops f (task_loop_number p n f) (loop_sites f) claim.loops

-- the function at which claims on the functions from a number on don't speak of the program: the first of which its claim doesn't
-- speak or that has no claim; `main` where there are more claims
abbrev pub unfit_from : PlainProgram → ℕ → List PlainFunction → List Func → Option ℕ
unfit_from p n [] [] = None
unfit_from p n [] (claim ∷ claims) = Some p.main
unfit_from p n (f ∷ functions) [] = Some n
unfit_from p n (f ∷ functions) (claim ∷ claims) = if fits_function p n f claim then unfit_from p (n + 1) functions claims else Some n

-- the function at which a certificate doesn't speak of a program, if there is one (K1)
abbrev pub unfit : PlainProgram → Claims → Option ℕ
unfit p c = unfit_from p 0 p.functions c.funcs
