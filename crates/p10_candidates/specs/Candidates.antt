-- The ranks that are tried for a loop: those that its guard offers, where a variable moves up or down to a bound.
use Rattle.std.specs.Prelude.{ℕ, nat_eq, Bool, false, if◌then◌else◌, List, [], ◌∷◌, ◌++◌, flat_map, take, slice_get, option_to_list, pos, ◌+ℤ◌, ◌-ℤ◌, Option, Some, None}
use Rattle.std.specs.Option.{option_map}
use Rattle.p10_base.specs.declared.at.At.{At}
use Rattle.p10_int.specs.declared.types.IntType.{IntType}
use Rattle.p10_int.specs.declared.operators.BinOp.{BinOp}
use Rattle.p10_int.specs.declared.operators.BinOp.TheVariants.{Lt, Gt, Le, Ge, Ne}
use Rattle.p10_range.specs.Ranges.{Interval, from_to, hull_of}
use Rattle.p10_range.specs.Rows.{values_of}
use Rattle.p10_core.specs.declared.typed.LogicOp.TheVariants.{And}
use Rattle.p10_core.specs.Constants.{integer_of}
use Rattle.p10_core.specs.Types.{PlainType}
use Rattle.p10_core.specs.Typed.{PlainValue, value, PlainForm, constant, read, convert, cast, binary, logic, PlainPlace, place, variable, PlainVariable}
use Rattle.p10_cert.specs.declared.claims.Rank.{Rank}
use Rattle.p10_cert.specs.declared.claims.Rank.TheVariants.{Up, Down, One}
use Rattle.p10_absx.specs.Abstract.{Abstract, only_range}
use Rattle.p10_absx.specs.Environments.{Environment, known, learned}
use Rattle.p10_absx.specs.Comparing.{turned}
use Rattle.p10_absx.specs.Assessing.{assess, as_side, abstract_value}
use Rattle.p10_pass.specs.Scopes.{assigned_forgotten}
use Rattle.p10_candidates.specs.declared.course.Course.{Course}
use Rattle.p10_candidates.specs.declared.course.Course.TheVariants.{Below, AtMost, Above, AtLeast}

-- a loop that is entered: the variables of its function, which of them it assigns, its guard, and what is known at its entry
pub record LoopEntry : Type 0 where
  pub variables : List PlainVariable
  pub assigned : ℕ → Bool
  pub guard : Option PlainValue
  pub entry : Environment

-- ## Parts of a guard

abbrev mutual
  -- the conjuncts of a value: its operands where it is an `&&`, and theirs, in text order (C99 6.5.13); else itself
  pub conjuncts : PlainValue → List PlainValue
  conjuncts (value at t form) = conjuncts_of_form at t form

  -- the same for a form of value at a place
  pub conjuncts_of_form : At → PlainType → PlainForm → List PlainValue
  conjuncts_of_form at t (logic And a b) = conjuncts a ++ conjuncts b
  conjuncts_of_form at t form = value at t form ∷ []

-- the conjuncts of a guard: where a `for` has none, there are none
abbrev pub guard_conjuncts : Option PlainValue → List PlainValue
guard_conjuncts None = []
guard_conjuncts (Some v) = conjuncts v

-- the variable that a place is
abbrev pub variable_named : PlainPlace → Option ℕ
variable_named (place at t (variable n)) = Some n
variable_named p = None

abbrev mutual
  -- the variable of which a value is the value, under conversions and casts
  pub variable_under : PlainValue → Option ℕ
  variable_under (value at t form) = variable_under_form form

  -- the same for a form of value
  pub variable_under_form : PlainForm → Option ℕ
  variable_under_form (read p) = variable_named p
  variable_under_form (convert v) = variable_under v
  variable_under_form (cast v) = variable_under v
  variable_under_form form = None

-- ## How a variable moves

-- the courses of the left side of a comparison, in the order in which they are tried
abbrev pub courses_of : BinOp → List Course
courses_of Lt = Below ∷ []
courses_of Le = AtMost ∷ []
courses_of Gt = Above ∷ []
courses_of Ge = AtLeast ∷ []
courses_of Ne = Below ∷ Above ∷ []
courses_of op = []

-- the rank of a variable on a course, by the range of the other side: how far it is from where the comparison surely fails
abbrev pub rank_along : Course → ℕ → Interval → Rank
rank_along Below v r = Up v r.high
rank_along AtMost v r = Up v (r.high +ℤ pos 1)
rank_along Above v r = Down v r.low
rank_along AtLeast v r = Down v (r.low -ℤ pos 1)

-- where a variable of a type may come on a course from a range: up to the type's greatest value, or down to its least
abbrev pub range_along : Course → IntType → Interval → Interval
range_along Below kind r = hull_of r (from_to (values_of kind).high (values_of kind).high)
range_along AtMost kind r = hull_of r (from_to (values_of kind).high (values_of kind).high)
range_along Above kind r = hull_of r (from_to (values_of kind).low (values_of kind).low)
range_along AtLeast kind r = hull_of r (from_to (values_of kind).low (values_of kind).low)

-- ## Candidates

-- a rank that is tried, and the environment in which it is tried
pub record Candidate : Type 0 where
  pub rank : Rank
  pub trial : Environment

-- the environment for the rank 1: a variable that the loop assigns has any value of its type, and the others have what they have at
-- entry
abbrev pub any_trial : LoopEntry → Environment
any_trial l = assigned_forgotten l.assigned l.variables l.entry

-- an environment in which a variable comes by a course from what it has at entry
abbrev pub moved_along : ℕ → Course → Option PlainVariable → Option Abstract → Environment → Environment
moved_along v course (Some x) (Some a) env = learned env v (only_range (range_along course (integer_of x.type) a.range))
moved_along v course x a env = env

-- the environment for a variable on a course: the same, except that this variable, if the loop assigns it, comes by the course from
-- its range at entry
abbrev pub trial_along : LoopEntry → ℕ → Course → Environment
trial_along l v course = if l.assigned v then moved_along v course (slice_get l.variables v) (known l.entry v) (any_trial l) else any_trial l

-- whether a variable that may be lacking is variable v
abbrev pub is_that : ℕ → Option ℕ → Bool
is_that v None = false
is_that v (Some n) = nat_eq n v

-- whether a value is, in an environment, that of an integer frame variable under conversions to types that have its range
abbrev pub is_variable_in : Environment → ℕ → PlainValue → Bool
is_variable_in env v side = is_that v (as_side (assess None side env)).variable

-- the candidate of a side of a comparison that names a variable, on a course to the other side; none where the side isn't that
-- variable in its trial, or the other side has no value there. No certificate stands in a trial, so a call may give any value of
-- its type
abbrev pub candidate_along : LoopEntry → PlainValue → PlainValue → ℕ → Course → List Candidate
candidate_along l side other v course =
    let trial : Environment = trial_along l v course in
    if is_variable_in trial v side
    then option_to_list (option_map (λ (a : Abstract). record { rank = rank_along course v a.range; trial = trial }) (abstract_value None trial other))
    else []

-- the candidates of the left side of a comparison, by the variable that it names, if it names one
abbrev pub course_candidates : LoopEntry → BinOp → PlainValue → PlainValue → Option ℕ → List Candidate
course_candidates l op side other None = []
course_candidates l op side other (Some v) = flat_map (candidate_along l side other v) (courses_of op)

-- the candidates of the left side of a comparison
abbrev pub side_candidates : LoopEntry → BinOp → PlainValue → PlainValue → List Candidate
side_candidates l op side other = course_candidates l op side other (variable_under side)

-- the constant 0 in place of a value
abbrev pub zero_for : PlainValue → PlainValue
zero_for (value at t form) = value at t (constant (pos 0))

-- the candidates of a conjunct: those of the left side of a comparison, and then those of its right side by the comparison turned
-- round; a plain variable is compared with 0 by `!=`
abbrev pub conjunct_candidates : LoopEntry → PlainValue → List Candidate
conjunct_candidates l (value at t (binary op a b)) = side_candidates l op a b ++ side_candidates l (turned op) b a
conjunct_candidates l (value at t form) = side_candidates l Ne (value at t form) (zero_for (value at t form))

-- the rank 1, which admits no way back
abbrev pub one_candidate : LoopEntry → Candidate
one_candidate l = record { rank = One; trial = any_trial l }

-- the candidates of a loop, in the order in which they are tried: the first four of its guard, and then the rank 1
abbrev pub candidates : LoopEntry → List Candidate
candidates l = take 4 (flat_map (conjunct_candidates l) (guard_conjuncts l.guard)) ++ one_candidate l ∷ []
