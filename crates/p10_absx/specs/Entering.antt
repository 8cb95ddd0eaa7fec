-- The environment with which a call enters a function's body.
use Rattle.std.specs.Prelude.{ℕ, suc, ltb, ◌&&◌, if◌then◌else◌, List, [], ◌∷◌, slice_get, Option, Some, None}
use Rattle.p10_int.specs.declared.types.IntType.{IntType}
use Rattle.p10_range.specs.Ranges.{Interval}
use Rattle.p10_range.specs.Rows.{values_of}
use Rattle.p10_core.specs.Rows.{is_integer}
use Rattle.p10_core.specs.Constants.{integer_of}
use Rattle.p10_core.specs.Typed.{PlainVariable, PlainFunction, PlainProgram}
use Rattle.p10_cert.specs.Claims.{Value, Number, Func, Claims}
use Rattle.p10_absx.specs.Abstract.{Abstract, only_range}
use Rattle.p10_absx.specs.Environments.{Environment}

-- what a certificate claims of a parameter of an integer type: a range, or nothing more than the type
abbrev pub parameter_claimed : IntType → Option Value → Interval
parameter_claimed kind (Some (Number r)) = r
parameter_claimed kind claim = values_of kind

-- what is claimed of a function's parameters
abbrev pub claims_on : Option Func → List Value
claims_on None = []
claims_on (Some f) = f.params

-- the entry of variable n of a function with some parameters
abbrev pub entry_for : ℕ → ℕ → List Value → PlainVariable → Option Abstract
entry_for n parameters claims v =
    if ltb n parameters && v.frame && is_integer v.type then Some (only_range (parameter_claimed (integer_of v.type) (slice_get claims n))) else None

-- the entries of variables from number n on, of which the first `parameters` are in scope
abbrev pub entries_from : ℕ → ℕ → List Value → List PlainVariable → Environment
entries_from n parameters claims [] = []
entries_from n parameters claims (v ∷ vs) = entry_for n parameters claims v ∷ entries_from (suc n) parameters claims vs

-- the environment at the entry of a function: its integer frame parameters lie in their claimed ranges
abbrev pub entry_of_function : Option Func → PlainFunction → Environment
entry_of_function claim f = entries_from 0 f.parameters (claims_on claim) f.variables

-- the same for a function that may be lacking
abbrev pub entry_of : Option Func → Option PlainFunction → Environment
entry_of claim None = []
entry_of claim (Some f) = entry_of_function claim f

-- the environment at the entry of the function with a number
abbrev pub entry_at : PlainProgram → Claims → ℕ → Environment
entry_at p c f = entry_of (slice_get c.funcs f) (slice_get p.functions f)
