-- Variables that change or go out of scope, as the code's functions speak of them.
use Rattle.std.specs.Prelude.{ℕ, Bool, if◌then◌else◌, Option, Some, None}
use Rattle.p10_core.specs.Constants.{integer_of}
use Rattle.p10_core.specs.Typed.{PlainStatement, statement, declare, PlainVariable}
use Rattle.p10_absx.specs.Abstract.{Abstract, whole_type}
use Rattle.p10_absx.specs.Environments.{Environment, out_of_scope}

-- what a variable has that may have changed where it is marked
abbrev pub forgotten : (ℕ → Bool) → ℕ → PlainVariable → Abstract → Abstract
forgotten marks n v a = if marks n then whole_type (integer_of v.type) else a

-- the variable that a statement declares
abbrev pub declared_by : PlainStatement → Option ℕ
declared_by (statement at (declare n initializer)) = Some n
declared_by s = None

-- a variable that may be declared is out of scope
abbrev pub without_declared : Option ℕ → Environment → Environment
without_declared None env = env
without_declared (Some n) env = out_of_scope env n
