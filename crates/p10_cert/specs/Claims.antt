-- A certificate as definitions speak of it: numbers and bytes.
use Rattle.std.specs.Prelude.{ℕ, Bool, List, map}
use Rattle.p10_base.specs.declared.report.Bounds.{Bounds}
use Rattle.p10_range.specs.Ranges.{Interval, interval_of}
use Rattle.p10_cert.specs.declared.claims.Cert.{Cert}
use Rattle.p10_cert.specs.declared.claims.FuncClaim.{FuncClaim}
use Rattle.p10_cert.specs.declared.claims.LoopClaim.{LoopClaim}
use Rattle.p10_cert.specs.declared.claims.Rank.{Rank}
use Rattle.p10_cert.specs.declared.claims.ValueClaim.{ValueClaim}
use Rattle.p10_cert.specs.declared.claims.ValueClaim.TheVariants.{Ints, Pointer, Void}
pub use Rattle.p10_cert.specs.Vars.{Var, var_of}

-- what is claimed of a parameter or a result: a number between two ends, a pointer, or that there is none
pub data Value : Type 0 where
  Number : Interval → Value
  Address : Value
  Nothing : Value

-- a loop: its depth, its rank, its turns, or the steps of a turn of the task, and its variables
pub record Loop : Type 0 where
  pub depth : ℕ
  pub rank : Rank
  pub turns : ℕ
  pub vars : List Var

-- a function: its name, rank, steps, calls, bytes, whether it allocates, its parameters, its result and its loops
pub record Func : Type 0 where
  pub name : List ℕ
  pub rank : ℕ
  pub steps : ℕ
  pub calls : ℕ
  pub bytes : ℕ
  pub alloc : Bool
  pub params : List Value
  pub result : Value
  pub loops : List Loop

-- what a certificate claims: of its functions, in program order, and of the whole program
pub record Claims : Type 0 where
  pub funcs : List Func
  pub total : Bounds

-- ## what the code's certificates claim

abbrev pub value_of : ValueClaim → Value
value_of (Ints r) = Number (interval_of r)
value_of Pointer = Address
value_of Void = Nothing

abbrev pub loop_of : LoopClaim → Loop
loop_of l = record { depth = l.depth; rank = l.rank; turns = l.turns; vars = l.inv }

abbrev pub func_of : FuncClaim → Func
func_of f = record {
  name = f.name;
  rank = f.rank;
  steps = f.steps;
  calls = f.calls;
  bytes = f.bytes;
  alloc = f.alloc;
  params = map value_of f.params;
  result = value_of f.result;
  loops = map loop_of f.loops;
}

abbrev pub claims_of : Cert → Claims
claims_of c = record { funcs = map func_of c.funcs; total = c.total }
