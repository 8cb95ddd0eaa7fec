-- Small programs whose code runs as they mean.
use Rattle.std.specs.Prelude.{◌≡◌, ℕ, [], ◌∷◌, pos, Some}
use Rattle.p10_int.specs.declared.operators.BinOp.TheVariants.{Add, Sub, Lt, Eq}
use Rattle.p10_core.specs.declared.typed.LogicOp.TheVariants.{And}
use Rattle.p10_core.specs.declared.statements.LoopKeyword.TheVariants.{For}
use Rattle.p10_core.specs.declared.statements.UpdateKind.TheVariants.{Compound}
use Rattle.p10_core.specs.Typed.{PlainValue, read, binary, logic, conditional, call, values_of_list, not_initialized, listed, one_scalar, PlainStatement, update, declare, if_then, loop, switch, break, continue, statements_of_list, PlainProgram}
use Rattle.p10_meaning.specs.States.{Progress, gives, and_then}
use Rattle.p10_meaning.specs.Calling.{no_depth, call_at}
use Rattle.p10_meaning.specs.Opening.{opening}
use Rattle.p10_meaning.specs.Examples.{span, int, number, name, get, does, block_of, returns, int_variable, object_variable, function_of, main_of, program_of, no_world, value_of, plus, assign, begin}
use Rattle.p10_meaning.specs.Costs.{row, element}
use Rattle.p10_code.specs.Machine.{Turned, on, off, Rest, over, start, run_for}
use Rattle.p10_code.specs.ProgramCode.{code_of, entries_of}

-- what the code of a program comes to with so many steps
abbrev pub coded : PlainProgram → ℕ → Turned
coded p steps = run_for p (code_of p) (entries_of p) 1000 (on (start (opening p no_world steps)))

-- what the program means
abbrev pub meant : PlainProgram → ℕ → Progress Rest
meant p steps = and_then (call_at steps p no_depth p.main [] (opening p no_world steps)) (λ x w. gives (over x) w)

-- the code comes to what the program means, with so many steps
abbrev pub Agrees : PlainProgram → ℕ → Type 0
Agrees p steps = coded p steps ≡ off (meant p steps)

-- `x < y`
abbrev pub less : PlainValue → PlainValue → PlainValue
less a b = value_of int (binary Lt a b)

-- variable n
abbrev pub x_of : ℕ → PlainValue
x_of n = get 0 int n

-- `x += v;`
abbrev pub adds : ℕ → PlainValue → PlainStatement
adds n v = does (update Compound Add int (name 0 int n) v)

-- `int i = 0; int s = 0; for (; i < 3; i += 1) { if (i == 1) continue; s += i; } return s;`
abbrev pub sums : PlainProgram
sums = main_of (int_variable ∷ int_variable ∷ [])
    (begin 0 (number (pos 0)) ∷ begin 1 (number (pos 0)) ∷
    does (loop (record { number = 0; keyword = For; span = span 0 }) (statements_of_list []) (Some (less (x_of 0) (number (pos 3)))) (statements_of_list (adds 0 (number (pos 1)) ∷ []))
    (block_of (does (if_then (value_of int (binary Eq (x_of 0) (number (pos 1)))) (does continue)) ∷ adds 1 (x_of 0) ∷ []))) ∷
    returns (x_of 1) ∷ [])

-- `int a[3] = {4, 5}; int i; i = a[1] && a[2] ? 1 : a[0]; { int b[3]; if (i < 3) return 0; return i; }`
abbrev pub arrays : PlainProgram
arrays = main_of (object_variable row 12 ∷ int_variable ∷ object_variable row 12 ∷ [])
    (does (declare 0 (listed (record { first = 0; past = 0; span = span 0 }) (record { scalar = 0; written = one_scalar (number (pos 4)) } ∷ record { scalar = 1; written = one_scalar (number (pos 5)) } ∷ []))) ∷
    does (declare 1 not_initialized) ∷
    assign int 1 (value_of int (conditional (value_of int (logic And (value_of int (read (element 0 (number (pos 1))))) (value_of int (read (element 0 (number (pos 2))))))) (number (pos 1)) (value_of int (read (element 0 (number (pos 0))))))) ∷
    block_of (does (declare 2 not_initialized) ∷ does (if_then (less (x_of 1) (number (pos 3))) (returns (number (pos 0)))) ∷ returns (x_of 1) ∷ []) ∷ [])

-- `int f(int n) { if (n == 0) return 0; return n + f(n - 1); }`, and `main` returns `f(2)`
abbrev pub f_of : PlainValue → PlainValue
f_of v = value_of int (call (span 0) 0 (values_of_list (v ∷ [])))

abbrev pub calls : PlainProgram
calls = program_of (function_of 1 int (int_variable ∷ [])
    (does (if_then (value_of int (binary Eq (x_of 0) (number (pos 0)))) (returns (number (pos 0)))) ∷
    returns (plus (x_of 0) (f_of (value_of int (binary Sub (x_of 0) (number (pos 1)))))) ∷ []) ∷ [])
    [] (returns (f_of (number (pos 2))) ∷ [])

-- `int x; switch (2) { case 1: return 1; case 2: x = 7; break; default: return 3; } return x;`
abbrev pub switches : PlainProgram
switches = main_of (int_variable ∷ [])
    (does (declare 0 not_initialized) ∷
    does (switch (span 0) (number (pos 2)) (record { cases = record { value = pos 1; place = 0 } ∷ record { value = pos 2; place = 1 } ∷ []; otherwise = Some 3 })
    (block_of (returns (number (pos 1)) ∷ assign int 0 (number (pos 7)) ∷ does break ∷ returns (number (pos 3)) ∷ []))) ∷
    returns (x_of 0) ∷ [])

-- the code agrees with the meaning, with enough steps and with too few
pub record CodeAgrees : Type 0 where
  pub loops : Agrees sums 100
  pub loops_short : Agrees sums 30
  pub objects : Agrees arrays 100
  pub objects_short : Agrees arrays 20
  pub recursion : Agrees calls 100
  pub recursion_short : Agrees calls 21
  pub labels : Agrees switches 100
  pub labels_short : Agrees switches 5
