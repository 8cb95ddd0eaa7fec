-- The code of a constant expression outside functions: it stands after the code of its program.
use Rattle.std.specs.Prelude.{ℕ, ◌+◌, ◌≤◌, List, [], ◌∷◌, ◌++◌, length, replicate, Some}
use Rattle.p10_core.specs.Typed.{PlainValue, PlainProgram}
use Rattle.p10_meaning.specs.States.{State, gives, and_then}
use Rattle.p10_meaning.specs.Values.{absent, evaluate}
use Rattle.p10_meaning.specs.Calling.{no_depth, call_at}
use Rattle.p10_code.specs.Operations.{slot, return, Op}
use Rattle.p10_code.specs.Machine.{Config, on, over, start, Reaches}
use Rattle.p10_code.specs.ValueCode.{op, height, into_code}
use Rattle.p10_code.specs.ProgramCode.{no_span, code_of, entries_of}

-- from a place on: the value goes to the first slot, and the run is over with it
abbrev pub constant_code : PlainProgram → ℕ → PlainValue → List Op
constant_code p at v = into_code (record { program = p; variables = [] }) 0 1 0 at v ++ op 0 no_span (return 0 (Some (slot 0))) ∷ []

-- the machine before it, with the slots that it needs
abbrev pub constant_start : PlainProgram → PlainValue → State → Config
constant_start p v w = record (start w) { pc = length (code_of p); slots = replicate (1 + height v) absent }

-- the code of a constant expression gives what the expression means, with each budget, where calls do what they mean within it
abbrev pub ConstantIsExact : Type 0
ConstantIsExact =
    (p : PlainProgram) (v : PlainValue) (n : ℕ) (w : State) → w.left ≤ n →
    Reaches p (code_of p ++ constant_code p (length (code_of p)) v) (entries_of p) (on (constant_start p v w))
    (and_then (evaluate (record { program = p; variables = []; call = call_at n p no_depth; turns = n }) [] v w) (λ x w. gives (over (Some x)) w))
