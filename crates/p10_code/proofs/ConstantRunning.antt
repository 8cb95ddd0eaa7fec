-- The code of a constant expression gives what the expression means.
use Rattle.std.proofs.Common.{◌≡◌, ℕ, ◌+◌, List, [], ◌∷◌, ◌++◌, length, replicate, Some, refl, sym, ap, ◌∙◌, arith}
use Rattle.std.proofs.lemmas.List.{length-replicate}
use Rattle.p10_meaning.specs.declared.pointers.Scalar.{Scalar}
use Rattle.p10_meaning.specs.States.{State, Progress, gives, and_then}
use Rattle.p10_meaning.specs.Values.{Held, absent, evaluate}
use Rattle.p10_meaning.specs.Calling.{no_depth, call_at}
use Rattle.p10_code.specs.Operations.{slot, return, Op, Entry}
use Rattle.p10_code.specs.Machine.{Rest, off, over as over_with, look, scalar_in}
use Rattle.p10_code.specs.ValueCode.{op, height, into_code}
use Rattle.p10_code.specs.ProgramCode.{no_span, functions_code, code_of, entries_of}
use Rattle.p10_code.specs.ConstantCode.{constant_code, ConstantIsExact}
use Rattle.p10_code.proofs.Base.{owed_zero, Stands, front, rear, stands_at, Under, stand, look_here, comes_to, comes_from, free_op, off_reaches}
use Rattle.p10_code.proofs.ValueParts.{CallsRun, setting}
use Rattle.p10_code.proofs.ValueLaw.{into_law}
use Rattle.p10_code.proofs.Running.{call_law, whole, linked_from}

-- no call is open
abbrev outside : Under
outside = record { below = []; callers = []; blocks = []; depth = no_depth }

pub constant_is_exact : ConstantIsExact
constant_is_exact p v n w le =
    let T : ℕ = length (code_of p) in
    let more : List Op = constant_code p T v in
    let code : List Op = code_of p ++ more in
    let entries : List Entry = entries_of p in
    let all : Stands code 0 code (0 + length code) = whole [] code in
    let functions : Stands code 2 (functions_code p 2 p.functions) (0 + T) = (front code 0 (0 + length code) (code_of p) more all).1.1 in
    let there : Stands code T more (0 + length code) = stands_at code (0 + T) T (0 + length code) more (omega arith) (rear code 0 (0 + length code) (code_of p) more all) in
    let calls : CallsRun p code entries outside (call_at n p no_depth) n = call_law p code entries (linked_from p code 2 (0 + T) p.functions functions) n outside in
    let body : List Op = into_code (record { program = p; variables = [] }) 0 1 0 T v in
    let last : List Op = op 0 no_span (return 0 (Some (slot 0))) ∷ [] in
    let s : List Held = replicate (1 + height v) absent in
    let size : length s ≡ 1 + height v = length-replicate {A = Held} (1 + height v) absent in
    let K : Scalar → State → Progress Rest = λ x w. gives (over_with (Some x)) w in
    comes_to p code entries _ _ _ (sym (owed_zero w (λ w. and_then (evaluate (setting p [] (call_at n p no_depth) n) [] v w) K)))
    (into_law p code entries outside [] (call_at n p no_depth) n calls [] v 0 1 0 T (T + length body) s w K (omega (arith, size))
    (record { free = omega arith; room = omega (arith, size); bound = omega (arith, le); variables = record { size = refl; room = omega arith; same = λ i lt. absurd (omega (arith, lt)); kinds = λ i. tt } })
    (front code T (0 + length code) body last there)
    (λ x s1 w1 a e.
    free_op p code entries outside (T + length body) no_span (return 0 (Some (slot 0))) s1 w1 (K x w1) (rear code T (0 + length code) body last there).0
    (let given : scalar_in (look (stand outside (T + length body) s1 w1) 0) ≡ Some x = ap scalar_in (ap (λ (l : ℕ → Held). l 0) (look_here outside (T + length body) s1 w1) ∙ e) in
    comes_from p code entries _ (off (K x w1)) (K x w1) (ap (λ y. off (gives (over_with y) w1)) given) (off_reaches p code entries (K x w1) tt))))
