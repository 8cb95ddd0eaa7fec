-- Laws of the reader of lines: a line that is read has the one text of what it says, and that text is read.
use Rattle.std.proofs.Common.{◌≡◌, ℕ, ◌≤◌, Bool, true, false, ◌==◌, List, [], ◌++◌, codes, decimal, Option, Some, None, refl, ap, subst, ◌∙◌, arith}
use Rattle.std.proofs.lemmas.Bool.Decides.{nat_tests}
use Rattle.std.proofs.lemmas.Option.{cond_some, same_Some, none-some}
use Rattle.std.specs.Char.{is_ascii_digit}
use Rattle.p10_base.specs.declared.report.Bounds.{Bounds}
use Rattle.p10_cert.specs.declared.claims.Rank.{Rank}
use Rattle.p10_cert.specs.declared.claims.Rank.TheVariants.{Up, Down, One, Task}
use Rattle.p10_cert.specs.Claims.{Value, Number, Address, Nothing, Var}
use Rattle.p10_cert.specs.Lines.{FuncHead, Line, FirstLine, FuncLine, ParamLine, ResultLine, LoopLine, VarLine, TotalLine, LastLine, SealedLine, ◌then◌, flag_number, ends_then, value_then, loop_then, line_then, greatest_count, is_name_byte, IsFuncHead, IsParam, IsResult, IsRank, IsVar, IsTotal, IsLine}
use Rattle.p10_cert.specs.private.Reading.{or_else, after_front, after_run, greatest_index, is_there, param_at, result_at, func_at, loop_at, task_at, var_at, total_at, after_first, after_total, function_digest_at, outside_at, section_at, body_at, sealed_at, inner_at, outer_at, line_at}
use Rattle.p10_cert.proofs.Steps.{then_some, bind_is, choice_some, after_front_takes, after_front_again}
use Rattle.p10_cert.proofs.NumberLaws.{number_takes, number_again, labelled_takes, labelled_again, name_takes, name_again}
use Rattle.p10_cert.proofs.HexLaws.{digest_takes}
use Rattle.p10_cert.proofs.SectionLaws.{start_takes, body_takes}
use Rattle.p10_cert.proofs.ValueLaws.{ends_takes, ends_again, value_takes, value_again, rank_then, IsEnding, rank_takes, rank_again}

-- what a reader took: the text of a line after its first words, of a line that may be
abbrev Took : List ℕ → List ℕ → Line × List ℕ → Type 0
Took words text r = (words ++ text ≡ line_then r.0 r.1) × IsLine r.0

-- ---- parameters and results

value_is_there : (v : Value) → IsResult v → is_there v ≡ true → IsParam v
value_is_there (Number ends) fits there = fits
value_is_there Address fits there = tt
value_is_there Nothing fits there = absurd cc

pub param_is_value : (v : Value) → IsParam v → IsResult v × (is_there v ≡ true)
param_is_value (Number ends) fits = (fits, refl)
param_is_value Address fits = (tt, refl)
param_is_value Nothing fits = absurd fits

param_takes : (text : List ℕ) (r : Line × List ℕ) → param_at text ≡ Some r → Took (codes "param ") text r
unfolding param_at line_then
param_takes text r e =
    then_some _ _ _ e (λ value e0 f0. then_some _ _ _ f0 (λ rest e1 f1.
    let p0 = value_takes text value e0 in
    let p1 = after_front_takes (codes "\n") value.1 rest e1 in
    let found = cond_some (is_there value.0) (ParamLine value.0, rest) r f1 in
    subst (Took (codes "param ") text) found.1 (
      ap (λ t. codes "param " ++ t) (p0.0 ∙ ap (λ t. value_then value.0 t) p1),
      value_is_there value.0 p0.1 found.0,
    )))

pub param_again : (v : Value) (rest : List ℕ) → IsParam v → param_at (value_then v (codes "\n" ++ rest)) ≡ Some (ParamLine v, rest)
unfolding param_at
param_again v rest fits =
    let value = param_is_value v fits in
    bind_is _ (v, codes "\n" ++ rest) _ _ (value_again v (codes "\n" ++ rest) value.0 refl)
    (bind_is _ rest _ _ (after_front_again (codes "\n") rest) (rw value.1 refl))

result_takes : (text : List ℕ) (r : Line × List ℕ) → result_at text ≡ Some r → Took (codes "result ") text r
unfolding result_at line_then
result_takes text r e =
    then_some _ _ _ e (λ value e0 f0. then_some _ _ _ f0 (λ rest e1 f1.
    let p0 = value_takes text value e0 in
    let p1 = after_front_takes (codes "\n") value.1 rest e1 in
    subst (Took (codes "result ") text) (same_Some _ _ f1) (
      ap (λ t. codes "result " ++ t) (p0.0 ∙ ap (λ t. value_then value.0 t) p1),
      p0.1,
    )))

pub result_again : (v : Value) (rest : List ℕ) → IsResult v → result_at (value_then v (codes "\n" ++ rest)) ≡ Some (ResultLine v, rest)
unfolding result_at
result_again v rest fits =
    bind_is _ (v, codes "\n" ++ rest) _ _ (value_again v (codes "\n" ++ rest) fits refl)
    (bind_is _ rest _ _ (after_front_again (codes "\n") rest) refl)

-- ---- the first line of a function

flag_test : (b : Bool) → (flag_number b == 1) ≡ b
flag_test true = refl
flag_test false = refl

pub flag_small : (b : Bool) → flag_number b ≤ 1
flag_small true = omega arith
flag_small false = omega arith

flag_number-test : (n : ℕ) (b : Bool) → (n == 1) ≡ b → n ≤ 1 → flag_number b ≡ n
flag_number-test n true e small = grind (arith, nat_tests)
flag_number-test n false e small = grind (arith, nat_tests)

func_takes : (text : List ℕ) (r : Line × List ℕ) → func_at text ≡ Some r → Took (codes "func ") text r
unfolding func_at line_then
func_takes text r e =
    then_some _ _ _ e (λ name e1 f1. then_some _ _ _ f1 (λ rank e2 f2.
    then_some _ _ _ f2 (λ steps e3 f3. then_some _ _ _ f3 (λ calls e4 f4. then_some _ _ _ f4 (λ bytes e5 f5.
    then_some _ _ _ f5 (λ alloc e6 f6. then_some _ _ _ f6 (λ rest e7 f7.
    let p1 = name_takes text name e1 in
    let p2 = labelled_takes (codes " rank ") greatest_index name.1 rank e2 in
    let p3 = labelled_takes (codes " steps ") greatest_count rank.1 steps e3 in
    let p4 = labelled_takes (codes " calls ") greatest_count steps.1 calls e4 in
    let p5 = labelled_takes (codes " bytes ") greatest_count calls.1 bytes e5 in
    let p6 = labelled_takes (codes " alloc ") 1 bytes.1 alloc e6 in
    let p7 = after_front_takes (codes "\n") alloc.1 rest e7 in
    let flag = flag_number-test alloc.0 (alloc.0 == 1) refl p6.1 in
    subst (Took (codes "func ") text) (same_Some _ _ f7) (
      rw (p1.0, p2.0, p3.0, p4.0, p5.0, p6.0, p7, flag) refl,
      record {
        name = p1.1;
        rank = record { small = omega (arith, p2.1) };
        steps = record { small = p3.1 };
        calls = record { small = p4.1 };
        bytes = record { small = p5.1 };
      },
    ))))))))

-- the line of a function after its first word
abbrev pub func_then : FuncHead → List ℕ → List ℕ
func_then f rest =
    f.name then codes " rank " then decimal f.rank then codes " steps " then decimal f.steps then codes " calls " then decimal f.calls
    then codes " bytes " then decimal f.bytes then codes " alloc " then decimal (flag_number f.alloc) then codes "\n" then rest

pub func_again : (f : FuncHead) (rest : List ℕ) → IsFuncHead f → func_at (func_then f rest) ≡ Some (FuncLine f, rest)
unfolding func_at is_name_byte
func_again f rest fits =
    let t6 : List ℕ = codes "\n" ++ rest in
    let t5 : List ℕ = codes " alloc " ++ (decimal (flag_number f.alloc) ++ t6) in
    let t4 : List ℕ = codes " bytes " ++ (decimal f.bytes ++ t5) in
    let t3 : List ℕ = codes " calls " ++ (decimal f.calls ++ t4) in
    let t2 : List ℕ = codes " steps " ++ (decimal f.steps ++ t3) in
    let t1 : List ℕ = codes " rank " ++ (decimal f.rank ++ t2) in
    bind_is _ (f.name, t1) _ _ (name_again f.name t1 fits.name refl)
    (bind_is _ (f.rank, t2) _ _ (labelled_again (codes " rank ") greatest_index f.rank t2 (omega (arith, fits.rank.small)) (omega arith) refl)
    (bind_is _ (f.steps, t3) _ _ (labelled_again (codes " steps ") greatest_count f.steps t3 fits.steps.small (omega arith) refl)
    (bind_is _ (f.calls, t4) _ _ (labelled_again (codes " calls ") greatest_count f.calls t4 fits.calls.small (omega arith) refl)
    (bind_is _ (f.bytes, t5) _ _ (labelled_again (codes " bytes ") greatest_count f.bytes t5 fits.bytes.small (omega arith) refl)
    (bind_is _ (flag_number f.alloc, t6) _ _ (labelled_again (codes " alloc ") 1 (flag_number f.alloc) t6 (flag_small f.alloc) (omega arith) refl)
    (bind_is _ rest _ _ (after_front_again (codes "\n") rest)
    (rw (flag_test f.alloc) refl)))))))

-- ---- loops and their variables

loop_text_is : (depth : ℕ) (rank : Rank) (turns : ℕ) (rest : List ℕ) → IsEnding rank → codes "loop " ++ (decimal depth ++ rank_then rank (codes " turns " ++ (decimal turns ++ rest))) ≡ loop_then depth rank turns rest
loop_text_is depth (Up var bound) turns rest ending = refl
loop_text_is depth (Down var bound) turns rest ending = refl
loop_text_is depth One turns rest ending = refl
loop_text_is depth Task turns rest ending = absurd ending

ending_rank : (depth : ℕ) (rank : Rank) → IsEnding rank → IsRank depth rank
ending_rank depth (Up var bound) ending = ending
ending_rank depth (Down var bound) ending = ending
ending_rank depth One ending = tt
ending_rank depth Task ending = absurd ending

rank_stops : (rank : Rank) (rest : List ℕ) → IsEnding rank → after_run is_ascii_digit (rank_then rank rest) ≡ rank_then rank rest
rank_stops (Up var bound) rest ending = refl
rank_stops (Down var bound) rest ending = refl
rank_stops One rest ending = refl
rank_stops Task rest ending = absurd ending

loop_takes : (text : List ℕ) (r : Line × List ℕ) → loop_at text ≡ Some r → Took (codes "loop ") text r
unfolding loop_at line_then
loop_takes text r e =
    then_some _ _ _ e (λ depth e0 f0. then_some _ _ _ f0 (λ rank e1 f1. then_some _ _ _ f1 (λ turns e2 f2. then_some _ _ _ f2 (λ rest e3 f3.
    let p0 = number_takes greatest_index text depth e0 in
    let p1 = rank_takes depth.1 rank e1 in
    let p2 = labelled_takes (codes " turns ") greatest_count rank.1 turns e2 in
    let p3 = after_front_takes (codes "\n") turns.1 rest e3 in
    subst (Took (codes "loop ") text) (same_Some _ _ f3) (
      rw (p0.0, p1.0, p2.0, p3) (loop_text_is depth.0 rank.0 turns.0 (codes "\n" ++ rest) p1.1),
      record {
        depth = record { small = omega (arith, p0.1) };
        rank = ending_rank depth.0 rank.0 p1.1;
        turns = record { small = p2.1 };
      },
    )))))

pub loop_again : (depth : ℕ) (rank : Rank) (turns : ℕ) (rest : List ℕ) → depth ≤ greatest_index → IsEnding rank → turns ≤ greatest_count
    → loop_at (decimal depth ++ rank_then rank (codes " turns " ++ (decimal turns ++ (codes "\n" ++ rest)))) ≡ Some (LoopLine (record { depth = depth; rank = rank; turns = turns }), rest)
unfolding loop_at
loop_again depth rank turns rest small ending few =
    let t2 : List ℕ = codes "\n" ++ rest in
    let t1 : List ℕ = codes " turns " ++ (decimal turns ++ t2) in
    bind_is _ (depth, rank_then rank t1) _ _ (number_again greatest_index depth (rank_then rank t1) small (omega arith) (rank_stops rank t1 ending))
    (bind_is _ (rank, t1) _ _ (rank_again rank t1 ending refl)
    (bind_is _ (turns, t2) _ _ (labelled_again (codes " turns ") greatest_count turns t2 few (omega arith) refl)
    (bind_is _ rest _ _ (after_front_again (codes "\n") rest) refl)))

task_takes : (text : List ℕ) (r : Line × List ℕ) → task_at text ≡ Some r → Took (codes "task steps ") text r
unfolding task_at line_then
task_takes text r e =
    then_some _ _ _ e (λ steps e0 f0. then_some _ _ _ f0 (λ rest e1 f1.
    let p0 = number_takes greatest_count text steps e0 in
    let p1 = after_front_takes (codes "\n") steps.1 rest e1 in
    subst (Took (codes "task steps ") text) (same_Some _ _ f1) (
      rw (p0.0, p1) refl,
      record { depth = record { small = omega arith }; rank = refl; turns = record { small = p0.1 } },
    )))

pub task_again : (steps : ℕ) (rest : List ℕ) → steps ≤ greatest_count → task_at (decimal steps ++ (codes "\n" ++ rest)) ≡ Some (LoopLine (record { depth = 0; rank = Task; turns = steps }), rest)
unfolding task_at
task_again steps rest few =
    bind_is _ (steps, codes "\n" ++ rest) _ _ (number_again greatest_count steps (codes "\n" ++ rest) few (omega arith) refl)
    (bind_is _ rest _ _ (after_front_again (codes "\n") rest) refl)

var_takes : (text : List ℕ) (r : Line × List ℕ) → var_at text ≡ Some r → Took (codes "var ") text r
unfolding var_at line_then
var_takes text r e =
    then_some _ _ _ e (λ var e0 f0. then_some _ _ _ f0 (λ middle e1 f1. then_some _ _ _ f1 (λ ends e2 f2. then_some _ _ _ f2 (λ rest e3 f3.
    let p0 = number_takes greatest_index text var e0 in
    let p1 = after_front_takes (codes " ") var.1 middle e1 in
    let p2 = ends_takes middle ends e2 in
    let p3 = after_front_takes (codes "\n") ends.1 rest e3 in
    subst (Took (codes "var ") text) (same_Some _ _ f3) (
      rw (p0.0, p1, p2.0, p3) refl,
      record { var = record { small = omega (arith, p0.1) }; ends = p2.1 },
    )))))

pub var_again : (v : Var) (rest : List ℕ) → IsVar v → var_at (decimal v.var ++ (codes " " ++ ends_then v.ends (codes "\n" ++ rest))) ≡ Some (VarLine v, rest)
unfolding var_at
var_again v rest fits =
    let t1 : List ℕ = codes "\n" ++ rest in
    let t0 : List ℕ = ends_then v.ends t1 in
    bind_is _ (v.var, codes " " ++ t0) _ _ (number_again greatest_index v.var (codes " " ++ t0) (omega (arith, fits.var.small)) (omega arith) refl)
    (bind_is _ t0 _ _ (after_front_again (codes " ") t0)
    (bind_is _ (v.ends, t1) _ _ (ends_again v.ends t1 fits.ends refl)
    (bind_is _ rest _ _ (after_front_again (codes "\n") rest) refl)))

-- ---- the bounds of the whole program

total_takes : (text : List ℕ) (r : Line × List ℕ) → total_at text ≡ Some r → Took (codes "total prefix ") text r
unfolding total_at line_then
total_takes text r e =
    then_some _ _ _ e (λ prefix e0 f0. then_some _ _ _ f0 (λ turn e1 f1. then_some _ _ _ f1 (λ calls e2 f2.
    then_some _ _ _ f2 (λ bytes e3 f3. then_some _ _ _ f3 (λ rest e4 f4.
    let p0 = number_takes greatest_count text prefix e0 in
    let p1 = labelled_takes (codes " turn ") greatest_count prefix.1 turn e1 in
    let p2 = labelled_takes (codes " calls ") greatest_count turn.1 calls e2 in
    let p3 = labelled_takes (codes " bytes ") greatest_count calls.1 bytes e3 in
    let p4 = after_front_takes (codes "\n") bytes.1 rest e4 in
    subst (Took (codes "total prefix ") text) (same_Some _ _ f4) (
      rw (p0.0, p1.0, p2.0, p3.0, p4) refl,
      record { prefix = record { small = p0.1 }; turn = record { small = p1.1 }; calls = record { small = p2.1 }; bytes = record { small = p3.1 } },
    ))))))

pub total_again : (b : Bounds) (rest : List ℕ) → IsTotal b
    → total_at (decimal b.prefix ++ (codes " turn " ++ (decimal b.turn ++ (codes " calls " ++ (decimal b.calls ++ (codes " bytes " ++ (decimal b.bytes ++ (codes "\n" ++ rest)))))))) ≡ Some (TotalLine b, rest)
unfolding total_at
total_again b rest fits =
    let t3 : List ℕ = codes "\n" ++ rest in
    let t2 : List ℕ = codes " bytes " ++ (decimal b.bytes ++ t3) in
    let t1 : List ℕ = codes " calls " ++ (decimal b.calls ++ t2) in
    let t0 : List ℕ = codes " turn " ++ (decimal b.turn ++ t1) in
    bind_is _ (b.prefix, t0) _ _ (number_again greatest_count b.prefix t0 fits.prefix.small (omega arith) refl)
    (bind_is _ (b.turn, t1) _ _ (labelled_again (codes " turn ") greatest_count b.turn t1 fits.turn.small (omega arith) refl)
    (bind_is _ (b.calls, t2) _ _ (labelled_again (codes " calls ") greatest_count b.calls t2 fits.calls.small (omega arith) refl)
    (bind_is _ (b.bytes, t3) _ _ (labelled_again (codes " bytes ") greatest_count b.bytes t3 fits.bytes.small (omega arith) refl)
    (bind_is _ rest _ _ (after_front_again (codes "\n") rest) refl))))

-- ---- digests and sections

function_digest_takes : (text : List ℕ) (r : Line × List ℕ) → function_digest_at text ≡ Some r → Took (codes "digest ") text r
unfolding function_digest_at line_then
function_digest_takes text r e =
    then_some _ _ _ e (λ digest e0 f0.
    let p0 = digest_takes text digest e0 in
    subst (Took (codes "digest ") text) (same_Some _ _ f0) (ap (λ t. codes "digest " ++ t) p0.0, p0.1))

outside_takes : (text : List ℕ) (r : Line × List ℕ) → outside_at text ≡ Some r → Took (codes "outside ") text r
unfolding outside_at line_then
outside_takes text r e =
    then_some _ _ _ e (λ digest e0 f0.
    let p0 = digest_takes text digest e0 in
    subst (Took (codes "outside ") text) (same_Some _ _ f0) (ap (λ t. codes "outside " ++ t) p0.0, p0.1))

section_takes : (text : List ℕ) (r : Line × List ℕ) → section_at text ≡ Some r → Took (codes "section ") text r
unfolding section_at line_then
section_takes text r e =
    then_some _ _ _ e (λ start e0 f0.
    let p0 = start_takes text start e0 in
    subst (Took (codes "section ") text) (same_Some _ _ f0) (ap (λ t. codes "section " ++ t) p0.0, p0.1))

pub body_line_takes : (text : List ℕ) (r : Line × List ℕ) → body_at text ≡ Some r → (text ≡ line_then r.0 r.1) × IsLine r.0
unfolding body_at line_then
body_line_takes text r e =
    then_some _ _ _ e (λ bytes e0 f0. let P : Line × List ℕ → Type 0 = λ r. (text ≡ line_then r.0 r.1) × IsLine r.0 in subst P (same_Some _ _ f0) (body_takes text bytes e0))

-- ---- lines

-- what a reader took after the first words, or else another
word_takes : (words text : List ℕ) (f : List ℕ → Option (Line × List ℕ)) (other : Option (Line × List ℕ)) (r : Line × List ℕ)
    → or_else (after_front words text) f other ≡ Some r → ((rest : List ℕ) → f rest ≡ Some r → Took words rest r) → (other ≡ Some r → Took [] text r) → Took [] text r
word_takes words text f other r e here later =
    choice_some (after_front words text) f other r e (λ rest p found.
    let took = here rest found in
    (after_front_takes words text rest p ∙ took.0, took.1)) later

inner_takes : (text : List ℕ) (r : Line × List ℕ) → inner_at text ≡ Some r → Took [] text r
unfolding inner_at
inner_takes text r e =
    word_takes (codes "var ") text var_at _ r e (λ rest f. var_takes rest r f) (λ e1.
    word_takes (codes "loop ") text loop_at _ r e1 (λ rest f. loop_takes rest r f) (λ e2.
    word_takes (codes "task steps ") text task_at _ r e2 (λ rest f. task_takes rest r f) (λ e3.
    word_takes (codes "param ") text param_at _ r e3 (λ rest f. param_takes rest r f) (λ e4.
    word_takes (codes "result ") text result_at None r e4 (λ rest f. result_takes rest r f) (λ e5.
    absurd (none-some r e5))))))

first_took : (rest : List ℕ) → Took (codes "p10cert 1\n") rest (FirstLine, rest)
unfolding line_then
first_took rest = (refl, tt)

last_took : (rest : List ℕ) → Took (codes "end\n") rest (LastLine, rest)
unfolding line_then
last_took rest = (refl, tt)

sealed_took : (rest : List ℕ) → Took (codes "p10cert 2\n") rest (SealedLine, rest)
unfolding line_then
sealed_took rest = (refl, tt)

sealed_takes : (text : List ℕ) (r : Line × List ℕ) → sealed_at text ≡ Some r → Took [] text r
unfolding sealed_at
sealed_takes text r e =
    word_takes (codes "p10cert 2\n") text (λ rest. Some (SealedLine, rest)) _ r e (λ rest f. subst (Took (codes "p10cert 2\n") rest) (same_Some _ _ f) (sealed_took rest)) (λ e1.
    word_takes (codes "digest ") text function_digest_at _ r e1 (λ rest f. function_digest_takes rest r f) (λ e2.
    word_takes (codes "outside ") text outside_at _ r e2 (λ rest f. outside_takes rest r f) (λ e3.
    word_takes (codes "section ") text section_at None r e3 (λ rest f. section_takes rest r f) (λ e4.
    absurd (none-some r e4)))))

outer_takes : (text : List ℕ) (r : Line × List ℕ) → outer_at text ≡ Some r → Took [] text r
unfolding outer_at after_first after_total
outer_takes text r e =
    word_takes (codes "func ") text func_at _ r e (λ rest f. func_takes rest r f) (λ e1.
    word_takes (codes "p10cert 1\n") text (λ rest. Some (FirstLine, rest)) _ r e1 (λ rest f. subst (Took (codes "p10cert 1\n") rest) (same_Some _ _ f) (first_took rest)) (λ e2.
    word_takes (codes "total prefix ") text total_at _ r e2 (λ rest f. total_takes rest r f) (λ e3.
    word_takes (codes "end\n") text (λ rest. Some (LastLine, rest)) _ r e3 (λ rest f. subst (Took (codes "end\n") rest) (same_Some _ _ f) (last_took rest)) (λ e4.
    sealed_takes text r e4))))

-- a line that is read: the text begins with its one text, and it may be a line
pub line_takes : (text : List ℕ) (r : Line × List ℕ) → line_at text ≡ Some r → (text ≡ line_then r.0 r.1) × IsLine r.0
unfolding line_at
line_takes text r e =
    choice_some _ _ _ _ e (λ x p f. let is : x ≡ r = same_Some _ _ f in subst (Took [] text) is (inner_takes text x p)) (λ e. outer_takes text r e)
