-- What claims tell that are read one after the other.
use Rattle.std.proofs.Common.{◌≡◌, ◌∙◌, ℕ, zero, suc, ◌+◌, nat_eq, nat_lt, Bool, true, false, List, [], ◌∷◌, ◌++◌, length, Option, Some, None, Ok, sym, ap, refl, subst, arith}
use Rattle.std.specs.Prelude.{if◌then◌else◌, slice_get}
use Rattle.std.specs.Option.{option_or}
use Rattle.std.proofs.lemmas.Bool.{eqb-true, eq-eqb, lt-ltb, le-ltb, ltb-true, ltb-false}
use Rattle.std.proofs.lemmas.List.{length-map}
use Rattle.p10_core.specs.declared.statements.LoopHead.{LoopHead}
use Rattle.p10_core.specs.Typed.{PlainFunction, PlainProgram}
use Rattle.p10_cert.specs.Claims.{Loop, Func}
use Rattle.p10_cert.specs.declared.record.FuncRecord.{FuncRecord}
use Rattle.p10_cert.specs.Records.{Progress, GivesNext, statement_from}
use Rattle.p10_cert.specs.Statements.{Entry, IsStatement, statement_text}
use Rattle.p10_cert.proofs.Wholes.{is_end}
use Rattle.p10_fit.specs.Fits.{fits_function, unfit_from}
use Rattle.p10_graph.proofs.Places.{slice_get-last}
use Rattle.p10_sums.specs.Counting.{loops_claimed}
use Rattle.p10_check.specs.Shapes.{task_head, turn_claimed, main_turn}
use Rattle.p10_check.specs.Texts.{funcs_in, StaleAt, differing_digests, first_stale}
use Rattle.p10_check.specs.private.Readings.{stale_at, stale_or, misfit, misfit_by, misfit_at, misfit_or, lacking, misfit_at_end, HasEnded}
use Rattle.p10_check.specs.private.ShapesByTurn.{turn_at, turn_by_loops, turn_or}
use Rattle.p10_check.specs.private.Keeping.{AreKept}
use Rattle.p10_check.proofs.Keeping.{funcs_more, same_length}

-- ## Claims

-- how many were read
pub count_told : (given : List Entry) (claims : List Func) (lines : List (List ℕ)) (number : ℕ) → number ≡ length claims → AreKept given claims lines → number ≡ length given
count_told given claims lines number at kept = at ∙ same_length given claims lines kept

-- all was read
pub has_ended : (old new : Progress) (next : Option FuncRecord) → GivesNext old new (Ok next) → next ≡ None → HasEnded new
has_ended old new next gives is =
    let end = is_end old new next gives is in
    record {
      ending = end.ending;
      over = end.over;
      good = subst (λ given. IsStatement (statement_from given end.ending)) (sym end.given) end.good;
      exact = end.text ∙ end.exact ∙ ap (λ given. statement_text (statement_from given end.ending)) (sym end.given);
    }

no_more : {A : Type 0} (o : Option A) → option_or o None ≡ o
no_more None = refl
no_more (Some x) = refl

three : {A : Type 0} (a b c : Option A) → option_or a (option_or b c) ≡ option_or (option_or a b) c
three None b c = refl
three (Some x) b c = refl

-- ## The steps of a turn

turn_is : (functions : List Func) (n : ℕ) (head : Option LoopHead) → turn_claimed functions n head ≡ turn_at (loops_claimed (slice_get functions n)) head
turn_is functions n None = refl
turn_is functions n (Some head) = refl

-- those that the claims of `main` give
main_turn_is : (p : PlainProgram) (functions : List Func) (f : Option PlainFunction) → main_turn p functions f ≡ turn_by_loops p (loops_claimed (slice_get functions p.main)) f
main_turn_is p functions None = refl
main_turn_is p functions (Some f) = turn_is functions p.main (task_head p p.main f)

-- before `main` is read there are none
pub no_turn : (p : PlainProgram) (f : Option PlainFunction) → 0 ≡ main_turn p [] f
no_turn p f = sym (main_turn_is p [] f ∙ none f)
  where
    of_head : (head : Option LoopHead) → turn_at [] head ≡ 0
    of_head None = refl
    of_head (Some head) = refl

    none : (f : Option PlainFunction) → turn_by_loops p [] f ≡ 0
    none None = refl
    none (Some f) = of_head (task_head p p.main f)

other_place : {A : Type 0} (xs : List A) (x : A) (n : ℕ) → (length xs ≡ n → ⊥) → slice_get (xs ++ x ∷ []) n ≡ slice_get xs n
other_place [] x zero other = absurd (other refl)
other_place [] x (suc n) other = refl
other_place (y ∷ xs) x zero other = refl
other_place (y ∷ xs) x (suc n) other = other_place xs x n (λ same. other (ap suc same))

turn_more : (p : PlainProgram) (functions : List Func) (own : Func) (f : Option PlainFunction) (b : Bool) → nat_eq (length functions) p.main ≡ b
    → (if b then turn_by_loops p own.loops f else main_turn p functions f) ≡ main_turn p (functions ++ own ∷ []) f
turn_more p functions own f true is =
    let at = eqb-true (length functions) p.main is in
    ap (λ o. turn_by_loops p (loops_claimed o) f) (sym (subst (λ n. slice_get (functions ++ own ∷ []) n ≡ Some own) at (slice_get-last functions own)))
    ∙ sym (main_turn_is p (functions ++ own ∷ []) f)
turn_more p functions own f false is =
    let other : length functions ≡ p.main → ⊥ = λ at. let yes = eq-eqb (length functions) p.main at in let no : true ≡ false = sym yes ∙ is in cc in
    main_turn_is p functions f
    ∙ ap (λ o. turn_by_loops p (loops_claimed o) f) (sym (other_place functions own p.main other))
    ∙ sym (main_turn_is p (functions ++ own ∷ []) f)

pub turn_told : (p : PlainProgram) (given : List Entry) (e : Entry) (number turn : ℕ) (loops : List Loop) → number ≡ length given → loops ≡ e.func.loops → turn ≡ main_turn p (funcs_in given) (slice_get p.functions p.main)
    → turn_or p turn number loops ≡ main_turn p (funcs_in (given ++ e ∷ [])) (slice_get p.functions p.main)
turn_told p given e number turn loops at is turns =
    let f : Option PlainFunction = slice_get p.functions p.main in
    let many : number ≡ length (funcs_in given) = at ∙ sym (length-map given (λ (e : Entry). e.func)) in
    (λ i. if nat_eq (many i) p.main then turn_by_loops p (is i) f else turns i)
    ∙ turn_more p (funcs_in given) e.func f (nat_eq (length (funcs_in given)) p.main) refl
    ∙ ap (λ fs. main_turn p fs f) (sym (funcs_more given e))

-- ## The first function whose digests differ

stale_more : (n : ℕ) (given : List Entry) (e : Entry) (digests : List (List ℕ))
    → option_or (first_stale n given digests) (stale_at (n + length given) e (slice_get digests (length given))) ≡ first_stale n (given ++ e ∷ []) digests
stale_more n [] e [] = refl
stale_more n [] e (found ∷ digests) =
    let same : n + 0 ≡ n = omega arith in ap (λ k. differing_digests k e.digest found) same ∙ sym (no_more (differing_digests n e.digest found))
stale_more n (g ∷ given) e [] = refl
stale_more n (g ∷ given) e (found ∷ digests) =
    let same : n + suc (length given) ≡ (n + 1) + length given = omega arith in
    let own : Option StaleAt = differing_digests n g.digest found in
    ap (λ k. option_or (option_or own (first_stale (n + 1) given digests)) (stale_at k e (slice_get digests (length given)))) same
    ∙ sym (three own (first_stale (n + 1) given digests) (stale_at ((n + 1) + length given) e (slice_get digests (length given))))
    ∙ ap (option_or own) (stale_more (n + 1) given e digests)

pub stale_told : (digests : List (List ℕ)) (given : List Entry) (e : Entry) (number : ℕ) (before : Option StaleAt) → number ≡ length given → before ≡ first_stale 0 given digests
    → stale_or before number e digests ≡ first_stale 0 (given ++ e ∷ []) digests
stale_told digests given e number before at is =
    let same : 0 + length given ≡ length given = omega arith in
    (λ i. option_or (is i) (stale_at (at i) e (slice_get digests (at i))))
    ∙ ap (λ k. option_or (first_stale 0 given digests) (stale_at k e (slice_get digests (length given)))) (sym same)
    ∙ stale_more 0 given e digests

-- ## The first function of which its claim doesn't speak

misfit_if : (b : Bool) (n : ℕ) (more others own : Option ℕ) → option_or more own ≡ others → option_or (if b then more else Some n) own ≡ (if b then others else Some n)
misfit_if true n more others own is = is
misfit_if false n more others own is = refl

-- of one function
one_more : (b : Bool) (n : ℕ) → misfit_by b n ≡ (if b then None else Some n)
one_more true n = refl
one_more false n = refl

misfit_more : (p : PlainProgram) (n : ℕ) (functions : List PlainFunction) (claims : List Func) (own : Func)
    → option_or (misfit p n functions claims) (misfit_at p (n + length claims) own (slice_get functions (length claims))) ≡ misfit p n functions (claims ++ own ∷ [])
misfit_more p n [] [] own = refl
misfit_more p n (f ∷ functions) [] own =
    let same : n + 0 ≡ n = omega arith in ap (λ k. misfit_at p k own (Some f)) same ∙ one_more (fits_function p n f own) n
misfit_more p n [] (claim ∷ claims) own = refl
misfit_more p n (f ∷ functions) (claim ∷ claims) own =
    let same : n + suc (length claims) ≡ (n + 1) + length claims = omega arith in
    ap (λ k. option_or (misfit p n (f ∷ functions) (claim ∷ claims)) (misfit_at p k own (slice_get functions (length claims)))) same
    ∙ misfit_if (fits_function p n f claim) n (misfit p (n + 1) functions claims) (misfit p (n + 1) functions (claims ++ own ∷ [])) (misfit_at p ((n + 1) + length claims) own (slice_get functions (length claims)))
    (misfit_more p (n + 1) functions claims own)

pub misfit_told : (p : PlainProgram) (given : List Entry) (e : Entry) (own : Func) (number : ℕ) (before : Option ℕ) → number ≡ length given → own ≡ e.func → before ≡ misfit p 0 p.functions (funcs_in given)
    → misfit_or p before number own ≡ misfit p 0 p.functions (funcs_in (given ++ e ∷ []))
misfit_told p given e own number before at is misfits =
    let many : number ≡ length (funcs_in given) = at ∙ sym (length-map given (λ (e : Entry). e.func)) in
    let same : 0 + length (funcs_in given) ≡ length (funcs_in given) = omega arith in
    (λ i. option_or (misfits i) (misfit_at p (many i) (is i) (slice_get p.functions (many i))))
    ∙ ap (λ k. option_or (misfit p 0 p.functions (funcs_in given)) (misfit_at p k e.func (slice_get p.functions (length (funcs_in given))))) (sym same)
    ∙ misfit_more p 0 p.functions (funcs_in given) e.func
    ∙ ap (misfit p 0 p.functions) (sym (funcs_more given e))

lower_next : (m n : ℕ) → nat_lt (suc m) (suc n) ≡ nat_lt m n
lower_next m n = by_test (nat_lt m n) refl
  where
    by_test : (b : Bool) → nat_lt m n ≡ b → nat_lt (suc m) (suc n) ≡ b
    by_test true less = lt-ltb (suc m) (suc n) (omega (arith, ltb-true m n less))
    by_test false more = le-ltb (suc m) (suc n) (omega (arith, ltb-false m n more))

first_lower : (n : ℕ) → nat_lt 0 (suc n) ≡ true
first_lower n = lt-ltb 0 (suc n) (omega arith)

misfit_end : (p : PlainProgram) (n : ℕ) (functions : List PlainFunction) (claims : List Func)
    → option_or (misfit p n functions claims) (if nat_lt (length claims) (length functions) then Some (n + length claims) else None) ≡ unfit_from p n functions claims
misfit_end p n [] [] = refl
misfit_end p n [] (claim ∷ claims) = refl
misfit_end p n (f ∷ functions) [] =
    let same : n + 0 ≡ n = omega arith in
    (λ i. if first_lower (length functions) i then Some (same i) else None)
misfit_end p n (f ∷ functions) (claim ∷ claims) =
    let same : n + suc (length claims) ≡ (n + 1) + length claims = omega arith in
    (λ i. option_or (misfit p n (f ∷ functions) (claim ∷ claims)) (if lower_next (length claims) (length functions) i then Some (same i) else None))
    ∙ misfit_if (fits_function p n f claim) n (misfit p (n + 1) functions claims) (unfit_from p (n + 1) functions claims) (if nat_lt (length claims) (length functions) then Some ((n + 1) + length claims) else None)
    (misfit_end p (n + 1) functions claims)

pub misfits_told : (p : PlainProgram) (claims : List Func) (count : ℕ) (before : Option ℕ) → count ≡ length claims → before ≡ misfit p 0 p.functions claims → misfit_at_end p before count ≡ unfit_from p 0 p.functions claims
misfits_told p claims count before at is =
    let same : 0 + length claims ≡ length claims = omega arith in
    (λ i. option_or (is i) (lacking (at i) (length p.functions)))
    ∙ ap (λ k. option_or (misfit p 0 p.functions claims) (if nat_lt (length claims) (length p.functions) then Some k else None)) (sym same)
    ∙ misfit_end p 0 p.functions claims

-- where each claim speaks of its function there is one for each
pub fitting_length : (p : PlainProgram) (n : ℕ) (functions : List PlainFunction) (claims : List Func) → unfit_from p n functions claims ≡ None → length claims ≡ length functions
fitting_length p n [] [] fits = refl
fitting_length p n [] (claim ∷ claims) fits = cc
fitting_length p n (f ∷ functions) [] fits = cc
fitting_length p n (f ∷ functions) (claim ∷ claims) fits = by_test (fits_function p n f claim) fits (λ fit. ap suc (fitting_length p (n + 1) functions claims fit))
  where
    by_test : (b : Bool) → (if b then unfit_from p (n + 1) functions claims else Some n) ≡ None → (unfit_from p (n + 1) functions claims ≡ None → suc (length claims) ≡ suc (length functions)) → suc (length claims) ≡ suc (length functions)
    by_test true fit more = more fit
    by_test false fit more = cc
