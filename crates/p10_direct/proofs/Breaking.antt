-- The first break of the structure of conditionals is the lesser of the first breaks of its two kinds.
use Rattle.std.proofs.Common.{◌≡◌, ℕ, ◌-◌, ◌<◌, ◌≤◌, zero, suc, List, [], ◌∷◌, length, map, drop, get_or, Bool, true, false, not, cond, nat_lt, refl, sym, ◌∙◌, ap, arith, Option, Some, None, option_map, is_none}
use Rattle.std.proofs.lemmas.Option.{none-some, same_Some}
use Rattle.std.proofs.lemmas.Bool.{lt-ltb, le-ltb}
use Rattle.std.proofs.lemmas.Bool.Decides.{nat_tests}
use Rattle.std.proofs.Math.Seq.{drop-cons}
use Rattle.p10_direct.specs.declared.line.Line.{Line}
use Rattle.p10_direct.specs.declared.mark.Mark.{Mark}
use Rattle.p10_direct.specs.declared.mark.Mark.TheVariants.{Opens, Elif, Else, Closes, Plain}
use Rattle.p10_direct.specs.Lines.{piece_of}
use Rattle.p10_direct.specs.Balance.{mark_of, is_closed, open_before, is_before_else, first_break_of}
use Rattle.p10_direct.specs.private.Breaks.{stack_step, stray_behind, stray_from, unclosed_from, earlier_of, passed_back, read_back}

-- ## What is open before a line

-- the open conditionals, the innermost first, read from the lines before, the nearest first
abbrev with_else : List Bool → List Bool
with_else [] = []
with_else (had ∷ others) = true ∷ others

abbrev stack_of : List Mark → List Bool
stack_of [] = []
stack_of (Opens ∷ before) = false ∷ stack_of before
stack_of (Closes ∷ before) = drop 1 (stack_of before)
stack_of (Else ∷ before) = with_else (stack_of before)
stack_of (Elif ∷ before) = stack_of before
stack_of (Plain ∷ before) = stack_of before

abbrev nth : ℕ → List Bool → Option Bool
nth n [] = None
nth zero (b ∷ bs) = Some b
nth (suc n) (b ∷ bs) = nth n bs

nth_rest : (n : ℕ) (bs : List Bool) → nth n (drop 1 bs) ≡ nth (suc n) bs
nth_rest n [] = refl
nth_rest n (b ∷ bs) = refl

nth_else : (bs : List Bool) → nth zero (with_else bs) ≡ option_map (λ had. true) (nth zero bs)
nth_else [] = refl
nth_else (b ∷ bs) = refl

nth_else_behind : (n : ℕ) (bs : List Bool) → nth (suc n) (with_else bs) ≡ nth (suc n) bs
nth_else_behind n [] = refl
nth_else_behind n (b ∷ bs) = refl

open_is : (n : ℕ) (before : List Mark) → open_before n before ≡ nth n (stack_of before)
open_is n [] = refl
open_is zero (Opens ∷ before) = refl
open_is (suc n) (Opens ∷ before) = open_is n before
open_is zero (Closes ∷ before) = open_is (suc zero) before ∙ sym (nth_rest zero (stack_of before))
open_is (suc n) (Closes ∷ before) = open_is (suc (suc n)) before ∙ sym (nth_rest (suc n) (stack_of before))
open_is zero (Else ∷ before) = ap (option_map (λ had. true)) (open_is zero before) ∙ sym (nth_else (stack_of before))
open_is (suc n) (Else ∷ before) = open_is (suc n) before ∙ sym (nth_else_behind n (stack_of before))
open_is zero (Elif ∷ before) = open_is zero before
open_is (suc n) (Elif ∷ before) = open_is (suc n) before
open_is zero (Plain ∷ before) = open_is zero before
open_is (suc n) (Plain ∷ before) = open_is (suc n) before

-- ## What is closed after a line

-- how many `#endif` close a conditional that begins before these lines
abbrev pub excess : List Mark → ℕ
excess [] = 0
excess (Opens ∷ after) = excess after - 1
excess (Closes ∷ after) = suc (excess after)
excess (Elif ∷ after) = excess after
excess (Else ∷ after) = excess after
excess (Plain ∷ after) = excess after

pub closed_is : (n : ℕ) (after : List Mark) → is_closed n after ≡ nat_lt n (excess after)
closed_is n [] = sym (le-ltb n 0 (omega arith))
closed_is n (Opens ∷ after) = closed_is (suc n) after ∙ less (excess after) n
  where
    less : (e n : ℕ) → nat_lt (suc n) e ≡ nat_lt n (e - 1)
    less e n = grind (arith, nat_tests)
closed_is zero (Closes ∷ after) = sym (lt-ltb 0 (suc (excess after)) (omega arith))
closed_is (suc n) (Closes ∷ after) = closed_is n after ∙ more (excess after) n
  where
    more : (e n : ℕ) → nat_lt n e ≡ nat_lt (suc n) (suc e)
    more e n = grind (arith, nat_tests)
closed_is zero (Elif ∷ after) = closed_is zero after
closed_is (suc n) (Elif ∷ after) = closed_is (suc n) after
closed_is zero (Else ∷ after) = closed_is zero after
closed_is (suc n) (Else ∷ after) = closed_is (suc n) after
closed_is zero (Plain ∷ after) = closed_is zero after
closed_is (suc n) (Plain ∷ after) = closed_is (suc n) after

abbrev pub with_count : Option ℕ → ℕ → Option ℕ × ℕ
with_count first closing = (first, closing)

pub read_back_is : (marks : List Mark) (place : ℕ) → read_back marks place ≡ with_count (unclosed_from marks place) (excess marks)
read_back_is [] place = refl
read_back_is (Opens ∷ marks) place =
    ap (passed_back Opens place) (read_back_is marks (suc place))
    ∙ opens (excess marks) (unclosed_from marks (suc place)) place
    ∙ ap (λ b. with_count (cond b (unclosed_from marks (suc place)) (Some place)) (excess marks - 1)) (sym (closed_is zero marks))
  where
    opens : (e : ℕ) (first : Option ℕ) (place : ℕ) → passed_back Opens place (with_count first e) ≡ with_count (cond (nat_lt 0 e) first (Some place)) (e - 1)
    opens zero first place = refl
    opens (suc e) first place =
        let less : e ≡ suc e - 1 = omega arith in
        let some : true ≡ nat_lt 0 (suc e) = sym (lt-ltb 0 (suc e) (omega arith)) in
        ap (λ n. with_count first n) less ∙ ap (λ b. with_count (cond b first (Some place)) (suc e - 1)) some
read_back_is (Closes ∷ marks) place = ap (passed_back Closes place) (read_back_is marks (suc place))
read_back_is (Elif ∷ marks) place = read_back_is marks (suc place)
read_back_is (Else ∷ marks) place = read_back_is marks (suc place)
read_back_is (Plain ∷ marks) place = read_back_is marks (suc place)

-- ## Lines one by one

abbrev pub marks_of : List Line → List Mark
marks_of lines = map mark_of (map piece_of lines)

-- the marks from a place on
pub marks_from : (lines : List Line) (place : ℕ) (line : Line) → place < length lines → marks_of (drop place lines) ≡ mark_of (piece_of (get_or lines place line)) ∷ marks_of (drop (suc place) lines)
marks_from lines place line inside = ap marks_of (drop-cons lines place line inside)

-- ## The lesser of the two

stray_later : (pending : List Bool) (marks : List Mark) (place at : ℕ) → stray_from pending marks place ≡ Some at → place ≤ at
stray_later pending [] place at e = absurd (none-some _ e)
stray_later pending (mark ∷ marks) place at e =
    elim (stack_step mark pending) as (λ s. stray_behind place (λ pending. stray_from pending marks (suc place)) s ≡ Some at → place ≤ at)
    [ None ↦ λ e. omega (arith, same_Some place at e) | Some next ↦ λ e. let h = stray_later next marks (suc place) at e in omega arith ] e

unclosed_later : (marks : List Mark) (place at : ℕ) → unclosed_from marks place ≡ Some at → place ≤ at
unclosed_later [] place at e = absurd (none-some _ e)
unclosed_later (Opens ∷ marks) place at e =
    elim (is_closed zero marks) as (λ b. cond b (unclosed_from marks (suc place)) (Some place) ≡ Some at → place ≤ at)
    [ true ↦ λ e. (let h = unclosed_later marks (suc place) at e in omega arith) | false ↦ λ e. omega (arith, same_Some place at e) ] e
unclosed_later (Closes ∷ marks) place at e = let h = unclosed_later marks (suc place) at e in omega arith
unclosed_later (Elif ∷ marks) place at e = let h = unclosed_later marks (suc place) at e in omega arith
unclosed_later (Else ∷ marks) place at e = let h = unclosed_later marks (suc place) at e in omega arith
unclosed_later (Plain ∷ marks) place at e = let h = unclosed_later marks (suc place) at e in omega arith

-- a place is the earlier of two
first_earlier : (place : ℕ) (o : Option ℕ) → ((at : ℕ) → o ≡ Some at → suc place ≤ at) → earlier_of (Some place) o ≡ Some place
first_earlier place None later = refl
first_earlier place (Some at) later = let h = later at refl in ap Some (grind (arith, h))

second_earlier : (o : Option ℕ) (place : ℕ) → ((at : ℕ) → o ≡ Some at → suc place ≤ at) → earlier_of o (Some place) ≡ Some place
second_earlier None place later = refl
second_earlier (Some at) place later = let h = later at refl in ap Some (grind (arith, h))

pub first_break_is : (before after : List Mark) → first_break_of before after ≡ earlier_of (stray_from (stack_of before) after (length before)) (unclosed_from after (length before))
first_break_is before [] = refl
first_break_is before (Plain ∷ after) = first_break_is (Plain ∷ before) after
first_break_is before (Opens ∷ after) =
    ap (λ o. cond (not (is_closed zero after)) (Some (length before)) o) (first_break_is (Opens ∷ before) after)
    ∙ elim (is_closed zero after) as (λ b. cond (not b) (Some (length before)) (earlier_of (stray_from (false ∷ stack_of before) after (suc (length before))) (unclosed_from after (suc (length before))))
    ≡ earlier_of (stray_from (false ∷ stack_of before) after (suc (length before))) (cond b (unclosed_from after (suc (length before))) (Some (length before))))
    [ true ↦ refl | false ↦ sym (second_earlier _ _ (λ at e. stray_later _ after _ at e)) ]
first_break_is before (Closes ∷ after) =
    ap (λ o. cond (is_none o) (Some (length before)) (first_break_of (Closes ∷ before) after)) (open_is zero before)
    ∙ ap (λ o. cond (is_none (nth zero (stack_of before))) (Some (length before)) o) (first_break_is (Closes ∷ before) after)
    ∙ closes (stack_of before) (length before) after
  where
    closes : (stack : List Bool) (place : ℕ) (after : List Mark) → cond (is_none (nth zero stack)) (Some place) (earlier_of (stray_from (drop 1 stack) after (suc place)) (unclosed_from after (suc place)))
        ≡ earlier_of (stray_from stack (Closes ∷ after) place) (unclosed_from after (suc place))
    closes [] place after = sym (first_earlier place _ (λ at e. unclosed_later after _ at e))
    closes (had ∷ stack) place after = refl
first_break_is before (Elif ∷ after) =
    ap (λ o. cond (not (is_before_else o)) (Some (length before)) (first_break_of (Elif ∷ before) after)) (open_is zero before)
    ∙ ap (λ o. cond (not (is_before_else (nth zero (stack_of before)))) (Some (length before)) o) (first_break_is (Elif ∷ before) after)
    ∙ elifs (stack_of before) (length before) after
  where
    elifs : (stack : List Bool) (place : ℕ) (after : List Mark) → cond (not (is_before_else (nth zero stack))) (Some place) (earlier_of (stray_from stack after (suc place)) (unclosed_from after (suc place)))
        ≡ earlier_of (stray_from stack (Elif ∷ after) place) (unclosed_from after (suc place))
    elifs [] place after = sym (first_earlier place _ (λ at e. unclosed_later after _ at e))
    elifs (true ∷ stack) place after = sym (first_earlier place _ (λ at e. unclosed_later after _ at e))
    elifs (false ∷ stack) place after = refl
first_break_is before (Else ∷ after) =
    ap (λ o. cond (not (is_before_else o)) (Some (length before)) (first_break_of (Else ∷ before) after)) (open_is zero before)
    ∙ ap (λ o. cond (not (is_before_else (nth zero (stack_of before)))) (Some (length before)) o) (first_break_is (Else ∷ before) after)
    ∙ elses (stack_of before) (length before) after
  where
    elses : (stack : List Bool) (place : ℕ) (after : List Mark) → cond (not (is_before_else (nth zero stack))) (Some place) (earlier_of (stray_from (with_else stack) after (suc place)) (unclosed_from after (suc place)))
        ≡ earlier_of (stray_from stack (Else ∷ after) place) (unclosed_from after (suc place))
    elses [] place after = sym (first_earlier place _ (λ at e. unclosed_later after _ at e))
    elses (true ∷ stack) place after = sym (first_earlier place _ (λ at e. unclosed_later after _ at e))
    elses (false ∷ stack) place after = refl

pub first_of_both : (marks : List Mark) (stray unclosed first : Option ℕ) → first ≡ earlier_of stray unclosed → stray ≡ stray_from [] marks 0 → unclosed ≡ unclosed_from marks 0 → first ≡ first_break_of [] marks
first_of_both marks stray unclosed first e s u =
    e ∙ ap (λ o. earlier_of o unclosed) s ∙ ap (λ o. earlier_of (stray_from [] marks 0) o) u ∙ sym (first_break_is [] marks)

pub unclosed_found : (lines : List Line) (place closing : ℕ) (first : Option ℕ) → place ≤ 0 → with_count first closing ≡ read_back (marks_of (drop place lines)) place → first ≡ unclosed_from (marks_of lines) 0
unclosed_found lines place closing first none e =
    let zeroth : place ≡ 0 = omega arith in
    let found : with_count first closing ≡ read_back (marks_of lines) 0 = e ∙ ap (λ n. read_back (marks_of (drop n lines)) n) zeroth in
    ap (λ (p : Option ℕ × ℕ). p.0) (found ∙ read_back_is (marks_of lines) 0)
