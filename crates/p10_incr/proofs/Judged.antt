-- How the verdict after an edit is found: one function after the other, and then all together.
use Rattle.std.proofs.Common.{◌≡◌, ◌∙◌, ℕ, ◌-◌, ◌≤◌, List, [], ◌∷◌, ◌++◌, length, take, drop, get_or, Option, Some, None, Result, Ok, Err, IfOk, sym, ap, subst, refl, arith, append_assoc}
use Rattle.std.specs.Prelude.{slice_get, OnOk, OnErr}
use Rattle.std.proofs.lemmas.List.{append-nil, take_rest}
use Rattle.p10_core.specs.Typed.{PlainProgram}
use Rattle.p10_cert.specs.Claims.{Claims}
use Rattle.p10_fit.specs.Fits.{unfit}
use Rattle.p10_pass.specs.Passing.{Failing}
use Rattle.p10_check.specs.declared.verdict.TextVerdict.{TextVerdict}
use Rattle.p10_check.specs.Passes.{Standing}
use Rattle.p10_check.specs.Conditions.{after_fitting, shape_failures, AreShapeFailures, function_failures_at, verdict_by}
use Rattle.p10_check.specs.Texts.{claims_in, first_stale, text_verdict}
use Rattle.p10_incr.specs.Edits.{Edit, dirty}
use Rattle.p10_incr.specs.Passing.{PassedUpTo, PassedFront}
use Rattle.p10_incr.specs.Rechecking.{first_from, first_by_number, failures_among, JudgesAmong, RechecksBy, IsRecheckVerdict, passed_where, passed_for}
use Rattle.p10_incr.specs.private.Misfits.{misfit_in}
use Rattle.p10_incr.proofs.Misfits.{IsMisfit, fits, misfit_is}
use Rattle.p10_incr.proofs.Suffice.{from_both}

-- ## One function after the other

pub first_and_rest : (d : ℕ) (numbers : List ℕ) → 1 ≤ length numbers → numbers ≡ get_or numbers 0 d ∷ take (length numbers - 1) (drop 1 numbers)
first_and_rest d [] some = let no : ⊥ = omega (arith, some) in absurd no
first_and_rest d (n ∷ numbers) some = ap (λ rest. n ∷ rest) (sym (take_rest (n ∷ numbers) 1))

-- the first condition that fails, once one function more was asked
pub asked_one : (stands : Standing) (p : PlainProgram) (c : Claims) (numbers rest : List ℕ) (number : ℕ) (found next whole : Option Failing) (fails : List Failing) → numbers ≡ number ∷ rest
    → fails ≡ function_failures_at stands p c number (slice_get p.functions number) → next ≡ first_from found fails → first_from found (failures_among stands p c numbers) ≡ whole → first_from next (failures_among stands p c rest) ≡ whole
asked_one stands p c numbers rest number found next whole fails parts fails_are next_is before =
    ap (λ o. first_from o (failures_among stands p c rest)) (next_is ∙ ap (first_from found) fails_are)
    ∙ sym (from_both found (function_failures_at stands p c number (slice_get p.functions number)) (failures_among stands p c rest))
    ∙ ap (λ ns. first_from found (failures_among stands p c ns)) (sym parts)
    ∙ before

-- what is passed, once one function more was
pub passed_one : (old mid new initial numbers rest : List ℕ) (number : ℕ) → numbers ≡ number ∷ rest → PassedUpTo old mid initial numbers → new ≡ mid ++ number ∷ [] → PassedUpTo old new initial rest
passed_one old mid new initial numbers rest number parts up more = record {
  front = up.front ++ number ∷ [];
  wanted_is = up.wanted_is ∙ ap (λ ns. up.front ++ ns) parts ∙ sym (append_assoc up.front (number ∷ []) rest);
  after_is = more ∙ ap (λ ns. ns ++ number ∷ []) up.after_is ∙ append_assoc old up.front (number ∷ []);
}

-- ## The verdict on claims

-- on claims that don't speak of the program
pub misfit_judged : (stands : Standing) (p : PlainProgram) (c : Claims) (numbers : List ℕ) (shape given : List Failing) (found : Option Failing) (e : Failing) (v : TextVerdict) → AreShapeFailures p c shape → given ≡ shape
    → found ≡ misfit_in given → found ≡ Some e → v ≡ text_verdict (verdict_by c.total (Some e)) → JudgesAmong stands p c numbers v
misfit_judged stands p c numbers shape given found e v are given_is told is v_is =
    let m : IsMisfit p c e = misfit_is p c shape are e (sym (ap misfit_in given_is) ∙ sym told ∙ is) in (
      verdict_by c.total (Some e),
      record {
        first = Some e;
        first_is = record { late = are.late; late_are = are.late_are; is = ap Some m.is ∙ ap (λ x. first_by_number (after_fitting p x (shape_failures p c are.late ++ failures_among stands p c numbers))) (sym m.there) };
        is = refl;
      },
      v_is,
    )

pub none_passed : (p : PlainProgram) (c : Claims) (numbers : List ℕ) (shape given : List Failing) (found : Option Failing) (e : Failing) → AreShapeFailures p c shape → given ≡ shape → found ≡ misfit_in given → found ≡ Some e
    → passed_where None (unfit p c) numbers ≡ []
none_passed p c numbers shape given found e are given_is told is =
    ap (λ o. passed_where None o numbers) (misfit_is p c shape are e (sym (ap misfit_in given_is) ∙ sym told ∙ is)).there

pub all_passed : (p : PlainProgram) (c : Claims) (numbers : List ℕ) (shape given : List Failing) (found : Option Failing) → AreShapeFailures p c shape → given ≡ shape → found ≡ misfit_in given → found ≡ None
    → passed_where None (unfit p c) numbers ≡ numbers
all_passed p c numbers shape given found are given_is told is = ap (λ o. passed_where None o numbers) (fits p c shape are (sym (ap misfit_in given_is) ∙ sym told ∙ is))

pub on_err : {A E : Type 0} (r : Result A E) (X : Type 0) → X → OnErr r X
on_err (Ok v) X x = tt
on_err (Err fault) X x = x

-- nothing was passed yet
pub not_yet : (old wanted : List ℕ) → PassedFront old old wanted
not_yet old wanted = record { left = wanted; passed = record { front = []; wanted_is = refl; after_is = sym (append-nil old) } }

-- on others
pub fit_judged : (stands : Standing) (p : PlainProgram) (c : Claims) (numbers asked : List ℕ) (shape given : List Failing) (found start first : Option Failing) (v : TextVerdict) → AreShapeFailures p c shape → found ≡ misfit_in given → found ≡ None
    → given ≡ shape → start ≡ first_from None given → asked ≡ numbers → first ≡ first_from start (failures_among stands p c asked) → v ≡ text_verdict (verdict_by c.total first) → JudgesAmong stands p c numbers v
fit_judged stands p c numbers asked shape given found start first v are told is given_is start_is asked_are first_is v_is =
    let fit : None ≡ unfit p c = sym (fits p c shape are (sym (ap misfit_in given_is) ∙ sym told ∙ is)) in
    let fails : List Failing = failures_among stands p c numbers in (
      verdict_by c.total first,
      record {
        first = first;
        first_is = record {
          late = are.late;
          late_are = are.late_are;
          is = first_is
              ∙ ap (λ ns. first_from start (failures_among stands p c ns)) asked_are
              ∙ ap (λ x. first_from x fails) (start_is ∙ ap (first_from None) (given_is ∙ are.are ∙ ap (λ x. after_fitting p x (shape_failures p c are.late)) (sym fit)))
              ∙ sym (from_both None (shape_failures p c are.late) fails)
              ∙ ap (λ x. first_by_number (after_fitting p x (shape_failures p c are.late ++ fails))) fit;
        };
        is = refl;
      },
      v_is,
    )

-- ## The verdict after an edit, where the digests agree

pub judged_after : {E : Type 0} (stands : Standing) (p : PlainProgram) (e : Edit) (c : Claims) → claims_in e.new ≡ c → first_stale 0 e.new.entries e.digests ≡ None → (r : Result TextVerdict E)
    → IfOk r (JudgesAmong stands p c (dirty p e)) → IfOk r (IsRecheckVerdict stands p e)
judged_after stands p e c claims none (Err fault) judged = tt
judged_after stands p e c claims none (Ok v) judged =
    subst (λ o. RechecksBy stands p (claims_in e.new) (dirty p e) o v) (sym none) (subst (λ x. JudgesAmong stands p x (dirty p e) v) (sym claims) judged)

pub passed_after : (p : PlainProgram) (e : Edit) (c : Claims) → claims_in e.new ≡ c → first_stale 0 e.new.entries e.digests ≡ None → passed_where None (unfit p c) (dirty p e) ≡ passed_for p e
passed_after p e c claims none = λ i. passed_where (sym none i) (unfit p (sym claims i)) (dirty p e)

pub passed_so : {A E : Type 0} (r : Result A E) (old new these those : List ℕ) → these ≡ those → OnOk r (new ≡ old ++ these) → OnOk r (new ≡ old ++ those)
passed_so r old new these those same passed = subst (λ ns. OnOk r (new ≡ old ++ ns)) same passed

pub front_so : {A E : Type 0} (r : Result A E) (old new these those : List ℕ) → these ≡ those → OnErr r (PassedFront old new these) → OnErr r (PassedFront old new those)
front_so r old new these those same front = subst (λ ns. OnErr r (PassedFront old new ns)) same front
