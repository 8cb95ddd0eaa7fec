-- What is claimed of functions before their sums are counted.
use Rattle.std.proofs.Common.{◌≡◌, ℕ, zero, suc, ◌+◌, ◌<◌, false, List, [], ◌∷◌, ◌++◌, length, map, get_or, Option, Some, refl, sym, ap, ◌∙◌, subst, arith, inl, inr}
use Rattle.std.specs.Prelude.{slice_get}
use Rattle.std.specs.List.{slice_index}
use Rattle.std.proofs.lemmas.Bool.{cases_lt}
use Rattle.std.proofs.lemmas.List.{map-append, length-map}
use Rattle.std.proofs.lemmas.Option.{slice_get_past, slice_get_cases, slice_get-get_or}
use Rattle.p10_core.specs.declared.program.Func.{Func as CodeFunc}
use Rattle.p10_core.specs.Typed.{PlainFunction, PlainProgram}
use Rattle.p10_core.specs.Nodes.{nodes_of_statements}
use Rattle.p10_core.specs.Views.{plain_function}
use Rattle.p10_core.specs.WholePrograms.{parameter_types}
use Rattle.p10_calls.specs.CallGraphs.{call_graph}
use Rattle.p10_calls.specs.Ranks.{AreRanks}
use Rattle.p10_calls.proofs.Uniqueness.{no_ranks_on_cycles}
use Rattle.p10_cert.specs.declared.claims.FuncClaim.{FuncClaim}
use Rattle.p10_cert.specs.Claims.{Func, func_of, Claims}
use Rattle.p10_absx.proofs.Entries.{get_map, get_below}
use Rattle.p10_finder.specs.Functions.{any_value, result_of}
use Rattle.p10_finder.specs.Answers.{HaveResults}
use Rattle.p10_finder.specs.private.Counting.{result_in, unsummed, AreUnsummed}
use Rattle.p10_finder.proofs.Called.{all_called}
use Rattle.p10_finder.proofs.SameValues.{Same}
use Rattle.p10_finder.proofs.SameLoops.{loops_of_same, result_same}
use Rattle.p10_finder.proofs.OneResult.{none_same, some_same}
use Rattle.p10_approach.specs.Offers.{Offers}

-- ## One after the other

got_before : {A : Type 0} (xs ys : List A) (k : ℕ) (x : A) → slice_get xs k ≡ Some x → slice_get (xs ++ ys) k ≡ Some x
got_before [] ys k x e = absurd cc
got_before (z ∷ xs) ys zero x e = e
got_before (z ∷ xs) ys (suc k) x e = got_before xs ys k x e

got_last : {A : Type 0} (xs : List A) (x : A) (k : ℕ) → length xs ≡ k → slice_get (xs ++ x ∷ []) k ≡ Some x
got_last [] x zero e = refl
got_last [] x (suc k) e = absurd (omega (arith, e))
got_last (z ∷ xs) x zero e = absurd (omega (arith, e))
got_last (z ∷ xs) x (suc k) e = got_last xs x k (omega (arith, e))

-- the claims so far, and the next one
pub unsummed_more : (o : Offers) (p : PlainProgram) (r : Claims) (ranks : List ℕ) (fs : List CodeFunc) (n : ℕ) (f : CodeFunc) (old new : List FuncClaim) (put : FuncClaim) → n < length fs → f ≡ get_or fs n f
    → func_of put ≡ unsummed o p r n (slice_index ranks n) (plain_function f) → new ≡ old ++ put ∷ [] → length old ≡ n
    → ((k : ℕ) (g : PlainFunction) → k < n → slice_get (map plain_function fs) k ≡ Some g → slice_get (map func_of old) k ≡ Some (unsummed o p r k (slice_index ranks k) g))
    → (k : ℕ) (g : PlainFunction) → k < n + 1 → slice_get (map plain_function fs) k ≡ Some g → slice_get (map func_of new) k ≡ Some (unsummed o p r k (slice_index ranks k) g)
unsummed_more o p r ranks fs n f old new put inside is made pushed size so-far k g low got =
    let all : map func_of new ≡ map func_of old ++ func_of put ∷ [] = ap (map func_of) pushed ∙ map-append func_of old (put ∷ []) in
    ap (λ (l : List Func). slice_get l k) all ∙ elim (cases_lt k n) [
      | inl earlier ↦ got_before (map func_of old) (func_of put ∷ []) k (unsummed o p r k (slice_index ranks k) g) (so-far k g earlier got)
      | inr over ↦
          let here : k ≡ n = omega (arith, low, over) in
          let mine : slice_get (map plain_function fs) n ≡ Some (plain_function f) = get_map plain_function fs n f (slice_get-get_or fs n f inside ∙ ap Some (sym is)) in
          let same : plain_function f ≡ g = let theirs : slice_get (map plain_function fs) n ≡ Some g = subst (λ m. slice_get (map plain_function fs) m ≡ Some g) here got in cc in
          let last : slice_get (map func_of old ++ func_of put ∷ []) k ≡ Some (func_of put) = got_last (map func_of old) (func_of put) k (length-map old func_of ∙ (size ∙ sym here)) in
          last ∙ ap Some (made ∙ (ap (unsummed o p r n (slice_index ranks n)) same ∙ ap (λ m. unsummed o p r m (slice_index ranks m) g) (sym here)))
    ]

-- ## The results

-- what claims with the results say of the result of a function
pub result_there : (o : Offers) (p : PlainProgram) (results : Claims) (ranks : List ℕ) (fs : List CodeFunc) (n : ℕ) (f : CodeFunc) → AreRanks (call_graph p) ranks → HaveResults o p results → p.functions ≡ map plain_function fs → n < length fs
    → f ≡ get_or fs n f → result_in (slice_get results.funcs n) (plain_function f) ≡ result_of o p results n (plain_function f)
result_there o p results ranks fs n f are have all inside is =
    let there : slice_get p.functions n ≡ Some (plain_function f) =
    ap (λ (gs : List PlainFunction). slice_get gs n) all ∙ get_map plain_function fs n f (slice_get-get_or fs n f inside ∙ ap Some (sym is)) in
    let low : n < length p.functions = get_below p.functions n (plain_function f) there in
    let each : length results.funcs ≡ length p.functions = have.each in
    elim (slice_get_cases results.funcs n).1 [
      | inr (past, none) ↦ absurd (omega (arith, past, low, each))
      | inl (a, inside2, is2, got) ↦ ap (λ (claim : Option Func). result_in claim (plain_function f)) is2 ∙ (have.results n (plain_function f) a there is2).other (λ on. no_ranks_on_cycles (call_graph p) ranks are n on)
    ]

-- ## The claims themselves

module _ (o : Offers) (p : PlainProgram) (results claims : Claims) (ranks : List ℕ) (are : AreRanks (call_graph p) ranks) (have : HaveResults o p results) (unsummed_are : AreUnsummed o p results ranks claims.funcs) where
  -- the claims have the results
  say_the_same : (n : ℕ) → Same results claims n
  say_the_same n =
      let each : length results.funcs ≡ length p.functions = have.each in
      let each2 : length claims.funcs ≡ length p.functions = unsummed_are.each in
      elim (cases_lt n (length p.functions)) [
        | inr past ↦ none_same (slice_get results.funcs n) (slice_get claims.funcs n) (slice_get_past results.funcs n (omega (arith, past, each))) (slice_get_past claims.funcs n (omega (arith, past, each2)))
        | inl low ↦ elim (slice_get_cases p.functions n).1 [
          | inr (past, none) ↦ absurd (omega (arith, past, low))
          | inl (f, inside, is, got) ↦ elim (slice_get_cases results.funcs n).1 [
            | inr (past, none) ↦ absurd (omega (arith, past, low, each))
            | inl (a, inside2, is2, got2) ↦
                let r = have.results n f a is is2 in
                some_same (slice_get results.funcs n) (slice_get claims.funcs n) a (unsummed o p results n (slice_index ranks n) f) is2 (unsummed_are.claims n f is) r.params (r.other (λ on. no_ranks_on_cycles (call_graph p) ranks are n on))
          ]
        ]
      ]

  -- so they are those that are found where they themselves stand
  pub own_unsummed : AreUnsummed o p claims ranks claims.funcs
  own_unsummed = record {
    each = unsummed_are.each;
    claims = λ n f there.
        let called = all_called (Same results claims) say_the_same (nodes_of_statements f.body) in
        let loops = loops_of_same o p results claims n f called in
        let result = result_same o p results claims n f called in
        unsummed_are.claims n f there ∙ (λ i. Some (record {
          name = f.name;
          rank = slice_index ranks n;
          steps = 0;
          calls = 0;
          bytes = 0;
          alloc = false;
          params = map any_value (parameter_types f);
          result = result i;
          loops = (loops i).claims;
        }));
  }
