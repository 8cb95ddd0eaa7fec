-- The body of a function under claims by which results of calls have numbers of their types: the claims of its loops fit.
use Rattle.std.proofs.Common.{◌≡◌, ℕ, suc, ◌+◌, ◌≤◌, length, List, [], ◌∷◌, map, Some, None, refl, sym, subst, arith}
use Rattle.std.specs.Prelude.{slice_get, true}
use Rattle.p10_base.specs.declared.report.TheConstants.Limit.{MOST_SUM}
use Rattle.p10_core.specs.declared.statements.LoopHead.{LoopHead}
use Rattle.p10_core.specs.Typed.{PlainFunction, PlainProgram}
use Rattle.p10_core.specs.WholePrograms.{surroundings_of, region_of, numbers_from, loops_of as heads_of, IsWholeFunction, IsWholeProgram}
use Rattle.p10_cert.specs.Claims.{Loop, Claims}
use Rattle.p10_absx.specs.Environments.{Environment}
use Rattle.p10_fit.specs.Sites.{task_loop_number}
use Rattle.p10_pass.specs.Passing.{pass_statements, trial_manner}
use Rattle.p10_turns.specs.LoopParts.{LoopParts, loops_among}
use Rattle.p10_turns.specs.Ranked.{is_ranked}
use Rattle.p10_turns.specs.Evidence.{holds_by_ranges}
use Rattle.p10_turns.proofs.Numbering.{loops_numbered}
use Rattle.p10_finder.specs.Loops.{no_loops}
use Rattle.p10_finder.specs.Functions.{known_at_start, loops_of, search_in}
use Rattle.p10_acceptance.proofs.Narrowing.{narrower_itself}
use Rattle.p10_acceptance.proofs.Values.{AreTyped}
use Rattle.p10_acceptance.proofs.Calling.{MaybeTaken}
use Rattle.p10_acceptance.proofs.Ends.{Each}
use Rattle.p10_acceptance.proofs.Statements.{Fine, statements_fit}
use Rattle.p10_acceptance.proofs.Walk.{loops_even, Numbered}
use Rattle.p10_acceptance.proofs.Walking.{AllIn, whole, walk_all}
use Rattle.p10_acceptance.proofs.Beginning.{start_fair, start_before}
use Rattle.p10_approach.specs.Offers.{Offers, AreOffers}
use Rattle.p10_approach.specs.Approaches.{Approached}
use Rattle.p10_candidates.specs.Candidates.{LoopEntry}

pub numbered_from : (k : ℕ) (hs : List LoopHead) → map (λ (h : LoopHead). h.number) hs ≡ numbers_from k (length hs) → Numbered k hs
numbered_from k [] e = tt
numbered_from k (h ∷ hs) e =
    let first : h.number ≡ k = cc in
    let rest : map (λ (h : LoopHead). h.number) hs ≡ numbers_from (k + 1) (length hs) = cc in
    let next : k + 1 ≡ suc k = omega arith in
    (first, numbered_from (suc k) hs (subst (λ (i : ℕ). map (λ (h : LoopHead). h.number) hs ≡ numbers_from i (length hs)) next rest))

pub each_by_place : {A : Type 0} (P : A → Type 0) (xs : List A) → ((k : ℕ) (x : A) → slice_get xs k ≡ Some x → P x) → Each P xs
each_by_place P [] h = tt
each_by_place P (x ∷ xs) h = (h 0 x refl, each_by_place P xs (λ k y e. h (suc k) y e))

module _ (o : Offers) (are : AreOffers o) (p : PlainProgram) (whole_program : IsWholeProgram p) (n : ℕ) (f : PlainFunction) (there : slice_get p.functions n ≡ Some f) (c : Claims) (typed : AreTyped (surroundings_of p) (Some c)) (taken : MaybeTaken (surroundings_of p) (Some c)) (Stands : ℕ → Environment → Type 0)
    (bounded : (loops_of o p c n f).unbounded ≡ [])
    (short : (k : ℕ) (l : Loop) → slice_get (loops_of o p c n f).claims k ≡ Some l → is_ranked l.rank ≡ true → l.turns ≤ MOST_SUM)
    (stands : (k : ℕ) (parts : LoopParts) (l : Loop) → slice_get (loops_among f.body) k ≡ Some parts → slice_get (loops_of o p c n f).claims k ≡ Some l → (entry : Environment) → is_ranked l.rank ≡ true → holds_by_ranges f.variables parts entry l ≡ true → Stands k entry)
    (offered : (k depth : ℕ) (parts : LoopParts) (l : LoopEntry) (a : Approached) → slice_get (loops_among f.body) k ≡ Some parts → slice_get (loops_of o p c n f).claims k ≡ Some a.claim → slice_get (loops_of o p c n f).approaches k ≡ Some (Some a.approach) → o n f k depth (Some parts) l ≡ Some a → Stands k l.entry) where
  function : IsWholeFunction p n f
  function = whole_program.functions n f there

  -- the claims of the loops fit
  pub body_fitted : AllIn p f c typed taken (task_loop_number p n f) (o n f) (loops_of o p c n f) Stands short stands (are n f) offered f.body (known_at_start f)
  body_fitted = walk_all p f c typed taken (task_loop_number p n f) (o n f) (loops_of o p c n f) Stands short stands (are n f) offered (region_of p n f) (record { program_is = refl; function_is = refl }) f.body function.body 0 (known_at_start f) no_loops (record {
    before = start_before p n f function;
    fair = start_fair f;
    numbered = numbered_from 0 (heads_of f.body) function.loops_in_order;
    placed = each_by_place _ (loops_among f.body) (λ k x e. subst (λ (i : ℕ). slice_get (loops_among f.body) i ≡ Some x) (sym (loops_numbered p whole_program n f there k x e)) e);
    prefix = record { claims = λ j l e. e; marks = λ j x e. e; even = loops_even (search_in o p c n f) f (Some (known_at_start f)) };
    bounded = bounded;
  })

  -- so none of the conditions fails
  pub body_fine : Fine p f (Some c) typed taken (Some (loops_of o p c n f).claims) None (λ r. refl) Stands (pass_statements (whole p f c typed taken (task_loop_number p n f) (o n f) (loops_of o p c n f) Stands short stands (are n f) offered) f.body (known_at_start f))
      (pass_statements (trial_manner f.variables) f.body (known_at_start f))
  body_fine = statements_fit p f (Some c) typed taken (Some (loops_of o p c n f).claims) None (λ r. refl) Stands (region_of p n f) (record { program_is = refl; function_is = refl }) f.body function.body (known_at_start f) (known_at_start f) (start_before p n f function)
      (narrower_itself f.variables (known_at_start f) (start_fair f)) body_fitted
