-- The loops of a whole function stand in the order of their numbers.
use Rattle.std.proofs.Common.{◌≡◌, ℕ, zero, suc, ◌+◌, ◌∷◌, ◌++◌, map, length, refl, ◌∙◌, ap, sym, arith, Some, slice_get}
use Rattle.std.specs.Option.{option_map}
use Rattle.std.proofs.lemmas.List.{map-append}
use Rattle.std.proofs.lemmas.Option.{same_Some, none-some, slice_get-map}
use Rattle.p10_core.specs.declared.statements.LoopHead.{LoopHead}
use Rattle.p10_core.specs.Typed.{PlainStatement, statement, set, update, copy, evaluate as expression, asserts, declare, declare_static, block, if_then, if_else, loop, switch, break, continue, return, empty, mark, PlainStatements, no_statements, more_statements}
use Rattle.p10_core.specs.WholePrograms.{loops_in, loops_of, numbers_from}
use Rattle.p10_turns.specs.LoopParts.{LoopParts, loops_within, loops_among}
use Rattle.p10_turns.specs.Laws.{LoopsAreNumbered}

mutual
  heads_within : (x : PlainStatement) → map (λ t. t.head) (loops_within x) ≡ loops_in x
  heads_within (statement at (block xs)) = heads_among xs
  heads_within (statement at (if_then v x)) = heads_within x
  heads_within (statement at (if_else v x z)) = map-append (λ t. t.head) (loops_within x) (loops_within z) ∙ (ap (λ l. l ++ map (λ t. t.head) (loops_within z)) (heads_within x) ∙ ap (λ l. loops_in x ++ l) (heads_within z))
  heads_within (statement at (loop head first tested third body)) = ap (λ l. head ∷ l) (heads_within body)
  heads_within (statement at (switch span v labels body)) = heads_within body
  heads_within (statement at (set q v)) = refl
  heads_within (statement at (update kind op u q v)) = refl
  heads_within (statement at (copy q r)) = refl
  heads_within (statement at (expression v)) = refl
  heads_within (statement at (asserts call v)) = refl
  heads_within (statement at (declare n initializer)) = refl
  heads_within (statement at (declare_static n)) = refl
  heads_within (statement at break) = refl
  heads_within (statement at continue) = refl
  heads_within (statement at (return keyword v)) = refl
  heads_within (statement at empty) = refl
  heads_within (statement at (mark kind)) = refl

  heads_among : (xs : PlainStatements) → map (λ t. t.head) (loops_among xs) ≡ loops_of xs
  heads_among no_statements = refl
  heads_among (more_statements x rest) = map-append (λ t. t.head) (loops_within x) (loops_among rest) ∙ (ap (λ l. l ++ map (λ t. t.head) (loops_among rest)) (heads_within x) ∙ ap (λ l. loops_in x ++ l) (heads_among rest))

number_at : (n count k m : ℕ) → slice_get (numbers_from n count) k ≡ Some m → m ≡ n + k
number_at n zero k m e = absurd (none-some _ e)
number_at n (suc count) zero m e = let q : n ≡ m = same_Some _ _ e in omega (arith, q)
number_at n (suc count) (suc k) m e = let q : m ≡ (n + 1) + k = number_at (n + 1) count k m e in omega (arith, q)

pub loops_numbered : LoopsAreNumbered
loops_numbered p whole number f there k t e =
    let q : t.head.number ≡ 0 + k = number_at 0 (length (loops_of f.body)) k t.head.number
    (ap (λ l. slice_get l k) (sym (whole.functions number f there).loops_in_order)
    ∙ (slice_get-map (λ (h : LoopHead). h.number) (loops_of f.body) k
    ∙ (ap (λ l. option_map (λ (h : LoopHead). h.number) (slice_get l k)) (sym (heads_among f.body))
    ∙ (ap (option_map (λ (h : LoopHead). h.number)) (slice_get-map (λ (t : LoopParts). t.head) (loops_among f.body) k)
    ∙ ap (λ o. option_map (λ (h : LoopHead). h.number) (option_map (λ (t : LoopParts). t.head) o)) e)))) in omega (arith, q)
