-- Walks over loops, part by part.
use Rattle.std.proofs.Common.{◌≡◌, List, sym, ◌∙◌, ap, Option, ◌⊎◌, inl, inr}
use Rattle.p10_core.specs.declared.statements.LoopKeyword.{LoopKeyword}
use Rattle.p10_core.specs.declared.statements.LoopKeyword.TheVariants.{While, Do, For}
use Rattle.p10_core.specs.declared.statements.LoopHead.{LoopHead}
use Rattle.p10_core.specs.Typed.{PlainValue, PlainStatement, PlainStatementForm, loop, PlainStatements, PlainObject}
use Rattle.p10_userules.specs.Occurrences.{occurrences_in_maybe}
use Rattle.p10_userules.specs.private.Walking.{Walked, met, entered, left_loop, loop_walked, walk_over, walk_over_form, walk_over_all}

module _ (objects : List PlainObject) (form : PlainStatementForm) (head : LoopHead) (first : PlainStatements) (test : Option PlainValue) (third : PlainStatements) (body : PlainStatement)
    (is : form ≡ loop head first test third body) (w one two three four : Walked) where
  whole : (keyword : LoopKeyword) → head.keyword ≡ keyword → left_loop w (loop_walked keyword (walk_over_all objects first) (met (occurrences_in_maybe test)) (walk_over_all objects third) (walk_over objects body) (entered w)) ≡ walk_over_form objects form w
  whole keyword e =
      ap (λ k. left_loop w (loop_walked k (walk_over_all objects first) (met (occurrences_in_maybe test)) (walk_over_all objects third) (walk_over objects body) (entered w))) (sym e)
      ∙ ap (λ f. walk_over_form objects f w) (sym is)

  pub forward : (head.keyword ≡ While) ⊎ (head.keyword ≡ For) → one ≡ walk_over_all objects first (entered w) → two ≡ met (occurrences_in_maybe test) one → three ≡ walk_over_all objects third two → four ≡ walk_over objects body three
      → left_loop w four ≡ walk_over_form objects form w
  forward keyword a b c d =
      ap (left_loop w) (d ∙ ap (walk_over objects body) (c ∙ ap (walk_over_all objects third) (b ∙ ap (met (occurrences_in_maybe test)) a)))
      ∙ elim keyword [ inl while ↦ whole While while | inr for ↦ whole For for ]

  pub tested_last : head.keyword ≡ Do → one ≡ walk_over_all objects first (entered w) → two ≡ walk_over objects body one → three ≡ met (occurrences_in_maybe test) two → four ≡ walk_over_all objects third three
      → left_loop w four ≡ walk_over_form objects form w
  tested_last keyword a b c d =
      ap (left_loop w) (d ∙ ap (walk_over_all objects third) (c ∙ ap (met (occurrences_in_maybe test)) (b ∙ ap (walk_over objects body) a))) ∙ whole Do keyword
