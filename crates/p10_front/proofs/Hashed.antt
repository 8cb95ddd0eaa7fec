-- The digests of the words of a reading.
use Rattle.std.proofs.Common.{◌≡◌, List, map, length, sym, ap, ◌∙◌, subst, Option, Some, None, IfSome, Result, Ok, Err, IfOk, Vec, Global}
use Rattle.std.proofs.lemmas.List.{length-map}
use Rattle.p10_base.specs.declared.digest.Digests.{Digests}
use Rattle.p10_base.specs.declared.word.Word.{Word}
use Rattle.p10_base.specs.Words.{plain_word, plain_words}
use Rattle.p10_syn.specs.declared.statement.Unit as whole
use Rattle.p10_syn.specs.BuiltStatements.{external_of}
use Rattle.p10_core.specs.declared.program.Program.{Program}
use Rattle.p10_core.specs.Views.{plain_function, plain_program}
use Rattle.p10_digests.specs.Digests.{function_digests, outside_digest}
use Rattle.p10_expand.specs.Answers.{lists_of, expansion_of}
use Rattle.p10_front.specs.declared.reading.Reading.{Reading}
use Rattle.p10_front.specs.Answers.{reading_of, trees_of}
use Rattle.p10_front.specs.Digests.{plain_digests, reading_digests, trees_in}
use Rattle.p10_front.proofs.Parsing.{same_roots}

module _ (reading : Reading) (roots : List (Vec Word Global)) (units : List whole.Unit) (found : Digests) (roots_are : roots ≡ reading.expanded.roots) (units_are : map external_of units ≡ trees_in (trees_of reading.units))
    (funcs : map (λ d. d.0) found.funcs ≡ function_digests (map (λ words. plain_words words.items) roots) (map external_of units))
    (outside : found.outside.0 ≡ outside_digest (map (λ words. plain_words words.items) roots) (map external_of units)) where
  here : map (λ words. plain_words words.items) roots ≡ (expansion_of reading.expanded).roots
  here = same_roots roots ∙ ap (λ all. map (map plain_word) (lists_of all)) roots_are

  pub digests_are : plain_digests found ≡ reading_digests (reading_of reading)
  digests_are = λ i. record {
    funcs = (funcs ∙ (λ j. function_digests (here j) (units_are j))) i;
    outside = (outside ∙ (λ j. outside_digest (here j) (units_are j))) i;
  }

  -- so it is of what is given of them
  pub given_are : {E : Type 0} (r : Result Digests E) → IfOk r (λ given. given ≡ found) → IfOk r (λ given. plain_digests given ≡ reading_digests (reading_of reading))
  given_are (Ok given) same = ap plain_digests same ∙ digests_are
  given_are (Err e) same = tt

-- there is one digest for each function of the program, if there is one
as_plain : {E : Type 0} (program : Program) (r : Result Digests E) → IfOk r (λ given. length given.funcs ≡ length program.functions) → IfOk r (λ given. length given.funcs ≡ length (plain_program program).functions)
as_plain program (Ok given) each = each ∙ sym (length-map program.functions plain_function)
as_plain program (Err e) each = tt

pub each_of_program : {E : Type 0} (o : Option Program) (program : Program) (r : Result Digests E) → o ≡ Some program → IfOk r (λ given. length given.funcs ≡ length program.functions)
    → IfOk r (λ given. IfSome o (λ p. length given.funcs ≡ length (plain_program p).functions))
each_of_program o program r is each = subst (λ (x : Option Program). IfOk r (λ given. IfSome x (λ p. length given.funcs ≡ length (plain_program p).functions))) (sym is) (as_plain program r each)

pub each_of_none : (o : Option Program) (found : Digests) → o ≡ None → IfSome o (λ p. length found.funcs ≡ length (plain_program p).functions)
each_of_none o found is = subst (λ (x : Option Program). IfSome x (λ p. length found.funcs ≡ length (plain_program p).functions)) (sym is) tt
