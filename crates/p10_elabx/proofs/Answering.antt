-- The row that is kept is the first of all.
use Rattle.std.specs.Prelude.{Ok, Err, Result, [], ◌∷◌, refl}
use Rattle.std.proofs.Common.{ap, subst}
use Rattle.p10_base.specs.declared.at.At.{At}
use Rattle.p10_syn.specs.Trees.{Expression}
use Rattle.p10_core.specs.declared.typed.Value.{Value}
use Rattle.p10_core.specs.Typed.{PlainValue}
use Rattle.p10_core.specs.Views.{plain_value}
use Rattle.p10_elabx.specs.declared.elaborate.ElabFault.{ElabFault}
use Rattle.p10_elabx.specs.declared.elaborate.ElabFault.TheVariants.{Refused, NothingSaid, Memory}
use Rattle.p10_elabx.specs.First.{Found, every, only_first}
use Rattle.p10_elabx.specs.Laws.{IsKept}
use Rattle.p10_elabx.specs.Scopes.{PlainScope}
use Rattle.p10_elabx.specs.Operands.{as_value}
use Rattle.p10_elabx.specs.Judging.{judge}
use Rattle.p10_elabx.specs.Answers.{Answers, AnswersOne}
use Rattle.p10_elabx.proofs.Ties.{tied, tied_value}

kept_answer : (f g : Found PlainValue) (r : Result Value ElabFault) → IsKept f g → AnswersOne g r → Answers f r
kept_answer (Ok a) g (Ok v) k e = let h : IsKept (Ok a) (Ok (plain_value v)) = subst (IsKept (Ok a)) e k in ap (λ x. let o : Found PlainValue = Ok x in o) h
kept_answer (Err all) g (Ok v) k e = let h : IsKept (Err all) (Ok (plain_value v)) = subst (IsKept (Err all)) e k in absurd h
kept_answer (Ok a) g (Err (Refused r)) k e = let h : IsKept (Ok a) (Err (r ∷ [])) = subst (IsKept (Ok a)) e k in absurd h
kept_answer (Err all) g (Err (Refused r)) k e = let h : IsKept {A = PlainValue} (Err all) (Err (r ∷ [])) = subst (IsKept (Err all)) e k in (all, refl, h)
kept_answer (Ok a) g (Err NothingSaid) k e = let h : IsKept (Ok a) (Err []) = subst (IsKept (Ok a)) e k in absurd h
kept_answer (Err all) g (Err NothingSaid) k e = let h : IsKept {A = PlainValue} (Err all) (Err []) = subst (IsKept (Err all)) e k in ap (λ rs. let o : Found PlainValue = Err rs in o) h
kept_answer f g (Err Memory) k e = tt

pub answers_first : (s : PlainScope) (e : Expression At) (r : Result Value ElabFault) → AnswersOne (as_value s.structures (judge only_first s e)).found r →
    Answers (as_value s.structures (judge every s e)).found r
answers_first s e r one =
    kept_answer (as_value s.structures (judge every s e)).found (as_value s.structures (judge only_first s e)).found r
    (tied_value s.structures (judge every s e) (judge only_first s e) (tied s e)).found one
