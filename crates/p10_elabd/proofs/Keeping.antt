-- The first problem of both parts is kept.
use Rattle.std.proofs.Common.{Bool, Err, List, [], ◌∷◌, ◌++◌, sym, ◌∙◌, ap, subst}
use Rattle.std.proofs.lemmas.List.{append-nil}
use Rattle.p10_elabx.specs.declared.problem.Problem.{Problem}
use Rattle.p10_elabx.specs.First.{IsFirst, least}
use Rattle.p10_elabx.proofs.Firsts.{kept_pair}
use Rattle.p10_elabd.specs.Laws.{TheFirstOfBothIsKept}

first_of_both : (r q : Problem) (rs qs : List Problem) → IsFirst r rs → IsFirst q qs → IsFirst (least r q) (rs ++ qs)
first_of_both r q rs qs f g = kept_pair {A = Bool} {B = Bool} (Err rs) (Err (r ∷ [])) (Err qs) (Err (q ∷ [])) f g

pub the_first_of_both_is_kept : TheFirstOfBothIsKept
the_first_of_both_is_kept all [] more [] e f = ap (λ rs. rs ++ more) e ∙ f
the_first_of_both_is_kept all [] more (q ∷ []) e f = subst (λ rs. IsFirst q (rs ++ more)) (sym e) f
the_first_of_both_is_kept all [] more (q ∷ p ∷ rest) e f = absurd f
the_first_of_both_is_kept all (r ∷ []) more [] e f = subst (IsFirst r) (sym (ap (λ rs. all ++ rs) f ∙ append-nil all)) e
the_first_of_both_is_kept all (r ∷ []) more (q ∷ []) e f = first_of_both r q all more e f
the_first_of_both_is_kept all (r ∷ []) more (q ∷ p ∷ rest) e f = absurd f
the_first_of_both_is_kept all (r ∷ p ∷ rest) more few e f = absurd e
