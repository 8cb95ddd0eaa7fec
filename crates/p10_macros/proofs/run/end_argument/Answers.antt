use Rattle.std.proofs.Common.{[], ◌∷◌, ◌++◌, refl, sym, ap, ◌∙◌, Vec, Global}
use Rattle.std.proofs.lemmas.List.{nil_from_length}
use Rattle.p10_macros.specs.declared.pending.Traced.{Traced}
use Rattle.p10_macros.proofs.Moves.{moved_argument, no_argument}
use Rattle.p10_macros.proofs.run.end_argument.Goals as goal

pub returns-in-None-clause-ok : goal.returns-in-None-clause-ok
returns-in-None-clause-ok c = λ table next is. no_argument table c.args.run.now _ next (nil_from_length _ (sym c.args.run.now.open.ok.0 ∙ c.in-None.ensures.cases.0))

pub returns-in_ok-put_open-in-Some-clause-ok : goal.returns-in_ok-put_open-in-Some-clause-ok
returns-in_ok-put_open-in-Some-clause-ok c = λ table next is.
    moved_argument table c.args.run.now _ next c.in-Some.open _ c.pop.new.self.items c.in-Some.ensures.items c.in_ok-put_open-in-Some.ensures refl refl refl refl refl
    (c.in_ok-put_argument-in-Some.ensures ∙ ap (λ (v : Vec Traced Global). c.in-Some.open.values.items ++ v ∷ []) c.replace-value.ensures.value)
    refl (ap (λ (v : Vec Traced Global). v.items) c.replace-value.ensures.after ∙ c.new.ensures.items) refl refl refl is
