use Rattle.std.proofs.Common.{[], ◌∷◌, ◌++◌, refl, sym, ap, ◌∙◌, Vec, Global}
use Rattle.std.proofs.lemmas.List.{nil_from_length}
use Rattle.p10_macros.specs.declared.pending.Traced.{Traced}
use Rattle.p10_macros.proofs.Moves.{moved_call, moved_call_too_long, no_call}
use Rattle.p10_macros.proofs.Results.{on_ok_so, if_err_so}
use Rattle.p10_macros.proofs.run.end_call.Goals as goal

pub returns-in_ok-put_argument-in-Some-clause-ok : goal.returns-in_ok-put_argument-in-Some-clause-ok
returns-in_ok-put_argument-in-Some-clause-ok c =
    on_ok_so c.replace_use.result c.replace_use.ensures.ok (λ replaced. λ table next.
    moved_call table c.args.run.now _ next c.in-Some.open c.pop.new.self.items c.in-Some.ensures.items refl refl refl refl refl refl
    (ap (λ (v : Vec Traced Global). v.items) c.replace-value.ensures.after) c.put_argument.new.values.items
    (c.in_ok-put_argument-in-Some.ensures ∙ ap (λ (v : Vec Traced Global). c.in-Some.open.values.items ++ v ∷ []) c.replace-value.ensures.value) c.replace_use.new.run replaced)

pub returns-in_ok-put_argument-in-Some-clause-err : goal.returns-in_ok-put_argument-in-Some-clause-err
returns-in_ok-put_argument-in-Some-clause-err c =
    if_err_so c.replace_use.result c.replace_use.ensures.err (λ f short. λ table next.
    moved_call_too_long table c.args.run.now (record c.args.run.now { done = c.replace-value.new.dest; «open» = c.pop.new.self; stop = c.in-Some.open.stop }) next c.in-Some.open c.pop.new.self.items c.in-Some.ensures.items refl refl refl refl refl refl
    (ap (λ (v : Vec Traced Global). v.items) c.replace-value.ensures.after) c.put_argument.new.values.items
    (c.in_ok-put_argument-in-Some.ensures ∙ ap (λ (v : Vec Traced Global). c.in-Some.open.values.items ++ v ∷ []) c.replace-value.ensures.value) f short)

pub returns-in-None-clause-ok : goal.returns-in-None-clause-ok
returns-in-None-clause-ok c = λ table next. no_call table c.args.run.now _ next (nil_from_length _ (sym c.args.run.now.open.ok.0 ∙ c.in-None.ensures.cases.0))
