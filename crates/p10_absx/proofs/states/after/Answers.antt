use Rattle.std.proofs.Common.{◌≡◌, ◌++◌, ◌∙◌, ap}
use Rattle.p10_absx.specs.private.Changes.{replaced_in}
use Rattle.p10_absx.proofs.Changing.{after_changes}
use Rattle.p10_absx.proofs.states.after.Goals as goal

pub returns-in_ok-joined-in-Some : goal.returns-in_ok-joined-in-Some
returns-in_ok-joined-in-Some c = λ env.
    let is : replaced_in c.in_ok-joined-in-Some.field-0.items ≡ replaced_in c.args.first.now ++ replaced_in c.in-Some.more.items =
    c.in_ok-joined-in-Some.ensures ∙ ap (λ cs. replaced_in c.args.first.now ++ replaced_in cs) c.deref.ensures.value in
    after_changes env c.args.first.now c.in_ok-joined-in-Some.field-0 c.in-Some.more c.args.more is c.in-Some.is
