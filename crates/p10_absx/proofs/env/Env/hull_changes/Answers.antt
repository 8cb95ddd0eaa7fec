use Rattle.std.proofs.Common.{◌≡◌, ◌++◌, ◌∙◌, ap}
use Rattle.std.proofs.lemmas.Result.{IfOk-weaker}
use Rattle.p10_absx.specs.Trails.{Branching, back}
use Rattle.p10_absx.specs.private.Changes.{replaced_in, applied, widened}
use Rattle.p10_absx.proofs.Changing.{hull_of_changes}
use Rattle.p10_absx.proofs.env.Env.hull_changes.Goals as goal

pub returns-clause-hull : goal.returns-clause-hull
returns-clause-hull c =
    let entered : c.enter.new.self.values ≡ applied (replaced_in c.args.second.now) c.args.self.now.values = ap (λ (b : Branching). b.values) c.in_ok-enter.ensures in
    let outside : c.take_back.new.self.values ≡ c.args.self.now.values = ap (λ (b : Branching). b.values) (c.take_back.ensures ∙ ap back c.in_ok-enter.ensures) in
    let is-outer : replaced_in c.in_ok-outer.outer.items ≡ widened c.args.self.now.values (replaced_in c.args.second.now) = c.in_ok-outer.ensures ∙ ap (λ env. widened env (replaced_in c.args.second.now)) outside in
    IfOk-weaker _ _ _ (λ v is. hull_of_changes c.args.self.now.values c.enter.new.self.values c.args.first.now c.args.second.now c.in_ok-inner.inner c.in_ok-outer.outer v entered c.in_ok-inner.ensures is-outer
    (is ∙ (ap (λ xs. replaced_in xs ++ replaced_in c.deref-2.result.now) c.deref.ensures.value ∙ ap (λ ys. replaced_in c.in_ok-outer.outer.items ++ replaced_in ys) c.deref-2.ensures.value))) c.joined.ensures
