use Rattle.std.proofs.Common.{◌∙◌, ap}
use Rattle.std.specs.Prelude.{◌≡◌, ◌==◌, length, vec_len}
use Rattle.p10_nesting.proofs.Counting.{inside_is}
use Rattle.p10_nesting.proofs.open.Open.is_inside.Goals as goal

pub returns : goal.returns
returns c = λ levels counted.
    let same : vec_len c.self.inside.outer ≡ length c.args.self.now.outer = c.self.inside.outer.ok.0 ∙ ap (λ t. length t.outer) c.self.view_is in
    inside_is levels c.args.self.now c.is_empty.result counted (c.is_empty.ensures ∙ ap (λ n. n == 0) same)
