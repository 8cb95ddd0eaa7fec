use Rattle.std.proofs.Common.{◌≡◌, ◌<◌, length, map, Some, sym, ◌∙◌, ap, arith}
use Rattle.std.specs.Prelude.{slice_get}
use Rattle.std.proofs.lemmas.Option.{slice_get-get_or}
use Rattle.p10_core.specs.Views.{plain_variable}
use Rattle.p10_absx.specs.Trails.{Branching}
use Rattle.p10_absx.proofs.Entries.{get_map}
use Rattle.p10_pass.specs.Marks.{is_marked}
use Rattle.p10_pass.proofs.Renewals.{renewed_more}
use Rattle.p10_diff.specs.private.Scopes.{forgotten}
use Rattle.p10_diff.proofs.scopes.forget_marked.Goals as goal

pub loop-n-preserved : goal.loop-n-preserved
loop-n-preserved c =
    let below : c.loop-n.n < length c.args.variables.now = omega arith in
    let there : slice_get c.args.variables.now c.loop-n.n ≡ Some c.index-variables-n.result = slice_get-get_or c.args.variables.now c.loop-n.n c.index-variables-n.result below ∙ ap Some (sym c.index-variables-n.is) in
    record {
      values = ap (λ (b : Branching). b.values) c.forget_variable.ensures ∙
          renewed_more (forgotten (λ n. is_marked c.args.marks.now n)) c.loop-n.n (map plain_variable c.args.variables.now) (plain_variable c.index-variables-n.result) c.args.env.now.values c.loop-n.env.values
          (get_map plain_variable c.args.variables.now c.loop-n.n c.index-variables-n.result there) c.loop-n.invariant.values;
      outer = ap (λ (b : Branching). b.outer) c.forget_variable.ensures ∙ c.loop-n.invariant.outer;
    }
