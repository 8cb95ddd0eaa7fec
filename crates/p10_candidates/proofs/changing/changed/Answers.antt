use Rattle.std.proofs.Common.{◌≡◌, ◌≤◌, length, take_all, map, Some, sym, ◌∙◌, ap, arith}
use Rattle.std.specs.Prelude.{slice_get}
use Rattle.std.proofs.lemmas.List.{length-map}
use Rattle.std.proofs.lemmas.Option.{slice_get-get_or}
use Rattle.p10_core.specs.Views.{plain_variable}
use Rattle.p10_absx.specs.Trails.{Branching}
use Rattle.p10_absx.proofs.Entries.{get_map}
use Rattle.p10_pass.specs.Scopes.{changed_each}
use Rattle.p10_pass.proofs.Renewals.{renewed_more}
use Rattle.p10_candidates.specs.Offering.{entry_by}
use Rattle.p10_candidates.specs.private.Trying.{change_by}
use Rattle.p10_candidates.proofs.changing.changed.Goals as goal

pub loop-n-preserved : goal.loop-n-preserved
loop-n-preserved c =
    let there : slice_get c.args.l.now.variables.now c.loop-n.n ≡ Some c.v-item.result = slice_get-get_or c.args.l.now.variables.now c.loop-n.n c.v-item.result c.loop-n-test.true ∙ ap Some (sym c.v-item.is) in
    record {
      values = ap (λ (b : Branching). b.values) c.change_entry.ensures ∙
          renewed_more (change_by (entry_by c.args.l.now) c.args.change.now) c.loop-n.n (map plain_variable c.args.l.now.variables.now) (plain_variable c.v-item.result) c.args.l.now.entry.now.values c.loop-n.env.values
          (get_map plain_variable c.args.l.now.variables.now c.loop-n.n c.v-item.result there) c.loop-n.invariant.values;
      outer = ap (λ (b : Branching). b.outer) c.change_entry.ensures ∙ c.loop-n.invariant.outer;
    }

pub returns : goal.returns
returns c =
    let all : length (map plain_variable c.args.l.now.variables.now) ≤ c.loop-n.n = let e : length (map plain_variable c.args.l.now.variables.now) ≡ length c.args.l.now.variables.now = length-map c.args.l.now.variables.now plain_variable in omega (arith, e, c.loop-n-test.false) in
    let values : c.loop-n.env.values ≡ changed_each (change_by (entry_by c.args.l.now) c.args.change.now) 0 (map plain_variable c.args.l.now.variables.now) c.args.l.now.entry.now.values =
    c.loop-n.invariant.values ∙ ap (λ vs. changed_each (change_by (entry_by c.args.l.now) c.args.change.now) 0 vs c.args.l.now.entry.now.values) (take_all c.loop-n.n (map plain_variable c.args.l.now.variables.now) all) in
    λ i. record { values = values i; outer = c.loop-n.invariant.outer i }
