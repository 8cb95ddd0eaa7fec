use Rattle.std.proofs.Common.{◌≡◌, ◌<◌, ◌++◌, ◌∷◌, [], ◌+◌, ℕ, List, drop, length, Some, subst, sym, arith}
use Rattle.std.specs.Prelude.{slice_get}
use Rattle.p10_absx.specs.declared.notes.Entry.{Entry}
use Rattle.p10_absx.specs.Environments.{Environment, hull_environment}
use Rattle.p10_absx.specs.Trails.{known_in_entries}
use Rattle.p10_absx.proofs.Trails.{entry_with, fresh_more}
use Rattle.p10_absx.proofs.HullEntries.{hull_more, hull_whole, shorter_ends}
use Rattle.p10_absx.proofs.branches.hull_entries.Goals as goal

pub loop-n-preserved : goal.loop-n-preserved
loop-n-preserved c =
    let all : Environment = hull_environment (known_in_entries c.args.some.now) (known_in_entries c.args.others.now) in
    let pushed : c.push.new.self.items ≡ c.loop-n.entries.items ++ entry_with c.hull_entry.result 0 ∷ [] = c.in_ok-push.ensures.items in
    let left : c.loop-n.n < length c.args.some.now = omega (arith, c.min-n-end.ensures) in
    let right : c.loop-n.n < length c.args.others.now = omega (arith, c.min-n-end.ensures) in
    record {
      so_far = subst (λ (es : List Entry). known_in_entries es ++ hull_environment (known_in_entries (drop (c.loop-n.n + 1) c.args.some.now)) (known_in_entries (drop (c.loop-n.n + 1) c.args.others.now)) ≡ all) (sym pushed)
          (hull_more c.loop-n.entries.items c.args.some.now c.args.others.now c.hull_entry.result c.loop-n.n c.index-some-n.result c.index-others-n.result all c.loop-n.invariant.so_far left right c.index-some-n.is c.index-others-n.is c.hull_entry.ensures);
      fresh = subst (λ (es : List Entry). (n : ℕ) (e : Entry) → slice_get es n ≡ Some e → e.noted ≡ 0) (sym pushed) (fresh_more c.loop-n.entries.items c.hull_entry.result c.loop-n.invariant.fresh);
    }

pub returns-clause-known : goal.returns-clause-known
returns-clause-known c =
    hull_whole c.loop-n.entries.items c.args.some.now c.args.others.now c.loop-n.n _ (shorter_ends (length c.args.some.now) (length c.args.others.now) c.loop-n.n c.min-n-end.result c.min-n-end.ensures c.loop-n-test.false) c.loop-n.invariant.so_far
