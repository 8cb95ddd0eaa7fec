use Rattle.std.proofs.Common.{◌≡◌, ◌<◌, ◌++◌, ◌∷◌, [], ◌+◌, ℕ, List, map, drop, length, Some, subst, sym, arith}
use Rattle.std.specs.Prelude.{slice_get}
use Rattle.p10_core.specs.Views.{plain_variable}
use Rattle.p10_cert.specs.Claims.{value_of}
use Rattle.p10_absx.specs.declared.notes.Entry.{Entry}
use Rattle.p10_absx.specs.Entering.{entries_from}
use Rattle.p10_absx.specs.Trails.{known_in_entries}
use Rattle.p10_absx.proofs.Changing.{entries_more}
use Rattle.p10_absx.proofs.Trails.{entry_with, fresh_more}
use Rattle.p10_absx.proofs.entry.entries_of.Goals as goal

pub loop-n-preserved : goal.loop-n-preserved
loop-n-preserved c =
    let below : c.loop-n.n < length c.args.variables.now = omega arith in
    let pushed : c.push.new.self.items ≡ c.loop-n.entries.items ++ entry_with c.entry_for.result 0 ∷ [] = c.in_ok-push.ensures.items in
    record {
      so_far = subst (λ (es : List Entry). known_in_entries es ++ entries_from (c.loop-n.n + 1) c.args.parameters (map value_of c.args.claims.now) (map plain_variable (drop (c.loop-n.n + 1) c.args.variables.now))
          ≡ entries_from 0 c.args.parameters (map value_of c.args.claims.now) (map plain_variable c.args.variables.now)) (sym pushed)
          (entries_more c.loop-n.entries.items c.entry_for.result c.loop-n.n c.args.parameters (map value_of c.args.claims.now) c.args.variables.now c.index-variables-n.result _ c.loop-n.invariant.so_far below c.index-variables-n.is c.entry_for.ensures);
      fresh = subst (λ (es : List Entry). (n : ℕ) (e : Entry) → slice_get es n ≡ Some e → e.noted ≡ 0) (sym pushed) (fresh_more c.loop-n.entries.items c.entry_for.result c.loop-n.invariant.fresh);
    }
