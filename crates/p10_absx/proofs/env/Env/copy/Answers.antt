use Rattle.std.proofs.Common.{◌≡◌, ◌<◌, ◌++◌, ◌∷◌, [], ◌+◌, ℕ, List, take, length, Some, subst, sym, arith, rules}
use Rattle.std.specs.Prelude.{slice_get}
use Rattle.p10_absx.specs.declared.notes.Entry.{Entry}
use Rattle.p10_absx.specs.Trails.{known_in_entries}
use Rattle.p10_absx.proofs.Trails.{entry_with, copied_more, fresh_more}
use Rattle.p10_absx.proofs.env.Env.copy.Goals as goal

pub loop-entry-preserved : goal.loop-entry-preserved
loop-entry-preserved c =
    let pushed : c.push.new.self.items ≡ c.loop-entry.entries.items ++ entry_with c.entry-item.result.known 0 ∷ [] = search rules in
    let below : c.loop-entry.entry-index < length c.deref-entry-items.result.now = omega arith in
    record {
      same = subst (λ (es : List Entry). known_in_entries es ≡ known_in_entries (take (c.loop-entry.entry-index + 1) c.deref-entry-items.result.now)) (sym pushed)
          (copied_more c.loop-entry.entries.items c.deref-entry-items.result.now c.loop-entry.entry-index c.entry-item.result c.loop-entry.invariant.same below c.entry-item.is);
      fresh = subst (λ (es : List Entry). (n : ℕ) (e : Entry) → slice_get es n ≡ Some e → e.noted ≡ 0) (sym pushed) (fresh_more c.loop-entry.entries.items c.entry-item.result.known c.loop-entry.invariant.fresh);
    }
