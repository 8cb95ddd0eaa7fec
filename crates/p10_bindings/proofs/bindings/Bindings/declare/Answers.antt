use Rattle.std.proofs.Common.{◌∙◌}
use Rattle.p10_bindings.proofs.Keeping.{linked_more}
use Rattle.p10_bindings.proofs.bindings.Bindings.declare.Goals as goal

pub invariant_of-self-2 : goal.invariant_of-self-2
invariant_of-self-2 g c =
    record { linked = linked_more _ _ _ _ (record { name = c.args.name; spelling = c.in_ok-spelling.spelling; what = c.args.what; earlier = c.last_at-earlier.result }) _ c.spell.new.self.linked c.in_ok-spelling.ensures.place c.last_at-earlier.ensures c.in_ok-push.ensures.items (c.len-place.ensures ∙ c.spell.new.self.entries.ok.0) }
