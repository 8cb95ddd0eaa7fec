use Rattle.std.proofs.Common.{◌∙◌, ap, subst, sym, reverse}
use Rattle.std.specs.Vec.{vec_capacity}
use Rattle.p10_absx.specs.Trails.{back}
use Rattle.p10_absx.specs.private.Kept.{IsTrail}
use Rattle.p10_absx.proofs.Trails.{taken_kept, taken_seen}
use Rattle.p10_absx.proofs.env.Env.take_back.Goals as goal

pub invariant_of-self : goal.invariant_of-self
invariant_of-self c =
    subst (λ room. IsTrail room c.undo-self-inside.result c.undo-self-inside.new.entries.items (reverse c.undo-self-inside.new.notes.items)) (sym c.undo-self-inside.ensures.room)
    (taken_kept (vec_capacity c.self.inside.notes) c.self.inside.branch c.self.inside.entries.items (reverse c.self.inside.notes.items) _ c.if-self-gt0.true c.self.invariant c.undo-self-inside.ensures.taken)

pub returns-then-self-gt0 : goal.returns-then-self-gt0
returns-then-self-gt0 c =
    taken_seen (vec_capacity c.self.inside.notes) c.self.inside.branch c.self.inside.entries.items c.self.inside.notes.items c.undo-self-inside.new.entries.items c.undo-self-inside.new.notes.items c.undo-self-inside.result
    c.if-self-gt0.true c.self.invariant c.undo-self-inside.ensures.taken ∙ ap back c.self.view_is
