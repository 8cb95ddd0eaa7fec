use Rattle.std.proofs.Common.{refl, ap, sym, ◌∙◌, arith}
use Rattle.p10_macros.specs.Table.{own_of}
use Rattle.p10_macros.proofs.Results.{on_err_always}
use Rattle.p10_macros.proofs.Tables.{IsWider, is_wider, placed_along, is_defined}
use Rattle.p10_macros.proofs.table.Macros.add.Goals as goal

pub invariant_of-self-in-Break-branch-3 : goal.invariant_of-self-in-Break-branch-3
invariant_of-self-in-Break-branch-3 c =
    let w : IsWider c.args.self.now.kept.items c.push.new.self.items c.args.self.now.places =
    is_wider c.args.self.now.kept.items c.push.new.self.items c.args.self.now.places c.args.self.now.placed c.in_ok-push.ensures.items in
    record {
      placed = placed_along c.push.new.self.items c.push.new.self.items c.args.self.now.places c.insert.new.self refl c.in_err-insert.ensures.err w.placed;
      counted = c.args.self.now.counted ∙ ap own_of (sym w.table);
    }

pub returns-in_err-insert-clause-err : goal.returns-in_err-insert-clause-err
returns-in_err-insert-clause-err c =
    let w : IsWider c.args.self.now.kept.items c.push.new.self.items c.args.self.now.places =
    is_wider c.args.self.now.kept.items c.push.new.self.items c.args.self.now.places c.args.self.now.placed c.in_ok-push.ensures.items in
    on_err_always c.from_residual-in_err-insert.result w.table

pub overflow_add-self : goal.overflow_add-self
overflow_add-self c =
    let m = is_defined _ c.args.self.now.kept.items c.push.new.self.items c.put_at.new.kept.items c.args.self.now.places c.insert.new.self c.len-place.result c.put_at.ensures.put c.args.self.now.placed c.requires
    (c.len-place.ensures ∙ c.args.self.now.kept.ok.0) c.in_ok-push.ensures.items c.in_ok-insert.ensures.updates in
    omega (arith, m.few, c.args.self.now.counted, c.own_if-own.ensures, c.args.self.now.kept.ok.0, c.args.self.now.kept.ok.1, c.args.self.now.kept.small)

pub invariant_of-self-2 : goal.invariant_of-self-2
invariant_of-self-2 c =
    let m = is_defined _ c.args.self.now.kept.items c.push.new.self.items c.put_at.new.kept.items c.args.self.now.places c.insert.new.self c.len-place.result c.put_at.ensures.put c.args.self.now.placed c.requires
    (c.len-place.ensures ∙ c.args.self.now.kept.ok.0) c.in_ok-push.ensures.items c.in_ok-insert.ensures.updates in
    record {
      placed = m.placed;
      counted = omega (arith, m.counted, c.args.self.now.counted, c.own_if-own.ensures);
    }

pub returns-clause-ok : goal.returns-clause-ok
returns-clause-ok c =
    (is_defined _ c.args.self.now.kept.items c.push.new.self.items c.put_at.new.kept.items c.args.self.now.places c.insert.new.self c.len-place.result c.put_at.ensures.put c.args.self.now.placed c.requires
    (c.len-place.ensures ∙ c.args.self.now.kept.ok.0) c.in_ok-push.ensures.items c.in_ok-insert.ensures.updates).table
