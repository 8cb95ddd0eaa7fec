use Rattle.std.proofs.Common.{◌∙◌, ◌+◌, map, drop, option_map, sym, ap, refl, arith, rules}
use Rattle.p10_core.specs.Views.{plain_function, plain_statement, plain_statements}
use Rattle.p10_cert.specs.Claims.{loop_of}
use Rattle.p10_fit.specs.Sites.{loop_sites_in, in_scope_after_all}
use Rattle.p10_fit.specs.private.Following.{claims_after, loop_sites_in_maybe, next_fits}
use Rattle.p10_fit.proofs.Scanning.{next_scope, next_claims, no_claims, loop_claims}
use Rattle.p10_fit.proofs.Parts.{sites_block, sites_if, sites_loop, follows_as, follows_both, left_from, left_nowhere, both_parts}
use Rattle.p10_fit.proofs.Leaving.{is_there, room_to_leave, left_again}
use Rattle.p10_fit.proofs.loops.+follow.Goals as goal

pub follow-returns-in-Block-clause-follows : goal.follow-returns-in-Block-clause-follows
follow-returns-in-Block-clause-follows t c =
    follows_as (plain_function c.args.compared.now.function.now) c.args.compared.now.task c.follow_block.result c.args.compared.now.claims.now (map loop_of (drop c.args.place c.args.compared.now.claims.now)) _ _
    (sites_block c.args.depth c.args.scope.now.numbers.items c.args.s.now.form c.in-Block.all c.as_slice.result.now c.in-Block.is c.as_slice.ensures)
    c.follow_block.ensures.follows

pub follow-returns-in-Some-clause-follows : goal.follow-returns-in-Some-clause-follows
follow-returns-in-Some-clause-follows t c =
    follows_both (plain_function c.args.compared.now.function.now) c.args.compared.now.task c.follow_other.result c.args.compared.now.claims.now
    (map loop_of (drop c.in-Some.after c.args.compared.now.claims.now)) (map loop_of (drop c.args.place c.args.compared.now.claims.now)) _ _
    (λ scope. loop_sites_in_maybe c.args.depth scope (option_map (λ x. plain_statement x.value) c.in-If.other)) c.args.scope.now.numbers.items c.follow_part.new.scope.numbers.items
    (sites_if c.args.depth c.args.scope.now.numbers.items c.args.s.now.form c.in-If.field-0 c.in-If.then c.in-If.other c.deref.result.now c.in-If.is c.deref.ensures)
    (c.in_ok-after-in-If.ensures.scope (is_there c.in_ok-after-in-If.field-0 c.in-Some.after c.in-Some.is))
    (left_from c.args.compared.now.claims.now c.in_ok-after-in-If.field-0 c.in-Some.after _ c.in-Some.is c.in_ok-after-in-If.ensures.follows)
    c.follow_other.ensures.follows

pub follow-returns-in-None-clause-follows : goal.follow-returns-in-None-clause-follows
follow-returns-in-None-clause-follows t c =
    both_parts (plain_function c.args.compared.now.function.now) c.args.compared.now.task _ _
    (loop_sites_in_maybe c.args.depth c.args.scope.now.numbers.items (option_map (λ x. plain_statement x.value) c.in-If.other)) (map loop_of (drop c.args.place c.args.compared.now.claims.now)) _
    (sites_if c.args.depth c.args.scope.now.numbers.items c.args.s.now.form c.in-If.field-0 c.in-If.then c.in-If.other c.deref.result.now c.in-If.is c.deref.ensures)
    (left_nowhere c.args.compared.now.claims.now c.in_ok-after-in-If.field-0 _ c.in-None.is c.in_ok-after-in-If.ensures.follows)

pub follow-returns-in-Loop-clause-follows : goal.follow-returns-in-Loop-clause-follows
follow-returns-in-Loop-clause-follows t c =
    follows_as (plain_function c.args.compared.now.function.now) c.args.compared.now.task c.follow_loop.result c.args.compared.now.claims.now (map loop_of (drop c.args.place c.args.compared.now.claims.now)) _ _
    (sites_loop c.args.depth c.args.scope.now.numbers.items c.args.s.now.form c.in-Loop.head c.in-Loop.first c.in-Loop.field-2 c.in-Loop.field-3 c.in-Loop.body c.as_slice-in-Loop.result.now c.deref-in-Loop.result.now
    c.in-Loop.is c.as_slice-in-Loop.ensures c.deref-in-Loop.ensures)
    c.follow_loop.ensures.follows

pub follow_all-returns-in-None-clause-follows : goal.follow_all-returns-in-None-clause-follows
follow_all-returns-in-None-clause-follows t c =
    no_claims (plain_function c.args.compared.now.function.now) c.args.compared.now.task c.args.depth _ c.loop-s.scope.numbers.items c.args.all.now c.loop-s.s-index c.s-item.result
    (map loop_of (drop c.loop-s.place c.args.compared.now.claims.now)) c.loop-s-test.true c.s-item.is c.loop-s.invariant.claims
    (left_nowhere c.args.compared.now.claims.now c.in_ok-after.field-0 _ c.in-None.is c.in_ok-after.ensures.follows)

pub follow_all-loop-s-preserved : goal.follow_all-loop-s-preserved
follow_all-loop-s-preserved t c = record {
  claims =
      next_claims (plain_function c.args.compared.now.function.now) c.args.compared.now.task c.args.depth _ c.loop-s.scope.numbers.items c.follow.new.scope.numbers.items c.args.all.now c.loop-s.s-index c.s-item.result
      (map loop_of (drop c.loop-s.place c.args.compared.now.claims.now)) (map loop_of (drop c.in-Some.after c.args.compared.now.claims.now)) c.loop-s-test.true c.s-item.is c.loop-s.invariant.claims
      (left_from c.args.compared.now.claims.now c.in_ok-after.field-0 c.in-Some.after _ c.in-Some.is c.in_ok-after.ensures.follows)
      (c.in_ok-after.ensures.scope (is_there c.in_ok-after.field-0 c.in-Some.after c.in-Some.is));
  scope =
      next_scope _ c.loop-s.scope.numbers.items c.follow.new.scope.numbers.items c.args.all.now c.loop-s.s-index c.s-item.result c.loop-s-test.true c.s-item.is c.loop-s.invariant.scope
      (c.in_ok-after.ensures.scope (is_there c.in_ok-after.field-0 c.in-Some.after c.in-Some.is));
  same = c.in_ok-after.ensures.same ∙ c.loop-s.invariant.same;
}

pub follow_block-leave-requires : goal.follow_block-leave-requires
follow_block-leave-requires t c =
    room_to_leave c.args.scope.now.numbers.items c.follow_all.new.scope.numbers.items (plain_statements c.args.all.now) c.len-outer.result c.len-outer.ensures
    (c.in_ok-after.ensures.scope (sym c.is_some.ensures ∙ c.if-is_some.true))

pub follow_block-returns-then-is_some-clause-scope :
    goal.follow_block-returns-then-is_some-clause-scope
follow_block-returns-then-is_some-clause-scope t c =
    λ there. left_again c.args.scope.now.numbers.items c.follow_all.new.scope.numbers.items c.leave.new.self.numbers.items (plain_statements c.args.all.now) c.len-outer.result c.len-outer.ensures
    (c.in_ok-after.ensures.scope there) c.leave.ensures.left

pub follow_loop-follow_part-requires : goal.follow_loop-follow_part-requires
follow_loop-follow_part-requires t c = (search rules, (c.in_ok-declare_all.ensures.same ∙ c.requires.counted, omega (arith, c.if-not-next_fits.ensures.shallow refl)))

pub follow_loop-leave-requires : goal.follow_loop-leave-requires
follow_loop-leave-requires t c =
    room_to_leave c.args.scope.now.numbers.items c.follow_part.new.scope.numbers.items (plain_statements c.args.first.now) c.len-outer.result c.len-outer.ensures
    (c.in_ok-after.ensures.scope (sym c.is_some.ensures ∙ c.if-is_some.true) ∙ c.in_ok-declare_all.ensures.ok)

pub follow_loop-returns-then-is_some-clause-follows :
    goal.follow_loop-returns-then-is_some-clause-follows
follow_loop-returns-then-is_some-clause-follows t c =
    loop_claims (plain_function c.args.compared.now.function.now) c.args.compared.now.task
    (record { depth = c.args.opened.depth; head = c.args.opened.head; scope = in_scope_after_all c.args.scope.now.numbers.items (plain_statements c.args.first.now) })
    (loop_sites_in (c.args.opened.depth + 1) (in_scope_after_all c.args.scope.now.numbers.items (plain_statements c.args.first.now)) (plain_statement c.args.body.now)) c.args.compared.now.claims.now c.args.place _
    (c.next_fits.ensures.there c.if-not-next_fits.false)
    (ap (λ scope. next_fits (plain_function c.args.compared.now.function.now) c.args.compared.now.task (record { depth = c.args.opened.depth; head = c.args.opened.head; scope = scope }) (map loop_of (drop c.args.place c.args.compared.now.claims.now))) (sym c.in_ok-declare_all.ensures.ok)
    ∙ sym c.next_fits.ensures.fits ∙ c.if-not-next_fits.false)
    (c.in_ok-after.ensures.follows
    ∙ ap (λ scope. claims_after (plain_function c.args.compared.now.function.now) c.args.compared.now.task (loop_sites_in (c.args.opened.depth + 1) scope (plain_statement c.args.body.now)) (map loop_of (drop (c.args.place + 1) c.args.compared.now.claims.now))) c.in_ok-declare_all.ensures.ok)

pub follow_loop-returns-then-is_some-clause-scope :
    goal.follow_loop-returns-then-is_some-clause-scope
follow_loop-returns-then-is_some-clause-scope t c =
    λ there. left_again c.args.scope.now.numbers.items c.follow_part.new.scope.numbers.items c.leave.new.self.numbers.items (plain_statements c.args.first.now) c.len-outer.result c.len-outer.ensures
    (c.in_ok-after.ensures.scope there ∙ c.in_ok-declare_all.ensures.ok) c.leave.ensures.left

pub follow_loop-returns-else-is_some-clause-follows :
    goal.follow_loop-returns-else-is_some-clause-follows
follow_loop-returns-else-is_some-clause-follows t c =
    loop_claims (plain_function c.args.compared.now.function.now) c.args.compared.now.task
    (record { depth = c.args.opened.depth; head = c.args.opened.head; scope = in_scope_after_all c.args.scope.now.numbers.items (plain_statements c.args.first.now) })
    (loop_sites_in (c.args.opened.depth + 1) (in_scope_after_all c.args.scope.now.numbers.items (plain_statements c.args.first.now)) (plain_statement c.args.body.now)) c.args.compared.now.claims.now c.args.place _
    (c.next_fits.ensures.there c.if-not-next_fits.false)
    (ap (λ scope. next_fits (plain_function c.args.compared.now.function.now) c.args.compared.now.task (record { depth = c.args.opened.depth; head = c.args.opened.head; scope = scope }) (map loop_of (drop c.args.place c.args.compared.now.claims.now))) (sym c.in_ok-declare_all.ensures.ok)
    ∙ sym c.next_fits.ensures.fits ∙ c.if-not-next_fits.false)
    (c.in_ok-after.ensures.follows
    ∙ ap (λ scope. claims_after (plain_function c.args.compared.now.function.now) c.args.compared.now.task (loop_sites_in (c.args.opened.depth + 1) scope (plain_statement c.args.body.now)) (map loop_of (drop (c.args.place + 1) c.args.compared.now.claims.now))) c.in_ok-declare_all.ensures.ok)
