use Rattle.std.proofs.Common.{rules, ◌+◌, refl, ap, ◌∙◌, arith}
use Rattle.std.proofs.lemmas.Grind.{common_steps}
use Rattle.p10_syn.specs.declared.statement.Init.TheViews.{the_lemmas}
use Rattle.p10_syn.specs.BuiltStatements.{initializer_of}
use Rattle.p10_place.specs.Roots.{source_of}
use Rattle.p10_place.proofs.Parts.{goes_on, unvisited_next}
use Rattle.p10_place.proofs.StatementPlacings.{fits_initializers, starts_initializers, all_initializers, past_initializers}
use Rattle.p10_place.proofs.Rows.{initializers_listed, braced_is}
use Rattle.p10_place.proofs.declaration.+initialising.Goals as goal

pub set_initializer-set_parts-placed-requires : goal.set_initializer-set_parts-placed-requires
set_initializer-set_parts-placed-requires t c = rw (c.replace-taken.ensures.value) (search rules)

pub set_parts-set_initializers-requires : goal.set_parts-set_initializers-requires
set_parts-set_initializers-requires t c = ((first_of (search rules, search (rules, the_lemmas), grind (arith, common_steps))), let h = rw (ap initializer_of c.in-Braced.is ∙ braced_is c.in-Braced.field-0 c.in-Braced.all c.in-Braced.ends_with_comma) at c.requires in (first_of (omega (arith, h), search (rules, the_lemmas, h), grind (arith, common_steps, h))))

pub set_parts-overflow_add-past : goal.set_parts-overflow_add-past
set_parts-overflow_add-past t c = let h = rw (ap initializer_of c.in-Braced.is ∙ braced_is c.in-Braced.field-0 c.in-Braced.all c.in-Braced.ends_with_comma) at c.requires in (first_of (omega (arith, h), search (rules, the_lemmas, h), grind (arith, common_steps, h)))

pub set_parts-overflow_add-past-in-Braced : goal.set_parts-overflow_add-past-in-Braced
set_parts-overflow_add-past-in-Braced t c = let h = rw (ap initializer_of c.in-Braced.is ∙ braced_is c.in-Braced.field-0 c.in-Braced.all c.in-Braced.ends_with_comma) at c.requires in (first_of (omega (arith, h), search (rules, the_lemmas, h), grind (arith, common_steps, h)))

pub set_parts-returns-in-Braced-clause-placed : goal.set_parts-returns-in-Braced-clause-placed
set_parts-returns-in-Braced-clause-placed t c = rw (ap initializer_of c.in-Braced.is ∙ braced_is c.in-Braced.field-0 c.in-Braced.all c.in-Braced.ends_with_comma) (search (rules, the_lemmas, initializers_listed))

pub set_parts-returns-in-Braced-clause-past : goal.set_parts-returns-in-Braced-clause-past
set_parts-returns-in-Braced-clause-past t c = rw (ap initializer_of c.in-Braced.is ∙ braced_is c.in-Braced.field-0 c.in-Braced.all c.in-Braced.ends_with_comma) (first_of (omega arith, search (rules, the_lemmas), grind (arith, common_steps)))

pub set_initializers-loop-i-preserved : goal.set_initializers-loop-i-preserved
set_initializers-loop-i-preserved t c = record {
  placing = goes_on _ _ _ _ _ _ _ _ _ _ _ _ _ _ (c.loop-i.past + c.comma_before.result) _ c.index_mut.result.now _ _ (omega arith) (omega (arith, c.loop-i-test.true, c.len-i-end.ensures, c.args.all.now.ok.0)) c.loop-i.invariant.placing c.index_mut.ensures.value refl (ap (λ x. c.loop-i.past + x) c.comma_before.ensures) c.set_initializer-past.ensures.placed c.set_initializer-past.ensures.past;
  unvisited = unvisited_next _ _ _ _ _ c.loop-i.invariant.unvisited;
}

pub set_initializers-set_initializer-past-requires : goal.set_initializers-set_initializer-past-requires
set_initializers-set_initializer-past-requires t c = ((first_of (search rules, search (rules, the_lemmas), grind (arith, common_steps))), let f = fits_initializers (source_of c.args.root.now) c.loop-i.i c.args.first c.args.all.now.items c.loop-i.all.items c.loop-i.past c.index_mut.result.now c.index_mut.result.now (omega (arith, c.loop-i-test.true, c.len-i-end.ensures, c.args.all.now.ok.0)) c.loop-i.invariant.placing c.index_mut.ensures.value in omega (arith, f, c.requires, c.comma_before.ensures))

pub set_initializers-overflow_add-past : goal.set_initializers-overflow_add-past
set_initializers-overflow_add-past t c = let f = starts_initializers (source_of c.args.root.now) c.loop-i.i c.args.first c.args.all.now.items c.loop-i.all.items c.loop-i.past (omega (arith, c.loop-i-test.true, c.len-i-end.ensures, c.args.all.now.ok.0)) c.loop-i.invariant.placing in omega (arith, f, c.requires, c.comma_before.ensures)

pub set_initializers-returns-clause-placed : goal.set_initializers-returns-clause-placed
set_initializers-returns-clause-placed t c = all_initializers (source_of c.args.root.now) c.loop-i.i c.args.first c.args.all.now.items c.loop-i.all.items c.loop-i.past (omega (arith, c.loop-i-test.false, c.loop-i.auto.i-end, c.len-i-end.ensures, c.args.all.now.ok.0)) c.loop-i.invariant.placing

pub set_initializers-returns-clause-past : goal.set_initializers-returns-clause-past
set_initializers-returns-clause-past t c = past_initializers (source_of c.args.root.now) c.loop-i.i c.args.first c.args.all.now.items c.loop-i.all.items c.loop-i.past (omega (arith, c.loop-i-test.false, c.loop-i.auto.i-end, c.len-i-end.ensures, c.args.all.now.ok.0)) c.loop-i.invariant.placing
