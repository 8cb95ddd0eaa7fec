use Rattle.std.proofs.Common.{◌≡◌, ℕ, List, Option, take, ap, sym, subst, ◌∙◌, arith}
use Rattle.std.specs.Prelude.{is_none}
use Rattle.std.specs.List.{All}
use Rattle.std.proofs.lemmas.List.{take_all}
use Rattle.p10_macros.specs.private.Places.{places_that, IsBelow, AreByParameter}
use Rattle.p10_macros.proofs.PlacesThat.{own_more, named_more, row_there, rows_begun}
use Rattle.p10_macros.proofs.places.Places.of_words.Goals as goal

pub loop-place-init : goal.loop-place-init
loop-place-init c = record {
  own = c.new-own.ensures.items;
  count = c.in_ok-named.ensures.count;
  named = rows_begun c.in_ok-named.named.items c.in_ok-named.ensures.none;
}

pub put-requires : goal.put-requires
put-requires c = row_there c.args.all.items c.deref-found-items.result.now c.args.count _ c.loop-place.place c.deref-found-items.ensures.value c.loop-place.invariant.count c.loop-place-test.true c.requires

pub loop-place-preserved : goal.loop-place-preserved
loop-place-preserved c = record {
  own = own_more c.loop-place.own.items c.put.new.own.items c.args.all.items c.deref-found-items.result.now c.loop-place.place c.deref-found-items.ensures.value c.loop-place-test.true c.loop-place.invariant.own c.in_ok-put.ensures.own;
  count = c.in_ok-put.ensures.count ∙ c.loop-place.invariant.count;
  named = named_more c.loop-place.named.items c.put.new.named.items c.args.all.items c.deref-found-items.result.now c.loop-place.place c.deref-found-items.ensures.value c.loop-place-test.true
      c.in_ok-put.ensures.count c.loop-place.invariant.named c.in_ok-put.ensures.named;
}

pub invariant_of-result : goal.invariant_of-result
invariant_of-result c =
    let whole : take c.loop-place.place c.args.all.items ≡ c.args.all.items = take_all _ _ (omega (arith, c.loop-place-test.false, c.deref-found-items.ensures.len)) in
    record {
      apart = c.loop-place.invariant.own ∙ ap (λ (all : List (Option ℕ)). places_that is_none 0 all) whole;
      by_parameter = subst (λ (all : List (Option ℕ)). AreByParameter c.loop-place.named.items all) whole c.loop-place.invariant.named;
      within = subst (λ (count : ℕ). All (IsBelow count) c.args.all.items) (sym c.loop-place.invariant.count) c.requires;
    }
