use Rattle.std.proofs.Common.{ℕ, List, Vec, Global, ◌++◌, ap, sym, ◌∙◌, arith, length}
use Rattle.std.proofs.lemmas.List.Sorted.{IsNonDecreasingBy-from_sort}
use Rattle.p10_macros.proofs.PlacesThat.{row_names}
use Rattle.p10_macros.proofs.Chosen.{times, among_none, among_more, among_same, chosen_all}
use Rattle.p10_macros.specs.private.Traces.{lists_of}
use Rattle.p10_macros.proofs.places.Places.chosen.Goals as goal
use Rattle.p10_macros.proofs.places.Places.chosen.Goals.{then-puts_words+in_ok-extend_from_slice-2, else-puts_words}

pub loop-parameter-init : goal.loop-parameter-init
loop-parameter-init c =
    among_none c.extend_from_slice.new.self.items (lists_of c.args.values.now) c.args.self.now.all.items
    (c.in_ok-extend_from_slice.ensures.items ∙ ap (λ (l : List ℕ). l ++ c.as_slice.result.now) c.new-places.ensures.items ∙ c.as_slice.ensures.value ∙ c.args.self.now.apart)

pub loop-parameter-preserved : goal.loop-parameter-preserved
loop-parameter-preserved c =
    elim c.if-puts_words.branch [
      | then-puts_words+in_ok-extend_from_slice-2 w ↦
          among_more c.loop-parameter.places.items c.if-puts_words.places.items w.as_slice-then-puts_words.result.now (lists_of c.args.values.now) c.args.self.now.all.items c.loop-parameter.parameter
          (sym c.puts_words.ensures ∙ w.if-puts_words.true)
          (row_names c.args.self.now.named.items _ c.args.self.now.all.items c.loop-parameter.parameter c.named-item.result _ c.args.self.now.by_parameter c.deref-named-items.ensures.value c.loop-parameter-test.true c.named-item.is w.as_slice-then-puts_words.ensures.value)
          (ap (λ (places : Vec ℕ Global). places.items) w.places-is ∙ w.in_ok-extend_from_slice-2.ensures.items)
          c.loop-parameter.invariant
      | else-puts_words w ↦
          among_same c.if-puts_words.places.items (lists_of c.args.values.now) c.args.self.now.all.items c.loop-parameter.parameter (sym c.puts_words.ensures ∙ w.if-puts_words.false)
          (λ place. ap (λ (places : Vec ℕ Global). times place places.items) w.places-is ∙ c.loop-parameter.invariant place)
    ]

pub returns : goal.returns
returns c =
    chosen_all c.loop-parameter.places.items c.sort.new.self.items (lists_of c.args.values.now) c.args.self.now.all.items (length c.args.self.now.named.items) c.loop-parameter.parameter
    (omega (arith, c.loop-parameter-test.false, c.deref-named-items.ensures.len)) c.args.self.now.within c.loop-parameter.invariant c.in_ok-sort.ensures.permutation
    (IsNonDecreasingBy-from_sort (λ (x : ℕ). x) c.sort.new.self.items c.in_ok-sort.ensures.sorted)
