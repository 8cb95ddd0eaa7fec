-- The arguments of a use end where the words after its `(` leave parentheses.
use Rattle.std.proofs.Common.{◌≡◌, ℕ, suc, ◌+◌, ◌<◌, ◌≤◌, ◌==◌, List, [], ◌∷◌, length, Bool, true, false, ◌&&◌, ◌||◌, cond, Option, Some, None, refl, sym, subst, ap, ◌∙◌, arith}
use Rattle.std.proofs.lemmas.Bool.Decides.{nat_tests}
use Rattle.p10_base.specs.Words.{PlainWord}
use Rattle.p10_macros.specs.declared.origin.Origins.{Origins}
use Rattle.p10_macros.specs.declared.pending.Pending.{Pending}
use Rattle.p10_macros.specs.declared.pending.Open.{Open}
use Rattle.p10_macros.specs.Uses.{Sourced, Arguments, arguments_in, word_before, argument_before, closes, separates, depth_after}
use Rattle.p10_macros.specs.private.Running.{OpenUse}
use Rattle.p10_macros.specs.private.Links.{word_of, argument_end, call_end, commas, IsLinked}
use Rattle.p10_macros.specs.private.Standing.{IsOpen, Stands, StandsBy, Role, NextWord, EndsArgument, EndsCall, role_of}
use Rattle.p10_macros.specs.private.Traces.{IsTraced}
use Rattle.p10_macros.proofs.Links.{separates_only, separates_no_end, as_deep, call_at_most, argument_at_most, linked_head, linked_tail}
use Rattle.p10_macros.proofs.Standings.{stop_within, stands_word, at_stop, stands_empty}

-- the use with these arguments waiting, and these words after it
abbrev pub with_arguments : OpenUse → List (List Sourced) → List Sourced → OpenUse
with_arguments use' others rest = record use' { waiting = others; rest = rest }

-- an open use, whose first argument ends at a place, and the pending words stand for the arguments that were found
abbrev pub StandsCalled : Origins → ℕ → List Open → List OpenUse → List Pending → ℕ → Arguments → Type 0
StandsCalled origins stop those uses items place found =
    (open' : Open) (use' : OpenUse) → open'.stop ≡ stop → IsOpen origins open' use' → Stands origins items place (open' ∷ those) found.first (with_arguments use' found.others found.rest ∷ uses)

-- what the places say is what was found: the `)` stands in the innermost argument, and `count` commas before it
abbrev pub IsCalled : Origins → ℕ → List Open → List OpenUse → List Pending → ℕ → ℕ → ℕ → Option Arguments → Type 0
IsCalled origins stop those uses items argument call count None = call ≤ stop
IsCalled origins stop those uses items argument call count (Some found) = (stop < call) × (count + 1 ≡ length (found.first ∷ found.others)) × StandsCalled origins stop those uses items argument found

open_again : (origins : Origins) (open' : Open) (use' : OpenUse) (others : List (List Sourced)) (rest : List Sourced) → IsOpen origins open' use' → IsOpen origins open' (with_arguments use' others rest)
open_again origins open' use' others rest is = record { plain = is.plain; name = is.name; place = is.place; before = is.before; values = is.values }

module _ (origins : Origins) (stop : ℕ) (those : List Open) (uses : List OpenUse) (pending : Pending) (items : List Pending) (less : stop ≤ length items) where
  abbrev here : ℕ
  here = length items + 1

  ends_call : (words : List Sourced) → Stands origins items stop those words uses → closes (word_of pending) ≡ true →
      IsCalled origins stop those uses (pending ∷ items) here here 0 (Some (record { first = []; others = []; rest = words }))
  ends_call words stands closed = (
    omega (arith, less),
    omega arith,
    λ open' use' same is.
        let role : role_of items here (word_of pending) ≡ EndsCall =
        ap (λ (b : Bool). cond b (cond (closes (word_of pending)) EndsCall EndsArgument) NextWord) (at_stop here (length items) refl) ∙ ap (λ (b : Bool). cond b EndsCall EndsArgument) closed in
        let behind : Stands origins items open'.stop those words uses = subst (λ (n : ℕ). Stands origins items n those words uses) (sym same) stands in
        subst (λ (r : Role). StandsBy origins (Stands origins items) pending r here (open' ∷ those) [] (with_arguments use' [] words ∷ uses)) (sym role) (refl, open_again origins open' use' [] words is, behind),
  )

  -- a comma before the other arguments
  ends_argument : (call count : ℕ) (found : Option Arguments) → IsLinked (pending ∷ items) → separates (word_of pending) ≡ true → IsCalled origins stop those uses items (argument_end 0 items) call count found →
      IsCalled origins stop those uses (pending ∷ items) here call (suc count) (argument_before found)
  ends_argument call count None linked split is = is
  ends_argument call count (Some found) linked split (inside, counted, stands) = (
    inside,
    omega (arith, counted),
    λ open' use' same is.
        let role : role_of items here (word_of pending) ≡ EndsArgument =
        ap (λ (b : Bool). cond b (cond (closes (word_of pending)) EndsCall EndsArgument) NextWord) (at_stop here (length items) refl)
        ∙ ap (λ (b : Bool). cond b EndsCall EndsArgument) (separates_no_end (word_of pending) split) in
        let next : Stands origins items pending.exits.argument (open' ∷ those) found.first (with_arguments use' found.others found.rest ∷ uses) =
        subst (λ (n : ℕ). Stands origins items n (open' ∷ those) found.first (with_arguments use' found.others found.rest ∷ uses)) (sym (linked_head pending items linked).argument) (stands open' use' same is) in
        subst (λ (r : Role). StandsBy origins (Stands origins items) pending r here (open' ∷ those) [] (with_arguments use' (found.first ∷ found.others) found.rest ∷ uses)) (sym role) (found.first, found.others, refl, split, next),
  )

  -- another word before the first argument
  ends_nothing : (word : Sourced) (argument call count : ℕ) (found : Option Arguments) → argument ≤ length items → IsTraced origins pending.traced word → IsCalled origins stop those uses items argument call count found →
      IsCalled origins stop those uses (pending ∷ items) argument call count (word_before word found)
  ends_nothing word argument call count None low traced is = is
  ends_nothing word argument call count (Some found) low traced (inside, counted, stands) = (
    inside,
    counted,
    λ open' use' same is.
        stands_word origins pending word items argument (open' ∷ those) found.first (with_arguments use' found.others found.rest ∷ uses) low traced (stands open' use' same is),
  )

is_zero : (n : ℕ) → (n == 0) ≡ true → n ≡ 0
is_zero n e = grind (arith, nat_tests)

-- the end of an argument stands for no word
no_word : (origins : Origins) (items : List Pending) (pending : Pending) (stop : ℕ) (those : List Open) (uses : List OpenUse) (c : Bool) (todo : List Sourced) →
    StandsBy origins (Stands origins items) pending (cond c EndsCall EndsArgument) stop those todo uses → todo ≡ []
no_word origins items pending stop those uses c [] stands = refl
no_word origins items pending stop [] uses true (word ∷ todo) stands = absurd stands
no_word origins items pending stop (open' ∷ those) uses true (word ∷ todo) stands = absurd stands
no_word origins items pending stop [] uses false (word ∷ todo) stands = absurd stands
no_word origins items pending stop (open' ∷ those) uses false (word ∷ todo) stands = absurd stands

module _ (origins : Origins) (stop : ℕ) (those : List Open) (uses : List OpenUse) (depth : ℕ) (pending : Pending) (items : List Pending) (linked : IsLinked (pending ∷ items))
    (again : (depth : ℕ) (todo : List Sourced) → Stands origins items stop those todo uses → IsCalled origins stop those uses items (argument_end depth items) (call_end depth items) (commas depth items) (arguments_in depth todo)) where
  abbrev deeper : ℕ
  deeper = depth_after depth (word_of pending)

  -- what the places say, by what the word is
  abbrev CalledBy : Bool → Bool → Bool → List Sourced → Sourced → Type 0
  CalledBy c s z todo word =
      IsCalled origins stop those uses (pending ∷ items) (cond ((c || s) && z) (length items + 1) (argument_end deeper items)) (cond (c && z) (length items + 1) (call_end deeper items))
      (cond (c && z) 0 (cond (s && z) (suc (commas 0 items)) (commas deeper items)))
      (cond (c && z) (Some (record { first = []; others = []; rest = todo })) (cond (s && z) (argument_before (arguments_in 0 todo)) (word_before word (arguments_in deeper todo))))

  module _ (word : Sourced) (todo : List Sourced) (traced : IsTraced origins pending.traced word) (stands : Stands origins items stop those todo uses) where
    low : stop ≤ length items
    low = stop_within origins items stop those todo uses stands

    other : IsCalled origins stop those uses (pending ∷ items) (argument_end deeper items) (call_end deeper items) (commas deeper items) (word_before word (arguments_in deeper todo))
    other =
        ends_nothing origins stop those uses pending items low word (argument_end deeper items) (call_end deeper items) (commas deeper items) (arguments_in deeper todo) (argument_at_most deeper items) traced (again deeper todo stands)

    called_by : (c s z : Bool) → closes (word_of pending) ≡ c → separates (word_of pending) ≡ s → (depth == 0) ≡ z → CalledBy c s z todo word
    called_by true s true closed split flat = ends_call origins stop those uses pending items low todo stands closed
    called_by false true true closed split flat =
        let same : deeper ≡ 0 = as_deep (word_of pending) depth (separates_only (word_of pending) split) closed ∙ is_zero depth flat in
        subst (λ (n : ℕ). IsCalled origins stop those uses (pending ∷ items) (length items + 1) (call_end n items) (suc (commas 0 items)) (argument_before (arguments_in 0 todo))) (sym same)
        (ends_argument origins stop those uses pending items low (call_end 0 items) (commas 0 items) (arguments_in 0 todo) linked split (again 0 todo stands))
    called_by true true false closed split flat = other
    called_by true false false closed split flat = other
    called_by false true false closed split flat = other
    called_by false false true closed split flat = other
    called_by false false false closed split flat = other

  -- at the end of the innermost argument there is no word more
  at_end : (todo : List Sourced) → todo ≡ [] → stop ≡ length items + 1 →
      IsCalled origins stop those uses (pending ∷ items) (argument_end depth (pending ∷ items)) (call_end depth (pending ∷ items)) (commas depth (pending ∷ items)) (arguments_in depth todo)
  at_end todo none is =
      subst (λ (l : List Sourced). IsCalled origins stop those uses (pending ∷ items) (argument_end depth (pending ∷ items)) (call_end depth (pending ∷ items)) (commas depth (pending ∷ items)) (arguments_in depth l)) (sym none)
      (omega (arith, is, call_at_most depth (pending ∷ items)))

  called_role : (b c : Bool) (todo : List Sourced) → (stop == length items + 1) ≡ b → StandsBy origins (Stands origins items) pending (cond b (cond c EndsCall EndsArgument) NextWord) stop those todo uses →
      IsCalled origins stop those uses (pending ∷ items) (argument_end depth (pending ∷ items)) (call_end depth (pending ∷ items)) (commas depth (pending ∷ items)) (arguments_in depth todo)
  called_role false c [] e stands = absurd stands
  called_role false c (word ∷ todo) e (traced, stands) =
      subst (λ (w : PlainWord). IsCalled origins stop those uses (pending ∷ items) (argument_end depth (pending ∷ items)) (call_end depth (pending ∷ items)) (commas depth (pending ∷ items))
      (cond (closes w && (depth == 0)) (Some (record { first = []; others = []; rest = todo })) (cond (separates w && (depth == 0)) (argument_before (arguments_in 0 todo)) (word_before word (arguments_in (depth_after depth w) todo)))))
      traced.word (called_by word todo traced stands (closes (word_of pending)) (separates (word_of pending)) (depth == 0) refl refl refl)
  called_role true true todo e stands = at_end todo (no_word origins items pending stop those uses true todo stands) (let is : stop ≡ length items + 1 = grind (arith, nat_tests) in is)
  called_role true false todo e stands = at_end todo (no_word origins items pending stop those uses false todo stands) (let is : stop ≡ length items + 1 = grind (arith, nat_tests) in is)

pub is_called : (origins : Origins) (stop : ℕ) (those : List Open) (uses : List OpenUse) (depth : ℕ) (items : List Pending) (todo : List Sourced) → IsLinked items → Stands origins items stop those todo uses →
    IsCalled origins stop those uses items (argument_end depth items) (call_end depth items) (commas depth items) (arguments_in depth todo)
is_called origins stop those uses depth [] todo linked stands =
    let empty = stands_empty origins stop those todo uses stands in
    subst (λ (l : List Sourced). IsCalled origins stop those uses [] 0 0 0 (arguments_in depth l)) (sym empty.2) (omega arith)
is_called origins stop those uses depth (pending ∷ items) todo linked stands =
    called_role origins stop those uses depth pending items linked (λ d t s. is_called origins stop those uses d items t (linked_tail pending items linked) s) (stop == length items + 1) (closes (word_of pending)) todo refl stands
