-- A use begins.
use Rattle.std.proofs.Common.{◌≡◌, ℕ, ◌+◌, ◌-◌, ◌<◌, ◌≤◌, List, [], ◌∷◌, length, take, Bool, true, false, Option, Some, None, Bor, inl, inr, refl, sym, subst, ap, ◌∙◌, arith}
use Rattle.std.specs.Prelude.{reverse}
use Rattle.std.proofs.lemmas.List.{length-reverse}
use Rattle.p10_base.specs.Words.{Text, plain_word}
use Rattle.p10_direct.specs.Directives.{PlainMacro}
use Rattle.p10_macros.specs.declared.origin.Origins.{Origins}
use Rattle.p10_macros.specs.declared.pending.Traced.{Traced}
use Rattle.p10_macros.specs.declared.pending.Pending.{Pending}
use Rattle.p10_macros.specs.declared.pending.Open.{Open}
use Rattle.p10_macros.specs.declared.pending.Run.{Run}
use Rattle.p10_macros.specs.declared.pending.Exits.{Exits}
use Rattle.p10_macros.specs.declared.ahead.Ahead.{Ahead}
use Rattle.p10_macros.specs.declared.replaced.ReplaceFault.{ReplaceFault}
use Rattle.p10_macros.specs.declared.known.Known.{Known}
use Rattle.p10_macros.specs.private.KnownMacros.{plain_known}
use Rattle.p10_macros.specs.Table.{Table}
use Rattle.p10_macros.specs.Uses.{Sourced, Wrong, Calls, use_of, use_as, called, Arguments, arguments_in}
use Rattle.p10_macros.specs.private.Looking.{next_opens, refusal_at, macro_used}
use Rattle.p10_macros.specs.private.Running.{OpenUse}
use Rattle.p10_macros.specs.private.Origins.{has_macro}
use Rattle.p10_macros.specs.private.Traces.{IsTraced}
use Rattle.p10_macros.specs.private.Standing.{Plays, Stands, StandsBy, Role, NextWord, EndsArgument, EndsCall, role_of, place_among, State, KeepsFor, LeadsTo, FaultComes, AtUse, AtCall, IsReplacedIn, IsTooLong, IsOpenedIn}
use Rattle.p10_macros.specs.private.Links.{word_of, argument_end, call_end, commas, HasExits}
use Rattle.p10_macros.proofs.Standings.{HasNext, has_next, next_opens_is, next_closes, closed_at_once, closed_later}
use Rattle.p10_macros.proofs.Lookups.{IsUsed, used_where_found, as_recursive, as_object, as_function, called_none, called_open, called_wrong, called_with}
use Rattle.p10_macros.proofs.Links.{below_last}
use Rattle.p10_macros.proofs.Calling.{IsCalled, StandsCalled, is_called}
use Rattle.p10_macros.proofs.Moves.{moved_refused, moved_replaced, moved_too_long, moved_opened}

-- ## The next word is taken

-- a pending word stands for the next one
record HasTop (origins : Origins) (all : List Pending) (stop : ℕ) (those : List Open) (word : Sourced) (words : List Sourced) (uses : List OpenUse) : Type 0 where
  top : Pending
  items : List Pending
  is : all ≡ top ∷ items
  traced : IsTraced origins top.traced word
  stands : Stands origins items stop those words uses

top_by : (origins : Origins) (top : Pending) (items : List Pending) (role : Role) (stop : ℕ) (those : List Open) (word : Sourced) (words : List Sourced) (uses : List OpenUse) →
    StandsBy origins (Stands origins items) top role stop those (word ∷ words) uses → HasTop origins (top ∷ items) stop those word words uses
top_by origins top items NextWord stop those word words uses (traced, stands) = record { top = top; items = items; is = refl; traced = traced; stands = stands }
top_by origins top items EndsArgument stop [] word words uses stands = absurd stands
top_by origins top items EndsArgument stop (open' ∷ those) word words uses stands = absurd stands
top_by origins top items EndsCall stop [] word words uses stands = absurd stands
top_by origins top items EndsCall stop (open' ∷ those) word words uses stands = absurd stands

has_top : (origins : Origins) (all : List Pending) (stop : ℕ) (those : List Open) (word : Sourced) (words : List Sourced) (uses : List OpenUse) → Stands origins all stop those (word ∷ words) uses → HasTop origins all stop those word words uses
has_top origins [] stop [] word words uses stands = absurd stands
has_top origins [] stop (open' ∷ those) word words uses stands = absurd stands
has_top origins (top ∷ items) stop those word words uses stands = top_by origins top items (role_of items stop (word_of top)) stop those word words uses stands

-- the words after the next one, where it was taken
popped_stands : (origins : Origins) (old new : Ahead) (stop : ℕ) (those : List Open) (word : Sourced) (words : List Sourced) (uses : List OpenUse) → new.words.items ≡ take (length old.words.items - 1) old.words.items →
    Stands origins (reverse old.words.items) stop those (word ∷ words) uses → Stands origins (reverse new.words.items) stop those words uses
popped_stands origins old new stop those word words uses is stands =
    let has : HasTop origins (reverse old.words.items) stop those word words uses = has_top origins (reverse old.words.items) stop those word words uses stands in
    subst (λ (l : List Pending). Stands origins l stop those words uses) (sym (below_last old.words.items new.words.items has.top has.items is has.is)) has.stands

-- ## A use

module _ (table : Table) (old : Run) (plain : PlainMacro) (name : Traced) (state : State) (at : AtUse table old plain name state) where
  from_is : (b : Bool) → has_macro old.origins name.from plain.name ≡ b → at.word.from plain.name ≡ b
  from_is b e = sym (at.traced.from plain.name) ∙ e

  pub use_recursive : has_macro old.origins name.from plain.name ≡ true → FaultComes table state (refusal_at 6 (place_among (reverse old.open.items) name))
  use_recursive from =
      moved_refused table old name state at.word at.words (reverse old.pending.words.items) at.words 6 at.todo at.traced at.stands
      (at.is ∙ as_recursive plain plain.parameters at.word at.words at.calls (from_is true from))

  use_of_object : plain.parameters ≡ None → has_macro old.origins name.from plain.name ≡ false → use_of table at.word at.words ≡ Calls plain [] at.words
  use_of_object none from = at.is ∙ as_object plain plain.parameters at.word at.words none (from_is false from)

  pub use_object : plain.parameters ≡ None → has_macro old.origins name.from plain.name ≡ false → (new : Run) → IsReplacedIn old new plain name [] → LeadsTo table state new
  use_object none from new replaced =
      moved_replaced table old plain name state at.word at.words at.words at.todo at.traced at.keeps (use_of_object none from) new replaced at.stands

  pub use_object_too_long : plain.parameters ≡ None → has_macro old.origins name.from plain.name ≡ false → (f : ReplaceFault) → IsTooLong old plain name [] f → FaultComes table state f
  use_object_too_long none from f short = moved_too_long table old plain name state at.word at.words at.words at.todo at.traced at.keeps (use_of_object none from) f short

  module _ (parameters : List Text) (some : plain.parameters ≡ Some parameters) (from : has_macro old.origins name.from plain.name ≡ false) (popped : Ahead)
      (popped_is : popped.words.items ≡ take (length old.pending.words.items - 1) old.pending.words.items) where
    at_call_with : (words : List Sourced) → at.words ≡ words → next_opens words ≡ true → AtCall table (record old { pending = popped }) plain (length parameters) name state
    at_call_with [] e open' = cc
    at_call_with (paren ∷ words) e open' = record {
      word = at.word;
      paren = paren;
      words = words;
      todo = at.todo ∙ ap (λ (l : List Sourced). at.word ∷ l) e;
      traced = at.traced;
      stands = popped_stands old.origins old.pending popped old.stop (reverse old.open.items) paren words state.uses popped_is
          (subst (λ (l : List Sourced). Stands old.origins (reverse old.pending.words.items) old.stop (reverse old.open.items) l state.uses) e at.stands);
      keeps = at.keeps;
      is = subst (λ (l : List Sourced). use_of table at.word l ≡ use_as plain plain.parameters at.word l) e at.is
          ∙ ap (λ (p : Option (List Text)). use_as plain p at.word (paren ∷ words)) some ∙ as_function plain parameters at.word paren words open' (from_is false from);
    }

    pub at_call : AtCall table (record old { pending = popped }) plain (length parameters) name state
    at_call = elim at.calls [ inl none ↦ (let e : None ≡ Some parameters = sym none ∙ some in cc) | inr open' ↦ at_call_with at.words refl open' ]

-- ## A use of a function-like macro

module _ (table : Table) (old : Run) (plain : PlainMacro) (parameters : ℕ) (name : Traced) (state : State) (at : AtCall table old plain parameters name state) (exits : Exits)
    (has : HasExits exits (reverse old.pending.words.items)) where
  abbrev items : List Pending
  items = reverse old.pending.words.items

  called_here : IsCalled old.origins old.stop (reverse old.open.items) state.uses items (argument_end 0 items) (call_end 0 items) (commas 0 items) (arguments_in 0 at.words)
  called_here = is_called old.origins old.stop (reverse old.open.items) state.uses 0 items at.words old.pending.linked at.stands

  wrong_at : (number : ℕ) → called plain parameters (arguments_in 0 at.words) ≡ Wrong number → FaultComes table state (refusal_at number (place_among (reverse old.open.items) name))
  wrong_at number is = moved_refused table old name state at.word (at.paren ∷ at.words) items at.words number at.todo at.traced at.stands (at.is ∙ is)

  nothing_found : (arguments : Option Arguments) → call_end 0 items ≤ old.stop →
      IsCalled old.origins old.stop (reverse old.open.items) state.uses items (argument_end 0 items) (call_end 0 items) (commas 0 items) arguments → arguments ≡ None
  nothing_found None less is = refl
  nothing_found (Some found) less is = absurd (omega (arith, less, is.0))

  -- the use has no end
  pub call_open : exits.call ≤ old.stop → FaultComes table state (refusal_at 8 (place_among (reverse old.open.items) name))
  call_open less = wrong_at 8 (called_open plain parameters (arguments_in 0 at.words) (nothing_found (arguments_in 0 at.words) (omega (arith, less, has.call)) called_here))

  module _ (inside : old.stop < exits.call) where
    inside_here : old.stop < call_end 0 items
    inside_here = omega (arith, inside, has.call)

    -- what was found, where the first argument ends at a place
    record HasFound : Type 0 where
      found : Arguments
      is : arguments_in 0 at.words ≡ Some found
      counted : commas 0 items + 1 ≡ length (found.first ∷ found.others)
      stands : StandsCalled old.origins old.stop (reverse old.open.items) state.uses items exits.argument found

    found_by : (arguments : Option Arguments) → arguments_in 0 at.words ≡ arguments →
        IsCalled old.origins old.stop (reverse old.open.items) state.uses items (argument_end 0 items) (call_end 0 items) (commas 0 items) arguments → HasFound
    found_by None e less = absurd (omega (arith, less, inside_here))
    found_by (Some found) e (more, counted, stands) = record {
      found = found;
      is = e;
      counted = counted;
      stands = subst (λ (n : ℕ). StandsCalled old.origins old.stop (reverse old.open.items) state.uses items n found) (sym has.argument) stands;
    }

    has_found : HasFound
    has_found = found_by (arguments_in 0 at.words) refl called_here

    module _ (none : parameters ≡ 0) (at_once : exits.call ≡ length old.pending.words.items) (popped : Ahead) (popped_is : popped.words.items ≡ take (length old.pending.words.items - 1) old.pending.words.items) where
      closed_words : next_closes at.words ≡ true
      closed_words = closed_at_once old.origins items old.stop (reverse old.open.items) at.words state.uses at.stands inside_here (omega (arith, at_once, has.call, length-reverse old.pending.words.items))

      none_replaced : (words : List Sourced) → at.words ≡ words → next_closes words ≡ true → (new : Run) → IsReplacedIn (record old { pending = popped }) new plain name [] → LeadsTo table state new
      none_replaced [] e close new replaced = cc
      none_replaced (close' ∷ rest) e close new replaced =
          moved_replaced table (record old { pending = popped }) plain name state at.word (at.paren ∷ at.words) rest at.todo at.traced at.keeps
          (at.is ∙ ap (λ (l : List Sourced). called plain parameters (arguments_in 0 l)) e ∙ called_none plain parameters close' rest none close) new replaced
          (popped_stands old.origins old.pending popped old.stop (reverse old.open.items) close' rest state.uses popped_is
          (subst (λ (l : List Sourced). Stands old.origins items old.stop (reverse old.open.items) l state.uses) e at.stands))

      none_too_long : (words : List Sourced) → at.words ≡ words → next_closes words ≡ true → (f : ReplaceFault) → IsTooLong (record old { pending = popped }) plain name [] f → FaultComes table state f
      none_too_long [] e close f short = cc
      none_too_long (close' ∷ rest) e close f short =
          moved_too_long table (record old { pending = popped }) plain name state at.word (at.paren ∷ at.words) rest at.todo at.traced at.keeps
          (at.is ∙ ap (λ (l : List Sourced). called plain parameters (arguments_in 0 l)) e ∙ called_none plain parameters close' rest none close) f short

      pub call_none : (new : Run) → IsReplacedIn (record old { pending = popped }) new plain name [] → LeadsTo table state new
      call_none = none_replaced at.words refl closed_words

      pub call_none_too_long : (f : ReplaceFault) → IsTooLong (record old { pending = popped }) plain name [] f → FaultComes table state f
      call_none_too_long = none_too_long at.words refl closed_words

    -- the number of arguments is another one
    pub call_wrong : (parameters ≡ commas 0 items + 1 → ⊥) → (parameters ≡ 0 → exits.call ≡ length old.pending.words.items → ⊥) → FaultComes table state (refusal_at 7 (place_among (reverse old.open.items) name))
    call_wrong other more =
        wrong_at 7 (called_wrong plain parameters at.words has_found.found has_found.is (λ same. other (same ∙ sym has_found.counted))
        (λ zero'. closed_later old.origins items old.stop (reverse old.open.items) at.words state.uses at.stands inside_here
        (λ same. more zero' (omega (arith, same, has.call, length-reverse old.pending.words.items)))))

-- a use is opened
pub call_right : (table : Table) (old new : Run) (made : Bor Known) (parameters : ℕ) (name : Traced) (state : State) → (at : AtCall table old (plain_known made.now) parameters name state) → (exits : Exits) →
    (has : HasExits exits (reverse old.pending.words.items)) → (inside : old.stop < exits.call) → parameters ≡ commas 0 (reverse old.pending.words.items) + 1 → IsOpenedIn old new made name exits.argument → LeadsTo table state new
call_right table old new made parameters name state at exits has inside same opened =
    let found : HasFound table old (plain_known made.now) parameters name state at exits has inside = has_found table old (plain_known made.now) parameters name state at exits has inside in
    moved_opened table old new made name state at.word (at.paren ∷ at.words) found.found at.todo at.traced at.keeps
    (at.is ∙ called_with (plain_known made.now) parameters at.words found.found found.is (same ∙ found.counted)) exits.argument at.words opened at.stands found.stands

-- ## The name of a macro

at_use_with : (table : Table) (run : Run) (plain : PlainMacro) (name : Traced) (given todo done : List Sourced) (uses : List OpenUse) (left : ℕ) → macro_used table (reverse run.pending.words.items) (plain_word name.word) ≡ Some plain →
    HasNext run.origins name (reverse run.pending.words.items) run.stop (reverse run.open.items) todo uses → KeepsFor run (record { given = given; todo = todo; done = done; uses = uses; left = left }) →
    AtUse table run plain name (record { given = given; todo = todo; done = done; uses = uses; left = left })
at_use_with table run plain name given [] done uses left used next keeps = absurd next
at_use_with table run plain name given (word ∷ words) done uses left used (traced, stands) keeps =
    let found : IsUsed table plain word words =
    used_where_found table (reverse run.pending.words.items) (plain_word name.word) plain word words (next_opens_is run.origins (reverse run.pending.words.items) run.stop (reverse run.open.items) words uses stands) traced.word used in
    record { word = word; words = words; todo = refl; traced = traced; stands = stands; keeps = keeps; is = found.is; calls = found.calls }

-- a word that names a macro is a use of it
pub at_use : (table : Table) (run : Run) (plain : PlainMacro) (next : Pending) (state : State) → macro_used table (reverse run.pending.words.items) (plain_word next.traced.word) ≡ Some plain → Plays run next NextWord state →
    AtUse table run plain next.traced state
at_use table run plain next state used plays =
    at_use_with table run plain next.traced state.given state.todo state.done state.uses state.left used
    (has_next run.origins next (reverse run.pending.words.items) run.stop (reverse run.open.items) state.todo state.uses plays.stands) plays.keeps
