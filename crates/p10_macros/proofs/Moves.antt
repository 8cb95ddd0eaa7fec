-- The steps of the code lead from one state to another.
use Rattle.std.proofs.Common.{◌≡◌, ℕ, ◌+◌, ◌<◌, ◌≤◌, List, [], ◌∷◌, ◌++◌, length, map, Bool, cond, None, Bor, Vec, Global, refl, sym, subst, ap, ◌∙◌, arith}
use Rattle.std.specs.Prelude.{reverse}
use Rattle.std.proofs.lemmas.List.{reverse-append, map-append, length-reverse}
use Rattle.p10_base.specs.declared.span.Span.{Span}
use Rattle.p10_base.specs.Words.{PlainWord, plain_word}
use Rattle.p10_direct.specs.Directives.{PlainMacro}
use Rattle.p10_macros.specs.declared.origin.Origins.{Origins}
use Rattle.p10_macros.specs.declared.pending.Traced.{Traced}
use Rattle.p10_macros.specs.declared.pending.Pending.{Pending}
use Rattle.p10_macros.specs.declared.pending.Open.{Open}
use Rattle.p10_macros.specs.declared.pending.Run.{Run}
use Rattle.p10_macros.specs.declared.ahead.Ahead.{Ahead}
use Rattle.p10_macros.specs.declared.replaced.ReplaceFault.{ReplaceFault}
use Rattle.p10_macros.specs.declared.replaced.ReplaceFault.TheVariants as fault
use Rattle.p10_macros.specs.declared.known.Known.{Known}
use Rattle.p10_macros.specs.private.KnownMacros.{plain_known}
use Rattle.p10_macros.specs.Table.{Table}
use Rattle.p10_macros.specs.Uses.{Sourced, closes, Stays, Wrong, Calls, use_of, replacement, Arguments, sourced_words}
use Rattle.p10_macros.specs.Endings.{Ending, Refused, TooMany, after_word}
use Rattle.p10_macros.specs.private.Running.{OpenUse, outer_of, Comes}
use Rattle.p10_macros.specs.private.Origins.{Extends}
use Rattle.p10_macros.specs.private.Traces.{IsTraced, AreTraced, AreValues}
use Rattle.p10_macros.specs.private.Standing.{IsOpen, Stands, StandsBy, Role, NextWord, EndsArgument, EndsCall, role_of, place_among, State, Represents, Plays, NoneOutside, KeepsFor, given_with, done_with, LeadsTo, AdvancesBy, FaultComes, FailsBy, IsReplacedIn, IsTooLong, IsOpenedIn}
use Rattle.p10_macros.specs.private.Putting.{Puts}
use Rattle.p10_macros.specs.private.Looking.{macro_used, refusal_at}
use Rattle.p10_macros.specs.private.Links.{word_of}
use Rattle.p10_macros.proofs.Growing.{all_traced_more}
use Rattle.p10_macros.proofs.Steps.{behind_one_more, step_given, step_stays, step_refused, step_replaced, step_too_long, step_opened, step_next, step_closed, step_closed_too_long, opened}
use Rattle.p10_macros.proofs.Standings.{stop_within, at_stop, stands_more, stands_put, has_next, HasNext, next_opens_is, place_is, SamePlace, same_place}
use Rattle.p10_macros.proofs.Lookups.{stays_where}
use Rattle.p10_macros.proofs.Calling.{StandsCalled}

all_traced_last : (origins : Origins) (those : List Traced) (these : List Sourced) (traced : Traced) (word : Sourced) → AreTraced origins those these → IsTraced origins traced word →
    AreTraced origins (those ++ traced ∷ []) (these ++ word ∷ [])
all_traced_last origins [] [] traced word are is = (is, tt)
all_traced_last origins (first ∷ those) (second ∷ these) traced word (one, are) is = (one, all_traced_last origins those these traced word are is)
all_traced_last origins [] (second ∷ these) traced word are is = absurd are
all_traced_last origins (first ∷ those) [] traced word are is = absurd are

-- lists in place of equal ones
stands_along : (o o' : Origins) (i i' : List Pending) (s s' : ℕ) (t t' : List Open) (todo : List Sourced) (uses : List OpenUse) → o' ≡ o → i' ≡ i → s' ≡ s → t' ≡ t → Stands o i s t todo uses → Stands o' i' s' t' todo uses
stands_along o o' i i' s s' t t' todo uses eo ei es et stands =
    subst (λ (a : Origins). Stands a i' s' t' todo uses) (sym eo)
    (subst (λ (a : List Pending). Stands o a s' t' todo uses) (sym ei) (subst (λ (a : ℕ). Stands o i a t' todo uses) (sym es) (subst (λ (a : List Open). Stands o i s a todo uses) (sym et) stands)))

traced_along : (o o' : Origins) (d d' : List Traced) (these : List Sourced) → o' ≡ o → d' ≡ d → AreTraced o d these → AreTraced o' d' these
traced_along o o' d d' these eo ed are = subst (λ (a : Origins). AreTraced a d' these) (sym eo) (subst (λ (a : List Traced). AreTraced o a these) (sym ed) are)

-- ## A word stays

module _ (table : Table) (old new : Run) (name : Traced) (words_are : new.words.items ≡ given_with (reverse old.open.items) old.words.items name.word)
    (done_is : new.done.items ≡ done_with (reverse old.open.items) old.done.items name) (pending_is : new.pending ≡ old.pending) (open_is : new.open ≡ old.open)
    (origins_is : new.origins ≡ old.origins) (left_is : new.left ≡ old.left) (stop_is : new.stop ≡ old.stop) (none : macro_used table (reverse old.pending.words.items) (plain_word name.word) ≡ None) where
  -- the words after it stand for what they stood for
  stands_still : (words : List Sourced) (uses : List OpenUse) → Stands old.origins (reverse old.pending.words.items) old.stop (reverse old.open.items) words uses →
      Stands new.origins (reverse new.pending.words.items) new.stop (reverse new.open.items) words uses
  stands_still words uses = stands_along _ _ _ _ _ _ _ _ words uses origins_is (ap (λ (a : Ahead). reverse a.words.items) pending_is) stop_is (ap (λ (v : Vec Open Global). reverse v.items) open_is)

  module _ (word : Sourced) (words given done : List Sourced) (left : ℕ) (traced : IsTraced old.origins name word) (stays : use_of table word words ≡ Stays) where
    abbrev before : List OpenUse → State
    before uses = record { given = given; todo = word ∷ words; done = done; uses = uses; left = left }

    given_by : (those : List Open) (uses : List OpenUse) → SamePlace those uses → reverse old.open.items ≡ those → Stands old.origins (reverse old.pending.words.items) old.stop (reverse old.open.items) words uses →
        KeepsFor old (before uses) → LeadsTo table (before uses) new
    given_by [] [] same opens stands keeps = record {
      behind = record { given = given ++ word ∷ []; todo = words; done = done; uses = []; left = left };
      represents = record {
        stands = stands_still words [] stands;
        keeps = record {
          given = ap (map plain_word) (words_are ∙ ap (λ (l : List Open). given_with l old.words.items name.word) opens) ∙ map-append plain_word old.words.items (name.word ∷ [])
              ∙ ap (λ (l : List PlainWord). l ++ plain_word name.word ∷ []) keeps.given ∙ ap (λ (w : PlainWord). sourced_words given ++ w ∷ []) traced.word ∙ sym (map-append (λ (s : Sourced). s.word) given (word ∷ []));
          done = traced_along _ _ _ _ _ origins_is (done_is ∙ ap (λ (l : List Open). done_with l old.done.items name) opens) keeps.done;
          outside = keeps.outside;
          left = left_is ∙ keeps.left;
        };
      };
      comes = λ ending (level, comes, is). (
        after_word word level,
        subst (λ (d : List Sourced). Comes table [] (word ∷ words) d left (after_word word level)) (sym keeps.outside)
            (step_given table word words left stays level (subst (λ (d : List Sourced). Comes table [] words d left level) keeps.outside comes)),
        is ∙ behind_one_more given word level,
      );
    }
    given_by (open' ∷ those) (use' ∷ uses) same opens stands keeps = record {
      behind = record { given = given; todo = words; done = done ++ word ∷ []; uses = use' ∷ uses; left = left };
      represents = record {
        stands = stands_still words (use' ∷ uses) stands;
        keeps = record {
          given = ap (map plain_word) (words_are ∙ ap (λ (l : List Open). given_with l old.words.items name.word) opens) ∙ keeps.given;
          done = traced_along _ _ _ _ _ origins_is (done_is ∙ ap (λ (l : List Open). done_with l old.done.items name) opens)
              (all_traced_last old.origins old.done.items done name word keeps.done traced);
          outside = keeps.outside;
          left = left_is ∙ keeps.left;
        };
      };
      comes = λ ending (level, comes, is). (level, step_stays table (use' ∷ uses) word words done left stays level comes, is);
    }
    given_by [] (use' ∷ uses) same opens stands keeps = absurd same
    given_by (open' ∷ those) [] same opens stands keeps = absurd same

  stays_with : (given todo done : List Sourced) (uses : List OpenUse) (left : ℕ) → HasNext old.origins name (reverse old.pending.words.items) old.stop (reverse old.open.items) todo uses →
      KeepsFor old (record { given = given; todo = todo; done = done; uses = uses; left = left }) → LeadsTo table (record { given = given; todo = todo; done = done; uses = uses; left = left }) new
  stays_with given [] done uses left next keeps = absurd next
  stays_with given (word ∷ words) done uses left (traced, stands) keeps =
      given_by word words given done left traced
      (stays_where table (reverse old.pending.words.items) (plain_word name.word) word words (next_opens_is old.origins (reverse old.pending.words.items) old.stop (reverse old.open.items) words uses stands) traced.word none)
      (reverse old.open.items) uses (same_place old.origins (reverse old.pending.words.items) old.stop (reverse old.open.items) words uses stands) refl stands keeps

  pub moved_stays : (next : Pending) → next.traced ≡ name → AdvancesBy table old next NextWord new
  moved_stays next is = λ state plays. stays_with state.given state.todo state.done state.uses state.left
      (subst (λ (t : Traced). HasNext old.origins t (reverse old.pending.words.items) old.stop (reverse old.open.items) state.todo state.uses) is
      (has_next old.origins next (reverse old.pending.words.items) old.stop (reverse old.open.items) state.todo state.uses plays.stands)) plays.keeps

-- ## A use is refused

pub moved_refused : (table : Table) (run : Run) (name : Traced) (state : State) (word : Sourced) (words : List Sourced) (items : List Pending) (todo : List Sourced) (number : ℕ) → state.todo ≡ word ∷ words →
    IsTraced run.origins name word → Stands run.origins items run.stop (reverse run.open.items) todo state.uses → use_of table word words ≡ Wrong number →
    FaultComes table state (refusal_at number (place_among (reverse run.open.items) name))
moved_refused table run name state word words items todo number todo_is traced stands is = (
  refl,
  (
    Refused number (place_among (reverse run.open.items) name),
    subst (λ (l : List Sourced). Comes table state.uses l state.done state.left (Refused number (place_among (reverse run.open.items) name))) (sym todo_is)
        (subst (λ (at : Span). Comes table state.uses (word ∷ words) state.done state.left (Refused number at)) (sym (place_is run.origins items run.stop (reverse run.open.items) todo state.uses name word stands traced))
        (step_refused table state.uses word words state.done state.left number is)),
    refl,
  ),
)

-- ## A use without arguments is replaced

module _ (table : Table) (old : Run) (plain : PlainMacro) (name : Traced) (state : State) (word : Sourced) (words rest : List Sourced) (todo_is : state.todo ≡ word ∷ words)
    (traced : IsTraced old.origins name word) (keeps : KeepsFor old state) (is : use_of table word words ≡ Calls plain [] rest) where
  pub moved_replaced : (new : Run) → IsReplacedIn old new plain name [] → Stands old.origins (reverse old.pending.words.items) old.stop (reverse old.open.items) rest state.uses → LeadsTo table state new
  moved_replaced new replaced stands =
      let made = replacement plain word [] in
      let puts : Puts new.origins old.pending.words.items new.pending.words.items made old.left new.left = replaced.puts word [] traced tt in
      record {
        behind = record { given = state.given; todo = made ++ rest; done = state.done; uses = state.uses; left = new.left };
        represents = record {
          stands = stands_along _ _ _ _ _ _ _ _ (made ++ rest) state.uses refl puts.pending replaced.stop (ap (λ (l : List Open). reverse l) replaced.opens)
              (stands_put new.origins puts.items made (reverse old.pending.words.items) old.stop (reverse old.open.items) rest state.uses puts.put
              (stands_more old.origins new.origins replaced.grown (reverse old.pending.words.items) old.stop (reverse old.open.items) rest state.uses stands));
          keeps = record {
            given = ap (map plain_word) replaced.words ∙ keeps.given;
            done = traced_along _ _ _ _ _ refl replaced.done (all_traced_more old.origins new.origins replaced.grown old.done.items state.done keeps.done);
            outside = keeps.outside;
            left = refl;
          };
        };
        comes = λ ending (level, comes, e). (
          level,
          subst (λ (l : List Sourced). Comes table state.uses l state.done state.left level) (sym todo_is)
              (step_replaced table state.uses word words state.done state.left new.left plain rest is (sym keeps.left ∙ puts.costs) level comes),
          e,
        );
      }

  pub moved_too_long : (f : ReplaceFault) → IsTooLong old plain name [] f → FaultComes table state f
  moved_too_long (fault.Refused refusal) short = absurd (short word [] traced tt)
  moved_too_long fault.TooMany short = (
    TooMany,
    subst (λ (l : List Sourced). Comes table state.uses l state.done state.left TooMany) (sym todo_is)
        (step_too_long table state.uses word words state.done state.left plain rest is (subst (λ (n : ℕ). n < length (replacement plain word [])) keeps.left (short word [] traced tt))),
    refl,
  )
  moved_too_long fault.Memory short = tt

-- ## A use is opened

module _ (table : Table) (old new : Run) (made : Bor Known) (name : Traced) (state : State) (word : Sourced) (words : List Sourced) (found : Arguments) (todo_is : state.todo ≡ word ∷ words)
    (traced : IsTraced old.origins name word) (keeps : KeepsFor old state) (is : use_of table word words ≡ Calls (plain_known made.now) (found.first ∷ found.others) found.rest)
    (stop : ℕ) where
  -- the use that is opened
  abbrev opened_use : OpenUse
  opened_use = opened (outer_of state.uses) (plain_known made.now) word state.done found.others found.rest

  is_opened : (items : List Pending) (todo : List Sourced) → (is' : IsOpenedIn old new made name stop) → Stands old.origins items old.stop (reverse old.open.items) todo state.uses →
      IsOpen old.origins is'.opened opened_use
  is_opened items todo is' stands = record {
    plain = ap plain_known is'.the_macro;
    name = subst (λ (t : Traced). IsTraced old.origins t word) (sym is'.the_name) traced;
    place = is'.the_place ∙ place_is old.origins items old.stop (reverse old.open.items) todo state.uses name word stands traced;
    before = traced_along _ _ _ _ _ refl is'.before keeps.done;
    values = subst (λ (l : List (Vec Traced Global)). AreValues old.origins (map (λ (v : Vec Traced Global). v.items) l) []) (sym is'.values) tt;
  }

  pub moved_opened : (todo : List Sourced) → IsOpenedIn old new made name stop → Stands old.origins (reverse old.pending.words.items) old.stop (reverse old.open.items) todo state.uses →
      StandsCalled old.origins old.stop (reverse old.open.items) state.uses (reverse old.pending.words.items) stop found → LeadsTo table state new
  moved_opened todo is' stands called =
      let opens : reverse new.open.items ≡ is'.opened ∷ reverse old.open.items = ap (λ (l : List Open). reverse l) is'.opens ∙ reverse-append old.open.items (is'.opened ∷ []) in
      record {
        behind = record { given = state.given; todo = found.first; done = []; uses = opened_use ∷ state.uses; left = state.left };
        represents = record {
          stands = stands_along _ _ _ _ _ _ _ _ found.first (opened_use ∷ state.uses) is'.origins (ap (λ (l : List Pending). reverse l) is'.pending) is'.stop opens
              (called is'.opened opened_use is'.the_stop (is_opened (reverse old.pending.words.items) todo is' stands));
          keeps = record {
            given = ap (map plain_word) is'.words ∙ keeps.given;
            done = traced_along _ _ _ _ _ is'.origins is'.done tt;
            outside = keeps.outside;
            left = is'.left ∙ keeps.left;
          };
        };
        comes = λ ending (level, comes, e). (
          level,
          subst (λ (l : List Sourced). Comes table state.uses l state.done state.left level) (sym todo_is)
              (step_opened table state.uses word words state.done (plain_known made.now) found.first found.others found.rest is state.left level comes),
          e,
        );
      }

-- ## An argument ends

-- the use with one more value
abbrev pub valued : OpenUse → List Sourced → OpenUse
valued use' value = record use' { values = use'.values ++ value ∷ [] }

-- the innermost open use got one more value
module _ (origins : Origins) (open' renewed : Open) (value : List Sourced) (below : List Open) (renew : (use' : OpenUse) → IsOpen origins open' use' → IsOpen origins renewed (valued use' value)) (same_stop : renewed.stop ≡ open'.stop) where
  module _ (items : List Pending)
      (again : (stop : ℕ) (todo : List Sourced) (use' : OpenUse) (uses : List OpenUse) → Stands origins items stop (open' ∷ below) todo (use' ∷ uses) → Stands origins items stop (renewed ∷ below) todo (valued use' value ∷ uses)) where
    valued_by : (pending : Pending) (role : Role) (stop : ℕ) (todo : List Sourced) (use' : OpenUse) (uses : List OpenUse) → StandsBy origins (Stands origins items) pending role stop (open' ∷ below) todo (use' ∷ uses) →
        StandsBy origins (Stands origins items) pending role stop (renewed ∷ below) todo (valued use' value ∷ uses)
    valued_by pending NextWord stop [] use' uses stands = absurd stands
    valued_by pending NextWord stop (word ∷ todo) use' uses (is, stands) = (is, again stop todo use' uses stands)
    valued_by pending EndsArgument stop [] use' uses (next, others, waiting, split, stands) = (next, others, waiting, split, again pending.exits.argument next (record use' { waiting = others }) uses stands)
    valued_by pending EndsArgument stop (word ∷ todo) use' uses stands = absurd stands
    valued_by pending EndsCall stop [] use' uses (waiting, is, stands) = (waiting, renew use' is, subst (λ (n : ℕ). Stands origins items n below use'.rest uses) (sym same_stop) stands)
    valued_by pending EndsCall stop (word ∷ todo) use' uses stands = absurd stands

  stands_valued : (items : List Pending) (stop : ℕ) (todo : List Sourced) (use' : OpenUse) (uses : List OpenUse) →
      Stands origins items stop (open' ∷ below) todo (use' ∷ uses) → Stands origins items stop (renewed ∷ below) todo (valued use' value ∷ uses)
  stands_valued [] stop todo use' uses stands = absurd stands
  stands_valued (pending ∷ items) stop todo use' uses stands =
      valued_by items (λ stop' todo' use'' uses' stands'. stands_valued items stop' todo' use'' uses' stands') pending (role_of items stop (word_of pending)) stop todo use' uses stands

values_last : (origins : Origins) (those : List (List Traced)) (these : List (List Sourced)) (traced : List Traced) (value : List Sourced) → AreValues origins those these → AreTraced origins traced value →
    AreValues origins (those ++ traced ∷ []) (these ++ value ∷ [])
values_last origins [] [] traced value are is = (is, tt)
values_last origins (first ∷ those) (second ∷ these) traced value (one, are) is = (one, values_last origins those these traced value are is)
values_last origins [] (second ∷ these) traced value are is = absurd are
values_last origins (first ∷ those) [] traced value are is = absurd are

values_pushed : (origins : Origins) (values values' : List (Vec Traced Global)) (last : Vec Traced Global) (these : List (List Sourced)) (value : List Sourced) → values' ≡ values ++ last ∷ [] →
    AreValues origins (map (λ (v : Vec Traced Global). v.items) values) these → AreTraced origins last.items value → AreValues origins (map (λ (v : Vec Traced Global). v.items) values') (these ++ value ∷ [])
values_pushed origins values values' last these value is are traced =
    subst (λ (l : List (List Traced)). AreValues origins l (these ++ value ∷ [])) (sym (ap (λ (l : List (Vec Traced Global)). map (λ (v : Vec Traced Global). v.items) l) is ∙ map-append (λ (v : Vec Traced Global). v.items) values (last ∷ [])))
    (values_last origins (map (λ (v : Vec Traced Global). v.items) values) these last.items value are traced)

-- a use whose arguments wait is the one with these arguments waiting
comes_waiting : (table : Table) (use' : OpenUse) (waiting : List (List Sourced)) (uses : List OpenUse) (todo done : List Sourced) (left : ℕ) (ending : Ending (List Sourced)) → use'.waiting ≡ waiting →
    Comes table (record use' { waiting = waiting } ∷ uses) todo done left ending → Comes table (use' ∷ uses) todo done left ending
comes_waiting table use' waiting uses todo done left ending is comes =
    subst (λ (w : List (List Sourced)). Comes table (record use' { waiting = w } ∷ uses) todo done left ending) (sym is) comes

module _ (table : Table) (old new : Run) (pending : Pending) (open' renewed : Open) (below : List Open) (opens_is : old.open.items ≡ below ++ open' ∷ []) (opens_new : new.open.items ≡ below ++ renewed ∷ [])
    (same_macro : renewed.known ≡ open'.known) (same_name : renewed.name ≡ open'.name) (same_place : renewed.place ≡ open'.place) (same_stop : renewed.stop ≡ open'.stop) (same_before : renewed.before ≡ open'.before)
    (values_is : renewed.values.items ≡ open'.values.items ++ old.done ∷ []) (words_are : new.words.items ≡ old.words.items) (done_is : new.done.items ≡ []) (pending_is : new.pending ≡ old.pending) (origins_is : new.origins ≡ old.origins) (left_is : new.left ≡ old.left)
    (stop_is : pending.exits.argument ≡ new.stop) where
  renews : (value : List Sourced) → AreTraced old.origins old.done.items value → (use' : OpenUse) → IsOpen old.origins open' use' → IsOpen old.origins renewed (valued use' value)
  renews value are use' is = record {
    plain = ap (λ (m : Bor Known). plain_known m.now) same_macro ∙ is.plain;
    name = subst (λ (t : Traced). IsTraced old.origins t use'.name) (sym same_name) is.name;
    place = same_place ∙ is.place;
    before = traced_along _ _ _ _ _ refl (ap (λ (v : Vec Traced Global). v.items) same_before) is.before;
    values = values_pushed old.origins open'.values.items renewed.values.items old.done use'.values value values_is is.values are;
  }

  reversed : (last : Open) (all : List Open) → all ≡ below ++ last ∷ [] → reverse all ≡ last ∷ reverse below
  reversed last all is = ap (λ (l : List Open). reverse l) is ∙ reverse-append below (last ∷ [])

  argument_with : (given todo done : List Sourced) (uses : List OpenUse) (left : ℕ) →
      StandsBy old.origins (Stands old.origins (reverse old.pending.words.items)) pending EndsArgument old.stop (open' ∷ reverse below) todo uses →
      KeepsFor old (record { given = given; todo = todo; done = done; uses = uses; left = left }) → LeadsTo table (record { given = given; todo = todo; done = done; uses = uses; left = left }) new
  argument_with given [] done [] left stands keeps = absurd stands
  argument_with given (word ∷ todo) done uses left stands keeps = absurd stands
  argument_with given [] done (use' ∷ uses) left (next, others, waiting, split, stands) keeps = record {
    behind = record { given = given; todo = next; done = []; uses = valued (record use' { waiting = others }) done ∷ uses; left = left };
    represents = record {
      stands = stands_along _ _ _ _ _ _ _ _ next (valued (record use' { waiting = others }) done ∷ uses) origins_is (ap (λ (a : Ahead). reverse a.words.items) pending_is) (sym stop_is)
          (reversed renewed new.open.items opens_new)
          (stands_valued old.origins open' renewed done (reverse below) (renews done keeps.done) same_stop (reverse old.pending.words.items) pending.exits.argument next (record use' { waiting = others }) uses stands);
      keeps = record {
        given = ap (map plain_word) words_are ∙ keeps.given;
        done = traced_along _ _ _ _ _ origins_is done_is tt;
        outside = keeps.outside;
        left = left_is ∙ keeps.left;
      };
    };
    comes = λ ending (level, comes, e). (
      level,
      comes_waiting table use' (next ∷ others) uses [] done left level waiting
          (step_next table uses use'.plain use'.name use'.place use'.before use'.values use'.rest done next others left level comes),
      e,
    );
  }

  pub moved_argument : AdvancesBy table old pending EndsArgument new
  moved_argument = λ state plays. argument_with state.given state.todo state.done state.uses state.left
      (subst (λ (l : List Open). StandsBy old.origins (Stands old.origins (reverse old.pending.words.items)) pending EndsArgument old.stop l state.todo state.uses) (reversed open' old.open.items opens_is) plays.stands)
      plays.keeps

pub no_argument : (table : Table) (old new : Run) (pending : Pending) → old.open.items ≡ [] → AdvancesBy table old pending EndsArgument new
no_argument table old new pending none = λ state plays.
    absurd (subst (λ (l : List Open). StandsBy old.origins (Stands old.origins (reverse old.pending.words.items)) pending EndsArgument old.stop (reverse l) state.todo state.uses) none plays.stands)

pub no_call : (table : Table) (old new : Run) (pending : Pending) → old.open.items ≡ [] → AdvancesBy table old pending EndsCall new
no_call table old new pending none = λ state plays.
    absurd (subst (λ (l : List Open). StandsBy old.origins (Stands old.origins (reverse old.pending.words.items)) pending EndsCall old.stop (reverse l) state.todo state.uses) none plays.stands)

-- ## The last argument ends

-- what stands after the end of a use
pub record IsEnding (origins : Origins) (items : List Pending) (open' : Open) (those : List Open) (todo : List Sourced) (uses : List OpenUse) : Type 0 where
  pub use' : OpenUse
  pub others : List OpenUse
  pub todo_is : todo ≡ []
  pub uses_is : uses ≡ use' ∷ others
  pub waiting : use'.waiting ≡ []
  pub is : IsOpen origins open' use'
  pub stands : Stands origins items open'.stop those use'.rest others

is_ending : (origins : Origins) (items : List Pending) (pending : Pending) (stop : ℕ) (open' : Open) (those : List Open) (todo : List Sourced) (uses : List OpenUse) →
    StandsBy origins (Stands origins items) pending EndsCall stop (open' ∷ those) todo uses → IsEnding origins items open' those todo uses
is_ending origins items pending stop open' those [] [] stands = absurd stands
is_ending origins items pending stop open' those (word ∷ todo) uses stands = absurd stands
is_ending origins items pending stop open' those [] (use' ∷ uses) (waiting, is, stands) =
    record { use' = use'; others = uses; todo_is = refl; uses_is = refl; waiting = waiting; is = is; stands = stands }

module _ (table : Table) (old mid : Run) (pending : Pending) (open' : Open) (below : List Open) (opens_is : old.open.items ≡ below ++ open' ∷ []) (mid_opens : mid.open.items ≡ below)
    (pending_is : mid.pending ≡ old.pending) (origins_is : mid.origins ≡ old.origins) (left_is : mid.left ≡ old.left) (stop_is : mid.stop ≡ open'.stop) (words_are : mid.words.items ≡ old.words.items) (done_is : mid.done.items ≡ open'.before.items)
    (values : List (Vec Traced Global)) (values_is : values ≡ open'.values.items ++ old.done ∷ []) where
  reversed_call : reverse old.open.items ≡ open' ∷ reverse below
  reversed_call = ap (λ (l : List Open). reverse l) opens_is ∙ reverse-append below (open' ∷ [])

  module _ (state : State) (plays : Plays old pending EndsCall state) where
    ends : IsEnding old.origins (reverse old.pending.words.items) open' (reverse below) state.todo state.uses
    ends = is_ending old.origins (reverse old.pending.words.items) pending old.stop open' (reverse below) state.todo state.uses
        (subst (λ (l : List Open). StandsBy old.origins (Stands old.origins (reverse old.pending.words.items)) pending EndsCall old.stop l state.todo state.uses) reversed_call plays.stands)

    mid_origins : mid.origins ≡ old.origins
    mid_origins = origins_is

    -- the name and the values of the use
    named : IsTraced mid.origins open'.name ends.use'.name
    named = subst (λ (o : Origins). IsTraced o open'.name ends.use'.name) (sym mid_origins) ends.is.name

    are_values : AreValues mid.origins (map (λ (v : Vec Traced Global). v.items) values) (ends.use'.values ++ state.done ∷ [])
    are_values = subst (λ (o : Origins). AreValues o (map (λ (v : Vec Traced Global). v.items) values) (ends.use'.values ++ state.done ∷ [])) (sym mid_origins)
        (values_pushed old.origins open'.values.items values old.done ends.use'.values state.done values_is ends.is.values plays.keeps.done)

    -- what comes of the use comes of the state
    comes_here : (ending : Ending (List Sourced)) → Comes table (record ends.use' { waiting = [] } ∷ ends.others) [] state.done state.left ending → Comes table state.uses state.todo state.done state.left ending
    comes_here ending comes =
        subst (λ (l : List Sourced). Comes table state.uses l state.done state.left ending) (sym ends.todo_is)
        (subst (λ (u : List OpenUse). Comes table u [] state.done state.left ending) (sym ends.uses_is) (comes_waiting table ends.use' [] ends.others [] state.done state.left ending ends.waiting comes))

    call_replaced : (new : Run) → IsReplacedIn mid new (plain_known open'.known.now) open'.name (map (λ (v : Vec Traced Global). v.items) values) → LeadsTo table state new
    call_replaced new replaced =
        let made = replacement ends.use'.plain ends.use'.name (ends.use'.values ++ state.done ∷ []) in
        let puts' : Puts new.origins mid.pending.words.items new.pending.words.items (replacement (plain_known open'.known.now) ends.use'.name (ends.use'.values ++ state.done ∷ [])) mid.left new.left =
        replaced.puts ends.use'.name (ends.use'.values ++ state.done ∷ []) named are_values in
        let puts : Puts new.origins mid.pending.words.items new.pending.words.items made mid.left new.left =
        subst (λ (p : PlainMacro). Puts new.origins mid.pending.words.items new.pending.words.items (replacement p ends.use'.name (ends.use'.values ++ state.done ∷ [])) mid.left new.left) ends.is.plain puts' in
        let grown : Extends old.origins new.origins = subst (λ (o : Origins). Extends o new.origins) mid_origins replaced.grown in
        record {
          behind = record { given = state.given; todo = made ++ ends.use'.rest; done = ends.use'.before; uses = ends.others; left = new.left };
          represents = record {
            stands = stands_along _ _ _ _ _ _ _ _ (made ++ ends.use'.rest) ends.others refl (puts.pending ∙ ap (λ (a : Ahead). puts.items ++ reverse a.words.items) pending_is)
                (replaced.stop ∙ stop_is) (ap (λ (l : List Open). reverse l) (replaced.opens ∙ mid_opens))
                (stands_put new.origins puts.items made (reverse old.pending.words.items) open'.stop (reverse below) ends.use'.rest ends.others puts.put
                (stands_more old.origins new.origins grown (reverse old.pending.words.items) open'.stop (reverse below) ends.use'.rest ends.others ends.stands));
            keeps = record {
              given = ap (map plain_word) (replaced.words ∙ words_are) ∙ plays.keeps.given;
              done = traced_along _ _ _ _ _ refl (replaced.done ∙ done_is) (all_traced_more old.origins new.origins grown open'.before.items ends.use'.before ends.is.before);
              outside = subst (λ (u : List OpenUse). NoneOutside u state.done) ends.uses_is plays.keeps.outside;
              left = refl;
            };
          };
          comes = λ ending (level, comes, e). (
            level,
            comes_here level
                (step_closed table ends.others ends.use'.plain ends.use'.name ends.use'.place ends.use'.before ends.use'.values ends.use'.rest state.done state.left new.left
                (sym plays.keeps.left ∙ sym left_is ∙ puts.costs) level comes),
            e,
          );
        }

    call_too_long : (f : ReplaceFault) → IsTooLong mid (plain_known open'.known.now) open'.name (map (λ (v : Vec Traced Global). v.items) values) f → FaultComes table state f
    call_too_long (fault.Refused refusal) short = absurd (short ends.use'.name (ends.use'.values ++ state.done ∷ []) named are_values)
    call_too_long fault.TooMany short =
        let less' : mid.left < length (replacement (plain_known open'.known.now) ends.use'.name (ends.use'.values ++ state.done ∷ [])) = short ends.use'.name (ends.use'.values ++ state.done ∷ []) named are_values in
        let less : state.left < length (replacement ends.use'.plain ends.use'.name (ends.use'.values ++ state.done ∷ [])) =
        subst (λ (n : ℕ). n < length (replacement ends.use'.plain ends.use'.name (ends.use'.values ++ state.done ∷ []))) (left_is ∙ plays.keeps.left)
        (subst (λ (p : PlainMacro). mid.left < length (replacement p ends.use'.name (ends.use'.values ++ state.done ∷ []))) ends.is.plain less') in
        (TooMany, comes_here TooMany (step_closed_too_long table ends.others ends.use'.plain ends.use'.name ends.use'.place ends.use'.before ends.use'.values ends.use'.rest state.done state.left less), refl)
    call_too_long fault.Memory short = tt

  pub moved_call : (new : Run) → IsReplacedIn mid new (plain_known open'.known.now) open'.name (map (λ (v : Vec Traced Global). v.items) values) → AdvancesBy table old pending EndsCall new
  moved_call new replaced = λ state plays. call_replaced state plays new replaced

  pub moved_call_too_long : (f : ReplaceFault) → IsTooLong mid (plain_known open'.known.now) open'.name (map (λ (v : Vec Traced Global). v.items) values) f → FailsBy table old pending EndsCall f
  moved_call_too_long f short = λ state plays. call_too_long state plays f short

-- ## The role of the next word

-- at the end of the innermost argument the next word ends it
pub at_end : (run : Run) (next : Pending) (state : State) (c : Bool) → closes (word_of next) ≡ c → length run.pending.words.items < run.stop → Represents run (next ∷ reverse run.pending.words.items) state →
    Plays run next (cond c EndsCall EndsArgument) state
at_end run next state c closed more represents =
    let items : List Pending = reverse run.pending.words.items in
    let within : run.stop ≤ length (next ∷ items) = stop_within run.origins (next ∷ items) run.stop (reverse run.open.items) state.todo state.uses represents.stands in
    let is : run.stop ≡ length items + 1 = omega (arith, more, within, length-reverse run.pending.words.items) in
    let role : role_of items run.stop (word_of next) ≡ cond c EndsCall EndsArgument =
    ap (λ (b : Bool). cond b (cond (closes (word_of next)) EndsCall EndsArgument) NextWord) (at_stop run.stop (length items) is) ∙ ap (λ (b : Bool). cond b EndsCall EndsArgument) closed in
    record {
      stands = subst (λ (r : Role). StandsBy run.origins (Stands run.origins items) next r run.stop (reverse run.open.items) state.todo state.uses) role represents.stands;
      keeps = represents.keeps;
    }
