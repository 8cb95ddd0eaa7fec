-- What the parts of a replacement that is under way stand for.
use Rattle.std.specs.Prelude.{ℕ, ◌≡◌, ◌+◌, ◌*◌, ◌<◌, ◌==◌, List, [], ◌∷◌, ◌++◌, length, map, reverse, None, true, if◌then◌else◌, ◌⊎◌}
use Rattle.p10_base.specs.declared.span.Span.{Span}
use Rattle.p10_base.specs.declared.word.Word.{Word}
use Rattle.p10_base.specs.Words.{PlainWord, plain_word}
use Rattle.p10_base.specs.declared.report.Family.TheVariants.{D}
use Rattle.p10_direct.specs.Directives.{PlainMacro}
use Rattle.std.specs.Borrow.{Bor}
use Rattle.p10_macros.specs.declared.origin.Origins.{Origins}
use Rattle.p10_macros.specs.declared.pending.Traced.{Traced}
use Rattle.p10_macros.specs.declared.pending.Pending.{Pending}
use Rattle.p10_macros.specs.declared.pending.Open.{Open}
use Rattle.p10_macros.specs.declared.replaced.ReplaceFault.{ReplaceFault}
use Rattle.p10_macros.specs.declared.replaced.ReplaceFault.TheVariants as fault
use Rattle.p10_macros.specs.declared.pending.Run.{Run}
use Rattle.p10_macros.specs.declared.known.Known.{Known}
use Rattle.p10_macros.specs.private.KnownMacros.{plain_known}
use Rattle.p10_macros.specs.Table.{Table}
use Rattle.p10_macros.specs.Uses.{Sourced, closes, separates, use_of, use_as, called, arguments_in, replacement, sourced_words}
use Rattle.p10_macros.specs.private.Looking.{next_opens}
use Rattle.p10_macros.specs.private.Links.{word_of}
use Rattle.p10_macros.specs.Endings.{Ending, Refused, TooMany}
use Rattle.p10_macros.specs.private.Running.{OpenUse, Comes, after_words}
use Rattle.p10_macros.specs.private.Origins.{Extends}
use Rattle.p10_macros.specs.private.Traces.{IsTraced, AreTraced, AreValues}
use Rattle.p10_macros.specs.private.Putting.{PutsReplacement, Short}

-- ## Open uses

-- the place of refusals, where these uses are open, the innermost one first, and a use has this name
abbrev pub place_among : List Open → Traced → Span
place_among [] name = name.word.at
place_among (open' ∷ those) name = open'.place

-- an open use of the code stands for one of the definitions
pub record IsOpen (origins : Origins) (open' : Open) (use' : OpenUse) : Type 0 where
  pub plain : plain_known open'.known.now ≡ use'.plain
  pub name : IsTraced origins open'.name use'.name
  pub place : open'.place ≡ use'.place
  pub before : AreTraced origins open'.before.items use'.before
  pub values : AreValues origins (map (λ value. value.items) open'.values.items) use'.values

-- what a pending word does
pub data Role : Type 0 where
  -- it is the next one of the innermost argument
  NextWord : Role
  -- it is a comma that ends that argument
  EndsArgument : Role
  -- it is the `)` that ends that argument, which is the last one
  EndsCall : Role

-- the role of a word with these pending after it, where the argument ends at the place `stop`
abbrev pub role_of : List Pending → ℕ → PlainWord → Role
role_of items stop word = if stop == length items + 1 then if closes word then EndsCall else EndsArgument else NextWord

-- a pending word with this role stands for what comes next, and `Stands` says that those after it do
abbrev pub StandsBy : Origins → (ℕ → List Open → List Sourced → List OpenUse → Type 0) → Pending → Role → ℕ → List Open → List Sourced → List OpenUse → Type 0
StandsBy origins Stands pending NextWord stop those (word ∷ todo) uses = IsTraced origins pending.traced word × Stands stop those todo uses
StandsBy origins Stands pending EndsArgument stop (open' ∷ those) [] (use' ∷ uses) =
    (next : List Sourced) × (others : List (List Sourced)) × (use'.waiting ≡ next ∷ others) × (separates (word_of pending) ≡ true)
    × Stands pending.exits.argument (open' ∷ those) next (record use' { waiting = others } ∷ uses)
StandsBy origins Stands pending EndsCall stop (open' ∷ those) [] (use' ∷ uses) = (use'.waiting ≡ []) × IsOpen origins open' use' × Stands open'.stop those use'.rest uses
StandsBy origins Stands pending _ _ _ _ _ = ⊥

-- the pending words, where the innermost argument ends at the place `stop`, and the open uses, with the next word and the
-- innermost use first, stand for words and uses
abbrev pub Stands : Origins → List Pending → ℕ → List Open → List Sourced → List OpenUse → Type 0
Stands origins [] stop [] [] [] = stop ≡ 0
Stands origins (pending ∷ items) stop those todo uses = StandsBy origins (Stands origins items) pending (role_of items stop (word_of pending)) stop those todo uses
Stands origins _ _ _ _ _ = ⊥

-- ## The whole

-- the words that came of what stands in no use, what is to be looked through, what is done in the innermost argument, the open
-- uses, and how many words may still be made
pub record State : Type 0 where
  pub given : List Sourced
  pub todo : List Sourced
  pub done : List Sourced
  pub uses : List OpenUse
  pub left : ℕ

-- what comes of a state: the words that were given, and what comes of the others
abbrev pub ComesOf : Table → State → Ending (List Sourced) → Type 0
ComesOf table state ending = (level : Ending (List Sourced)) × Comes table state.uses state.todo state.done state.left level × (ending ≡ after_words state.given level)

-- nothing is done outside of uses, for such words were given
abbrev pub NoneOutside : List OpenUse → List Sourced → Type 0
NoneOutside [] done = done ≡ []
NoneOutside (use' ∷ uses) done = NoneOutside uses use'.before

-- what is kept beside the pending words and the open uses stands for a state
pub record Keeps (origins : Origins) (words : List Word) (those : List Traced) (remaining : ℕ) (state : State) : Type 0 where
  pub given : map plain_word words ≡ sourced_words state.given
  pub done : AreTraced origins those state.done
  pub outside : NoneOutside state.uses state.done
  pub left : remaining ≡ state.left

-- the same for a replacement
abbrev pub KeepsFor : Run → State → Type 0
KeepsFor run state = Keeps run.origins run.words.items run.done.items run.left state

-- a replacement that is under way, where these words are pending, stands for a state
pub record Represents (run : Run) (items : List Pending) (state : State) : Type 0 where
  pub stands : Stands run.origins items run.stop (reverse run.open.items) state.todo state.uses
  pub keeps : KeepsFor run state

-- the same, where a word that plays a role is next
pub record Plays (run : Run) (next : Pending) (role : Role) (state : State) : Type 0 where
  pub stands : StandsBy run.origins (Stands run.origins (reverse run.pending.words.items)) next role run.stop (reverse run.open.items) state.todo state.uses
  pub keeps : KeepsFor run state

-- what comes of the state that one replacement stands for, comes of that which the other stood for
pub record LeadsTo (table : Table) (state : State) (run : Run) : Type 0 where
  pub behind : State
  pub represents : Represents run (reverse run.pending.words.items) behind
  pub comes : (ending : Ending (List Sourced)) → ComesOf table behind ending → ComesOf table state ending

-- a step leads from one replacement, with a next word, to another
abbrev pub Advances : Table → Run → Pending → Run → Type 0
Advances table old next new = (state : State) → Represents old (next ∷ reverse old.pending.words.items) state → LeadsTo table state new

-- the same, where the next word plays a role
abbrev pub AdvancesBy : Table → Run → Pending → Role → Run → Type 0
AdvancesBy table old next role new = (state : State) → Plays old next role state → LeadsTo table state new

-- a fault comes of a state
abbrev pub FaultComes : Table → State → ReplaceFault → Type 0
FaultComes table state (fault.Refused refusal) = (refusal.family ≡ D) × ComesOf table state (Refused refusal.number refusal.span)
FaultComes table state fault.TooMany = ComesOf table state TooMany
FaultComes table state fault.Memory = Unit {0}

-- a fault comes of the next word
abbrev pub Fails : Table → Run → Pending → ReplaceFault → Type 0
Fails table old next fault' = (state : State) → Represents old (next ∷ reverse old.pending.words.items) state → FaultComes table state fault'

-- the same, where the next word plays a role
abbrev pub FailsBy : Table → Run → Pending → Role → ReplaceFault → Type 0
FailsBy table old next role fault' = (state : State) → Plays old next role state → FaultComes table state fault'

-- the next word is a name that may use a macro
pub record AtUse (table : Table) (run : Run) (plain : PlainMacro) (name : Traced) (state : State) : Type 0 where
  pub word : Sourced
  pub words : List Sourced
  pub todo : state.todo ≡ word ∷ words
  pub traced : IsTraced run.origins name word
  pub stands : Stands run.origins (reverse run.pending.words.items) run.stop (reverse run.open.items) words state.uses
  pub keeps : KeepsFor run state
  pub is : use_of table word words ≡ use_as plain plain.parameters word words
  pub calls : plain.parameters ≡ None ⊎ next_opens words ≡ true

-- the next words are a name that may use a function-like macro, and a `(`, which is no more pending
pub record AtCall (table : Table) (run : Run) (plain : PlainMacro) (parameters : ℕ) (name : Traced) (state : State) : Type 0 where
  pub word : Sourced
  pub paren : Sourced
  pub words : List Sourced
  pub todo : state.todo ≡ word ∷ paren ∷ words
  pub traced : IsTraced run.origins name word
  pub stands : Stands run.origins (reverse run.pending.words.items) run.stop (reverse run.open.items) words state.uses
  pub keeps : KeepsFor run state
  pub is : use_of table word (paren ∷ words) ≡ called plain parameters (arguments_in 0 words)

-- a use was replaced, and nothing else was changed
pub record IsReplacedIn (old new : Run) (plain : PlainMacro) (name : Traced) (values : List (List Traced)) : Type 0 where
  pub grown : Extends old.origins new.origins
  pub puts : PutsReplacement old.origins new.origins old.pending.words.items new.pending.words.items plain name values old.left new.left
  pub words : new.words.items ≡ old.words.items
  pub done : new.done.items ≡ old.done.items
  pub opens : new.open.items ≡ old.open.items
  pub stop : new.stop ≡ old.stop

-- the words that were given, where one stays and these uses are open
abbrev pub given_with : List Open → List Word → Word → List Word
given_with [] words word = words ++ word ∷ []
given_with (open' ∷ those) words word = words

-- what is done in the innermost argument, where a word stays and these uses are open
abbrev pub done_with : List Open → List Traced → Traced → List Traced
done_with [] done traced = done
done_with (open' ∷ those) done traced = done ++ traced ∷ []

-- why a use is not replaced
abbrev pub IsTooLong : Run → PlainMacro → Traced → List (List Traced) → ReplaceFault → Type 0
IsTooLong old plain name values fault' =
    (name' : Sourced) (values' : List (List Sourced)) → IsTraced old.origins name name' → AreValues old.origins values values' → Short fault' (old.left < length (replacement plain name' values'))

-- a use was opened, whose first argument ends at a place
pub record IsOpenedIn (old new : Run) (made : Bor Known) (name : Traced) (place : ℕ) : Type 0 where
  pub opened : Open
  pub opens : new.open.items ≡ old.open.items ++ opened ∷ []
  pub the_macro : opened.known.now ≡ made.now
  pub the_name : opened.name ≡ name
  pub the_place : opened.place ≡ place_among (reverse old.open.items) name
  pub the_stop : opened.stop ≡ old.stop
  pub before : opened.before.items ≡ old.done.items
  pub values : opened.values.items ≡ []
  pub words : new.words.items ≡ old.words.items
  pub done : new.done.items ≡ []
  pub pending : new.pending.words.items ≡ old.pending.words.items
  pub stop : new.stop ≡ place
  pub origins : new.origins ≡ old.origins
  pub left : new.left ≡ old.left

-- how much there is to do
abbrev pub weight : Run → ℕ
weight run = 2 * run.left + length run.pending.words.items
