-- A replacement from its beginning to its end.
use Rattle.std.proofs.Common.{◌≡◌, ℕ, List, [], ◌∷◌, ◌++◌, map, None, refl, sym, subst, ap, ◌∙◌, arith, append-nil}
use Rattle.std.specs.Prelude.{reverse}
use Rattle.std.proofs.lemmas.List.{reverse-append}
use Rattle.p10_base.specs.declared.word.Word.{Word}
use Rattle.p10_base.specs.Words.{PlainWord, plain_word}
use Rattle.p10_macros.specs.declared.origin.Origins.{Origins}
use Rattle.p10_macros.specs.declared.pending.Traced.{Traced}
use Rattle.p10_macros.specs.declared.pending.Pending.{Pending}
use Rattle.p10_macros.specs.declared.pending.Open.{Open}
use Rattle.p10_macros.specs.declared.pending.Run.{Run}
use Rattle.p10_macros.specs.declared.ahead.Ahead.{Ahead}
use Rattle.p10_macros.specs.declared.replaced.ReplaceFault.{ReplaceFault}
use Rattle.p10_macros.specs.declared.replaced.ReplaceFault.TheVariants as fault
use Rattle.p10_macros.specs.Table.{Table}
use Rattle.p10_macros.specs.Uses.{Sourced, written, sourced_words}
use Rattle.p10_macros.specs.Endings.{Ending, Gives, Refused, TooMany}
use Rattle.p10_macros.specs.Ends.{Ends}
use Rattle.p10_macros.specs.private.Running.{OpenUse}
use Rattle.p10_macros.specs.private.Traces.{IsTraced, AreTraced}
use Rattle.p10_macros.specs.private.Standing.{Stands, State, NoneOutside, ComesOf, Represents, LeadsTo, Advances, FaultComes, Fails}
use Rattle.p10_macros.specs.private.Beginning.{unread, traced_of, start_of, IsBegun}
use Rattle.p10_macros.specs.Answers.{IsFault}
use Rattle.p10_macros.proofs.SetsOfMacros.{has_no_macro}
use Rattle.p10_macros.proofs.Steps.{behind_none, step_ended, step_begun}
use Rattle.p10_macros.proofs.Standings.{stands_empty, stands_word}

-- ## The beginning

unread_stands : (origins : Origins) (items : List Pending) (words : List Word) → traced_of items ≡ map unread words → Stands origins items 0 [] (map written (map plain_word words)) []
unread_stands origins [] [] e = refl
unread_stands origins [] (word ∷ words) e = cc
unread_stands origins (pending ∷ items) [] e = cc
unread_stands origins (pending ∷ items) (word ∷ words) e =
    let first : pending.traced ≡ unread word = cc in
    let others : traced_of items ≡ map unread words = cc in
    let traced : IsTraced origins (unread word) (written (plain_word word)) = record { word = refl; known = omega arith; from = λ name. has_no_macro origins 0 name (omega arith) } in
    stands_word origins pending (written (plain_word word)) items 0 [] (map written (map plain_word words)) [] (omega arith) (subst (λ (t : Traced). IsTraced origins t (written (plain_word word))) (sym first) traced) (unread_stands origins items words others)

pub begun : (table : Table) (words : List Word) (left : ℕ) (run : Run) → IsBegun words left run → LeadsTo table (start_of (map plain_word words) left) run
begun table words left run is = record {
  behind = start_of (map plain_word words) left;
  represents = record {
    stands = subst (λ (n : ℕ). Stands run.origins (reverse run.pending.words.items) n (reverse run.open.items) (map written (map plain_word words)) []) (sym is.stop)
        (subst (λ (l : List Open). Stands run.origins (reverse run.pending.words.items) 0 (reverse l) (map written (map plain_word words)) []) (sym is.opens)
        (unread_stands run.origins (reverse run.pending.words.items) words is.pending));
    keeps = record { given = ap (map plain_word) is.words; done = subst (λ (l : List Traced). AreTraced run.origins l []) (sym is.done) tt; outside = refl; left = is.left };
  };
  comes = λ ending comes. comes;
}

-- ## A step

-- the next word was taken
taken : (table : Table) (state : State) (old : Run) (popped : Ahead) (next : Pending) → old.pending.words.items ≡ popped.words.items ++ next ∷ [] → (leads : LeadsTo table state old) →
    Represents (record old { pending = popped }) (next ∷ reverse popped.words.items) leads.behind
taken table state old popped next is leads = record {
  stands = subst (λ (l : List Pending). Stands old.origins l old.stop (reverse old.open.items) leads.behind.todo leads.behind.uses) (ap (λ (l : List Pending). reverse l) is ∙ reverse-append popped.words.items (next ∷ [])) leads.represents.stands;
  keeps = leads.represents.keeps;
}

pub advanced : (table : Table) (state : State) (old new : Run) (popped : Ahead) (next : Pending) → old.pending.words.items ≡ popped.words.items ++ next ∷ [] → LeadsTo table state old →
    Advances table (record old { pending = popped }) next new → LeadsTo table state new
advanced table state old new popped next is leads advances =
    let further : LeadsTo table leads.behind new = advances leads.behind (taken table state old popped next is leads) in
    record { behind = further.behind; represents = further.represents; comes = λ ending comes. leads.comes ending (further.comes ending comes) }

fault_comes : (table : Table) (state behind : State) → ((ending : Ending (List Sourced)) → ComesOf table behind ending → ComesOf table state ending) → (f : ReplaceFault) → FaultComes table behind f → FaultComes table state f
fault_comes table state behind so (fault.Refused refusal) (family, comes) = (family, so (Refused refusal.number refusal.span) comes)
fault_comes table state behind so fault.TooMany comes = so TooMany comes
fault_comes table state behind so fault.Memory comes = tt

-- what comes of the whole is what comes of the state at its beginning
whole_comes : (table : Table) (words : List PlainWord) (left : ℕ) (ending : Ending (List Sourced)) → ComesOf table (start_of words left) ending → Ends table None (map written words) left ending
whole_comes table words left ending (level, comes, is) =
    subst (λ (e : Ending (List Sourced)). Ends table None (map written words) left e) (sym (is ∙ behind_none level)) (step_begun table (map written words) left level comes)

fault_is : (table : Table) (words : List PlainWord) (left : ℕ) (f : ReplaceFault) → FaultComes table (start_of words left) f → IsFault table words left f
fault_is table words left (fault.Refused refusal) (family, comes) = (family, whole_comes table words left (Refused refusal.number refusal.span) comes)
fault_is table words left fault.TooMany comes = whole_comes table words left TooMany comes
fault_is table words left fault.Memory comes = tt

pub failed : (table : Table) (words : List PlainWord) (left : ℕ) (old : Run) (popped : Ahead) (next : Pending) (f : ReplaceFault) → old.pending.words.items ≡ popped.words.items ++ next ∷ [] → LeadsTo table (start_of words left) old →
    Fails table (record old { pending = popped }) next f → IsFault table words left f
failed table words left old popped next f is leads fails =
    fault_is table words left f (fault_comes table (start_of words left) leads.behind leads.comes f (fails leads.behind (taken table (start_of words left) old popped next is leads)))

-- ## The end

done_at : (table : Table) (given todo done : List Sourced) (uses : List OpenUse) (left : ℕ) → todo ≡ [] → uses ≡ [] → NoneOutside uses done →
    ComesOf table (record { given = given; todo = todo; done = done; uses = uses; left = left }) (Gives given left)
done_at table given [] [] [] left nothing none outside = (Gives [] left, step_ended table [] left, ap (λ (l : List Sourced). Gives l left) (sym (append-nil given)))
done_at table given (word ∷ todo) done uses left nothing none outside = cc
done_at table given [] (word ∷ done) [] left nothing none outside = cc
done_at table given [] done (use' ∷ uses) left nothing none outside = cc

-- when no word is left, what was given is what came of all words
pub ended : (table : Table) (words : List PlainWord) (left : ℕ) (run : Run) → run.pending.words.items ≡ [] → LeadsTo table (start_of words left) run →
    (made : List Sourced) × Ends table None (map written words) left (Gives made run.left) × (sourced_words made ≡ map plain_word run.words.items)
ended table words left run none leads =
    let state = leads.behind in
    let empty = stands_empty run.origins run.stop (reverse run.open.items) state.todo state.uses
    (subst (λ (l : List Pending). Stands run.origins (reverse l) run.stop (reverse run.open.items) state.todo state.uses) none leads.represents.stands) in
    let keeps = leads.represents.keeps in (
      state.given,
      subst (λ (n : ℕ). Ends table None (map written words) left (Gives state.given n)) (sym keeps.left)
          (whole_comes table words left (Gives state.given state.left)
          (leads.comes (Gives state.given state.left) (done_at table state.given state.todo state.done state.uses state.left empty.2 empty.3 keeps.outside))),
      sym keeps.given,
    )
