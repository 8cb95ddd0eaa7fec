-- What bodies of functions have in two programs that are the same but for places and for the numbers of objects, literals and structures.
use Rattle.std.specs.Prelude.{◌≡◌, ℕ, List, [], ◌∷◌, Option}
use Rattle.p10_core.specs.Typed.{PlainStatement}
use Rattle.p10_elabs.specs.Locals.{Frame, Local, Done}
use Rattle.p10_renaming.specs.Renaming.{Pairing, SameType, SameStatement, SameVariables}
use Rattle.p10_declaration_renaming.specs.Standings.{Both, SameStanding, AreQuiet}

-- functions in which the same variables have their addresses taken, with results of the same type
pub record SameFrame (R : Pairing) (f g : Frame) : Type 0 where
  pub taken : f.taken ≡ g.taken
  pub result : SameType R f.result g.result

-- the same stands in both bodies, and so far they have as many variables and loops, and the same variables; static objects are free
pub record SameLocal (R : Pairing) (last : ℕ) (l k : Local) : Type 0 where
  pub standing : SameStanding R last l.standing k.standing
  pub count : l.count ≡ k.count
  pub variables : SameVariables R l.variables k.variables
  pub loops : l.loops ≡ k.loops

-- statements that are the same, one for one
pub data SameRow (R : Pairing) : List PlainStatement → List PlainStatement → Type 0 where
  same_no_row : SameRow R [] []
  same_more_row : {s t : PlainStatement} {ss ts : List PlainStatement} → SameStatement R s t → SameRow R ss ts → SameRow R (s ∷ ss) (t ∷ ts)

-- the same of statements that may be refused
pub data SameParts (R : Pairing) : List (Option PlainStatement) → List (Option PlainStatement) → Type 0 where
  same_no_parts : SameParts R [] []
  same_more_parts : {s t : Option PlainStatement} {ss ts : List (Option PlainStatement)} → Both (SameStatement R) s t → SameParts R ss ts → SameParts R (s ∷ ss) (t ∷ ts)

-- where nothing is refused up to the end of a part of both bodies, nothing was up to its start; and then something holds, and both have
-- the same at the end
abbrev pub LocalLeads : Pairing → ℕ → Type 0 → Local → Local → Local → Local → Type 0
LocalLeads R last B l k m n =
    (AreQuiet last l.standing k.standing → SameLocal R last l k) → AreQuiet last m.standing n.standing → AreQuiet last l.standing k.standing × (B × SameLocal R last m n)

-- so it is with what the part makes
abbrev pub Makes : {A : Type 0} → Pairing → ℕ → (A → A → Type 0) → Local → Local → Done A → Done A → Type 0
Makes R last P l k d g = LocalLeads R last (Both P d.made g.made) l k d.after g.after
