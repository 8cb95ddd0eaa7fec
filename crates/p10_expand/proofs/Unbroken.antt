-- Up to a line that is reached the structure of a file's conditionals isn't broken.
use Rattle.std.proofs.Common.{subst, ◌≡◌, ℕ, zero, suc, List, [], ◌∷◌, length, map, Bool, true, false, not, ◌==◌, MatchBool, if◌then◌else◌, arith, refl, sym, ◌∙◌, ap, Option, Some, None, option_map}
use Rattle.p10_direct.specs.declared.mark.Mark.{Mark}
use Rattle.p10_direct.specs.declared.mark.Mark.TheVariants.{Opens, Elif, Else, Closes, Plain}
use Rattle.p10_direct.specs.Lines.{Piece, DirectiveLine, TextRun}
use Rattle.p10_direct.specs.Directives.{Outcome, Read, BadForm, BadDefinition, place_of}
use Rattle.p10_direct.specs.Balance.{mark_of, open_before, is_before_else, is_break, first_break_of, first_unbalanced}
use Rattle.p10_base.specs.Gathered.{Gathered}
use Rattle.p10_base.specs.Words.{PlainWord}
use Rattle.p10_expand.specs.Obeying.{State, Next, GoesOn, EntersFile, StopsWith, File, refuse, is_place, breaks_at, listed, passed, Acts, LineGives}
use Rattle.p10_expand.specs.Groups.{PassedLine, Groups, with_group, outer_of, open_after_line, open_after}
use Rattle.p10_expand.proofs.Skipping.{Belongs}

-- the marks of these lines
abbrev pub marks_of : List PassedLine → List Mark
marks_of before = map (λ (line : PassedLine). line.mark) before

-- no line before these breaks the structure
pub record Unbroken (file : File) (before : List PassedLine) (pieces : List Piece) : Type 0 where
  pub none : first_unbalanced file.pieces ≡ first_break_of (marks_of before) (map mark_of pieces)

pub unbroken_first : (file : File) → Unbroken file [] file.pieces
unbroken_first file = record { none = refl }

-- ## What is open

-- a conditional is open around n others
abbrev IsOpen : ℕ → List Groups → Type 0
IsOpen n [] = ⊥
IsOpen zero (groups ∷ outer) = Unit {0}
IsOpen (suc n) (groups ∷ outer) = IsOpen n outer

open_group : (n : ℕ) (h : Bool) (open' : List Groups) → IsOpen n open' → IsOpen n (with_group h open')
open_group n h [] p = p
open_group zero h (groups ∷ outer) p = p
open_group (suc n) h (groups ∷ outer) p = p

open_outer : (n : ℕ) (open' : List Groups) → IsOpen (suc n) open' → IsOpen n (outer_of open')
open_outer n [] p = absurd p
open_outer n (groups ∷ outer) p = p

none_some : {A : Type 0} {x : A} → None ≡ Some x → ⊥
none_some e = cc

mapped_some : (o : Option Bool) (had : Bool) → option_map (λ h. true) o ≡ Some had → (other : Bool) × (o ≡ Some other)
mapped_some None had e = absurd (none_some e)
mapped_some (Some other) had e = (other, refl)

open_by_mark : (mark : Mark) (n : ℕ) (h : Bool) (marks : List Mark) (open' : List Groups) → ((n : ℕ) (had : Bool) → open_before n marks ≡ Some had → IsOpen n open') →
    (had : Bool) → open_before n (mark ∷ marks) ≡ Some had → IsOpen n (open_after_line mark h open')
open_by_mark Opens zero h marks open' each had e = tt
open_by_mark Opens (suc n) h marks open' each had e = each n had e
open_by_mark Elif zero h marks open' each had e = open_group zero h open' (each zero had e)
open_by_mark Elif (suc n) h marks open' each had e = open_group (suc n) h open' (each (suc n) had e)
open_by_mark Else zero h marks open' each had e =
    let some = mapped_some (open_before zero marks) had e in
    open_group zero true open' (each zero some.0 some.1)
open_by_mark Else (suc n) h marks open' each had e = open_group (suc n) true open' (each (suc n) had e)
open_by_mark Closes zero h marks open' each had e = open_outer zero open' (each (suc zero) had e)
open_by_mark Closes (suc n) h marks open' each had e = open_outer (suc n) open' (each (suc (suc n)) had e)
open_by_mark Plain zero h marks open' each had e = each zero had e
open_by_mark Plain (suc n) h marks open' each had e = each (suc n) had e

is_open : (before : List PassedLine) (n : ℕ) (had : Bool) → open_before n (marks_of before) ≡ Some had → IsOpen n (open_after before)
is_open [] n had e = absurd (none_some e)
is_open (line ∷ before) n had e = open_by_mark line.mark n line.holds (marks_of before) (open_after before) (is_open before) had e

-- ## The next line

not_true : (b : Bool) → not b ≡ false → b ≡ true
not_true true e = refl
not_true false e = absurd cc

some_before : (o : Option Bool) → is_before_else o ≡ true → (had : Bool) × (o ≡ Some had)
some_before None e = absurd cc
some_before (Some had) e = (had, refl)

elif_belongs : (open' : List Groups) → IsOpen zero open' → Belongs Elif open'
elif_belongs [] p = p
elif_belongs (groups ∷ outer) p = tt

else_belongs : (open' : List Groups) → IsOpen zero open' → Belongs Else open'
else_belongs [] p = p
else_belongs (groups ∷ outer) p = tt

opens_belongs : (open' : List Groups) → Belongs Opens open'
opens_belongs [] = tt
opens_belongs (groups ∷ outer) = tt

closes_belongs : (open' : List Groups) → Belongs Closes open'
closes_belongs [] = tt
closes_belongs (groups ∷ outer) = tt

plain_belongs : (open' : List Groups) → Belongs Plain open'
plain_belongs [] = tt
plain_belongs (groups ∷ outer) = tt

belongs : (before : List PassedLine) (mark : Mark) (after : List Mark) → is_break (marks_of before) mark after ≡ false → Belongs mark (open_after before)
belongs before Opens after e = opens_belongs (open_after before)
belongs before Elif after e =
    let some = some_before (open_before zero (marks_of before)) (not_true (is_before_else (open_before zero (marks_of before))) e) in
    elif_belongs (open_after before) (is_open before zero some.0 some.1)
belongs before Else after e =
    let some = some_before (open_before zero (marks_of before)) (not_true (is_before_else (open_before zero (marks_of before))) e) in
    else_belongs (open_after before) (is_open before zero some.0 some.1)
belongs before Closes after e = closes_belongs (open_after before)
belongs before Plain after e = plain_belongs (open_after before)

same_place : (n : ℕ) → n == n ≡ true
same_place n = grind (arith)

place_there : (n place : ℕ) (o : Option ℕ) → o ≡ Some n → n ≡ place → is_place place o ≡ false → ⊥
place_there n place o e same p = absurd (apart (sym p ∙ ap (is_place place) e ∙ ap (λ m. place == m) same ∙ same_place place))
  where
    apart : false ≡ true → ⊥
    apart e = cc

if_true : {A : Type 0} (b : Bool) (x y : A) → b ≡ true → (if b then x else y) ≡ x
if_true true x y e = refl
if_true false x y e = absurd cc

if_false : {A : Type 0} (b : Bool) (x y : A) → b ≡ false → (if b then x else y) ≡ y
if_false true x y e = absurd cc
if_false false x y e = refl

length_marks : (before : List PassedLine) → length (marks_of before) ≡ length before
length_marks [] = refl
length_marks (line ∷ before) = ap suc (length_marks before)

-- a line that is passed breaks nothing
pub record Passed (file : File) (before : List PassedLine) (piece : Piece) (pieces : List Piece) : Type 0 where
  pub belongs : Belongs (mark_of piece) (open_after before)
  pub next : (h : Bool) → Unbroken file (record { mark = mark_of piece; holds = h } ∷ before) pieces

go_on : (file : File) (before : List PassedLine) (piece : Piece) (pieces : List Piece) (breaks : Bool) → is_break (marks_of before) (mark_of piece) (map mark_of pieces) ≡ breaks →
    Unbroken file before (piece ∷ pieces) → breaks_at file (length before) ≡ false → Passed file before piece pieces
go_on file before piece pieces true e u p =
    absurd (place_there (length (marks_of before)) (length before) (first_unbalanced file.pieces) (u.none ∙ if_true _ _ _ e) (length_marks before) p)
go_on file before piece pieces false e u p = record {
  belongs = belongs before (mark_of piece) (map mark_of pieces) e;
  next = λ h. record { none = u.none ∙ if_false _ _ _ e };
}

passed_on : (file : File) (before : List PassedLine) (piece : Piece) (pieces : List Piece) → Unbroken file before (piece ∷ pieces) → breaks_at file (length before) ≡ false → Passed file before piece pieces
passed_on file before piece pieces u p = go_on file before piece pieces _ refl u p

-- text breaks nothing
text_passed : (file : File) (before : List PassedLine) (words : List PlainWord) (pieces : List Piece) → Unbroken file before (TextRun words ∷ pieces) → Passed file before (TextRun words) pieces
text_passed file before words pieces u = record { belongs = plain_belongs (open_after before); next = λ h. record { none = u.none } }

-- ## Lines that go on

-- another line is reached
abbrev pub GoesOnward : Next → Type 0
GoesOnward (GoesOn holds s) = Unit {0}
GoesOnward (EntersFile number built_in s) = Unit {0}
GoesOnward (StopsWith ended) = ⊥

onward_is : (next other : Next) → next ≡ other → GoesOnward next → GoesOnward other
onward_is next other e p = subst GoesOnward e p

pass_onward : (file : File) (before : List PassedLine) (line : List PlainWord) (pieces : List Piece) (s : State) (next : Next) (breaks : Bool) → breaks_at file (length before) ≡ breaks → Unbroken file before (DirectiveLine line ∷ pieces) →
    next ≡ passed file (length before) line s → GoesOnward next → Passed file before (DirectiveLine line) pieces
pass_onward file before line pieces s next true e u is on = absurd (onward_is next _ (is ∙ if_true _ _ _ e) on)
pass_onward file before line pieces s next false e u is on = passed_on file before (DirectiveLine line) pieces u e

module _ (g : Gathered) (file : File) (before : List PassedLine) (line : List PlainWord) (pieces : List Piece) (unbroken : Unbroken file before (DirectiveLine line ∷ pieces)) where
  read_onward : (breaks : Bool) (P : Type 0) (s : State) (next : Next) (at : Next) → breaks_at file (length before) ≡ breaks → MatchBool breaks (next ≡ at) P → (GoesOnward at → ⊥) → GoesOnward next → Passed file before (DirectiveLine line) pieces
  read_onward true P s next at e is none on = absurd (none (onward_is next at is on))
  read_onward false P s next at e does none on = passed_on file before (DirectiveLine line) pieces unbroken e

  acts_onward : (outcome : Outcome) (s : State) (next : Next) → Acts g file (breaks_at file (length before)) line outcome s next → GoesOnward next → Passed file before (DirectiveLine line) pieces
  acts_onward BadForm s next is on = absurd (onward_is next _ is on)
  acts_onward (BadDefinition at) s next is on = absurd (onward_is next _ is on)
  acts_onward (Read directive) s next acts on = read_onward (breaks_at file (length before)) _ s next (refuse s 2 (place_of line)) refl acts (λ p. p) on

-- a line that goes on breaks nothing
pub line_passed : (g : Gathered) (file : File) (before : List PassedLine) (piece : Piece) (pieces : List Piece) (obeyed : Bool) (s : State) (next : Next) → Unbroken file before (piece ∷ pieces) →
    LineGives g file obeyed (length before) piece s next → GoesOnward next → Passed file before piece pieces
line_passed g file before (TextRun words) pieces obeyed s next u gives on = text_passed file before words pieces u
line_passed g file before (DirectiveLine line) pieces true s next u (outcome, is, acts) on = acts_onward g file before line pieces u outcome (listed file (length before) line s) next acts on
line_passed g file before (DirectiveLine line) pieces false s next u is on = pass_onward file before line pieces s next (breaks_at file (length before)) refl u is on
