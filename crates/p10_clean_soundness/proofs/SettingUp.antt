-- What stands for the variables in scope: where less is set, or less is in scope, and what a write and a declaration leave.
use Rattle.std.proofs.Common.{◌≡◌, ℕ, zero, suc, Bool, true, false, List, [], ◌∷◌, refl, ◌∙◌, ap, sym, subst, Option, Some, None}
use Rattle.std.specs.Prelude.{◌||◌, nat_eq, is_some, slice_get, slice_set}
use Rattle.std.proofs.lemmas.Bool.{eqb-true, eqb-false}
use Rattle.p10_core.specs.Typed.{PlainVariable}
use Rattle.p10_core.specs.WholePrograms.{is_among}
use Rattle.p10_pass.specs.Marks.{is_marked}
use Rattle.p10_meaning.specs.declared.pointers.Scalar.{Scalar}
use Rattle.p10_meaning.specs.declared.pointers.Cell.{Cell}
use Rattle.p10_meaning.specs.Pointers.{unset, holding}
use Rattle.p10_meaning.specs.Values.{Held, holds, stands, absent}
use Rattle.p10_absx.proofs.Entries.{get_other}
use Rattle.p10_execution.proofs.Frames.{set_here}
use Rattle.p10_clean.specs.Settings.{Settings, is_set, marked_as, on_both}
use Rattle.p10_clean_soundness.specs.private.Setting.{IsFilled, StandsFor, SetUp}
use Rattle.p10_clean_soundness.proofs.SettingsOrder.{IsBelow, below_set, both_left, both_right, other_set, unset_there, set_more}

-- a cell that holds a scalar is filled
pub holding_filled : (x : Scalar) → IsFilled (holding x)
holding_filled x = record { scalar = x; is = refl }

-- ## Less is set, or less is in scope

fewer_marked : (frame a b : Bool) (h : Option Held) → (a ≡ true → b ≡ true) → StandsFor frame b h → StandsFor frame a h
fewer_marked frame a b (Some (holds cell)) f s = (s.0, λ e. s.1 (f e))
fewer_marked frame a b (Some (stands o)) f s = s
fewer_marked frame a b (Some absent) f s = absurd s
fewer_marked frame a b None f s = absurd s

module _ (variables : List PlainVariable) where
  -- settings stand for others where they set as much of what is in scope, and no path comes there unless one comes to the others
  pub carried : (scope : List ℕ) (a b : Settings) (held : List Held) → (a ≡ None → b ≡ None) → ((n : ℕ) → is_among n scope ≡ true → is_set a n ≡ true → is_set b n ≡ true) → SetUp variables scope b held → SetUp variables scope a held
  carried scope a None held none each s = absurd s
  carried scope None (Some y) held none each s = let impossible : Some y ≡ None = none refl in absurd cc
  carried scope (Some x) (Some y) held none each s = record { each = λ n v e q. fewer_marked v.frame (is_marked x n) (is_marked y n) (slice_get held n) (each n e) (s.each n v e q) }

  pub less_set : (scope : List ℕ) (a b : Settings) (held : List Held) → IsBelow a b → SetUp variables scope b held → SetUp variables scope a held
  less_set scope a b held h s = carried scope a b held (none a b h) (λ n _ e. below_set a b h n e) s
    where
      none : (a b : Settings) → IsBelow a b → a ≡ None → b ≡ None
      none a None h e = refl
      none None (Some y) h e = absurd h
      none (Some x) (Some y) h e = absurd cc

  pub set_left : (scope : List ℕ) (a b : Settings) (held : List Held) → SetUp variables scope a held → SetUp variables scope (on_both a b) held
  set_left scope a b held s = less_set scope (on_both a b) a held (both_left a b) s

  pub set_right : (scope : List ℕ) (a b : Settings) (held : List Held) → SetUp variables scope b held → SetUp variables scope (on_both a b) held
  set_right scope a b held s = less_set scope (on_both a b) b held (both_right a b) s

  pub less_scope : (scope wider : List ℕ) (a : Settings) (held : List Held) → ((n : ℕ) → is_among n scope ≡ true → is_among n wider ≡ true) → SetUp variables wider a held → SetUp variables scope a held
  less_scope scope wider None held h s = absurd s
  less_scope scope wider (Some marks) held h s = record { each = λ n v e q. s.each n v (h n e) q }

  -- ## Changes of a frame

  -- something stands in a frame for each of the variables
  pub record HasRoom (held : List Held) : Type 0 where
    pub room : (n : ℕ) (v : PlainVariable) → slice_get variables n ≡ Some v → is_some (slice_get held n) ≡ true

  some_set : (hs : List Held) (k n : ℕ) (h : Held) → is_some (slice_get hs n) ≡ true → is_some (slice_get (slice_set hs k h) n) ≡ true
  some_set [] k n h e = e
  some_set (x ∷ hs) zero zero h e = refl
  some_set (x ∷ hs) zero (suc n) h e = e
  some_set (x ∷ hs) (suc k) zero h e = refl
  some_set (x ∷ hs) (suc k) (suc n) h e = some_set hs k n h e

  pub room_set : (held : List Held) (k : ℕ) (h : Held) → HasRoom held → HasRoom (slice_set held k h)
  room_set held k h r = record { room = λ n v e. some_set held k n h (r.room n v e) }

  -- the others stay as they are
  other_stands : (c frame : Bool) (k n : ℕ) (h : Held) (marks : List Bool) (held : List Held) → (n ≡ k → ⊥) → StandsFor frame (is_marked marks n) (slice_get held n) → StandsFor frame (is_marked (slice_set marks k c) n) (slice_get (slice_set held k h) n)
  other_stands c frame k n h marks held apart s =
      subst (λ o. StandsFor frame (is_marked (slice_set marks k c) n) o) (sym (get_other held k n h apart)) (subst (λ b. StandsFor frame b (slice_get held n)) (sym (other_set c k n (Some marks) apart)) s)

  -- a variable that isn't in scope changes
  pub unscoped_set : (scope : List ℕ) (before : Settings) (held : List Held) (k : ℕ) (h : Held) → is_among k scope ≡ false → SetUp variables scope before held → SetUp variables scope before (slice_set held k h)
  unscoped_set scope None held k h out s = absurd s
  unscoped_set scope (Some marks) held k h out s = record { each = λ n v e q. by_case n v e q (nat_eq n k) refl }
    where
      by_case : (n : ℕ) (v : PlainVariable) → is_among n scope ≡ true → slice_get variables n ≡ Some v → (b : Bool) → nat_eq n k ≡ b → StandsFor v.frame (is_marked marks n) (slice_get (slice_set held k h) n)
      by_case n v e q true p = let no : is_among n scope ≡ false = ap (λ j. is_among j scope) (eqb-true n k p) ∙ out in absurd cc
      by_case n v e q false p = subst (λ o. StandsFor v.frame (is_marked marks n) o) (sym (get_other held k n h (eqb-false n k p))) (s.each n v e q)

  -- a frame variable becomes set
  pub written : (scope : List ℕ) (before : Settings) (held : List Held) (k : ℕ) (old cell : Cell) → slice_get held k ≡ Some (holds old) → IsFilled cell → SetUp variables scope before held → SetUp variables scope (marked_as true k before) (slice_set held k (holds cell))
  written scope None held k old cell was filled s = absurd s
  written scope (Some marks) held k old cell was filled s = record { each = λ n v e q. by_case n v e q (nat_eq n k) refl }
    where
      by_case : (n : ℕ) (v : PlainVariable) → is_among n scope ≡ true → slice_get variables n ≡ Some v → (b : Bool) → nat_eq n k ≡ b → StandsFor v.frame (is_marked (slice_set marks k true) n) (slice_get (slice_set held k (holds cell)) n)
      by_case n v e q true p =
          let same : n ≡ k = eqb-true n k p in
          let there : slice_get held n ≡ Some (holds old) = ap (slice_get held) same ∙ was in
          let now : slice_get (slice_set held k (holds cell)) n ≡ Some (holds cell) = ap (slice_get (slice_set held k (holds cell))) same ∙ set_here held k (holds cell) (ap is_some was) in
          let stood : StandsFor v.frame (is_marked marks n) (Some (holds old)) = subst (λ o. StandsFor v.frame (is_marked marks n) o) there (s.each n v e q) in
          subst (λ o. StandsFor v.frame (is_marked (slice_set marks k true) n) o) (sym now) (stood.0, λ m. filled)
      by_case n v e q false p = other_stands true v.frame k n (holds cell) marks held (eqb-false n k p) (s.each n v e q)

  -- no less is set after it
  pub written_again : (scope : List ℕ) (before : Settings) (held : List Held) (k : ℕ) (old cell : Cell) → slice_get held k ≡ Some (holds old) → IsFilled cell → SetUp variables scope before held → SetUp variables scope before (slice_set held k (holds cell))
  written_again scope before held k old cell was filled s =
      carried scope before (marked_as true k before) (slice_set held k (holds cell)) (none before) (λ n _ e. set_more k n before e) (written scope before held k old cell was filled s)
    where
      none : (a : Settings) → a ≡ None → marked_as true k a ≡ None
      none None e = refl
      none (Some marks) e = absurd cc

  -- an object that stands for a variable: its mark doesn't count
  pub marked_object : (scope : List ℕ) (before : Settings) (held : List Held) (k o : ℕ) → slice_get held k ≡ Some (stands o) → SetUp variables scope before held → SetUp variables scope (marked_as true k before) held
  marked_object scope None held k o was s = absurd s
  marked_object scope (Some marks) held k o was s = record { each = λ n v e q. by_case n v e q (nat_eq n k) refl }
    where
      by_case : (n : ℕ) (v : PlainVariable) → is_among n scope ≡ true → slice_get variables n ≡ Some v → (b : Bool) → nat_eq n k ≡ b → StandsFor v.frame (is_marked (slice_set marks k true) n) (slice_get held n)
      by_case n v e q true p =
          let there : slice_get held n ≡ Some (stands o) = ap (slice_get held) (eqb-true n k p) ∙ was in
          let stood : v.frame ≡ false = subst (λ h. StandsFor v.frame (is_marked marks n) h) there (s.each n v e q) in
          subst (λ h. StandsFor v.frame (is_marked (slice_set marks k true) n) h) (sym there) stood
      by_case n v e q false p = subst (λ b. StandsFor v.frame b (slice_get held n)) (sym (other_set true k n (Some marks) (eqb-false n k p))) (s.each n v e q)

  -- ## Declarations

  -- a variable comes into scope
  declared_as : (c : Bool) (scope : List ℕ) (before : Settings) (held : List Held) (k : ℕ) (h : Held) → ((v : PlainVariable) (marks : List Bool) → before ≡ Some marks → slice_get variables k ≡ Some v → StandsFor v.frame (is_marked (slice_set marks k c) k) (Some h)) → HasRoom held →
      SetUp variables scope before held → SetUp variables (k ∷ scope) (marked_as c k before) (slice_set held k h)
  declared_as c scope None held k h new r s = absurd s
  declared_as c scope (Some marks) held k h new r s = record { each = λ n v e q. by_case n v q (nat_eq n k) refl e }
    where
      by_case : (n : ℕ) (v : PlainVariable) → slice_get variables n ≡ Some v → (b : Bool) → nat_eq n k ≡ b → (b || is_among n scope) ≡ true → StandsFor v.frame (is_marked (slice_set marks k c) n) (slice_get (slice_set held k h) n)
      by_case n v q true p e =
          let same : k ≡ n = sym (eqb-true n k p) in
          let here : slice_get variables k ≡ Some v = ap (slice_get variables) same ∙ q in
          subst (λ (i : ℕ). StandsFor v.frame (is_marked (slice_set marks k c) i) (slice_get (slice_set held k h) i)) same
          (subst (λ o. StandsFor v.frame (is_marked (slice_set marks k c) k) o) (sym (set_here held k h (r.room k v here))) (new v marks refl here))
      by_case n v q false p e = other_stands c v.frame k n h marks held (eqb-false n k p) (s.each n v e q)

  -- one of the frame without a value
  pub declared_unset : (scope : List ℕ) (before : Settings) (held : List Held) (k : ℕ) (v : PlainVariable) → slice_get variables k ≡ Some v → v.frame ≡ true → HasRoom held → SetUp variables scope before held → SetUp variables (k ∷ scope) (marked_as false k before) (slice_set held k (holds unset))
  declared_unset scope before held k v there frame r s = declared_as false scope before held k (holds unset) (λ u marks e q. (is_frame u q, λ m. absurd (unmarked marks m))) r s
    where
      is_frame : (u : PlainVariable) → slice_get variables k ≡ Some u → u.frame ≡ true
      is_frame u q = let same : Some v ≡ Some u = sym there ∙ q in cc

      unmarked : (marks : List Bool) → is_marked (slice_set marks k false) k ≡ true → ⊥
      unmarked marks m = let no : is_marked (slice_set marks k false) k ≡ false = unset_there k marks in absurd cc

  -- ... and with one
  pub declared_set : (scope : List ℕ) (before : Settings) (held : List Held) (k : ℕ) (v : PlainVariable) (cell : Cell) → slice_get variables k ≡ Some v → v.frame ≡ true → IsFilled cell → HasRoom held → SetUp variables scope before held → SetUp variables (k ∷ scope) (marked_as true k before) (slice_set held k (holds cell))
  declared_set scope before held k v cell there frame filled r s = declared_as true scope before held k (holds cell) (λ u marks e q. (is_frame u q, λ m. filled)) r s
    where
      is_frame : (u : PlainVariable) → slice_get variables k ≡ Some u → u.frame ≡ true
      is_frame u q = let same : Some v ≡ Some u = sym there ∙ q in cc

  -- an object
  pub declared_object : (c : Bool) (scope : List ℕ) (before : Settings) (held : List Held) (k o : ℕ) (v : PlainVariable) → slice_get variables k ≡ Some v → v.frame ≡ false → HasRoom held → SetUp variables scope before held → SetUp variables (k ∷ scope) (marked_as c k before) (slice_set held k (stands o))
  declared_object c scope before held k o v there isnt r s = declared_as c scope before held k (stands o) (λ u marks e q. let same : Some v ≡ Some u = sym there ∙ q in cc) r s
