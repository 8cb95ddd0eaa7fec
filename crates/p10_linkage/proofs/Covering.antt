-- Declarations that say no more than those before them: none has to be compared with each.
use Rattle.std.proofs.Common.{◌≡◌, ℕ, suc, ◌+◌, ◌<◌, nat_eq, Bool, true, false, not, ◌&&◌, ◌||◌, if◌then◌else◌, List, [], ◌∷◌, ◌++◌, map, length, take, drop, Option, Some, None, slice_get, slice_index_or, bytes_eq, refl, sym, ◌∙◌, ap, subst, ◌⊎◌, inl, inr}
use Rattle.std.proofs.lemmas.List.{append-nil}
use Rattle.std.specs.Bool.{beq}
use Rattle.p10_base.specs.Words.{Text}
use Rattle.p10_base.proofs.Naming.{same_text}
use Rattle.p10_core.specs.Types.{PlainType, PlainStructure, representative_of}
use Rattle.p10_core.specs.Completing.{AreBuilt}
use Rattle.p10_core.specs.Representing.{represented}
use Rattle.p10_linkage.specs.Linkage.{LinkedType, a_function, an_object, a_part_function, unknown_object, Linked}
use Rattle.p10_linkage.specs.Uniting.{and_then}
use Rattle.p10_linkage.specs.Between.{linked_united, unless_compatible, is_other, agreed_with, agreed}
use Rattle.p10_linkage.specs.Laws.{as_one}
use Rattle.p10_linkage.specs.private.Meetings.{given}
use Rattle.p10_linkage.specs.private.Grouping.{with_row, rows_at, named, grouped_after}
use Rattle.p10_linkage.specs.private.Covering.{kind_as_one, is_all_known, AreAlike, AllAlike, HasAlike, AreCovered, NamesAreCovered, kinds_met, are_alike, all_alike, has_alike, row_alike}
use Rattle.p10_linkage.proofs.Agreements.{same_flag}
use Rattle.p10_linkage.proofs.ByNumbers.{stands_by_number}
use Rattle.p10_linkage.proofs.Groupings.{true_or_false}
use Rattle.p10_linkage.proofs.Joining.{IsJoined, IsKept, joined_itself}
use Rattle.p10_linkage.proofs.OneType.{built_stands, both_true}
use Rattle.p10_linkage.proofs.Sameness.{StandBy, linked_same, kinds_one}
use Rattle.p10_linkage.proofs.Turns.{agreed_kept, rows_append, row_at, named_append, take_more, after}
use Rattle.p10_linkage.proofs.UnitedAlike.{one_through, same_marks, first_true}

-- ## A declaration with those before it

either_way : {A : Type 0} (b : Bool) (x y : A) → x ≡ y → (if b then x else y) ≡ y
either_way true x y e = e
either_way false x y e = refl

-- where two declarations are alike they agree, and nothing changes
agreed_alike : (l now : Linked) (ss : List PlainStructure) → AreAlike ss l now → agreed_with l now ss ≡ Some ss
agreed_alike l now ss a =
    either_way (is_other l now) _ (Some ss)
    (ap (λ b. if b then unless_compatible l now ss (linked_united l now ss) else None) (ap (λ c. beq l.sensor c) (sym a.marks) ∙ same_flag l.sensor)
    ∙ ap (unless_compatible l now ss) (linked_same l now ss a.known a.types))

-- nor does it where one is internal to its root
agreed_apart : (l now : Linked) (ss : List PlainStructure) → (l.internal || now.internal) ≡ true → agreed_with l now ss ≡ Some ss
agreed_apart l now ss e =
    ap (λ b. if b then (if beq l.sensor now.sensor then unless_compatible l now ss (linked_united l now ss) else None) else Some ss)
    (ap (λ b. not (nat_eq l.root now.root) && (bytes_eq l.name now.name && not b)) e ∙ no_other (not (nat_eq l.root now.root)) (bytes_eq l.name now.name))
  where
    no_other : (a b : Bool) → (a && (b && false)) ≡ false
    no_other true true = refl
    no_other true false = refl
    no_other false b = refl

-- ## Declarations that are alike

known_as_one : (ss : List PlainStructure) (t : LinkedType) → is_all_known (kind_as_one ss t) ≡ is_all_known t
known_as_one ss (a_function ts r) = refl
known_as_one ss (an_object t) = refl
known_as_one ss (a_part_function p) = refl
known_as_one ss unknown_object = refl

-- two that are like a third one are alike
both_alike : (k l now : Linked) (ss : List PlainStructure) → AreAlike ss k l → AreAlike ss k now → AreAlike ss l now
both_alike k l now ss a b = record {
  marks = sym a.marks ∙ b.marks;
  known = sym (known_as_one ss l.type) ∙ ap is_all_known (sym a.types) ∙ known_as_one ss k.type ∙ a.known;
  types = sym a.types ∙ b.types;
}

-- a declaration is alike to another one where it is or is like what is like it
from_kept : (ks : List Linked) (l now : Linked) (ss : List PlainStructure) → HasAlike ss ks l → AllAlike ss ks now → AreAlike ss l now
from_kept [] l now ss h a = absurd h
from_kept (k ∷ ks) l now ss (inl (inl same)) a = subst (λ x. AreAlike ss x now) same a.0
from_kept (k ∷ ks) l now ss (inl (inr like)) a = both_alike k l now ss like a.0
from_kept (k ∷ ks) l now ss (inr rest) a = from_kept ks l now ss rest a.1

after_one : (l now : Linked) (ls : List Linked) (ss : List PlainStructure) → agreed_with l now ss ≡ Some ss → agreed ls now ss ≡ Some ss → agreed (l ∷ ls) now ss ≡ Some ss
after_one l now ls ss one rest = ap (λ o. and_then o (agreed ls now)) one ∙ rest

none_compared : (ls : List Linked) (now : Linked) (ss : List PlainStructure) → now.internal ≡ true → agreed ls now ss ≡ Some ss
none_compared [] now ss e = refl
none_compared (l ∷ ls) now ss e = after_one l now ls ss (agreed_apart l now ss (ap (λ b. l.internal || b) e ∙ at_all l.internal)) (none_compared ls now ss e)
  where
    at_all : (b : Bool) → (b || true) ≡ true
    at_all true = refl
    at_all false = refl

all_covered : (ls ks : List Linked) (now : Linked) (ss : List PlainStructure) → AreCovered ss ks ls → AllAlike ss ks now → agreed ls now ss ≡ Some ss
all_covered [] ks now ss c a = refl
all_covered (l ∷ ls) ks now ss c a = after_one l now ls ss (one (true_or_false l.internal)) (all_covered ls ks now ss c.1 a)
  where
    one : (l.internal ≡ true) ⊎ (l.internal ≡ false) → agreed_with l now ss ≡ Some ss
    one (inl e) = agreed_apart l now ss (ap (λ b. b || now.internal) e)
    one (inr e) = agreed_alike l now ss (from_kept ks l now ss (c.0 e) a)

-- ## What the code tells

alike_is : (numbers : List ℕ) (ss : List PlainStructure) → StandBy numbers ss → (l now : Linked) → are_alike numbers l now ≡ true → AreAlike ss l now
alike_is numbers ss h l now e =
    let kinds : (is_all_known l.type ≡ true) × (kind_as_one ss l.type ≡ kind_as_one ss now.type) =
    kinds_one numbers ss h l.type now.type (both_true (beq l.sensor now.sensor) (kinds_met numbers l.type now.type) e) in
    record { marks = same_marks l.sensor now.sensor (first_true (beq l.sensor now.sensor) (kinds_met numbers l.type now.type) e); known = kinds.0; types = kinds.1 }

all_are : (numbers : List ℕ) (ss : List PlainStructure) → StandBy numbers ss → (ks : List Linked) (now : Linked) → all_alike numbers ks now ≡ true → AllAlike ss ks now
all_are numbers ss h [] now e = tt
all_are numbers ss h (k ∷ ks) now e = (
  alike_is numbers ss h k now (first_true (are_alike numbers k now) (all_alike numbers ks now) e),
  all_are numbers ss h ks now (both_true (are_alike numbers k now) (all_alike numbers ks now) e),
)

one_is : (numbers : List ℕ) (ss : List PlainStructure) → StandBy numbers ss → (ks : List Linked) (now : Linked) → has_alike numbers ks now ≡ true → HasAlike ss ks now
one_is numbers ss h [] now e = absurd cc
one_is numbers ss h (k ∷ ks) now e = by (are_alike numbers k now) refl e (one_is numbers ss h ks now)
  where
    by : (b : Bool) → are_alike numbers k now ≡ b → (b || has_alike numbers ks now) ≡ true → (has_alike numbers ks now ≡ true → HasAlike ss ks now) → HasAlike ss (k ∷ ks) now
    by true is e rest = inl (inr (alike_is numbers ss h k now is))
    by false is e rest = inr (rest e)

either_true : (a b : Bool) → (a || b) ≡ true → (a ≡ true) ⊎ (b ≡ true)
either_true true b e = inl refl
either_true false b e = inr e

-- a declaration that says no more than those before it agrees with them
pub says_no_more : (ls ks : List Linked) (now : Linked) (structures : List PlainStructure) (numbers : List ℕ) (b : Bool) → length numbers ≡ length structures →
    AreCovered (represented structures numbers) ks ls → b ≡ (now.internal || all_alike numbers ks now) → b ≡ true →
    given true (represented structures numbers) ≡ agreed ls now (represented structures numbers)
says_no_more ls ks now structures numbers b long c is so =
    elim (either_true now.internal (all_alike numbers ks now) (sym is ∙ so)) as (λ _. Some (represented structures numbers) ≡ agreed ls now (represented structures numbers)) [
      | inl internal ↦ sym (none_compared ls now (represented structures numbers) internal)
      | inr alike ↦ sym (all_covered ls ks now (represented structures numbers) c (all_are numbers (represented structures numbers) (λ n. stands_by_number structures numbers n long) ks now alike))
    ]

-- ## More structures that are one

types_through : (ss ts : List PlainStructure) → IsJoined ss ts → (us : List PlainType) → map (as_one ts) (map (as_one ss) us) ≡ map (as_one ts) us
types_through ss ts j [] = refl
types_through ss ts j (u ∷ us) = λ i. one_through ss ts j u i ∷ types_through ss ts j us i

kind_through : (ss ts : List PlainStructure) → IsJoined ss ts → (t : LinkedType) → kind_as_one ts (kind_as_one ss t) ≡ kind_as_one ts t
kind_through ss ts j (a_function us r) = λ i. a_function (types_through ss ts j us i) (one_through ss ts j r i)
kind_through ss ts j (an_object t) = ap an_object (one_through ss ts j t)
kind_through ss ts j (a_part_function p) = refl
kind_through ss ts j unknown_object = refl

alike_joined : (ss ts : List PlainStructure) → IsJoined ss ts → (k l : Linked) → AreAlike ss k l → AreAlike ts k l
alike_joined ss ts j k l a = record {
  marks = a.marks;
  known = a.known;
  types = sym (kind_through ss ts j k.type) ∙ ap (kind_as_one ts) a.types ∙ kind_through ss ts j l.type;
}

-- what is or is like one of some declarations is so of more, where more structures are one
has_more : (ss ts : List PlainStructure) → IsJoined ss ts → (ks more : List Linked) (l : Linked) → HasAlike ss ks l → HasAlike ts (ks ++ more) l
has_more ss ts j [] more l h = absurd h
has_more ss ts j (k ∷ ks) more l (inl (inl same)) = inl (inl same)
has_more ss ts j (k ∷ ks) more l (inl (inr like)) = inl (inr (alike_joined ss ts j k l like))
has_more ss ts j (k ∷ ks) more l (inr rest) = inr (has_more ss ts j ks more l rest)

has_itself : (ss : List PlainStructure) (ks : List Linked) (l : Linked) → HasAlike ss (ks ++ l ∷ []) l
has_itself ss [] l = inl (inl refl)
has_itself ss (k ∷ ks) l = inr (has_itself ss ks l)

cover_more : (ss ts : List PlainStructure) → IsJoined ss ts → (ks more ls : List Linked) → AreCovered ss ks ls → AreCovered ts (ks ++ more) ls
cover_more ss ts j ks more [] c = tt
cover_more ss ts j ks more (l ∷ ls) c = (λ outer. has_more ss ts j ks more l (c.0 outer), cover_more ss ts j ks more ls c.1)

cover_both : (ss : List PlainStructure) (ks ls more : List Linked) → AreCovered ss ks ls → AreCovered ss ks more → AreCovered ss ks (ls ++ more)
cover_both ss ks [] more c d = d
cover_both ss ks (l ∷ ls) more c d = (c.0, cover_both ss ks ls more c.1 d)

-- structures that are one before a turn are one after it
pub turn_joined : (agrees : Bool) (ls : List Linked) (now : Linked) (ss rs : List PlainStructure) → AreBuilt ss → given agrees rs ≡ agreed ls now ss → (agrees ≡ false → rs ≡ ss) → IsJoined ss rs
turn_joined true ls now ss rs b e same = (agreed_kept ls now ss rs (built_stands ss b) (sym e)).joined
turn_joined false ls now ss rs b e same = subst (IsJoined ss) (sym (same refl)) (joined_itself ss (built_stands ss b))

-- the declarations of each name are covered after one more is noted
pub covered_turn : (all : List Linked) (k : ℕ) (now : Linked) (ss structures : List PlainStructure) (numbers : List ℕ) (kept new : Text → List ℕ) → length numbers ≡ length structures →
    slice_get all k ≡ Some now → IsJoined ss (represented structures numbers) → NamesAreCovered ss all k kept →
    ((name : Text) → new name ≡ grouped_after (not (now.internal || has_alike numbers (rows_at (kept now.name) all) now)) now.name k name (kept name)) →
    NamesAreCovered (represented structures numbers) all (k + 1) new
covered_turn all k now ss structures numbers kept new long there joined before is name = subst (AreCovered rs after_turn) (sym first_ones) (by_name (true_or_false (bytes_eq now.name name)))
  where
    rs : List PlainStructure
    rs = represented structures numbers

    told : Bool
    told = now.internal || has_alike numbers (rows_at (kept now.name) all) now

    ls : List Linked
    ls = named (λ (l : Linked). l.name) name (take k all)

    ks : List Linked
    ks = rows_at (kept name) all

    after_turn : List Linked
    after_turn = rows_at (new name) all

    first_ones : named (λ (l : Linked). l.name) name (take (k + 1) all) ≡ ls ++ named (λ (l : Linked). l.name) name (now ∷ [])
    first_ones =
        ap (λ n. named (λ (l : Linked). l.name) name (take n all)) (sym (after k))
        ∙ ap (named (λ (l : Linked). l.name) name) (take_more all k now there)
        ∙ named_append (λ (l : Linked). l.name) name (take k all) now

    placed : (b t : Bool) → bytes_eq now.name name ≡ b → told ≡ t → new name ≡ (if b && not t then kept name ++ k ∷ [] else kept name)
    placed b t e f = is name ∙ (λ i. if e i && not (f i) then kept name ++ k ∷ [] else kept name)

    same_rows : new name ≡ kept name → after_turn ≡ ks
    same_rows e = ap (λ places. rows_at places all) e

    more_rows : new name ≡ kept name ++ k ∷ [] → after_turn ≡ ks ++ now ∷ []
    more_rows e = ap (λ places. rows_at places all) e ∙ rows_append all (kept name) k ∙ ap (λ o. ks ++ with_row o []) there

    both : (b : Bool) → bytes_eq now.name name ≡ b → (more : List Linked) → after_turn ≡ ks ++ more → AreCovered rs after_turn (if b then now ∷ [] else []) →
        AreCovered rs after_turn (ls ++ (if bytes_eq now.name name then now ∷ [] else []))
    both b e more grown here =
        subst (λ t. AreCovered rs after_turn (ls ++ (if t then now ∷ [] else []))) (sym e)
        (cover_both rs after_turn ls (if b then now ∷ [] else []) (subst (λ xs. AreCovered rs xs ls) (sym grown) (cover_more ss rs joined ks more ls (before name))) here)

    alike_here : bytes_eq now.name name ≡ true → told ≡ true → now.internal ≡ false → HasAlike rs ks now
    alike_here e t outer =
        subst (λ n. HasAlike rs (rows_at (kept n) all) now) (same_text now.name name e)
        (one_is numbers rs (λ n. stands_by_number structures numbers n long) (rows_at (kept now.name) all) now
        (sym (ap (λ b. b || has_alike numbers (rows_at (kept now.name) all) now) outer) ∙ t))

    by_told : bytes_eq now.name name ≡ true → (told ≡ true) ⊎ (told ≡ false) → AreCovered rs after_turn (ls ++ (if bytes_eq now.name name then now ∷ [] else []))
    by_told e (inl t) =
        let same : after_turn ≡ ks = same_rows (placed true true e t) in
        both true e [] (same ∙ sym (append-nil ks)) (λ outer. subst (λ xs. HasAlike rs xs now) (sym same) (alike_here e t outer), tt)
    by_told e (inr t) =
        let grown : after_turn ≡ ks ++ now ∷ [] = more_rows (placed true false e t) in
        both true e (now ∷ []) grown (λ outer. subst (λ xs. HasAlike rs xs now) (sym grown) (has_itself rs ks now), tt)

    by_name : (bytes_eq now.name name ≡ true) ⊎ (bytes_eq now.name name ≡ false) → AreCovered rs after_turn (ls ++ (if bytes_eq now.name name then now ∷ [] else []))
    by_name (inl e) = by_told e (true_or_false told)
    by_name (inr e) = both false e [] (same_rows (is name ∙ ap (λ b. if b && not told then kept name ++ k ∷ [] else kept name) e) ∙ sym (append-nil ks)) tt

-- ## Turns of the loops over kept declarations

row_all : (numbers : List ℕ) (o : Option Linked) (rest : List Linked) (now : Linked) → all_alike numbers (with_row o rest) now ≡ (row_alike numbers true o now && all_alike numbers rest now)
row_all numbers None rest now = refl
row_all numbers (Some l) rest now = refl

row_has : (numbers : List ℕ) (o : Option Linked) (rest : List Linked) (now : Linked) → has_alike numbers (with_row o rest) now ≡ (row_alike numbers false o now || has_alike numbers rest now)
row_has numbers None rest now = refl
row_has numbers (Some l) rest now = refl

-- each is like another one where the next one is, and those after it
pub all_on : (numbers places : List ℕ) (k : ℕ) (all : List Linked) (now : Linked) → k < length places →
    all_alike numbers (rows_at (drop k places) all) now ≡ (row_alike numbers true (slice_get all (slice_index_or places k 0)) now && all_alike numbers (rows_at (drop (k + 1) places) all) now)
all_on numbers places k all now h =
    ap (λ ns. all_alike numbers (rows_at ns all) now) (row_at places k h)
    ∙ row_all numbers (slice_get all (slice_index_or places k 0)) (rows_at (drop (k + 1) places) all) now

-- one is where the next one is, or one after it
pub has_on : (numbers places : List ℕ) (k : ℕ) (all : List Linked) (now : Linked) → k < length places →
    has_alike numbers (rows_at (drop k places) all) now ≡ (row_alike numbers false (slice_get all (slice_index_or places k 0)) now || has_alike numbers (rows_at (drop (k + 1) places) all) now)
has_on numbers places k all now h =
    ap (λ ns. has_alike numbers (rows_at ns all) now) (row_at places k h)
    ∙ row_has numbers (slice_get all (slice_index_or places k 0)) (rows_at (drop (k + 1) places) all) now
