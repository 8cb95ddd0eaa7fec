-- What is found in a tree: something, or the rows of the subset that hold in it; and which of them is the first.
use Rattle.std.specs.Prelude.{◌≡◌, Bool, true, false, ◌||◌, ◌&&◌, Result, Ok, Err, Option, Some, None, if◌then◌else◌, nat_lt, nat_le, List, [], ◌∷◌, ◌++◌, ◌⊎◌}
use Rattle.p10_base.specs.declared.at.At.{At}
use Rattle.p10_base.specs.declared.codes.SubsetCode.{SubsetCode}
use Rattle.p10_base.specs.Codes.{subset_number}
use Rattle.p10_elabx.specs.declared.problem.Problem.{Problem}

-- ## Order

-- which of two rows comes first: by the first words of their trees, then by their numbers, then the smaller tree
abbrev pub is_before : Problem → Problem → Bool
is_before a b =
    if nat_lt a.at.first b.at.first then true
    else (if nat_lt b.at.first a.at.first then false
    else (if nat_lt (subset_number a.code) (subset_number b.code) then true
    else (if nat_lt (subset_number b.code) (subset_number a.code) then false
    else nat_le a.at.past b.at.past)))

-- the first of two
abbrev pub least : Problem → Problem → Problem
least a b = if is_before a b then a else b

-- a problem is one of a list
abbrev pub Among : Problem → List Problem → Type 0
Among r [] = ⊥
Among r (q ∷ rest) = (r ≡ q) ⊎ Among r rest

-- a problem is one of those that hold, and none of them is before it
pub record IsFirst (r : Problem) (all : List Problem) : Type 0 where
  pub holds : Among r all
  pub first : (q : Problem) → Among q all → is_before r q ≡ true

-- ## What is found

-- which rows of a tree are kept: every one that holds in it, or only the first
pub data Keep : Type 0 where
  every : Keep
  only_first : Keep

-- the rows of two parts together
abbrev pub joined : Keep → List Problem → List Problem → List Problem
joined only_first (r ∷ rs) (q ∷ qs) = least r q ∷ []
joined h rs qs = rs ++ qs

-- something, or the rows that hold. There is neither where a name is used whose declaration was refused
abbrev pub Found : Type 0 → Type 0
Found A = Result A (List Problem)

-- what one row says of parts that are found: something, or that it holds, or neither
abbrev pub Ruled : Type 0 → Type 0
Ruled A = Result A (Option Problem)

-- the row holds at the tree
abbrev pub refused : {A : Type 0} → SubsetCode → At → Ruled A
refused code at = Err (Some (record { code = code; at = at }))

-- neither something nor a row
abbrev pub nothing_said : {A : Type 0} → Ruled A
nothing_said = Err None

-- the problems of one row
abbrev pub problems : Option Problem → List Problem
problems None = []
problems (Some r) = r ∷ []

-- what one row says, as found
abbrev pub lift : {A : Type 0} → Ruled A → Found A
lift (Ok a) = Ok a
lift (Err r) = Err (problems r)

-- one row after another
abbrev pub ruled : {A B : Type 0} → Ruled A → (A → Ruled B) → Ruled B
ruled (Ok a) go = go a
ruled (Err r) go = Err r

-- both parts
abbrev pub pair : {A B : Type 0} → Keep → Found A → Found B → Found (A × B)
pair h (Ok a) (Ok b) = Ok (a, b)
pair h (Ok a) (Err qs) = Err qs
pair h (Err rs) (Ok b) = Err rs
pair h (Err rs) (Err qs) = Err (joined h rs qs)

-- a row that speaks of the types of the parts: only where none of them is refused
abbrev pub on : {A B : Type 0} → Found A → (A → Ruled B) → Found B
on (Ok a) go = lift (go a)
on (Err rs) go = Err rs

-- a row that speaks of the form: it holds whether or not a part is refused
abbrev pub refused_where : {A : Type 0} → Keep → Bool → SubsetCode → At → Found A → Found A
refused_where h false code at found = found
refused_where h true code at (Ok a) = Err (record { code = code; at = at } ∷ [])
refused_where h true code at (Err rs) = Err (joined h rs (record { code = code; at = at } ∷ []))

-- ## With what counts for the order of evaluation

-- what is found in a tree; whether it has a call or a read of a sensor; and whether it reads an object. The last two count also
-- where the tree is refused
pub record Judged (A : Type 0) : Type 0 where
  pub found : Found A
  pub acts : Bool
  pub reads : Bool

-- a tree without parts
abbrev pub plainly : {A : Type 0} → Ruled A → Judged A
plainly f = record { found = lift f; acts = false; reads = false }

-- a row on the only part of a tree
abbrev pub on_part : {A B : Type 0} → Judged A → (A → Ruled B) → Judged B
on_part j go = record { found = on j.found go; acts = j.acts; reads = j.reads }

-- a row on the two parts of a tree
abbrev pub on_parts : {A B C : Type 0} → Keep → Judged A → Judged B → (A → B → Ruled C) → Judged C
on_parts h j k go = record {
  found = on (pair h j.found k.found) (λ (x, y). go x y);
  acts = j.acts || k.acts;
  reads = j.reads || k.reads;
}

-- a row on the form of a tree
abbrev pub also : {A : Type 0} → Keep → Bool → SubsetCode → At → Judged A → Judged A
also h holds code at j = record j { found = refused_where h holds code at j.found }

-- what counts for the order of evaluation if the tree is evaluated, else nothing
abbrev pub if_evaluated : {A : Type 0} → Bool → Judged A → Judged A
if_evaluated evaluated j = record { found = j.found; acts = evaluated && j.acts; reads = evaluated && j.reads }

-- whether a tree has a call, or reads an object or a sensor
abbrev pub touches : {A : Type 0} → Judged A → Bool
touches j = j.acts || j.reads

-- two operands without a sequence point between them, of which one has a call or a read of a sensor, and the other has a call or
-- a read of an object or sensor (C99 6.5p3)
abbrev pub unordered : {A B : Type 0} → Judged A → Judged B → Bool
unordered j k = (j.acts && touches k) || (touches j && k.acts)
