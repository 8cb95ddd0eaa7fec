-- Steps that keep scopes whole.
use Rattle.std.proofs.Common.{◌≡◌, refl, arith, ℕ, zero, suc, ◌<◌, Bool, true, false, List, [], ◌∷◌, ◌++◌, length, take, drop, Option, Some}
use Rattle.std.specs.Prelude.{if◌then◌else◌}
use Rattle.std.proofs.lemmas.List.{length-append}
use Rattle.p10_base.specs.Words.{Text}
use Rattle.p10_core.specs.Types.{structure, PlainStructure}
use Rattle.p10_core.specs.WholePrograms.{AreWholeStructures}
use Rattle.p10_core.specs.Completing.{incomplete_structure, with_structure}
use Rattle.p10_elabx.specs.Scopes.{Meaning, number, named_type, tagged_type, is_tag, Binding, PlainScope, last_floor, entered, left, declared}
use Rattle.p10_elabd.specs.Tags.{with_tag}
use Rattle.p10_wholeness.specs.Growth.{AreMore, StayBuilt}
use Rattle.p10_wholeness.specs.Names.{IsWholeMeaning, AreWholeMeanings, KeepScope}
use Rattle.p10_wholeness.proofs.Growth.{built_itself, builds_on, one_more_stays_built, types_stay_whole}

-- what holds of both ways of a test
pub test_either : {A : Type 0} (Q : A → Type 0) (b : Bool) (x y : A) → (b ≡ true → Q x) → (b ≡ false → Q y) → Q (if b then x else y)
test_either Q true x y h k = h refl
test_either Q false x y h k = k refl

-- ## Names

meaning_stays : (ss ts : List PlainStructure) → AreWholeStructures ss → AreMore ss ts → (m : Meaning) → IsWholeMeaning ss m → IsWholeMeaning ts m
meaning_stays ss ts w g (named_type t) h = (types_stay_whole ss ts t w g).whole h
meaning_stays ss ts w g (tagged_type t) h = (types_stay_whole ss ts t w g).whole h
meaning_stays ss ts w g (number z) h = h
meaning_stays ss ts w g m h = tt

pub meanings_stay : (ss ts : List PlainStructure) → AreWholeStructures ss → AreMore ss ts → (bs : List Binding) → AreWholeMeanings ss bs → AreWholeMeanings ts bs
meanings_stay ss ts w g [] h = tt
meanings_stay ss ts w g (b ∷ bs) h = (meaning_stays ss ts w g b.what h.0, meanings_stay ss ts w g bs h.1)

pub joined_meanings : (ss : List PlainStructure) (bs cs : List Binding) → AreWholeMeanings ss bs → AreWholeMeanings ss cs → AreWholeMeanings ss (bs ++ cs)
joined_meanings ss [] cs h k = k
joined_meanings ss (b ∷ bs) cs h k = (h.0, joined_meanings ss bs cs h.1 k)

taken_meanings : (ss : List PlainStructure) (n : ℕ) (bs : List Binding) → AreWholeMeanings ss bs → AreWholeMeanings ss (take n bs)
taken_meanings ss zero bs h = tt
taken_meanings ss (suc n) [] h = tt
taken_meanings ss (suc n) (b ∷ bs) h = (h.0, taken_meanings ss n bs h.1)

pub dropped_meanings : (ss : List PlainStructure) (n : ℕ) (bs : List Binding) → AreWholeMeanings ss bs → AreWholeMeanings ss (drop n bs)
dropped_meanings ss zero bs h = h
dropped_meanings ss (suc n) [] h = tt
dropped_meanings ss (suc n) (b ∷ bs) h = dropped_meanings ss n bs h.1

-- ## Scopes

pub keep_itself : (s : PlainScope) → KeepScope s s
keep_itself s = record { tables = built_itself s.structures; whole = λ w. w }

pub keeps_on : {s t u : PlainScope} → KeepScope s t → KeepScope t u → KeepScope s u
keeps_on a b = record { tables = builds_on a.tables b.tables; whole = λ w. b.whole (a.whole w) }

either_scope : (b : Bool) (s x y : PlainScope) → KeepScope s x → KeepScope s y → KeepScope s (if b then x else y)
either_scope true s x y h k = h
either_scope false s x y h k = k

-- a name more
pub one_name : (s : PlainScope) (b : Binding) → IsWholeMeaning s.structures b.what → KeepScope s (record s { names = s.names ++ b ∷ [] })
one_name s b m = record {
  tables = built_itself s.structures;
  whole = λ w. record { built = w.built; names = joined_meanings s.structures s.names (b ∷ []) w.names (m, tt); tags = w.tags };
}

pub one_tag : (s : PlainScope) (b : Binding) → IsWholeMeaning s.structures b.what → KeepScope s (record s { tags = s.tags ++ b ∷ [] })
one_tag s b m = record {
  tables = built_itself s.structures;
  whole = λ w. record { built = w.built; names = w.names; tags = joined_meanings s.structures s.tags (b ∷ []) w.tags (m, tt) };
}

keep_name : (s : PlainScope) (name : Text) (what : Meaning) → IsWholeMeaning s.structures what → KeepScope s (declared s name what)
keep_name s name what m =
    let b : Binding = record { name = name; what = what } in
    either_scope (is_tag what) s (record s { tags = s.tags ++ b ∷ [] }) (record s { names = s.names ++ b ∷ [] }) (one_tag s b m) (one_name s b m)

-- other structures, which are well built where those before are, and more
pub keep_more : (s : PlainScope) (ts : List PlainStructure) → StayBuilt s.structures ts → KeepScope s (record s { structures = ts })
keep_more s ts b = record {
  tables = b;
  whole = λ w. record {
    built = b.built w.built;
    names = meanings_stay s.structures ts w.built.whole b.more s.names w.names;
    tags = meanings_stay s.structures ts w.built.whole b.more s.tags w.tags;
  };
}

pub keep_structure : (s : PlainScope) (tag : Option Text) → KeepScope s (record s { structures = with_structure s.structures tag })
keep_structure s tag = keep_more s (with_structure s.structures tag) (one_more_stays_built s.structures tag)

pub last_there : (ss : List PlainStructure) (tag : Option Text) → length ss < length (with_structure ss tag)
last_there ss tag = omega (arith, length-append ss (incomplete_structure (length ss) tag ∷ []))

pub keep_tag : (s : PlainScope) (name : Text) → KeepScope s (with_tag s name)
keep_tag s name =
    let ts : List PlainStructure = with_structure s.structures (Some name) in
    keeps_on (keep_structure s (Some name)) (keep_name (record s { structures = ts }) name (tagged_type (structure false (length s.structures))) (last_there s.structures (Some name)))

-- ## Blocks

pub keep_entered : (s : PlainScope) → KeepScope s (entered s)
keep_entered s = record { tables = built_itself s.structures; whole = λ w. record { built = w.built; names = w.names; tags = w.tags } }

pub keep_left : (s : PlainScope) → KeepScope s (left s)
keep_left s = record {
  tables = built_itself s.structures;
  whole = λ w. record {
    built = w.built;
    names = taken_meanings s.structures (last_floor s.floors).0 s.names w.names;
    tags = taken_meanings s.structures (last_floor s.floors).1 s.tags w.tags;
  };
}
