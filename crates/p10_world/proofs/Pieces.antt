-- Bytes that are given or taken piece by piece.
use Rattle.std.proofs.Common.{◌≡◌, ℕ, ◌+◌, ◌-◌, List, ◌++◌, length, take, drop, sym, subst, take-append-drop}
use Rattle.std.proofs.lemmas.List.{drop-drop, length-drop}
use Rattle.std.proofs.Math.Seq.{take-add, take-length}
use lib.Seq.{take_at}
use Rattle.std.specs.Prelude.{Option}
use Rattle.std.specs.Io.KnownBytes.{Appends}
use Rattle.std.proofs.KnownBytes.{Appends-trans}

-- the beginning of the buffer is the next bytes, and the rest of the list follows them
pub piece_given : (xs copied others : List ℕ) (given count : ℕ) → copied ≡ take count (drop given xs) → length copied ≡ count
    → drop given xs ≡ take count (copied ++ others) ++ drop (given + count) xs
piece_given xs copied others given count next whole =
    rw (take_at copied others count whole, next, ← drop-drop count given xs) (sym (take-append-drop count (drop given xs)))

-- a writer that took the first bytes, and then the next of them
pub taken_further : (old middle new : Option (List ℕ)) (bytes : List ℕ) (wrote count : ℕ) → Appends old middle (take wrote bytes) → Appends middle new (take count (drop wrote bytes))
    → Appends old new (take (wrote + count) bytes)
taken_further old middle new bytes wrote count first next =
    subst (Appends old new) (sym (take-add wrote count bytes)) (Appends-trans old middle new _ _ first next)

-- a slice from a place up to the end
pub rest_of : (xs : List ℕ) (place : ℕ) → take (length xs - place) (drop place xs) ≡ drop place xs
rest_of xs place = let whole : length (drop place xs) ≡ length xs - place = length-drop place xs in rw (← whole) (take-length (drop place xs))
