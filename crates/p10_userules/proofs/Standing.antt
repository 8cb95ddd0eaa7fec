-- Stretches that stand for parts of a list of occurrences.
use Rattle.std.proofs.Common.{◌≡◌, ℕ, ◌+◌, List, [], ◌∷◌, ◌++◌, length, map, ◌∙◌, ap, arith, append_assoc, length-append}
use Rattle.p10_core.specs.Typed.{PlainStatements, PlainObject}
use Rattle.p10_userules.specs.declared.occurrences.Occurrence.{Occurrence}
use Rattle.p10_userules.specs.declared.parts.Stretch.{Stretch}
use Rattle.p10_userules.specs.declared.parts.BlockParts.{BlockParts}
use Rattle.p10_userules.specs.Occurrences.{occurrences_in_statements}
use Rattle.p10_userules.specs.private.Spreads.{Rises}
use Rattle.p10_userules.specs.private.Outermost.{outermost_among}
use Rattle.p10_userules.specs.private.Laid.{Stands, AllStand, IsBlock, AreBlocks}

-- ## More occurrences around

pub wider : (start : ℕ) (more os after : List Occurrence) (from : ℕ) (t : Stretch) (part : List Occurrence) → from ≡ start + length more → Stands from os t part → Stands start (more ++ (os ++ after)) t part
wider start more os after from t part e s = record {
  front = more ++ s.front;
  back = s.back ++ after;
  is = ap (λ l. more ++ (l ++ after)) s.is ∙ cut more s.front part s.back after;
  starts = omega (arith, s.starts, e, length-append more s.front);
  ends = s.ends;
} where
  cut : (a b c d e : List Occurrence) → a ++ ((b ++ (c ++ d)) ++ e) ≡ (a ++ b) ++ (c ++ (d ++ e))
  cut a b c d e = simp append_assoc

pub all_wider : (start : ℕ) (more os after : List Occurrence) (from : ℕ) (ts : List Stretch) (parts : List (List Occurrence)) → from ≡ start + length more → AllStand from os ts parts → AllStand start (more ++ (os ++ after)) ts parts
all_wider start more os after from [] [] e all = tt
all_wider start more os after from [] (p ∷ ps) e all = absurd all
all_wider start more os after from (t ∷ ts) [] e all = absurd all
all_wider start more os after from (t ∷ ts) (p ∷ ps) e (this, all) = (wider start more os after from t p e this, all_wider start more os after from ts ps e all)

pub block_wider : (objects : List PlainObject) (start : ℕ) (more os after : List Occurrence) (from : ℕ) (b : BlockParts) (p : PlainStatements) → from ≡ start + length more → IsBlock objects from os b p → IsBlock objects start (more ++ (os ++ after)) b p
block_wider objects start more os after from b p e i = record {
  declared = i.declared;
  stand = all_wider start more os after from b.nested (map (occurrences_in_statements objects) (outermost_among p)) e i.stand;
  from = i.from;
  to = i.to;
  rises = i.rises;
}

pub blocks_wider : (objects : List PlainObject) (start : ℕ) (more os after : List Occurrence) (from : ℕ) (bs : List BlockParts) (ps : List PlainStatements) → from ≡ start + length more → AreBlocks objects from os bs ps → AreBlocks objects start (more ++ (os ++ after)) bs ps
blocks_wider objects start more os after from [] [] e all = tt
blocks_wider objects start more os after from [] (p ∷ ps) e all = absurd all
blocks_wider objects start more os after from (b ∷ bs) [] e all = absurd all
blocks_wider objects start more os after from (b ∷ bs) (p ∷ ps) e (this, all) =
    (block_wider objects start more os after from b p e this, blocks_wider objects start more os after from bs ps e all)

-- ## One list after another

pub all_append : (start : ℕ) (os : List Occurrence) (ts us : List Stretch) (ps qs : List (List Occurrence)) → AllStand start os ts ps → AllStand start os us qs → AllStand start os (ts ++ us) (ps ++ qs)
all_append start os [] us [] qs all more = more
all_append start os [] us (p ∷ ps) qs all more = absurd all
all_append start os (t ∷ ts) us [] qs all more = absurd all
all_append start os (t ∷ ts) us (p ∷ ps) qs (this, all) more = (this, all_append start os ts us ps qs all more)

pub blocks_append : (objects : List PlainObject) (start : ℕ) (os : List Occurrence) (bs cs : List BlockParts) (ps qs : List PlainStatements) → AreBlocks objects start os bs ps → AreBlocks objects start os cs qs → AreBlocks objects start os (bs ++ cs) (ps ++ qs)
blocks_append objects start os [] cs [] qs all more = more
blocks_append objects start os [] cs (p ∷ ps) qs all more = absurd all
blocks_append objects start os (b ∷ bs) cs [] qs all more = absurd all
blocks_append objects start os (b ∷ bs) cs (p ∷ ps) qs (this, all) more = (this, blocks_append objects start os bs cs ps qs all more)

pub rises_append : (from : ℕ) (ts : List Stretch) (middle : ℕ) (us : List Stretch) (to : ℕ) → Rises from ts middle → Rises middle us to → Rises from (ts ++ us) to
rises_append from [] middle [] to low high = omega (arith, low, high)
rises_append from [] middle (u ∷ us) to low (first, ordered, rest) = (omega (arith, low, first), ordered, rest)
rises_append from (t ∷ ts) middle us to (first, ordered, rest) high = (first, ordered, rises_append t.end ts middle us to rest high)
