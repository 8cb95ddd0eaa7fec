-- What stretches of a list of occurrences stand for: functions, and blocks in them.
use Rattle.std.specs.Prelude.{◌≡◌, ℕ, ◌+◌, List, [], ◌∷◌, ◌++◌, length, map}
use Rattle.p10_core.specs.Typed.{PlainStatements, PlainFunction, PlainObject}
use Rattle.p10_userules.specs.declared.occurrences.Occurrence.{Occurrence}
use Rattle.p10_userules.specs.declared.parts.Stretch.{Stretch}
use Rattle.p10_userules.specs.declared.parts.BlockParts.{BlockParts}
use Rattle.p10_userules.specs.Occurrences.{occurrences_in_statements}
use Rattle.p10_userules.specs.Blocks.{declared_among, blocks_of}
use Rattle.p10_userules.specs.private.Spreads.{Rises}
use Rattle.p10_userules.specs.private.Outermost.{outermost_among}

-- a stretch stands for a part of the occurrences from a place on
pub record Stands (start : ℕ) (os : List Occurrence) (t : Stretch) (part : List Occurrence) : Type 0 where
  pub front : List Occurrence
  pub back : List Occurrence
  pub is : os ≡ front ++ (part ++ back)
  pub starts : t.start ≡ start + length front
  pub ends : t.end ≡ t.start + length part

-- stretches stand for parts, each for one
abbrev pub AllStand : ℕ → List Occurrence → List Stretch → List (List Occurrence) → Type 0
AllStand start os [] [] = Unit {0}
AllStand start os [] (p ∷ ps) = ⊥
AllStand start os (t ∷ ts) [] = ⊥
AllStand start os (t ∷ ts) (p ∷ ps) = Stands start os t p × AllStand start os ts ps

-- what is known of a block is so, whose function has these occurrences from a place on
pub record IsBlock (objects : List PlainObject) (start : ℕ) (os : List Occurrence) (b : BlockParts) (items : PlainStatements) : Type 0 where
  pub declared : b.declared ≡ declared_among items
  pub stand : AllStand start os b.nested (map (occurrences_in_statements objects) (outermost_among items))
  pub from : ℕ
  pub to : ℕ
  pub rises : Rises from b.nested to

-- the same for blocks, each of one
abbrev pub AreBlocks : List PlainObject → ℕ → List Occurrence → List BlockParts → List PlainStatements → Type 0
AreBlocks objects start os [] [] = Unit {0}
AreBlocks objects start os [] (p ∷ ps) = ⊥
AreBlocks objects start os (b ∷ bs) [] = ⊥
AreBlocks objects start os (b ∷ bs) (p ∷ ps) = IsBlock objects start os b p × AreBlocks objects start os bs ps

-- what is known of a function is so, in a program with these occurrences
pub record IsFunction (objects : List PlainObject) (all : List Occurrence) (f : PlainFunction) (t : Stretch) (blocks : List BlockParts) : Type 0 where
  pub stands : Stands 0 all t (occurrences_in_statements objects f.body)
  pub are : AreBlocks objects t.start (occurrences_in_statements objects f.body) blocks (blocks_of f)

-- the same for functions, each of one
abbrev pub AreFunctions : List PlainObject → List Occurrence → List PlainFunction → List Stretch → List (List BlockParts) → Type 0
AreFunctions objects all [] [] [] = Unit {0}
AreFunctions objects all [] [] (b ∷ bs) = ⊥
AreFunctions objects all [] (t ∷ ts) bs = ⊥
AreFunctions objects all (f ∷ fs) [] bs = ⊥
AreFunctions objects all (f ∷ fs) (t ∷ ts) [] = ⊥
AreFunctions objects all (f ∷ fs) (t ∷ ts) (b ∷ bs) = IsFunction objects all f t b × AreFunctions objects all fs ts bs
