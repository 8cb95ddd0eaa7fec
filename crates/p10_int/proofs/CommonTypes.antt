-- Promotion and the usual conversions, tried at each type.
use Rattle.std.proofs.Common.{◌≡◌, refl}
use Rattle.p10_int.specs.declared.types.IntType.{IntType}
use Rattle.p10_int.specs.declared.types.IntType.TheVariants.{Bool, Char, SChar, UChar, Short, UShort, Int, UInt, Long, ULong, LLong, ULLong}
use Rattle.p10_int.specs.Types.{promoted, common_of, usual_of}

pub promoted_twice : (t : IntType) → promoted (promoted t) ≡ promoted t
promoted_twice Bool = refl
promoted_twice Char = refl
promoted_twice SChar = refl
promoted_twice UChar = refl
promoted_twice Short = refl
promoted_twice UShort = refl
promoted_twice Int = refl
promoted_twice UInt = refl
promoted_twice Long = refl
promoted_twice ULong = refl
promoted_twice LLong = refl
promoted_twice ULLong = refl

-- what holds of the six promoted types
each_promoted : (P : IntType → Type 0) → P Int → P UInt → P Long → P ULong → P LLong → P ULLong → (t : IntType) → P (promoted t)
each_promoted P i u l m k n Bool = i
each_promoted P i u l m k n Char = i
each_promoted P i u l m k n SChar = i
each_promoted P i u l m k n UChar = i
each_promoted P i u l m k n Short = i
each_promoted P i u l m k n UShort = i
each_promoted P i u l m k n Int = i
each_promoted P i u l m k n UInt = u
each_promoted P i u l m k n Long = l
each_promoted P i u l m k n ULong = m
each_promoted P i u l m k n LLong = k
each_promoted P i u l m k n ULLong = n

pub usual_turned : (a b : IntType) → usual_of a b ≡ usual_of b a
usual_turned a b =
    each_promoted (λ a. common_of a (promoted b) ≡ common_of (promoted b) a)
    (each_promoted (λ b. common_of Int b ≡ common_of b Int) refl refl refl refl refl refl b)
    (each_promoted (λ b. common_of UInt b ≡ common_of b UInt) refl refl refl refl refl refl b)
    (each_promoted (λ b. common_of Long b ≡ common_of b Long) refl refl refl refl refl refl b)
    (each_promoted (λ b. common_of ULong b ≡ common_of b ULong) refl refl refl refl refl refl b)
    (each_promoted (λ b. common_of LLong b ≡ common_of b LLong) refl refl refl refl refl refl b)
    (each_promoted (λ b. common_of ULLong b ≡ common_of b ULLong) refl refl refl refl refl refl b)
    a
