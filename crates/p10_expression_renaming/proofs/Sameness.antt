-- What is known on the way in two programs: of names, types, arguments and parts of trees.
use Rattle.std.specs.Prelude.{ℕ, List, [], ◌∷◌, Option, Some, None}
use Rattle.p10_base.specs.Words.{Text}
use Rattle.p10_base.specs.declared.at.At.{At}
use Rattle.p10_syn.specs.Trees.{Identifier}
use Rattle.p10_core.specs.declared.typed.Library.{Library}
use Rattle.p10_core.specs.Types.{PlainType}
use Rattle.p10_elabx.specs.First.{Judged}
use Rattle.p10_elabx.specs.Scopes.{Meaning}
use Rattle.p10_elabx.specs.Calls.{Callee, of_program, of_library, not_declared, no_function, refused_before, Wanted, anything, of_type, any_scalar, any_pointer}
use Rattle.p10_elabx.specs.TypeNames.{Shape, a_type, an_open_array, a_function_type}
use Rattle.p10_renaming.specs.Renaming.{Pairing, passing, SameType, SameParameterType}
use Rattle.p10_expression_renaming.specs.Knowing.{Together, SameMeaning, SameTypes, SameParameterTypes}

-- ## Names

pub data SameNamed (R : Pairing) : Option Meaning → Option Meaning → Type 0 where
  same_nothing_named : SameNamed R None None
  same_one_named : {a b : Meaning} → SameMeaning R a b → SameNamed R (Some a) (Some b)

-- names with the same letters
pub data SameName : Option (Identifier At) → Option (Identifier At) → Type 0 where
  same_no_name : SameName None None
  same_name : {at to : At} {name : Text} → SameName (Some (record { place = at; name = name })) (Some (record { place = to; name = name }))

pub data SameMemory : Option (Library × At) → Option (Library × At) → Type 0 where
  same_no_memory : SameMemory None None
  same_memory : {f : Library} {at to : At} → SameMemory (Some (f, at)) (Some (f, to))

-- ## Types

pub data SameMaybeType (R : Pairing) : Option PlainType → Option PlainType → Type 0 where
  same_no_type : SameMaybeType R None None
  same_one_type : {t u : PlainType} → SameType R t u → SameMaybeType R (Some t) (Some u)

pub data SameShape (R : Pairing) : Shape → Shape → Type 0 where
  same_a_type : {t u : PlainType} → SameType R t u → SameShape R (a_type t) (a_type u)
  same_an_open_array : {t u : PlainType} → SameType R t u → SameShape R (an_open_array t) (an_open_array u)
  same_a_function_type : {ts us : List PlainType} {t u : PlainType} → SameTypes R ts us → SameType R t u → SameShape R (a_function_type ts t) (a_function_type us u)

pub data SameSize (R : Pairing) : Option (Judged Shape) → Option (Judged Shape) → Type 0 where
  same_no_size : SameSize R None None
  same_one_size : {j k : Judged Shape} → Together (SameShape R) j.found k.found → SameSize R (Some j) (Some k)

-- ## Calls

pub data SameCallee (R : Pairing) : Callee → Callee → Type 0 where
  same_of_program : {n : ℕ} {ts us : List PlainType} {t u : PlainType} → SameParameterTypes (passing R) ts us → SameType R t u → SameCallee R (of_program n ts t) (of_program n us u)
  same_of_library : {f : Library} → SameCallee R (of_library f) (of_library f)
  same_not_declared : SameCallee R not_declared not_declared
  same_no_function : SameCallee R no_function no_function
  same_refused_before : SameCallee R refused_before refused_before

pub data SameWanted (R : Pairing) : Wanted → Wanted → Type 0 where
  same_anything : SameWanted R anything anything
  same_of_type : {t u : PlainType} → SameParameterType (passing R) t u → SameWanted R (of_type t) (of_type u)
  same_any_scalar : SameWanted R any_scalar any_scalar
  same_any_pointer : SameWanted R any_pointer any_pointer

pub data SameWanteds (R : Pairing) : List Wanted → List Wanted → Type 0 where
  same_nothing_more : SameWanteds R [] []
  same_more_wanted : {a b : Wanted} {xs ys : List Wanted} → SameWanted R a b → SameWanteds R xs ys → SameWanteds R (a ∷ xs) (b ∷ ys)

pub data SameMaybeWanted (R : Pairing) : Option Wanted → Option Wanted → Type 0 where
  same_nothing_wanted : SameMaybeWanted R None None
  same_one_wanted : {a b : Wanted} → SameWanted R a b → SameMaybeWanted R (Some a) (Some b)
