-- Types of what blocks declare, and initialisers, by steps.
use Rattle.std.proofs.Common.{ℕ, ◌*◌, Bool, true, false, not, ◌&&◌, Option, Some, None}
use Rattle.std.specs.Prelude.{nat_le}
use Rattle.p10_base.specs.declared.at.At.{At}
use Rattle.p10_base.specs.declared.codes.SubsetCode.TheVariants as subset
use Rattle.p10_syn.specs.Trees.{Identifier, Specifiers, NoSpecifiers, MoreSpecifiers, Keyword, Typedef, Structure, Enumeration, Declarator, Initializer, Declaration}
use Rattle.p10_core.specs.Types.{PlainType}
use Rattle.p10_core.specs.Sizes.{size_of}
use Rattle.p10_core.specs.Rows.{is_complete}
use Rattle.p10_core.specs.Typed.{PlainInitializer}
use Rattle.p10_core.specs.WholePrograms.{most_bytes}
use Rattle.p10_elabx.specs.First.{Keep}
use Rattle.p10_elabx.specs.Scopes.{unknown_name, local, entered}
use Rattle.p10_elabd.specs.Standing.{PlainStanding, Passed, refusing}
use Rattle.p10_elabd.specs.Words.{is_volatile}
use Rattle.p10_elabd.specs.declared.site.Site.{Site}
use Rattle.p10_elabd.specs.Shapes.{DeclaredType, of_type, of_open_array, of_function, of_part_function, declares_open_array}
use Rattle.p10_elabd.specs.Declaring.{specified}
use Rattle.p10_elabd.specs.Initializers.{initialized, elements_given}
use Rattle.p10_elabd.specs.declared.lifetime.Lifetime.{Lifetime}
use Rattle.p10_elabd.specs.declared.lifetime.Lifetime.TheVariants as life_is
use Rattle.p10_elabs.specs.Locals.{declares_sensors, volatile_noted, allowed_by, is_alone, specified_in, no_initializer, unknown_in, counted_array, without_size, awaiting, awaited, measured, filled_array, is_written, open_noted, object_type, initialized_by}
use Rattle.p10_declaration_steps.specs.Steps.{Steps, same, followed, block_closed}
use Rattle.p10_declaration_steps.proofs.Steps.{over_refusing, over_named, over_declaring, either_way}
use Rattle.p10_declaration_steps.proofs.Declaring.{over_specified}
use Rattle.p10_declaration_steps.proofs.Initializing.{over_surplus, over_initialized}

pub over_volatile : (h : Keep) (may : Bool) (all : Specifiers At) (s : PlainStanding) → Steps h s (volatile_noted h may all s)
over_volatile h may NoSpecifiers s = same s
over_volatile h may (MoreSpecifiers (Keyword at word) rest) s =
    followed (over_refusing h (is_volatile word && not may) subset.BadSpecifier at s) (over_volatile h may rest (refusing h (is_volatile word && not may) subset.BadSpecifier at s))
over_volatile h may (MoreSpecifiers (Typedef name) rest) s = over_volatile h may rest s
over_volatile h may (MoreSpecifiers (Structure at word tag _) rest) s = over_volatile h may rest s
over_volatile h may (MoreSpecifiers (Enumeration at tag constants comma) rest) s = over_volatile h may rest s

pub over_specified_in : (h : Keep) (outside : Bool) (site : Site) (s : PlainStanding) (d : Declaration At) → Steps h s (specified_in h outside site s d).after
over_specified_in h outside site s d =
    let t : Passed PlainType = specified h site (allowed_by d) (is_alone d) s d.specifiers in
    followed (over_specified h site (allowed_by d) (is_alone d) s d.specifiers) (over_volatile h (declares_sensors outside t.made d) d.specifiers t.after)

pub over_no_initializer : (h : Keep) (o : Option (Initializer At)) (s : PlainStanding) → Steps h s (no_initializer h o s)
over_no_initializer h None s = same s
over_no_initializer h (Some i) s = over_surplus h s i

pub over_unknown : (h : Keep) (name : Identifier At) (s : PlainStanding) → Steps h s (unknown_in h name s)
over_unknown h name s = over_declaring h name unknown_name s tt

pub over_counted : (h : Keep) (brackets : At) (t : PlainType) (n : ℕ) (s : PlainStanding) → Steps h s (counted_array h brackets t n s).after
over_counted h brackets t n s = either_way (nat_le (n * size_of s.scope.structures t) most_bytes) s _ _ (same s) (over_refusing h true subset.BadLength brackets s)

pub over_awaiting : (h : Keep) (name : Identifier At) (t : PlainType) (s : PlainStanding) → Steps h (record s { scope = entered s.scope }) (awaiting name t s)
over_awaiting h name t s = over_named h name.name (local 0 (without_size t) false) (record s { scope = entered s.scope }) tt

pub over_awaited : (h : Keep) (name : Identifier At) (t whole : PlainType) (i : Initializer At) (s : PlainStanding) → Steps h s (awaited h name t whole i s)
over_awaited h name t whole i s =
    let p : Passed PlainInitializer = initialized h life_is.Automatic whole (awaiting name t s) i in
    block_closed s p.after (followed (over_awaiting h name t s) (over_initialized h life_is.Automatic whole (awaiting name t s) i))

pub over_measured : (h : Keep) (name : Identifier At) (t : PlainType) (i : Initializer At) (o : Option PlainType) (s : PlainStanding) → Steps h s (measured h name t i o s).after
over_measured h name t i None s = same s
over_measured h name t i (Some whole) s = over_awaited h name t whole i s

pub over_filled : (h : Keep) (name : Identifier At) (brackets : At) (t : PlainType) (i : Initializer At) (n : Option ℕ) (s : PlainStanding) → Steps h s (filled_array h name brackets t i n s).after
over_filled h name brackets t i None s = over_surplus h s i
over_filled h name brackets t i (Some n) s =
    let p : Passed PlainType = counted_array h brackets t n s in
    followed (over_counted h brackets t n s) (over_measured h name t i p.made p.after)

pub over_open : (h : Keep) (at : At) (d : Declarator At) (i : Option (Initializer At)) (s : PlainStanding) → Steps h s (open_noted h at d i s)
over_open h at d i s = over_refusing h (declares_open_array d && not (is_written i)) subset.IncompleteType at s

pub over_object_type : (h : Keep) (name : Identifier At) (brackets : At) (d : DeclaredType) (i : Option (Initializer At)) (s : PlainStanding) → Steps h s (object_type h name brackets d i s).after
over_object_type h name brackets (of_type t) i s = either_way (is_complete s.scope.structures t) s _ _ (same s) (over_refusing h true subset.IncompleteType name.place s)
over_object_type h name brackets (of_open_array t) None s = same s
over_object_type h name brackets (of_open_array t) (Some i) s = over_filled h name brackets t i (elements_given t i) s
over_object_type h name brackets (of_function f) i s = same s
over_object_type h name brackets (of_part_function f) i s = same s

pub over_initialized_by : (h : Keep) (life : Lifetime) (t : PlainType) (i : Option (Initializer At)) (s : PlainStanding) → Steps h s (initialized_by h life t i s).after
over_initialized_by h life t None s = same s
over_initialized_by h life t (Some i) s = over_initialized h life t s i
