-- What declarators make of whole types is whole.
use Rattle.std.proofs.Common.{◌≡◌, refl, ℕ, ◌+◌, ◌≤◌, ℤ, pos, negsuc, Bool, true, false, ◌&&◌, inl, inr, List, [], ◌∷◌, ◌++◌, Option, Some, None, Result, Ok, Err, nat_le}
use Rattle.std.specs.Prelude.{if◌then◌else◌, option_map}
use Rattle.std.proofs.lemmas.Bool.{leb-true}
use Rattle.p10_base.specs.declared.at.At.{At}
use Rattle.p10_base.specs.declared.codes.SubsetCode.TheVariants as subset
use Rattle.p10_syn.specs.Trees.{Qualifier, Expression, Absent, Present, Declarator, Named, Unnamed, Pointer, Parenthesised, Array, Function, Parameters, NoParameters, MoreParameters, Parameter, parameter}
use Rattle.p10_core.specs.Types.{PlainType, void, integer, pointer, array, structure, PlainStructure}
use Rattle.p10_core.specs.Sizes.{size_of}
use Rattle.p10_core.specs.Typed.{PlainValue, at_of, type_of}
use Rattle.p10_core.specs.Rows.{is_void, is_integer, is_complete}
use Rattle.p10_core.specs.Constants.{inconstant_part, fold}
use Rattle.p10_core.specs.WholePrograms.{most_bytes, IsWholeType, IsObjectType, IsResult}
use Rattle.p10_elabx.specs.First.{Keep, Found, Ruled, ruled, refused, lift, on}
use Rattle.p10_elabx.specs.Operators.{has_size}
use Rattle.p10_elabx.specs.Scopes.{PlainScope, last_floor}
use Rattle.p10_elabx.specs.declared.shape.Length.{Length}
use Rattle.p10_elabx.specs.TypeNames.{other_word, has_const_word, array_length, counted_length, folded_length, constant_length, length_found, declarator_place}
use Rattle.p10_elabx.proofs.WholeParts.{IfFound, IfRuled, if_on}
use Rattle.p10_elabd.specs.Standing.{PlainStanding, Passed, passed, nothing_made, refusing, noted}
use Rattle.p10_elabd.specs.declared.site.Site.TheVariants as site_is
use Rattle.p10_elabd.specs.declared.declaration.ParameterList.{ParameterList}
use Rattle.p10_elabd.specs.declared.declaration.ParameterList.TheVariants as list_is
use Rattle.p10_elabd.specs.Words.{none_allowed}
use Rattle.p10_elabd.specs.Expressions.{value_found, value_by, for_expression}
use Rattle.p10_elabd.specs.Shapes.{PlainParameter, ListedParameter, DeclaredType, of_type, of_open_array, of_function, of_part_function, name_in, place_or, declares_function, pointed_to, pointer_declared, element_declared, array_with, array_declared, open_declared, array_inside, function_inside, result_type, result_declared, plain_parameter_type, parameter_declared, among_parameters, list_of, before_known, known_parameters, function_of, function_declared}
use Rattle.p10_elabd.specs.Declaring.{with_parameter, Listing, none_listed, is_no_parameter, based, with_declared_parameter, declarator_passed, all_parameters_passed, only_parameter_passed, parameters_passed, one_parameter_passed, specified}
use Rattle.p10_wholeness.specs.Names.{IfMade, IsWholeScope, IsWholeParameter, AreWholeParameters, IsWholeDeclared}
use Rattle.p10_wholeness.specs.Laws.{Keeps, MadeDeclared, MadeTypesAreWhole}
use Rattle.p10_wholeness.proofs.Growth.{complete_kept}
use Rattle.p10_wholeness.proofs.Scopes.{test_either, keeps_on, meanings_stay, dropped_meanings, keep_entered, keep_left}
use Rattle.p10_declaration_steps.proofs.Steps.{over_refusing, over_value}
use Rattle.p10_declaration_steps.proofs.Shaping.{over_pointer, over_element, over_array, over_array_inside, over_function_inside, over_result, over_parameter, over_with_parameter}
use Rattle.p10_declaration_steps.proofs.Declaring.{over_declarator, over_all_parameters, over_one_parameter, over_specified}
use Rattle.p10_wholeness.proofs.Making.{made_map, type_moves, specified_made}
use Rattle.p10_wholeness.proofs.Keeping.{kept}

-- ## What is whole stays whole

object_moves : (s t : PlainStanding) → Keeps s t → IsWholeScope s.scope → (u : PlainType) → IsObjectType s.scope.structures u → IsObjectType t.scope.structures u
object_moves s t k w u h = record { whole = type_moves s t k w u h.whole; complete = complete_kept s.scope.structures t.scope.structures k.tables.more u h.complete }

parameter_moves : (s t : PlainStanding) → Keeps s t → IsWholeScope s.scope → (u : PlainType) → IsWholeParameter s.scope.structures u → IsWholeParameter t.scope.structures u
parameter_moves s t k w u h = record { whole = type_moves s t k w u h.whole; scalar = h.scalar }

parameters_move : (s t : PlainStanding) → Keeps s t → IsWholeScope s.scope → (ps : List PlainParameter) → AreWholeParameters s.scope.structures ps → AreWholeParameters t.scope.structures ps
parameters_move s t k w [] h = tt
parameters_move s t k w (p ∷ ps) h = (parameter_moves s t k w p.type h.0, parameters_move s t k w ps h.1)

result_moves : (s t : PlainStanding) → Keeps s t → IsWholeScope s.scope → (u : PlainType) → IsResult s.scope.structures u → IsResult t.scope.structures u
result_moves s t k w u h = record { whole = type_moves s t k w u h.whole; scalar_or_none = h.scalar_or_none }

pub declared_moves : (s t : PlainStanding) → Keeps s t → IsWholeScope s.scope → (d : DeclaredType) → IsWholeDeclared s.scope.structures d → IsWholeDeclared t.scope.structures d
declared_moves s t k w (of_type u) h = type_moves s t k w u h
declared_moves s t k w (of_open_array u) h = object_moves s t k w u h
declared_moves s t k w (of_function f) h = record {
  parameters = parameters_move s t k w f.parameters h.parameters;
  result = result_moves s t k w f.result h.result;
  names = meanings_stay s.scope.structures t.scope.structures w.built.whole k.tables.more f.names h.names;
  tags = meanings_stay s.scope.structures t.scope.structures w.built.whole k.tables.more f.tags h.tags;
}
declared_moves s t k w (of_part_function f) h = tt

pub made_moves : (s t : PlainStanding) → Keeps s t → IsWholeScope s.scope → (o : Option DeclaredType) → IfMade (IsWholeDeclared s.scope.structures) o → IfMade (IsWholeDeclared t.scope.structures) o
made_moves s t k w o h = made_map (IsWholeDeclared s.scope.structures) (IsWholeDeclared t.scope.structures) (declared_moves s t k w) o h

-- ## Pointers

pointed_made : (h : Keep) (at name_at : At) (constant : Bool) (d : DeclaredType) (s : PlainStanding) → IsWholeDeclared s.scope.structures d → MadeDeclared (pointed_to h at name_at constant d s)
pointed_made h at name_at constant (of_type t) s m =
    test_either MadeDeclared (is_void t) (nothing_made (refusing h true subset.BadPointer at s)) (passed (of_type (pointer constant t)) s) (λ e. tt) (λ e. (m, e))
pointed_made h at name_at constant (of_open_array t) s m = tt
pointed_made h at name_at constant (of_function f) s m = tt
pointed_made h at name_at constant (of_part_function f) s m = tt

pointer_by_word : (h : Keep) (at name_at : At) (qualifiers : List (Qualifier At)) (target : Option DeclaredType) (s : PlainStanding) (o : Option At) → other_word qualifiers ≡ o →
    IfMade (IsWholeDeclared s.scope.structures) target → MadeDeclared (pointer_declared h at name_at qualifiers target s)
pointer_by_word h at name_at qualifiers None s o e m = tt
pointer_by_word h at name_at qualifiers (Some d) s None e m = rw e (pointed_made h at name_at (has_const_word qualifiers) d s m)
pointer_by_word h at name_at qualifiers (Some d) s (Some word_at) e m =
    let t : PlainStanding = refusing h true subset.BadSpecifier word_at s in
    rw e (pointed_made h at name_at (has_const_word qualifiers) d t m)

-- ## Arrays

-- a type of elements
abbrev MadeElement : Passed PlainType → Type 0
MadeElement p = IfMade (IsObjectType p.after.scope.structures) p.made

element_made : (h : Keep) (name_at : At) (o : Option DeclaredType) (s : PlainStanding) → IfMade (IsWholeDeclared s.scope.structures) o → MadeElement (element_declared h name_at o s)
element_made h name_at None s m = tt
element_made h name_at (Some (of_type t)) s m =
    test_either MadeElement (is_complete s.scope.structures t) (passed t s) (nothing_made (refusing h true subset.IncompleteType name_at s)) (λ e. record { whole = m; complete = e }) (λ e. tt)
element_made h name_at (Some (of_open_array t)) s m = tt
element_made h name_at (Some (of_function f)) s m = tt
element_made h name_at (Some (of_part_function f)) s m = tt

-- a length is 1 at least
abbrev IsLength : Length → Type 0
IsLength n = 1 ≤ n.count

pub left_holds : (a b : Bool) → (a && b) ≡ true → a ≡ true
left_holds true b e = refl
left_holds false b e = absurd cc

right_holds : (a b : Bool) → (a && b) ≡ true → b ≡ true
right_holds true b e = e
right_holds false b e = absurd cc

some_length : (at : At) (n : ℕ) (b : Bool) → (b ≡ true → 1 ≤ n) → IfRuled IsLength (counted_length at (if b then Some n else None))
some_length at n true go = go refl
some_length at n false go = tt

counted_made : (at : At) (z : ℤ) → IfRuled IsLength (counted_length at (array_length z))
counted_made at (pos n) = some_length at n (nat_le 1 n && nat_le n most_bytes) (λ e. leb-true _ _ (left_holds (nat_le 1 n) (nat_le n most_bytes) e))
counted_made at (negsuc n) = tt

folded_made : (at : At) (r : Result ℤ At) → IfRuled IsLength (folded_length at r)
folded_made at (Ok z) = counted_made at z
folded_made at (Err part) = tt

constant_made : (v : PlainValue) (o : Option At) → IfRuled IsLength (constant_length v o)
constant_made v None = folded_made (at_of v) (fold v)
constant_made v (Some part) = tt

either_ruled : (b : Bool) (x y : Ruled Length) → IfRuled IsLength x → IfRuled IsLength y → IfRuled IsLength (if b then x else y)
either_ruled true x y h k = h
either_ruled false x y h k = k

length_made : (v : PlainValue) → IfRuled IsLength (length_found v)
length_made v = either_ruled (is_integer (type_of v)) (constant_length v (inconstant_part v)) (refused subset.BadLength (at_of v)) (constant_made v (inconstant_part v)) tt

-- what is found is made
abbrev Anything : PlainValue → Type 0
Anything v = Unit {0}

anything : (f : Found PlainValue) → IfFound Anything f
anything (Ok v) = tt
anything (Err rs) = tt

noted_made : {A : Type 0} (P : A → Type 0) (h : Keep) (f : Found A) (s : PlainStanding) → IfFound P f → IfMade P (noted h f s).made
noted_made P h (Ok x) s m = m
noted_made P h (Err rs) s m = tt

length_by : (h : Keep) (s : PlainStanding) (e : Expression At) → IfMade IsLength (value_by h s e length_found).made
length_by h s e =
    noted_made IsLength h (on (value_found h s e) length_found) (for_expression s e) (if_on Anything IsLength (value_found h s e) length_found (λ v _. length_made v) (anything (value_found h s e)))

-- an array that isn't larger than a type may be
sized_whole : (ss : List PlainStructure) (t : PlainType) (n : ℕ) → has_size ss (array false t n) ≡ true → IsObjectType ss t → 1 ≤ n → IsWholeType ss (array false t n)
sized_whole ss t n e m some =
    let small : nat_le (size_of ss (array false t n)) most_bytes ≡ true = right_holds (has_size ss t) _ e in
    (m.whole, m.complete, some, leb-true _ _ small)

array_with_made : (h : Keep) (o : Option PlainType) (n : Option Length) (s : PlainStanding) → IfMade (IsObjectType s.scope.structures) o → IfMade IsLength n → MadeDeclared (array_with h o n s)
array_with_made h (Some t) (Some n) s m some =
    test_either (λ (r : Ruled PlainType). MadeDeclared (noted h (lift (ruled r (λ u. Ok (of_type u)))) s)) (has_size s.scope.structures (array false t n.count)) (Ok (array false t n.count)) (refused subset.BadLength n.at)
    (λ e. sized_whole s.scope.structures t n.count e m some) (λ e. tt)
array_with_made h (Some t) None s m some = tt
array_with_made h None n s m some = tt

array_made : (h : Keep) (e : Expression At) (element : Passed PlainType) → IsWholeScope element.after.scope → MadeElement element → MadeDeclared (array_declared h e element)
array_made h e element w m =
    let n : Passed Length = value_by h element.after e length_found in
    let k : Keeps element.after n.after = kept (over_value h element.after e length_found) in
    array_with_made h element.made n.made n.after
    (made_map (IsObjectType element.after.scope.structures) (IsObjectType n.after.scope.structures) (object_moves element.after n.after k w) element.made m) (length_by h element.after e)

open_made : (ss : List PlainStructure) (o : Option PlainType) → IfMade (IsObjectType ss) o → IfMade (IsWholeDeclared ss) (option_map of_open_array o)
open_made ss None m = tt
open_made ss (Some t) m = m

-- ## Functions

-- the type of a result
abbrev MadeResult : Passed PlainType → Type 0
MadeResult p = IfMade (IsResult p.after.scope.structures) p.made

result_type_made : (h : Keep) (at name_at : At) (d : DeclaredType) (s : PlainStanding) → IsWholeDeclared s.scope.structures d → MadeResult (result_type h at name_at d s)
result_type_made h at name_at (of_type (void c)) s m = record { whole = tt; scalar_or_none = inr refl }
result_type_made h at name_at (of_type (integer c i)) s m = record { whole = tt; scalar_or_none = inl refl }
result_type_made h at name_at (of_type (pointer c t)) s m = record { whole = m; scalar_or_none = inl refl }
result_type_made h at name_at (of_type (array c t n)) s m = tt
result_type_made h at name_at (of_type (structure c n)) s m = tt
result_type_made h at name_at (of_open_array t) s m = tt
result_type_made h at name_at (of_function f) s m = tt
result_type_made h at name_at (of_part_function f) s m = tt

result_made : (h : Keep) (at name_at : At) (o : Option DeclaredType) (s : PlainStanding) → IfMade (IsWholeDeclared s.scope.structures) o → MadeResult (result_declared h at name_at o s)
result_made h at name_at None s m = tt
result_made h at name_at (Some d) s m = result_type_made h at name_at d s m

-- the type of a parameter
abbrev MadeParameter : Passed PlainType → Type 0
MadeParameter p = IfMade (IsWholeParameter p.after.scope.structures) p.made

no_void : (ss : List PlainStructure) (t : PlainType) → is_complete ss t ≡ true → is_void t ≡ false
no_void ss (void c) e = absurd cc
no_void ss (integer c i) e = refl
no_void ss (pointer c t) e = refl
no_void ss (array c t n) e = refl
no_void ss (structure c n) e = refl

plain_parameter_made : (h : Keep) (at name_at : At) (t : PlainType) (s : PlainStanding) → IsWholeType s.scope.structures t → MadeParameter (plain_parameter_type h at name_at t s)
plain_parameter_made h at name_at (void c) s m = tt
plain_parameter_made h at name_at (integer c i) s m = record { whole = tt; scalar = refl }
plain_parameter_made h at name_at (pointer c t) s m = record { whole = m; scalar = refl }
plain_parameter_made h at name_at (array c t n) s m = record { whole = (m.0, no_void s.scope.structures t m.1); scalar = refl }
plain_parameter_made h at name_at (structure c n) s m = tt

parameter_made : (h : Keep) (at name_at : At) (o : Option DeclaredType) (s : PlainStanding) → IfMade (IsWholeDeclared s.scope.structures) o → MadeParameter (parameter_declared h at name_at o s)
parameter_made h at name_at None s m = tt
parameter_made h at name_at (Some (of_type t)) s m = plain_parameter_made h at name_at t s m
parameter_made h at name_at (Some (of_open_array t)) s m = record { whole = (m.whole, no_void s.scope.structures t m.complete); scalar = refl }
parameter_made h at name_at (Some (of_function f)) s m = tt
parameter_made h at name_at (Some (of_part_function f)) s m = tt

-- parameters as they are listed
abbrev AreWholeListed : List PlainStructure → List ListedParameter → Type 0
AreWholeListed ss [] = Unit {0}
AreWholeListed ss (p ∷ ps) = IfMade (IsWholeParameter ss) p.type × AreWholeListed ss ps

listed_move : (s t : PlainStanding) → Keeps s t → IsWholeScope s.scope → (ps : List ListedParameter) → AreWholeListed s.scope.structures ps → AreWholeListed t.scope.structures ps
listed_move s t k w [] h = tt
listed_move s t k w (p ∷ ps) h = (made_map (IsWholeParameter s.scope.structures) (IsWholeParameter t.scope.structures) (parameter_moves s t k w) p.type h.0, listed_move s t k w ps h.1)

listed_more : (ss : List PlainStructure) (ps : List ListedParameter) (p : ListedParameter) → AreWholeListed ss ps → IfMade (IsWholeParameter ss) p.type → AreWholeListed ss (ps ++ p ∷ [])
listed_more ss [] p h m = (m, tt)
listed_more ss (q ∷ ps) p h m = (h.0, listed_more ss ps p h.1 m)

before_made : (ss : List PlainStructure) (p : ListedParameter) (t : Option PlainType) (o : Option (List PlainParameter)) → IfMade (IsWholeParameter ss) t → IfMade (AreWholeParameters ss) o → IfMade (AreWholeParameters ss) (before_known p t o)
before_made ss p None o h k = tt
before_made ss p (Some t) None h k = tt
before_made ss p (Some t) (Some rest) h k = (h, k)

known_made : (ss : List PlainStructure) (ps : List ListedParameter) → AreWholeListed ss ps → IfMade (AreWholeParameters ss) (known_parameters ps)
known_made ss [] h = tt
known_made ss (p ∷ ps) h = before_made ss p p.type (known_parameters ps) h.0 (known_made ss ps h.1)

function_of_made : (list : ParameterList) (result : Option PlainType) (listed : List ListedParameter) (o : Option (List PlainParameter)) (s : PlainScope) → IsWholeScope s → IfMade (IsResult s.structures) result → IfMade (AreWholeParameters s.structures) o →
    IsWholeDeclared s.structures (function_of list result listed o s)
function_of_made list_is.Fixed (Some result) listed (Some ps) s w r m = record {
  parameters = m;
  result = r;
  names = dropped_meanings s.structures (last_floor s.floors).0 s.names w.names;
  tags = dropped_meanings s.structures (last_floor s.floors).1 s.tags w.tags;
}
function_of_made list result listed o s w r m = tt

function_made : (list : ParameterList) (result : Option PlainType) (listed : List ListedParameter) (s : PlainStanding) → IsWholeScope s.scope → IfMade (IsResult s.scope.structures) result → AreWholeListed s.scope.structures listed →
    MadeDeclared (function_declared list result listed s)
function_made list result listed s w r m = function_of_made list result listed (known_parameters listed) s.scope w r (known_made s.scope.structures listed m)

-- ## The trees

abbrev MadeListing : Listing → Type 0
MadeListing q = AreWholeListed q.after.scope.structures q.parameters

pub based_made : (ss : List PlainStructure) (o : Option PlainType) → IfMade (IsWholeType ss) o → IfMade (IsWholeDeclared ss) (option_map of_type o)
based_made ss None m = tt
based_made ss (Some t) m = m

declared_parameter_made : (h : Keep) (i : ℕ) (before : List ListedParameter) (at : At) (d : Declarator At) (j : Passed DeclaredType) → IsWholeScope j.after.scope → MadeDeclared j → AreWholeListed j.after.scope.structures before →
    MadeListing (with_declared_parameter h i before at d j)
declared_parameter_made h i before at d j w m l =
    let s : PlainStanding = refusing h (declares_function d) subset.BadPointer (declarator_place d) j.after in
    let u : Passed PlainType = parameter_declared h at (place_or at (name_in d)) j.made s in
    let v : PlainStanding = with_parameter h i (name_in d) u.made u.after in
    let first : Keeps j.after s = kept (over_refusing h (declares_function d) subset.BadPointer (declarator_place d) j.after) in
    let next : Keeps s u.after = kept (over_parameter h at (place_or at (name_in d)) j.made s) in
    let last : Keeps u.after v = kept (over_with_parameter h i (name_in d) u.made u.after) in
    listed_more v.scope.structures before (record { at = at; name = name_in d; type = u.made }) (listed_move j.after v (keeps_on first (keeps_on next last)) w before l)
    (made_map (IsWholeParameter u.after.scope.structures) (IsWholeParameter v.scope.structures) (parameter_moves u.after v last (next.whole (first.whole w))) u.made
    (parameter_made h at (place_or at (name_in d)) j.made s (made_moves j.after s first w j.made m)))

either_listing : (b : Bool) (p q : Listing) → MadeListing p → MadeListing q → MadeListing (if b then p else q)
either_listing true p q h k = h
either_listing false p q h k = k

mutual
  pub declarator_made : (h : Keep) (name_at : At) (p : Passed DeclaredType) (d : Declarator At) → IsWholeScope p.after.scope → MadeDeclared p → MadeDeclared (declarator_passed h name_at p d)
  declarator_made h name_at p (Named name) w m = m
  declarator_made h name_at p (Unnamed at) w m = m
  declarator_made h name_at p (Pointer at qualifiers d) w m =
      let q : Passed DeclaredType = pointer_declared h at name_at qualifiers p.made p.after in
      let k : Keeps p.after q.after = kept (over_pointer h at name_at qualifiers p.made p.after) in
      declarator_made h name_at q d (k.whole w) (pointer_by_word h at name_at qualifiers p.made p.after (other_word qualifiers) refl m)
  declarator_made h name_at p (Parenthesised at d) w m = declarator_made h name_at p d w m
  declarator_made h name_at p (Array at d brackets Absent) w m =
      let s : PlainStanding = array_inside h name_at true d p.after in
      let q : Passed PlainType = element_declared h name_at p.made s in
      let first : Keeps p.after s = kept (over_array_inside h name_at true d p.after) in
      let k : Keeps s q.after = kept (over_element h name_at p.made s) in
      declarator_made h name_at (open_declared q) d (k.whole (first.whole w)) (open_made q.after.scope.structures q.made (element_made h name_at p.made s (made_moves p.after s first w p.made m)))
  declarator_made h name_at p (Array at d brackets (Present e)) w m =
      let s : PlainStanding = array_inside h name_at false d p.after in
      let q : Passed PlainType = element_declared h name_at p.made s in
      let a : Passed DeclaredType = array_declared h e q in
      let first : Keeps p.after s = kept (over_array_inside h name_at false d p.after) in
      let next : Keeps s q.after = kept (over_element h name_at p.made s) in
      let k : Keeps q.after a.after = kept (over_array h e q) in
      let there : IsWholeScope q.after.scope = next.whole (first.whole w) in
      declarator_made h name_at a d (k.whole there) (array_made h e q there (element_made h name_at p.made s (made_moves p.after s first w p.made m)))
  declarator_made h name_at p (Function at d parentheses all more) w m =
      let r : Passed PlainType = result_declared h at name_at p.made p.after in
      let t : PlainStanding = refusing h more subset.NoPrototype parentheses r.after in
      let s : PlainStanding = function_inside h name_at d t in
      let u : PlainStanding = among_parameters s in
      let q : Listing = all_parameters_passed h u parentheses all in
      let a : Keeps p.after r.after = kept (over_result h at name_at p.made p.after) in
      let b : Keeps r.after u = keeps_on (kept (over_refusing h more subset.NoPrototype parentheses r.after)) (keeps_on (kept (over_function_inside h name_at d t)) (keep_entered s.scope)) in
      let c : Keeps u q.after = kept (over_all_parameters h u parentheses all) in
      let x : IsWholeScope r.after.scope = a.whole w in
      let y : IsWholeScope u.scope = b.whole x in
      let z : IsWholeScope q.after.scope = c.whole y in
      let f : Passed DeclaredType = function_declared (list_of all more) r.made q.parameters q.after in
      declarator_made h name_at f d ((keep_left q.after.scope).whole z)
      (function_made (list_of all more) r.made q.parameters q.after z
      (made_map (IsResult r.after.scope.structures) (IsResult q.after.scope.structures) (result_moves r.after q.after (keeps_on b c) x) r.made (result_made h at name_at p.made p.after m))
      (all_parameters_made h u parentheses all y))

  all_parameters_made : (h : Keep) (s : PlainStanding) (at : At) (all : Parameters At) → IsWholeScope s.scope → MadeListing (all_parameters_passed h s at all)
  all_parameters_made h s at NoParameters w = tt
  all_parameters_made h s at (MoreParameters one NoParameters) w = only_parameter_made h s one w
  all_parameters_made h s at (MoreParameters one (MoreParameters next rest)) w =
      let p : Listing = one_parameter_passed h 0 (none_listed s) one in
      let k : Keeps s p.after = kept (over_one_parameter h 0 (none_listed s) one) in
      parameters_made h 1 p (MoreParameters next rest) (k.whole w) (one_parameter_made h 0 (none_listed s) one w tt)

  only_parameter_made : (h : Keep) (s : PlainStanding) (one : Parameter At) → IsWholeScope s.scope → MadeListing (only_parameter_passed h s one)
  only_parameter_made h s (parameter at specifiers d) w =
      let t : Passed PlainType = specified h site_is.OfParameter none_allowed false s specifiers in
      let j : Passed DeclaredType = declarator_passed h (place_or at (name_in d)) (based t.made t.after) d in
      let k : Keeps s t.after = kept (over_specified h site_is.OfParameter none_allowed false s specifiers) in
      let there : IsWholeScope t.after.scope = k.whole w in
      let l : Keeps t.after j.after = kept (over_declarator h (place_or at (name_in d)) (based t.made t.after) d) in
      either_listing (is_no_parameter d t.made) (none_listed t.after) (with_declared_parameter h 0 [] at d j) tt
      (declared_parameter_made h 0 [] at d j (l.whole there)
      (declarator_made h (place_or at (name_in d)) (based t.made t.after) d there (based_made t.after.scope.structures t.made (specified_made h site_is.OfParameter none_allowed false s specifiers w))) tt)

  parameters_made : (h : Keep) (i : ℕ) (p : Listing) (all : Parameters At) → IsWholeScope p.after.scope → MadeListing p → MadeListing (parameters_passed h i p all)
  parameters_made h i p NoParameters w m = m
  parameters_made h i p (MoreParameters one rest) w m =
      let q : Listing = one_parameter_passed h i p one in
      let k : Keeps p.after q.after = kept (over_one_parameter h i p one) in
      parameters_made h (i + 1) q rest (k.whole w) (one_parameter_made h i p one w m)

  one_parameter_made : (h : Keep) (i : ℕ) (p : Listing) (one : Parameter At) → IsWholeScope p.after.scope → MadeListing p → MadeListing (one_parameter_passed h i p one)
  one_parameter_made h i p (parameter at specifiers d) w m =
      let t : Passed PlainType = specified h site_is.OfParameter none_allowed false p.after specifiers in
      let j : Passed DeclaredType = declarator_passed h (place_or at (name_in d)) (based t.made t.after) d in
      let k : Keeps p.after t.after = kept (over_specified h site_is.OfParameter none_allowed false p.after specifiers) in
      let there : IsWholeScope t.after.scope = k.whole w in
      let l : Keeps t.after j.after = kept (over_declarator h (place_or at (name_in d)) (based t.made t.after) d) in
      declared_parameter_made h i p.parameters at d j (l.whole there)
      (declarator_made h (place_or at (name_in d)) (based t.made t.after) d there (based_made t.after.scope.structures t.made (specified_made h site_is.OfParameter none_allowed false p.after specifiers w)))
      (listed_move p.after j.after (keeps_on k l) w p.parameters m)

pub made_types_are_whole : MadeTypesAreWhole
made_types_are_whole = record { specifiers = specified_made; declarators = declarator_made }
