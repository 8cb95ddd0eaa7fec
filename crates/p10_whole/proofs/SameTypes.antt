-- Types that are one by their tests.
use Rattle.std.specs.Prelude.{◌≡◌, ℕ, Bool, true, false, not, ◌&&◌, ◌||◌, nat_eq, List, if◌then◌else◌, refl}
use Rattle.std.proofs.Common.{ap, sym, ◌∙◌}
use Rattle.std.specs.Bool.{beq}
use Rattle.std.proofs.lemmas.Bool.{eqb-true, eq-eqb}
use Rattle.p10_int.specs.declared.types.IntType.{IntType}
use Rattle.p10_int.specs.declared.types.IntType.TheVariants.{Bool as Truth, Char, SChar, UChar, Short, UShort, Int, UInt, Long, ULong, LLong, ULLong}
use Rattle.p10_core.specs.Types.{PlainType, void, integer, pointer, array, structure, qualified, unqualified, bare, PlainStructure, representative_of}
use Rattle.p10_core.specs.Rows.{same, same_form, same_integer, number_of, mark_of, is_array}
use Rattle.p10_whole.specs.private.Agreeing.{is_marked_same, is_bare_same}
use Rattle.p10_whole.specs.private.Shows.{Shows}
use Rattle.p10_whole.proofs.Showing.{both_true}

-- the integer type with a number
abbrev numbered : ℕ → IntType
numbered n =
    if nat_eq n 0 then Truth
    else if nat_eq n 1 then Char
    else if nat_eq n 2 then SChar
    else if nat_eq n 3 then UChar
    else if nat_eq n 4 then Short
    else if nat_eq n 5 then UShort
    else if nat_eq n 6 then Int
    else if nat_eq n 7 then UInt
    else if nat_eq n 8 then Long
    else if nat_eq n 9 then ULong
    else if nat_eq n 10 then LLong
    else ULLong

numbered_back : (i : IntType) → numbered (number_of i) ≡ i
numbered_back Truth = refl
numbered_back Char = refl
numbered_back SChar = refl
numbered_back UChar = refl
numbered_back Short = refl
numbered_back UShort = refl
numbered_back Int = refl
numbered_back UInt = refl
numbered_back Long = refl
numbered_back ULong = refl
numbered_back LLong = refl
numbered_back ULLong = refl

pub integer_is : (i j : IntType) → same_integer i j ≡ true → i ≡ j
integer_is i j e = sym (numbered_back i) ∙ ap numbered (eqb-true (number_of i) (number_of j) e) ∙ numbered_back j

pub marks_are : (a b : Bool) → beq a b ≡ true → a ≡ b
marks_are true true e = refl
marks_are false false e = refl
marks_are true false e = absurd cc
marks_are false true e = absurd cc

-- two types of one form with the same mark are one
pub form_is : (s t : PlainType) → same_form s t ≡ true → mark_of s ≡ mark_of t → s ≡ t
form_is (void c) (void d) e m = ap void m
form_is (integer c i) (integer d j) e m = ap (λ b. integer b i) m ∙ ap (integer d) (integer_is i j e)
form_is (pointer c s) (pointer d t) e m =
    let inner = both_true (beq (mark_of s) (mark_of t)) (same_form s t) e in
    ap (λ b. pointer b s) m ∙ ap (pointer d) (form_is s t inner.1 (marks_are (mark_of s) (mark_of t) inner.0))
form_is (array c s k) (array d t n) e m =
    let outer = both_true (nat_eq k n) (beq (mark_of s) (mark_of t) && same_form s t) e in
    let inner = both_true (beq (mark_of s) (mark_of t)) (same_form s t) outer.1 in
    ap (λ b. array b s k) m
    ∙ ap (λ u. array d u k) (form_is s t inner.1 (marks_are (mark_of s) (mark_of t) inner.0))
    ∙ ap (array d t) (eqb-true k n outer.0)
form_is (structure c k) (structure d n) e m = ap (λ b. structure b k) m ∙ ap (structure d) (eqb-true k n e)
form_is s t e m = absurd cc

pub same_is : (s t : PlainType) → same s t ≡ true → s ≡ t
same_is s t e = let h = both_true (beq (mark_of s) (mark_of t)) (same_form s t) e in form_is s t h.1 (marks_are (mark_of s) (mark_of t) h.0)

mark_same : (a : Bool) → beq a a ≡ true
mark_same true = refl
mark_same false = refl

both : (a b : Bool) → a ≡ true → b ≡ true → (a && b) ≡ true
both true true p q = refl
both true false p q = absurd cc
both false b p q = absurd cc

form_same : (t : PlainType) → same_form t t ≡ true
form_same (void c) = refl
form_same (integer c i) = eq-eqb (number_of i) (number_of i) refl
form_same (pointer c t) = both (beq (mark_of t) (mark_of t)) (same_form t t) (mark_same (mark_of t)) (form_same t)
form_same (array c t n) =
    both (nat_eq n n) (beq (mark_of t) (mark_of t) && same_form t t) (eq-eqb n n refl)
    (both (beq (mark_of t) (mark_of t)) (same_form t t) (mark_same (mark_of t)) (form_same t))
form_same (structure c n) = eq-eqb n n refl

-- a type is the same as itself
pub same_itself : (t : PlainType) → same t t ≡ true
same_itself t = both (beq (mark_of t) (mark_of t)) (same_form t t) (mark_same (mark_of t)) (form_same t)

pub same_shown : (b : Bool) (s t : PlainType) → b ≡ same s t → Shows b (s ≡ t)
same_shown b s t e = record { shows = λ h. same_is s t (sym e ∙ h) }

-- ## A type without its mark, and with one more

and_false : (d : Bool) → (d && false) ≡ false
and_false true = refl
and_false false = refl

and_true : (d : Bool) → (d && true) ≡ d
and_true true = refl
and_true false = refl

off_is : (s t : PlainType) → same_form s t ≡ true → mark_of s ≡ (mark_of t && is_array t) → s ≡ unqualified t
off_is (void c) (void d) e m = form_is (void c) (void false) refl (m ∙ and_false d)
off_is (integer c i) (integer d j) e m = form_is (integer c i) (integer false j) e (m ∙ and_false d)
off_is (pointer c s) (pointer d t) e m = form_is (pointer c s) (pointer false t) e (m ∙ and_false d)
off_is (array c s k) (array d t n) e m = form_is (array c s k) (array d t n) e (m ∙ and_true d)
off_is (structure c k) (structure d n) e m = form_is (structure c k) (structure false n) e (m ∙ and_false d)
off_is s t e m = absurd cc

pub unqualified_shown : (s t : PlainType) (a b c d : Bool) → mark_of s ≡ c → mark_of t ≡ d → a ≡ same_form s t → b ≡ is_array t → Shows (a && beq c (d && b)) (s ≡ unqualified t)
unqualified_shown s t a b c d p q x y = record {
  shows = λ h.
      let e = both_true a (beq c (d && b)) h in
      off_is s t (sym x ∙ e.0) (p ∙ marks_are c (d && b) e.1 ∙ ap (λ z. z && b) (sym q) ∙ ap (λ z. mark_of t && z) y);
}

unmarked_is : (t : PlainType) → (not (mark_of t) || is_array t) ≡ true → t ≡ unqualified t
unmarked_is (void true) e = absurd cc
unmarked_is (void false) e = refl
unmarked_is (integer true i) e = absurd cc
unmarked_is (integer false i) e = refl
unmarked_is (pointer true t) e = absurd cc
unmarked_is (pointer false t) e = refl
unmarked_is (array c t n) e = refl
unmarked_is (structure true n) e = absurd cc
unmarked_is (structure false n) e = refl

pub unmarked_shown : (t : PlainType) (c a : Bool) → mark_of t ≡ c → a ≡ is_array t → Shows (not c || a) (t ≡ unqualified t)
unmarked_shown t c a p x = record { shows = λ h. unmarked_is t (ap (λ z. not z || is_array t) p ∙ ap (λ z. not c || z) (sym x) ∙ h) }

more_is : (q : Bool) (s t : PlainType) → is_marked_same q s t ≡ true → s ≡ qualified q t
more_is q (void c) (void d) e = ap void (marks_are c (q || d) e)
more_is q (integer c i) (integer d j) e = let h = both_true (same_integer i j) (beq c (q || d)) e in form_is (integer c i) (integer (q || d) j) h.0 (marks_are c (q || d) h.1)
more_is q (pointer c s) (pointer d t) e = let h = both_true (same_form (pointer c s) (pointer d t)) (beq c (q || d)) e in form_is (pointer c s) (pointer (q || d) t) h.0 (marks_are c (q || d) h.1)
more_is q (array c s m) (array d t n) e =
    let h = both_true (beq c d) (nat_eq m n && is_marked_same q s t) e in
    let k = both_true (nat_eq m n) (is_marked_same q s t) h.1 in
    ap (λ b. array b s m) (marks_are c d h.0) ∙ ap (λ u. array d u m) (more_is q s t k.1) ∙ ap (array d (qualified q t)) (eqb-true m n k.0)
more_is q (structure c m) (structure d n) e = let h = both_true (nat_eq m n) (beq c (q || d)) e in form_is (structure c m) (structure (q || d) n) h.0 (marks_are c (q || d) h.1)
more_is q s t e = absurd cc

pub qualified_shown : (b q : Bool) (s t : PlainType) → b ≡ is_marked_same q s t → Shows b (s ≡ qualified q t)
qualified_shown b q s t e = record { shows = λ h. more_is q s t (sym e ∙ h) }

-- ## Types without marks

bare_is : (ss : List PlainStructure) (s t : PlainType) → is_bare_same ss s t ≡ true → bare ss s ≡ bare ss t
bare_is ss (void c) (void d) e = refl
bare_is ss (integer c i) (integer d j) e = ap (integer false) (integer_is i j e)
bare_is ss (pointer c s) (pointer d t) e = ap (pointer false) (bare_is ss s t e)
bare_is ss (array c s m) (array d t n) e =
    let h = both_true (nat_eq m n) (is_bare_same ss s t) e in
    ap (λ u. array false u m) (bare_is ss s t h.1) ∙ ap (array false (bare ss t)) (eqb-true m n h.0)
bare_is ss (structure c m) (structure d n) e = ap (structure false) (eqb-true (representative_of ss m) (representative_of ss n) e)
bare_is ss s t e = absurd cc

pub compatible_shown : (b : Bool) (ss : List PlainStructure) (s t : PlainType) → b ≡ is_bare_same ss s t → Shows b (bare ss s ≡ bare ss t)
compatible_shown b ss s t e = record { shows = λ h. bare_is ss s t (sym e ∙ h) }
