-- Types of two roots that are compared, as the code does it.
use Rattle.std.proofs.Common.{◌≡◌, ℕ, zero, suc, ◌+◌, ◌-◌, ◌<◌, ◌≤◌, nat_eq, Bool, true, false, ◌&&◌, if◌then◌else◌, List, [], ◌∷◌, ◌++◌, length, drop, Option, Some, None, is_some, slice_get, bytes_eq, Vec, refl, sym, ◌∙◌, ap, arith}
use Rattle.std.specs.Bool.{beq}
use Rattle.std.specs.declared.alloc.Global.{Global}
use Rattle.p10_core.specs.Types.{PlainType, void, integer, pointer, array, structure, PlainMember, PlainBody, PlainStructure, body_of}
use Rattle.p10_core.specs.Rows.{same_integer}
use Rattle.p10_linkage.specs.Uniting.{tagged_alike, and_then}
use Rattle.p10_linkage.specs.Compatible.{Pairs, is_settled, members_compatible, bodies_compatible, structures_compatible, types_compatible, compatible_within, known_compatible, parameters_compatible}
use Rattle.p10_linkage.specs.declared.meeting.Meeting.{Meeting}
use Rattle.p10_linkage.specs.declared.meeting.Meeting.TheVariants.{Never, Always, Where}
use Rattle.p10_linkage.specs.private.Meetings.{meeting_of}
use Rattle.p10_linkage.specs.private.Comparing.{compared, met_so}
use Rattle.p10_linkage.proofs.LinkedTypes.{known_at, drop_here, rest_of}

-- ## Types that meet

always_so : (b : Bool) (compare : ℕ → ℕ → Pairs → Option Pairs) (ps : Pairs) → (if b then Some ps else None) ≡ met_so compare (if b then Always else Never) ps
always_so true compare ps = refl
always_so false compare ps = refl

unless_so : (b : Bool) (compare : ℕ → ℕ → Pairs → Option Pairs) (ps : Pairs) (o : Option Pairs) (m : Meeting) → o ≡ met_so compare m ps → (if b then o else None) ≡ met_so compare (if b then m else Never) ps
unless_so true compare ps o m e = e
unless_so false compare ps o m e = refl

-- types are compared where they meet
pub types_compared : (compare : ℕ → ℕ → Pairs → Option Pairs) (t u : PlainType) (ps : Pairs) → types_compatible compare t u ps ≡ met_so compare (meeting_of t u) ps
types_compared compare (void c) (void d) ps = always_so (beq c d) compare ps
types_compared compare (void c) (integer d j) ps = refl
types_compared compare (void c) (pointer d u) ps = refl
types_compared compare (void c) (array d u n) ps = refl
types_compared compare (void c) (structure d n) ps = refl
types_compared compare (integer c i) (void d) ps = refl
types_compared compare (integer c i) (integer d j) ps = always_so (beq c d && same_integer i j) compare ps
types_compared compare (integer c i) (pointer d u) ps = refl
types_compared compare (integer c i) (array d u n) ps = refl
types_compared compare (integer c i) (structure d n) ps = refl
types_compared compare (pointer c t) (void d) ps = refl
types_compared compare (pointer c t) (integer d j) ps = refl
types_compared compare (pointer c t) (pointer d u) ps = unless_so (beq c d) compare ps (types_compatible compare t u ps) (meeting_of t u) (types_compared compare t u ps)
types_compared compare (pointer c t) (array d u n) ps = refl
types_compared compare (pointer c t) (structure d n) ps = refl
types_compared compare (array c t m) (void d) ps = refl
types_compared compare (array c t m) (integer d j) ps = refl
types_compared compare (array c t m) (pointer d u) ps = refl
types_compared compare (array c t m) (array d u n) ps = unless_so (nat_eq m n) compare ps (types_compatible compare t u ps) (meeting_of t u) (types_compared compare t u ps)
types_compared compare (array c t m) (structure d n) ps = refl
types_compared compare (structure c m) (void d) ps = refl
types_compared compare (structure c m) (integer d j) ps = refl
types_compared compare (structure c m) (pointer d u) ps = refl
types_compared compare (structure c m) (array d u n) ps = refl
types_compared compare (structure c m) (structure d n) ps = unless_so (beq c d) compare ps (compare m n ps) (Where m n) refl

-- what was compared is compatible where pairs are left
pub told_compared : (alike : Bool) (pairs : Vec (ℕ × ℕ) Global) (found : Option Pairs) → compared alike pairs ≡ found → alike ≡ is_some found
told_compared true pairs found e = ap is_some e
told_compared false pairs found e = ap is_some e

-- ## Structures

-- two structures that are one, or were compared
pub within_settled : (more m n : ℕ) (ss : List PlainStructure) (ps : Pairs) → is_settled m n ps ≡ true → compatible_within more ss m n ps ≡ Some ps
within_settled zero m n ss ps e = ap (λ b. if b then Some ps else None) e
within_settled (suc more) m n ss ps e = ap (λ b. if b then Some ps else structures_compatible (types_compatible (compatible_within more ss)) ss m n ps) e

-- no more may be compared
pub within_none : (m n : ℕ) (ss : List PlainStructure) (ps : Pairs) → is_settled m n ps ≡ false → compatible_within 0 ss m n ps ≡ None
within_none m n ss ps e = ap (λ b. if b then Some ps else None) e

-- two structures that weren't compared before are compared by their bodies, where their tags are alike
pub within_new : (more m n : ℕ) (ss : List PlainStructure) (ps : Pairs) (alike : Bool) → (more ≡ 0 → ⊥) → is_settled m n ps ≡ false → tagged_alike (slice_get ss m) (slice_get ss n) ≡ alike →
    compatible_within more ss m n ps
    ≡ (if alike then bodies_compatible (types_compatible (compatible_within (more - 1) ss)) (body_of ss m) (body_of ss n) (ps ++ (m, n) ∷ []) else None)
within_new zero m n ss ps alike some new is = absurd (some refl)
within_new (suc more) m n ss ps alike some new is =
    let compare : PlainType → PlainType → Pairs → Option Pairs = types_compatible (compatible_within more ss) in
    let fewer : more ≡ suc more - 1 = omega arith in
    ap (λ b. if b then Some ps else structures_compatible compare ss m n ps) new
    ∙ ap (λ b. if b then bodies_compatible compare (body_of ss m) (body_of ss n) (ps ++ (m, n) ∷ []) else None) is
    ∙ ap (λ k. if alike then bodies_compatible (types_compatible (compatible_within k ss)) (body_of ss m) (body_of ss n) (ps ++ (m, n) ∷ []) else None) fewer

-- structures that aren't alike by their tags
pub none_alike : (o p : Option PlainStructure) → p ≡ None → tagged_alike o p ≡ false
none_alike o p e = ap (tagged_alike o) e ∙ lacking o
  where
    lacking : (o : Option PlainStructure) → tagged_alike o None ≡ false
    lacking None = refl
    lacking (Some s) = refl

-- ## Bodies

if_none : {A : Type 0} (b : Bool) (o : Option A) → o ≡ None → (if b then o else None) ≡ None
if_none true o e = e
if_none false o e = refl

then_none : {A : Type 0} (o : Option A) (go : A → Option A) → ((x : A) → go x ≡ None) → and_then o go ≡ None
then_none None go e = refl
then_none (Some x) go e = e x

-- members that aren't as many aren't compatible
pub members_uneven : (compare : PlainType → PlainType → Pairs → Option Pairs) (ms ks : List PlainMember) (ps : Pairs) → (length ms ≡ length ks → ⊥) → members_compatible compare ms ks ps ≡ None
members_uneven compare [] [] ps h = absurd (h refl)
members_uneven compare [] (k ∷ ks) ps h = refl
members_uneven compare (m ∷ ms) [] ps h = refl
members_uneven compare (m ∷ ms) (k ∷ ks) ps h =
    if_none (bytes_eq m.name k.name) (and_then (compare m.type k.type ps) (members_compatible compare ms ks))
    (then_none (compare m.type k.type ps) (members_compatible compare ms ks) (λ x. members_uneven compare ms ks x (λ e. h (ap suc e))))

-- a body that is lacking goes with any
pub second_lacks : (compare : PlainType → PlainType → Pairs → Option Pairs) (o p : Option PlainBody) (ps : Pairs) → p ≡ None → bodies_compatible compare o p ps ≡ Some ps
second_lacks compare o p ps e = ap (λ p. bodies_compatible compare o p ps) e ∙ lacking o
  where
    lacking : (o : Option PlainBody) → bodies_compatible compare o None ps ≡ Some ps
    lacking None = refl
    lacking (Some b) = refl

pub first_lacks : (compare : PlainType → PlainType → Pairs → Option Pairs) (o p : Option PlainBody) (ps : Pairs) → o ≡ None → bodies_compatible compare o p ps ≡ Some ps
first_lacks compare o p ps e = ap (λ o. bodies_compatible compare o p ps) e ∙ lacking p
  where
    lacking : (p : Option PlainBody) → bodies_compatible compare None p ps ≡ Some ps
    lacking None = refl
    lacking (Some b) = refl

-- ## Parameters

neither : (b : Bool) → (b && false) ≡ false
neither true = refl
neither false = refl

pub compatible_uneven : (ss : List PlainStructure) (ts us : List (Option PlainType)) → (length ts ≡ length us → ⊥) → parameters_compatible ss ts us ≡ false
compatible_uneven ss [] [] h = absurd (h refl)
compatible_uneven ss [] (u ∷ us) h = refl
compatible_uneven ss (t ∷ ts) [] h = refl
compatible_uneven ss (t ∷ ts) (u ∷ us) h = ap (λ b. known_compatible ss t u && b) (compatible_uneven ss ts us (λ e. h (ap suc e))) ∙ neither (known_compatible ss t u)

-- those at a place are compatible or not
pub compatible_turn : (ss : List PlainStructure) (ts us : List (Option PlainType)) (k : ℕ) (b c whole : Bool) → k < length ts → k < length us →
    b ≡ known_compatible ss (known_at ts k) (known_at us k) → b ≡ c → parameters_compatible ss (drop k ts) (drop k us) ≡ whole → (c && parameters_compatible ss (drop (k + 1) ts) (drop (k + 1) us)) ≡ whole
compatible_turn ss ts us k b c whole h g is by before =
    sym ((λ i. parameters_compatible ss (drop_here ts k h i) (drop_here us k g i)) ∙ ap (λ x. x && parameters_compatible ss (drop (k + 1) ts) (drop (k + 1) us)) (sym is ∙ by)) ∙ before

-- all were
pub compatible_done : (ss : List PlainStructure) (ts us : List (Option PlainType)) (k : ℕ) (whole : Bool) → length ts ≤ k → length us ≤ k → parameters_compatible ss (drop k ts) (drop k us) ≡ whole → true ≡ whole
compatible_done ss ts us k whole h g before = sym (λ i. parameters_compatible ss (rest_of ts k h i) (rest_of us k g i)) ∙ before
