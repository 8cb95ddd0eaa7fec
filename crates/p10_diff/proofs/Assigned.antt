-- By how much the number of a variable that is assigned, updated or declared differs from names.
use Rattle.std.proofs.Common.{◌≡◌, ℕ, suc, Bool, true, false, List, [], ◌∷◌, refl, ◌∙◌, ap, sym, subst, Option, Some, None, slice_get, ℤ, pos, ◌-ℤ◌, Result, Ok, Err}
use Rattle.std.specs.Prelude.{is_some, slice_set, if◌then◌else◌, ◌&&◌, nat_eq, nat_le, IfSome}
use Rattle.std.proofs.lemmas.Option.{same_Some}
use Rattle.p10_base.specs.declared.span.Span.{Span}
use Rattle.p10_base.specs.declared.at.At.{At}
use Rattle.p10_int.specs.declared.types.IntType.{IntType}
use Rattle.p10_int.specs.declared.operators.Stop.{Stop}
use Rattle.p10_int.specs.declared.operators.BinOp.{BinOp}
use Rattle.p10_int.specs.Types.{InRange, is_signed_of, rank_of}
use Rattle.p10_int.specs.Conversion.{converted}
use Rattle.p10_int.specs.Operators.{operate}
use Rattle.p10_int.proofs.Conversions.{converted_keeps}
use Rattle.p10_int.proofs.InRange.{operate_in}
use Rattle.p10_range.specs.Ranges.{IsMember, is_within}
use Rattle.p10_range.specs.Rows.{values_of}
use Rattle.p10_core.specs.declared.statements.UpdateKind.{UpdateKind}
use Rattle.p10_core.specs.Types.{PlainType, integer, void, pointer, array, structure, bare, unqualified}
use Rattle.p10_core.specs.Rows.{is_integer}
use Rattle.p10_core.specs.Constants.{integer_of}
use Rattle.p10_core.specs.Typed.{PlainValue, value, read, type_of, PlainPlace, place, place_at, place_type, variable, PlainStatement, statement, set, update, PlainVariable, PlainFunction, PlainProgram}
use Rattle.p10_core.specs.WholePrograms.{around, Sets, Updates, IsWholeProgram}
use Rattle.p10_meaning.specs.declared.pointers.Scalar.{Scalar}
use Rattle.p10_meaning.specs.declared.pointers.Scalar.TheVariants.{Int, Pointer}
use Rattle.p10_meaning.specs.Pointers.{holding}
use Rattle.p10_meaning.specs.Objects.{Object, on_ok, write_at}
use Rattle.p10_meaning.specs.States.{State}
use Rattle.p10_meaning.specs.Scalars.{number_of, converted_to, operated, integer_type}
use Rattle.p10_meaning.specs.Values.{Setting, Held, holds, stands, Target, Variable, Sensor, Element, read_target, evaluate, locate}
use Rattle.p10_meaning.specs.Statements.{Frame, Done, write_target, execute}
use Rattle.p10_meaning.specs.Calling.{Depth, setting_of, call_at}
use Rattle.p10_meaning.specs.Sound.{Kind, Fits, FrameFits, region_at}
use Rattle.p10_meaning.proofs.SoundParts.{HasType, TargetFits, integer_alike}
use Rattle.p10_sums.specs.Keeping.{HoldsOf}
use Rattle.p10_absx.specs.Abstract.{Abstract, whole_type}
use Rattle.p10_absx.specs.Environments.{Environment, known}
use Rattle.p10_absx.specs.Assessing.{assess, variable_read}
use Rattle.p10_absx.specs.Describing.{held_number, set_to, DescribesVariable}
use Rattle.p10_evaluation.proofs.Narrowing.{holds_known}
use Rattle.p10_evaluation.proofs.Operating.{within_of, in_within, whole_holds}
use Rattle.p10_evaluation.proofs.Finding.{FoundHolds}
use Rattle.p10_evaluation.proofs.WholeFunctions.{results_lie}
use Rattle.p10_execution.specs.Scoping.{IsNumber}
use Rattle.p10_execution.specs.Standing.{AreInFrame, StandsSoundly}
use Rattle.p10_execution.proofs.Giving.{holds_step, holds_then, holds_or, holds_both}
use Rattle.p10_execution.proofs.Frames.{held_there, set_here, number_fits, member_of_type}
use Rattle.p10_execution.proofs.Storing.{Points}
use Rattle.p10_execution.proofs.SimpleStatements.{integer_unqualified, variable_typed, Located, located}
use Rattle.p10_execution.proofs.Updating.{IsRead, read_is}
use Rattle.p10_execution.proofs.Parts.{ready_step, Given, read_given, value_given}
use Rattle.p10_diff.specs.Bounds.{AtMost}
use Rattle.p10_diff.specs.Differences.{Name, now, number_or_zero, worth, Pair, has_name_in, has_name, is_wide, Differences}
use Rattle.p10_diff.specs.Expressions.{is_exact, operator_up, operator_low, up, low}
use Rattle.p10_diff.specs.Domain.{is_unconverted, read_of, updated_up, updated_low, DescribesDifferences}
use Rattle.p10_diff.proofs.Named.{if_most, both_true}
use Rattle.p10_diff.proofs.Measured.{Measured}
use Rattle.p10_diff.proofs.Values.{given_of, one_type, MeasuredBy, measured, plain, Terms, operator_above, operator_below}

-- a variable with a name is an integer that is held in the frame
pub named_number : (p : Pair) (m : ℕ) → has_name p m ≡ true → IsNumber p.variables m
named_number p m e = by (slice_get p.variables m) refl e
  where
    by : (o : Option PlainVariable) → slice_get p.variables m ≡ o → has_name_in o ≡ true → IsNumber p.variables m
    by None s e = absurd cc
    by (Some v) s e =
        let first = both_true v.frame (is_integer v.type && is_wide (integer_of v.type)) e in
        let second = both_true (is_integer v.type) (is_wide (integer_of v.type)) first.1 in
        record { variable = v; there = s; frame_is = first.0; integer_is = second.0 }

-- its type is that of its places
place_is_integer : (p : PlainProgram) (variables : List PlainVariable) (m : ℕ) (t : PlainType) → IsNumber variables m → HasType p variables m t → is_integer t ≡ true
place_is_integer p variables m t number type =
    let same : type.variable ≡ number.variable = same_Some _ _ (sym type.there ∙ number.there) in
    integer_alike p t number.variable.type (sym type.same ∙ ap (λ (v : PlainVariable). bare p.structures v.type) same) number.integer_is

-- the number that was written
pub written_number : (head held : List Held) (m : ℕ) (x : Scalar) (z : ℤ) → is_some (slice_get held m) ≡ true → x ≡ Int z → worth head (slice_set held m (holds (holding x))) (now m) ≡ z
written_number head held m x z there e = ap (λ o. number_or_zero (held_number o)) (set_here held m (holds (holding x)) there) ∙ ap (λ y. number_or_zero (held_number (Some (holds (holding y))))) e

converted_number : (t : PlainType) (x : Scalar) → is_integer t ≡ true → converted_to t x ≡ Int (converted (integer_of t) (number_of x))
converted_number (integer c k) x e = refl
converted_number (void c) x e = absurd cc
converted_number (pointer c t) x e = absurd cc
converted_number (array c t n) x e = absurd cc
converted_number (structure c n) x e = absurd cc

-- a number of one type is one of a wider type
wider_range : (t u : IntType) (z : ℤ) → is_within (values_of t) (values_of u) ≡ true → InRange t z → InRange u z
wider_range t u z e i = let m : IsMember (values_of u) z = in_within (values_of t) (values_of u) z (within_of (values_of t) (values_of u) e) (member_of_type t z i) in record { low = m.above; high = m.below }

-- by how much a number differs from names
pub record Rows (head held : List Held) (ups lows : Name → Option ℤ) (z : ℤ) : Type 0 where
  pub above : (w : Name) → AtMost (z -ℤ worth head held w) (ups w)
  pub below : (w : Name) → AtMost (worth head held w -ℤ z) (lows w)

module _ (p : PlainProgram) (whole : IsWholeProgram p) (n : ℕ) (depth : Depth) (number_at : ℕ) (f : PlainFunction) (there : slice_get p.functions number_at ≡ Some f)
    (below above : ℕ) (base : Environment) where
  abbrev pair : Pair
  pair = record { variables = f.variables; below = below; above = above; head = base }

  abbrev s : Setting
  s = setting_of p n (call_at n p) depth f

  abbrev Stand : Frame → State → Type 0
  Stand frame w = StandsSoundly p f.variables n frame w

  -- if a variable has a name, its number is known so
  abbrev pub NumberSo : List Held → List Held → ℕ → (Name → Option ℤ) → (Name → Option ℤ) → Done → State → Type 0
  NumberSo head held m ups lows d w = has_name pair m ≡ true → Rows head held ups lows (worth head d.frame.held (now m))

  -- a number that is measured
  pub record IsKnown (head held : List Held) (ups lows : Name → Option ℤ) (x : Scalar) : Type 0 where
    pub number : ℤ
    pub is : x ≡ Int number
    pub rows : Rows head held ups lows number

  -- it is written to the variable
  pub write_so : (at : At) (t : PlainType) (m : ℕ) (span : Span) (target : Target) (x : Scalar) (ks : List Kind) (head : List Held) (frame : Frame) (w : State) (ups lows : Name → Option ℤ) → Points frame.held (place at t (variable m)) target → FrameFits p ks f.variables frame.held → AreInFrame f.variables frame.held →
      TargetFits p f.variables t ks target → (target ≡ Variable m → IsNumber f.variables m → HasType p f.variables m t → IsKnown head frame.held ups lows x) → HoldsOf (NumberSo head frame.held m ups lows) (write_target span target (holding x) frame w)
  write_so at t m span (Variable k) x ks head frame w ups lows points fits in_frame typed h =
      λ e.
      let number : IsNumber f.variables m = named_number pair m e in
      let known_is : IsKnown head frame.held ups lows x = h (ap Variable points) number (subst (λ (k : ℕ). HasType p f.variables k t) points typed) in
      let is : worth head (slice_set frame.held k (holds (holding x))) (now m) ≡ known_is.number =
      subst (λ (k : ℕ). worth head (slice_set frame.held k (holds (holding x))) (now m) ≡ known_is.number) (sym points) (written_number head frame.held m x known_is.number (held_there p ks f.variables frame.held m number.variable fits number.there) known_is.is) in
      subst (Rows head frame.held ups lows) (sym is) known_is.rows
  write_so at t m span Sensor x ks head frame w ups lows points fits in_frame typed h = absurd points
  write_so at t m span (Element q) x ks head frame w ups lows points fits in_frame typed h =
      holds_or (NumberSo head frame.held m ups lows) (write_at w.objects q (holding x)) span w _ (λ objects _ e.
      let number : IsNumber f.variables m = named_number pair m e in absurd (in_frame.no_object m number.variable points.0 number.there number.frame_is points.1))

  -- ## `P = e;`

  pub set_so : (scope : List ℕ) (at at2 : At) (t : PlainType) (m : ℕ) (v : PlainValue) → Sets (around (region_at p number_at f scope false false)) (place at2 t (variable m)) v → (e : Differences) (head : List Held) (frame : Frame) (w : State) → Stand frame w → DescribesDifferences pair e head frame.held →
      HoldsOf (NumberSo head frame.held m (up pair v e) (low pair v e)) (execute s (statement at (set (place at2 t (variable m)) v)) frame w)
  set_so scope at at2 t m v i e head frame w r d =
      let q : PlainPlace = place at2 t (variable m) in
      let P : Done → State → Type 0 = NumberSo head frame.held m (up pair v e) (low pair v e) in
      holds_step P w _ (λ left o.
      holds_then (Located p whole n depth number_at f there None None None (results_lie p whole n depth) q frame) P (locate s frame.held q (record w { left = left })) _
      (located p whole n depth number_at f there None None None (results_lie p whole n depth) scope q i.place frame (record w { left = left }) (ready_step p whole n depth number_at f there frame w left o r)) (λ target w g.
      holds_then (λ x w. Given p whole n depth number_at f there (λ ks. Fits p ks (type_of v)) frame x w × MeasuredBy p whole n depth number_at f there below above base e head frame d scope v x) P (evaluate s frame.held v w) _
      (holds_both (Given p whole n depth number_at f there (λ ks. Fits p ks (type_of v)) frame) (λ x w. MeasuredBy p whole n depth number_at f there below above base e head frame d scope v x) (evaluate s frame.held v w)
      (value_given p whole n depth number_at f there scope v i.value frame w g.0.ready) (measured p whole n depth number_at f there below above base e head frame d scope v i.value w g.0.ready)) (λ x w h.
      write_so at2 t m at2.span target x g.0.ready.kinds head frame w (up pair v e) (low pair v e) g.1 g.0.ready.fits g.0.ready.in_frame g.0.typed (λ is_variable number type.
      let y = number_fits p h.0.ready.kinds (type_of v) x (ap is_integer i.type_is ∙ (integer_unqualified t ∙ place_is_integer p f.variables m t number type)) h.0.typed in
      let k : Measured pair e head frame.held d v y.0 = subst (MeasuredBy p whole n depth number_at f there below above base e head frame d scope v) y.1 h.1 in
      record { number = y.0; is = y.1; rows = record { above = k.above; below = k.below } }))))

  -- ## `P op= e;`

  module _ (e : Differences) (head : List Held) (frame : Frame) (d : DescribesDifferences pair e head frame.held) (scope : List ℕ) where
    abbrev IsMeasured : PlainValue → ℤ → Type 0
    IsMeasured v z = Measured pair e head frame.held d v z

    -- what a variable holds, as a value
    read_measured : (at : At) (t : PlainType) (m : ℕ) (z : ℤ) → is_integer t ≡ true → InRange (integer_of t) z → set_to frame.held m ≡ Some z → IsMeasured (read_of (place at t (variable m))) z
    read_measured at t m z i range holds_it =
        plain p whole n depth number_at f there below above base e head frame d scope (read_of (place at t (variable m))) (λ w. refl) (λ w. refl) refl refl (Int z) (by (known e.ranges m) refl)
      where
        by : (o : Option Abstract) → known e.ranges m ≡ o → FoundHolds f.variables head frame.held (variable_read t m o) (Int z)
        by None q = (i, record { variable = tt; value = whole_holds head (integer_of t) z range })
        by (Some a) q = let v : DescribesVariable f.variables head frame.held m a = d.ranges.describes.each m a q in (i, record { variable = holds_it; value = holds_known head _ m a (set_to frame.held m) z holds_it v.describes })

    -- what the operator gives, where no conversion follows
    exact_terms : (at : At) (t t2 : PlainType) (m : ℕ) (op : BinOp) (v : PlainValue) → is_unconverted (integer_of t) (integer_of t2) ≡ true → is_integer t2 ≡ true → (js ks : List Kind) (x y z : Scalar) → Fits p js t2 x → (set_to frame.held m ≡ Some (number_of x)) → Fits p ks (type_of v) y → MeasuredBy p whole n depth number_at f there below above base e head frame d scope v y →
        (objects : List Object) → operated op t objects (converted_to t x) y ≡ Ok z → is_exact t (read_of (place at t2 (variable m))) v ≡ true →
        Terms p whole n depth number_at f there below above base e head frame d scope op (integer_of t) (read_of (place at t2 (variable m))) v (converted (integer_of t2) (number_of z))
    exact_terms at t t2 m op v c i js ks x y z fx held_is fy my objects o q =
        let ranks = both_true (nat_eq (rank_of (integer_of t)) (rank_of (integer_of t2))) (is_within (values_of (integer_of t)) (values_of (integer_of t2)) && is_within (values_of (integer_of t2)) (values_of (integer_of t))) c in
        let withins = both_true (is_within (values_of (integer_of t)) (values_of (integer_of t2))) (is_within (values_of (integer_of t2)) (values_of (integer_of t))) ranks.1 in
        let parts = both_true (is_integer t2 && is_integer (type_of v)) (is_integer t && is_signed_of (integer_of t)) q in
        let types = both_true (is_integer t2) (is_integer (type_of v)) parts.0 in
        let kinds = both_true (is_integer t) (is_signed_of (integer_of t)) parts.1 in
        let a = number_fits p js t2 x i fx in
        let b = number_fits p ks (type_of v) y types.1 fy in
        let wide : InRange (integer_of t) a.0 = wider_range (integer_of t2) (integer_of t) a.0 withins.1 a.2 in
        let left_is : converted_to t x ≡ Int a.0 = converted_number t x kinds.0 ∙ (ap (λ x. Int (converted (integer_of t) (number_of x))) a.1 ∙ ap Int (converted_keeps (integer_of t) a.0 wide)) in
        let ok : operated op t objects (Int a.0) (Int b.0) ≡ Ok z = subst (λ u. operated op t objects u (Int b.0) ≡ Ok z) left_is (subst (λ u. operated op t objects (converted_to t x) u ≡ Ok z) b.1 o) in
        let r = given_of (operate op (integer_type t) a.0 b.0) z ok in
        let given : operate op (integer_of t) a.0 b.0 ≡ Ok r.0 = subst (λ k. operate op k a.0 b.0 ≡ Ok r.0) (one_type t kinds.0) r.1 in
        let result : InRange (integer_of t) r.0 = operate_in op (integer_of t) a.0 b.0 r.0 wide given in
        let same : converted (integer_of t2) (number_of z) ≡ r.0 = ap (λ z. converted (integer_of t2) (number_of z)) r.2 ∙ converted_keeps (integer_of t2) r.0 (wider_range (integer_of t) (integer_of t2) r.0 withins.0 result) in
        record {
          left = a.0;
          right = b.0;
          left_is = read_measured at t2 m a.0 i a.2 (held_is ∙ ap (λ x. Some (number_of x)) a.1);
          right_is = subst (MeasuredBy p whole n depth number_at f there below above base e head frame d scope v) b.1 my;
          signed = kinds.1;
          ok = given ∙ ap Ok (sym same);
        }

    updated_rows : (at : At) (t t2 : PlainType) (m : ℕ) (op : BinOp) (v : PlainValue) → is_integer t2 ≡ true → (js ks : List Kind) (x y z : Scalar) → Fits p js t2 x → (set_to frame.held m ≡ Some (number_of x)) → Fits p ks (type_of v) y → MeasuredBy p whole n depth number_at f there below above base e head frame d scope v y →
        (objects : List Object) → operated op t objects (converted_to t x) y ≡ Ok z →
        Rows head frame.held (updated_up pair e op t (place at t2 (variable m)) v) (updated_low pair e op t (place at t2 (variable m)) v) (converted (integer_of t2) (number_of z))
    updated_rows at t t2 m op v i js ks x y z fx held_is fy my objects o =
        let q : PlainPlace = place at t2 (variable m) in
        let r : ℤ = converted (integer_of t2) (number_of z) in
        record {
          above = λ w. if_most (r -ℤ worth head frame.held w) (is_unconverted (integer_of t) (integer_of t2)) (operator_up pair e op t (read_of q) v w (up pair (read_of q) e w) (up pair v e w)) None
              (λ c. operator_above p whole n depth number_at f there below above base e head frame d scope t op (read_of q) v r (exact_terms at t t2 m op v c i js ks x y z fx held_is fy my objects o) w) (λ c. tt);
          below = λ w. if_most (worth head frame.held w -ℤ r) (is_unconverted (integer_of t) (integer_of t2)) (operator_low pair e op t (read_of q) v w (low pair (read_of q) e w) (low pair v e w)) None
              (λ c. operator_below p whole n depth number_at f there below above base e head frame d scope t op (read_of q) v r (exact_terms at t t2 m op v c i js ks x y z fx held_is fy my objects o) w) (λ c. tt);
        }

  read_number : (held : List Held) (m : ℕ) (target : Target) (x : Scalar) (z : ℤ) → target ≡ Variable m → x ≡ Int z → IsRead held target x → set_to held m ≡ Some (number_of x)
  read_number held m target x z e q h = subst (λ y. set_to held m ≡ Some (number_of y)) (sym q) (subst (λ y. IsRead held (Variable m) y) q (subst (λ t. IsRead held t x) e h))

  pub update_so : (scope : List ℕ) (at at2 : At) (kind : UpdateKind) (op : BinOp) (t t2 : PlainType) (m : ℕ) (v : PlainValue) → Updates (around (region_at p number_at f scope false false)) kind op t (place at2 t2 (variable m)) v → (e : Differences) (head : List Held) (frame : Frame) (w : State) → Stand frame w → DescribesDifferences pair e head frame.held →
      HoldsOf (NumberSo head frame.held m (updated_up pair e op t (place at2 t2 (variable m)) v) (updated_low pair e op t (place at2 t2 (variable m)) v)) (execute s (statement at (update kind op t (place at2 t2 (variable m)) v)) frame w)
  update_so scope at at2 kind op t t2 m v i e head frame w r d =
      let q : PlainPlace = place at2 t2 (variable m) in
      let P : Done → State → Type 0 = NumberSo head frame.held m (updated_up pair e op t q v) (updated_low pair e op t q v) in
      holds_step P w _ (λ left o.
      holds_then (Located p whole n depth number_at f there None None None (results_lie p whole n depth) q frame) P (locate s frame.held q (record w { left = left })) _
      (located p whole n depth number_at f there None None None (results_lie p whole n depth) scope q i.place frame (record w { left = left }) (ready_step p whole n depth number_at f there frame w left o r)) (λ target w g.
      holds_step P w _ (λ left o.
      holds_then (λ x w. Given p whole n depth number_at f there (λ ks. Fits p ks t2) frame x w × IsRead frame.held target x) P (read_target at2.span t2 frame.held target (record w { left = left })) _
      (holds_both (Given p whole n depth number_at f there (λ ks. Fits p ks t2) frame) (λ x w. IsRead frame.held target x) (read_target at2.span t2 frame.held target (record w { left = left }))
      (read_given p whole n depth number_at f there at2.span t2 target frame (record w { left = left }) i.scalar (ready_step p whole n depth number_at f there frame w left o g.0.ready) g.0.typed) (read_is frame.held at2.span t2 target (record w { left = left }))) (λ x w h.
      holds_then (λ y w. Given p whole n depth number_at f there (λ ks. Fits p ks (type_of v)) frame y w × MeasuredBy p whole n depth number_at f there below above base e head frame d scope v y) P (evaluate s frame.held v w) _
      (holds_both (Given p whole n depth number_at f there (λ ks. Fits p ks (type_of v)) frame) (λ y w. MeasuredBy p whole n depth number_at f there below above base e head frame d scope v y) (evaluate s frame.held v w)
      (value_given p whole n depth number_at f there scope v i.value frame w h.0.ready) (measured p whole n depth number_at f there below above base e head frame d scope v i.value w h.0.ready)) (λ y w k.
      holds_step P w _ (λ left o.
      holds_or P (operated op t w.objects (converted_to t x) y) at.span (record w { left = left }) _ (λ z ok.
      write_so at2 t2 m at2.span target (converted_to t2 z) g.0.ready.kinds head frame (record w { left = left }) (updated_up pair e op t q v) (updated_low pair e op t q v) g.1 g.0.ready.fits g.0.ready.in_frame g.0.typed (λ is_variable number type.
      let int : is_integer t2 ≡ true = place_is_integer p f.variables m t2 number type in
      let a = number_fits p h.0.ready.kinds t2 x int h.0.typed in
      record {
        number = converted (integer_of t2) (number_of z);
        is = converted_number t2 z int;
        rows = updated_rows e head frame d scope at2 t t2 m op v int h.0.ready.kinds k.0.ready.kinds x y z h.0.typed (read_number frame.held m target x a.0 is_variable a.1 h.1) k.0.typed k.1 w.objects ok;
      }))))))))
