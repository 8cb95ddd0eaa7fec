-- The frames of calls: what stands in them, and functions that have no objects.
use Rattle.std.proofs.Common.{◌≡◌, ℕ, zero, suc, Bool, true, false, List, [], ◌∷◌, length, refl, sym, ap, ◌∙◌, subst, arith}
use Rattle.std.specs.Prelude.{slice_get, not, ◌||◌, if◌then◌else◌}
use Rattle.p10_core.specs.Typed.{PlainStatement, statement, PlainStatementForm, set, update, copy, evaluate as expression, asserts, declare, declare_static, block, if_then, if_else, loop, switch, break, continue, return, empty, mark, PlainStatements, no_statements, more_statements, PlainVariable}
use Rattle.p10_meaning.specs.declared.pointers.Scalar.{Scalar}
use Rattle.p10_meaning.specs.Pointers.{holding}
use Rattle.p10_meaning.specs.Objects.{declared}
use Rattle.p10_meaning.specs.States.{State}
use Rattle.p10_meaning.specs.Values.{Held, holds, stands, absent, open_object}
use Rattle.p10_meaning.specs.Calling.{Entered, with_variable, entered}
use Rattle.p10_code.specs.StatementCode.{is_object, opens_object, form_opens, any_opens}
use Rattle.p10_code.specs.Frames.{has_objects}
use Rattle.p10_code.proofs.Base.{FitsFlag, IsVariable}
use Rattle.p10_code.proofs.StatementParts.{Tracks, MayOpen}

-- ## New frames

-- a new frame has what the variables want
pub record Enters (vs : List PlainVariable) (w : State) (e : Entered) : Type 0 where
  pub size : length e.frame.held ≡ length vs
  pub kinds : (i : ℕ) → IsVariable (slice_get vs i) (slice_get e.frame.held i)
  pub left : e.state.left ≡ w.left
  pub opened : has_objects vs ≡ false → e.frame.opened ≡ []

kinds_more : (v : PlainVariable) (vs : List PlainVariable) (held : Held) (hs : List Held) → FitsFlag v.frame held → ((i : ℕ) → IsVariable (slice_get vs i) (slice_get hs i)) → (i : ℕ) → IsVariable (slice_get (v ∷ vs) i) (slice_get (held ∷ hs) i)
kinds_more v vs held hs f k zero = f
kinds_more v vs held hs f k (suc i) = k i

enters_more : (v : PlainVariable) (vs : List PlainVariable) (w w2 : State) (held : Held) (opened : List ℕ) (rest : Entered) → Enters vs w2 rest → w2.left ≡ w.left → FitsFlag v.frame held → (has_objects (v ∷ vs) ≡ false → opened ≡ []) → Enters (v ∷ vs) w (with_variable held opened rest)
enters_more v vs w w2 held opened rest e l f o = record { size = omega (arith, e.size); kinds = kinds_more v vs held rest.frame.held f e.kinds; left = e.left ∙ l; opened = o }

fits_absent : (b : Bool) → FitsFlag b absent
fits_absent true = tt
fits_absent false = tt

rest_opens : (v : PlainVariable) (vs : List PlainVariable) (b : Bool) → v.frame ≡ b → has_objects (v ∷ vs) ≡ false → (has_objects vs ≡ false) × (b ≡ true)
rest_opens v vs true e h = (sym (ap (λ (b : Bool). if b then has_objects vs else true) e) ∙ h, refl)
rest_opens v vs false e h = absurd (let d : true ≡ false = sym (ap (λ (b : Bool). if b then has_objects vs else true) e) ∙ h in cc)

enters_flag : (v : PlainVariable) (vs : List PlainVariable) (x : Scalar) (xs : List Scalar) (w : State) (b : Bool) → v.frame ≡ b → Enters vs w (entered vs xs w) → Enters vs (open_object declared (holding x ∷ []) w) (entered vs xs (open_object declared (holding x ∷ []) w)) → Enters (v ∷ vs) w
    (if b
    then (let rest : Entered = entered vs xs w in with_variable (holds (holding x)) rest.frame.opened rest)
    else (let rest : Entered = entered vs xs (open_object declared (holding x ∷ []) w) in with_variable (stands w.opened) (w.opened ∷ rest.frame.opened) rest))
enters_flag v vs x xs w true e h h2 =
    enters_more v vs w w (holds (holding x)) (entered vs xs w).frame.opened (entered vs xs w) h refl (subst (λ b. FitsFlag b (holds (holding x))) (sym e) tt) (λ o. h.opened (rest_opens v vs true e o).0)
enters_flag v vs x xs w false e h h2 =
    let w2 : State = open_object declared (holding x ∷ []) w in
    enters_more v vs w w2 (stands w.opened) (w.opened ∷ (entered vs xs w2).frame.opened) (entered vs xs w2) h2 refl (subst (λ b. FitsFlag b (stands w.opened)) (sym e) tt) (λ o. absurd (let d : false ≡ true = (rest_opens v vs false e o).1 in cc))

pub enters : (vs : List PlainVariable) (xs : List Scalar) (w : State) → Enters vs w (entered vs xs w)
enters [] xs w = record { size = refl; kinds = λ i. tt; left = refl; opened = λ h. refl }
enters (v ∷ vs) [] w =
    let h : Enters vs w (entered vs [] w) = enters vs [] w in
    enters_more v vs w w absent (entered vs [] w).frame.opened (entered vs [] w) h refl (fits_absent v.frame) (λ o. h.opened (rest_opens v vs v.frame refl o).0)
enters (v ∷ vs) (x ∷ xs) w = enters_flag v vs x xs w v.frame refl (enters vs xs w) (enters vs xs (open_object declared (holding x ∷ []) w))

pub enters_tracked : (vs : List PlainVariable) (w : State) (e : Entered) → Enters vs w e → (b : Bool) → has_objects vs ≡ b → Tracks b e.frame.opened
enters_tracked vs w e h true eb = tt
enters_tracked vs w e h false eb = h.opened eb

-- ## Functions that have no objects

no_object : (vs : List PlainVariable) → has_objects vs ≡ false → (n : ℕ) → is_object (slice_get vs n) ≡ false
no_object [] h n = refl
no_object (v ∷ vs) h zero = let e : v.frame ≡ true = (let r : (has_objects vs ≡ false) × (v.frame ≡ true) = rest_opens v vs v.frame refl h in r.1) in ap not e
no_object (v ∷ vs) h (suc n) = no_object vs (rest_opens v vs v.frame refl h).0 n

neither_opens : (a b : Bool) → a ≡ false → b ≡ false → (a || b) ≡ false
neither_opens a b ea eb = ap (λ a. a || b) ea ∙ eb

module _ (vs : List PlainVariable) (h : (n : ℕ) → is_object (slice_get vs n) ≡ false) where
  mutual
    opens_none : (x : PlainStatement) → opens_object vs x ≡ false
    opens_none (statement at form) = form_none form

    form_none : (form : PlainStatementForm) → form_opens vs form ≡ false
    form_none (declare n i) = h n
    form_none (if_then v a) = opens_none a
    form_none (if_else v a b) = neither_opens (opens_object vs a) (opens_object vs b) (opens_none a) (opens_none b)
    form_none (set pl v) = refl
    form_none (update kind o t pl v) = refl
    form_none (copy pl ql) = refl
    form_none (expression v) = refl
    form_none (asserts at v) = refl
    form_none (declare_static n) = refl
    form_none (block ss) = refl
    form_none (loop head first tested third body) = refl
    form_none (switch keyword v labels body) = refl
    form_none break = refl
    form_none continue = refl
    form_none (return keyword v) = refl
    form_none empty = refl
    form_none (mark kind) = refl

  pub any_none : (ss : PlainStatements) → any_opens vs ss ≡ false
  any_none no_statements = refl
  any_none (more_statements x rest) = neither_opens (opens_object vs x) (any_opens vs rest) (opens_none x) (any_none rest)

pub may_in : (vs : List PlainVariable) (ss : PlainStatements) (b : Bool) → has_objects vs ≡ b → MayOpen b (any_opens vs ss)
may_in vs ss true e = tt
may_in vs ss false e = any_none vs (no_object vs e) ss

pub may_at : (vs : List PlainVariable) (x : PlainStatement) (b : Bool) → has_objects vs ≡ b → MayOpen b (opens_object vs x)
may_at vs x true e = tt
may_at vs x false e = opens_none vs (no_object vs e) x
