-- What is found in parts of the code, as the definitions see it.
use Rattle.std.specs.Prelude.{◌≡◌, refl, Bool, true, false, Ok, Err, Option, Vec, Result, IfOk}
use Rattle.std.specs.declared.alloc.Global.{Global}
use Rattle.std.proofs.Common.{ap, sym, ◌∙◌}
use Rattle.p10_core.specs.declared.typed.Value.{Value}
use Rattle.p10_core.specs.declared.typed.Place.{Place}
use Rattle.p10_core.specs.Types.{plain_type}
use Rattle.p10_core.specs.Typed.{PlainPlace, PlainValues}
use Rattle.p10_core.specs.Views.{plain_value, plain_values, plain_place, plain_statement_form}
use Rattle.p10_elabx.specs.declared.problem.Problem.{Problem}
use Rattle.p10_elabx.specs.declared.operand.PlaceKind.{PlaceKind}
use Rattle.p10_elabx.specs.declared.shape.Length.{Length}
use Rattle.p10_elabx.specs.First.{Found, Ruled, lift, only_first, refused_where, on, pair, nothing_said}
use Rattle.p10_elabx.specs.Built.{plain_operand, plain_shape, plain_size, ruled_operand, ruled_target, ruled_form, ruled_shape, ruled_value, ruled_values, ruled_type, ruled_size}

-- what is found, through a view of it
abbrev pub seen : {A B : Type 0} → (A → B) → Found A → Found B
seen f (Ok a) = Ok (f a)
seen f (Err rs) = Err rs

-- a view of what a row says changes what is found alone
abbrev pub Views : {A B : Type 0} → (A → B) → (Ruled A → Ruled B) → Type 0
Views {A = A} f view = (x : Ruled A) → lift (view x) ≡ seen f (lift x)

-- ## The views

pub operands : Views plain_operand ruled_operand
operands (Ok o) = refl
operands (Err r) = refl

-- the view of a target
abbrev pub plain_target : PlaceKind × Place → PlaceKind × PlainPlace
plain_target (kind, p) = (kind, plain_place p)

pub targets : Views plain_target ruled_target
targets (Ok (kind, p)) = refl
targets (Err r) = refl

pub forms : Views plain_statement_form ruled_form
forms (Ok f) = refl
forms (Err r) = refl

pub shapes : Views plain_shape ruled_shape
shapes (Ok s) = refl
shapes (Err r) = refl

pub values : Views plain_value ruled_value
values (Ok v) = refl
values (Err r) = refl

-- the view of values in a row
abbrev pub plain_row_of : Vec Value Global → PlainValues
plain_row_of vs = plain_values vs.items

pub rows : Views plain_row_of ruled_values
rows (Ok vs) = refl
rows (Err r) = refl

pub types : Views plain_type ruled_type
types (Ok t) = refl
types (Err r) = refl

pub sizes : Views plain_size ruled_size
sizes (Ok s) = refl
sizes (Err r) = refl

-- lengths are seen as they are
pub lengths : Views {A = Length} (λ n. n) (λ r. r)
lengths (Ok n) = refl
lengths (Err r) = refl

-- ## Rows on a part

refused_seen : {A B : Type 0} (f : A → B) (holds : Bool) (own : Problem) (x : Found A) →
    seen f (refused_where only_first holds own.code own.at x) ≡ refused_where only_first holds own.code own.at (seen f x)
refused_seen f false own x = refl
refused_seen f true own (Ok a) = refl
refused_seen f true own (Err rs) = refl

-- a row on the form of a part
pub refused_as : {A B : Type 0} (f : A → B) (view : Ruled A → Ruled B) → Views f view → (holds : Bool) (own : Problem) (found r : Ruled A) →
    lift r ≡ refused_where only_first holds own.code own.at (lift found) → lift (view r) ≡ refused_where only_first holds own.code own.at (lift (view found))
refused_as f view alike holds own found r e =
    alike r ∙ ap (seen f) e ∙ refused_seen f holds own (lift found) ∙ ap (refused_where only_first holds own.code own.at) (sym (alike found))

nothing_seen : {A B C D : Type 0} (f : A → B) (g : C → D) (x : Found A) → seen g (on x (λ a. nothing_said)) ≡ on (seen f x) (λ b. nothing_said)
nothing_seen f g (Ok a) = refl
nothing_seen f g (Err rs) = refl

-- a part of which nothing is made
pub unused_as : {A B C D : Type 0} (f : A → B) (view : Ruled A → Ruled B) → Views f view → (g : C → D) (made : Ruled C → Ruled D) → Views g made → (found : Ruled A) (r : Ruled C) →
    lift r ≡ on (lift found) (λ a. nothing_said) → lift (made r) ≡ on (lift (view found)) (λ b. nothing_said)
unused_as f view alike g made as_made found r e =
    as_made r ∙ ap (seen g) e ∙ nothing_seen f g (lift found) ∙ ap (λ x. on x (λ b. nothing_said)) (sym (alike found))

-- ## Two parts

-- a view of two parts
abbrev pub two : {A B X Y : Type 0} → (A → X) → (B → Y) → A × B → X × Y
two f g p = (f p.0, g p.1)

pair_seen : {A B X Y : Type 0} (f : A → X) (g : B → Y) (x : Found A) (y : Found B) → pair only_first (seen f x) (seen g y) ≡ seen (two f g) (pair only_first x y)
pair_seen f g (Ok a) (Ok b) = refl
pair_seen f g (Ok a) (Err qs) = refl
pair_seen f g (Err rs) (Ok b) = refl
pair_seen f g (Err rs) (Err qs) = refl

both_seen : {A B X Y : Type 0} (f : A → X) (g : B → Y) (u : Ruled A → Ruled X) (v : Ruled B → Ruled Y) → Views f u → Views g v → (a : Ruled A) (b : Ruled B) (r : Ruled (A × B)) →
    lift r ≡ pair only_first (lift a) (lift b) → pair only_first (lift (u a)) (lift (v b)) ≡ seen (two f g) (lift r)
both_seen f g u v one other a b r is =
    ap (λ x. pair only_first x (lift (v b))) (one a) ∙ ap (pair only_first (seen f (lift a))) (other b) ∙ pair_seen f g (lift a) (lift b) ∙ ap (seen (two f g)) (sym is)

-- both are found
pub both_found : {A B X Y D : Type 0} (f : A → X) (g : B → Y) (u : Ruled A → Ruled X) (v : Ruled B → Ruled Y) → Views f u → Views g v → (a : Ruled A) (b : Ruled B) (p : A × B) (go : X × Y → Ruled D) (x : Ruled D) →
    lift {A = A × B} (Ok p) ≡ pair only_first (lift a) (lift b) → x ≡ go (f p.0, g p.1) → lift x ≡ on (pair only_first (lift (u a)) (lift (v b))) go
both_found f g u v one other a b p go x is e = ap lift e ∙ sym (ap (λ y. on y go) (both_seen f g u v one other a b (Ok p) is))

-- both are found, where what is made of them may lack memory
pub both_made : {A B X Y C D E : Type 0} (f : A → X) (g : B → Y) (u : Ruled A → Ruled X) (v : Ruled B → Ruled Y) → Views f u → Views g v → (a : Ruled A) (b : Ruled B) (p : A × B) (go : X × Y → Ruled D) (made : C → Ruled D)
    (r : Result C E) → lift {A = A × B} (Ok p) ≡ pair only_first (lift a) (lift b) → IfOk r (λ x. made x ≡ go (f p.0, g p.1)) → IfOk r (λ x. lift (made x) ≡ on (pair only_first (lift (u a)) (lift (v b))) go)
both_made f g u v one other a b p go made (Ok x) is e = both_found f g u v one other a b p go (made x) is e
both_made f g u v one other a b p go made (Err trouble) is e = tt

-- one of them is refused
pub both_refused : {A B X Y D : Type 0} (f : A → X) (g : B → Y) (u : Ruled A → Ruled X) (v : Ruled B → Ruled Y) → Views f u → Views g v → (a : Ruled A) (b : Ruled B) (r : Option Problem) (go : X × Y → Ruled D) →
    lift {A = A × B} (Err r) ≡ pair only_first (lift a) (lift b) → lift {A = D} (Err r) ≡ on (pair only_first (lift (u a)) (lift (v b))) go
both_refused f g u v one other a b r go is = sym (ap (λ y. on y go) (both_seen f g u v one other a b (Err r) is))

-- nothing is made of both
pub none_of_both : {A B C D X Y : Type 0} (f : A → X) (h : B → Y) (u : Ruled A → Ruled X) (v : Ruled B → Ruled Y) → Views f u → Views h v → (g : C → D) (made : Ruled C → Ruled D) → Views g made →
    (a : Ruled A) (b : Ruled B) (q : Ruled (A × B)) (r : Ruled C) → lift q ≡ pair only_first (lift a) (lift b) → lift r ≡ on (lift q) (λ p. nothing_said) →
    lift (made r) ≡ on (pair only_first (lift (u a)) (lift (v b))) (λ p. nothing_said)
none_of_both f h u v one other g made as_made a b q r is e =
    as_made r ∙ ap (seen g) e ∙ nothing_seen (two f h) g (lift q) ∙ ap (λ x. on x (λ p. nothing_said)) (sym (both_seen f h u v one other a b q is))

-- ## Three parts

three_seen : {A B C X Y Z : Type 0} (f : A → X) (g : B → Y) (h : C → Z) (u : Ruled A → Ruled X) (v : Ruled B → Ruled Y) (w : Ruled C → Ruled Z) → Views f u → Views g v → Views h w →
    (a : Ruled A) (b : Ruled B) (c : Ruled C) (q : Ruled (B × C)) (r : Ruled (A × (B × C))) → lift q ≡ pair only_first (lift b) (lift c) → lift r ≡ pair only_first (lift a) (lift q) →
    pair only_first (lift (u a)) (pair only_first (lift (v b)) (lift (w c))) ≡ seen (two f (two g h)) (lift r)
three_seen f g h u v w one other last a b c q r inner outer =
    ap (λ x. pair only_first x (pair only_first (lift (v b)) (lift (w c)))) (one a)
    ∙ ap (λ x. pair only_first (seen f (lift a)) (pair only_first x (lift (w c)))) (other b)
    ∙ ap (λ x. pair only_first (seen f (lift a)) (pair only_first (seen g (lift b)) x)) (last c)
    ∙ ap (pair only_first (seen f (lift a))) (pair_seen g h (lift b) (lift c) ∙ ap (seen (two g h)) (sym inner))
    ∙ pair_seen f (two g h) (lift a) (lift q) ∙ ap (seen (two f (two g h))) (sym outer)

-- all three are found
pub three_found : {A B C X Y Z D : Type 0} (f : A → X) (g : B → Y) (h : C → Z) (u : Ruled A → Ruled X) (v : Ruled B → Ruled Y) (w : Ruled C → Ruled Z) → Views f u → Views g v → Views h w →
    (a : Ruled A) (b : Ruled B) (c : Ruled C) (q : Ruled (B × C)) (p : A × (B × C)) (go : X × (Y × Z) → Ruled D) (x : Ruled D) →
    lift q ≡ pair only_first (lift b) (lift c) → lift {A = A × (B × C)} (Ok p) ≡ pair only_first (lift a) (lift q) → x ≡ go (f p.0, (g p.1.0, h p.1.1)) →
    lift x ≡ on (pair only_first (lift (u a)) (pair only_first (lift (v b)) (lift (w c)))) go
three_found f g h u v w one other last a b c q p go x inner outer e =
    ap lift e ∙ sym (ap (λ y. on y go) (three_seen f g h u v w one other last a b c q (Ok p) inner outer))

-- one of them is refused
pub three_refused : {A B C X Y Z D : Type 0} (f : A → X) (g : B → Y) (h : C → Z) (u : Ruled A → Ruled X) (v : Ruled B → Ruled Y) (w : Ruled C → Ruled Z) → Views f u → Views g v → Views h w →
    (a : Ruled A) (b : Ruled B) (c : Ruled C) (q : Ruled (B × C)) (r : Option Problem) (go : X × (Y × Z) → Ruled D) →
    lift q ≡ pair only_first (lift b) (lift c) → lift {A = A × (B × C)} (Err r) ≡ pair only_first (lift a) (lift q) →
    lift {A = D} (Err r) ≡ on (pair only_first (lift (u a)) (pair only_first (lift (v b)) (lift (w c)))) go
three_refused f g h u v w one other last a b c q r go inner outer =
    sym (ap (λ y. on y go) (three_seen f g h u v w one other last a b c q (Err r) inner outer))
