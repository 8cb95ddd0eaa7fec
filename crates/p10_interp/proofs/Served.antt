-- What the machine's dealings with a source and a sink come to, one after another.
use Rattle.std.proofs.Common.{◌≡◌, ℕ, ◌≤◌, ◌<◌, ◌⊎◌, inl, inr, arith, OnOk, IfOk, Bool, true, false, List, [], ◌++◌, refl, sym, ap, ◌∙◌, append-nil, append_assoc, subst, Option, Result, Ok, Err}
use Rattle.std.proofs.lemmas.List.Elements.{All-nil, All-append}
use Rattle.std.proofs.KnownBytes.{Consumes-nil, Consumes-trans, Appends-nil, Appends-trans}
use Rattle.std.specs.Io.KnownBytes.{Appends, IsAtEnd}
use Rattle.p10_world.specs.Sink.{TakesFront}
use Rattle.p10_core.specs.Typed.{PlainProgram}
use Rattle.p10_meaning.specs.States.{State, AssertionFailed, Undefined as IsUndefined, StepsSpent, Progress, gives, ends, and_then}
use Rattle.p10_meaning.specs.Laws.{Extends, Follows, EndsAfter}
use Rattle.p10_meaning.proofs.Following.{extends_same, extends_trans}
use Rattle.p10_interp.specs.Resting.{rest_of, StaysAsked, Asks, output_of}
use Rattle.p10_interp.specs.declared.broken.Broken.{Broken}
use Rattle.p10_interp.specs.declared.broken.Broken.TheVariants.{Failed, Undefined, Spent, Read, Write, Memory}
use Rattle.p10_interp.specs.declared.outside.Outside.{Outside}
use Rattle.p10_interp.specs.declared.work.Pause.{Pause}
use Rattle.p10_interp.specs.declared.work.Pause.TheVariants.{Over, Held}
use Rattle.p10_interp.specs.private.Arriving.{Falls, IsHeldBelow}
use Rattle.p10_interp.specs.private.Tasks.{Left, Rig}
use Rattle.p10_interp.specs.private.Resuming.{proceed}
use Rattle.p10_interp.specs.private.Serving.{Moment, state_at, Serves, Loses, Comes, Yields}
use Rattle.p10_interp.proofs.Following.{Goes}
use Rattle.p10_interp.proofs.Ending.{proceed_goes}

-- ## The source

true_false : {A : Type 0} → true ≡ false → A
true_false e = absurd (let no : true ≡ false = e in cc)

stays_asked : (left : Option (List ℕ)) → StaysAsked true left left []
stays_asked left = record { none = refl; ended = refl; same = refl }

-- the source isn't asked
pub asks_nothing : (b : Bool) (left : Option (List ℕ)) → Asks b b left left []
asks_nothing true left = record { taken = Consumes-nil left; bytes = All-nil (λ byte. byte < 256); once = λ e. stays_asked left; end = λ e d. true_false e }
asks_nothing false left = record { taken = Consumes-nil left; bytes = All-nil (λ byte. byte < 256); once = λ e. true_false (sym e); end = λ e d. true_false (sym d) }

none_given : (xs ys : List ℕ) → xs ≡ [] → ys ≡ [] → xs ++ ys ≡ []
none_given xs ys e d = subst (λ zs. zs ++ ys ≡ []) (sym e) d

stays_twice : (b c : Bool) (l m n : Option (List ℕ)) (xs ys : List ℕ) → StaysAsked b l m xs → Asks b c m n ys → StaysAsked c l n (xs ++ ys)
stays_twice b c l m n xs ys s a = let t : StaysAsked c m n ys = a.once s.ended in
    record { none = none_given xs ys s.none t.none; ended = t.ended; same = t.same ∙ s.same }

end_twice : (a b c : Bool) (l m n : Option (List ℕ)) (xs ys : List ℕ) → Asks a b l m xs → Asks b c m n ys → a ≡ false → c ≡ true → IsAtEnd n
end_twice a true c l m n xs ys x y e d = let s : StaysAsked c m n ys = y.once refl in subst IsAtEnd (sym s.same) (x.end e refl)
end_twice a false c l m n xs ys x y e d = y.end refl d

asks_twice : (a b c : Bool) (l m n : Option (List ℕ)) (xs ys : List ℕ) → Asks a b l m xs → Asks b c m n ys → Asks a c l n (xs ++ ys)
asks_twice a b c l m n xs ys x y = record {
  taken = Consumes-trans l m n xs ys x.taken y.taken;
  bytes = All-append (λ byte. byte < 256) xs ys x.bytes y.bytes;
  once = λ e. stays_twice b c l m n xs ys (x.once e) y;
  end = end_twice a b c l m n xs ys x y;
}

-- nothing comes after the end of the source
rest_after : (b c : Bool) (m n : Option (List ℕ)) (ys rest : List ℕ) → Asks b c m n ys → rest_of b (ys ++ rest_of c rest) ≡ ys ++ rest_of c rest
rest_after false c m n ys rest a = refl
rest_after true c m n ys rest a = let s : StaysAsked c m n ys = a.once refl in
    subst (λ zs. [] ≡ zs ++ rest_of c rest) (sym s.none) (subst (λ b. [] ≡ rest_of b rest) (sym s.ended) refl)

-- ## One piece after another

module _ {A : Type 0} where
  -- nothing was done
  pub serves_same : (from : State → Progress A) (m : Moment) → Serves from m from m
  serves_same from m = record {
    given = [];
    put = [];
    source = asks_nothing m.ended m.left;
    sink = Appends-nil m.taken;
    same = λ rest earlier. ap (λ out. from (state_at m.outside (rest_of m.ended rest) out)) (sym (append-nil earlier));
  }

  -- what comes of the middle comes of the beginning, when these bytes were given and put
  begins_with : (from to : State → Progress A) (old middle : Moment) (s : Serves from old to middle) (c : Bool) (n : Option (List ℕ)) (ys rest earlier : List ℕ) →
      Asks middle.ended c middle.left n ys →
      from (state_at old.outside ((s.given ++ ys) ++ rest_of c rest) earlier) ≡ to (state_at middle.outside (ys ++ rest_of c rest) (earlier ++ s.put))
  begins_with from to old middle s c n ys rest earlier a =
      ap (λ input. from (state_at old.outside input earlier)) (append_assoc s.given ys (rest_of c rest)) ∙
      subst (λ more. from (state_at old.outside (s.given ++ more) earlier) ≡ to (state_at middle.outside more (earlier ++ s.put))) (rest_after middle.ended c middle.left n ys rest a) (s.same (ys ++ rest_of c rest) earlier)

  pub serves_then : (from to on : State → Progress A) (old middle new : Moment) → Serves from old to middle → Serves to middle on new → Serves from old on new
  serves_then from to on old middle new s t = record {
    given = s.given ++ t.given;
    put = s.put ++ t.put;
    source = asks_twice old.ended middle.ended new.ended old.left middle.left new.left s.given t.given s.source t.source;
    sink = Appends-trans old.taken middle.taken new.taken s.put t.put s.sink t.sink;
    same = λ rest earlier.
        begins_with from to old middle s new.ended new.left t.given rest earlier t.source ∙ t.same rest (earlier ++ s.put) ∙
        ap (λ out. on (state_at new.outside (rest_of new.ended rest) out)) (append_assoc earlier s.put t.put);
  }

  pub serves_loses : (from to : State → Progress A) (old middle : Moment) (left taken : Option (List ℕ)) → Serves from old to middle → Loses to middle left taken → Loses from old left taken
  serves_loses from to old middle left taken s t = record {
    given = s.given ++ t.given;
    put = s.put ++ t.put;
    ended = t.ended;
    source = asks_twice old.ended middle.ended t.ended old.left middle.left left s.given t.given s.source t.source;
    sink = Appends-trans old.taken middle.taken taken s.put t.put s.sink t.sink;
    prefix = λ rest earlier.
        subst (λ o. Extends (earlier ++ (s.put ++ t.put)) (output_of o)) (sym (begins_with from to old middle s t.ended left t.given rest earlier t.source))
        (subst (λ out. Extends out (output_of (to (state_at middle.outside (t.given ++ rest_of t.ended rest) (earlier ++ s.put))))) (append_assoc earlier s.put t.put) (t.prefix rest (earlier ++ s.put)));
  }

  -- an answer after a piece
  pub serves_comes : {X : Type 0} (from to : State → Progress A) (old middle new : Moment) (r : Result X Broken) (go : X → State → Progress A) → Serves from old to middle → Comes to middle r go new → Comes from old r go new
  serves_comes from to old middle new (Ok x) go s c = serves_then from to (go x) old middle new s c
  serves_comes from to old middle new (Err (Failed span)) go s c = serves_then from to (λ w. ends (AssertionFailed span) w) old middle new s c
  serves_comes from to old middle new (Err (Undefined stop span)) go s c = serves_then from to (λ w. ends (IsUndefined stop span) w) old middle new s c
  serves_comes from to old middle new (Err Spent) go s c = serves_then from to (λ w. ends StepsSpent w) old middle new s c
  serves_comes from to old middle new (Err Read) go s c = serves_loses from to old middle new.left new.taken s c
  serves_comes from to old middle new (Err Write) go s c = serves_loses from to old middle new.left new.taken s c
  serves_comes from to old middle new (Err Memory) go s c = serves_loses from to old middle new.left new.taken s c

-- an error is handed on
pub comes_on : {A X Y : Type 0} (from : State → Progress A) (old new : Moment) (e : Broken) (go : X → State → Progress A) (to : Y → State → Progress A) →
    Comes from old (Err e) go new → Comes from old (Err e) to new
comes_on from old new (Failed span) go to c = c
comes_on from old new (Undefined stop span) go to c = c
comes_on from old new Spent go to c = c
comes_on from old new Read go to c = c
comes_on from old new Write go to c = c
comes_on from old new Memory go to c = c

-- ## Giving up

-- what comes of a state with at most n steps comes after it
abbrev pub GoesOn : {A : Type 0} → (State → Progress A) → ℕ → Type 0
GoesOn from n = (w : State) → w.left ≤ n → EndsAfter w (from w)

pub grown : {A : Type 0} (w : State) (o : Progress A) → EndsAfter w o → Extends w.output (output_of o)
grown w (gives a v) f = f.output
grown w (ends end v) f = f.output

pub proceed_goes_on : (p : PlainProgram) (n : ℕ) (r : Rig) → GoesOn (proceed p n r) n
proceed_goes_on p n r w b = let g : Goes w (proceed p n r w) = proceed_goes p n r w b in g.after

-- a prefix of what waits went out
front_of : (earlier waiting front back all : List ℕ) → waiting ≡ front ++ back → Extends (earlier ++ waiting) all → Extends (earlier ++ front) all
front_of earlier waiting front back all e x = record {
  more = back ++ x.more;
  is = x.is ∙ ap (λ bytes. (earlier ++ bytes) ++ x.more) e ∙ ap (λ bytes. bytes ++ x.more) (sym (append_assoc earlier front back)) ∙ append_assoc (earlier ++ front) back x.more;
}

pub loses_here : {A : Type 0} (from : State → Progress A) (n : ℕ) (old : Moment) (ended : Bool) (left taken : Option (List ℕ)) (given front back : List ℕ) → GoesOn from n → old.outside.left ≤ n →
    Asks old.ended ended old.left left given → Appends old.taken taken front → old.outside.waiting.items ≡ front ++ back → Loses from old left taken
loses_here from n old ended left taken given front back goes few a t e = record {
  given = given;
  put = front;
  ended = ended;
  source = a;
  sink = t;
  prefix = λ rest earlier.
      front_of earlier old.outside.waiting.items front back (output_of (from (state_at old.outside (given ++ rest_of ended rest) earlier))) e
      (grown (state_at old.outside (given ++ rest_of ended rest) earlier) (from (state_at old.outside (given ++ rest_of ended rest) earlier)) (goes (state_at old.outside (given ++ rest_of ended rest) earlier) few));
}

-- nothing went in or out
pub loses_still : {A : Type 0} (from : State → Progress A) (n : ℕ) (old : Moment) → GoesOn from n → old.outside.left ≤ n → Loses from old old.left old.taken
loses_still from n old goes few = loses_here from n old old.ended old.left old.taken [] [] old.outside.waiting.items goes few (asks_nothing old.ended old.left) (Appends-nil old.taken) refl

-- a put failed
pub loses_front : {A : Type 0} (from : State → Progress A) (n : ℕ) (old : Moment) (taken : Option (List ℕ)) → GoesOn from n → old.outside.left ≤ n →
    TakesFront old.taken taken old.outside.waiting.items → Loses from old old.left taken
loses_front from n old taken goes few f = loses_here from n old old.ended old.left taken [] f.front f.back goes few (asks_nothing old.ended old.left) f.taken f.parts

-- the source gave bytes, and there was no memory for them
pub loses_given : {A : Type 0} (from : State → Progress A) (n : ℕ) (old : Moment) (left : Option (List ℕ)) (given : List ℕ) → GoesOn from n → old.outside.left ≤ n →
    Asks old.ended old.ended old.left left given → Loses from old left old.taken
loses_given from n old left given goes few a = loses_here from n old old.ended left old.taken given [] old.outside.waiting.items goes few a (Appends-nil old.taken) refl

-- ## Where the outside isn't asked

-- the same comes of the states at two moments
pub serves_by : {A : Type 0} (from to : State → Progress A) (s t : Outside) (ended : Bool) (left taken : Option (List ℕ)) →
    ((rest earlier : List ℕ) → from (state_at s rest earlier) ≡ to (state_at t rest earlier)) →
    Serves from (record { outside = s; ended = ended; left = left; taken = taken }) to (record { outside = t; ended = ended; left = left; taken = taken })
serves_by from to s t ended left taken e = record {
  given = [];
  put = [];
  source = asks_nothing ended left;
  sink = Appends-nil taken;
  same = λ rest earlier. e (rest_of ended rest) earlier ∙ ap (λ out. to (state_at t (rest_of ended rest) out)) (sym (append-nil earlier));
}

pub comes_by : {A X : Type 0} (from : State → Progress A) (n : ℕ) (s t : Outside) (ended : Bool) (left taken : Option (List ℕ)) (r : Result X Broken) (to : X → State → Progress A) →
    GoesOn from n → s.left ≤ n → ((rest earlier : List ℕ) → Yields (from (state_at s rest earlier)) r to (state_at t rest earlier)) →
    Comes from (record { outside = s; ended = ended; left = left; taken = taken }) r to (record { outside = t; ended = ended; left = left; taken = taken })
comes_by from n s t ended left taken (Ok x) to goes few e = serves_by from (to x) s t ended left taken e
comes_by from n s t ended left taken (Err (Failed span)) to goes few e = serves_by from (λ w. ends (AssertionFailed span) w) s t ended left taken e
comes_by from n s t ended left taken (Err (Undefined stop span)) to goes few e = serves_by from (λ w. ends (IsUndefined stop span) w) s t ended left taken e
comes_by from n s t ended left taken (Err Spent) to goes few e = serves_by from (λ w. ends StepsSpent w) s t ended left taken e
comes_by from n s t ended left taken (Err Read) to goes few e = absurd (e [] [])
comes_by from n s t ended left taken (Err Write) to goes few e = absurd (e [] [])
comes_by from n s t ended left taken (Err Memory) to goes few e = loses_still from n (record { outside = s; ended = ended; left = left; taken = taken }) goes few

-- ## The same from other pieces

module _ {A : Type 0} (from to : State → Progress A) (same : (w : State) → from w ≡ to w) where
  serves_as : (on : State → Progress A) (old new : Moment) → Serves to old on new → Serves from old on new
  serves_as on old new s = record {
    given = s.given;
    put = s.put;
    source = s.source;
    sink = s.sink;
    same = λ rest earlier. same (state_at old.outside (s.given ++ rest_of new.ended rest) earlier) ∙ s.same rest earlier;
  }

  loses_as : (old : Moment) (left taken : Option (List ℕ)) → Loses to old left taken → Loses from old left taken
  loses_as old left taken l = record {
    given = l.given;
    put = l.put;
    ended = l.ended;
    source = l.source;
    sink = l.sink;
    prefix = λ rest earlier. subst (λ o. Extends (earlier ++ l.put) (output_of o)) (sym (same (state_at old.outside (l.given ++ rest_of l.ended rest) earlier))) (l.prefix rest earlier);
  }

  -- what comes of equal pieces
  pub comes_as : {X : Type 0} (old new : Moment) (r : Result X Broken) (go : X → State → Progress A) → Comes to old r go new → Comes from old r go new
  comes_as old new (Ok x) go c = serves_as (go x) old new c
  comes_as old new (Err (Failed span)) go c = serves_as (λ w. ends (AssertionFailed span) w) old new c
  comes_as old new (Err (Undefined stop span)) go c = serves_as (λ w. ends (IsUndefined stop span) w) old new c
  comes_as old new (Err Spent) go c = serves_as (λ w. ends StepsSpent w) old new c
  comes_as old new (Err Read) go c = loses_as old new.left new.taken c
  comes_as old new (Err Write) go c = loses_as old new.left new.taken c
  comes_as old new (Err Memory) go c = loses_as old new.left new.taken c

-- out of memory
pub comes_memory : {A X : Type 0} (from : State → Progress A) (n : ℕ) (s t : Outside) (ended now : Bool) (left taken : Option (List ℕ)) (e : Broken) (go : X → State → Progress A) → GoesOn from n → s.left ≤ n → e ≡ Memory →
    Comes from (record { outside = s; ended = ended; left = left; taken = taken }) (Err e) go (record { outside = t; ended = now; left = left; taken = taken })
comes_memory {A} {X} from n s t ended now left taken e go goes few is =
    subst (λ e. Comes {A = A} {X = X} from (record { outside = s; ended = ended; left = left; taken = taken }) (Err e) go (record { outside = t; ended = now; left = left; taken = taken })) (sym is)
    (loses_still from n (record { outside = s; ended = ended; left = left; taken = taken }) goes few)

-- the outside isn't asked, and whether the source has ended stays
pub serves_at : {A : Type 0} (from to : State → Progress A) (s t : Outside) (ended now : Bool) (left taken : Option (List ℕ)) → now ≡ ended → ((rest earlier : List ℕ) → from (state_at s rest earlier) ≡ to (state_at t rest earlier)) →
    Serves from (record { outside = s; ended = ended; left = left; taken = taken }) to (record { outside = t; ended = now; left = left; taken = taken })
serves_at from to s t ended now left taken is e =
    subst (λ now. Serves from (record { outside = s; ended = ended; left = left; taken = taken }) to (record { outside = t; ended = now; left = left; taken = taken })) (sym is) (serves_by from to s t ended left taken e)

pub comes_at : {A X : Type 0} (from : State → Progress A) (n : ℕ) (s t : Outside) (ended now : Bool) (left taken : Option (List ℕ)) (r : Result X Broken) (to : X → State → Progress A) → now ≡ ended →
    GoesOn from n → s.left ≤ n → ((rest earlier : List ℕ) → Yields (from (state_at s rest earlier)) r to (state_at t rest earlier)) →
    Comes from (record { outside = s; ended = ended; left = left; taken = taken }) r to (record { outside = t; ended = now; left = left; taken = taken })
comes_at from n s t ended now left taken r to is goes few e =
    subst (λ now. Comes from (record { outside = s; ended = ended; left = left; taken = taken }) r to (record { outside = t; ended = now; left = left; taken = taken })) (sym is) (comes_by from n s t ended left taken r to goes few e)

-- ## Measures

pub falls_left : (pause : Pause) (l m l_now m_now : ℕ) → Falls pause l m l_now m_now → l_now ≤ l
falls_left (Over flow) l m l_now m_now f = f
falls_left (Held flow) l m l_now m_now (inl f) = omega (arith, f)
falls_left (Held flow) l m l_now m_now (inr f) = let e : l_now ≡ l = f.0 in omega (arith, e)

falls_more : (pause : Pause) (l m l_now m_now l_then m_then : ℕ) → Falls pause l m l_now m_now → l_then ≡ l_now → m_then ≤ m_now → Falls pause l m l_then m_then
falls_more (Over flow) l m l_now m_now l_then m_then f e g = omega (arith, f, e)
falls_more (Held flow) l m l_now m_now l_then m_then (inl f) e g = inl (omega (arith, f, e))
falls_more (Held flow) l m l_now m_now l_then m_then (inr f) e g = inr (e ∙ f.0, (let h : m_now < m = f.1 in omega (arith, h, g)))

pub falls_on : (r : Result Pause Broken) (pause : Pause) (l m l_now m_now l_then m_then : ℕ) → Falls pause l m l_now m_now → l_then ≡ l_now → OnOk r (m_then ≤ m_now) → IfOk r (λ x. x ≡ pause) → IfOk r (λ x. Falls x l m l_then m_then)
falls_on (Ok x) pause l m l_now m_now l_then m_then f e g same = subst (λ x. Falls x l m l_then m_then) (sym same) (falls_more pause l m l_now m_now l_then m_then f e g)
falls_on (Err b) pause l m l_now m_now l_then m_then f e g same = tt

pub below_left : (pause : Pause) (l l_now : ℕ) → IsHeldBelow pause l l_now → l_now ≤ l
below_left (Over flow) l l_now f = f
below_left (Held flow) l l_now f = omega (arith, f)
