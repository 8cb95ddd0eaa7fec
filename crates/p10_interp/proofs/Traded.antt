-- What the source gives and the sink takes at one time.
use Rattle.std.proofs.Common.{◌≡◌, ℕ, zero, suc, ◌==◌, ◌<◌, ◌≤◌, Bool, true, false, ◌⊎◌, inl, inr, List, [], ◌∷◌, ◌++◌, length, take, refl, sym, ap, ◌∙◌, append-nil, append_assoc, subst, Option, Result, Ok, Err, OnOk, OnErr, IfErr, arith, get_or, Fits, w8}
use Rattle.std.specs.List.{All}
use Rattle.std.proofs.lemmas.Bool.{eqb-true}
use Rattle.std.proofs.lemmas.Option.{slice_get-get_or, get_or_from_slice_get}
use Rattle.std.proofs.KnownBytes.{Consumes-nil, Appends-nil}
use Rattle.std.specs.Io.KnownBytes.{Consumes, Appends, IsAtEnd}
use Rattle.p10_world.specs.Sink.{TakesFront}
use Rattle.p10_core.specs.Typed.{PlainProgram}
use Rattle.p10_meaning.specs.States.{State, AssertionFailed, Undefined as IsUndefined, StepsSpent, Progress, gives, ends}
use Rattle.p10_meaning.proofs.Following.{follows_same}
use Rattle.p10_interp.specs.Stages.{Stage, at_loop, over}
use Rattle.p10_meaning.specs.Statements.{Frame}
use Rattle.p10_interp.specs.Resting.{rest_of, StaysAsked, Asks}
use Rattle.p10_interp.specs.declared.work.Halt.{Halt}
use Rattle.p10_interp.specs.declared.work.Halt.TheVariants.{Failed as HasFailed, Undefined as Stopped, Spent as HasSpent, Memory as WantsMemory}
use Rattle.p10_interp.specs.declared.broken.Broken.{Broken}
use Rattle.p10_interp.specs.declared.broken.Broken.TheVariants.{Failed, Undefined, Spent, Read, Write, Memory}
use Rattle.p10_interp.specs.declared.ended.Ended.{Ended}
use Rattle.p10_interp.specs.declared.ended.Ended.TheVariants.{AtLoop, TurnDone, Returned, AssertionFailed as AnswersFailed, Undefined as AnswersUndefined, StepsSpent as AnswersSpent}
use Rattle.p10_interp.specs.declared.outside.Outside.{Outside}
use Rattle.p10_interp.specs.declared.stacks.Stacks.{Stacks}
use Rattle.p10_interp.specs.private.Tasks.{Left}
use Rattle.p10_interp.specs.private.Nothing.{is_nil}
use Rattle.p10_interp.specs.private.Views.{flow_of}
use Rattle.p10_interp.specs.private.Machines.{state_of, rig_of}
use Rattle.p10_interp.specs.private.Resuming.{proceed}
use Rattle.p10_interp.specs.declared.work.Flow.{Flow as Way}
use Rattle.p10_interp.specs.private.Arriving.{Arrives}
use Rattle.p10_interp.specs.private.Parts.{stage_of}
use Rattle.p10_interp.specs.private.Trading.{TakesPiece, Consumed, breaks_by}
use Rattle.p10_interp.specs.private.Serving.{Moment, state_at, Serves, Loses, Comes, Yields}
use Rattle.p10_interp.proofs.Served.{asks_nothing, GoesOn, proceed_goes_on, loses_here, loses_still, loses_front, loses_given, comes_by}

-- the state with this input and this output
abbrev pub with_bytes : Outside → List ℕ → List ℕ → State
with_bytes s input output = record (state_of s (record { out = []; rest = [] })) { input = input; output = output }

-- ## Acts

arrives_yields : {X : Type 0} (p : PlainProgram) (n : ℕ) (o : Progress Left) (stacks : Stacks) (w : State) (h : Halt) (go : X → State → Progress Left) → Arrives p n o (Err h) stacks w → Yields o (Err (breaks_by h)) go w
arrives_yields p n o stacks w (HasFailed span) go a = a
arrives_yields p n o stacks w (Stopped stop span) go a = a
arrives_yields p n o stacks w HasSpent go a = a
arrives_yields p n o stacks w WantsMemory go a = a

-- an act halts
pub act_breaks : {X : Type 0} (p : PlainProgram) (n : ℕ) (from : State → Progress Left) (s t : Outside) (ended : Bool) (left taken : Option (List ℕ)) (stacks : Stacks) (h : Halt) (b : Broken) (go : X → State → Progress Left) →
    GoesOn from n → s.left ≤ n → b ≡ breaks_by h → ((rest earlier : List ℕ) → Arrives p n (from (state_at s rest earlier)) (Err h) stacks (state_at t rest earlier)) →
    Comes from (record { outside = s; ended = ended; left = left; taken = taken }) (Err b) go (record { outside = t; ended = ended; left = left; taken = taken })
act_breaks p n from s t ended left taken stacks h b go goes few e a =
    subst (λ b. Comes from (record { outside = s; ended = ended; left = left; taken = taken }) (Err b) go (record { outside = t; ended = ended; left = left; taken = taken })) (sym e)
    (comes_by from n s t ended left taken (Err (breaks_by h)) go goes few (λ rest earlier. arrives_yields p n (from (state_at s rest earlier)) stacks (state_at t rest earlier) h go (a rest earlier)))

-- ## Output

module _ {A : Type 0} (from : State → Progress A) (s t : Outside) (ended : Bool) (left taken taken_after : Option (List ℕ)) where
  put_state : ((input output : List ℕ) → with_bytes s input output ≡ with_bytes t input output) → s.pending ≡ t.pending → t.waiting.items ≡ [] → (rest earlier : List ℕ) →
      state_at s rest earlier ≡ state_at t rest (earlier ++ s.waiting.items)
  put_state same pending none rest earlier =
      same (s.pending ++ rest) (earlier ++ s.waiting.items) ∙ ap (λ bytes. with_bytes t (bytes ++ rest) (earlier ++ s.waiting.items)) pending ∙
      ap (λ out. with_bytes t (t.pending ++ rest) out) (sym (append-nil (earlier ++ s.waiting.items)) ∙ ap (λ more. (earlier ++ s.waiting.items) ++ more) (sym none))

  -- what waits was put
  pub serves_put : ((input output : List ℕ) → with_bytes s input output ≡ with_bytes t input output) → s.pending ≡ t.pending → t.waiting.items ≡ [] → Appends taken taken_after s.waiting.items →
      Serves from (record { outside = s; ended = ended; left = left; taken = taken }) from (record { outside = t; ended = ended; left = left; taken = taken_after })
  serves_put same pending none a = record {
    given = [];
    put = s.waiting.items;
    source = asks_nothing ended left;
    sink = a;
    same = λ rest earlier. ap from (put_state same pending none (rest_of ended rest) earlier);
  }

  pub comes_put : {X : Type 0} (P : Type 0) (n : ℕ) (r : Result X Broken) → GoesOn from n → s.left ≤ n → ((input output : List ℕ) → with_bytes s input output ≡ with_bytes t input output) → s.pending ≡ t.pending →
      OnOk r ((t.waiting.items ≡ []) × Appends taken taken_after s.waiting.items) → IfErr r (λ e. (e ≡ Write) × P) → OnErr r (TakesFront taken taken_after s.waiting.items) →
      Comes from (record { outside = s; ended = ended; left = left; taken = taken }) r (λ done. from) (record { outside = t; ended = ended; left = left; taken = taken_after })
  comes_put P n (Ok x) goes few same pending ok err front = serves_put same pending ok.0 ok.1
  comes_put {X} P n (Err e) goes few same pending ok err front =
      subst (λ e. Comes {X = X} from (record { outside = s; ended = ended; left = left; taken = taken }) (Err e) (λ done. from) (record { outside = t; ended = ended; left = left; taken = taken_after })) (sym err.0)
      (loses_front from n (record { outside = s; ended = ended; left = left; taken = taken }) taken_after goes few front)

-- what is settled goes on
pub stage_goes_on : (n : ℕ) (ended : Ended) (frame : Frame) → GoesOn (stage_of ended frame) n
stage_goes_on n AtLoop frame w few = follows_same w
stage_goes_on n TurnDone frame w few = follows_same w
stage_goes_on n (Returned z) frame w few = follows_same w
stage_goes_on n (AnswersFailed span) frame w few = follows_same w
stage_goes_on n (AnswersUndefined stop span) frame w few = follows_same w
stage_goes_on n AnswersSpent frame w few = follows_same w

-- ## Input

-- nothing stands before nothing
pub none_before : (xs ys zs : List ℕ) → zs ≡ xs ++ ys → zs ≡ [] → xs ≡ []
none_before [] ys zs e d = refl
none_before (x ∷ xs) ys zs e d = absurd (let no : x ∷ (xs ++ ys) ≡ [] = sym e ∙ d in cc)

-- a piece without bytes has none of them
pub none_taken : (n : ℕ) (xs : List ℕ) → n ≤ length xs → take n xs ≡ [] → (n == 0) ≡ true
none_taken zero xs few e = refl
none_taken (suc n) [] few e = absurd (omega (arith, few))
none_taken (suc n) (x ∷ xs) few e = absurd (let no : x ∷ take n xs ≡ [] = e in cc)

-- what a slice of bytes has is below 256
pub small_bytes : (bytes : List ℕ) → ((i : ℕ) → Fits w8 (get_or bytes i 0)) → All (λ b. b < 256) bytes
small_bytes bytes f k d h = omega (arith, f k, get_or_from_slice_get bytes k (get_or bytes k 0) d (slice_get-get_or bytes k 0 h))

-- what is taken where a source gave the front of a buffer, which was put before what was pending
pub takes_piece : (old new : Option (List ℕ)) (pending now buffer given : List ℕ) (count : ℕ) → given ≡ take count buffer → count ≤ length buffer → 0 < length buffer → Consumes old new (take count buffer)
    → (count ≡ 0 → 0 < length buffer → IsAtEnd new) → All (λ b. b < 256) given → now ≡ given ++ pending → TakesPiece old new pending now (count == 0)
takes_piece old new pending now buffer given count is within some taken end bytes put = record {
  given = given;
  taken = subst (λ xs. Consumes old new xs) (sym is) taken;
  bytes = bytes;
  pending_is = put;
  end = λ none. let nothing : count ≡ 0 = eqb-true count 0 none in (is ∙ ap (λ n. take n buffer) nothing, end nothing some);
  noted = λ none. none_taken count buffer within (sym is ∙ none);
}

module _ {A : Type 0} (from : State → Progress A) (s t : Outside) (left left_after taken : Option (List ℕ)) where
  piece_asked : (ended : Bool) (pending : List ℕ) (piece : TakesPiece left left_after pending t.pending ended) → Asks false ended left left_after piece.given
  piece_asked ended pending piece = record {
    taken = piece.taken;
    bytes = piece.bytes;
    once = λ e. absurd (let no : false ≡ true = e in cc);
    end = λ e d. (piece.end d).1;
  }

  given_state : ((input output : List ℕ) → with_bytes s input output ≡ with_bytes t input output) → (ended : Bool) → (piece : TakesPiece left left_after s.pending t.pending ended) → s.pending ≡ [] → s.waiting.items ≡ t.waiting.items →
      (rest earlier : List ℕ) → state_at s (piece.given ++ rest) earlier ≡ state_at t rest (earlier ++ [])
  given_state same ended piece none waiting rest earlier =
      same (s.pending ++ (piece.given ++ rest)) (earlier ++ s.waiting.items) ∙
      ap (λ input. with_bytes t input (earlier ++ s.waiting.items)) (ap (λ bytes. bytes ++ (piece.given ++ rest)) none ∙ ap (λ bytes. bytes ++ rest) (sym (append-nil piece.given) ∙ ap (λ bytes. piece.given ++ bytes) (sym none) ∙ sym piece.pending_is)) ∙
      ap (λ out. with_bytes t (t.pending ++ rest) out) (ap (λ bytes. earlier ++ bytes) waiting ∙ ap (λ bytes. bytes ++ t.waiting.items) (sym (append-nil earlier)))

  serves_new : (ended : Bool) → ((input output : List ℕ) → with_bytes s input output ≡ with_bytes t input output) → s.pending ≡ [] → s.waiting.items ≡ t.waiting.items → TakesPiece left left_after s.pending t.pending ended →
      Serves from (record { outside = s; ended = false; left = left; taken = taken }) from (record { outside = t; ended = ended; left = left_after; taken = taken })
  serves_new ended same none waiting piece = record {
    given = piece.given;
    put = [];
    source = piece_asked ended s.pending piece;
    sink = Appends-nil taken;
    same = λ rest earlier. ap from (given_state same ended piece none waiting (rest_of ended rest) earlier);
  }

  -- the source, which hadn't ended, gave a piece
  pub serves_piece : (was ended : Bool) → was ≡ false → ((input output : List ℕ) → with_bytes s input output ≡ with_bytes t input output) → s.pending ≡ [] → s.waiting.items ≡ t.waiting.items → TakesPiece left left_after s.pending t.pending ended →
      Serves from (record { outside = s; ended = was; left = left; taken = taken }) from (record { outside = t; ended = ended; left = left_after; taken = taken })
  serves_piece was ended e same none waiting piece =
      subst (λ b. Serves from (record { outside = s; ended = b; left = left; taken = taken }) from (record { outside = t; ended = ended; left = left_after; taken = taken })) (sym e) (serves_new ended same none waiting piece)

  some_asked : (c : Consumed left left_after) → Asks false false left left_after c.given
  some_asked c = record { taken = c.taken; bytes = c.bytes; once = λ e. absurd (let no : false ≡ true = e in cc); end = λ e d. absurd (let no : false ≡ true = d in cc) }

  some_lost : (n : ℕ) → GoesOn from n → s.left ≤ n → Consumed left left_after → Loses from (record { outside = s; ended = false; left = left; taken = taken }) left_after taken
  some_lost n goes few c = loses_given from n (record { outside = s; ended = false; left = left; taken = taken }) left_after c.given goes few (some_asked c)

  lost_by : {X P : Type 0} (n : ℕ) (b : Broken) (go : X → State → Progress A) → GoesOn from n → s.left ≤ n → Consumed left left_after → (b ≡ Memory) ⊎ ((b ≡ Read) × P) →
      Comes from (record { outside = s; ended = false; left = left; taken = taken }) (Err b) go (record { outside = t; ended = false; left = left_after; taken = taken })
  lost_by {X} n b go goes few c (inl e) =
      subst (λ b. Comes {X = X} from (record { outside = s; ended = false; left = left; taken = taken }) (Err b) go (record { outside = t; ended = false; left = left_after; taken = taken })) (sym e) (some_lost n goes few c)
  lost_by {X} n b go goes few c (inr h) =
      subst (λ b. Comes {X = X} from (record { outside = s; ended = false; left = left; taken = taken }) (Err b) go (record { outside = t; ended = false; left = left_after; taken = taken })) (sym h.0) (some_lost n goes few c)

  -- the source failed, or there was no memory for what it gave
  pub loses_piece : {X P : Type 0} (was : Bool) (n : ℕ) (b : Broken) (go : X → State → Progress A) → was ≡ false → GoesOn from n → s.left ≤ n → Consumed left left_after → (b ≡ Memory) ⊎ ((b ≡ Read) × P) →
      Comes from (record { outside = s; ended = was; left = left; taken = taken }) (Err b) go (record { outside = t; ended = was; left = left_after; taken = taken })
  loses_piece {X} was n b go e goes few c h =
      subst (λ was. Comes {X = X} from (record { outside = s; ended = was; left = left; taken = taken }) (Err b) go (record { outside = t; ended = was; left = left_after; taken = taken })) (sym e) (lost_by n b go goes few c h)

-- ## The end of the input

nothing_pending : (xs : List ℕ) → is_nil xs ≡ true → xs ≡ []
nothing_pending [] e = refl
nothing_pending (x ∷ xs) e = absurd (let no : false ≡ true = e in cc)

no_input : (ended : Bool) (xs rest : List ℕ) → ended ≡ true → xs ≡ [] → xs ++ rest_of ended rest ≡ []
no_input ended xs rest e d = ap (λ b. xs ++ rest_of b rest) e ∙ (append-nil xs ∙ d)

-- the act that takes a byte
pub comes_end : {X : Type 0} (p : PlainProgram) (n : ℕ) (way : Way) (stacks now : Stacks) (s : Outside) (ended : Bool) (left taken : Option (List ℕ)) (r : Result X Broken) (empty : Bool) → ended ≡ true → empty ≡ is_nil s.pending → empty ≡ true → s.left ≤ n →
    OnOk r ((p : PlainProgram) (n : ℕ) (w : State) → w.input ≡ [] → proceed p n (rig_of (flow_of way) stacks) w ≡ proceed p n (rig_of (flow_of way) now) w) → IfErr r (λ e. e ≡ Memory) →
    Comes (proceed p n (rig_of (flow_of way) stacks)) (record { outside = s; ended = ended; left = left; taken = taken }) r (λ done. proceed p n (rig_of (flow_of way) now)) (record { outside = s; ended = ended; left = left; taken = taken })
comes_end p n way stacks now s ended left taken (Ok x) empty e nil true_is few ok err = record {
  given = [];
  put = [];
  source = asks_nothing ended left;
  sink = Appends-nil taken;
  same = λ rest earlier.
      ok p n (state_at s (rest_of ended rest) earlier) (no_input ended s.pending rest e (nothing_pending s.pending (sym nil ∙ true_is))) ∙
      ap (λ out. proceed p n (rig_of (flow_of way) now) (state_at s (rest_of ended rest) out)) (sym (append-nil earlier));
}
comes_end {X} p n way stacks now s ended left taken (Err b) empty e nil true_is few ok err =
    subst (λ b. Comes {X = X} (proceed p n (rig_of (flow_of way) stacks)) (record { outside = s; ended = ended; left = left; taken = taken }) (Err b) (λ done. proceed p n (rig_of (flow_of way) now)) (record { outside = s; ended = ended; left = left; taken = taken })) (sym err)
    (loses_still (proceed p n (rig_of (flow_of way) stacks)) n (record { outside = s; ended = ended; left = left; taken = taken }) (proceed_goes_on p n (rig_of (flow_of way) stacks)) few)
