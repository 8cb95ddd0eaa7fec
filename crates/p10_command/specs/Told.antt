-- What the outputs of a command take.
use Rattle.std.specs.Prelude.{◌≡◌, ℕ, List, Option}
use Rattle.std.specs.Io.KnownBytes.{Appends}
use Rattle.p10_world.specs.Sink.{TakesFront}
use Rattle.p10_command.specs.Saying.{Saying}

-- both outputs took all of their texts
pub record BothTake (out_old out_new err_old err_new : Option (List ℕ)) (out err : List ℕ) : Type 0 where
  pub on_out : Appends out_old out_new out
  pub on_err : Appends err_old err_new err

-- each output took a prefix of its text
pub record BothTakeFronts (out_old out_new err_old err_new : Option (List ℕ)) (out err : List ℕ) : Type 0 where
  pub on_out : TakesFront out_old out_new out
  pub on_err : TakesFront err_old err_new err

-- a line was written to the error output, all of it, and this is its status
pub record IsTold (status : ℕ) (line : List ℕ) (err_old err_new : Option (List ℕ)) (given : ℕ) : Type 0 where
  pub status_is : given ≡ status
  pub taken : Appends err_old err_new line

-- the status and both texts of something that may be said were given, and nothing else
pub record Told (may_be_said : Saying → Type 0) (out_old out_new err_old err_new : Option (List ℕ)) (status : ℕ) : Type 0 where
  pub saying : Saying
  pub may : may_be_said saying
  pub status_is : status ≡ saying.status
  pub taken : BothTake out_old out_new err_old err_new saying.out saying.err

-- each output has taken a prefix of something that may be said
pub record Stopped (may_be_said : Saying → Type 0) (out_old out_new err_old err_new : Option (List ℕ)) : Type 0 where
  pub saying : Saying
  pub may : may_be_said saying
  pub taken : BothTakeFronts out_old out_new err_old err_new saying.out saying.err
