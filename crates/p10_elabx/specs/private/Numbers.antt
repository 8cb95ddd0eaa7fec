-- Numbers of bytes in allocations, by their form.
use Rattle.std.specs.Prelude.{Bool, true, false, Option, Some, None}
use Rattle.p10_base.specs.declared.at.At.{At}
use Rattle.p10_syn.specs.Trees.{Expression, expression, Binary, SizeofType}
use Rattle.p10_core.specs.Typed.{PlainValue}
use Rattle.p10_elabx.specs.declared.bytes.Bytes.{Bytes}
use Rattle.p10_elabx.specs.declared.bytes.Bytes.TheVariants.{Size, Sizes, Elements, Other}
use Rattle.p10_elabx.specs.First.{Keep, Judged}
use Rattle.p10_elabx.specs.Scopes.{PlainScope, evaluating}
use Rattle.p10_elabx.specs.TypeNames.{Shape}
use Rattle.p10_elabx.specs.Built.{judged_shape, judged_value}
use Rattle.p10_elabx.specs.Judging.{is_star, place_of, value_in, judge, judge_type, judge_size}

-- what is found in a number of bytes: the size of a type; a product of two sizes, each with its place; one of a size, with its
-- place, and a number; or a number of another form
pub data NumberOfBytes : Type 0 where
  of_type : Judged Shape → NumberOfBytes
  of_sizes : At → Judged Shape → At → Judged Shape → NumberOfBytes
  of_elements : At → Judged Shape → Judged PlainValue → NumberOfBytes
  of_bytes : NumberOfBytes

-- the same for the code
abbrev pub plain_bytes : Bytes → NumberOfBytes
plain_bytes (Size t) = of_type (judged_shape t)
plain_bytes (Sizes a b) = of_sizes a.at (judged_shape a.found) b.at (judged_shape b.found)
plain_bytes (Elements at t v) = of_elements at (judged_shape t) (judged_value v)
plain_bytes Other = of_bytes

-- what is found in a product of two expressions, by the sizes that they are
abbrev pub product_in : Keep → PlainScope → Bool → Expression At → Option (Judged Shape) → Expression At → Option (Judged Shape) → NumberOfBytes
product_in h s true a (Some l) b (Some r) = of_sizes (place_of a) l (place_of b) r
product_in h s true a None b (Some r) = of_elements (place_of b) r (value_in s (judge h s a))
product_in h s true a (Some l) b None = of_elements (place_of a) l (value_in s (judge h s b))
product_in h s true a None b None = of_bytes
product_in h s false a l b r = of_bytes

-- what is found in a number of bytes
abbrev pub bytes_in : Keep → PlainScope → Expression At → NumberOfBytes
bytes_in h s (expression at n (SizeofType t)) = of_type (judge_type h (evaluating s) t)
bytes_in h s (expression at n (Binary word a b)) = product_in h s (is_star word) a (judge_size h (evaluating s) a) b (judge_size h (evaluating s) b)
bytes_in h s e = of_bytes
