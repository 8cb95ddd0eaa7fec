-- Values of the code as those of the definitions.
use Rattle.p10_direct.specs.declared.value.Constant.{Constant as CodedConstant}
use Rattle.p10_direct.specs.declared.value.Value.{Value as CodedValue}
use Rattle.p10_direct.specs.Constants.{Constant}
use Rattle.p10_direct.specs.Values.{Value}

-- a constant of the code
abbrev pub constant_read : CodedConstant → Constant
constant_read c = record { value = c.value; unsigned = c.unsigned }

-- a value of the code
abbrev pub value_read : CodedValue → Value
value_read v = record { unsigned = v.unsigned; value = v.value }
