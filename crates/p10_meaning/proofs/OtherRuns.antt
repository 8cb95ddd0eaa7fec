-- The runs of further small programs, by computation.
use Rattle.std.proofs.Common.{refl}
use Rattle.p10_int.specs.Operators.{fitted, quotient, remainder, shifted_left, shifted_right, bitwise, complement}
use Rattle.p10_int.specs.Conversion.{reduced}
use Rattle.p10_core.specs.Sizes.{layout_of}
use Rattle.p10_meaning.specs.OtherCosts.{OtherStepsAreCounted}
use Rattle.p10_meaning.specs.OtherStops.{OthersStopToo}
use Rattle.p10_meaning.specs.Turns.{TurnsGive}

pub other_steps_are_counted : OtherStepsAreCounted
unfolding fitted reduced layout_of
other_steps_are_counted = record {
  literals = record { enough = refl; fewer = refl };
  library_functions = record { enough = refl; fewer = refl };
  sensors = record { enough = refl; fewer = refl };
  one_element = record { enough = refl; fewer = refl };
  zeros = record { enough = refl; fewer = refl };
  elements = record {
    set = record { enough = refl; fewer = refl };
    updated = record { enough = refl; fewer = refl };
    stepped = record { enough = refl; fewer = refl };
    addressed = record { enough = refl; fewer = refl };
  };
  arrows = record { enough = refl; fewer = refl };
  declarations = record { enough = refl; fewer = refl };
  nothing = record { enough = refl; fewer = refl };
  returned = record {
    without_value = record { enough = refl; fewer = refl };
    none = record { enough = refl; fewer = refl };
  };
  clauses = record { enough = refl; fewer = refl };
  jumps = record {
    continued = record { enough = refl; fewer = refl };
    broken = record { enough = refl; fewer = refl };
    without_a_turn = record { enough = refl; fewer = refl };
    without_a_label = record { enough = refl; fewer = refl };
  };
  frames = refl;
}

pub others_stop_too : OthersStopToo
unfolding fitted reduced layout_of quotient remainder shifted_left shifted_right bitwise complement
others_stop_too = record {
  integers = record {
    difference = refl;
    product = refl;
    step_up = refl;
    step_down = refl;
    negative_count = refl;
    count_before_result = refl;
    negative_left = refl;
    negative_moved_right = refl;
    unsigned = refl;
  };
  pointers = record {
    null_subtracted = refl;
    null_indexed = refl;
    member_of_null = refl;
    null_compared = refl;
    one_past_written = refl;
    member_of_one_past = refl;
    dead_written = refl;
    dead_indexed = refl;
    dead_subtracted = refl;
    members_ordered = refl;
    ordered = refl;
  };
  missing = record {
    unset_pointer = refl;
    unset_allocation = refl;
    as_condition = refl;
    as_result = refl;
    as_argument = refl;
    as_initializer = refl;
  };
  others = record {
    freed_dead = refl;
    freed_literal = refl;
    updated_literal = refl;
  };
}

pub turns_give : TurnsGive
unfolding fitted reduced layout_of quotient remainder shifted_left shifted_right bitwise complement
turns_give = record {
  go_on = record {
    continued = refl;
    after_a_switch = refl;
    after_a_loop = refl;
    objects_die = refl;
    allocations = refl;
    depths = refl;
  };
  end = record {
    returned = refl;
    left = refl;
    stopped = refl;
    failed = refl;
    enough = refl;
    too_few = refl;
  };
  without = record {
    returned_before = refl;
    not_returned = refl;
    without_a_loop = refl;
    without_return = refl;
  };
}
