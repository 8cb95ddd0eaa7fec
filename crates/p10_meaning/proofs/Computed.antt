-- The runs of small programs, by computation.
use Rattle.std.proofs.Common.{refl}
use Rattle.p10_int.specs.Operators.{fitted, quotient, remainder, shifted_left, shifted_right, bitwise, complement}
use Rattle.p10_int.specs.Conversion.{reduced}
use Rattle.p10_core.specs.Sizes.{layout_of}
use Rattle.p10_meaning.specs.Costs.{StepsAreCounted}
use Rattle.p10_meaning.specs.Stopping.{RunsStop}
use Rattle.p10_meaning.specs.Tasks.{RunsGive}
use Rattle.p10_meaning.specs.Edges.{EdgesAreSettled}

pub steps_are_counted : StepsAreCounted
unfolding fitted reduced layout_of
steps_are_counted = record {
  constants = record { enough = refl; fewer = refl };
  operators = record { enough = refl; fewer = refl };
  casts = record { enough = refl; fewer = refl };
  conversions = record { enough = refl; fewer = refl };
  logic_operators = record {
    and_decided = record { enough = refl; fewer = refl };
    and_open = record { enough = refl; fewer = refl };
    or_decided = record { enough = refl; fewer = refl };
    or_open = record { enough = refl; fewer = refl };
  };
  conditionals = record { enough = refl; fewer = refl };
  arrays = record { enough = refl; fewer = refl };
  pointers = record { enough = refl; fewer = refl };
  structures = record { enough = refl; fewer = refl };
  texts = record { enough = refl; fewer = refl };
  calls = record { enough = refl; fewer = refl };
  allocations = record { enough = refl; fewer = refl };
  updates = record { enough = refl; fewer = refl };
  plain_statements = record { enough = refl; fewer = refl };
  branches = record {
    taken = record { enough = refl; fewer = refl };
    other = record { enough = refl; fewer = refl };
    passed = record { enough = refl; fewer = refl };
  };
  loops = record {
    for_loop = record { enough = refl; fewer = refl };
    while_loop = record { enough = refl; fewer = refl };
    do_loop = record { enough = refl; fewer = refl };
    without_test = record { enough = refl; fewer = refl };
    with_continue = record { enough = refl; fewer = refl };
  };
  switches = record {
    first = record { enough = refl; fewer = refl };
    second = record { enough = refl; fewer = refl };
    no_label = record { enough = refl; fewer = refl };
  };
}

pub runs_stop : RunsStop
unfolding fitted reduced layout_of quotient remainder shifted_left shifted_right bitwise complement
runs_stop = record {
  integers = record {
    sum = refl;
    negation = refl;
    quotient = refl;
    remainder_of_such = refl;
    division_by_zero = refl;
    remainder_by_zero = refl;
    wide_shift = refl;
    count_before_operand = refl;
    negative_left = refl;
    wide_result = refl;
    update_at_the_statement = refl;
    update_reads_at_the_place = refl;
  };
  pointers = record {
    null_read = refl;
    null_write = refl;
    null_moved = refl;
    null_ordered = refl;
    one_past_read = refl;
    past_the_end = refl;
    before_the_start = refl;
    moved_past_the_end = refl;
    moved_to_one_past = refl;
    dead_read = refl;
    dead_moved = refl;
    dead_before_other_array = refl;
    null_before_dead = refl;
    dead_compared = refl;
    other_array_ordered = refl;
    other_array_subtracted = refl;
    subtracted = refl;
  };
  missing = record {
    unset_variable = refl;
    unset_element = refl;
    used_call = refl;
    chosen_call = refl;
    dropped_call = refl;
    call_cast_to_void = refl;
  };
  others = record {
    freed_declared = refl;
    freed_twice = refl;
    freed_one_past = refl;
    null_freed = refl;
    read_after_free = refl;
    literal_read = refl;
    literal_written = refl;
    one_past_of_a_literal = refl;
    failed_assertion = refl;
  };
}

pub runs_give : RunsGive
unfolding fitted reduced layout_of quotient remainder shifted_left shifted_right bitwise complement
runs_give = record {
  calls = record {
    ends = refl;
  };
  worlds = record {
    input = refl;
    granted = refl;
    denied = refl;
    other_denied = refl;
    denied_and_used = refl;
    sensors = refl;
    sensors_end = refl;
    sensing_takes = refl;
    static_objects = refl;
  };
  tasks = record {
    three_turns = refl;
    no_turn = refl;
    part_before = refl;
    each_turn = refl;
    left = refl;
    not_left_yet = refl;
    test_costs_nothing = refl;
    after_the_mark = refl;
  };
}

pub edges_are_settled : EdgesAreSettled
unfolding fitted reduced layout_of quotient remainder shifted_left shifted_right bitwise complement
edges_are_settled = record {
  unset = record {
    again = refl;
    itself = refl;
    copied = refl;
    copy_read = refl;
    zero = refl;
  };
  order = record {
    place_before_value = refl;
    left_first = refl;
    arguments = refl;
    read_before_value = refl;
    pointer_before_number = refl;
    target_before_source = refl;
    tested_again = refl;
    address_of_null = refl;
    address_of_one_past = refl;
  };
  told = record {
    one_past = refl;
    texts = refl;
    text_after_statics = refl;
    member_freed = refl;
    parameter = refl;
    parameter_after_its_call = refl;
  };
  converted = record {
    stored = refl;
    texts = refl;
    written = refl;
    null_is_false = refl;
    below_zero = refl;
  };
  world = record {
    first_denied = refl;
    second_denied = refl;
    greatest = refl;
    too_great = refl;
    sensors = refl;
    freed_null = refl;
    static_object = refl;
  };
  jumps = record {
    to_the_test = refl;
    to_the_third = refl;
    after_the_switch = refl;
  };
}
