-- `computes` stands for every definition that a job's result is computed from: to unfold it is to unfold them all. A name that is missing
-- here shows where a computed theorem is refused.
use mathlib.Core.Option.{or_else}
use Rattle.lists.specs.Scan.{first, pair_with, first_pair, first_answer, any_below, count_below, select, tabulate, gather}
use Rattle.lists.specs.Field.{word16, bytes16, overwritten}
use Rattle.model.specs.Inputs.{N, kind, pin_count, output_mark, spare_byte, pin_line, is_input, is_flip_flop, is_gate, is_output, flip_flops, output_lines, flip_flop_line, I, F, O, L, inputs_at, fault_count, fault_at, plan_count, plan_pair}
use Rattle.model.specs.Refusals.{refuse, row1, pins_fit, unused_named, stray_bytes, misnamed, misnames, rows2to5, row6, circuit_rows, row7, row8, row9, fault_fits, row10, row11, row12, row15, work_bytes, row13, row14, row16, row17, input_rows, simulate_refusal, grade_refusal, choose_refusal, group_refusal, generate_refusal, answer, unless_refused}
use Rattle.model.specs.Values.{invert, and_pair, and_of, invert_all, or_of, xor_pair, xor_of, even_gate, invert_if, gate, opposes, some_oppose, give, give_row, has_conflict}
use Rattle.model.specs.Simulation.{no_fault, is_stuck, seen, shown, pin_seen, pins_seen, behind, values_below, line_values, outputs, next_state, power_up, state_at, values_at, outputs_at, plain_state, plain_values, plain_outputs, free_values, free_outputs}
use Rattle.model.specs.Starts.{bits, free_bits, starting_state, start_count, differs}
use Rattle.model.specs.Simulate.{only_fault, simulate_bytes, simulate_answer, simulate_area}
use Rattle.model.specs.Implication.{others, and_implies, xor_implies, even_implies, implies, give_line, give_pins, down_line, down, up_line, up, implied, nothing, where_x, implied_at, marked, extra}
use Rattle.model.specs.Expansion.{count_x, count_open, nsv, open_places, nout, tried, both_marked, alone, written, row_after, opposed_write, state_row}
use Rattle.model.specs.Sequences.{overlaps, outputs_left, touches, takes, take_next, taken_of, taken, sequence_row, ending, end_of, count_ending}
use Rattle.model.specs.Grade.{eight_fields, placed, at_pair, opposed_at, stage1, stage2, stage3, stage4, before_stage5, counted, stage5, from_start, stage6, grade, record_bytes, record_at, grade_bytes, grade_answer, grade_area}
use Rattle.model.specs.Choose.{size, larger, smaller, smaller_extra, larger_extra, better, best_of, best_at, best_below, next_pair, with_pair, best_pairs, unless_decided, chosen, plan_bytes, choose_answer, choose_area}
use Rattle.model.specs.Group.{alike, group_of, group_bytes, group_answer, group_area}
use Rattle.model.specs.Generate.{step, stepped, generate_byte, generate_bytes, generate_answer, generate_area}
use Rattle.model.specs.Listing.{digits, decimal, number_line, fault_line, refused_line, too_long_line, too_long, graded_lines, with_verdict, seven_counts, total_line, job_lines, printed}
use Rattle.model.specs.Specimens.{specimen_a, specimen_b, specimen_d, stuck_at, graded_specimens, eleven_verdicts, faults_of_a, print_of_a}

unfoldable pub computes : Unit {0}
unfolding or_else first pair_with first_pair first_answer any_below count_below select tabulate gather word16 bytes16 overwritten N kind pin_count output_mark spare_byte pin_line is_input is_flip_flop is_gate is_output flip_flops output_lines flip_flop_line I F O L inputs_at fault_count fault_at plan_count plan_pair refuse row1 pins_fit unused_named stray_bytes misnamed misnames rows2to5 row6 circuit_rows row7 row8 row9 fault_fits row10 row11 row12 row15 work_bytes row13 row14 row16 row17 input_rows simulate_refusal grade_refusal choose_refusal group_refusal generate_refusal answer unless_refused invert and_pair and_of invert_all or_of xor_pair xor_of even_gate invert_if gate opposes some_oppose give give_row has_conflict no_fault is_stuck seen shown pin_seen pins_seen behind values_below line_values outputs next_state power_up state_at values_at outputs_at plain_state plain_values plain_outputs free_values free_outputs bits free_bits starting_state start_count differs only_fault simulate_bytes simulate_answer simulate_area others and_implies xor_implies even_implies implies give_line give_pins down_line down up_line up implied nothing where_x implied_at marked extra count_x count_open nsv open_places nout tried both_marked alone written row_after opposed_write state_row overlaps outputs_left touches takes take_next taken_of taken sequence_row ending end_of count_ending eight_fields placed at_pair opposed_at stage1 stage2 stage3 stage4 before_stage5 counted stage5 from_start stage6 grade record_bytes record_at grade_bytes grade_answer grade_area size larger smaller smaller_extra larger_extra better best_of best_at best_below next_pair with_pair best_pairs unless_decided chosen plan_bytes choose_answer choose_area alike group_of group_bytes group_answer group_area step stepped generate_byte generate_bytes generate_answer generate_area digits decimal number_line fault_line refused_line too_long_line too_long graded_lines with_verdict seven_counts total_line job_lines printed specimen_a specimen_b specimen_d stuck_at graded_specimens eleven_verdicts faults_of_a print_of_a
computes = tt
