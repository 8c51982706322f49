-- Everything that the calls compute with, under one name: a line `unfolding computed` opens it all, for examples that are shown by computation.
-- Assumes nothing.
use lib.Count.{ones, ones_in}
use Rattle.terms.specs.Lists.{tabulate, part, put, every, among, changes}
use Rattle.terms.specs.Reply.{first_row}
use Rattle.terms.specs.Sets.{within, bit, all_below, lowest, xor_to}
use Rattle.geometry.specs.Answers.{place_refusal, place_reply, block_at_refusal, block_at_reply}
use Rattle.geometry.specs.Fill.{start_rows, start_refusal, starting, moved_on}
use Rattle.geometry.specs.Level4.{card_at4, position_of4}
use Rattle.geometry.specs.Level5.{parity_card, card_at5, position_of5}
use Rattle.geometry.specs.Limits.{legal, legal_layout, legal_out, legal_fill, beyond, beyond_state}
use Rattle.geometry.specs.Placement.{card_at, position_of, filled, out_in, missing_at}
use Rattle.geometry.specs.Report.{state_rows, report_rows, report_refusal, marked, reporting}
use Rattle.geometry.specs.Store.{image_size, cell_at, work_size, write_at, read_at, image_wrong, work_wrong}
use Rattle.graph.specs.Choice.{unit_out, unit_out_in, all_units, choose_read, choose_write, choose}
use Rattle.graph.specs.Order.{any_read, read_of, is_sum, before, cleared, ready, complete, closed}
use Rattle.graph.specs.Steps.{step_of, by_graph, masked, unmasked, reads, sums, writes, member}
use Rattle.graph.specs.Sums.{takes_new, sums_to_read}
use Rattle.parity.specs.Parity.{byte_at, parity_byte, wrong_byte, wrong_stripe, right_parity, disagreement}
use Rattle.parity.specs.Rest.{rest_of, restored}
use Rattle.record.specs.Life.{admitted, stepped, afresh}
use Rattle.record.specs.Sound.{all_zero, legal_mask, legal_record, legal_chosen, right_graph, right_steps, lacks_none, right_count, sound_record}
use Rattle.record.specs.Asked.{held_stripe}
use Rattle.record.specs.Survey.{looks_at, unseen, survey_of, held_in, sound_with}
use Rattle.record.specs.Sound.{clash, apart, sound, holds, held, lowest_free}
use Rattle.array.specs.Admission.{keep_units, admission_by, admission}
use Rattle.array.specs.Collection.{hand_over, collection_by, collection}
use Rattle.array.specs.Lent.{table_wrong, lent_rows, unit_bytes, rank}
use Rattle.array.specs.Opening.{opening_by, opening}
use Rattle.array.specs.Refusals.{opened as opened_state, open_refusal, payload_wrong, admit_rows, admit_refusal, step_ready, step_rows, step_refusal, result_short, collect_rows, collect_refusal, scan_rows, scan_refusal, rebuild_rows, rebuild_refusal}
use Rattle.array.specs.Rebuilding.{rebuilding_by, rebuilding}
use Rattle.array.specs.Scan.{scan_reply_by, scan_reply}
use Rattle.array.specs.Stepping.{meets_out, sum_byte, sum_at, work_after, image_after, accepting, stepping_by, stepping}
use Rattle.history.specs.Examples.{opened, after}
use Rattle.history.specs.History.{opened_world}
use Rattle.history.specs.Row.{block_at}
use Rattle.history.specs.World.{play}

unfoldable words : Unit {0}
unfolding ones ones_in tabulate part put every among changes first_row within bit all_below lowest xor_to
words = tt

unfoldable places : Unit {0}
unfolding place_refusal place_reply block_at_refusal block_at_reply legal legal_layout legal_out legal_fill beyond beyond_state card_at4 position_of4 parity_card card_at5 position_of5 card_at position_of filled out_in missing_at
places = tt

unfoldable stores : Unit {0}
unfolding state_rows report_rows report_refusal marked reporting start_rows start_refusal starting moved_on image_size cell_at work_size write_at read_at image_wrong work_wrong
stores = tt

unfoldable graphs : Unit {0}
unfolding unit_out unit_out_in all_units choose_read choose_write choose step_of by_graph masked unmasked reads sums writes member takes_new sums_to_read
graphs = tt

unfoldable orders : Unit {0}
unfolding any_read read_of is_sum before cleared ready complete closed byte_at parity_byte wrong_byte wrong_stripe right_parity disagreement
orders = tt

unfoldable records : Unit {0}
unfolding admitted stepped afresh all_zero legal_mask legal_record legal_chosen right_graph right_steps lacks_none right_count sound_record
records = tt

unfoldable tables : Unit {0}
unfolding clash apart sound holds held lowest_free held_stripe looks_at unseen survey_of held_in sound_with table_wrong lent_rows unit_bytes rank
tables = tt

unfoldable refusals : Unit {0}
unfolding open_refusal payload_wrong admit_rows admit_refusal step_ready step_rows step_refusal result_short collect_rows collect_refusal scan_rows scan_refusal rebuild_rows rebuild_refusal
refusals = tt

unfoldable calls : Unit {0}
unfolding opening_by opening opened_state keep_units admission_by admission hand_over collection_by collection scan_reply_by scan_reply rebuilding_by rebuilding meets_out sum_byte sum_at work_after image_after accepting stepping_by stepping
calls = tt

unfoldable pub computed : Unit {0}
unfolding words places stores graphs orders records tables refusals calls opened after opened_world block_at rest_of restored play
computed = tt
