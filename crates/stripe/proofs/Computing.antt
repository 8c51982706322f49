-- One name for all the definitions that a run computes with: `unfolding computing` opens them.
-- Assumes nothing.
use lib.Count.{ones}
use Rattle.terms.specs.Reply.{first_row}
use Rattle.terms.specs.Sets.{bit, all_below}
use Rattle.graph.specs.Choice.{unit_out, unit_out_in, all_units, choose_read, choose_write, choose}
use Rattle.graph.specs.Order.{any_read, read_of, is_sum, before, cleared, ready, complete}
use Rattle.graph.specs.Steps.{by_graph, masked, unmasked, reads, sums, writes, member, step_of}
use Rattle.graph.specs.Sums.{takes_new, sums_to_read}
use Rattle.stripe.specs.Blocks.{changed, total, performed}
use Rattle.stripe.specs.Group.{sum_to, others}
use Rattle.stripe.specs.Request.{begun, advanced, chosen_afresh}

unfoldable pub computing : Unit {0}
unfolding first_row bit all_below ones unit_out unit_out_in all_units choose_read choose_write choose any_read read_of is_sum before cleared ready complete by_graph masked unmasked reads sums writes member step_of takes_new sums_to_read changed total performed sum_to others begun advanced chosen_afresh
computing = tt
