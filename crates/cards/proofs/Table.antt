-- The bench cards and the listings of B, C, P, X and AB hold of the definitions.
-- Assumes nothing.
use mathlib.Core.Path.{refl}
use Rattle.cards.specs.Cards.{Cards}
use Rattle.sheet.specs.Numbers as sheet-numbers
use Rattle.sheet.specs.Table as sheet-table
use Rattle.sheet.specs.Ranges as sheet-ranges
use Rattle.sheet.specs.Views as sheet-views
use Rattle.fit.specs.Lists as fit-lists
use Rattle.fit.specs.Rounding as fit-rounding
use Rattle.fit.specs.Priority as fit-priority
use Rattle.fit.specs.Ring as fit-ring
use Rattle.fit.specs.Fits as fit-fits
use Rattle.fit.specs.Cores as fit_cores
use Rattle.views.specs.Order as views-order
use Rattle.checker.specs.Tests as checker-tests
use Rattle.checker.specs.Rules as checker-rules
use Rattle.checker.specs.Verdict as checker-verdict
use Rattle.mover.specs.Moved as mover-moved
use Rattle.mover.specs.Answers as mover-answers
use Rattle.jobs.specs.Jobs as jobs-jobs
use Rattle.figures.specs.Constructions as figures-constructions
use Rattle.figures.specs.Passing as figures-passing
use Rattle.timing.specs.Tasks as timing-tasks
use Rattle.timing.specs.Calls as timing-calls
use Rattle.state.specs.State as core-state
use Rattle.state.specs.Operations as core-operations
use Rattle.dispatcher.specs.Starts as dispatcher-starts
use Rattle.planner.specs.FirstFit as planner-fit
use Rattle.planner.specs.Sheet as planner-sheet
use Rattle.planner.specs.Plan as planner-plan
use Rattle.row.specs.Bytes as row-bytes
use Rattle.row.specs.Row as row-row
use Rattle.row.specs.OnTime as row-on-time
use Rattle.margin.specs.Margin as margin-margin
use Rattle.margin.specs.Answers as margin-answers
use Rattle.listing.specs.Decimal as listing-decimal
use Rattle.listing.specs.Listing as listing-listing

pub cards : Cards
unfolding timing-calls.calls sheet-numbers.word sheet-numbers.long sheet-table.scan sheet-table.whole sheet-table.core sheet-ranges.out_of sheet-ranges.bad_period sheet-ranges.bad_budget sheet-ranges.bad_stroke sheet-views.first_of sheet-views.core_by_counts sheet-views.position_of fit-lists.numbers fit-lists.find fit-lists.joined fit-lists.over fit-lists.place_of fit-lists.find_some fit-lists.sum fit-lists.select fit-lists.some_below fit-lists.occurs fit-rounding.ceiling fit-priority.above fit-priority.insert fit-priority.is_on fit-priority.enter fit-priority.order fit-ring.power_up_to fit-ring.largest_power_of_two fit-ring.ring_key fit-ring.order_by fit-fits.stretched fit-fits.chain_break fit-fits.last_factor fit-fits.load fit-fits.blocking fit-fits.level_load fit-fits.overloaded_below fit-fits.level_overloaded fit-fits.overloaded fit-fits.within views-order.bad_numbers views-order.bad_counts views-order.falls_at views-order.bad_sequence views-order.misordered checker-tests.bad_version checker-tests.is_marked checker-tests.task_spares checker-tests.core_spares checker-tests.is_set checker-tests.bad_order checker-tests.bad_core checker-tests.is_none checker-tests.bare checker-tests.bad_factor checker-tests.bad_pivot checker-tests.stretched_at fit_cores.order_on checker-tests.chain_break_on checker-tests.overloaded_on fit_cores.within_on checker-rules.offset checker-rules.frame_rows checker-rules.spare_rows checker-rules.task_rows checker-rules.core_rows checker-rules.fit_rows checker-rules.record_rows checker-rules.part_rows checker-rules.rules checker-verdict.outcome checker-verdict.verdict mover-moved.bytes mover-moved.header_with mover-moved.task_with mover-moved.core_with mover-moved.laid_out mover-moved.grouping mover-moved.version1 mover-moved.version2 mover-moved.moved mover-answers.move_rules mover-answers.move_verdict mover-answers.move_answer jobs-jobs.job_count jobs-jobs.list_rows figures-constructions.least figures-constructions.least_power figures-constructions.largest figures-constructions.largest_power figures-constructions.sr figures-constructions.down figures-constructions.downs figures-constructions.up figures-constructions.ups figures-constructions.dct figures-passing.passes figures-passing.first figures-passing.each_pivot figures-passing.at_most figures-passing.in_range figures-passing.trials figures-passing.sorted_periods figures-passing.task_set figures-passing.first_passing timing-tasks.pending timing-tasks.early timing-tasks.named timing-tasks.with_job timing-tasks.released timing-tasks.finished timing-tasks.used timing-tasks.older timing-calls.release_answer timing-calls.finish_answer timing-calls.of_first timing-calls.modify timing-calls.answer_by timing-calls.next_by timing-calls.next_stroke timing-calls.answer timing-calls.next timing-calls.log core-state.with_state core-state.any core-state.stroke_is core-state.stroke_sound core-state.distinct core-state.above core-state.each core-state.each_pair core-state.foreign core-operations.ask core-operations.step dispatcher-starts.fresh_tasks dispatcher-starts.state_of dispatcher-starts.sheet_answer dispatcher-starts.sheet_tasks dispatcher-starts.sheet_state dispatcher-starts.list_answer dispatcher-starts.list_state planner-fit.rotate planner-fit.unassigned planner-fit.core_set planner-fit.core_figures planner-fit.is_some planner-fit.takes planner-fit.chosen planner-fit.core_for planner-fit.assign planner-fit.onward planner-fit.first_fit planner-sheet.two planner-sheet.four planner-sheet.header planner-sheet.task_record planner-sheet.core_record planner-sheet.or_zeros planner-sheet.figures_for planner-sheet.factor_for planner-sheet.sheet_of planner-plan.fit_of planner-plan.bad_start planner-plan.no_fit planner-plan.call_rows planner-plan.plan_rows planner-plan.sheet_for planner-plan.cores_for planner-plan.unless planner-plan.plan_outcome margin-margin.tasks_above margin-margin.request margin-margin.demand margin-margin.met margin-margin.smallest margin-margin.margin_from margin-margin.margin margin-answers.answer_from margin-answers.margin_answer listing-decimal.digits listing-decimal.decimal listing-listing.field listing-listing.header_line listing-listing.task_line listing-listing.thousandths listing-listing.load_of listing-listing.core_line listing-listing.sheet_text listing-listing.refused_line listing-listing.text_of listing-listing.listing_of row-bytes.answer_byte row-row.row_outcome row-row.row_states row-row.written row-row.row_bytes row-on-time.core_next row-on-time.read_byte row-on-time.tick_entries row-on-time.entries_of row-on-time.core_log row-on-time.row_next row-on-time.row_run row-on-time.calls_to row-on-time.calls_at
cards = record { A = refl; B = refl; C = refl; D = refl; E = refl; F = refl; G = (refl, refl); H = refl; I = refl; J = refl; K = refl; L = refl; M = refl; N = (refl, refl, refl); O = refl; P = refl; Q = refl; R = (refl, refl, refl, refl); S = (refl, refl, refl); T = refl; U = (refl, refl); «V» = refl; W = refl; X = (refl, refl, refl, refl); Y = (refl, refl, refl); Z = (refl, refl, refl, refl, refl); AA = (refl, refl); AB = (refl, refl, refl, refl, refl); Ac = (refl, refl, refl); AD = refl; AE = (refl, refl, refl, refl); listing_b = refl; listing_c = refl; listing_p = refl; listing_x = refl; listing_aB = refl }
