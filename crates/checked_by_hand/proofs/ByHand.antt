-- Every example holds: the definitions compute.
use mathlib.Core.Path.{refl}
use Rattle.counting.specs.Below.{every}
use Rattle.counting.specs.Count.{count}
use Rattle.counting.specs.First.{first}
use Rattle.counting.specs.Places.{places}
use Rattle.counting.specs.Sum.{sum}
use Rattle.counting.specs.Totals.{longest, total}
use Rattle.demand_3.specs.Got.{is_under}
use Rattle.dispatcher.specs.Moves.{arrival, ran, tick}
use Rattle.dispatcher.specs.Pick.{may_run, picked}
use Rattle.dispatcher.specs.Start.{at_start}
use Rattle.finish.specs.Finish.{first_served, served_by, work_of}
use Rattle.history.specs.Choice.{is_for, is_for_another, same, ticks_served}
use Rattle.judgement.specs.Judgement as judgement
use Rattle.moments.specs.Moments.{at_moment, history, postponed_by, ready, taken, turn, waiting_at}
use Rattle.numbers.specs.Word.{number_at}
use Rattle.opening.specs.Opening.{table_judged}
use Rattle.report.specs.DayReport.{day_report, segment_lines, job_line, server_line}
use Rattle.server.specs.Moves as server
use Rattle.summary.specs.Summary.{arrived_of, finished_of, how_many, interrupted_of, response_in, responses, responses_of, summary_of}
use Rattle.page.specs.Page.{each}
use Rattle.text.specs.Line.{decimal, digits_up_to}
use Rattle.trace.specs.Ticks.{sum_over}
use Rattle.trace.specs.Trace.{begins, begun, lasting}
use Rattle.workfile.specs.Layout.{arrival_at, booking_at, header}
use Rattle.workfile.specs.Work.{work}
use Rattle.checked_by_hand.specs.ByHand.{AllHold, checked_by_hand}

pub all_hold : AllHold checked_by_hand
unfolding day_report segment_lines job_line server_line decimal digits_up_to each server.renews server.arrived server.served table_judged first sum total longest every count places arrival ran tick may_run picked at_start first_served served_by work_of is_for is_for_another same ticks_served at_moment history postponed_by ready taken turn waiting_at number_at arrived_of finished_of how_many sum_over interrupted_of response_in responses responses_of summary_of begins begun lasting is_under judgement.arrival_judged judgement.arrivals_judged judgement.work_judged judgement.judged arrival_at booking_at header work
all_hold = (refl, (refl, (refl, (refl, (refl, (refl, (refl, (refl, (refl, (refl, (refl, (refl, (refl, (refl, (refl, (refl, (refl, (refl, (refl, (refl, (refl, (refl, (refl, (refl, (refl, (refl, (refl, (refl, (refl, tt)))))))))))))))))))))))))))))
