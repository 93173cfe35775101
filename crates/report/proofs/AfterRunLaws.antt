-- What the lists of a run tell is what the run defines.
use Prim.Native.Nat.{ℕ, zero, suc, ◌*◌, ◌≤◌}
use borrow.Author.Tests.{lt-ltb}
use lib.ListN.{length, take, get_or}
use lib.Seq.{take-suc}
use mathlib.Core.List.{List, [], ◌∷◌, ◌++◌, append-nil, append_assoc}
use mathlib.Core.Path.{◌≡◌, refl, sym, ◌∙◌, ap, ap₂}
use native.Mathlib.Omega.{arith}
use Rattle.counting.proofs.PlacesLaws.{get_d_places}
use Rattle.finish.proofs.ListLaws.{list_shows, finish_told}
use Rattle.finish.specs.Finish.{finish_of, finish_list}
use Rattle.moments.specs.Moments.{history}
use Rattle.sizes.specs.Sizes.{clock_end, most_servers}
use Rattle.summary.specs.Summary.{blank, finishes, summaries, summary_of}
use Rattle.page.proofs.EachLaws.{each_same}
use Rattle.page.specs.Page.{each}
use Rattle.trace.proofs.HeldLaws.{segment_at}
use Rattle.trace.specs.Written.{segment_in, written}
use Rattle.trace.specs.declared.Segment.{Segment}
use Rattle.workfile.specs.Work.{Work}
use Rattle.report.specs.DayReport.{job_with, job_line, segment_line, segment_lines, server_line}
use Rattle.report.specs.Working.AfterRun.{job_in}

-- the job lines by the finish list are those of the run
pub jobs_told : (w : Work) (before : List ℕ) → w.horizon.tick ≤ clock_end → w.arrivals ≤ length before
    → each w.arrivals (job_in w (finish_list w.arrivals (finishes w) before)) ≡ each w.arrivals (job_line w)
unfolding job_line
jobs_told w before few long =
    each_same w.arrivals (job_in w (finish_list w.arrivals (finishes w) before)) (job_line w)
    (λ k b. ap (λ (n : ℕ). job_with (w.arrival k) k (finish_of n)) (list_shows w.arrivals (finishes w) before k b long)
    ∙ ap (job_with (w.arrival k) k) (finish_told (history w) _ _ w.horizon.tick (omega arith)))

-- the server lines by the records are those of the run
pub servers_told : (w : Work) → w.table.count ≤ most_servers
    → each w.table.count (λ i. server_line i (get_or (summaries w) i blank)) ≡ each w.table.count (λ i. server_line i (summary_of w i))
unfolding summaries
servers_told w few =
    each_same w.table.count (λ i. server_line i (get_or (summaries w) i blank)) (λ i. server_line i (summary_of w i))
    (λ i b. ap (server_line i) (get_d_places most_servers _ i blank (omega arith) ∙ rw (lt-ltb i w.table.count b)))

segment_lines_last : (l : List Segment) (s : Segment) → segment_lines (l ++ s ∷ []) ≡ segment_lines l ++ segment_line s
unfolding segment_lines
segment_lines_last [] s = append-nil (segment_line s)
segment_lines_last (x ∷ l) s =
    ap (λ (m : List ℕ). segment_line x ++ m) (segment_lines_last l s) ∙ sym (append_assoc (segment_line x) (segment_lines l) (segment_line s))

-- the segment lines by the trace list are those of the first segments
pub segments_told : (tr : List Segment) (list : List ℕ) (n : ℕ) → n ≤ length tr → 4 * n ≤ length list
    → each n (λ k. segment_line (segment_in (written tr list) k)) ≡ segment_lines (take n tr)
unfolding each segment_lines
segments_told tr list zero h fits = refl
segments_told tr list (suc n) h fits =
    ap₂ ◌++◌ (segments_told tr list n (omega arith) (omega arith)) (ap segment_line (segment_at tr list n (segment_in [] 0) h (omega arith)))
    ∙ sym (segment_lines_last (take n tr) (get_or tr n (segment_in [] 0)))
    ∙ ap segment_lines (sym (take-suc tr n (segment_in [] 0) h))
