-- "Bytes in gaps and behind the end are ignored": files that differ in such bytes alone have the same outcome.
use Prim.Native.Nat.{ℕ}
use lib.ListN.{length}
use mathlib.Core.Bool.{Bool, cond}
use mathlib.Core.List.{List}
use mathlib.Core.Path.{◌≡◌, refl, ◌∙◌, ap, ap₂}
use Rattle.books.proofs.SameWork.{finish_same, summaries_same, trace_same, work_judged_same}
use Rattle.books.proofs.Jobs.FinishList.{finishes_same}
use Rattle.judgement.proofs.UnusedLaws.{arrival_same, booking_same, header_same}
use Rattle.judgement.specs.Judgement.{judged, layout_broken, length_out_of_range, sizes_out_of_range, work_judged}
use Rattle.judgement.specs.Unused.{SameUse}
use Rattle.refusal.specs.Refusals.{Said, accepted, gave, refused}
use Rattle.summary.specs.Summary.{trace_of}
use Rattle.trace.specs.Written.{written}
use Rattle.trace.specs.declared.Segment.{Segment}
use Rattle.workfile.specs.Layout.{header}
use Rattle.workfile.specs.Work.{work, work_under}
use Rattle.workfile.specs.declared.Header.{Header}
use Rattle.run.specs.Outcome.{accepted_run, outcome, run_of}
use Rattle.run.proofs.OutcomeLaws.{made}

module _ {file other : List ℕ} (same : SameUse file other) where
  -- the one header, and what each file holds under it
  abbrev h : Header
  h = header file

  pub judged_same : (places : ℕ) → judged file places ≡ judged other places
  unfolding judged work
  judged_same places =
      ap₂ (λ (x y : Bool). cond x (refused 1 0) (cond (sizes_out_of_range h) (refused 2 0) (cond y (refused 3 0) (work_judged (work_under h file) places))))
      same.size
      same.layout
      ∙ ap (λ (s : Said (Unit {0})). cond (length_out_of_range (length other)) (refused 1 0)
      (cond (sizes_out_of_range h) (refused 2 0) (cond (layout_broken h (length other)) (refused 3 0) s)))
      (work_judged_same _ _ _ _ (booking_same same) (arrival_same same) places)
      ∙ ap (λ (x : Header). cond (length_out_of_range (length other)) (refused 1 0)
      (cond (sizes_out_of_range x) (refused 2 0) (cond (layout_broken x (length other)) (refused 3 0) (work_judged (work_under x other) places))))
      (header_same same)

  accepted_same : (list ends : List ℕ) → accepted_run (work file) list ends ≡ accepted_run (work other) list ends
  unfolding work
  accepted_same list ends =
      made accepted (ap length trace_is) (summaries_same _ _ _ _ (booking_same same) (arrival_same same))
      (ap (λ (l : List Segment). written l list) trace_is)
      (finishes_same h.arrivals.count ends _ _ (finish_same _ _ _ _ (booking_same same) (arrival_same same)))
      ∙ ap (λ (x : Header). accepted_run (work_under x other) list ends) (header_same same)
    where
      trace_is : trace_of (work_under h file) ≡ trace_of (work_under h other)
      trace_is = trace_same _ _ _ _ (booking_same same) (arrival_same same)

-- so the run of the one is the run of the other
pub unused_bytes : (file other : List ℕ) → SameUse file other → (list ends : List ℕ) → outcome file list ends ≡ outcome other list ends
unfolding outcome
unused_bytes file other same list ends =
    ap (λ (s : Said (Unit {0})). run_of s (work file) list ends) (judged_same same (length ends)) ∙ go (judged other (length ends))
  where
    go : (s : Said (Unit {0})) → run_of s (work file) list ends ≡ run_of s (work other) list ends
    go (refused number place) = refl
    go (gave u) = accepted_same same list ends
