-- `records::of_run` meets its promise: the header tells how many servers and arrivals there are, and no more arrivals than 32 bits show.
use Prim.Native.Nat.{ℕ, ◌≤◌, ◌<◌, min}
use lib.ListN.{get_or}
use mathlib.Core.List.{List}
use mathlib.Core.Path.{◌≡◌, ◌∙◌, ap, ap₂}
use native.Mathlib.Omega.{arith}
use Rattle.numbers.proofs.WordLaws.{word_fits}
use Rattle.sizes.specs.Sizes.{most_servers, open_job}
use Rattle.summary.specs.declared.Summary.{Summary}
use Rattle.workfile.specs.Layout.{header}
use Rattle.workfile.specs.Work.{work, work_under}
use Rattle.workfile.specs.declared.Header.{Header}
use Rattle.records.specs.Working.Job.{filled, records_up_to}
use Rattle.records.proofs.FilledLaws.{records_all}
use Rattle.records.proofs.of_run.Goals as goal

-- what the header tells
few : (file : List ℕ) {h : Header} → h ≡ header file → ((i : ℕ) → get_or file i 0 < 256) → h.arrivals.count ≤ open_job
unfolding header
few file e byte = omega (arith, ap (λ (h : Header). h.arrivals.count) e, word_fits file 16 byte)

all : (file list : List ℕ) {h : Header} → h ≡ header file
    → records_up_to (work_under h file) list h.arrivals.count ≡ records_up_to (work file) list (work file).arrivals
unfolding work
all file list e = ap (λ (h : Header). records_up_to (work_under h file) list h.arrivals.count) e

held : (file : List ℕ) {h : Header} → h ≡ header file → min h.servers.count most_servers ≡ min (work file).table.count most_servers
unfolding work
held file e = ap (λ (h : Header). min h.servers.count most_servers) e

pub of_arrivals-requires : goal.of_arrivals-requires
of_arrivals-requires c =
    record {
      servers_value = c.min-servers.ensures;
      count_le_open_job = few _ c.header_of-h.ensures (λ i. omega (arith, c.type_inv.file i));
    }

pub returns : goal.returns
returns c =
    let a = c.args in
    let read = c.header_of-h.ensures in
    c.fill.ensures
    ∙ ap₂ (λ (n : ℕ) (l : List Summary). filled n a.postponed.now a.interrupted.now l)
    (c.min-servers.ensures ∙ held a.file.now read)
    (c.of_arrivals.ensures ∙ all a.file.now a.finishes.now read)
    ∙ records_all (work a.file.now) a.finishes.now a.postponed.now a.interrupted.now
