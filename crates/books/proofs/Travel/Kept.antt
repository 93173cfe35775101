-- What a run's books hold where it stands, all but the winner tree.
use Prim.Native.Nat.{ℕ, ◌<◌}
use lib.ListN.{length, get_or, replicate, length-replicate, get_or-replicate}
use mathlib.Core.List.{List}
use mathlib.Core.Path.{◌≡◌, sym, ◌∙◌}
use Rattle.moments.proofs.PostponedLaws.{postponed_start}
use Rattle.moments.specs.Moments.{postponed_by}
use Rattle.sizes.specs.Sizes.{most_servers}
use Rattle.workfile.specs.Work.{Work}
use Rattle.books.proofs.Book.{Run, Here, Book, with_tree}
use Rattle.books.proofs.Jobs.JobBooks.{Jobs}
use Rattle.books.proofs.Stretches.Interruptions.{Interruptions}
use Rattle.books.proofs.Stretches.Segmented.{Segmented}
use Rattle.books.proofs.Travel.Stands.{Stands}
use Rattle.books.specs.declared.WinnerTree.{WinnerTree}

-- the postponements of each server
pub record Counts (w : Work) (t : ℕ) (postponed : List ℕ) : Type 0 where
  pub places : length postponed ≡ most_servers
  pub each : (i : ℕ) → i < most_servers → get_or postponed i 0 ≡ postponed_by w i t

pub counts_start : (w : Work) → Counts w 0 (replicate most_servers 0)
counts_start w =
    record {
      places = length-replicate {A = ℕ} most_servers 0;
      each = λ i b. get_or-replicate most_servers i 0 0 b ∙ sym (postponed_start w i);
    }

pub record Kept (r : Run) (h : Here) (b : Book) : Type 0 where
  pub stands : Stands r.work h.t h.taken h.dispatcher
  pub jobs : Jobs r h.t h.taken b.jobs
  pub counts : Counts r.work h.t b.turns.postponed
  pub segmented : Segmented r b.segments h.t
  pub interruptions : Interruptions r.work b.segments.current.start.tick b.turns.interrupted

pub kept_tree : {r : Run} {h : Here} {b : Book} (tree : WinnerTree) → Kept r h b → Kept r h (with_tree b tree)
kept_tree tree x = record { stands = x.stands; jobs = x.jobs; counts = x.counts; segmented = x.segmented; interruptions = x.interruptions }
