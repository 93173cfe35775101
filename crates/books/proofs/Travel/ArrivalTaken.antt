-- The arrivals of a moment are taken, one after the other.
use Prim.Native.Nat.{ℕ, suc, ◌+◌, ◌≤◌, ◌<◌}
use lib.Seq.{get_or-set_same, get_or-set_other}
use mathlib.Core.Path.{◌≡◌, refl, sym, ◌∙◌, ap, subst⁻¹}
use native.Mathlib.Decide.{dec_lt}
use native.Mathlib.Nat.{le_refl, le_antisymm}
use native.Mathlib.Omega.{arith}
use Rattle.arrival.specs.declared.Arrival.{Arrival}
use Rattle.clock.specs.declared.Length.{Length}
use Rattle.clock.specs.declared.Moment.{Moment}
use Rattle.dispatcher.specs.Moves.{with_server}
use Rattle.dispatcher.specs.Pick.{server_at}
use Rattle.dispatcher.specs.declared.Dispatcher.{Dispatcher}
use Rattle.judgement.proofs.FitLaws.{Fit}
use Rattle.server.specs.Moves.{arrived}
use Rattle.server.specs.Ranges.{Ranged}
use Rattle.server.specs.Server.{vacant}
use Rattle.server.specs.declared.Server.{Server}
use Rattle.sizes.specs.Sizes.{clock_end, most_waiting}
use Rattle.workfile.specs.Work.{Work}
use Rattle.books.proofs.Accepted.{next_stop, stop_arrival, stop_behind, stop_until}
use Rattle.books.proofs.Book.{Here, here}
use Rattle.books.proofs.Tree.Keys.{key_of, Keyed, holds_set}
use Rattle.books.proofs.Travel.Stands.{Stands, stands_within, stands_count, room, accepted_as, stands_arrival}
use Rattle.books.specs.declared.WinnerTree.{WinnerTree}
use Rattle.books.proofs.Tree.Winners.{root_of, Leaf, Set}

-- what a server may rely on that takes work at t: it has a place in the tree, its numbers are in their ranges, and it has room for the work
pub record MayTake (tree : WinnerTree) (i : ℕ) (s : Server) (t : Moment) (cost : Length) : Type 0 where
  pub leaf : Leaf tree i
  pub ranged : Ranged t s
  pub time : t.tick ≤ clock_end
  pub room : s.waiting.ticks + cost.ticks ≤ most_waiting

-- What is known of arrival a, which is the next and is taken now: its server may take it; and with that server as it is then the dispatcher
-- stands behind the arrival, and a tree in which its key is set is that dispatcher's.
pub record Takes (w : Work) (t j : ℕ) (d : Dispatcher) (a : Arrival) : Type 0 where
  pub place : a.server < 64
  pub may : {tree : WinnerTree} → Keyed tree d → MayTake tree a.server (server_at d a.server) d.clock a.cost
  pub stands : (s : Server) → s ≡ arrived (server_at d a.server) d.clock a.cost
      → Stands w t (suc j) (with_server d a.server s)
  pub keyed : {tree after : WinnerTree} (s : Server) → Keyed tree d → Set tree after a.server (key_of s a.server)
      → Keyed after (with_server d a.server s)

module _ {w : Work} {places t j : ℕ} {d : Dispatcher} (fit : Fit w places) (s : Stands w t j d) (end : t ≤ clock_end)
    (more : j < w.arrivals) (due : (w.arrival j).moment.tick ≤ t) (a : Arrival) (read : a ≡ w.arrival j) where
  now : (w.arrival j).moment.tick ≡ t
  now = le_antisymm due (s.ahead j (le_refl j) more)

  known : a.server < d.count
  known = omega (arith, ap (λ (x : Arrival). x.server) read, stands_count fit s end, (fit.sound j more).known)

  pub takes : Takes w t j d a
  takes =
      record {
        place = omega (arith, known, (stands_within fit s end).count);
        may = λ of-d.
            record {
              leaf = record { place = omega (arith, known, of-d.enough); winners = of-d.winners };
              ranged = (stands_within fit s end).servers a.server known;
              time = (stands_within fit s end).clock;
              room =
                  subst⁻¹ (λ (x : Arrival). (server_at d x.server).waiting.ticks + x.cost.ticks ≤ most_waiting) read
                  (room fit s end more now);
            };
        stands = λ server is.
            subst⁻¹ (Stands w t (suc j))
            (ap (with_server d a.server) is
            ∙ ap (λ (x : Arrival). with_server d x.server (arrived (server_at d x.server) d.clock x.cost)) read
            ∙ sym (accepted_as fit s end more now))
            (stands_arrival fit s end more now);
        keyed = λ {tree} {after} server of-d key_set.
            holds_set a.server of-d refl (λ k n. get_or-set_other d.servers a.server k server vacant n)
            (subst⁻¹ (λ (x : Server). Set tree after a.server (key_of x a.server))
            (get_or-set_same d.servers a.server server vacant (omega (arith, known, (stands_within fit s end).count, (stands_within fit s end).places)))
            key_set);
      }

-- while they are taken: from where the run stood on to here, with how far it then goes at most, and what the root of the tree holds
pub record Taking (w : Work) (until : ℕ) (from h : Here) (tree : WinnerTree) (next root : ℕ) : Type 0 where
  pub same_moment : h.t ≡ from.t
  pub stands : Stands w h.t h.taken h.dispatcher
  pub keyed : Keyed tree h.dispatcher
  pub later : from.taken ≤ h.taken
  pub next_is : next ≡ next_stop w until h.taken
  pub root_is : root ≡ root_of tree

pub next_by : {w : Work} {until : ℕ} {from h : Here} {tree : WinnerTree} {next root : ℕ} → Taking w until from h tree next root → next ≤ until
next_by {w} {until} {h = h} g = omega (arith, g.next_is, stop_until w until h.taken)

-- Where the next stop is no later than now, and the run is to go on, there is an arrival of this moment, and that is taken.
module _ {w : Work} {until : ℕ} {from h : Here} {tree : WinnerTree} {next root : ℕ} (g : Taking w until from h tree next root) (ahead : h.t < until)
    (due : next ≤ h.t) where
  pub due_here : h.taken < w.arrivals
  due_here = go (dec_lt h.taken w.arrivals)
    where
      go : Dec (h.taken < w.arrivals) → h.taken < w.arrivals
      go (yes l) = l
      go (no l) = let no : ⊥ = omega (arith, g.next_is, stop_behind w until h.taken (omega arith)) in absurd no

  pub due_now : (w.arrival h.taken).moment.tick ≤ h.t
  due_now = omega (arith, g.next_is, stop_arrival w until h.taken due_here)

  pub taking_more : {after : WinnerTree} {e : Dispatcher} {then top : ℕ} → Stands w h.t (suc h.taken) e → Keyed after e
      → then ≡ next_stop w until (suc h.taken) → top ≡ root_of after → Taking w until from (here h.t (suc h.taken) e) after then top
  taking_more stands keyed next_is root_is =
      record {
        same_moment = g.same_moment;
        stands = stands;
        keyed = keyed;
        later = omega (arith, g.later);
        next_is = next_is;
        root_is = root_is;
      }
