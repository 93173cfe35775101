-- Opening a live table (document 01, "Refusal numbers"): "Opening a live table, a list of Q, T pairs and H, gives 2, 4 or 5 in that
-- order."
use Rattle.std.specs.Prelude.{ℕ, ◌+◌, ◌*◌, ◌/◌, ◌%◌, eqb, ltb, get_or, length, Bool, cond, not, ◌||◌, List}
use Rattle.booking.specs.Admission.{Table, admission}
use Rattle.booking.specs.Share.{booked}
use Rattle.clock.specs.Clock.{ticks}
use Rattle.clock.specs.declared.Length.{Length}
use Rattle.dispatcher.specs.Moves.{Answered, leaving}
use Rattle.dispatcher.specs.Start.{at_start}
use Rattle.dispatcher.specs.declared.Dispatcher.{Dispatcher}
use Rattle.refusal.specs.Refusals.{Said, refused, gave}
use Rattle.sizes.specs.Sizes.{most_frame, most_servers}

-- the table of a list of pairs: Q and T of server k are the numbers 2 × k and 2 × k + 1
abbrev pub listed : List ℕ → Table
listed l = record { count = length l / 2; booking = λ k. booked (get_or l (2 * k) 0) (get_or l (2 * k + 1) 0) }

-- refusal 2: "H, N, n or m out of range; for a live table also an odd count of numbers"
abbrev pub out_of_range : ℕ → Length → Bool
out_of_range numbers H =
    ltb H.ticks 1 || ltb most_frame H.ticks || ltb most_servers (numbers / 2) || not (eqb (numbers % 2) 0)

-- "gives 2, 4 or 5 in that order"
unfoldable pub table_judged : List ℕ → Length → Said (Unit {0})
table_judged l H = cond (out_of_range (length l) H) (refused 2 0) (admission H (listed l))

-- "a refused opening also hands back a dispatcher with H 1, no servers and the clock at 0"
abbrev pub no_servers : Dispatcher
no_servers = at_start (ticks 1) (record { count = 0; booking = λ k. booked 0 0 })

-- the dispatcher that goes with an answer
abbrev pub handed_back : Said (Unit {0}) → Dispatcher → Dispatcher
handed_back (refused number place) d = no_servers
handed_back (gave u) d = d

-- opening: the judgement, and the dispatcher of the table at its start where it is accepted
unfoldable pub opening : List ℕ → Length → Answered (Unit {0})
opening l H = leaving (table_judged l H) (handed_back (table_judged l H) (at_start H (listed l)))
