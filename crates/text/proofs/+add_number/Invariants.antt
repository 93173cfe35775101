-- `text::add_number` ends: the number itself falls.
use Rattle.text.proofs.+add_number.Given as goal

abbrev pub decreases-add_number : goal.decreases-add_number
decreases-add_number l = l.n
