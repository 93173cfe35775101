-- `run::tree::set_winner` meets its promise: with as many leaves as some doublings give, the climb has so many turns; else it goes up to the root.
use Rattle.books.proofs.Tree.Climb.{doubled, climbs_doubled, climbed_set}
use Rattle.run.proofs.tree.set_winner.Goals as goal

pub climb-requires : goal.climb-requires
unfolding doubled
climb-requires c = climbs_doubled c.requires c.leaf_of-at.ensures _ 6 c.in-64.is

pub returns-in-64-clause-set : goal.returns-in-64-clause-set
returns-in-64-clause-set c = climbed_set c.requires c.leaf_of-at.ensures _ c.climb.ensures

pub climb-requires-in-16 : goal.climb-requires-in-16
unfolding doubled
climb-requires-in-16 c = climbs_doubled c.requires c.leaf_of-at.ensures _ 4 c.in-16.is

pub returns-in-16-clause-set : goal.returns-in-16-clause-set
returns-in-16-clause-set c = climbed_set c.requires c.leaf_of-at.ensures _ c.climb-in-16.ensures
