-- `test_live_moves::play::play` meets its promise: what is left of the list makes of the dispatcher what the whole makes of the first.
use Rattle.std.proofs.Common.{◌+◌, drop, get_or, sym, ap, ◌∙◌, arith}
use Rattle.std.proofs.Math.ListN.{drop_of_length-le}
use Rattle.std.proofs.lemmas.List.{drop_more}
use Rattle.dispatcher.specs.declared.Dispatcher.{Dispatcher}
use Rattle.test_live_moves.specs.declared.script.Move.TheVariants.{Tick}
use Rattle.test_live_moves.specs.declared.script.Often.{Often}
use Rattle.test_live_moves.specs.Working.Played.{made, moved_by, played}
use Rattle.test_live_moves.proofs.PlayedLaws.{made_none, made_next, played_none, played_next}
use Rattle.test_live_moves.proofs.play.play.Goals as goal

pub loop-k-init : goal.loop-k-init
loop-k-init g c = record { so_far = sym (made_none _ _); within = c.loop-often.invariant.within }

pub loop-k-preserved : goal.loop-k-preserved
loop-k-preserved g c =
    let often : Often = get_or c.args.list.now c.loop-often.often-index (record { of = Tick; times = 0 }) in
    record {
      so_far =
          c.turn.ensures.d_after
          ∙ ap (λ (d : Dispatcher). moved_by d often.of) c.loop-k.invariant.so_far
          ∙ made_next c.loop-often.d often.of c.loop-k.k;
      within = c.turn.ensures.within;
    }

pub loop-often-preserved : goal.loop-often-preserved
loop-often-preserved g c =
    let list = c.args.list.now in
    let at = c.loop-often.often-index in
    let rest = drop (at + 1) list in
    record {
      left =
          ap (λ (d : Dispatcher). played d rest) (c.loop-k.invariant.so_far ∙ ap (made c.loop-often.d _) (omega arith))
          ∙ sym (played_next c.loop-often.d _ rest)
          ∙ ap (played c.loop-often.d) (sym (drop_more list at _ c.loop-often-test.true))
          ∙ c.loop-often.invariant.left;
      within = c.loop-k.invariant.within;
    }

pub returns-clause-value : goal.returns-clause-value
returns-clause-value g c =
    let d = c.loop-often.d in
    sym (played_none d)
    ∙ ap (played d) (sym (drop_of_length-le c.args.list.now c.loop-often-test.false))
    ∙ c.loop-often.invariant.left
