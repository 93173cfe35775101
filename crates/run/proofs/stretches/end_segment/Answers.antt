-- `run::stretches::end_segment` meets its promise: its test is whether the stretch is one of a server.
use mathlib.Core.Path.{sym, ◌∙◌, ap}
use Rattle.books.proofs.Stretches.Segments.{list_after_is, count_after_is, list_nobody, count_nobody}
use Rattle.clock.specs.declared.Length.{Length}
use Rattle.trace.specs.Written.{put}
use Rattle.run.proofs.stretches.end_segment.Goals as goal

pub returns-then-server-ge-MOST_SERVERS : goal.returns-then-server-ge-MOST_SERVERS
returns-then-server-ge-MOST_SERVERS c =
    let nobody = c.if-server-ge-MOST_SERVERS.true in
    record { value = sym (count_nobody c.args.c nobody); list_after = sym (list_nobody c.args.c nobody _ _) }

pub returns : goal.returns
returns c =
    let below = c.if-server-ge-MOST_SERVERS.false in
    let a = c.args in
    record {
      value = sym (count_after_is a.c below);
      list_after =
          c.write.ensures
          ∙ ap
          (λ (l : Length). put a.c.count
          (record { start = a.c.start; length = l; server = a.c.server; deadline = a.c.deadline })
          a.list.now)
          c.until-length.ensures
          ∙ sym (list_after_is a.c below _ _);
    }
