use Rattle.std.proofs.Common.{ap, ◌∙◌, rules}
use Rattle.stream_laws.specs.Streams.{stream_after}
use Rattle.stream_core.proofs.Turned.{IsTurn, IsNoted, quiet_after, due_after, after_rises}
use Rattle.stream_core.proofs.stream.Stream.turn.Goals as goal

pub returns-then-not-some_due-clause-after : goal.returns-then-not-some_due-clause-after
returns-then-not-some_due-clause-after c =
    let i = c.self.inside in
    let turn : IsTurn i.lines i.states.items i.sent.items i.time c.args.now c.args.view c.later-time.result c.beat_all.new.beats.items c.move_all.new.states.items = record {
      sent_rises = c.self.invariant.rising;
      rows_rise = c.requires;
      timed = c.later-time.ensures;
      found = search (rules, c.beat_all.ensures.found);
      moved_on = search (rules, c.move_all.ensures.moved);
    } in
    quiet_after i.lines i.states.items i.sent.items i.time i.since c.args.now i.mark c.args.view c.later-time.result c.beat_all.new.beats.items c.move_all.new.states.items turn (search rules)
    ∙ ap (λ s. stream_after s c.args.now c.args.view) c.self.view_is

is_made : (c : goal.After-drop-view-2) → IsNoted c.self.inside.lines c.beat_all.new.beats.items c.self.inside.sent.items c.args.view c.in_ok-note.note c.in_ok-note.sent.items
is_made c = record {
  stamp = search (rules, c.in_ok-note.ensures.stamp);
  deletes = search (rules, c.in_ok-note.ensures.deletes);
  updates = search (rules, c.in_ok-note.ensures.updates);
  after = search (rules, c.in_ok-note.ensures.after);
}

pub invariant_of-self-2 : goal.invariant_of-self-2
invariant_of-self-2 c = record {
  rising = after_rises c.self.inside.lines c.beat_all.new.beats.items c.self.inside.sent.items c.args.view c.in_ok-note.note c.in_ok-note.sent.items c.self.invariant.rising (is_made c);
  found = search rules;
  room = search rules;
}

pub returns-clause-after : goal.returns-clause-after
returns-clause-after c =
    let i = c.self.inside in
    let turn : IsTurn i.lines i.states.items i.sent.items i.time c.args.now c.args.view c.later-time.result c.beat_all.new.beats.items c.move_all-2.new.states.items = record {
      sent_rises = c.self.invariant.rising;
      rows_rise = c.requires;
      timed = c.later-time.ensures;
      found = search (rules, c.beat_all.ensures.found);
      moved_on = search (rules, c.move_all-2.ensures.moved);
    } in
    due_after i.lines i.states.items i.sent.items i.time i.since c.args.now i.mark c.args.view c.later-time.result c.beat_all.new.beats.items c.move_all-2.new.states.items c.in_ok-note.note c.in_ok-note.sent.items turn (is_made c) (search rules)
    ∙ ap (λ s. stream_after s c.args.now c.args.view) c.self.view_is
