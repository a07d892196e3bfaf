use Rattle.std.proofs.Common.{rules, inl, refl}
use Rattle.ask_command.proofs.run.send.Goals as goal

pub returns-in-Ok-dial : goal.returns-in-Ok-dial
returns-in-Ok-dial g c =
    inl (record {
      fits = search rules;
      does = inl (record {
        first = c.in-Ok-dial.link;
        last = c.talk-ending.result.1;
        connects = c.in-Ok-dial.ensures;
        link = refl;
        talks = c.talk-ending.ensures;
      });
    })
