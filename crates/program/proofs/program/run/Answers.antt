use Rattle.std.proofs.Common.{[], ap, option_map}
use Rattle.program.specs.Commands.{octets_of_words}
use Rattle.program.specs.Environment.{seen_disk}
use Rattle.program.specs.Links.{seen_links}
use Rattle.program.proofs.headline.Running.{headline_of}
use Rattle.program.proofs.program.run.Goals as goal

pub returns-clause-headline : goal.returns-clause-headline
returns-clause-headline g c =
    let words = octets_of_words c.args.words.now in
    let end = c.obey-host.result in
    let disk = option_map (λ disk. seen_disk g.K.Files.Disk.Disk.told g.K.Files.Disk.Disk.faults disk) end.disk in
    let links = seen_links g.K.Door.Reader.Source.seen g.K.Door.Writer.Sink.seen end.links.items in
    headline_of words c.args.host end.host disk end.how links c.exit_status.result (record {
      ending = end.ending;
      status_is = c.exit_status.ensures;
      done = c.obey-host.ensures.done;
      refused = c.obey-host.ensures.refused;
      unserved = c.obey-host.ensures.unserved;
      unopened = λ none. (c.obey-host.ensures.door none, ap (λ l. seen_links g.K.Door.Reader.Source.seen g.K.Door.Writer.Sink.seen l) (c.obey-host.ensures.links none));
    })
