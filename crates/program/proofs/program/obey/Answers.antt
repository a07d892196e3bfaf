use Rattle.std.proofs.Common.{rules, [], None, option_map, ap, refl}
use Rattle.program.specs.Commands.{Script, Init, Log, Serve, Load, Gives, octets_of_words}
use Rattle.program.specs.Environment.{seen_disk}
use Rattle.program.specs.Links.{seen_links}
use Rattle.program.proofs.WordLists.{does_all, ends_so}
use Rattle.program.proofs.program.obey.Goals as goal

pub returns-in-Some-Script-clause-done : goal.returns-in-Some-Script-clause-done
returns-in-Some-Script-clause-done g c =
    let words = octets_of_words c.args.words.now in
    let given = c.in-Some-Script in
    let is : Gives words (Script given.schema.now given.limits) = search rules in
    let end = c.without_disk-in-Some-Script in
    let disk = ap (λ d. option_map (λ disk. seen_disk g.K.Files.Disk.Disk.told g.K.Files.Disk.Disk.faults disk) d) end.ensures.disk in
    ends_so words (Script given.schema.now given.limits) c.args.host c.script-ending.new.host end.result.host None _ None end.result.how [] _ c.script-ending.result end.result.ending end.ensures.host disk end.ensures.how (ap (λ l. seen_links g.K.Door.Reader.Source.seen g.K.Door.Writer.Sink.seen l) end.ensures.links) end.ensures.ending is (c.script-ending.ensures.run, refl)

pub returns-in-Some-Init-clause-done : goal.returns-in-Some-Init-clause-done
returns-in-Some-Init-clause-done g c =
    let words = octets_of_words c.args.words.now in
    let given = c.in-Some-Init in
    let is : Gives words (Init given.journal.now given.limits) = search rules in
    let end = c.with_disk in
    let disk = ap (λ d. option_map (λ disk. seen_disk g.K.Files.Disk.Disk.told g.K.Files.Disk.Disk.faults disk) d) end.ensures.disk in
    ends_so words (Init given.journal.now given.limits) c.args.host c.init-end.new.host end.result.host _ _ None end.result.how [] _ c.init-end.result.ending end.result.ending end.ensures.host disk end.ensures.how (ap (λ l. seen_links g.K.Door.Reader.Source.seen g.K.Door.Writer.Sink.seen l) end.ensures.links) end.ensures.ending is c.init-end.ensures.run

pub returns-in-Some-Load-clause-done : goal.returns-in-Some-Load-clause-done
returns-in-Some-Load-clause-done g c =
    let words = octets_of_words c.args.words.now in
    let given = c.in-Some-Load in
    let is : Gives words (Load given.seed given.count) = search rules in
    let end = c.without_disk-in-Some-Load in
    let disk = ap (λ d. option_map (λ disk. seen_disk g.K.Files.Disk.Disk.told g.K.Files.Disk.Disk.faults disk) d) end.ensures.disk in
    ends_so words (Load given.seed given.count) c.args.host c.load-ending.new.host end.result.host None _ None end.result.how [] _ c.load-ending.result end.result.ending end.ensures.host disk end.ensures.how (ap (λ l. seen_links g.K.Door.Reader.Source.seen g.K.Door.Writer.Sink.seen l) end.ensures.links) end.ensures.ending is (c.load-ending.ensures.run, refl)

pub returns-in-Some-Log-clause-done : goal.returns-in-Some-Log-clause-done
returns-in-Some-Log-clause-done g c =
    let words = octets_of_words c.args.words.now in
    let given = c.in-Some-Log in
    let is : Gives words (Log given.journal.now) = search rules in
    let end = c.with_disk-in-Some-Log in
    let disk = ap (λ d. option_map (λ disk. seen_disk g.K.Files.Disk.Disk.told g.K.Files.Disk.Disk.faults disk) d) end.ensures.disk in
    ends_so words (Log given.journal.now) c.args.host c.log-end.new.host end.result.host _ _ None end.result.how [] _ c.log-end.result.ending end.result.ending end.ensures.host disk end.ensures.how (ap (λ l. seen_links g.K.Door.Reader.Source.seen g.K.Door.Writer.Sink.seen l) end.ensures.links) end.ensures.ending is c.log-end.ensures.run

pub returns-in-Some-Serve-clause-done : goal.returns-in-Some-Serve-clause-done
returns-in-Some-Serve-clause-done g c =
    let words = octets_of_words c.args.words.now in
    let given = c.in-Some-Serve.words in
    let is : Gives words (Serve given.schema.now given.journal.now given.address.now given.sessions) = search rules in
    does_all words (Serve given.schema.now given.journal.now given.address.now given.sessions) c.args.host c.serve.result.host _ c.serve.result.how _ c.serve.result.ending is c.serve.ensures.run

pub returns-in-Some-Serve-clause-door : goal.returns-in-Some-Serve-clause-door
returns-in-Some-Serve-clause-door g c =
    let given = c.in-Some-Serve.words in
    let is : Gives (octets_of_words c.args.words.now) (Serve given.schema.now given.journal.now given.address.now given.sessions) = search rules in
    λ none. absurd (none given.schema.now given.journal.now given.address.now given.sessions is)

pub returns-in-Some-Serve-clause-links : goal.returns-in-Some-Serve-clause-links
returns-in-Some-Serve-clause-links g c =
    let given = c.in-Some-Serve.words in
    let is : Gives (octets_of_words c.args.words.now) (Serve given.schema.now given.journal.now given.address.now given.sessions) = search rules in
    λ none. absurd (none given.schema.now given.journal.now given.address.now given.sessions is)
