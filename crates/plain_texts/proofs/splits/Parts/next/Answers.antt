use Rattle.std.proofs.Common.{sym}
use Rattle.plain_texts.proofs.Cuts.{one_part, more_parts}
use Rattle.plain_texts.proofs.splits.Parts.next.Goals as goal

pub returns-in_default : goal.returns-in_default
returns-in_default c = one_part c.self.inside.separator _ c.in_ok-octets.octets.now _ c.cut_before.result.1.now (sym (rw c.in_ok-octets.was at c.self.view_is)) c.cut_before.ensures (rw c.in_default.is at c.split_first.ensures.cases)

pub returns : goal.returns
returns c = more_parts c.self.inside.separator c.in-Some.field-0-0.now _ c.in_ok-octets.octets.now _ c.cut_before.result.1.now c.in-Some.others.now (sym (rw c.in_ok-octets.was at c.self.view_is)) c.cut_before.ensures c.in-Some.ensures.cases.0
