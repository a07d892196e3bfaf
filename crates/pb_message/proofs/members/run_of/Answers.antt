use Rattle.std.proofs.Common.{◌≡◌, [], rules, sym, ◌∙◌}
use Rattle.pb_message.specs.Fields.{fields_at}
use Rattle.pb_message.proofs.MemberSteps.{RunSoFar-member, held_any}
use Rattle.pb_message.proofs.members.run_of.Goals as goal

pub loop-field-preserved-then-is_message_member : goal.loop-field-preserved-then-is_message_member
loop-field-preserved-then-is_message_member c = record {
  inside = c.in-Some.ensures.inside;
  run = RunSoFar-member c.args.numbers.now c.args.octets.now c.loop-field.place c.in-Some.field c.in-Some.next
      c.loop-field.run c.begin_of.result c.loop-field.invariant.inside
      (sym c.is_message_member.ensures ∙ c.if-is_message_member.true) c.in-Some.ensures.some c.begin_of.ensures.number
      c.begin_of.ensures.same c.begin_of.ensures.other c.loop-field.invariant.run;
}

pub returns-clause-some : goal.returns-clause-some
returns-clause-some c =
    let end : fields_at c.args.octets.now c.loop-field.place ≡ [] = search rules in
    held_any c.args.numbers.now c.args.octets.now c.loop-field.place c.loop-field.run end c.loop-field.invariant.run
