-- Octets that are no reply.
use Rattle.std.proofs.Common.{◌≡◌, ℕ, List, Option, None, Err, ap, subst}
use Rattle.gnmi_data_msg.specs.declared.fault.MsgFault.{MsgFault}
use Rattle.gnmi_data_msg.specs.declared.fault.MsgFault.TheVariants.{BadMessage, NoMemory}
use Rattle.gnmi_data_msg.specs.Parts.{IsReadAs}
use Rattle.ask_command.specs.declared.request.Request.{Request}
use Rattle.ask_command.specs.Printing.{said_of_reply, said_of_text, reply_text, bad_answer}

none_told : (why : MsgFault) (told : Option (List ℕ)) → why ≡ BadMessage → IsReadAs (Err why) told → told ≡ None
none_told BadMessage told is read = read
none_told NoMemory told is read = cc

-- then it is a bad answer that is told of
pub unread : (request : Request) (octets handed : List ℕ) (why : MsgFault) → handed ≡ octets → why ≡ BadMessage → IsReadAs (Err why) (reply_text request handed) → said_of_reply request octets ≡ bad_answer
unread request octets handed why same is read = ap said_of_text (subst (λ (o : List ℕ). reply_text request o ≡ None) same (none_told why (reply_text request handed) is read))
