-- What a frame of the server is answered at once (RFC 9113 sections 6.5.3, 6.7 and 6.9).
use Rattle.std.specs.Prelude.{List, [], ◌∷◌, Option, Some, None}
use Rattle.h2_frame.specs.Frames.{Frame}
use Rattle.h2_windows.specs.Control.{settings_ack, ping_ack, granted_again}
use Rattle.h2_responses.specs.declared.event.ServerEvent.{ServerEvent}
use Rattle.h2_responses.specs.declared.event.ServerEvent.TheVariants as event
use Rattle.grpc_client.specs.declared.reply.Reply.{Reply}
use Rattle.grpc_client.specs.declared.reply.Reply.TheVariants as reply

abbrev pub reply_to : ServerEvent → Reply
reply_to (event.Settings window table) = reply.SettingsAck
reply_to (event.Ping octets) = reply.PingAck octets
reply_to (event.Piece stream octets size ended) = reply.Grants stream size ended
reply_to _ = reply.Nothing

-- A frame without an event is answered nothing.
abbrev pub reply_if : Option ServerEvent → Reply
reply_if None = reply.Nothing
reply_if (Some event) = reply_to event

abbrev pub frames_of : Reply → List Frame
frames_of reply.Nothing = []
frames_of reply.SettingsAck = settings_ack ∷ []
frames_of (reply.PingAck octets) = ping_ack octets ∷ []
frames_of (reply.Grants stream size ended) = granted_again stream size ended
