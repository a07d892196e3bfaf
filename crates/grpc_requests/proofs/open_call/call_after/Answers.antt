use Rattle.std.proofs.Common.{refl, sym, subst}
use Rattle.h2_events.specs.declared.event.RecvEvent.{RecvEvent}
use Rattle.h2_events.specs.declared.event.RecvEvent.TheVariants as events
use Rattle.grpc_requests.specs.inner.Tables.{IsStep}
use Rattle.grpc_requests.proofs.Calls.{stays}
use Rattle.grpc_requests.proofs.open_call.call_after.Goals as goal

pub returns-in-Settings : goal.returns-in-Settings
returns-in-Settings c = λ before keeps.
    subst (λ (e : RecvEvent). IsStep c.silent-in-Settings.result e before) (sym c.in-Settings.is)
    (stays c.silent-in-Settings.result c.args.call (events.Settings _ _) before refl refl c.silent-in-Settings.ensures.call c.silent-in-Settings.ensures.asked keeps)

pub returns-in-SettingsAck : goal.returns-in-SettingsAck
returns-in-SettingsAck c = λ before keeps.
    subst (λ (e : RecvEvent). IsStep c.silent-in-SettingsAck.result e before) (sym c.in-SettingsAck.is)
    (stays c.silent-in-SettingsAck.result c.args.call events.SettingsAck before refl refl c.silent-in-SettingsAck.ensures.call c.silent-in-SettingsAck.ensures.asked keeps)

pub returns-in-Ping : goal.returns-in-Ping
returns-in-Ping c = λ before keeps.
    subst (λ (e : RecvEvent). IsStep c.silent-in-Ping.result e before) (sym c.in-Ping.is)
    (stays c.silent-in-Ping.result c.args.call (events.Ping _) before refl refl c.silent-in-Ping.ensures.call c.silent-in-Ping.ensures.asked keeps)

pub returns-in-Window : goal.returns-in-Window
returns-in-Window c = λ before keeps.
    subst (λ (e : RecvEvent). IsStep c.silent-in-Window.result e before) (sym c.in-Window.is)
    (stays c.silent-in-Window.result c.args.call (events.Window _ _) before refl refl c.silent-in-Window.ensures.call c.silent-in-Window.ensures.asked keeps)

pub returns-in-GoAway : goal.returns-in-GoAway
returns-in-GoAway c = λ before keeps.
    subst (λ (e : RecvEvent). IsStep c.silent-in-GoAway.result e before) (sym c.in-GoAway.is)
    (stays c.silent-in-GoAway.result c.args.call events.GoAway before refl refl c.silent-in-GoAway.ensures.call c.silent-in-GoAway.ensures.asked keeps)
