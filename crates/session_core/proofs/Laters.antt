-- The call on a stream is looked for, and what comes behind its first message is answered.
use Rattle.std.proofs.Common.{◌≡◌, inl, inr, ℕ, ◌==◌, List, [], ◌∷◌, ◌++◌, true, false, refl, sym, ap, ◌∙◌, subst, append-nil, append_assoc, arith, Option, Some, None}
use Rattle.std.proofs.lemmas.Grind.{common_steps}
use Rattle.base_kinds.specs.Schema.{SchemaNode}
use Rattle.book_port.specs.Ports.{PortView}
use Rattle.grpc_requests.specs.declared.request.Asked.TheVariants as asks
use Rattle.grpc_requests.specs.declared.request.Later.{Later}
use Rattle.session_core.specs.declared.reply.Reply.{Reply}
use Rattle.session_core.specs.declared.reply.Reply.TheVariants as replies
use Rattle.session_core.specs.declared.served.Served.{Served}
use Rattle.session_core.specs.Deeds.{Answering, AreElsewhere, IsAmong, IsHeard}
use Rattle.session_core.specs.inner.Steps.{IsFound, IsLaterDone, IsReplied, deed_with, list_of, said_in, service}
use Rattle.session_core.proofs.Rounds.{all_more}

-- ---- the call on a stream is looked for

pub differs : (one other : ℕ) → (one ≡ other → ⊥) → (one == other) ≡ false
differs one other apart = grind (arith, common_steps)

-- of what was looked at
pub record IsFoundIn (stream : ℕ) (before : List Served) (at : Option Served) (after items all : List Served) : Type 0 where
  pub scanned : List Served
  pub whole : all ≡ scanned ++ items
  pub found : IsFound stream before at after scanned

module _ (stream : ℕ) (before after items rest all : List Served) (served : Served) (first : items ≡ served ∷ rest) where
  moved : (scanned : List Served) → all ≡ scanned ++ items → all ≡ (scanned ++ served ∷ []) ++ rest
  moved scanned whole = whole ∙ ap (λ (is : List Served). scanned ++ is) first ∙ sym (append_assoc scanned (served ∷ []) rest)

  pub behind_it : (here : Served) → IsFoundIn stream before (Some here) after items all → IsFoundIn stream before (Some here) (after ++ served ∷ []) rest all
  behind_it here f = record {
    scanned = f.scanned ++ served ∷ [];
    whole = moved f.scanned f.whole;
    found = record { whole = ap (λ (ss : List Served). ss ++ served ∷ []) f.found.whole ∙ append_assoc before (here ∷ after) (served ∷ []); on = f.found.on };
  }

  pub here_it_is : (served.stream == stream) ≡ true → served.stream ≡ stream → IsFoundIn stream before None after items all → IsFoundIn stream before (Some served) after rest all
  here_it_is is same f = record {
    scanned = f.scanned ++ served ∷ [];
    whole = moved f.scanned f.whole;
    found = record { whole = ap (λ (ss : List Served). ss ++ served ∷ []) f.found.2 ∙ ap (λ (more : List Served). before ++ served ∷ more) (sym f.found.1); on = same };
  }

  pub not_here : (served.stream == stream) ≡ false → IsFoundIn stream before None after items all → IsFoundIn stream (before ++ served ∷ []) None after rest all
  not_here other f = record {
    scanned = f.scanned ++ served ∷ [];
    whole = moved f.scanned f.whole;
    found = (all_more (λ (s : Served). (s.stream == stream) ≡ false) before served f.found.0 other, f.found.1, ap (λ (ss : List Served). ss ++ served ∷ []) f.found.2);
  }

pub none_looked_at : (stream : ℕ) (all : List Served) → IsFoundIn stream [] None [] all all
none_looked_at stream all = record { scanned = []; whole = refl; found = (tt, refl, refl) }

pub all_looked_at : (stream : ℕ) (before : List Served) (at : Option Served) (after items all : List Served) → items ≡ [] → IsFoundIn stream before at after items all → IsFound stream before at after all
all_looked_at stream before at after items all none f =
    subst (λ (ss : List Served). IsFound stream before at after ss) (sym (f.whole ∙ ap (λ (is : List Served). f.scanned ++ is) none ∙ append-nil f.scanned)) f.found

-- ---- the answer

pub later_answered : (schema : List SchemaNode) (stream : ℕ) (what : Later) (reply : Reply) (port : PortView) (readings : List ℕ) (calls before after joined : List Served) (served : Served) (left : Option Served)
    → IsAmong stream served before after calls → joined ≡ before ++ list_of left ++ after → IsLaterDone what served reply left
    → IsReplied schema stream (asks.Later what) reply (service port calls) (service port joined) readings readings
later_answered schema stream what reply port readings calls before after joined served left among is done = record {
  readings = [];
  turn = None;
  failed = false;
  clock = sym (append-nil readings);
  deed = λ given.
      let heard = done before after given port in
      inl (subst (λ (s : ℕ). IsHeard what (deed_with s (Answering (asks.Later what)) given [] None false (said_in reply)) (service port calls) (service port joined)) among.on
      (subst (λ (to : List Served). IsHeard what (deed_with served.stream (Answering (asks.Later what)) given [] None false (said_in reply)) (service port calls) (service port to)) (sym is)
      (subst (λ (from : List Served). IsHeard what (deed_with served.stream (Answering (asks.Later what)) given [] None false (said_in reply)) (service port from) (service port (before ++ list_of left ++ after))) (sym among.whole) heard)));
}

pub later_unheard : (schema : List SchemaNode) (stream : ℕ) (what : Later) (port : PortView) (readings : List ℕ) (calls before after : List Served)
    → IsFound stream before None after calls → IsReplied schema stream (asks.Later what) replies.Nothing (service port calls) (service port before) readings readings
later_unheard schema stream what port readings calls before after found = record {
  readings = [];
  turn = None;
  failed = false;
  clock = sym (append-nil readings);
  deed = λ given. inr (record {
    elsewhere = subst (λ (cs : List Served). AreElsewhere stream cs) (sym found.2) found.0;
    plain = record { says = refl; unread = refl; unturned = refl; unfailed = refl; new_is = ap (service port) (sym found.2) };
  });
}
