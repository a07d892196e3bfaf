-- What a frame changes.
use Rattle.std.proofs.Common.{◌≡◌, ℕ, ◌<◌, List, [], ◌∷◌, length, Bool, true, false, Result, Ok, Err, refl, sym, ap, ◌∙◌, cond, inl, inr, arith}
use Rattle.std.specs.Prelude.{Some, Option, codes}
use Rattle.hpack_block.specs.declared.header.Header.{Header}
use Rattle.grpc_core.specs.Heads.{value_of, is_value}
use Rattle.grpc_client.specs.declared.fault.CallFault.{CallFault}
use Rattle.grpc_client.specs.declared.fault.CallFault.TheVariants as fault
use Rattle.grpc_client.specs.declared.heard.Heard.{Heard}
use Rattle.grpc_client.specs.Responses.{by_head, by_code, natural_in, or_head, http_status}
use Rattle.h2_responses.specs.declared.event.ServerEvent.{ServerEvent}
use Rattle.grpc_client.specs.declared.connection.Connection.{Connection}
use Rattle.std.proofs.lemmas.Bool.{cases_lt}
use Rattle.h2_windows.specs.Windows.{room}
use Rattle.grpc_client.specs.Connections.{overflows, with_event, own_window, IsPaced}
use Rattle.grpc_client.specs.Exchanges.{after_event}

picked_no : {A : Type 0} (b : Bool) (x y : A) → b ≡ false → cond b x y ≡ y
picked_no true x y e = absurd (cc)
picked_no false x y e = refl

picked_yes : {A : Type 0} (b : Bool) (x y : A) → b ≡ true → cond b x y ≡ x
picked_yes true x y e = refl
picked_yes false x y e = absurd (cc)

pub changed : (what : ServerEvent) (old new : Connection) → overflows what old ≡ false → new ≡ with_event what old → after_event (Some what) old ≡ Ok new
changed what old new fits is = picked_no (overflows what old) (Err 3) (Ok (with_event what old)) fits ∙ ap (λ (c : Connection). Ok c) (sym is)

pub overflowed : (what : ServerEvent) (old : Connection) → overflows what old ≡ true → after_event (Some what) old ≡ Err 3
overflowed what old passes = picked_yes (overflows what old) (Err 3) (Ok (with_event what old)) passes

empty_if : (octets : List ℕ) → (0 < length octets → ⊥) → octets ≡ []
empty_if [] h = refl
empty_if (o ∷ octets) h = absurd (h (omega arith))

-- nothing can be sent: no octet waits, or a window is used up
pub paced_if : (connection : Connection) → (0 < length connection.unsent → 0 < room connection.window → 0 < room (own_window connection) → ⊥) → IsPaced connection
paced_if connection h =
    elim (cases_lt 0 (length connection.unsent)) [
      | inr none ↦ inl (empty_if connection.unsent (λ some. omega (arith, none, some)))
      | inl some ↦ elim (cases_lt 0 (room connection.window)) [
        | inr none ↦ inr (inl (omega (arith, none)))
        | inl wide ↦ elim (cases_lt 0 (room (own_window connection))) [
          | inr none ↦ inr (inr (omega (arith, none)))
          | inl own ↦ absurd (h some wide own)
        ]
      ]
    ]

-- ---- a response that is over

pub head_answers : {P : Type 0} (head : List Header) (h : Heard) (last : List Header) (value : Option (List ℕ)) (code : Option ℕ) (octets : List ℕ) (result : Result (List ℕ) CallFault)
    → is_value (codes "200") (value_of (codes ":status") head) ≡ true → last ≡ or_head h.trailers head → value ≡ value_of (codes "grpc-status") last → code ≡ natural_in value → octets ≡ h.octets → (P → result ≡ by_code code octets) → P → result ≡ by_head head h
head_answers head h last value code octets result yes_it_is last_is value_is code_is octets_are answers p =
    answers p ∙ ap (λ (os : List ℕ). by_code code os) octets_are
    ∙ ap (λ (o : Option ℕ). by_code o h.octets) (code_is ∙ ap natural_in (value_is ∙ ap (value_of (codes "grpc-status")) last_is))
    ∙ sym (picked_yes (is_value (codes "200") (value_of (codes ":status") head)) (by_code (natural_in (value_of (codes "grpc-status") (or_head h.trailers head))) h.octets) (Err (fault.Http (http_status (value_of (codes ":status") head)))) yes_it_is)
