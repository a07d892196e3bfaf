-- Steps, one behind the other.
use Rattle.std.proofs.Common.{◌≡◌, ℕ, List, [], ◌∷◌, ◌++◌, refl, sym, ap, ◌∙◌, subst, append_assoc, append-nil, inl, inr, map}
use Rattle.std.proofs.lemmas.List.Concat.{flat_map-append}
use Rattle.h2_frame.specs.Frames.{Frame}
use Rattle.h2_windows.specs.Written.{spelled, octets_of}
use Rattle.grpc_client.specs.declared.connection.Connection.{Connection}
use Rattle.grpc_client.specs.Exchanges.{Exchange, at, owing, Done, Got, Sent, Gets, SendsData, Leads, Runs, received, sent, Did}

runs_join : (first mid last : Exchange) (one two : List Done) → Runs first one mid → Runs mid two last → Runs first (one ++ two) last
runs_join first mid last [] two p q = subst (λ (e : Exchange). Runs e two last) (sym p) q
runs_join first mid last (done ∷ one) two p q = (p.0, p.1, runs_join p.0 mid last one two p.2 q)

received_join : (one two : List Done) → received (one ++ two) ≡ received one ++ received two
received_join [] two = refl
received_join (Got octets frame ∷ one) two = ap (λ (os : List ℕ). octets ++ os) (received_join one two) ∙ sym (append_assoc octets (received one) (received two))
received_join (Sent frame ∷ one) two = received_join one two

sent_join : (one two : List Done) → sent (one ++ two) ≡ sent one ++ sent two
sent_join [] two = refl
sent_join (Got octets frame ∷ one) two = sent_join one two
sent_join (Sent frame ∷ one) two = ap (λ (fs : List Frame). frame ∷ fs) (sent_join one two)

went_join : (one two : List Done) → octets_of (sent (one ++ two)) ≡ octets_of (sent one) ++ octets_of (sent two)
went_join one two = ap octets_of (sent_join one two) ∙ flat_map-append spelled (sent one) (sent two)

pub did_nothing : (e : Exchange) → Did e [] [] e
did_nothing e = record { order = []; runs = refl; came_is = refl; went_is = refl }

pub did_then : (first mid last : Exchange) (x y t u : List ℕ) → Did first x t mid → Did mid y u last → Did first (x ++ y) (t ++ u) last
did_then first mid last x y t u p q =
    record {
      order = p.order ++ q.order;
      runs = runs_join first mid last p.order q.order p.runs q.runs;
      came_is = received_join p.order q.order ∙ ap (λ (os : List ℕ). os ++ received q.order) p.came_is ∙ ap (λ (os : List ℕ). x ++ os) q.came_is;
      went_is = went_join p.order q.order ∙ ap (λ (os : List ℕ). os ++ octets_of (sent q.order)) p.went_is ∙ ap (λ (os : List ℕ). t ++ os) q.went_is;
    }

-- a frame comes
pub did_get : (octets : List ℕ) (frame : Frame) (old new : Exchange) → Gets octets frame old new → Did old octets [] new
did_get octets frame old new h = record { order = Got octets frame ∷ []; runs = (new, h, refl); came_is = append-nil octets; went_is = refl }

-- DATA is sent
pub did_send : (frame : Frame) (old new : Exchange) → SendsData frame old new → Did old [] (spelled frame) new
did_send frame old new h = record { order = Sent frame ∷ []; runs = (new, inr h, refl); came_is = refl; went_is = append-nil (spelled frame) }

-- what is owed is sent
owed_runs : (frames : List Frame) (connection : Connection) → Runs (owing frames connection) (map Sent frames) (at connection)
owed_runs [] connection = refl
owed_runs (frame ∷ frames) connection = (owing frames connection, inl (record { first = refl; same = refl }), owed_runs frames connection)

owed_came : (frames : List Frame) → received (map Sent frames) ≡ []
owed_came [] = refl
owed_came (frame ∷ frames) = owed_came frames

owed_went : (frames : List Frame) → sent (map Sent frames) ≡ frames
owed_went [] = refl
owed_went (frame ∷ frames) = ap (λ (fs : List Frame). frame ∷ fs) (owed_went frames)

pub did_owe : (frames : List Frame) (connection : Connection) → Did (owing frames connection) [] (octets_of frames) (at connection)
did_owe frames connection = record { order = map Sent frames; runs = owed_runs frames connection; came_is = owed_came frames; went_is = ap octets_of (owed_went frames) }
