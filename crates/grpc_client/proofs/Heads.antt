-- Nine octets and a payload are a frame.
use Rattle.std.proofs.Common.{◌≡◌, ℕ, ◌+◌, ◌*◌, ◌/◌, ◌%◌, ◌^◌, ◌<◌, ◌≤◌, List, [], ◌∷◌, ◌++◌, length, get_or, refl, arith, zero, suc}
use Rattle.std.specs.Prelude.{All}
use Rattle.std.proofs.lemmas.List.{get_or_default}
use Rattle.h2_frame.specs.Frames.{Spells, frame_of}
use Rattle.grpc_client.specs.Frames.{head_at}

nine : (a b c k f d e g h a' b' c' d' e' g' h' : ℕ) (p : List ℕ) → a ≡ a' → b ≡ b' → c ≡ c' → d ≡ d' → e ≡ e' → g ≡ g' → h ≡ h' → a ∷ b ∷ c ∷ k ∷ f ∷ d ∷ e ∷ g ∷ h ∷ p ≡ a' ∷ b' ∷ c' ∷ k ∷ f ∷ d' ∷ e' ∷ g' ∷ h' ∷ p
nine a b c k f d e g h a' b' c' d' e' g' h' p qa qb qc qd qe qg qh = cc

abbrev Fit : List ℕ → Type 0
Fit octets = (i : ℕ) → get_or octets i 0 < 256

pub head_spelled : (octets payload : List ℕ) → Fit octets → Fit payload → length octets ≡ 9 → length payload ≡ (head_at octets).length → Spells (octets ++ payload) (frame_of (head_at octets) payload)
head_spelled (a ∷ b ∷ c ∷ k ∷ f ∷ d ∷ e ∷ g ∷ h ∷ []) payload fit also len whole =
    let qa : a < 256 = fit 0 in
    let qb : b < 256 = fit 1 in
    let qc : c < 256 = fit 2 in
    let qk : k < 256 = fit 3 in
    let qf : f < 256 = fit 4 in
    let qd : d < 256 = fit 5 in
    let qe : e < 256 = fit 6 in
    let qg : g < 256 = fit 7 in
    let qh : h < 256 = fit 8 in
    record {
      reserved = d / 128;
      is_bit = omega arith;
      octets_are = nine a b c k f d e g h _ _ _ _ _ _ _ payload (omega arith) (omega arith) (omega arith) (omega arith) (omega arith) (omega arith) (omega arith);
      fits = record {
        payload_length = whole;
        length_fits = omega arith;
        kind_fits = qk;
        flags_fit = qf;
        stream_fits = omega arith;
        octets_fit = λ i x lt. rw (get_or_default payload i x 0 lt) (also i);
      };
    }
head_spelled _ payload fit also len whole = absurd (omega arith)
