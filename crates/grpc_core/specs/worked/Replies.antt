-- Trailers, and texts in the percent encoding.
use Rattle.std.specs.Prelude.{◌≡◌, refl, [], ◌∷◌, Some, None, codes}
use Rattle.std.specs.Fmt.{digits}
use Rattle.hpack_block.specs.StaticTable.{pair}
use Rattle.base_kinds.specs.declared.refusal.Refusal.TheVariants.{TooLarge, BadMessage}
use Rattle.grpc_core.specs.Replies.{trailers, percent_encoded}

pub status_of_success : trailers None ≡ pair (codes "grpc-status") (codes "0") ∷ []
status_of_success = refl

pub too_large : trailers (Some TooLarge)
    ≡ pair (codes "grpc-status") (codes "8") ∷ pair (codes "grpc-message") (codes "too large") ∷ []
unfolding digits
too_large = refl

pub bad_message : trailers (Some BadMessage)
    ≡ pair (codes "grpc-status") (codes "13")
    ∷ pair (codes "grpc-message") (codes "bad message") ∷ []
unfolding digits
bad_message = refl

-- "100% ü"
pub encoded : percent_encoded (0x31 ∷ 0x30 ∷ 0x30 ∷ 0x25 ∷ 0x20 ∷ 0xc3 ∷ 0xbc ∷ [])
    ≡ codes "100%25 %C3%BC"
encoded = refl
