-- Heads of calls, and the order in which they are judged.
use Rattle.std.specs.Prelude.{◌≡◌, refl, [], ◌∷◌, codes}
use Rattle.hpack_block.specs.StaticTable.{pair}
use Rattle.base_kinds.specs.declared.refusal.Refusal.TheVariants.{NoMethod}
use Rattle.grpc_core.specs.Heads.{head_of}
use Rattle.grpc_core.specs.declared.head.CallHead.TheVariants.{Call, Http, Refused}
use Rattle.grpc_core.specs.declared.method.Method.TheVariants.{Set}

pub set_call :
    head_of (pair (codes ":method") (codes "POST") ∷ pair (codes ":path") (codes "/gnmi.gNMI/Set")
    ∷ pair (codes "content-type") (codes "application/grpc+proto") ∷ [])
    ≡ Call Set
set_call = refl

-- 405 comes before 415.
pub wrong_in_all : head_of
    (pair (codes ":method") (codes "GET") ∷ pair (codes ":path") (codes "/") ∷ []) ≡ Http 405
wrong_in_all = refl

-- and 415 before the method
pub plain_text :
    head_of (pair (codes ":method") (codes "POST") ∷ pair (codes ":path") (codes "/")
    ∷ pair (codes "content-type") (codes "text/plain") ∷ [])
    ≡ Http 415
plain_text = refl

pub no_content_type :
    head_of (pair (codes ":method") (codes "POST") ∷ pair (codes ":path") (codes "/gnmi.gNMI/Set")
    ∷ []) ≡ Http 415
no_content_type = refl

pub another_service :
    head_of (pair (codes ":method") (codes "POST") ∷ pair (codes ":path") (codes "/gnmi.gNMI/set")
    ∷ pair (codes "content-type") (codes "application/grpc") ∷ [])
    ≡ Refused NoMethod
another_service = refl
