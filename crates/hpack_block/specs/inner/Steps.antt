-- What the steps of a decoder do. Only private functions cite these: each is proved to agree with Block.antt.
use Rattle.std.specs.Prelude.{◌≡◌, ℕ, List, Option, slice_index}
use Rattle.hpack_block.specs.declared.header.Header.{Header}
use Rattle.hpack_block.specs.declared.form.Form.{Form}
use Rattle.hpack_block.specs.declared.form.Form.TheVariants.{SizeUpdate}
use Rattle.hpack_block.specs.Tables.{Table}
use Rattle.hpack_block.specs.Fields.{form_of, IsField}
use Rattle.hpack_block.specs.Block.{AreFields, Block}
use Rattle.hpack_block.specs.inner.Gathering.{within_limit, with_header}

-- a field is taken in a form, and its header is put to the others
pub record TakesField (form : Form) (table : Table) (octets : List ℕ) (next : Table) (rest : List ℕ)
    (old new : Option (List Header)) : Type 0 where
  pub header : Header
  pub is_field : IsField form table octets header next rest
  pub listed : new ≡ with_header header old

-- the octets begin with no field in a form
abbrev pub NoField : Form → Table → List ℕ → Type 0
NoField form table octets = (header : Header) (next : Table) (rest : List ℕ)
    → IsField form table octets header next rest → ⊥

-- the octets are fields, and their headers are gathered
pub record TakesFields (table : Table) (octets : List ℕ) (last : Table)
    (list : Option (List Header)) : Type 0 where
  pub headers : List Header
  pub are_fields : AreFields table octets headers last
  pub listed : list ≡ within_limit headers

-- the octets are a block, and its headers are gathered
pub record TakesBlock (table : Table) (octets : List ℕ) (last : Table)
    (list : Option (List Header)) : Type 0 where
  pub headers : List Header
  pub block : Block octets table headers last
  pub listed : list ≡ within_limit headers

-- what the octets give with the table, the rest gives with the next one
pub record Leads (octets : List ℕ) (table : Table) (rest : List ℕ) (next : Table) : Type 0 where
  pub built : (headers : List Header) (last : Table) → Block rest next headers last
      → Block octets table headers last
  pub only : (headers : List Header) (last : Table) → Block octets table headers last
      → Block rest next headers last

-- all updates of the size are taken, so that fields are left
pub record TakesUpdates (octets : List ℕ) (table : Table) (rest : List ℕ)
    (next : Table) : Type 0 where
  pub leads : Leads octets table rest next
  pub no_update : form_of (slice_index rest 0) ≡ SizeUpdate → ⊥
