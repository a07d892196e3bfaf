-- One step of writing an object.
use Rattle.std.specs.Prelude.{ℕ, suc, List, Option, Some}
use Rattle.serde_json.specs.Data.{Members}
use Rattle.base_kinds.specs.declared.operation.Row.{Row}
use Rattle.base_kinds.specs.Schema.{SchemaNode}
use Rattle.json_text.specs.Trees.{child_of_rows, with_member, members_data}

-- with the member of one run more
abbrev pub member_step :
    ℕ → List SchemaNode → Option (List ℕ) → List (List ℕ) → ℕ → Members → List Row → Members
member_step levels schema above names depth members run =
    with_member (λ node. members_data levels schema (Some node.module_name) node.names (suc depth))
    above depth run (child_of_rows schema names depth run) members
