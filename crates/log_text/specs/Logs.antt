-- The text of a commit log. The form is this project's own.
use Rattle.std.specs.Prelude.{ℕ, List, [], ◌∷◌, ◌++◌, codes}
use Rattle.std.specs.List.{flat_map}
use Rattle.std.specs.Fmt.{decimal}
use Rattle.base_kinds.specs.declared.operation.Row.{Row}
use Rattle.base_kinds.specs.declared.operation.Op.{Op}
use Rattle.base_kinds.specs.declared.operation.Act.{Act}
use Rattle.base_kinds.specs.declared.operation.Act.TheVariants.{Delete, Replace, Update}
use Rattle.base_kinds.specs.declared.entry.Entry.{Entry}
use Rattle.base_kinds.specs.declared.entry.Kind.{Kind}
use Rattle.base_kinds.specs.declared.entry.Kind.TheVariants as kinds
use Rattle.base_kinds.specs.Tree.{with_act}
use Rattle.base_kinds.specs.Texts.{path_text, value_text, escaped, is_key_octet}

abbrev pub act_text : Act → List ℕ
act_text Delete = codes "delete"
act_text Replace = codes "replace"
act_text Update = codes "update"

-- a row up to the end of its line: its path, a space, its value
abbrev pub row_text : Row → List ℕ
row_text row = path_text row.path ++ (32 ∷ (value_text row.value ++ 10 ∷ []))

-- a row in a line of its own, behind four spaces
abbrev pub row_line : Row → List ℕ
row_line row = codes "    " ++ row_text row

-- an operation in a line of its own: two spaces, what it does, a space, its path; then its rows
abbrev pub op_lines : Op → List ℕ
op_lines op =
    codes "  "
    ++ (act_text op.act ++ (32 ∷ (path_text op.path ++ (10 ∷ flat_map row_line op.rows))))

-- the deletes, then the replaces, then the updates, each in list order
abbrev pub ops_lines : List Op → List ℕ
ops_lines ops =
    flat_map op_lines (with_act Delete ops)
    ++ (flat_map op_lines (with_act Replace ops) ++ flat_map op_lines (with_act Update ops))

abbrev pub kind_text : Kind → List ℕ
kind_text (kinds.Apply ops) = codes "apply"
kind_text (kinds.Trial id ops deadline) =
    codes "trial " ++ (escaped is_key_octet id ++ (32 ∷ decimal deadline))
kind_text kinds.Confirm = codes "confirm"
kind_text kinds.Cancel = codes "cancel"
kind_text kinds.Expire = codes "expire"
kind_text kinds.Restart = codes "restart"
kind_text (kinds.Extend deadline) = codes "extend " ++ decimal deadline

abbrev pub ops_of : Kind → List Op
ops_of (kinds.Apply ops) = ops
ops_of (kinds.Trial id ops deadline) = ops
ops_of _ = []

-- number, stamp and author, each with a space behind it
abbrev pub entry_front : Entry → List ℕ
entry_front entry =
    decimal entry.number ++ (32 ∷ (decimal entry.stamp ++ (32 ∷ (decimal entry.author ++ 32 ∷ []))))

-- number, stamp, author and kind in a line, and then the operations
abbrev pub entry_lines : Entry → List ℕ
entry_lines entry =
    entry_front entry ++ (kind_text entry.kind ++ (10 ∷ ops_lines (ops_of entry.kind)))

-- the entries, oldest first
abbrev pub log_text : List Entry → List ℕ
log_text entries = flat_map entry_lines entries
