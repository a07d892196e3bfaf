-- The schema under which the Sets are made, a line a node.
use Rattle.std.specs.Prelude.{ℕ, List, ◌++◌, codes}

abbrev pub schema_text : List ℕ
schema_text =
    codes "module openconfig-system\n" ++ codes "container /system\n"
    ++ codes "container /system/config\n" ++ codes "leaf /system/config/hostname string\n"
    ++ codes "leaf /system/config/motd string\n" ++ codes "module openconfig-interfaces\n"
    ++ codes "container /interfaces\n" ++ codes "list /interfaces/interface name\n"
    ++ codes "leaf /interfaces/interface/name string\n"
    ++ codes "container /interfaces/interface/config\n"
    ++ codes "leaf /interfaces/interface/config/mtu uint16\n"
    ++ codes "leaf /interfaces/interface/config/description string\n"
    ++ codes "leaf /interfaces/interface/config/enabled bool\n" ++ codes "module lab\n"
    ++ codes "container /lab\n" ++ codes "leaf /lab/big uint64\n" ++ codes "leaf /lab/rate dec2\n"
    ++ codes "leaf /lab/blob binary\n" ++ codes "leaf-list /lab/tags string\n"
    ++ codes "leaf /lab/via string ref /interfaces/interface/name\n"
