-- The keys of a rescue file's tables, and what their values are read as. `Data`, `Items` and
-- `Members` are what the TOML reader sees a value, an array and a table as.
use Rattle.std.specs.Prelude.{ℕ, nat_le, Bool, true, false, not, ◌&&◌, ◌||◌, pos, List, [], ◌∷◌, map, replicate, Option, Some, None, is_some, unwrap_or, option_and_then, codes, bytes_eq, if◌then◌else◌}
use Rattle.std.specs.List.{list_any}
use Rattle.guest_words.specs.declared.fault.FaultName.{FaultName}
use Rattle.guest_words.specs.declared.fault.FaultName.TheVariants.{FetchRights, FetchMisaligned, Illegal, LoadRights, StoreRights, AtomicMisaligned, Breakpoint, BlockedInPoint}
use Rattle.guest_words.specs.declared.limits.TheConstants.{RESCUES}
use Rattle.guest_words.specs.declared.point.Ret.{Ret}
use Rattle.guest_words.specs.declared.point.Ret.TheVariants.{Code, Void}
use Rattle.guest_words.specs.declared.point.Kind.{Kind}
use Rattle.guest_words.specs.declared.point.Kind.TheVariants.{Blocking, Loose, Off}
use Rattle.guest_words.specs.Names.{fault_name}
use Rattle.guest_words.specs.Word.{word_of}
use Rattle.rescue_config.specs.declared.version.Version.{Version}
use Rattle.rescue_config.specs.Version.{has_codes, has_loose}
use Rattle.toml.specs.Data.{Data, string, integer, array, table, Items, no_items, item, Members, no_members, member, get_member, as_str, as_table}

-- the keys of the whole file
abbrev pub is_file_key : List ℕ → Bool
is_file_key key = bytes_eq key (codes "version") || bytes_eq key (codes "point")

-- the keys of a point, and those that it may have from version 2 on
abbrev pub is_first_key : List ℕ → Bool
is_first_key key =
    bytes_eq key (codes "function") || bytes_eq key (codes "entry")
    || bytes_eq key (codes "returns") || bytes_eq key (codes "kind")

abbrev pub is_later_key : List ℕ → Bool
is_later_key key = bytes_eq key (codes "codes") || bytes_eq key (codes "limit")

abbrev pub is_point_key : Version → List ℕ → Bool
is_point_key version key = is_first_key key || has_codes version && is_later_key key

-- each key of a table is one of these
abbrev pub has_only : (List ℕ → Bool) → Members → Bool
has_only test no_members = true
has_only test (member key value rest) = test key && has_only test rest

-- the points are an array of tables
abbrev pub are_tables : Items → Bool
are_tables no_items = true
are_tables (item value rest) = is_some (as_table value) && are_tables rest

abbrev pub is_table_list : Data → Bool
is_table_list (array items) = are_tables items
is_table_list _ = false

-- an address is an integer from 0 on
abbrev pub address_in : Data → Option ℕ
address_in (integer (pos n)) = Some n
address_in _ = None

-- what a rescued call returns is an integer, taken modulo 2 ^ 64, or the text void
abbrev pub ret_in : Data → Option Ret
ret_in (integer z) = Some (Code (word_of z))
ret_in (string text) = if bytes_eq text (codes "void") then Some Void else None
ret_in _ = None

-- the faults in their order
abbrev pub faults : List FaultName
faults =
    FetchRights ∷ FetchMisaligned ∷ Illegal ∷ LoadRights
    ∷ StoreRights ∷ AtomicMisaligned ∷ Breakpoint ∷ BlockedInPoint ∷ []

-- codes by fault are a table: its keys are names of faults, and its values are as returns
abbrev pub is_fault_key : List ℕ → Bool
is_fault_key key = list_any (λ fault. bytes_eq key (fault_name fault)) faults

abbrev pub are_rets : Members → Bool
are_rets no_members = true
are_rets (member key value rest) = is_some (ret_in value) && are_rets rest

abbrev pub codes_in : Data → Option Members
codes_in (table values) =
    if has_only is_fault_key values && are_rets values then Some values else None
codes_in _ = None

-- a limit is an integer from 1 to 1,000,000
abbrev pub limit_in : Data → Option ℕ
limit_in (integer (pos n)) = if nat_le 1 n && nat_le n RESCUES then Some n else None
limit_in _ = None

-- a kind is one of two texts, and of three in version 3
abbrev pub kind_in : Version → Data → Option Kind
kind_in version (string text) =
    if bytes_eq text (codes "blocking") then Some Blocking
    else (if bytes_eq text (codes "off") then Some Off
    else (if has_loose version && bytes_eq text (codes "loose") then Some Loose else None))
kind_in version _ = None

-- a key is there, and its value doesn't pass the test
abbrev pub is_other : (Data → Bool) → Option Data → Bool
is_other test None = false
is_other test (Some value) = not (test value)

-- what the fields of a point are read as, where they are there and can be
abbrev pub function_of : Members → Option (List ℕ)
function_of point = option_and_then as_str (get_member (codes "function") point)

abbrev pub address_of : Members → Option ℕ
address_of point = option_and_then address_in (get_member (codes "entry") point)

-- returns is always there in a point that keeps the rules
abbrev pub ret_of : Members → Ret
ret_of point = unwrap_or (option_and_then ret_in (get_member (codes "returns") point)) Void

-- a code for each fault: the one that codes has for its name, else returns
abbrev pub code_for : Members → Ret → FaultName → Ret
code_for values ret fault =
    unwrap_or (option_and_then ret_in (get_member (fault_name fault) values)) ret

abbrev pub codes_by : Members → Ret → List Ret
codes_by values ret = map (code_for values ret) faults

-- eight equal codes where codes is absent
abbrev pub codes_or : Option Members → Ret → List Ret
codes_or None ret = replicate 8 ret
codes_or (Some values) ret = codes_by values ret

abbrev pub codes_of : Members → List Ret
codes_of point =
    codes_or (option_and_then codes_in (get_member (codes "codes") point)) (ret_of point)

-- any number of rescues where limit is absent
abbrev pub limit_of : Members → Option ℕ
limit_of point = option_and_then limit_in (get_member (codes "limit") point)

-- the kind is blocking where it is absent
abbrev pub kind_of : Version → Members → Kind
kind_of version point =
    unwrap_or (option_and_then (kind_in version) (get_member (codes "kind") point)) Blocking
