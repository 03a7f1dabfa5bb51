-- What the values of a table are read as, key by key and item by item.
use Rattle.std.proofs.Common.{◌≡◌, ℕ, Bool, ◌&&◌, List, [], ◌∷◌, Some, None, String, Global, string_bytes, length, refl, ap, arith}
use Rattle.std.specs.Prelude.{is_some}
use Rattle.std.specs.List.{list_all}
use Rattle.std.specs.Map.{keys_of, values_of}
use Rattle.std.specs.Str.{IsUtf8}
use Rattle.std.proofs.lemmas.Str.{is_utf8-from_IsUtf8}
use Rattle.elf_symbols.proofs.Entries.{not_utf8}
use Rattle.toml.specs.Data.{Data, array, Items, as_table, as_array}
use Rattle.toml.specs.Parse.{parse_document}
use Rattle.toml.specs.View.{view, items_view, members_view}
use Rattle.toml.specs.declared.value.Value.{Value}
use Rattle.rescue_config.specs.Document.{count_of, document_of}
use Rattle.rescue_config.specs.Fields.{has_only, are_rets, ret_in, are_tables, is_table_list}

pub has_only-list_all : (test : List ℕ → Bool) (entries : List (String Global × Value)) → list_all (λ key. test (string_bytes key)) (keys_of entries) ≡ has_only test (members_view entries)
has_only-list_all test [] = refl
has_only-list_all test (e ∷ es) = ap (λ b. test (string_bytes e.0) && b) (has_only-list_all test es)

pub are_rets-list_all : (entries : List (String Global × Value)) → list_all (λ v. is_some (ret_in (view v))) (values_of entries) ≡ are_rets (members_view entries)
are_rets-list_all [] = refl
are_rets-list_all (e ∷ es) = ap (λ b. is_some (ret_in (view e.1)) && b) (are_rets-list_all es)

pub are_tables-list_all : (values : List Value) → list_all (λ v. is_some (as_table (view v))) values ≡ are_tables (items_view values)
are_tables-list_all [] = refl
are_tables-list_all (v ∷ vs) = ap (λ b. is_some (as_table (view v)) && b) (are_tables-list_all vs)

pub is_table_list-array : (value : Data) (items : Items) → as_array value ≡ Some items → is_table_list value ≡ are_tables items
is_table_list-array (array xs) items is = grind (arith, is)
is_table_list-array _ items is = cc

pub count_of-items : (values : List Value) → count_of (items_view values) ≡ length values
count_of-items [] = refl
count_of-items (v ∷ vs) = omega (arith, count_of-items vs)

-- bytes are read as a document only where they are UTF-8
pub document_of-text : (bytes : List ℕ) → IsUtf8 bytes → document_of bytes ≡ parse_document bytes
document_of-text bytes text = rw (is_utf8-from_IsUtf8 bytes text) refl

pub document_of-other : (bytes : List ℕ) → (IsUtf8 bytes → ⊥) → document_of bytes ≡ None
document_of-other bytes other = rw (not_utf8 bytes other) refl
