-- The symbol at a place, from what is read there.
use Rattle.std.proofs.Common.{◌≡◌, ℕ, List, [], ◌∷◌, true, false, ◌&&◌, refl}
use Rattle.std.specs.Str.{IsUtf8, is_utf8}
use Rattle.std.proofs.lemmas.Str.{IsUtf8-from_is_utf8}
use Rattle.elf_symbols.specs.SymbolFields.{st_value, st_size}
use Rattle.elf_symbols.specs.SymbolTable.{is_function, name_of, symbol_at}

pub not_utf8 : (bytes : List ℕ) → (IsUtf8 bytes → ⊥) → is_utf8 bytes ≡ false
not_utf8 bytes refused = elim (is_utf8 bytes) as (λ b. is_utf8 bytes ≡ b → b ≡ false) [ true ↦ λ is. absurd (refused (IsUtf8-from_is_utf8 bytes is)) | false ↦ λ _. refl ] refl

pub symbol_is :
    (file strings : List ℕ) (entry value size : ℕ) (name : List ℕ)
    → is_function file entry ≡ true
    → is_utf8 (name_of file strings entry) ≡ true
    → value ≡ st_value file entry
    → size ≡ st_size file entry
    → name ≡ name_of file strings entry
    → record { value = value; size = size; name = name } ∷ [] ≡ symbol_at file strings entry
symbol_is file strings entry value size name function text is_value is_size is_name =
    let both : is_function file entry && is_utf8 (name_of file strings entry) ≡ true = rw (function, text) refl in
    rw both (λ i. record { value = is_value i; size = is_size i; name = is_name i } ∷ [])

pub no_symbol :
    (file strings : List ℕ) (entry : ℕ) → is_function file entry ≡ true → is_utf8 (name_of file strings entry) ≡ false → [] ≡ symbol_at file strings entry
no_symbol file strings entry function text =
    let both : is_function file entry && is_utf8 (name_of file strings entry) ≡ false = rw (function, text) refl in
    rw both refl
