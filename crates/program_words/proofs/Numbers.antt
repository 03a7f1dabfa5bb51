-- What `get_one` reads of a number.
use Rattle.std.proofs.Common.{◌≡◌, ℕ, ℤ, List, Option, Some, None, ap, refl}
use Rattle.std.specs.Prelude.{IfSome, Result, Ok, Err, option_map}
use Rattle.std.specs.Int.{w64}
use Rattle.std.specs.Str.Parse.{ParsesSigned, ParsesUnsigned, digits_value, signed_digits_value, without_leading_plus}
use Rattle.clap.specs.Matches.{ReadsOne}
use Rattle.clap.specs.Words.{Text}
use Rattle.program_words.specs.Fits.{IsNumber, IsSignedNumber}

module _ (E : Type 0) (G : List ℕ → Result ℕ E → Type 0) (parses : (t : Text) (x : Result ℕ E) → G t x → ParsesUnsigned 64 10 t x) where
  read_at : (t : Text) (r : Option ℕ) → IsNumber t → ReadsOne G t r → r ≡ Some (digits_value 10 (without_leading_plus t))
  read_at t (Some n) number reads = ap Some (parses t (Ok n) reads).1
  read_at t None number reads = absurd (parses t (Err reads.0) reads.1 number)

  -- the number of a text that is one, and none where there is no text
  pub number_read : (o : Option Text) (r : Option ℕ) → IfSome o IsNumber → (o ≡ None → r ≡ None) → ((t : Text) → o ≡ Some t → ReadsOne G t r)
      → r ≡ option_map (λ t. digits_value 10 (without_leading_plus t)) o
  number_read None r number none reads = none refl
  number_read (Some t) r number none reads = read_at t r number (reads t refl)

-- the same of a number that may be negative
module _ (E : Type 0) (G : List ℕ → Result ℤ E → Type 0) (parses : (t : Text) (x : Result ℤ E) → G t x → ParsesSigned w64 10 t x) where
  signed_at : (t : Text) (r : Option ℤ) → IsSignedNumber t → ReadsOne G t r → r ≡ Some (signed_digits_value 10 t)
  signed_at t (Some n) number reads = ap Some (parses t (Ok n) reads).1
  signed_at t None number reads = absurd (parses t (Err reads.0) reads.1 number)

  pub signed_read : (o : Option Text) (r : Option ℤ) → IfSome o IsSignedNumber → (o ≡ None → r ≡ None) → ((t : Text) → o ≡ Some t → ReadsOne G t r)
      → r ≡ option_map (signed_digits_value 10) o
  signed_read None r number none reads = none refl
  signed_read (Some t) r number none reads = signed_at t r number (reads t refl)
