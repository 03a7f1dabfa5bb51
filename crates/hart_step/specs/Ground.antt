-- What a hart acts on.
use Rattle.std.specs.Prelude.{List}
use Rattle.guest_words.specs.declared.point.Point.{Point}
use Rattle.guest_memory.specs.Kept.{AddressSpace}

pub record Ground : Type 0 where
  pub memory : AddressSpace
  pub points : List Point
