-- The fields of a point, as they are read.
use Rattle.std.specs.Prelude.{◌≡◌, ℕ, List, Option, Some, None}
use Rattle.toml.specs.Data.{Members}
use Rattle.rescue_config.specs.declared.target.Target.{Target}
use Rattle.rescue_config.specs.declared.target.Target.TheVariants.{Function, Entry}
use Rattle.rescue_config.specs.declared.version.Version.{Version}
use Rattle.rescue_config.specs.declared.rescues.Rescues.{Rescues}
use Rattle.rescue_config.specs.declared.fields.Fields.{Fields}
use Rattle.rescue_config.specs.Fields.{function_of, address_of, codes_of, limit_of, kind_of}

abbrev pub target_function : Target → Option (List ℕ)
target_function (Function name) = Some name.now
target_function (Entry address) = None

abbrev pub target_address : Target → Option ℕ
target_address (Function name) = None
target_address (Entry address) = Some address

-- a target is what the table of a point says
pub record IsTarget (point : Members) (target : Target) : Type 0 where
  pub function : function_of point ≡ target_function target
  pub address : address_of point ≡ target_address target

-- what a point says of rescues is what its table says
pub record AreRescues (point : Members) (rescues : Rescues) : Type 0 where
  pub codes : rescues.codes ≡ codes_of point
  pub limit : rescues.limit ≡ limit_of point

-- the fields are what the table of a point says
pub record AreFields (version : Version) (point : Members) (fields : Fields) : Type 0 where
  pub target : IsTarget point fields.target
  pub rescues : AreRescues point fields.rescues
  pub kind : fields.kind ≡ kind_of version point
