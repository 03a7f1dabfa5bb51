-- What rescue files of each version give, read from their text: each rule that came with versions 2
-- and 3 broken first, and points with codes by fault, a limit and the kind loose.
use Rattle.std.proofs.Common.{◌≡◌, ℕ, List, [], ◌∷◌, Some, None, refl}
use Rattle.std.specs.Prelude.{Result, Ok, Err, codes}
use Rattle.std.specs.Str.{is_utf8, chars}
use Rattle.guest_words.specs.declared.fault.FaultName.{FaultName}
use Rattle.guest_words.specs.declared.fault.FaultName.TheVariants.{FetchRights, FetchMisaligned, Illegal, LoadRights, StoreRights, AtomicMisaligned, Breakpoint, BlockedInPoint}
use Rattle.guest_words.specs.declared.image.Span.{Span}
use Rattle.guest_words.specs.declared.point.Kind.TheVariants.{Blocking, Loose}
use Rattle.guest_words.specs.declared.point.Point.{Point}
use Rattle.guest_words.specs.declared.point.Ret.{Ret}
use Rattle.guest_words.specs.declared.point.Ret.TheVariants.{Code}
use Rattle.guest_words.specs.Points.{code_in}
use Rattle.toml.specs.Data.{Members}
use Rattle.toml.proofs.OnLiterals.{toml_on_literals}
use Rattle.rescue_config.specs.declared.point_fault.PointFault.TheVariants.{UnknownKey, BadVersion, BadCodes, BadLimit, BadKind, Mixed}
use Rattle.rescue_config.specs.Document.{Broken, points_rules, points_in, points_of}
use Rattle.rescue_config.specs.Fields.{code_for, codes_by}
use Rattle.rescue_config.specs.PointRules.{point_rules}

-- the points of a text, for a program whose one executable load has 256 bytes at 0x10000
abbrev text : List Span
text = record { from = 0x10000; size = 256 } ∷ []

abbrev read : List ℕ → Result (List Point) Broken
read file = points_of file [] text

pub version_four : read (codes "version=4") ≡ Err (BadVersion, None)
unfolding is_utf8 chars toml_on_literals points_of points_rules points_in point_rules
version_four = refl

-- a first version has no limits
pub limit_in_version_one : read (codes "point=[{entry=65560,returns=-1,limit=1}]") ≡ Err (UnknownKey, Some 0)
unfolding is_utf8 chars toml_on_literals points_of points_rules points_in point_rules
limit_in_version_one = refl

pub limit_of_none : read (codes "version=2\npoint=[{entry=65560,returns=-1,limit=0}]") ≡ Err (BadLimit, Some 0)
unfolding is_utf8 chars toml_on_literals points_of points_rules points_in point_rules
limit_of_none = refl

pub code_of_no_fault : read (codes "version=2\npoint=[{entry=65560,returns=-1,codes={load=1}}]") ≡ Err (BadCodes, Some 0)
unfolding is_utf8 chars toml_on_literals points_of points_rules points_in point_rules
code_of_no_fault = refl

pub loose_in_version_two : read (codes "version=2\npoint=[{entry=65560,returns=-1,kind='loose'}]") ≡ Err (BadKind, Some 0)
unfolding is_utf8 chars toml_on_literals points_of points_rules points_in point_rules
loose_in_version_two = refl

pub blocking_after_loose : read (codes "version=3\npoint=[{entry=65560,returns=0,kind='loose'},{entry=65564,returns=0}]") ≡ Err (Mixed 0, Some 1)
unfolding is_utf8 chars toml_on_literals points_of points_rules points_in point_rules
blocking_after_loose = refl

-- the word of -2, and of -4
abbrev minus_two : Ret
minus_two = Code 0xfffffffffffffffe

abbrev minus_four : Ret
minus_four = Code 0xfffffffffffffffc

pub code_by_fault : read (codes "version=2\npoint=[{entry=65560,returns=-2,codes={load-rights=-4}}]")
    ≡ Ok (record { entry = 0x10018; codes = minus_two ∷ minus_two ∷ minus_two ∷ minus_four ∷ minus_two ∷ minus_two ∷ minus_two ∷ minus_two ∷ []; kind = Blocking; left = None } ∷ [])
unfolding is_utf8 chars toml_on_literals points_of points_rules points_in point_rules
code_by_fault = refl

pub loose_with_limit : read (codes "version=3\npoint=[{entry=65560,returns=-2,kind='loose',limit=1}]")
    ≡ Ok (record { entry = 0x10018; codes = minus_two ∷ minus_two ∷ minus_two ∷ minus_two ∷ minus_two ∷ minus_two ∷ minus_two ∷ minus_two ∷ []; kind = Loose; left = Some 1 } ∷ [])
unfolding is_utf8 chars toml_on_literals points_of points_rules points_in point_rules
loose_with_limit = refl

-- the codes stand in the order in which a point is asked for them
pub code_at_its_place : (values : Members) (ret : Ret) (point : Point) (fault : FaultName) → point.codes ≡ codes_by values ret → code_in point fault ≡ code_for values ret fault
code_at_its_place values ret point FetchRights is = rw is refl
code_at_its_place values ret point FetchMisaligned is = rw is refl
code_at_its_place values ret point Illegal is = rw is refl
code_at_its_place values ret point LoadRights is = rw is refl
code_at_its_place values ret point StoreRights is = rw is refl
code_at_its_place values ret point AtomicMisaligned is = rw is refl
code_at_its_place values ret point Breakpoint is = rw is refl
code_at_its_place values ret point BlockedInPoint is = rw is refl
