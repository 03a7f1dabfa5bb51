-- Acts of one hart in a row, with no other hart and no frame that closes between them.
use Rattle.std.specs.Prelude.{◌≡◌, ℕ, zero, suc, ◌-◌, ◌<◌, Bool, true, false, not, ◌&&◌, List, Option, Some, None}
use Rattle.guest_words.specs.declared.point.Point.{Point}
use Rattle.guest_words.specs.declared.hart.Hart.{Hart}
use Rattle.guest_words.specs.declared.hart.Frame.{Frame}
use Rattle.guest_words.specs.declared.act.Act.{Act}
use Rattle.guest_words.specs.declared.act.Act.TheVariants as act
use Rattle.guest_memory.specs.Kept.{AddressSpace}
use Rattle.guest_words.specs.Harts.{is_over}
use Rattle.guest_words.specs.HartAct.{hart_act}
use Rattle.hart_step.specs.InPlace.{hart_after, memory_after}

-- a hart alone with memory
pub record Lone : Type 0 where
  pub hart : Hart
  pub memory : AddressSpace

abbrev pub lone : Hart → AddressSpace → Lone
lone hart memory = record { hart = hart; memory = memory }

abbrev pub act_at : List Point → ℕ → Lone → Act
act_at points frames s = hart_act s.memory.space points frames s.hart

abbrev pub after_act : Act → Lone → Lone
after_act act s = record { hart = hart_after act s.hart; memory = memory_after act s.memory }

-- an act carries out an instruction
abbrev pub is_next : Act → Bool
is_next (act.Next hart write) = true
is_next _ = false

-- the hart and memory after so many acts, with so many frames open
unfoldable pub after_acts : List Point → ℕ → ℕ → Lone → Lone
after_acts points frames zero s = s
after_acts points frames (suc n) s =
    let before = after_acts points frames n s in after_act (act_at points frames before) before

-- so many acts in a row carry out an instruction
unfoldable pub all_go : List Point → ℕ → ℕ → Lone → Bool
all_go points frames zero s = true
all_go points frames (suc n) s =
    all_go points frames n s && is_next (act_at points frames (after_acts points frames n s))

-- the top frame, if there is one, closes
abbrev pub closes : Option Frame → Hart → Bool
closes None hart = false
closes (Some top) hart = is_over hart top

-- the top frame doesn't close at any of so many acts
unfoldable pub stays_open : List Point → ℕ → Option Frame → ℕ → Lone → Bool
stays_open points frames top zero s = true
stays_open points frames top (suc n) s =
    stays_open points frames top n s
    && not (closes top (after_acts points frames (suc n) s).hart)

-- the last of so many acts closes the top frame
pub record IsClosed (points : List Point) (frames : ℕ) (top : Option Frame) (start end : Lone)
    (count : ℕ) : Type 0 where
  pub some : 0 < count
  pub stays : stays_open points frames top (count - 1) start ≡ true
  pub over : closes top end.hart ≡ true

-- so many acts in a row: each carries out an instruction, and the top frame, if there is one, stays
-- open, but for the last act where it closes with it
pub record IsRow (points : List Point) (frames : ℕ) (top : Option Frame) (start end : Lone)
    (count : ℕ) (closed : Bool) : Type 0 where
  pub goes : all_go points frames count start ≡ true
  pub after : end ≡ after_acts points frames count start
  pub stays : closed ≡ false → stays_open points frames top count start ≡ true
  pub closes : closed ≡ true → IsClosed points frames top start end count
