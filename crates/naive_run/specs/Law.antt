-- Naive code does what its source does.
use Rattle.std.specs.Prelude.{true, ◌≡◌, ◌≤◌, ◌<◌, ℕ, ◌+◌, ◌*◌, ◌/◌, ◌%◌, ◌^◌, List, length, slice_get, slice_index, Option, Some, None, All}
use Rattle.behaviour.specs.Run.{Run, AreBytes, Same}
use Rattle.md_shapes.specs.Shapes.{Frame as Fixed}
use Rattle.c_tree.specs.declared.types.CType.{CType}
use Rattle.c_tree.specs.declared.typed.Object.{Object}
use Rattle.c_tree.specs.declared.typed.Function.{Function}
use Rattle.c_tree.specs.declared.typed.Static.{Static}
use Rattle.c_tree.specs.declared.typed.Typed.{Typed}
use Rattle.c_limits.specs.Frames.{frame_bytes, object_bytes, element_bytes}
use Rattle.c_meaning.specs.Settings.{setting_of}
use Rattle.c_meaning.specs.Run.{source_run, main_in, listed, IsClean}
use Rattle.temp_machine.specs.Routines.{Routine, Image, Target, pushed, Returns}
use Rattle.rtl_effect.specs.Views.{word_at}
use Rattle.temp_machine.specs.Machine.{first_byte, temporary_run}
use Rattle.temp_machine.specs.Live.{Place, End, item_at}
use Rattle.temp_machine.specs.Units.{IsTarget}
use Rattle.naive_code.specs.Functions.{function_ops, function_homes, slots_of, first_home_of}
use Rattle.naive_run.specs.Standing.{Stands}
use Rattle.naive_run.specs.Sound.{is_sound}

-- what shapes are fixed by is what the machine has
pub record IsFixedBy (t : Target) (m : Fixed) : Type 0 where
  pub bits : m.bits ≡ t.word
  pub stack : m.stack ≡ t.sp
  pub result : m.result ≡ t.result
  pub link : m.link ≡ t.link
  pub memory : m.memory ≡ t.memory

-- the routine is the naive code of the function, whose first block has this label
pub record Expands (t : Target) (m : Fixed) (source : Typed) (f : Function) (label : ℕ) (r : Routine) : Type 0 where
  pub params : r.params ≡ length f.params
  pub frame : r.frame ≡ frame_bytes t.kept t.word f
  pub first_home : r.first_home ≡ first_home_of t.kept t.word f
  pub slots : r.slots ≡ slots_of f
  pub homes : r.homes ≡ function_homes t.kept t.word source f
  pub last : Place
  pub stands : Stands t.word m r (function_ops t.kept t.word (pushed t) source f label) (record { block = 0; at = 0 }) last
  pub returns : item_at r last ≡ Some (End Returns)

-- an element of an array of a character type is a byte, and everything else a word
abbrev pub cell_bytes_by : ℕ → CType → Option ℕ → ℕ
cell_bytes_by w t (Some n) = element_bytes w t
cell_bytes_by w t None = w / 8

abbrev pub cell_bytes : ℕ → Object → ℕ
cell_bytes w o = cell_bytes_by w o.element o.length

abbrev pub count_by : Option ℕ → ℕ
count_by None = 1
count_by (Some n) = n

abbrev pub element_count : Object → ℕ
element_count o = count_by o.length

-- the object of the file stands at its address, in words, and holds its values when the program begins
pub record HoldsStatic (t : Target) (u : Image) (x : ℕ) (s : Static) : Type 0 where
  pub from : t.base ≤ slice_index u.symbols x
  pub to : slice_index u.symbols x + object_bytes t.word s.object ≤ t.base + length u.bytes
  pub aligned : slice_index u.symbols x % (t.word / 8) ≡ 0
  pub values : (i v : ℕ) → i < element_count s.object → listed t.word (Some s) i ≡ Some v
      → word_at (first_byte t u) (slice_index u.symbols x + cell_bytes t.word s.object * i) (cell_bytes t.word s.object) ≡ Some (v % 256 ^ cell_bytes t.word s.object)

-- each function has its naive code, and each object its bytes, behind those of the objects before it
pub record IsUnitOf (t : Target) (m : Fixed) (source : Typed) (u : Image) : Type 0 where
  pub main : u.main ≡ main_in source.functions
  pub functions : (g : ℕ) (f : Function) → slice_get source.functions g ≡ Some f → (label : ℕ) × Expands t m source f label (u.routines g)
  pub statics : (x : ℕ) (s : Static) → slice_get source.statics x ≡ Some s → HoldsStatic t u x s
  pub apart : (x y : ℕ) (s r : Static) → x < y → slice_get source.statics x ≡ Some s → slice_get source.statics y ≡ Some r
      → slice_index u.symbols x + object_bytes t.word s.object ≤ slice_index u.symbols y

-- a machine, and the data are bytes below what its stack may take, at addresses that are words
pub record IsSoundTarget (t : Target) (u : Image) : Type 0 where
  pub target : IsTarget t
  pub bytes : All (λ b. b < 256) u.bytes
  pub symbols : All (λ a. a < 2 ^ t.word) u.symbols
  pub room : t.base + length u.bytes + t.stack ≤ t.memory

abbrev pub run_of : Target → Typed → List ℕ → Run
run_of t source input = source_run (setting_of t.kept t.word t.stack) source input

-- on each input of bytes on which nothing undefined is done, the naive code of a sound tree does what its source does
abbrev pub NaiveIsSame : Type 0
NaiveIsSame =
    (t : Target) (m : Fixed) (source : Typed) (u : Image) → IsFixedBy t m → IsSoundTarget t u → is_sound t.kept t.word source ≡ true → IsUnitOf t m source u
    → (input : List ℕ) → AreBytes input → IsClean (setting_of t.kept t.word t.stack) source input → Same (run_of t source input) (temporary_run t u input)
