-- The data of a text.
use Rattle.std.specs.Prelude.{◌≡◌, ℕ, ◌<◌, ◌≤◌, ◌^◌, ℤ, List, [], ◌++◌, length, map}
use Rattle.md_rows.specs.declared.description.RawDescription.{RawDescription}
use Rattle.asm_program.specs.declared.places.Part.TheVariants.{InData}
use Rattle.asm_program.specs.TextLines.{Said}
use Rattle.asm_program.specs.Places.{Position, magnitude}
use Rattle.asm_program.specs.Rules.{AreSaid, Walks, word_bytes}
use Rattle.asm_program.specs.Programs.{bytes_from, objects_from, residue}
use Rattle.asm_labels.specs.declared.saying.Said.{Said as Held}
use Rattle.asm_labels.specs.declared.saying.Said.TheVariants as held

-- a text of data lines that keep the rules, from a place of the data part on
pub record AreData (d : RawDescription) (text : List ℕ) (lines : List Said) (bytes : List ℕ) : Type 0 where
  pub all : List Said
  pub position : Position
  pub last : Position
  pub said : AreSaid text lines
  pub walks : Walks d all position lines last
  pub part : position.part ≡ InData
  pub reach : position.reach ≡ length bytes

abbrev pub addresses : RawDescription → List ℕ → List Said → List ℕ
addresses d bytes lines = map (λ o. o.1) (objects_from d.base (word_bytes d) bytes lines)

-- what is left of the data adds what the whole has more
pub record AreDataLeft (d : RawDescription) (lines : List Said) (rest : List ℕ) (symbols bytes : List ℕ) : Type 0 where
  pub left : List Said
  pub now : AreData d rest left bytes
  pub bytes_are : bytes_from (word_bytes d) bytes left ≡ bytes_from (word_bytes d) [] lines
  pub symbols_are : symbols ++ addresses d bytes left ≡ addresses d [] lines

-- a number that has a byte
pub record HasByte (z : ℤ) : Type 0 where
  pub size : magnitude z ≤ 256
  pub byte : residue 256 z < 256

-- the number of a directive is in its range, on words of so many bytes
abbrev pub HasNumber : ℕ → Held → Type 0
HasNumber size (held.Word z) = magnitude z ≤ 256 ^ size
HasNumber size (held.Byte z) = HasByte z
HasNumber size (held.Space z) = magnitude z < 4294967296
HasNumber size _ = Unit {0}
