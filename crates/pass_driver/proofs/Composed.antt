-- The laws of the passes, one behind the other.
use Rattle.std.proofs.Common.{◌≡◌, ℕ, ◌≤◌, List, [], ◌∷◌, length, map, refl, ap, arith}
use Rattle.behaviour.specs.Run.{Keep}
use Rattle.behaviour.specs.Laws.{KeepIsTransitive, KeepKeepsSame}
use Rattle.md_rows.specs.declared.description.RawDescription.{RawDescription}
use Rattle.md_check.specs.Checking.{IsChecked}
use Rattle.asm_program.specs.Programs.{Assembled}
use Rattle.asm_program.specs.Rules.{instruction_limit}
use Rattle.c_tree.specs.declared.typed.Typed.{Typed}
use Rattle.machine_run.specs.Machine.{machine_run}
use Rattle.rtl_machine.specs.Loading.{moves_of, code_of}
use Rattle.temp_machine.specs.Machine.{temporary_run}
use Rattle.temp_code.specs.declared.code.Unit.{Unit as Program}
use Rattle.temp_code.specs.Routines.{image_of}
use Rattle.link_runs.specs.Units.{LinkedUnitsKeep}
use Rattle.naive_expand.specs.Codes.{machine_of}
use Rattle.pass_driver.specs.Units.{UnitsAreKept, UnitsAreLinkable, ProgramsAreShort}
use Rattle.pass_driver.specs.Meaning.{IsCompiledBy, CompiledIsSame}

map_length : {A B : Type 0} (f : A → B) (xs : List A) → length (map f xs) ≡ length xs
map_length f [] = refl
map_length f (x ∷ xs) = let k = map_length f xs in omega (arith, k)

-- the laws that are cited
pub record AreLaws : Type 0 where
  pub kept : UnitsAreKept
  pub linkable : UnitsAreLinkable
  pub short : ProgramsAreShort
  pub linked : LinkedUnitsKeep
  pub transitive : KeepIsTransitive
  pub keeps : KeepKeepsSame

module _ (laws : AreLaws) (w : ℕ) (d : RawDescription) (t : Typed) (u v : Program) (p : Assembled) (checked : IsChecked w d) (h : IsCompiledBy d t u v p) where
  few : length p.lines ≤ instruction_limit d.word
  few =
      let k = ap length h.linked.lines in
      let l = map_length (moves_of d) p.lines in
      let m = laws.short w h.room d t u v h.linked.rows checked h.naive h.within h.colored h.linked.table in
      omega (arith, k, l, m)

  kept : Keep (machine_run (code_of d p)) (temporary_run (machine_of d h.naive.frame) (image_of u))
  kept =
      laws.transitive (temporary_run (machine_of d h.naive.frame) (image_of u)) (temporary_run (machine_of d h.naive.frame) (image_of v)) (machine_run (code_of d p))
      (laws.kept w d t u v checked h.naive h.colored)
      (laws.linked w d h.naive.frame h.linked.rows v p checked h.naive.fixed h.linked.table (laws.linkable w h.room d t u v checked h.naive h.within h.colored).unit
      (record { lines = h.linked.lines; labels = h.linked.labels; symbols = h.linked.symbols; bytes = h.linked.bytes }) few)

pub compiled_is_same : AreLaws → CompiledIsSame
compiled_is_same laws w d t u v p checked h input bytes clean =
    laws.keeps _ (temporary_run (machine_of d h.naive.frame) (image_of u)) (machine_run (code_of d p)) input bytes (h.naive.same input bytes clean)
    (kept laws w d t u v p checked h)
