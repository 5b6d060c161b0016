-- A coloured unit of naive codes is one that linking takes.
use Rattle.std.proofs.Common.{◌≡◌, ℕ, ◌+◌, ◌<◌, ◌≤◌, List, [], ◌∷◌, length, map, Some, refl, sym, ap, ◌∙◌, subst, arith}
use Rattle.std.specs.Prelude.{slice_get, All}
use Rattle.std.specs.List.{AllZip}
use Rattle.std.proofs.lemmas.Slice.Zip.{AllZip-long}
use Rattle.std.proofs.lemmas.Option.{same_Some}
use Rattle.md_rows.specs.declared.description.RawDescription.{RawDescription}
use Rattle.md_shapes.specs.Shapes.{Frame}
use Rattle.md_shapes.specs.Drawings.{frame_of}
use Rattle.md_covers.specs.Covers.{frame_in}
use Rattle.md_check.specs.Checking.{IsChecked}
use Rattle.c_tree.specs.declared.typed.Typed.{Typed}
use Rattle.c_limits.specs.Limits.{limit_faults}
use Rattle.asm_program.specs.Rules.{instruction_limit}
use Rattle.temp_machine.specs.Routines.{Target}
use Rattle.temp_machine.specs.Units.{IsImage}
use Rattle.temp_code.specs.declared.code.Transfer.{Transfer}
use Rattle.temp_code.specs.declared.code.End.TheVariants.{Call}
use Rattle.temp_code.specs.declared.code.Block.{Block}
use Rattle.temp_code.specs.declared.code.Code.{Code}
use Rattle.temp_code.specs.declared.code.Unit.{Unit as Program}
use Rattle.temp_code.specs.Realised.{AreRealised}
use Rattle.temp_code.specs.Routines.{block_of, routine_of, image_of, number_in, main_name}
use Rattle.temp_shapes.specs.declared.rows.ShapeRows.{ShapeRows}
use Rattle.temp_laws.specs.Targets.{target_of}
use Rattle.color_transfer.specs.Code.{IsColoredBlock}
use Rattle.color_steps.specs.Sizes.{IsSmall, ColoredIsSmall}
use Rattle.color_image.specs.Laws.{ColoredIsImage}
use Rattle.link_code.specs.Linked.{program}
use Rattle.link_code.specs.Runs.{Stands}
use Rattle.link_lines.specs.Glue.{job_of}
use Rattle.row_links.specs.Jobs.{IsCallOf, IsLinkedCode}
use Rattle.link_runs.specs.Sizes.{rooms, RoomsAreEnough}
use Rattle.link_runs.specs.Units.{IsUnitOf}
use Rattle.frame_link.specs.Linked.{IsLinkableUnit}
use Rattle.reg_color.specs.Codes.{HasSameCall}
use Rattle.color_units.specs.Units.{IsColoredBySome, IsColoredUnit}
use Rattle.naive_code.specs.Functions.{numbers_from}
use Rattle.naive_builder.specs.Appending.{with_function}
use Rattle.naive_units.specs.Units.{IsGoodCode}
use Rattle.naive_expand.specs.Units.{IsNaiveCode}
use Rattle.pass_driver.specs.Units.{UnitsAreLinkable, ProgramsAreShort}
use Rattle.pass_driver.proofs.Lists.{all_both, all_by_zip, zip_by, old_at}
use Rattle.pass_driver.proofs.Codes.{end_made}
use Rattle.pass_driver.proofs.Keeping.{Cited, at, colors, seats, live, is_colored}
use Rattle.pass_driver.proofs.Numbers.{numbers_of, same_numbers, differ, stands, below, stands_in}
use Rattle.pass_driver.proofs.Rooms.{light, room_in, within_limit}

map_length : {A B : Type 0} (f : A → B) (xs : List A) → length (map f xs) ≡ length xs
map_length f [] = refl
map_length f (x ∷ xs) = let k = map_length f xs in omega (arith, k)

module _ (laws : Cited) (w : ℕ) (d : RawDescription) (t : Typed) (u v : Program) (checked : IsChecked w d) (n : IsNaiveCode d t u) (colored : IsColoredUnit d n.frame u v) where
  abbrev machine : Target
  machine = target_of d n.frame []

  abbrev count : ℕ
  count = length t.functions

  -- ---- codes

  abbrev IsOld : Code → Type 0
  IsOld b = IsGoodCode [] d n.frame count b × AreRealised d b

  old_codes : All IsOld u.codes
  old_codes = all_both (IsGoodCode [] d n.frame count) (AreRealised d) u.codes n.good.codes n.realised

  numbers_are : numbers_of v.codes ≡ numbers_from 0 count
  numbers_are = same_numbers d machine u.codes v.codes colored.codes ∙ n.numbers

  has_block : (b c : Code) → IsOld b → IsColoredBySome d machine b c → 0 < length c.blocks
  has_block b c old h =
      let k = AllZip-long (IsColoredBlock machine (routine_of b) h.seats) (routine_of b).blocks (routine_of c).blocks h.code.routine.blocks in
      let l = map_length block_of c.blocks in
      let m = old.0.sound.whole.has_block in
      omega (arith, k, l, m)

  there : (f : ℕ) → f < count → Stands f (numbers_of v.codes)
  there f l = subst (Stands f) (sym numbers_are) (stands 0 count f (omega arith) (omega (arith, l)))

  call_is : (b c : Code) → IsOld b → IsColoredBySome d machine b c → (k : ℕ) (x : Block) (s : Transfer) → slice_get c.blocks k ≡ Some x → x.end ≡ Call s
      → IsCallOf d n.frame (numbers_of v.codes) s
  call_is b c old h k x s has is =
      let y = old_at HasSameCall b.blocks c.blocks k x h.code.calls has in
      call_by b old k y.0 s y.1 ((y.2 s).0 is)
    where
      call_by : (b : Code) → IsOld b → (k : ℕ) (y : Block) (s : Transfer) → slice_get b.blocks k ≡ Some y → y.end ≡ Call s → IsCallOf d n.frame (numbers_of v.codes) s
      call_by b old k y s has is =
          let z = end_made laws.codes w d n.frame count checked n.fixed b old.0 old.1 k y (Call s) has is in
          record { callee = z.0; there = there z.0 z.1; at = with_function z.0; label = refl; operands = z.2.operands; of_shape = z.2.transfer }

  linked_code : (b c : Code) → IsOld b → IsColoredBySome d machine b c → IsLinkedCode d n.frame (numbers_of v.codes) c
  linked_code b c old h = record {
    has_block = has_block b c old h;
    realised = h.code.realised;
    plain = h.code.routine.plain;
    calls = call_is b c old h;
  }

  each : (P : Code → Type 0) → ((b c : Code) → IsOld b → IsColoredBySome d machine b c → P c) → All P v.codes
  each P f = all_by_zip IsOld (IsColoredBySome d machine) P f u.codes v.codes old_codes colored.codes

  -- ---- names

  functions_named : length v.names.functions ≡ count
  functions_named = ap (λ names. length names.functions) colored.names ∙ (ap length n.functions ∙ map_length (λ f. f.name) t.functions)

  objects_named : length v.names.objects ≡ length t.statics
  objects_named = ap (λ names. length names.objects) colored.names ∙ (ap length n.objects ∙ map_length (λ s. s.object.name) t.statics)

  module _ (images : ColoredIsImage) (room : ℕ) (within : limit_faults [] d.word room t ≡ []) where
    image : IsImage machine (image_of v)
    image =
        (images machine (image_of u) (image_of v) (colors laws w d n.frame count checked n.fixed u v n.good.image n.good.codes n.realised colored)
        (seats laws w d n.frame count checked n.fixed u v n.good.image n.good.codes n.realised colored)
        (live laws w d n.frame count checked n.fixed u v n.good.image n.good.codes n.realised colored)
        (is_colored laws w d n.frame count checked n.fixed u v n.good.image n.good.codes n.realised colored)
        (λ f. room_in d n.frame t.functions u.codes f n.good.weights (light d.word room t within))
        (λ f. (at laws w d n.frame count checked n.fixed u v n.good.image n.good.codes n.realised colored f).straight)).image

    linkable : IsLinkableUnit d n.frame v
    linkable = record {
      image = image;
      different = differ v.codes count numbers_are;
      has_blocks = each (λ c. 0 < length c.blocks) has_block;
      realised = each (AreRealised d) (λ b c old h. h.code.realised);
      main = stands_in v.codes (number_in v.names.functions main_name) image.main;
      functions = subst (λ ns. All (λ f. f < length v.names.functions) ns) (sym numbers_are) (below 0 count (length v.names.functions) (let k = functions_named in omega (arith, k)));
      addresses = ap length colored.symbols ∙ (n.addresses ∙ sym objects_named);
    }

    unit : IsUnitOf d n.frame v
    unit = record { image = image; codes = each (IsLinkedCode d n.frame (numbers_of v.codes)) linked_code }

  -- ---- the program

  module _ (smalls : ColoredIsSmall) (enough : RoomsAreEnough) where
    all_small : AllZip (λ b c. IsSmall (routine_of b) (routine_of c)) u.codes v.codes
    all_small = zip_by IsOld (IsColoredBySome d machine) (λ b c. IsSmall (routine_of b) (routine_of c))
        (λ b c old h. smalls machine h.seats (routine_of b) (routine_of c) h.code.routine) u.codes v.codes old_codes colored.codes

    short : (room : ℕ) (rows : ShapeRows) → limit_faults [] d.word room t ≡ [] → frame_in d ≡ Some (frame_of d.word rows.frame)
        → length (program (job_of d rows v)) ≤ instruction_limit d.word
    short room rows within is =
        within_limit d n.frame d.word room t u.codes (length (program (job_of d rows v))) within n.good.weights
        (subst (λ (m : Frame). length (program (job_of d rows v)) ≤ 3 + rooms (target_of d m []) u.codes) (same_Some (frame_of d.word rows.frame) n.frame (sym is ∙ n.fixed))
        (enough d rows u.codes v (differ v.codes count numbers_are) all_small))

pub units_are_linkable : Cited → ColoredIsImage → UnitsAreLinkable
units_are_linkable laws images w room d t u v checked n within colored = record {
  linkable = linkable laws w d t u v checked n colored images room within;
  unit = unit laws w d t u v checked n colored images room within;
}

pub programs_are_short : Cited → ColoredIsSmall → RoomsAreEnough → ProgramsAreShort
programs_are_short laws smalls enough w room d t u v rows checked n within colored table =
    short laws w d t u v checked n colored smalls enough room rows within table.frame
