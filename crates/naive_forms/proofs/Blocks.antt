-- The blocks of naive code: what operations append holds of each.
use Rattle.std.proofs.Common.{◌≡◌, ℕ, ◌<◌, List, ◌++◌, map, Some, sym, subst}
use Rattle.std.specs.List.{AllByRecursion}
use Rattle.md_rows.specs.declared.description.RawDescription.{RawDescription}
use Rattle.md_shapes.specs.Shapes.{Frame as Fixed}
use Rattle.md_covers.specs.Covers.{frame_in}
use Rattle.md_check.specs.Checking.{IsChecked}
use Rattle.temp_code.specs.declared.code.Transfer.{Transfer}
use Rattle.temp_code.specs.declared.code.Block.{Block}
use Rattle.temp_code.specs.declared.code.Code.{Code}
use Rattle.temp_code.specs.Routines.{block_of, routine_of}
use Rattle.c_tree.specs.declared.typed.Typed.{Typed}
use Rattle.naive_code.specs.Operations.{Op}
use Rattle.naive_builder.specs.Appending.{Emitted, begun, AppendsOne, puts, closes, Appends, nothing, one_more}
use Rattle.naive_forms.specs.Operations.{NamesBelow, Goes}
use Rattle.naive_forms.specs.Codes.{IsBuilt}
use Rattle.naive_forms.proofs.Tests.{mapped_append}
use Rattle.naive_forms.proofs.Transfers.{AreLaws, IsBody, IsFormed, AllBodies, bodies_of, way_plain, end_of}

module _ (laws : AreLaws) (w : ℕ) (d : RawDescription) (m : Fixed) (checked : IsChecked w d) (fixed : frame_in d ≡ Some m)
    (source : Typed) (labels : ℕ → Type 0) (most n : ℕ) (some : 0 < n) where
  abbrev pub AllFormed : List Block → Type 0
  AllFormed bs = AllByRecursion (IsFormed d m source labels most n) (map block_of bs)

  abbrev Bodies : List Transfer → Type 0
  Bodies ts = AllBodies laws w d m checked fixed source labels most n some ts

  record Built (s : Emitted) : Type 0 where
    blocks : AllFormed s.blocks
    body : Bodies s.body

  bodies_append : (xs ys : List Transfer) → Bodies xs → Bodies ys → Bodies (xs ++ ys)
  bodies_append = mapped_append (λ (t : Transfer). t.what) (IsBody d m source labels most n)

  blocks_append : (xs ys : List Block) → AllFormed xs → AllFormed ys → AllFormed (xs ++ ys)
  blocks_append = mapped_append block_of (IsFormed d m source labels most n)

  one_built : (s t : Emitted) (o : Op) → AppendsOne d m s o t → NamesBelow n o → Goes source labels most o → Built s → Built t
  one_built _ _ _ (puts s o way ts has made) names goes x = record {
    blocks = x.blocks;
    body = bodies_append s.body ts x.body
        (bodies_of laws w d m checked fixed source labels most n some way ts (way_plain laws w d m checked fixed source labels most n some d.word o way names goes has) made);
  }
  one_built _ _ _ (closes s stop l ts e h) names goes x =
      let y = end_of laws w d m checked fixed source labels most n some stop ts e s.body names goes h in
      record {
        blocks = blocks_append s.blocks _ x.blocks (record { body = bodies_append s.body ts x.body y.0; ends = y.1 }, tt);
        body = tt;
      }

  all_built : (s t : Emitted) (os : List Op) → Appends d m s os t → AllByRecursion (NamesBelow n) os → AllByRecursion (Goes source labels most) os → Built s → Built t
  all_built _ _ _ (nothing s) names goes x = x
  all_built _ _ _ (one_more s t u o os one rest) names goes x = all_built t u os rest names.1 goes.1 (one_built s t o one names.0 goes.0 x)

  pub blocks_formed : (label : ℕ) (os : List Op) (c : Code) → AllByRecursion (NamesBelow n) os → AllByRecursion (Goes source labels most) os → IsBuilt d m label os c
      → AllByRecursion (IsFormed d m source labels most n) (routine_of c).blocks
  blocks_formed label os c names goes h =
      let s = h.emitted in
      let x = all_built (begun label) s os h.appends names goes (record { blocks = tt; body = tt }) in
      subst AllFormed (sym h.blocks) (blocks_append s.blocks _ x.blocks (record { body = x.body; ends = tt }, tt))
