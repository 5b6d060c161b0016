-- What operations append are transfers of shapes.
use Rattle.std.proofs.Common.{ℕ, List, [], ◌∷◌, ◌++◌, refl, sym, subst}
use Rattle.std.specs.Prelude.{length, All}
use Rattle.std.specs.List.{AllByRecursion}
use Rattle.std.proofs.lemmas.List.Elements.{All-from_recursion}
use Rattle.std.proofs.lemmas.Option.{slice_get_within}
use Rattle.md_rows.specs.declared.description.RawDescription.{RawDescription}
use Rattle.md_shapes.specs.declared.patterns.Pattern.TheVariants as shape
use Rattle.md_shapes.specs.Shapes.{Frame as Fixed}
use Rattle.temp_code.specs.declared.code.Transfer.{Transfer}
use Rattle.temp_code.specs.declared.code.End.{End}
use Rattle.temp_code.specs.declared.code.Block.{Block}
use Rattle.temp_code.specs.declared.code.Code.{Code}
use Rattle.c_tree.specs.declared.typed.Typed.{Typed}
use Rattle.naive_code.specs.Operations.{Stop, Op}
use Rattle.naive_run.specs.Standing.{Shaped, shaped, on_two_to}
use Rattle.naive_builder.specs.Appending.{Emitted, begun, AllMade, IsEnd, falls, jumps, branches, branches_by_flag, calls, leaves, AppendsOne, puts, closes, Appends, nothing, one_more}
use Rattle.naive_forms.specs.Operations.{StopGoes, Goes}
use Rattle.naive_forms.specs.Codes.{IsBuilt}
use Rattle.naive_units.specs.Transfers.{IsMadeInside, directly, by_flag, IsMadeEnd, IsMadeBlock}

append : {A : Type 0} (P : A → Type 0) (xs ys : List A) → AllByRecursion P xs → AllByRecursion P ys → AllByRecursion P (xs ++ ys)
append P [] ys h k = k
append P (x ∷ xs) ys h k = (h.0, append P xs ys h.1 k)

module _ (d : RawDescription) (m : Fixed) (source : Typed) (labels : ℕ → Type 0) (most : ℕ) where
  abbrev count : ℕ
  count = length source.functions

  abbrev Inside : List Transfer → Type 0
  Inside ts = AllByRecursion (IsMadeInside d m) ts

  abbrev Blocks : List Block → Type 0
  Blocks bs = AllByRecursion (IsMadeBlock d m count) bs

  record Built (s : Emitted) : Type 0 where
    blocks : Blocks s.blocks
    body : Inside s.body

  made_inside : (way : List Shaped) (ts : List Transfer) → AllMade d m way ts → Inside ts
  made_inside [] [] h = tt
  made_inside (s ∷ way) (t ∷ ts) h = (record { shape = s; inside = h.0; made = h.1 }, made_inside way ts h.2)
  made_inside [] (t ∷ ts) h = absurd h
  made_inside (s ∷ way) [] h = absurd h

  -- an end, with the last transfers of the body that belong to it
  end_made : (stop : Stop) (ts : List Transfer) (e : End) → StopGoes source labels most stop → IsEnd d m stop ts e → Inside ts × IsMadeEnd d m count e
  end_made _ _ _ goes falls = (tt, tt)
  end_made _ _ _ goes leaves = (tt, tt)
  end_made _ _ _ goes (jumps l t h) = (tt, (l, h))
  end_made _ _ _ goes (branches r a b l t h) = (tt, directly r a b l t h)
  end_made _ _ _ goes (branches_by_flag r a b l j compare t g h) =
      ((record { shape = shaped (shape.Compare j) (on_two_to a b l); inside = refl; made = g }, tt), by_flag r a b l j t h)
  end_made _ _ _ goes (calls f t h) = (tt, (f, slice_get_within source.functions f goes.0 goes.1, h))

  one_built : (s t : Emitted) (o : Op) → AppendsOne d m s o t → Goes source labels most o → Built s → Built t
  one_built _ _ _ (puts s o way ts has made) goes x = record {
    blocks = x.blocks;
    body = append (IsMadeInside d m) s.body ts x.body (made_inside way ts made);
  }
  one_built _ _ _ (closes s stop l ts e h) goes x =
      let y = end_made stop ts e goes h in
      let body = append (IsMadeInside d m) s.body ts x.body y.0 in
      record {
        blocks = append (IsMadeBlock d m count) s.blocks _ x.blocks (record { body = All-from_recursion (IsMadeInside d m) (s.body ++ ts) body; end = y.1 }, tt);
        body = tt;
      }

  all_built : (s t : Emitted) (os : List Op) → Appends d m s os t → AllByRecursion (Goes source labels most) os → Built s → Built t
  all_built _ _ _ (nothing s) goes x = x
  all_built _ _ _ (one_more s t u o os one rest) goes x = all_built t u os rest goes.1 (one_built s t o one goes.0 x)

  pub blocks_made : (label : ℕ) (os : List Op) (c : Code) → AllByRecursion (Goes source labels most) os → IsBuilt d m label os c
      → All (IsMadeBlock d m count) c.blocks
  blocks_made label os c goes h =
      let s = h.emitted in
      let x = all_built (begun label) s os h.appends goes (record { blocks = tt; body = tt }) in
      All-from_recursion (IsMadeBlock d m count) c.blocks
      (subst Blocks (sym h.blocks)
      (append (IsMadeBlock d m count) s.blocks _ x.blocks (record { body = All-from_recursion (IsMadeInside d m) s.body x.body; end = tt }, tt)))
