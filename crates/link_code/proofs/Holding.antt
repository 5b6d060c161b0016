-- A view of the unit inside a body and the machine at the same place, and that a transfer keeps them together.
use Rattle.std.proofs.Common.{◌≡◌, ℕ, suc, ◌+◌, ◌-◌, ◌^◌, ◌<◌, ◌&&◌, Bool, true, false, cond, List, [], ◌∷◌, Option, Some, None, Ok, refl, sym, ap, ◌∙◌, subst}
use Rattle.std.specs.Prelude.{nat_le, nat_lt, slice_index}
use Rattle.rtl_tree.specs.Trees.{Tree, Number, Symbol, CodeLabel, Read, Load, Unary, Binary, NoPair, AnyNumber, AnyName}
use Rattle.rtl_tree.specs.Moves.{Goal, ToCell, ToMemory}
use Rattle.rtl_tree.specs.declared.cells.Cell.{Cell}
use Rattle.rtl_tree.specs.declared.cells.Cell.TheVariants.{Hard, Temp, Flag, Pc, Input, Output, Halt, Hole}
use Rattle.rtl_tree.specs.declared.cells.Lab.{Lab}
use Rattle.rtl_tree.specs.declared.cells.Lab.TheVariants.{Block, Function}
use Rattle.rtl_tree.specs.declared.expressions.BinOp.TheVariants.{When}
use Rattle.rtl_effect.specs.Views.{View}
use Rattle.rtl_effect.specs.Effects.{assigned_by, assigned, storing, takes, next_in, input_after, Patch, patch_of, patched, byte_of, cell_after, view_after}
use Rattle.rtl_effect.specs.Agree.{Tells, blank, word, Marks, AgreeBy, Aimed, TargetAims, JumpAims, GoalAims, AllAim}
use Rattle.rtl_effect.proofs.EffectGrowth.{Patches, neither, either, sight_after}
use Rattle.rtl_norm_value.proofs.WordViews.{AreBytes}
use Rattle.rtl_norm_value.specs.Effect.{IsSameView}
use Rattle.temp_machine.specs.Machine.{jump_target, position}
use Rattle.link_code.proofs.Memory.{true_false, false_true, inside_low, inside_high, patch_reached}
use Rattle.link_code.specs.Linked.{Transfer, Job, code, block_place}
use Rattle.link_code.proofs.Labels.{label_in}
use Rattle.link_code.proofs.Machine.{Mach, view_of, mach_with}
use Rattle.link_code.specs.Runs.{is_no_temporary, Stands, NoJump, NoJumps, IsOwn, JumpOwn, GoalOwn, JumpsOwn, IsPlain, IsLinkable}
use Rattle.link_code.proofs.Places.{label_own}
use Rattle.link_code.proofs.Wording.{Words, words_after}

abbrev pub plain_of : ℕ → List ℕ → Cell → Option ℕ
plain_of w input Pc = None
plain_of w input Input = Some (next_in w input)
plain_of w input _ = Some 0

-- neither a register nor a temporary
abbrev pub is_plain : Cell → Bool
is_plain (Hard n) = false
is_plain (Temp n) = false
is_plain c = true

pub none_assigned : (ms : Transfer) → NoJumps ms → assigned ms Pc ≡ None
none_assigned [] h = refl
none_assigned (m ∷ ms) h = by m.to m.value h.0 (none_assigned ms h.1)
  where
    by : (g : Goal) (t : Tree) → NoJump g → assigned ms Pc ≡ None → assigned_by g t Pc (assigned ms Pc) ≡ None
    by (ToCell Pc) t n e = absurd n
    by (ToCell (Hard k)) t n e = e
    by (ToCell (Temp k)) t n e = e
    by (ToCell (Flag k)) t n e = e
    by (ToCell Input) t n e = e
    by (ToCell Output) t n e = e
    by (ToCell Halt) t n e = e
    by (ToCell (Hole k)) t n e = e
    by (ToMemory d a) t n e = e

module _ (j : Job) (is : IsLinkable j) (f : ℕ) (mine : Stands f j.order) where
  -- what follows in the unit is the next place of the machine, and a label of the code is its block's place
  abbrev pub PlaceIs : ℕ → Option ℕ → Option ℕ → Type 0
  PlaceIs p None y = y ≡ Some (suc p)
  PlaceIs p (Some l) y = y ≡ Some (block_place j f (position (code j f).blocks l 0))

  module _ (reach0 : ℕ → Bool) (z0 : ℕ → Option ℕ) (base : ℕ) where
    pub record Held (v : View) (m : Mach) : Type 0 where
      pub regs : (n : ℕ) → Tells (v.cells (Hard n)) (m.regs n)
      pub flags : (n : ℕ) → Marks (v.flags n) (m.flags n)
      pub plain : (c : Cell) → is_plain c ≡ true → v.cells c ≡ plain_of j.t.word v.input c
      pub bytes : (a : ℕ) → Tells (v.bytes a) (m.bytes a)
      pub size : v.size ≡ j.t.memory
      pub symbols : (n : ℕ) → v.symbols n ≡ slice_index j.p.symbols n
      pub labels : (l : Lab) → v.labels l ≡ None
      pub targets : (l : Lab) → v.targets l ≡ jump_target l
      pub input : v.input ≡ m.input
      pub old_reach : (a : ℕ) → v.reach a ≡ reach0 a
      pub still : (a : ℕ) → reach0 a ≡ false → m.bytes a ≡ z0 a
      pub stack : m.regs j.t.sp ≡ Some base
      pub words : Words j is m

    -- a view that is equal where it counts serves as well
    pub held_same : (v x y : View) (q : ℕ) (out : List ℕ) → IsSameView x y → Held v (mach_with j x q out) → Held v (mach_with j y q out)
    held_same v x y q out s h = record {
      regs = λ n. subst (Tells (v.cells (Hard n))) (s.cells (Hard n)) (h.regs n);
      flags = λ n. subst (Marks (v.flags n)) (s.flags n) (h.flags n);
      plain = h.plain;
      bytes = λ a. subst (Tells (v.bytes a)) (s.bytes a) (h.bytes a);
      size = h.size;
      symbols = h.symbols;
      labels = h.labels;
      targets = h.targets;
      input = h.input ∙ s.input;
      old_reach = h.old_reach;
      still = λ a e. sym (s.bytes a) ∙ h.still a e;
      stack = sym (s.cells (Hard j.t.sp)) ∙ h.stack;
      words = record {
        regs = λ n x e. h.words.regs n x (s.cells (Hard n) ∙ e);
        bytes = λ a x e. h.words.bytes a x (s.bytes a ∙ e);
        fed = subst AreBytes s.input h.words.fed;
      };
    }

    module _ (v : View) (m : Mach) (h : Held v m) where
      unset : (x y : Option ℕ) → x ≡ None → Tells x y
      unset x y e = subst (λ k. Tells k y) (sym e) (blank y)

      set_alike : (x y : Option ℕ) (n : ℕ) → x ≡ Some n → y ≡ Some n → Tells x y
      set_alike x y n e g = subst (λ k. Tells k y) (sym e) (subst (Tells (Some n)) (sym g) (word n))

      cells_tell : (c : Cell) → is_no_temporary c ≡ true → Tells (v.cells c) ((view_of j m).cells c)
      cells_tell (Hard n) on = h.regs n
      cells_tell (Temp n) on = false_true on
      cells_tell Pc on = unset _ _ (h.plain Pc refl)
      cells_tell Input on = set_alike _ _ (next_in j.t.word v.input) (h.plain Input refl) (ap (λ i. Some (next_in j.t.word i)) (sym h.input))
      cells_tell (Flag n) on = set_alike _ _ 0 (h.plain (Flag n) refl) refl
      cells_tell Output on = set_alike _ _ 0 (h.plain Output refl) refl
      cells_tell Halt on = set_alike _ _ 0 (h.plain Halt refl) refl
      cells_tell (Hole n) on = set_alike _ _ 0 (h.plain (Hole n) refl) refl

      pub agrees : AgreeBy (PlaceIs m.place) is_no_temporary v (view_of j m)
      agrees = record {
        sight = record {
          cells = cells_tell;
          flags = λ n on. h.flags n;
          land = record { bytes = h.bytes; size = h.size; reach = λ a e. refl; symbols = h.symbols; labels = λ l. unset _ _ (h.labels l) };
        };
        input = h.input;
        on = subst (λ x. PlaceIs m.place x (Some (suc m.place))) (sym (h.plain Pc refl)) refl;
      }

      target_own : (t : Tree) → IsOwn (code j f).blocks t → TargetAims (PlaceIs m.place) v (view_of j m) t
      target_own (CodeLabel (Block l)) i = subst (λ x. Aimed (PlaceIs m.place) x (Some (label_in j j.order l))) (sym (h.targets (Block l))) (ap Some (label_own j is f l mine i))
      target_own (CodeLabel (Function g)) i = absurd i
      target_own (Number n) i = absurd i
      target_own (Symbol n) i = absurd i
      target_own (Read c) i = absurd i
      target_own (Load d a) i = absurd i
      target_own (Unary o a) i = absurd i
      target_own (Binary o a b) i = absurd i
      target_own NoPair i = absurd i
      target_own (AnyNumber n) i = absurd i
      target_own (AnyName n) i = absurd i

      jump_own : (t : Tree) → JumpOwn (code j f).blocks t → JumpAims (PlaceIs m.place) v (view_of j m) t
      jump_own (Binary When c l) i = target_own l i
      jump_own t i = target_own t i

      goal_own : (g : Goal) (t : Tree) → GoalOwn (code j f).blocks g t → GoalAims (PlaceIs m.place) v (view_of j m) g t
      goal_own (ToCell Pc) t i = jump_own t i
      goal_own _ t i = tt

      pub jumps_aim : (ms : Transfer) → JumpsOwn (code j f).blocks ms → AllAim (PlaceIs m.place) v (view_of j m) ms
      jumps_aim [] i = tt
      jumps_aim (x ∷ ms) i = (goal_own x.to x.value i.0, jumps_aim ms i.1)

      goal_free : (g : Goal) (t : Tree) → NoJump g → GoalAims (PlaceIs m.place) v (view_of j m) g t
      goal_free (ToCell Pc) t i = absurd i
      goal_free _ t i = tt

      pub body_aims : (ms : Transfer) → NoJumps ms → AllAim (PlaceIs m.place) v (view_of j m) ms
      body_aims [] i = tt
      body_aims (x ∷ ms) i = (goal_free x.to x.value i.0, body_aims ms i.1)

      -- what a transfer leaves
      module _ (ms : Transfer) (flat : IsPlain j.t ms) (small : suc m.place < 2 ^ j.t.word) (aims : AllAim (PlaceIs m.place) v (view_of j m) ms) where
        plain_after : (p : Option Patch) (c : Cell) → is_plain c ≡ true → (view_after j.t.word ms p v).cells c ≡ plain_of j.t.word (view_after j.t.word ms p v).input c
        plain_after p (Hard n) e = false_true e
        plain_after p (Temp n) e = false_true e
        plain_after p Pc e = h.plain Pc refl
        plain_after p Input e = refl
        plain_after p (Flag n) e = refl
        plain_after p Output e = refl
        plain_after p Halt e = refl
        plain_after p (Hole n) e = refl

        still_after : (p p' : Option Patch) → Patches p p' → patch_of j.t.word (storing ms) v ≡ Ok p → (a : ℕ) → reach0 a ≡ false → patched p' m.bytes a ≡ z0 a
        still_after p p' neither e a r = h.still a r
        still_after p p' (either at count x y t) e a r = by (nat_le at a && nat_lt a (at + count)) refl
          where
            by : (b : Bool) → (nat_le at a && nat_lt a (at + count)) ≡ b → cond b (byte_of y (a - at)) (m.bytes a) ≡ z0 a
            by true g = true_false (sym (patch_reached j.t.word v (storing ms) (record { at = at; count = count; value = x }) e a (inside_low _ _ a g) (inside_high _ _ a g)) ∙ h.old_reach a ∙ r)
            by false g = h.still a r

        pub held_after : (p p' : Option Patch) → Patches p p' → patch_of j.t.word (storing ms) v ≡ Ok p → (q : ℕ) (out : List ℕ) → Held (view_after j.t.word ms p v) (mach_with j (view_after j.t.word ms p' (view_of j m)) q out)
        held_after p p' ep e q out =
            let s = sight_after (PlaceIs m.place) is_no_temporary v (view_of j m) agrees j.t.word ms flat.0 aims is_no_temporary (λ c on n. on) (λ on. unset _ _ (h.plain Pc refl)) p p' ep in
            record {
              regs = λ n. s.cells (Hard n) refl;
              flags = λ n. s.flags n refl;
              plain = plain_after p;
              bytes = s.land.bytes;
              size = h.size;
              symbols = h.symbols;
              labels = h.labels;
              targets = h.targets;
              input = ap (input_after (takes ms)) h.input;
              old_reach = h.old_reach;
              still = still_after p p' ep e;
              stack = ap (λ o. cell_after j.t.word o (view_of j m) (m.regs j.t.sp)) flat.1 ∙ h.stack;
              words = words_after j is m (mach_with j (view_after j.t.word ms p' (view_of j m)) q out) ms p' h.words small flat.2 (λ n. refl) (λ a. refl) refl;
            }
