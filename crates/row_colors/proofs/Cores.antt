-- A calm transfer does as its core does.
use Rattle.std.proofs.Common.{◌≡◌, ℕ, zero, suc, ◌<◌, ◌^◌, Bool, true, false, cond, List, [], ◌∷◌, slice_get, Some, Ok, refl, sym, subst, ap, ◌∙◌}
use Rattle.rtl_tree.specs.declared.cells.Cell.{Cell}
use Rattle.rtl_tree.specs.declared.cells.Cell.TheVariants.{Hard, Temp, Flag, Pc, Input, Output, Halt, Hole}
use Rattle.rtl_tree.specs.Trees.{Tree}
use Rattle.rtl_tree.specs.Moves.{Goal, ToCell, ToMemory, Move}
use Rattle.rtl_effect.specs.Views.{View}
use Rattle.rtl_effect.specs.Effects.{assigned, storing, tested, event, went, patch_of, Done, effect}
use Rattle.rtl_norm_value.specs.Kept.{IsWordView}
use Rattle.md_filled.specs.Doing.{IsSameBut, DoesAs}
use Rattle.md_filled.proofs.Alike.{bound, ok_is}
use Rattle.md_filled.proofs.Doing.{none_some, some_same}
use Rattle.md_filled.proofs.Lookups.{assigned_from}
use Rattle.color_cores.specs.Cores.{is_wanted, core, IsSameBeside}
use Rattle.color_cores.proofs.Cores.{assigned_core, storing_core, effect_made, core_does}
use Rattle.color_renaming.specs.Renaming.{goal_with, tree_with, with_registers, cells_back, with_temporaries}
use Rattle.color_renaming.proofs.Seeing.{tested_back}
use Rattle.row_colors.specs.Calm.{IsCalm, CalmDoes}

module _ (r : ℕ → ℕ) (w : ℕ) (v : View) (k : IsWordView w v) where
  words_back : (c : Cell) (n : ℕ) → cells_back r v c ≡ Some n → n < 2 ^ w
  words_back (Temp j) n e = k.cells (Hard (r j)) n e
  words_back (Hard j) n e = k.cells (Hard j) n e
  words_back (Flag j) n e = k.cells (Flag j) n e
  words_back Pc n e = k.cells Pc n e
  words_back Input n e = k.cells Input n e
  words_back Output n e = k.cells Output n e
  words_back Halt n e = k.cells Halt n e
  words_back (Hole j) n e = k.cells (Hole j) n e

  view_back : IsWordView w (with_temporaries r v)
  view_back = record { cells = words_back; bytes = k.bytes; symbols = k.symbols; labels = k.labels }

module _ (wanted : ℕ → Bool) where
  -- what is left in the core is wanted
  pub core_wanted : (ms : List Move) (i : ℕ) (m : Move) → slice_get (core wanted ms) i ≡ Some m → is_wanted wanted m.to ≡ true
  core_wanted [] i m e = absurd (none_some m e)
  core_wanted (x ∷ ms) i m e = by (is_wanted wanted x.to) refl (core_wanted ms) i e
    where
      by : (q : Bool) → is_wanted wanted x.to ≡ q → ((j : ℕ) (n : Move) → slice_get (core wanted ms) j ≡ Some n → is_wanted wanted n.to ≡ true) → (j : ℕ)
          → slice_get (cond q (x ∷ core wanted ms) (core wanted ms)) j ≡ Some m → is_wanted wanted m.to ≡ true
      by true f next zero g = subst (λ (y : Move). is_wanted wanted y.to ≡ true) (some_same x m g) f
      by true f next (suc j) g = next j m g
      by false f next j g = next j m g

  flag_wanted : (ms : List Move) (n : ℕ) (t : Tree) → assigned (core wanted ms) (Flag n) ≡ Some t → wanted n ≡ true
  flag_wanted ms n t e =
      let a = assigned_from (core wanted ms) (Flag n) t e in
      ap (λ (g : Goal). is_wanted wanted g) (sym a.to) ∙ core_wanted ms a.among.place a.move a.among.is

  module _ (r : ℕ → ℕ) where
    wanted_with : (g : Goal) → is_wanted wanted (goal_with r g) ≡ is_wanted wanted g
    wanted_with (ToCell (Temp j)) = refl
    wanted_with (ToCell (Hard j)) = refl
    wanted_with (ToCell (Flag j)) = refl
    wanted_with (ToCell Pc) = refl
    wanted_with (ToCell Input) = refl
    wanted_with (ToCell Output) = refl
    wanted_with (ToCell Halt) = refl
    wanted_with (ToCell (Hole j)) = refl
    wanted_with (ToMemory d a) = refl

    core_with : (ms : List Move) → core wanted (with_registers r ms) ≡ with_registers r (core wanted ms)
    core_with [] = refl
    core_with (m ∷ ms) = by (is_wanted wanted m.to) (is_wanted wanted (goal_with r m.to)) (wanted_with m.to) (core_with ms)
      where
        by : (p q : Bool) → q ≡ p → core wanted (with_registers r ms) ≡ with_registers r (core wanted ms)
            → cond q (record { to = goal_with r m.to; value = tree_with r m.value } ∷ core wanted (with_registers r ms)) (core wanted (with_registers r ms))
            ≡ with_registers r (cond p (m ∷ core wanted ms) (core wanted ms))
        by true true e ih = ap (λ (xs : List Move). record { to = goal_with r m.to; value = tree_with r m.value } ∷ xs) ih
        by false false e ih = ih
        by true false e ih = let k : false ≡ true = e in cc
        by false true e ih = let k : true ≡ false = e in cc

    module _ (w : ℕ) (ms : List Move) (calm : IsCalm w wanted ms) (v : View) (k : IsWordView w v) where
      abbrev new : List Move
      new = with_registers r ms

      all_tested : tested w (core wanted new) v ≡ Ok tt → tested w new v ≡ Ok tt
      all_tested e =
          tested_back r v w ms
          ∙ calm (with_temporaries r v) (view_back r w v k) (sym (tested_back r v w (core wanted ms)) ∙ (ap (λ (xs : List Move). tested w xs v) (sym (core_with ms)) ∙ e))

      -- all of it is made where its core is
      whole : (d : Done) → effect w (core wanted new) v ≡ Ok d → (x : Done) × (effect w new v ≡ Ok x)
      whole d e =
          let t = bound (tested w (core wanted new) v) _ d e in
          let o = bound (event w (assigned (core wanted new) Output) v) _ d t.rest in
          let h = bound (event w (assigned (core wanted new) Halt) v) _ d o.rest in
          let q = bound (went w (assigned (core wanted new) Pc) v) _ d h.rest in
          let p = bound (patch_of w (storing (core wanted new)) v) _ d q.rest in (
            _,
            effect_made wanted w v new o.value h.value q.value p.value (all_tested t.is)
                (ap (λ x. event w x v) (sym (assigned_core wanted Output refl new)) ∙ o.is)
                (ap (λ x. event w x v) (sym (assigned_core wanted Halt refl new)) ∙ h.is)
                (ap (λ x. went w x v) (sym (assigned_core wanted Pc refl new)) ∙ q.is)
                (ap (λ x. patch_of w x v) (sym (storing_core wanted new)) ∙ p.is),
          )

      same_but : (x d : Done) → IsSameBeside wanted x d → IsSameBut (core wanted new) d x
      same_but x d s = record {
        temps = λ n. sym (s.cells (Temp n));
        registers = λ n. sym (s.cells (Hard n));
        flags = λ n t e. sym (s.flags n (flag_wanted new n t e));
        bytes = λ a. sym (s.bytes a);
        input = sym s.input;
        place = sym s.place;
        output = sym s.output;
        halt = sym s.halt;
      }

      does : (d : Done) → effect w (core wanted new) v ≡ Ok d → (x : Done) × (effect w new v ≡ Ok x) × IsSameBut (core wanted new) d x
      does d e =
          let x = whole d e in
          let c = core_does w wanted new v x.0 x.1 in
          let same : c.0 ≡ d = ok_is c.0 d (sym c.1 ∙ e) in
          (x.0, x.1, same_but x.0 d (subst (λ (y : Done). IsSameBeside wanted x.0 y) same c.2))

pub calm_core : CalmDoes
calm_core w wanted r ms calm =
    subst (λ (xs : List Move). DoesAs w xs (with_registers r ms)) (core_with wanted r ms)
    (record { does = λ v d k e. does wanted r w ms calm v k d e })
