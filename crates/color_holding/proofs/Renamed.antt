-- A transfer with registers against the old one, once the loads are made and before the stores are.
use Rattle.std.proofs.Common.{◌≡◌, ℕ, Bool, true, false, List, Option, Some, None, is_some, Result, Ok, Err, refl, sym, ap, ◌∙◌, subst, arith}
use Rattle.rtl_tree.specs.Trees.{Tree}
use Rattle.rtl_tree.specs.declared.cells.Cell.{Cell}
use Rattle.rtl_tree.specs.declared.cells.Cell.TheVariants.{Hard, Temp, Flag}
use Rattle.rtl_tree.specs.Moves.{Move}
use Rattle.rtl_effect.specs.Views.{Stop, Mark, View}
use Rattle.rtl_effect.specs.Effects.{assigned, storing, takes, mark_after, input_after, Done, effect}
use Rattle.rtl_effect.specs.Agree.{Tells, Marks, Refines, stops, gives, Alike, AgreeBy, Ground, AllWithin}
use Rattle.rtl_effect.proofs.EffectGrowth.{patched_tells, cell_tells, mark_tells, assigned_within, same_all, Made, both_made, effect_made}
use Rattle.rtl_norm_value.specs.Kept.{IsWordView}
use Rattle.rtl_norm_value.proofs.WordViews.{effect_leaves}
use Rattle.md_filled.specs.Doing.{IsSameBut, DoesAs}
use Rattle.temp_machine.specs.Cells.{reads, sets}
use Rattle.color_cores.specs.Cores.{core, IsSameBeside}
use Rattle.color_cores.proofs.Cores.{core_does, assigned_core}
use Rattle.color_renaming.specs.Renaming.{tree_with, with_registers, with_temporaries}
use Rattle.color_renaming.specs.Does.{IsSeparate, IsSpared, IsSameRenamed, IsRenamedEffect, both_stop, both_do}
use Rattle.color_renaming.proofs.Seeing.{maybe_with}
use Rattle.color_renaming.proofs.Assigning.{is_set, flag_assigned}
use Rattle.color_renaming.proofs.Doing.{renamed_does}
use Rattle.color_holding.proofs.Members.{none_some, all_within, set_assigned}
use Rattle.color_holding.proofs.Bytes.{patch_still, new_patch_still}

pub tells_along : (a b c d : Option ℕ) → a ≡ b → c ≡ d → Tells a c → Tells b d
tells_along a b c d e f h = subst (Tells b) f (subst (λ x. Tells x c) e h)

marks_along : (a b c d : Mark) → a ≡ b → c ≡ d → Marks a c → Marks b d
marks_along a b c d e f h = subst (Marks b) f (subst (λ x. Marks x c) e h)

-- what refines something that was done was done
refined : (R : Done → Done → Type 0) (x y : Result Done Stop) (d : Done) → Refines Done Done R x y → x ≡ Ok d → (e : Done) × (y ≡ Ok e) × R d e
refined R _ _ d (stops s y) e = absurd (let k : Err s ≡ Ok d = e in cc)
refined R _ _ d (gives a b r) e = (b, refl, subst (λ x. R x b) (done_is a d e) r)
  where
    done_is : (x d : Done) → (let r : Result Done Stop = Ok x in r ≡ Ok d) → x ≡ d
    done_is x d e = grind (arith, e)

renamed_too : (register : ℕ → ℕ) (ms : List Move) (x y : Result Done Stop) (d : Done) → IsRenamedEffect register ms x y → x ≡ Ok d → (e : Done) × (y ≡ Ok e) × IsSameRenamed register ms d e
renamed_too register ms _ _ d (both_stop s) e = absurd (let k : Err s ≡ Ok d = e in cc)
renamed_too register ms _ _ d (both_do a b r) e = (b, refl, subst (λ x. IsSameRenamed register ms x b) (done_is a d e) r)
  where
    done_is : (x d : Done) → (let r : Result Done Stop = Ok x in r ≡ Ok d) → x ≡ d
    done_is x d e = grind (arith, e)

by_tree : {A : Type 0} (o : Option Tree) → ((a : Tree) → o ≡ Some a → A) → (o ≡ None → A) → A
by_tree (Some a) f g = f a refl
by_tree None f g = g refl

module _ (w : ℕ) (register : ℕ → ℕ) (ms : List Move) (wanted : ℕ → Bool) (v x : View) where
  abbrev cs : List Move
  cs = core wanted ms

  abbrev pub back : View
  back = with_temporaries register x

  abbrev pub is_read : Cell → Bool
  is_read c = reads c cs

  -- what the transfer with registers does where the old one does d
  pub record IsRenamed (d : Done) : Type 0 where
    pub e : Done
    pub is : effect w (with_registers register ms) x ≡ Ok e
    pub place : e.place ≡ d.place
    pub output : e.output ≡ d.output
    pub halt : e.halt ≡ d.halt
    pub input : e.view.input ≡ d.view.input
    pub temps : (k : ℕ) → sets (Temp k) ms ≡ true → Tells (d.view.cells (Temp k)) (e.view.cells (Hard (register k)))
    pub registers : (n : ℕ) → IsSpared register ms n → Tells (v.cells (Hard n)) (x.cells (Hard n)) → Tells (d.view.cells (Hard n)) (e.view.cells (Hard n))
    pub flags : (n : ℕ) → wanted n ≡ true → (assigned ms (Flag n) ≡ None → Marks (v.flags n) (x.flags n)) → Marks (d.view.flags n) (e.view.flags n)
    pub bytes : (a : ℕ) → Tells (d.view.bytes a) (e.view.bytes a)
    pub old_still : (a : ℕ) → v.reach a ≡ false → d.view.bytes a ≡ v.bytes a
    pub new_still : (a : ℕ) → v.reach a ≡ false → e.view.bytes a ≡ x.bytes a

  module _ (agree : AgreeBy Alike is_read v back) (ground : Ground v back) where
    inside : AllWithin is_read cs
    inside = all_within is_read cs (λ c e. e)

    module _ (d : Done) (given : effect w ms v ≡ Ok d) where
      temp_set : (k : ℕ) → sets (Temp k) ms ≡ true → is_some (assigned cs (Temp k)) ≡ true
      temp_set k s = ap is_some (assigned_core wanted (Temp k) refl ms) ∙ set_assigned ms (Temp k) s

      core_spared : (n : ℕ) → IsSpared register ms n → IsSpared register cs n
      core_spared n h k s = h k (is_set ms (Temp k) (ap is_some (sym (assigned_core wanted (Temp k) refl ms)) ∙ set_assigned cs (Temp k) s))

      some_not_none : {A : Type 0} (o : Option Tree) → is_some o ≡ true → o ≡ None → A
      some_not_none None s e = absurd (let k : false ≡ true = s in cc)
      some_not_none (Some a) s e = absurd (let k : Some a ≡ None = e in cc)

      module _ (c1 c2 e1 e : Done) (same : IsSameBeside wanted d c1) (alike : IsSameRenamed register cs c2 e1) (like : IsSameBut (with_registers register cs) e1 e)
          (is : effect w (with_registers register ms) x ≡ Ok e) where
        kept_flag : (n : ℕ) → assigned ms (Flag n) ≡ None → (assigned ms (Flag n) ≡ None → Marks (v.flags n) (x.flags n)) → Marks (d.view.flags n) (e.view.flags n)
        kept_flag n none h =
            let l = effect_leaves w ms v d given in
            let k = effect_leaves w (with_registers register ms) x e is in
            let old : v.flags n ≡ d.view.flags n = ap (λ o. mark_after w o v (v.flags n)) (sym none) ∙ ap (λ (y : View). y.flags n) l.1 in
            let new : x.flags n ≡ e.view.flags n =
            ap (λ o. mark_after w o x (x.flags n)) (sym (flag_assigned register ms n ∙ ap (maybe_with register) none)) ∙ ap (λ (y : View). y.flags n) k.1 in
            marks_along _ _ _ _ old new (h none)

        build : Made Alike w cs v back c1 c2 → IsRenamed d
        build m = by c1 c2 same alike m
          where
            by : (a b : Done) → IsSameBeside wanted d a → IsSameRenamed register cs b e1 → Made Alike w cs v back a b → IsRenamed d
            by _ _ same alike (both_made o h q q' p p' ps qs pe qe) = record {
              e = e;
              is = is;
              place = like.place ∙ alike.place ∙ sym qs ∙ same.place;
              output = like.output ∙ alike.output ∙ same.output;
              halt = like.halt ∙ alike.halt ∙ same.halt;
              input = like.input ∙ alike.input ∙ sym (ap (input_after (takes cs)) agree.input) ∙ same.input;
              temps = λ k s. tells_along _ _ _ _ (same.cells (Temp k)) (sym (like.registers (register k) ∙ alike.temps k (is_set cs (Temp k) (temp_set k s))))
                  (cell_tells Alike is_read v back agree.sight agree.on w (assigned cs (Temp k)) (v.cells (Temp k)) (back.cells (Temp k)) (assigned_within is_read cs (Temp k) inside)
                  (λ none. some_not_none (assigned cs (Temp k)) (temp_set k s) none));
              registers = λ n spared t. tells_along _ _ _ _ (same.cells (Hard n)) (sym (like.registers n ∙ alike.registers n (core_spared n spared)))
                  (cell_tells Alike is_read v back agree.sight agree.on w (assigned cs (Hard n)) (v.cells (Hard n)) (back.cells (Hard n)) (assigned_within is_read cs (Hard n) inside) (λ none. t));
              flags = λ n on t. by_tree (assigned ms (Flag n))
                  (λ a s.
                  let in_core : assigned cs (Flag n) ≡ Some a = assigned_core wanted (Flag n) on ms ∙ s in
                  marks_along _ _ _ _ (same.flags n on) (sym (like.flags n (tree_with register a) (flag_assigned register cs n ∙ ap (maybe_with register) in_core) ∙ alike.flags n))
                  (mark_tells Alike is_read v back agree.sight agree.on w (assigned cs (Flag n)) (v.flags n) (back.flags n) (assigned_within is_read cs (Flag n) inside)
                  (λ none. none_some (assigned cs (Flag n)) a none in_core)))
                  (λ none. kept_flag n none t);
              bytes = λ a. tells_along _ _ _ _ (same.bytes a) (sym (like.bytes a ∙ alike.bytes a)) (patched_tells p p' v.bytes back.bytes ps ground.bytes a);
              old_still = λ a f. sym (same.bytes a) ∙ patch_still w v (storing cs) p v.bytes pe a f;
              new_still = λ a f. like.bytes a ∙ alike.bytes a ∙ new_patch_still w v (storing cs) p p' back.bytes ps pe a f;
            }

      pub renamed : IsSeparate register cs → IsWordView w x → DoesAs w (with_registers register cs) (with_registers register ms) → IsRenamed d
      renamed separate words quiet =
          let one = core_does w wanted ms v d given in
          let two = refined (Made Alike w cs v back) (effect w cs v) (effect w cs back) one.0 (effect_made Alike is_read v back agree w cs inside (same_all v back ground cs)) one.1 in
          let three = renamed_too register cs (effect w cs back) (effect w (with_registers register cs) x) two.0 (renamed_does w register cs x separate) two.1 in
          let four = quiet.does x three.0 words three.1 in
          build one.0 two.0 three.0 four.0 one.2 three.2 four.2 four.1 two.2
