-- What points of a run show are words and bytes.
use Rattle.std.proofs.Common.{◌≡◌, ℕ, zero, suc, ◌+◌, ◌^◌, ◌<◌, List, [], ◌∷◌, Option, Some, None, Result, Ok, Err, refl, sym, ap, ◌∙◌, subst, arith}
use Rattle.std.specs.Prelude.{slice_index}
use Rattle.std.proofs.lemmas.Nat.{pow_pos}
use Rattle.behaviour.specs.Run.{AreBytes}
use Rattle.rtl_word.specs.Words.{IsWordSize}
use Rattle.rtl_tree.specs.declared.cells.Cell.{Cell}
use Rattle.rtl_tree.specs.declared.cells.Cell.TheVariants.{Hard, Temp, Flag, Pc, Input, Output, Halt, Hole}
use Rattle.rtl_tree.specs.declared.cells.Lab.{Lab}
use Rattle.rtl_tree.specs.Moves.{Move}
use Rattle.rtl_effect.specs.Views.{Stop, View, bind}
use Rattle.rtl_effect.specs.Effects.{Done, effect, tested, event, went, patch_of, storing, assigned, view_after, next_in, Patch}
use Rattle.rtl_norm_value.specs.Kept.{IsWordView}
use Rattle.rtl_norm_value.proofs.WordViews.{next_below}
use Rattle.md_filled.specs.Doing.{IsSameBut}
use Rattle.temp_machine.specs.Routines.{Image, Target}
use Rattle.temp_machine.specs.Machine.{State, view_in}

-- ---- effects

abbrev Goes_through : {A B : Type 0} → Result A Stop → (A → Result B Stop) → B → Type 0
Goes_through {A} x go d = (a : A) × (x ≡ Ok a) × (go a ≡ Ok d)

bound : {A B : Type 0} (x : Result A Stop) (go : A → Result B Stop) (d : B) → bind x go ≡ Ok d → Goes_through x go d
bound (Ok a) go d e = (a, refl, e)
bound (Err s) go d e = absurd (grind (arith, e))

abbrev view_or : View → Result Done Stop → View
view_or v (Ok d) = d.view
view_or v (Err s) = v

-- what a transfer that is done leaves: the view after it, for some patch
pub after_effect : (w : ℕ) (ms : List Move) (v : View) (d : Done) → effect w ms v ≡ Ok d → (q : Option Patch) × (d.view ≡ view_after w ms q v)
after_effect w ms v d e =
    let a = bound (tested w ms v) _ d e in
    let b = bound (event w (assigned ms Output) v) _ d a.2 in
    let c = bound (event w (assigned ms Halt) v) _ d b.2 in
    let f = bound (went w (assigned ms Pc) v) _ d c.2 in
    let g = bound (patch_of w (storing ms) v) _ d f.2 in
    (g.0, sym (ap (view_or v) g.2))

-- ---- words

pub zero_word : (w n : ℕ) → Some 0 ≡ Some n → n < 2 ^ w
zero_word w n e = let k : 0 ≡ n = cc in subst (λ (x : ℕ). x < 2 ^ w) k (pow_pos w)

pub next_word : (w n : ℕ) (xs : List ℕ) → IsWordSize w → AreBytes xs → Some (next_in w xs) ≡ Some n → n < 2 ^ w
next_word w n xs size fed e = let k : next_in w xs ≡ n = cc in subst (λ (x : ℕ). x < 2 ^ w) k (next_below w xs size fed)

-- what does the same as a transfer that leaves words leaves words
pub words_alike : (w : ℕ) (wanted ms : List Move) (v : View) (d e : Done) → IsWordSize w → IsWordView w v → effect w ms v ≡ Ok e → IsSameBut wanted d e → IsWordView w d.view → AreBytes d.view.input
    → IsWordView w e.view
words_alike w wanted ms v d e size words does like has fed = by (after_effect w ms v e does)
  where
    by : (q : Option Patch) × (e.view ≡ view_after w ms q v) → IsWordView w e.view
    by (q, is) = record {
      cells = cells;
      bytes = λ a n h. has.bytes a n (sym (like.bytes a) ∙ h);
      symbols = λ n. subst (λ (z : View). z.symbols n < 2 ^ w) (sym is) (words.symbols n);
      labels = λ l n h. words.labels l n (sym (ap (λ (z : View). z.labels l) is) ∙ h);
    }
      where
        cells : (c : Cell) (n : ℕ) → e.view.cells c ≡ Some n → n < 2 ^ w
        cells (Hard k) n h = has.cells (Hard k) n (sym (like.registers k) ∙ h)
        cells (Temp k) n h = has.cells (Temp k) n (sym (like.temps k) ∙ h)
        cells Pc n h = words.cells Pc n (sym (ap (λ (z : View). z.cells Pc) is) ∙ h)
        cells Input n h =
            let left : e.view.cells Input ≡ Some (next_in w e.view.input) = subst (λ (z : View). z.cells Input ≡ Some (next_in w z.input)) (sym is) refl in
            next_word w n e.view.input size (subst AreBytes (sym like.input) fed) (sym left ∙ h)
        cells (Flag k) n h = zero_word w n (sym (ap (λ (z : View). z.cells (Flag k)) is) ∙ h)
        cells Output n h = zero_word w n (sym (ap (λ (z : View). z.cells Output) is) ∙ h)
        cells Halt n h = zero_word w n (sym (ap (λ (z : View). z.cells Halt) is) ∙ h)
        cells (Hole k) n h = zero_word w n (sym (ap (λ (z : View). z.cells (Hole k)) is) ∙ h)

module _ (t : Target) (u : Image) where
  -- a state that holds words and bytes
  pub record HoldsWords (s : State) : Type 0 where
    pub registers : (j n : ℕ) → s.regs j ≡ Some n → n < 2 ^ t.word
    pub temps : (j n : ℕ) → s.top.temps j ≡ Some n → n < 2 ^ t.word
    pub bytes : (a n : ℕ) → s.bytes a ≡ Some n → n < 256
    pub fed : AreBytes s.input

  -- its view shows words
  pub words_in : (s : State) → IsWordSize t.word → ((n : ℕ) → slice_index u.symbols n < 2 ^ t.word) → HoldsWords s → IsWordView t.word (view_in t u s)
  words_in s size symbols has = record { cells = cells; bytes = has.bytes; symbols = symbols; labels = λ l n h. absurd (grind (arith, h)) }
    where
      cells : (c : Cell) (n : ℕ) → (view_in t u s).cells c ≡ Some n → n < 2 ^ t.word
      cells (Hard k) n h = has.registers k n h
      cells (Temp k) n h = has.temps k n h
      cells Pc n h = absurd (grind (arith, h))
      cells Input n h = next_word t.word n s.input size has.fed h
      cells (Flag k) n h = zero_word t.word n h
      cells Output n h = zero_word t.word n h
      cells Halt n h = zero_word t.word n h
      cells (Hole k) n h = zero_word t.word n h
