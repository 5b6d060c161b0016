-- No two blocks of a function have one label.
use Rattle.std.proofs.Common.{◌≡◌, ℕ, zero, suc, ◌+◌, ◌≤◌, List, [], ◌∷◌, ◌++◌, refl, arith}
use Rattle.std.specs.Prelude.{Bool, true, false, length}
use Rattle.std.specs.List.{AllByRecursion}
use Rattle.std.proofs.lemmas.List.Elements.{All-from_recursion}
use Rattle.c_tree.specs.declared.typed.Function.{Function}
use Rattle.c_tree.specs.declared.typed.Typed.{Typed}
use Rattle.c_limits.specs.Frames.{word_bytes, frame_bytes}
use Rattle.c_meaning.specs.Run.{is_main}
use Rattle.naive_code.specs.Storage.{scalar_count}
use Rattle.naive_code.specs.Functions.{entry_from, site_of, body_steps, ending, nowhere, function_ops, function_labels}
use Rattle.naive_builder.specs.Appending.{opened}
use Rattle.naive_builder.specs.Finished.{times}
use Rattle.naive_fits.specs.Labels.{IsAmong, LabelsAreOnce, LabelsAreOwn, labels_from, AllLabelsAreOnce}
use Rattle.naive_fits.proofs.Windows.{window, count, count_append, cut, one_label, window_once, in_window, point_here}
use Rattle.naive_fits.proofs.StatementLabels.{statement_opens}

entry_none : (bytes offset i n x : ℕ) → count x (entry_from bytes offset i n) ≡ 0
entry_none bytes offset i zero x = refl
entry_none bytes offset i (suc n) x = entry_none bytes offset (suc i) n x

ending_none : (b : Bool) (t x : ℕ) → count x (ending b t) ≡ 0
ending_none true t x = refl
ending_none false t x = refl

-- each label is opened at most as often as it stands among those of the function
opens_own : (kept : List ℕ) (w pushed : ℕ) (t : Typed) (f : Function) (label x : ℕ)
    → times x (label ∷ opened (function_ops kept w pushed t f label)) ≤ window label (function_labels kept w t f) x
opens_own kept w pushed t f label x =
    let first = entry_from (word_bytes w) (frame_bytes kept w f + pushed) 0 (length f.params) in
    let p = body_steps kept w t f in
    let body = p.ops nowhere (scalar_count f) (label + 1) in
    let last = ending (is_main f) (scalar_count f + p.temps) in
    let e = count_append x first (body ++ last) in let e1 = count_append x body last in
    let g = entry_none (word_bytes w) (frame_bytes kept w f + pushed) 0 (length f.params) x in
    let g1 = (statement_opens (site_of kept w t f) f.locals f.body).ops nowhere (scalar_count f) (label + 1) x in
    let g2 = ending_none (is_main f) (scalar_count f + p.temps) x in
    let c = cut label 1 p.labels (label + 1) (1 + p.labels) x refl refl in let i = one_label label x in
    omega (arith, e, e1, g, g1, g2, c, i)

pub labels_are_once : LabelsAreOnce
labels_are_once kept w pushed t f label x =
    let e = opens_own kept w pushed t f label x in let most = window_once label (function_labels kept w t f) x in omega (arith, e, most)

among : (l n : ℕ) (ls : List ℕ) → ((x : ℕ) → times x ls ≤ window l n x) → AllByRecursion (IsAmong l n) ls
among l n [] h = tt
among l n (y ∷ ys) h =
    let here = h y in let one = point_here y in
    (in_window l n y (omega (arith, here, one)), among l n ys (λ x. let e = h x in omega (arith, e)))

pub labels_are_own : LabelsAreOwn
labels_are_own kept w pushed t f label =
    let n = function_labels kept w t f in
    All-from_recursion (IsAmong label n) (label ∷ opened (function_ops kept w pushed t f label))
    (among label n (label ∷ opened (function_ops kept w pushed t f label)) (opens_own kept w pushed t f label))

-- ---- of several functions

times_append : (x : ℕ) (ls ks : List ℕ) → times x (ls ++ ks) ≡ times x ls + times x ks
times_append x [] ks = omega arith
times_append x (l ∷ ls) ks = let e = times_append x ls ks in omega (arith, e)

module _ (kept : List ℕ) (w pushed : ℕ) (t : Typed) where
  abbrev labels_of : List Function → ℕ
  labels_of [] = 0
  labels_of (f ∷ fs) = function_labels kept w t f + labels_of fs

  all_own : (fs : List Function) (label x : ℕ) → times x (labels_from kept w pushed t fs label) ≤ window label (labels_of fs) x
  all_own [] label x = omega arith
  all_own (f ∷ fs) label x =
      let n = function_labels kept w t f in
      let own = label ∷ opened (function_ops kept w pushed t f label) in
      let e = times_append x own (labels_from kept w pushed t fs (label + n)) in
      let c = cut label n (labels_of fs) (label + n) (n + labels_of fs) x refl refl in
      let g = opens_own kept w pushed t f label x in let h = all_own fs (label + n) x in
      omega (arith, e, c, g, h)

pub all_labels_are_once : AllLabelsAreOnce
all_labels_are_once kept w pushed t fs label x =
    let e = all_own kept w pushed t fs label x in let most = window_once label (labels_of kept w pushed t fs) x in omega (arith, e, most)
