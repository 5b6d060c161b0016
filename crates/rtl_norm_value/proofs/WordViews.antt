-- A transfer of words on a view of words leaves a view of words.
use Rattle.std.proofs.Common.{◌≡◌, ℕ, ◌+◌, ◌-◌, ◌/◌, ◌%◌, ◌^◌, ◌<◌, ◌&&◌, Bool, true, false, cond, List, [], ◌∷◌, Option, Some, None, Result, Ok, Err, ap, subst, arith}
use Rattle.std.specs.Prelude.{nat_le, nat_lt}
use Rattle.std.specs.List.{All, AllByRecursion}
use Rattle.std.proofs.Math.Nat.{mod-lt}
use Rattle.std.proofs.lemmas.List.Elements.{All-head, All-tail, recursion_from_All}
use Rattle.rtl_word.specs.Words.{IsWordSize}
use Rattle.rtl_word.proofs.Below.{by_size}
use Rattle.rtl_tree.specs.Trees.{Tree}
use Rattle.rtl_tree.specs.Sorts.{IsFitting}
use Rattle.rtl_tree.specs.Same.{same_cell}
use Rattle.rtl_tree.specs.Moves.{Goal, ToCell, ToMemory, Move}
use Rattle.rtl_tree.specs.declared.cells.Cell.{Cell}
use Rattle.rtl_tree.specs.declared.cells.Cell.TheVariants.{Hard, Temp, Flag, Pc, Input, Output, Halt, Hole}
use Rattle.rtl_norm.specs.Transfers.{IsMoveFitting}
use Rattle.rtl_effect.specs.Views.{Stop, View, Seen, bind, seen}
use Rattle.rtl_effect.specs.Effects.{assigned_by, assigned, storing, takes, tested, Patch, patch_of, byte_of, patched, plain, cell_after, event, went, next_in, input_after, cells_after, Done, view_after, effect}
use Rattle.rtl_norm_value.specs.Kept.{IsWordView}
use Rattle.rtl_norm_value.specs.Effect.{WordsAreKept}
use Rattle.rtl_norm_value.proofs.Words.{IsBelow, seen_below}

abbrev pub AreBytes : List ℕ → Type 0
AreBytes xs = All (λ byte. byte < 256) xs

pub bytes_after : (b : Bool) (xs : List ℕ) → AreBytes xs → AreBytes (input_after b xs)
bytes_after true [] h = h
bytes_after true (x ∷ xs) h = All-tail (λ byte. byte < 256) x xs h
bytes_after false xs h = h

pub next_below : (w : ℕ) (xs : List ℕ) → IsWordSize w → AreBytes xs → next_in w xs < 2 ^ w
next_below w [] z h = by_size (λ n. 2 ^ n - 1 < 2 ^ n) (omega arith) (omega arith) w z
next_below w (x ∷ xs) z h =
    let l : 256 < 2 ^ w = by_size (λ n. 256 < 2 ^ n) (omega arith) (omega arith) w z in
    let k : x < 256 = All-head (λ byte. byte < 256) x xs h in
    omega (arith, k, l)

abbrev MaybeFitting : ℕ → Option Tree → Type 0
MaybeFitting w None = Unit {0}
MaybeFitting w (Some a) = IsFitting w a

assigned_fitting : (w : ℕ) (ms : List Move) (c : Cell) → AllByRecursion (IsMoveFitting w) ms → MaybeFitting w (assigned ms c)
assigned_fitting w [] c h = tt
assigned_fitting w (m ∷ ms) c h = by m.to m.value h.0.1 (assigned_fitting w ms c h.1)
  where
    pick : (b : Bool) (a : Tree) (o : Option Tree) → IsFitting w a → MaybeFitting w o → MaybeFitting w (cond b (Some a) o)
    pick true a o f g = f
    pick false a o f g = g

    by : (g : Goal) (a : Tree) → IsFitting w a → MaybeFitting w (assigned ms c) → MaybeFitting w (assigned_by g a c (assigned ms c))
    by (ToCell d) a f g = pick (same_cell d c) a _ f g
    by (ToMemory d p) a f g = g

plain_below : (m : ℕ) (u : Seen) (n : ℕ) → IsBelow m u → plain u ≡ Some n → n < m
plain_below m (Ok x) n h e = h.below n (ap Ok e)
plain_below m (Err s) n h e = absurd (let k : None ≡ Some n = e in cc)

module _ (w : ℕ) (v : View) (size : IsWordSize w) (words : IsWordView w v) where
  cell_word : (o : Option Tree) (x : Option ℕ) → MaybeFitting w o → ((n : ℕ) → x ≡ Some n → n < 2 ^ w) → (n : ℕ) → cell_after w o v x ≡ Some n → n < 2 ^ w
  cell_word None x f h n e = h n e
  cell_word (Some a) x f h n e = plain_below (2 ^ w) (seen w a v) n (seen_below w a v size words f) e

  junk_word : (n : ℕ) → Some 0 ≡ Some n → n < 2 ^ w
  junk_word n e = let k : 0 ≡ n = cc in subst (λ (x : ℕ). x < 2 ^ w) k (by_size (λ n. 0 < 2 ^ n) (omega arith) (omega arith) w size)

  byte_small : (x : Option ℕ) (k n : ℕ) → byte_of x k ≡ Some n → n < 256
  byte_small (Some x) k n e = let d : x / 256 ^ k % 256 ≡ n = cc in subst (λ (y : ℕ). y < 256) d (mod-lt (x / 256 ^ k) (omega arith))
  byte_small None k n e = absurd (let k : None ≡ Some n = e in cc)

  patched_bytes : (p : Option Patch) (b n : ℕ) → patched p v.bytes b ≡ Some n → n < 256
  patched_bytes None b n e = words.bytes b n e
  patched_bytes (Some p) b n e = by (nat_le p.at b && nat_lt b (p.at + p.count)) e
    where
      by : (x : Bool) → cond x (byte_of p.value (b - p.at)) (v.bytes b) ≡ Some n → n < 256
      by true f = byte_small p.value (b - p.at) n f
      by false f = words.bytes b n f

  pub view_words : (ms : List Move) (p : Option Patch) → AllByRecursion (IsMoveFitting w) ms → AreBytes v.input → IsWordView w (view_after w ms p v)
  view_words ms p f fed = record { cells = cells; bytes = patched_bytes p; symbols = words.symbols; labels = words.labels }
    where
      cells : (c : Cell) (n : ℕ) → cells_after w ms v c ≡ Some n → n < 2 ^ w
      cells (Hard k) n e = cell_word (assigned ms (Hard k)) (v.cells (Hard k)) (assigned_fitting w ms (Hard k) f) (words.cells (Hard k)) n e
      cells (Temp k) n e = cell_word (assigned ms (Temp k)) (v.cells (Temp k)) (assigned_fitting w ms (Temp k) f) (words.cells (Temp k)) n e
      cells Input n e = let k : next_in w (input_after (takes ms) v.input) ≡ n = cc in subst (λ (x : ℕ). x < 2 ^ w) k (next_below w _ size (bytes_after (takes ms) v.input fed))
      cells Pc n e = words.cells Pc n e
      cells (Flag k) n e = junk_word n e
      cells Output n e = junk_word n e
      cells Halt n e = junk_word n e
      cells (Hole k) n e = junk_word n e

-- the view that an effect leaves
module _ (w : ℕ) (ms : List Move) (v : View) where
  abbrev Leaves : Result Done Stop → Type 0
  Leaves r = (d : Done) → r ≡ Ok d → (p : Option Patch) × (view_after w ms p v ≡ d.view)

  bind_leaves : (A : Type 0) (u : Result A Stop) (f : A → Result Done Stop) → ((x : A) → Leaves (f x)) → Leaves (bind u f)
  bind_leaves A (Ok x) f h = h x
  bind_leaves A (Err s) f h = λ d e. absurd (grind (arith, e))

  view_of_ok : (x d : Done) → (let r : Result Done Stop = Ok x in r ≡ Ok d) → x.view ≡ d.view
  view_of_ok x d e = let k : x ≡ d = grind (arith, e) in ap (λ y. y.view) k

  pub effect_leaves : Leaves (effect w ms v)
  effect_leaves =
      bind_leaves _ (tested w ms v) _ (λ x.
      bind_leaves _ (event w (assigned ms Output) v) _ (λ o.
      bind_leaves _ (event w (assigned ms Halt) v) _ (λ h.
      bind_leaves _ (went w (assigned ms Pc) v) _ (λ q.
      bind_leaves _ (patch_of w (storing ms) v) _ (λ p d e. (p, view_of_ok (record { view = view_after w ms p v; place = q; output = o; halt = h }) d e))))))

pub words_are_kept : WordsAreKept
words_are_kept w ms v d size words fed f e =
    let to = effect_leaves w ms v d e in
    subst (λ z. IsWordView w z × AreBytes z.input) to.1 (view_words w v size words ms to.0 (recursion_from_All _ ms f) fed, bytes_after (takes ms) v.input fed)
