-- What is set in the machine is a word, in memory a byte.
use Rattle.std.proofs.Common.{◌≡◌, ℕ, suc, ◌^◌, ◌<◌, Option, Some, sym, ◌∙◌, subst, arith}
use Rattle.rtl_word.proofs.Below.{by_size}
use Rattle.rtl_tree.specs.declared.cells.Cell.{Cell}
use Rattle.rtl_tree.specs.declared.cells.Cell.TheVariants.{Hard, Temp, Flag, Pc, Input, Output, Halt, Hole}
use Rattle.rtl_effect.specs.Effects.{takes, next_in, input_after, Patch, view_after}
use Rattle.rtl_norm_value.specs.Kept.{IsWordView}
use Rattle.rtl_norm_value.proofs.WordViews.{AreBytes, bytes_after, next_below, view_words}
use Rattle.link_code.specs.Linked.{Transfer, Job}
use Rattle.link_code.specs.Runs.{TransferFitting, IsLinkable}
use Rattle.link_code.proofs.Labels.{label_place}
use Rattle.link_code.proofs.Machine.{Mach, view_of}
use Rattle.link_code.proofs.Places.{labels_short}

module _ (j : Job) (is : IsLinkable j) where
  pub record Words (m : Mach) : Type 0 where
    pub regs : (n x : ℕ) → m.regs n ≡ Some x → x < 2 ^ j.t.word
    pub bytes : (a x : ℕ) → m.bytes a ≡ Some x → x < 256
    pub fed : AreBytes m.input

  pub some_word : 0 < 2 ^ j.t.word
  some_word = by_size (λ n. 0 < 2 ^ n) (omega arith) (omega arith) j.t.word is.sized

  same_word : (x y : ℕ) → Some x ≡ Some y → x < 2 ^ j.t.word → y < 2 ^ j.t.word
  same_word x y e h = let k : x ≡ y = cc in subst (λ (z : ℕ). z < 2 ^ j.t.word) k h

  pub word_view : (m : Mach) → Words m → suc m.place < 2 ^ j.t.word → IsWordView j.t.word (view_of j m)
  word_view m h small = record {
    cells = cells;
    bytes = h.bytes;
    symbols = is.symbols;
    labels = λ l n e. same_word (label_place j l) n e (let s = labels_short j l in let q = is.short in omega (arith, s, q));
  }
    where
      cells : (c : Cell) (n : ℕ) → (view_of j m).cells c ≡ Some n → n < 2 ^ j.t.word
      cells (Hard k) n e = h.regs k n e
      cells (Temp k) n e = same_word 0 n e some_word
      cells Pc n e = same_word (suc m.place) n e small
      cells Input n e = same_word (next_in j.t.word m.input) n e (next_below j.t.word m.input is.sized h.fed)
      cells (Flag k) n e = same_word 0 n e some_word
      cells Output n e = same_word 0 n e some_word
      cells Halt n e = same_word 0 n e some_word
      cells (Hole k) n e = same_word 0 n e some_word

  -- a machine that has what a transfer of words leaves
  pub words_after : (m to : Mach) (ms : Transfer) (p : Option Patch) → Words m → suc m.place < 2 ^ j.t.word → TransferFitting j.t.word ms
      → ((n : ℕ) → to.regs n ≡ (view_after j.t.word ms p (view_of j m)).cells (Hard n)) → ((a : ℕ) → to.bytes a ≡ (view_after j.t.word ms p (view_of j m)).bytes a) → to.input ≡ input_after (takes ms) m.input → Words to
  words_after m to ms p h small fits regs bytes input =
      let v = view_words j.t.word (view_of j m) is.sized (word_view m h small) ms p fits h.fed in
      record {
        regs = λ n x e. v.cells (Hard n) x (sym (regs n) ∙ e);
        bytes = λ a x e. v.bytes a x (sym (bytes a) ∙ e);
        fed = subst AreBytes (sym input) (bytes_after (takes ms) m.input h.fed);
      }
