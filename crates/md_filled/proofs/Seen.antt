-- The normal form of a row's tree, filled, is seen as the tree filled is.
use Rattle.std.proofs.Common.{◌≡◌, ℕ, Bool, true, false, List, slice_get, Option, Some, None, Ok, refl, sym, subst, ap, ◌∙◌}
use Rattle.rtl_word.specs.declared.Rel.{Rel}
use Rattle.rtl_word.specs.Words.{IsWordSize}
use Rattle.rtl_tree.specs.declared.cells.Cell.{Cell}
use Rattle.rtl_tree.specs.declared.cells.Cell.TheVariants.{Hard, Temp, Flag, Pc, Input, Output, Halt, Hole as RegisterHole}
use Rattle.rtl_tree.specs.declared.expressions.UnOp.TheVariants.{Neg, Not, Sxb, Test}
use Rattle.rtl_tree.specs.declared.expressions.BinOp.{BinOp}
use Rattle.rtl_tree.specs.declared.expressions.BinOp.TheVariants.{Add, Sub, Mul, Div, Divu, Rem, Remu, And, Or, Xor, Shl, Shr, Shru, Cmp, Pair, When}
use Rattle.rtl_tree.specs.Trees.{Tree, Number, Symbol, CodeLabel, Read, Load, Unary, Binary, NoPair, AnyNumber, AnyName}
use Rattle.rtl_tree.specs.Sorts.{IsFitting, IsWordTree, IsTestedTree}
use Rattle.rtl_norm.specs.Normal.{norm, finish}
use Rattle.rtl_norm.proofs.Rewrites.{Rewrites}
use Rattle.rtl_norm.proofs.Finish.{finish_keeps, fits_kept}
use Rattle.rtl_effect.specs.Views.{View, Seen, width_of, unary_on, binary_on, load_on, seen, test_seen}
use Rattle.rtl_norm_value.specs.Kept.{IsWordView}
use Rattle.rtl_norm_value.proofs.Seen.{seen_kept, word_kept, norm_pair}
use Rattle.md_rows.specs.declared.instance.Bound.{Bound}
use Rattle.md_rows.specs.Instances.{held_by, filled}
use Rattle.md_filled.specs.Held.{IsRegister, IsWord, IsName, IsHeld}
use Rattle.md_filled.specs.Law.{FilledFormIsSeen}
use Rattle.md_filled.proofs.Rewriting.{register_is, word_is, name_is, rewrites_filled, held_kept, fitting_filled}

both_are : (w : ℕ) (o : BinOp) (a b c d : Seen) → a ≡ c → b ≡ d → binary_on w o a b ≡ binary_on w o c d
both_are w o a b c d e h = ap (λ r. binary_on w o r b) e ∙ ap (λ r. binary_on w o c r) h

-- what rules keep of a tree that is filled
pub record Kept (w : ℕ) (b : List Bound) (v : View) (r : Seen) (t : Tree) : Type 0 where
  pub held : IsHeld w b t
  pub fits : IsFitting w (filled b t)
  pub word : IsWordTree (filled b t)
  pub same : seen w (filled b t) v ≡ r

record TestKept (w : ℕ) (b : List Bound) (v : View) (old t : Tree) : Type 0 where
  held : IsHeld w b t
  fits : IsFitting w (filled b t)
  tested : IsTestedTree (filled b t)
  same : (r : Rel) → test_seen w r (filled b t) v ≡ test_seen w r (filled b old) v

module _ (w : ℕ) (b : List Bound) (v : View) (z : IsWordSize w) (k : IsWordView w v) where
  one_rule : (r : Seen) (t u : Tree) → Rewrites w t u → Kept w b v r t → Kept w b v r u
  one_rule r t u s p =
      let x = rewrites_filled w b t u s p.held in
      record {
        held = held_kept w b t u s p.held;
        fits = fits_kept w z (filled b t) (filled b u) x p.fits;
        word = word_kept w (filled b t) (filled b u) x p.word;
        same = seen_kept w v z k (filled b t) (filled b u) x p.fits p.word ∙ p.same;
      }

  finished : (r : Seen) (t : Tree) → Kept w b v r t → Kept w b v r (finish w t)
  finished r t p = finish_keeps w (λ u. Kept w b v r u) (one_rule r) t p

  no_test : (hole : Tree) (o : Option Bound) → IsRegister o → IsTestedTree (held_by hole o) → ⊥
  no_test hole o h = register_is (λ t. IsTestedTree t → ⊥) hole o h (λ n x. x) (λ n x. x)

  no_test_word : (hole : Tree) (o : Option Bound) → IsWord w o → IsTestedTree (held_by hole o) → ⊥
  no_test_word hole o h = word_is w (λ t. IsTestedTree t → ⊥) hole o h (λ n l x. x)

  no_test_name : (hole : Tree) (o : Option Bound) → IsName o → IsTestedTree (held_by hole o) → ⊥
  no_test_name hole o h = name_is (λ t. IsTestedTree t → ⊥) hole o h (λ n x. x) (λ l x. x)

  mutual
    pub form_kept : (t : Tree) → IsHeld w b t → IsFitting w t → IsWordTree (filled b t) → Kept w b v (seen w (filled b t) v) (norm w t)
    form_kept (Number n) h f s = record { held = h; fits = f; word = s; same = refl }
    form_kept (Symbol n) h f s = record { held = h; fits = f; word = s; same = refl }
    form_kept (CodeLabel l) h f s = record { held = h; fits = f; word = s; same = refl }
    form_kept (Read c) h f s = record { held = h; fits = fitting_filled w b (Read c) h f; word = s; same = refl }
    form_kept (Load d a) h f s =
        let p = form_kept a h f s in
        finished _ (Load d (norm w a)) (record { held = p.held; fits = p.fits; word = p.word; same = ap (load_on (width_of w d) v) p.same })
    form_kept (Unary Neg a) h f s =
        let p = form_kept a h f s in
        finished _ (Unary Neg (norm w a)) (record { held = p.held; fits = p.fits; word = p.word; same = ap (unary_on w Neg) p.same })
    form_kept (Unary Not a) h f s =
        let p = form_kept a h f s in
        finished _ (Unary Not (norm w a)) (record { held = p.held; fits = p.fits; word = p.word; same = ap (unary_on w Not) p.same })
    form_kept (Unary Sxb a) h f s =
        let p = form_kept a h f s in
        finished _ (Unary Sxb (norm w a)) (record { held = p.held; fits = p.fits; word = p.word; same = ap (unary_on w Sxb) p.same })
    form_kept (Unary (Test r) a) h f s =
        let p = test_kept a h f s in
        finished _ (Unary (Test r) (norm w a)) (record { held = p.held; fits = p.fits; word = p.tested; same = p.same r })
    form_kept (Binary o a c) h f s =
        let p = form_kept a h.0 f.0 s.1 in
        let q = form_kept c h.1 f.1 s.2 in
        finished _ (Binary o (norm w a) (norm w c))
        (record { held = (p.held, q.held); fits = (p.fits, q.fits); word = (s.0, p.word, q.word); same = both_are w o _ _ _ _ p.same q.same })
    form_kept NoPair h f s = absurd s
    form_kept (AnyNumber n) h f s = record { held = h; fits = fitting_filled w b (AnyNumber n) h f; word = s; same = refl }
    form_kept (AnyName n) h f s = record { held = h; fits = fitting_filled w b (AnyName n) h f; word = s; same = refl }

    test_kept : (t : Tree) → IsHeld w b t → IsFitting w t → IsTestedTree (filled b t) → TestKept w b v t (norm w t)
    test_kept (Read (Flag n)) h f s = record { held = h; fits = tt; tested = tt; same = λ r. refl }
    test_kept (Read (RegisterHole n)) h f s = absurd (no_test (Read (RegisterHole n)) (slice_get b n) h s)
    test_kept (Read (Hard n)) h f s = absurd s
    test_kept (Read (Temp n)) h f s = absurd s
    test_kept (Read Pc) h f s = absurd s
    test_kept (Read Input) h f s = absurd s
    test_kept (Read Output) h f s = absurd s
    test_kept (Read Halt) h f s = absurd s
    test_kept (Binary Pair a c) h f s =
        let p = form_kept a h.0 f.0 s.0 in
        let q = form_kept c h.1 f.1 s.1 in
        let e = norm_pair w a c in
        subst (λ (t : Tree). TestKept w b v (Binary Pair a c) t) (sym e)
        (record { held = (p.held, q.held); fits = (p.fits, q.fits); tested = (p.word, q.word); same = λ r. both_are w (Cmp r) _ _ _ _ p.same q.same })
    test_kept (Binary _ a c) h f s = absurd s
    test_kept (Number n) h f s = absurd s
    test_kept (Symbol n) h f s = absurd s
    test_kept (CodeLabel l) h f s = absurd s
    test_kept (Load d a) h f s = absurd s
    test_kept (Unary o a) h f s = absurd s
    test_kept NoPair h f s = absurd s
    test_kept (AnyNumber n) h f s = absurd (no_test_word (AnyNumber n) (slice_get b n) h s)
    test_kept (AnyName n) h f s = absurd (no_test_name (AnyName n) (slice_get b n) h s)

pub filled_form_seen : FilledFormIsSeen
filled_form_seen w b t v z k h f s = (form_kept w b v z k t h f s).same
