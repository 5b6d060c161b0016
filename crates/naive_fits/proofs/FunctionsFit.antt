-- The operations of a function can be made.
use Rattle.std.proofs.Common.{◌≡◌, ℕ, zero, suc, ◌+◌, ◌*◌, ◌/◌, ◌≤◌, List, ◌++◌, Option, Some, arith, true, false}
use Rattle.std.proofs.lemmas.List.Elements.{All-from_recursion}
use Rattle.std.specs.Prelude.{Bool, ◌||◌, not, nat_le, length, slice_get}
use Rattle.std.specs.List.{list_all}
use Rattle.rtl_word.specs.Words.{IsWordSize}
use Rattle.rtl_tree.specs.declared.expressions.BinOp.{BinOp}
use Rattle.md_rows.specs.declared.description.RawDescription.{RawDescription}
use Rattle.c_tree.specs.declared.typed.Function.{Function}
use Rattle.c_tree.specs.declared.typed.Typed.{Typed}
use Rattle.c_limits.specs.Frames.{word_bytes, frame_bytes, is_helper}
use Rattle.c_meaning.specs.Run.{is_main}
use Rattle.temp_machine.specs.Routines.{pushed_by}
use Rattle.naive_code.specs.Storage.{scalar_count}
use Rattle.naive_code.specs.Functions.{entry_from, body_steps, ending, nowhere, function_ops}
use Rattle.naive_run.specs.Sound.{left_of, is_scalar, is_sound_function}
use Rattle.naive_fits.specs.Doable.{IsDoable}
use Rattle.naive_fits.specs.Expandable.{is_expandable_function, is_expandable}
use Rattle.naive_fits.specs.Fitting.{OperationsFit}
use Rattle.naive_fits.proofs.Parts.{both_so, at_most, passes, holds_at, Fit, fit_append, small}
use Rattle.naive_fits.proofs.Frames.{frame_whole, parameter_offset}
use Rattle.naive_fits.proofs.StatementsFit.{statement_fits}

body_sound : (kept : List ℕ) (w : ℕ) (t : Typed) (f : Function) → is_sound_function kept w t f ≡ true → (left_of w t f f.body).sound ≡ true
body_sound kept w t f e =
    let body = left_of w t f f.body in
    let p = both_so _ (not (is_helper f.name) || nat_le (frame_bytes kept w f + word_bytes w) 256) e in
    let q = both_so _ (not (is_main f) || nat_le (length f.params) 0) p.0 in
    let r = both_so _ (list_all is_scalar f.params) q.0 in
    let s = both_so _ (not body.continues) r.0 in
    (both_so body.sound (not body.breaks) s.0).0

few_parameters : (has : BinOp → Bool) (w : ℕ) (t : Typed) → is_expandable has w t ≡ true → (n : ℕ) (g : Function) → slice_get t.functions n ≡ Some g → length g.params ≤ 16
few_parameters has w t e n g is = at_most (length g.params) 16 (both_so _ _ (passes (is_expandable_function has w) t.functions n g e is)).0

module _ (d : RawDescription) (size : IsWordSize d.word) where
  entry_fits : (frame m : ℕ) (link : Option ℕ) (i n : ℕ) → frame ≡ word_bytes d.word * suc m → frame ≤ 32000 → i + n ≤ 16
      → Fit d (entry_from (word_bytes d.word) (frame + pushed_by link (d.word / 8)) i n)
  entry_fits frame m link i zero e le few = tt
  entry_fits frame m link i (suc n) e le few =
      (parameter_offset d.word frame m i link size e le (omega (arith, few)), entry_fits frame m link (suc i) n e le (omega (arith, few)))

  ending_fits : (main : Bool) (t : ℕ) → Fit d (ending main t)
  ending_fits true t = (small d size 0 (omega arith), (tt, tt))
  ending_fits false t = tt

pub operations_fit : OperationsFit
operations_fit kept d link has t n f label size there bounds sound ok is =
    let w = d.word in
    let frame : frame_bytes kept w f ≤ 32000 = holds_at (λ f. frame_bytes kept w f ≤ 32000) t.functions n f bounds.frames is in
    let few = few_parameters has w t ok in
    let own = few n f is in
    let params : 0 + length f.params ≤ 16 = omega (arith, own) in
    let parts = both_so _ _ (passes (is_expandable_function has w) t.functions n f ok is) in
    let whole = frame_whole kept w f in
    let p = body_steps kept w t f in
    let first = entry_from (word_bytes w) (frame_bytes kept w f + pushed_by link (w / 8)) 0 (length f.params) in
    let body = p.ops nowhere (scalar_count f) (label + 1) in
    let last = ending (is_main f) (scalar_count f + p.temps) in
    let fits = statement_fits d size has there t f bounds.functions few kept bounds.statics frame f.body
    (body_sound kept w t f (passes (is_sound_function kept w t) t.functions n f sound is)) parts.1 in
    All-from_recursion (IsDoable d) (function_ops kept w (pushed_by link (w / 8)) t f label)
    (fit_append d first (body ++ last) (entry_fits d size (frame_bytes kept w f) whole.0 link 0 (length f.params) whole.1 frame params)
    (fit_append d body last (fits.ops nowhere (scalar_count f) (label + 1)) (ending_fits d size (is_main f) (scalar_count f + p.temps))))
