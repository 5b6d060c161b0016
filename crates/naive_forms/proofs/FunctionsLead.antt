-- The operations of a sound function lead to its own labels and to functions of the source.
use Rattle.std.proofs.Common.{◌≡◌, ℕ, zero, suc, ◌+◌, ◌≤◌, ◌∷◌, ◌++◌, refl, arith, true, false}
use Rattle.std.specs.Prelude.{Bool, not, length, Contains}
use Rattle.std.proofs.Math.Nat.{le-max_left, le-max_right}
use Rattle.std.proofs.lemmas.List.Elements.{recursion_from_All, All-from_recursion, All-contains_itself}
use Rattle.c_tree.specs.declared.typed.Typed.{Typed}
use Rattle.c_limits.specs.Frames.{word_bytes, frame_bytes}
use Rattle.c_limits.specs.Depths.{greatest_in, arguments_of}
use Rattle.c_meaning.specs.Run.{is_main}
use Rattle.naive_code.specs.Storage.{scalar_count}
use Rattle.naive_code.specs.Functions.{entry_from, site_of, body_steps, ending, nowhere, function_ops}
use Rattle.naive_run.specs.Sound.{left_of}
use Rattle.naive_builder.specs.Appending.{opened}
use Rattle.naive_forms.specs.Operations.{Goes, most_arguments, OperationsGo}
use Rattle.naive_forms.proofs.Leading.{Going, open_left, open_right, going_append}
use Rattle.naive_forms.proofs.ExpressionsLead.{both_so}
use Rattle.naive_forms.proofs.StatementsLead.{statement_leads}

module _ (source : Typed) (labels : ℕ → Type 0) (most : ℕ) where
  entry_goes : (bytes offset i n : ℕ) → Going source labels most (entry_from bytes offset i n)
  entry_goes bytes offset i zero = tt
  entry_goes bytes offset i (suc n) = (refl, entry_goes bytes offset (suc i) n)

  ending_goes : (b : Bool) (t : ℕ) → Going source labels most (ending b t)
  ending_goes true t = (refl, (refl, tt))
  ending_goes false t = tt

not_so : (b : Bool) → not b ≡ true → b ≡ true → ⊥
not_so true e h = grind (arith, e)
not_so false e h = grind (arith, h)

pub operations_go : OperationsGo
operations_go kept w pushed t f label sound =
    let ls = label ∷ opened (function_ops kept w pushed t f label) in
    let labels = Contains ls in
    let most = most_arguments f in
    let first = entry_from (word_bytes w) (frame_bytes kept w f + pushed) 0 (length f.params) in
    let p = body_steps kept w t f in
    let body = p.ops nowhere (scalar_count f) (label + 1) in
    let last = ending (is_main f) (scalar_count f + p.temps) in
    let own = (recursion_from_All (Contains ls) ls (All-contains_itself ls)).1 in
    let o = open_left t labels most body last (open_right t labels most first (body ++ last) own) in
    let s4 = both_so _ _ (both_so _ _ (both_so _ _ sound).0).0 in
    let s2 = both_so _ _ s4.0 in
    let s1 = both_so _ _ s2.0 in
    let two : 2 ≤ most = le-max_left 2 (greatest_in arguments_of f.body) in
    let all : greatest_in arguments_of f.body ≤ most = le-max_right 2 (greatest_in arguments_of f.body) in
    let left = left_of w t f f.body in
    let h = (statement_leads t labels most w f (site_of kept w t f) f.locals two f.body s1.0 all).ops nowhere (scalar_count f) (label + 1)
    (λ e. absurd (not_so left.breaks s1.1 e)) (λ e. absurd (not_so left.continues s2.1 e)) o in
    All-from_recursion (Goes t labels most) (function_ops kept w pushed t f label)
    (going_append t labels most first (body ++ last) (entry_goes t labels most (word_bytes w) (frame_bytes kept w f + pushed) 0 (length f.params))
    (going_append t labels most body last h.0 (ending_goes t labels most (is_main f) (scalar_count f + p.temps))))
