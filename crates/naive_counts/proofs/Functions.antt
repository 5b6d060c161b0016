-- A function's naive code takes no more transfers than the function weighs.
use Rattle.std.proofs.Common.{◌≡◌, ℕ, zero, suc, ◌+◌, ◌≤◌, ◌++◌, refl, arith}
use Rattle.std.specs.Prelude.{Bool, true, false, length}
use Rattle.c_limits.specs.Frames.{word_bytes, frame_bytes}
use Rattle.c_meaning.specs.Run.{is_main}
use Rattle.naive_code.specs.Storage.{scalar_count}
use Rattle.naive_code.specs.Functions.{entry_from, body_steps, ending, nowhere}
use Rattle.naive_counts.specs.Counts.{most_with, IsWithinWeight, AreReturnsWithinWeight}
use Rattle.naive_counts.proofs.Longest.{most_append}
use Rattle.naive_counts.proofs.Statements.{statement_within}

entry_most : (per bytes offset i count : ℕ) → most_with per (entry_from bytes offset i count) ≡ count
entry_most per bytes offset i zero = refl
entry_most per bytes offset i (suc n) = let e = entry_most per bytes offset (suc i) n in omega (arith, e)

ending_most : (per : ℕ) (b : Bool) (t : ℕ) → most_with per (ending b t) ≤ 2
ending_most per true t = omega arith
ending_most per false t = omega arith

pub returns_are_within_weight : AreReturnsWithinWeight
returns_are_within_weight kept w pushed t f label per so small =
    let first = entry_from (word_bytes w) (frame_bytes kept w f + pushed) 0 (length f.params) in
    let body = (body_steps kept w t f).ops nowhere (scalar_count f) (label + 1) in
    let last = ending (is_main f) (scalar_count f + (body_steps kept w t f).temps) in
    let e = most_append per first (body ++ last) in let e1 = most_append per body last in
    let g = entry_most per (word_bytes w) (frame_bytes kept w f + pushed) 0 (length f.params) in
    let g1 = statement_within kept w t f per small f.body so nowhere (scalar_count f) (label + 1) in
    let g2 = ending_most per (is_main f) (scalar_count f + (body_steps kept w t f).temps) in
    omega (arith, e, e1, g, g1, g2)

pub code_is_within_weight : IsWithinWeight
code_is_within_weight kept w pushed t f label so =
    let e = returns_are_within_weight kept w pushed t f label 0 so (omega arith) in omega (arith, e)
