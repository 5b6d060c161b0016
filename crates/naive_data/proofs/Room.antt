-- The objects of a source within the limits have room.
use Rattle.std.proofs.Common.{◌≡◌, ℕ, ◌+◌, ◌≤◌, Bool, true, false, ◌||◌, List, [], ◌∷◌, ◌++◌, refl, arith}
use Rattle.std.specs.Prelude.{nat_lt}
use Rattle.std.proofs.lemmas.Bool.Decides.{nat_tests}
use Rattle.vp_io.specs.declared.answers.Reason.{Reason}
use Rattle.c_tree.specs.declared.token.At.{At}
use Rattle.c_tree.specs.declared.typed.Static.{Static}
use Rattle.c_limits.specs.Frames.{object_bytes}
use Rattle.c_limits.specs.Limits.{told_if, function_faults, static_faults}
use Rattle.naive_data.specs.Layout.{size_of}
use Rattle.naive_data.specs.Placed.{HaveRoom}

nothing_told : (a b : Bool) (rule : ℕ) (at : At) (rest : List Reason) → told_if (a || b) rule at rest ≡ [] → (a ≡ false) × (rest ≡ [])
nothing_told true b rule at rest e = absurd (cc)
nothing_told false true rule at rest e = absurd (cc)
nothing_told false false rule at rest e = (refl, e)

within : (w room n before : ℕ) (ss : List Static) → before ≤ room → static_faults w room n before ss ≡ [] → before + size_of w ss ≤ room
within w room n before [] le e = omega (arith, le)
within w room n before (s ∷ ss) le e =
    let taken = before + object_bytes w s.object in
    let told = nothing_told (nat_lt room taken) (nat_lt 60000 (n + 1)) 43 s.object.at (static_faults w room (n + 1) taken ss) e in
    let fits : taken ≤ room = let h = told.0 in grind (arith, nat_tests, h) in
    let rest = within w room (n + 1) taken ss fits told.1 in
    omega (arith, rest)

nothing_behind : (rs ss : List Reason) → rs ++ ss ≡ [] → ss ≡ []
nothing_behind [] ss e = e
nothing_behind (r ∷ rs) ss e = absurd (cc)

pub have_room : HaveRoom
have_room kept w room source e =
    let h = within w room 0 0 source.statics (omega arith) (nothing_behind (function_faults kept w 0 source.functions) (static_faults w room 0 0 source.statics) e) in
    omega (arith, h)
