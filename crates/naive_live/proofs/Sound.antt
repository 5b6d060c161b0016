-- Each function of a sound program is a sound one.
use Rattle.std.proofs.Common.{◌≡◌, ℕ, zero, suc, true, List, [], ◌∷◌, slice_get, Some, None, subst}
use Rattle.c_tree.specs.declared.typed.Function.{Function}
use Rattle.c_tree.specs.declared.typed.Typed.{Typed}
use Rattle.c_sound.specs.Sound.{body_sound, functions_sound, known_in}
use Rattle.naive_run.specs.Sound.{is_sound_function}
use Rattle.naive_live.specs.Function.{FunctionsAreSound}
use Rattle.naive_live.proofs.Storages.{both_so, all_at}

meant_at : (w : ℕ) (t : Typed) (fs : List Function) (g : ℕ) (f : Function) → functions_sound w t fs ≡ true → slice_get fs g ≡ Some f → body_sound (known_in w t f) f.body ≡ true
meant_at w t [] g f so e = absurd (let q : None ≡ Some f = e in cc)
meant_at w t (h ∷ fs) zero f so e =
    let k = both_so (body_sound (known_in w t h) h.body) (functions_sound w t fs) so in
    let same : h ≡ f = cc in subst (λ (x : Function). body_sound (known_in w t x) x.body ≡ true) same k.0
meant_at w t (h ∷ fs) (suc g) f so e =
    let k = both_so (body_sound (known_in w t h) h.body) (functions_sound w t fs) so in meant_at w t fs g f k.1 e

pub functions_are_sound : FunctionsAreSound
functions_are_sound kept w t g f sound meant e =
    let k = both_so (functions_sound w t t.functions) _ meant in
    record { meant = meant_at w t t.functions g f k.0 e; sound = all_at (is_sound_function kept w t) t.functions g f sound e }
