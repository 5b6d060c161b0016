-- Bytes that a transfer can't touch, and cells that are neither registers nor temporaries.
use Rattle.std.proofs.Common.{◌≡◌, ℕ, zero, suc, ◌+◌, ◌-◌, ◌%◌, ◌<◌, ◌≤◌, ◌&&◌, ◌==◌, Bool, true, false, cond, List, [], Option, Some, None, Result, Ok, Err, refl, sym, ap, ◌∙◌, subst, arith, inl, inr}
use Rattle.std.specs.Prelude.{nat_le, nat_lt, ◌⊎◌}
use Rattle.rtl_tree.specs.declared.cells.Cell.TheVariants.{Hard, Temp, Flag, Pc, Input, Output, Halt, Hole}
use Rattle.rtl_tree.specs.Moves.{Move}
use Rattle.rtl_value.specs.declared.state.Trap.TheVariants.{Address, Align}
use Rattle.rtl_effect.specs.Views.{Stop, Wild, Traps, View, bind, all_reached, width_of, touched, seen}
use Rattle.rtl_effect.specs.Effects.{Storing, Patch, patch_of, place_of, byte_of, patched, view_after, Done, effect}
use Rattle.rtl_effect.proofs.EffectGrowth.{Patches, neither, either}
use Rattle.rtl_norm_value.proofs.WordViews.{effect_leaves}
use Rattle.color_spilling.specs.Passing.{Passes, over, more}
use Rattle.color_spilling.proofs.Memory.{inside_low, inside_high}
use Rattle.color_holding.specs.Holding.{IsPlainView}
use Rattle.color_holding.proofs.Members.{false_true, true_false}

reached_each : (r : ℕ → Bool) (a n : ℕ) → all_reached r a n ≡ true → (b : ℕ) → a ≤ b → b < a + n → r b ≡ true
reached_each r a zero e b p q = absurd (omega (arith, p, q))
reached_each r a (suc n) e b p q = split (grind (arith, p)) (reached_each r (a + 1) n (rest (r a) refl e))
  where
    rest : (x : Bool) → r a ≡ x → cond x (all_reached r (a + 1) n) false ≡ true → all_reached r (a + 1) n ≡ true
    rest true f g = g
    rest false f g = false_true g

    at_head : (x : Bool) → r a ≡ x → cond x (all_reached r (a + 1) n) false ≡ true → r a ≡ true
    at_head true f g = f
    at_head false f g = false_true g

    split : (a ≡ b) ⊎ (a + 1 ≤ b) → ((c : ℕ) → a + 1 ≤ c → c < a + 1 + n → r c ≡ true) → r b ≡ true
    split (inl s) k = subst (λ c. r c ≡ true) s (at_head (r a) refl e)
    split (inr s) k = k b s (omega (arith, q))

touch_ok : (n : ℕ) (v : View) (x : Option ℕ) (a : ℕ) → touched n v x ≡ Ok a → all_reached v.reach a n ≡ true
touch_ok n v None a e = absurd (let k : Err Wild ≡ Ok a = e in cc)
touch_ok n v (Some y) a e = size (nat_le (y + n) v.size) e
  where
    reach : (b : Bool) → all_reached v.reach y n ≡ b → cond b (Ok y) (Err Wild) ≡ Ok a → all_reached v.reach a n ≡ true
    reach true f g = let s : y ≡ a = cc in subst (λ (c : ℕ). all_reached v.reach c n ≡ true) s f
    reach false f g = absurd (let k : Err Wild ≡ Ok a = g in cc)

    align : (b : Bool) → cond b (cond (all_reached v.reach y n) (Ok y) (Err Wild)) (Err (Traps Align)) ≡ Ok a → all_reached v.reach a n ≡ true
    align true g = reach (all_reached v.reach y n) refl g
    align false g = absurd (let k : Err (Traps Align) ≡ Ok a = g in cc)

    size : (b : Bool) → cond b (cond (y % n == 0) (cond (all_reached v.reach y n) (Ok y) (Err Wild)) (Err (Traps Align))) (Err (Traps Address)) ≡ Ok a → all_reached v.reach a n ≡ true
    size true g = align _ g
    size false g = absurd (let k : Err (Traps Address) ≡ Ok a = g in cc)

bind_ok : {A B : Type 0} (u : Result A Stop) (f : A → Result B Stop) (y : B) → bind u f ≡ Ok y → (x : A) × (u ≡ Ok x) × (f x ≡ Ok y)
bind_ok (Ok x) f y e = (x, refl, e)
bind_ok (Err s) f y e = absurd (let k : Err s ≡ Ok y = e in cc)

-- each byte that a transfer stores may be touched
patch_reached : (w : ℕ) (v : View) (o : Option Storing) (p : Patch) → patch_of w o v ≡ Ok (Some p) → (b : ℕ) → p.at ≤ b → b < p.at + p.count → v.reach b ≡ true
patch_reached w v None p e b l h = absurd (let k : Ok None ≡ Ok (Some p) = e in cc)
patch_reached w v (Some s) p e b l h =
    let first = bind_ok (seen w s.value v) _ (Some p) e in
    let second = bind_ok (place_of w s.width s.place v) (λ a. Ok (Some (record { at = a; count = width_of w s.width; value = first.0 }))) (Some p) first.2 in
    let third = bind_ok (seen w s.place v) (touched (width_of w s.width) v) second.0 second.1 in
    let is : record { at = second.0; count = width_of w s.width; value = first.0 } ≡ p = cc in
    let at_is : second.0 ≡ p.at = ap (λ q. q.at) is in
    let count_is : width_of w s.width ≡ p.count = ap (λ q. q.count) is in
    reached_each v.reach second.0 (width_of w s.width) (touch_ok (width_of w s.width) v third.0 second.0 third.2) b (omega (arith, l, at_is)) (omega (arith, h, at_is, count_is))

-- so a byte that may not be touched stays
pub patch_still : (w : ℕ) (v : View) (o : Option Storing) (p : Option Patch) (m : ℕ → Option ℕ) → patch_of w o v ≡ Ok p → (b : ℕ) → v.reach b ≡ false → patched p m b ≡ m b
patch_still w v o None m e b unreached = refl
patch_still w v o (Some p) m e b unreached = by (nat_le p.at b && nat_lt b (p.at + p.count)) refl
  where
    by : (x : Bool) → (nat_le p.at b && nat_lt b (p.at + p.count)) ≡ x → cond x (byte_of p.value (b - p.at)) (m b) ≡ m b
    by true f = true_false (sym (patch_reached w v o p e b (inside_low _ _ b f) (inside_high _ _ b f)) ∙ unreached)
    by false f = refl

-- and so does what the new side stores, which is where the old side does
pub new_patch_still : (w : ℕ) (v : View) (o : Option Storing) (p q : Option Patch) (m : ℕ → Option ℕ) → Patches p q → patch_of w o v ≡ Ok p → (b : ℕ) → v.reach b ≡ false → patched q m b ≡ m b
new_patch_still w v o p q m neither e b f = refl
new_patch_still w v o p q m (either at count x y s) e b f = by (nat_le at b && nat_lt b (at + count)) refl
  where
    by : (c : Bool) → (nat_le at b && nat_lt b (at + count)) ≡ c → cond c (byte_of y (b - at)) (m b) ≡ m b
    by true g = true_false (sym (patch_reached w v o (record { at = at; count = count; value = x }) e b (inside_low _ _ b g) (inside_high _ _ b g)) ∙ f)
    by false g = refl

-- ---- plain cells

plain_after : (w : ℕ) (ms : List Move) (p : Option Patch) (v : View) → IsPlainView w v → IsPlainView w (view_after w ms p v)
plain_after w ms p v h (Hard n) e = false_true e
plain_after w ms p v h (Temp n) e = false_true e
plain_after w ms p v h Pc e = h Pc refl
plain_after w ms p v h Input e = refl
plain_after w ms p v h Output e = refl
plain_after w ms p v h Halt e = refl
plain_after w ms p v h (Flag n) e = refl
plain_after w ms p v h (Hole n) e = refl

pub effect_plain : (w : ℕ) (ms : List Move) (v : View) (d : Done) → effect w ms v ≡ Ok d → IsPlainView w v → IsPlainView w d.view
effect_plain w ms v d e h = let l = effect_leaves w ms v d e in subst (IsPlainView w) l.1 (plain_after w ms l.0 v h)

pub passes_plain : (w : ℕ) (code : List (List Move)) (z x : View) → Passes w code z x → IsPlainView w z → IsPlainView w x
passes_plain w _ z _ (over _) h = h
passes_plain w _ z x (more ms rest _ _ d e o i further) h = passes_plain w rest d.view x further (effect_plain w ms z d e h)

pub passes_none : (w : ℕ) (z x : View) → Passes w [] z x → z ≡ x
passes_none w z _ (over _) = refl
