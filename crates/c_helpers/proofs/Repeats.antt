-- Repetition, and a view of what is repeated.
use Rattle.std.proofs.Common.{◌≡◌, ℕ, zero, suc, refl, ap, ◌∙◌}
use Rattle.c_helpers.specs.Code.{unless_zero, repeated}

pub stays_put : {H : Type 0} (k : ℕ) (t : H → ℕ) (f : H → H) (h : H) → t h ≡ 0 → repeated k t f h ≡ h
stays_put zero t f h e = refl
stays_put (suc k) t f h e = ap (λ v. unless_zero v (repeated k t f (f h)) h) e

pub goes_on : {H : Type 0} (k v : ℕ) (t : H → ℕ) (f : H → H) (h : H) → t h ≡ suc v → repeated (suc k) t f h ≡ repeated k t f (f h)
goes_on k v t f h e = ap (λ v. unless_zero v (repeated k t f (f h)) h) e

pub either_way : {T H : Type 0} (e : T → H) (v : ℕ) (a b : T) → unless_zero v (e a) (e b) ≡ e (unless_zero v a b)
either_way e zero a b = refl
either_way e (suc v) a b = refl

module _ (T H : Type 0) (e : T → H) (test : H → ℕ) (f : H → H) (seen : T → ℕ) (g : T → T) (tests : (t : T) → test (e t) ≡ seen t) (steps : (t : T) → f (e t) ≡ e (g t)) where
  pub viewed : (k : ℕ) (t : T) → repeated k test f (e t) ≡ e (repeated k seen g t)
  viewed zero t = refl
  viewed (suc k) t =
      ap (λ v. unless_zero v (repeated k test f (f (e t))) (e t)) (tests t)
      ∙ (ap (λ h. unless_zero (seen t) (repeated k test f h) (e t)) (steps t)
      ∙ (ap (λ h. unless_zero (seen t) h (e t)) (viewed k (g t)) ∙ either_way e (seen t) (repeated k seen g (g t)) t))
