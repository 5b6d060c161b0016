-- The lowered program and the source: each goes as far as the other.
use Rattle.std.proofs.Common.{◌≡◌, ℕ, suc, ◌+◌, List, [], ◌∷◌, ◌++◌, map, length, Option, Some, None, Bool, true, false, if◌then◌else◌, slice_get, refl, sym, ap, subst, ◌∙◌, arith}
use Rattle.behaviour.specs.Behaviour.{Wrong, Behaviour, Running, Ended, Failed, output, IsPrefix, IsExtendedBy}
use Rattle.behaviour.specs.Run.{NeverFails, Same}
use Rattle.behaviour.proofs.Prefix.{prefix_trans}
use Rattle.rtl_word.specs.Words.{IsWordSize}
use Rattle.c_tree.specs.declared.typed.Function.{Function}
use Rattle.c_tree.specs.declared.typed.Typed.{Typed}
use Rattle.c_meaning.specs.Parts.{Setting, State, Part, Gives, Cut, Fails, Value}
use Rattle.c_meaning.specs.Statements.{execution}
use Rattle.c_meaning.specs.Run.{call_at, enter, world, taken, seen, at_start, begin, main_in, is_main, source_run}
use Rattle.c_meaning.proofs.Below.{out_of}
use Rattle.c_meaning.proofs.Runs.{source_is_run, extended, call_below}
use Rattle.c_lowering.specs.Lowering.{Operators, lower, lower_function, helpers}
use Rattle.c_lowering.specs.Law.{LoweredDoesTheSame}
use Rattle.c_meaning.specs.Settings.{setting_of}
use Rattle.c_lowering.proofs.Fair.{IsFair}
use Rattle.c_lowering.proofs.Frames.{fair}
use Rattle.c_lowering.proofs.Following.{at_least, at_most, Rel}
use Rattle.c_lowering.proofs.Sandwich.{sandwich, shown}
use Rattle.c_lowering.proofs.Lowered.{none_some}
use Rattle.c_lowering.proofs.Calls.{call_rel}

output_seen : (q : Part Value) → output (seen q) ≡ out_of q
output_seen (Gives o v s) = refl
output_seen (Cut o) = refl
output_seen (Fails o why) = refl

-- what is seen of related parts, where the source's doesn't fail
abbrev Sound : Behaviour → Type 0
Sound b = (out : List ℕ) (why : Wrong) → b ≡ Failed out why → ⊥

seen_at_least : (p q : Part Value) → Sound (seen p) → Rel at_least p q → IsExtendedBy (seen p) (seen q)
seen_at_least (Gives out v s) q ok r = ap seen r.goes
seen_at_least (Cut out) q ok r = subst (IsPrefix out) (sym (output_seen q)) r.goes
seen_at_least (Fails out why) q ok r = absurd (ok out why refl)

seen_at_most : (p q : Part Value) → Sound (seen p) → Rel at_most p q → IsExtendedBy (seen q) (seen p)
seen_at_most (Gives out v s) (Gives m u t) ok r = ap seen (sym r.goes)
seen_at_most (Gives out v s) (Cut m) ok r = r.goes
seen_at_most (Gives out v s) (Fails m why) ok r = absurd r.goes
seen_at_most (Cut out) (Gives m u t) ok r = absurd r.goes
seen_at_most (Cut out) (Cut m) ok r = r.goes
seen_at_most (Cut out) (Fails m why) ok r = absurd r.goes
seen_at_most (Fails out why) q ok r = absurd (ok out why refl)

extends_trans : (a b c : Behaviour) → IsExtendedBy a b → IsExtendedBy b c → IsExtendedBy a c
extends_trans (Running out) b c e f = prefix_trans _ _ _ e (shown b c f)
extends_trans (Ended out status) b c e f = subst (λ x. IsExtendedBy x c) e f
extends_trans (Failed out why) b c e f = subst (λ x. IsExtendedBy x c) e f

-- ---- which function is main

abbrev first_or : Bool → ℕ → ℕ
first_or b k = if b then 0 else suc k

main_kept : (low : Function → Function) → ((f : Function) → is_main (low f) ≡ is_main f) → (fs hs : List Function) (g : Function) → slice_get fs (main_in fs) ≡ Some g → main_in (map low fs ++ hs) ≡ main_in fs
main_kept low same [] hs g e = absurd (none_some g e)
main_kept low same (f ∷ fs) hs g e = ap (λ b. first_or b (main_in (map low fs ++ hs))) (same f) ∙ by_first (is_main f) refl (main_kept low same fs hs g)
  where
    by_first : (b : Bool) → is_main f ≡ b → (slice_get fs (main_in fs) ≡ Some g → main_in (map low fs ++ hs) ≡ main_in fs)
        → first_or (is_main f) (main_in (map low fs ++ hs)) ≡ first_or (is_main f) (main_in fs)
    by_first true p rest = ap (λ b. first_or b (main_in (map low fs ++ hs))) p ∙ sym (ap (λ b. first_or b (main_in fs)) p)
    by_first false p rest = ap (first_or (is_main f)) (rest (sym (ap (λ b. slice_get (f ∷ fs) (first_or b (main_in fs))) p) ∙ e))

module _ (m : Setting) (z : IsWordSize m.bits) (fair : IsFair m) (p : Operators) (t : Typed) (input : List ℕ) (never : NeverFails (source_run m t input)) where
  abbrev t' : Typed
  t' = lower p m.bits t

  abbrev first : ℕ
  first = main_in t.functions

  abbrev start : State
  start = at_start m.bits t input

  abbrev source : ℕ → ℕ → Part Value
  source n d = call_at m t n d 0 begin first [] start

  abbrev target : ℕ → ℕ → Part Value
  target n d = call_at m t' n d 0 begin first [] start

  sound : (n : ℕ) → Sound (seen (source n n))
  sound n out why e = never.at n out why e

  main_is : (o : Option Function) → slice_get t.functions first ≡ o → main_in t'.functions ≡ first
  main_is None e = absurd (never.at 1 [] _ (ap (λ g. seen (enter g m 0 (λ h. (execution (world m t (call_at m t 1 0 (0 + taken m g)) h) 1 h.body).does) begin [] start)) e))
  main_is (Some g) e = main_kept (lower_function p (length t.functions)) (λ f. refl) t.functions (helpers m.bits p) g e

  target_run : (n : ℕ) → source_run m t' input n ≡ seen (target n n)
  target_run n = ap (λ f. seen (call_at m t' n n 0 begin f [] start)) (main_is (slice_get t.functions first) refl)

  up : (n : ℕ) → (k : ℕ) × IsExtendedBy (source_run m t input n) (source_run m t' input k)
  up n =
      let k = n + m.bits in
      let longer = (source_is_run m t input).extends n k (omega arith) in
      let r = call_rel m z fair p t at_least k (omega arith) k 0 begin first [] start in
      let here : IsExtendedBy (seen (source k k)) (seen (target k (suc k))) = seen_at_least (source k k) (target k (suc k)) (sound k) r in
      let more : IsExtendedBy (seen (target k (suc k))) (seen (target (suc k) (suc k))) =
      extended _ _ (call_below m t' k (suc k) (omega arith) (suc k) (suc k) (omega arith) 0 begin first [] start) in
      (suc k, extends_trans _ _ _ longer (subst (IsExtendedBy (seen (source k k))) (sym (target_run (suc k))) (extends_trans _ _ _ here more)))

  down : (k : ℕ) → (n : ℕ) × IsExtendedBy (source_run m t' input k) (source_run m t input n)
  down k =
      let r = call_rel m z fair p t at_most k tt k 0 begin first [] start in
      (k, subst (λ b. IsExtendedBy b (seen (source k k))) (sym (target_run k)) (seen_at_most (source k k) (target k k) (sound k) r))

  runs_same : Same (source_run m t input) (source_run m t' input)
  runs_same = sandwich _ _ never up down

pub lowered_does_the_same : LoweredDoesTheSame
lowered_does_the_same kept w stack z p t input never = runs_same (setting_of kept w stack) z (fair kept w stack) p t input never
