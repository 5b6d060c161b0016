-- What a part of a source run asks of the machine, and how parts compose.
use Rattle.std.proofs.Common.{◌≡◌, ℕ, suc, ◌≤◌, List, [], ◌∷◌, ◌++◌, refl, sym, ap, ◌∙◌, subst}
use mathlib.Core.List.{append_assoc}
use Rattle.std.proofs.lemmas.List.{append-nil}
use Rattle.behaviour.specs.Behaviour.{Running, Wrong}
use Rattle.behaviour.specs.Run.{IsFollowedBy}
use Rattle.behaviour.specs.Steps.{run, Leads, Comes, Machine}
use Rattle.behaviour.proofs.Reaching.{followed_sooner}
use Rattle.behaviour.proofs.Stepping.{comes_refl, comes_trans, comes_followed, leads_followed, leads_comes}
use Rattle.c_meaning.specs.Parts.{State, Part, Gives, Cut, Fails, after, then_do}
use Rattle.temp_machine.specs.Routines.{Image, Target}
use Rattle.temp_machine.specs.Small.{Point, small_machine}

module _ (t : Target) (u : Image) where
  abbrev pub M : Machine
  M = small_machine t u

  -- the machine comes to where Q holds, or as far as the bound, with the same output; of what fails nothing is asked
  pub data Does {A : Type 0} (n : ℕ) (c : Point) (Q : A → State → Point → Type 0) : Part A → Type 0 where
    comes : (out : List ℕ) (v : A) (s : State) (d : Point) → Comes M c d → d.printed ≡ c.printed ++ out → Q v s d → Does n c Q (Gives out v s)
    late : (out : List ℕ) → IsFollowedBy n (Running (c.printed ++ out)) (run M c) → Does n c Q (Cut out)
    any : (out : List ℕ) (why : Wrong) → Does n c Q (Fails out why)

  longer : (c d e : Point) (out more : List ℕ) → d.printed ≡ c.printed ++ out → e.printed ≡ d.printed ++ more → e.printed ≡ c.printed ++ (out ++ more)
  longer c d e out more p q = q ∙ ap (λ xs. xs ++ more) p ∙ append_assoc c.printed out more

  -- what was printed on the way is printed before
  pub does_from : {A : Type 0} (n : ℕ) (c d : Point) (Q : A → State → Point → Type 0) (out : List ℕ) (x : Part A)
      → Comes M c d → d.printed ≡ c.printed ++ out → Does n d Q x → Does n c Q (after out x)
  does_from n c d Q out (Gives more v s) to p (comes _ _ _ e on q h) = comes (out ++ more) v s e (comes_trans M c d e to on) (longer c d e out more p q) h
  does_from n c d Q out (Cut more) to p (late _ l) =
      late (out ++ more) (comes_followed M n (Running (c.printed ++ (out ++ more))) c d to
      (subst (λ o. IsFollowedBy n (Running o) (run M d)) (ap (λ xs. xs ++ more) p ∙ append_assoc c.printed out more) l))
  does_from n c d Q out (Fails more why) to p (any _ _) = any (out ++ more) why

  -- nothing is printed on the way
  pub does_quietly : {A : Type 0} (n : ℕ) (c d : Point) (Q : A → State → Point → Type 0) (x : Part A)
      → Comes M c d → d.printed ≡ c.printed → Does n d Q x → Does n c Q x
  does_quietly n c d Q (Gives more v s) to p (comes _ _ _ e on q h) = comes more v s e (comes_trans M c d e to on) (q ∙ ap (λ xs. xs ++ more) p) h
  does_quietly n c d Q (Cut more) to p (late _ l) =
      late more (comes_followed M n (Running (c.printed ++ more)) c d to (subst (λ o. IsFollowedBy n (Running (o ++ more)) (run M d)) p l))
  does_quietly n c d Q (Fails more why) to p (any _ _) = any more why

  -- a step or more counts for a turn or a call
  pub does_later : {A : Type 0} (n : ℕ) (c d : Point) (Q : A → State → Point → Type 0) (x : Part A)
      → Leads M c d → d.printed ≡ c.printed → Does n d Q x → Does (suc n) c Q x
  does_later n c d Q (Gives more v s) to p (comes _ _ _ e on q h) =
      comes more v s e (comes_trans M c d e (leads_comes M c d to) on) (q ∙ ap (λ xs. xs ++ more) p) h
  does_later n c d Q (Cut more) to p (late _ l) =
      late more (leads_followed M n (Running (c.printed ++ more)) c d to (subst (λ o. IsFollowedBy n (Running (o ++ more)) (run M d)) p l))
  does_later n c d Q (Fails more why) to p (any _ _) = any more why

  pub fewer : {A : Type 0} (n m : ℕ) (c : Point) (Q : A → State → Point → Type 0) (x : Part A) → m ≤ n → Does n c Q x → Does m c Q x
  fewer n m c Q (Gives out v s) le (comes _ _ _ e on q h) = comes out v s e on q h
  fewer n m c Q (Cut out) le (late _ l) = late out (followed_sooner n m (Running (c.printed ++ out)) (run M c) le l)
  fewer n m c Q (Fails out why) le (any _ _) = any out why

  pub does_then : {A B : Type 0} (n : ℕ) (c : Point) (Q : A → State → Point → Type 0) (P : B → State → Point → Type 0) (x : Part A) (h : A → State → Part B)
      → Does n c Q x → ((v : A) (s : State) (d : Point) → Q v s d → Does n d P (h v s)) → Does n c P (then_do x h)
  does_then n c Q P (Gives out v s) h (comes _ _ _ d on q k) each = does_from n c d P out (h v s) on q (each v s d k)
  does_then n c Q P (Cut out) h (late _ l) each = late out l
  does_then n c Q P (Fails out why) h (any _ _) each = any out why

  -- what is there already
  pub there : {A : Type 0} (n : ℕ) (c : Point) (Q : A → State → Point → Type 0) (v : A) (s : State) → Q v s c → Does n c Q (Gives [] v s)
  there n c Q v s q = comes [] v s c (comes_refl M c) (sym (append-nil c.printed)) q

  pub came : {A : Type 0} (n : ℕ) (c d : Point) (Q : A → State → Point → Type 0) (v : A) (s : State) → Comes M c d → d.printed ≡ c.printed → Q v s d → Does n c Q (Gives [] v s)
  came n c d Q v s to p q = comes [] v s d to (p ∙ sym (append-nil c.printed)) q

  -- what holds of where a part comes to may be said otherwise
  pub does_on : {A : Type 0} (n : ℕ) (c : Point) (Q P : A → State → Point → Type 0) (x : Part A) → Does n c Q x → ((v : A) (s : State) (d : Point) → Q v s d → P v s d) → Does n c P x
  does_on n c Q P (Gives out v s) (comes _ _ _ d to p q) each = comes out v s d to p (each v s d q)
  does_on n c Q P (Cut out) (late _ l) each = late out l
  does_on n c Q P (Fails out why) (any _ _) each = any out why

  -- from where a part has come to the machine goes on
  pub does_further : {A : Type 0} (n : ℕ) (c : Point) (Q P : A → State → Point → Type 0) (x : Part A) → Does n c Q x → ((v : A) (s : State) (d : Point) → Q v s d → Does n d P (Gives [] v s)) → Does n c P x
  does_further n c Q P (Gives out v s) (comes _ _ _ d to p q) each = subst (λ o. Does n c P (Gives o v s)) (append-nil out) (does_from n c d P out (Gives [] v s) to p (each v s d q))
  does_further n c Q P (Cut out) (late _ l) each = late out l
  does_further n c Q P (Fails out why) (any _ _) each = any out why
