-- The objects of a helper's call, as lists of words.
use Rattle.std.proofs.Common.{◌≡◌, ℕ, zero, suc, ◌+◌, ◌<◌, List, [], ◌∷◌, ◌++◌, length, Option, Some, None, Bool, true, false, ◌==◌, ◌&&◌, nat_le, if◌then◌else◌, slice_get, refl, ap, ◌∙◌, arith}
use Rattle.std.proofs.lemmas.Bool.Decides.{nat_tests}
use Rattle.std.proofs.lemmas.Option.{slice_get-get_or}
use Rattle.c_meaning.specs.Parts.{State, Store, put, load, store, unset}
use Rattle.c_meaning.specs.Run.{given, blank}
use Rattle.c_helpers.specs.Code.{Variables, look, assign, replaced}
use Rattle.c_helper_trees.specs.Trees.{variable_of}

-- a helper's state: what its variables hold
abbrev pub inner : State → Variables → State
inner s h = record { statics = s.statics; params = given (h.a ∷ h.b ∷ []); locals = given h.locals; input = s.input }

-- equal at each element
same_stores : (f g : Store) → ((x i : ℕ) → f x i ≡ g x i) → f ≡ g
same_stores f g e = λ j x i. e x i j

suc_zero : (y : ℕ) → (suc y == 0) ≡ false
suc_zero y = grind (arith, nat_tests)

zero_suc : (k : ℕ) → (0 == suc k) ≡ false
zero_suc k = grind (arith, nat_tests)

suc_suc : (y k : ℕ) → (suc y == suc k) ≡ (y == k)
suc_suc y k = grind (arith, nat_tests)

at_false : (b : Bool) (v u : Option ℕ) → b ≡ false → (if b then v else u) ≡ u
at_false b v u e = ap (λ c. if c then v else u) e

and_false : (b c : Bool) (v u : Option ℕ) → c ≡ false → (if b && c then v else u) ≡ u
and_false true c v u e = at_false c v u e
and_false false c v u e = refl

never_second : (b : Bool) (v : Option ℕ) (i : ℕ) → (if b && (suc i == 0) then v else None) ≡ None
never_second b v i = and_false b (suc i == 0) v None (suc_zero i)

first_only : (b : Bool) (v u : Option ℕ) → (if b && (0 == 0) then v else u) ≡ (if b then v else u)
first_only true v u = refl
first_only false v u = refl

slot : (vs : List ℕ) (k v : ℕ) → k < length vs → (y : ℕ) → (if y == k then Some v else slice_get vs y) ≡ slice_get (replaced k v vs) y
slot [] k v h y = absurd (omega (arith, h))
slot (x ∷ xs) zero v h zero = refl
slot (x ∷ xs) zero v h (suc y) = at_false (suc y == 0) (Some v) (slice_get xs y) (suc_zero y)
slot (x ∷ xs) (suc k) v h zero = at_false (0 == suc k) (Some v) (Some x) (zero_suc k)
slot (x ∷ xs) (suc k) v h (suc y) = ap (λ b. if b then Some v else slice_get xs y) (suc_suc y k) ∙ slot xs k v (omega (arith, h)) y

put_at : (vs : List ℕ) (k v : ℕ) → k < length vs → (y j : ℕ) → put (given vs) k 0 (Some v) y j ≡ given (replaced k v vs) y j
put_at vs k v h y zero = first_only (y == k) (Some v) (slice_get vs y) ∙ slot vs k v h y
put_at vs k v h y (suc j) = never_second (y == k) (Some v) j

pub put_given : (vs : List ℕ) (k v : ℕ) → k < length vs → put (given vs) k 0 (Some v) ≡ given (replaced k v vs)
put_given vs k v h = same_stores _ _ (put_at vs k v h)

slot_end : (vs : List ℕ) (v y : ℕ) → (if y == length vs then Some v else slice_get vs y) ≡ slice_get (vs ++ (v ∷ [])) y
slot_end [] v zero = refl
slot_end [] v (suc y) = at_false (suc y == 0) (Some v) None (suc_zero y)
slot_end (x ∷ xs) v zero = at_false (0 == suc (length xs)) (Some v) (Some x) (zero_suc (length xs))
slot_end (x ∷ xs) v (suc y) = ap (λ b. if b then Some v else slice_get xs y) (suc_suc y (length xs)) ∙ slot_end xs v y

put_end_at : (vs : List ℕ) (v y j : ℕ) → put (given vs) (length vs) 0 (Some v) y j ≡ given (vs ++ (v ∷ [])) y j
put_end_at vs v y zero = first_only (y == length vs) (Some v) (slice_get vs y) ∙ slot_end vs v y
put_end_at vs v y (suc j) = never_second (y == length vs) (Some v) j

pub put_end : (vs : List ℕ) (v : ℕ) → put (given vs) (length vs) 0 (Some v) ≡ given (vs ++ (v ∷ []))
put_end vs v = same_stores _ _ (put_end_at vs v)

blank_at : (x i : ℕ) → blank x i ≡ given [] x i
blank_at x zero = refl
blank_at x (suc i) = refl

pub blank_given : blank ≡ given []
blank_given = same_stores _ _ blank_at

abbrev nothing : Option ℕ
nothing = None

unset_if : (b : Bool) → (if b then nothing else nothing) ≡ nothing
unset_if true = refl
unset_if false = refl

abbrev pub state_of : State → Store → Store → State
state_of s p l = record { statics = s.statics; params = p; locals = l; input = s.input }

pub same_states : (s : State) (p p' l l' : Store) → p ≡ p' → l ≡ l' → state_of s p l ≡ state_of s p' l'
same_states s p p' l l' e f = λ i. record { statics = s.statics; params = e i; locals = f i; input = s.input }

pub unset_blank : (x : ℕ) (s : State) (p : Store) → unset x (state_of s p blank) ≡ state_of s p blank
unset_blank x s p = same_states s p p _ _ refl (same_stores _ blank (λ y j. unset_if ((y == x) && nat_le 0 j)))

-- what a variable holds, and what is variable after it is assigned to
pub loads : (s : State) (h : Variables) (x : ℕ) → x < 2 + length h.locals → load (inner s h) (variable_of x) 0 ≡ Some (look h x)
loads s h zero le = refl
loads s h (suc zero) le = refl
loads s h (suc (suc k)) le = slice_get-get_or h.locals k 0 (omega (arith, le))

pub stores : (s : State) (h : Variables) (x v : ℕ) → x < 2 + length h.locals → store (inner s h) (variable_of x) 0 (Some v) ≡ inner s (assign x v h)
stores s h zero v le = same_states s _ _ (given h.locals) _ (put_given (h.a ∷ h.b ∷ []) 0 v (omega arith)) refl
stores s h (suc zero) v le = same_states s _ _ (given h.locals) _ (put_given (h.a ∷ h.b ∷ []) 1 v (omega arith)) refl
stores s h (suc (suc k)) v le = same_states s (given (h.a ∷ h.b ∷ [])) _ _ _ refl (put_given h.locals k v (omega (arith, le)))

replaced_length : (k v : ℕ) (xs : List ℕ) → length (replaced k v xs) ≡ length xs
replaced_length k v [] = refl
replaced_length zero v (x ∷ xs) = refl
replaced_length (suc k) v (x ∷ xs) = ap suc (replaced_length k v xs)

pub as_many : (x v : ℕ) (h : Variables) → length (assign x v h).locals ≡ length h.locals
as_many zero v h = refl
as_many (suc zero) v h = refl
as_many (suc (suc k)) v h = replaced_length k v h.locals
