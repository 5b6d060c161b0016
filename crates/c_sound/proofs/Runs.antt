-- A source whose typed tree means something throughout never comes to act 0.
use Rattle.std.proofs.Common.{◌≡◌, ℕ, zero, suc, ◌+◌, ◌<◌, nat_lt, Bool, true, false, if◌then◌else◌, Option, Some, None, List, [], ◌∷◌, length, slice_get, subst, arith}
use Rattle.std.specs.Prelude.{⊤}
use Rattle.std.proofs.lemmas.Bool.Decides.{nat_tests}
use Rattle.std.proofs.lemmas.Nat.{pow_pos}
use Rattle.rtl_word.specs.Words.{IsWordSize}
use Rattle.behaviour.specs.Behaviour.{Behaviour, Running, Ended, Failed, Overstack}
use Rattle.behaviour.specs.Run.{AreBytes}
use Rattle.c_tree.specs.declared.token.At.{At}
use Rattle.c_tree.specs.declared.typed.Static.{Static}
use Rattle.c_tree.specs.declared.typed.Function.{Function}
use Rattle.c_tree.specs.declared.typed.Typed.{Typed}
use Rattle.c_meaning.specs.Parts.{Setting, State, Part, Gives, Cut, Fails, then_do, Value, word, absent}
use Rattle.c_meaning.specs.Statements.{Flow, next, breaks, continues, returns, Does, execution}
use Rattle.c_meaning.specs.Run.{given, listed, at_start, is_main, value_at, inside, back, enter, taken, call_at, world, seen, begin, main_in}
use Rattle.c_sound.specs.Sound.{body_sound, known_in, functions_sound}
use Rattle.c_sound.specs.Laws.{MeantNeverActZero}
use Rattle.c_sound.proofs.Outcomes.{as_type_below}
use Rattle.c_sound.proofs.Fine.{left_of, right_of, Set, Words, Told, Fine, then_fine, IsValue}
use Rattle.c_sound.proofs.Expressions.{Are, Calls_fine}
use Rattle.c_sound.proofs.Statements.{IsFlow, Does_fine, execution_runs}

-- ---- the function that is called

abbrev Stands : ℕ → Typed → Option Function → Type 0
Stands w t None = ⊥
Stands w t (Some f) = body_sound (known_in w t f) f.body ≡ true

none_below : (f : ℕ) → nat_lt f 0 ≡ true → ⊥
none_below f e = grind (arith, nat_tests, e)

below : (f n : ℕ) → nat_lt (suc f) (suc n) ≡ true → nat_lt f n ≡ true
below f n e = grind (arith, nat_tests, e)

found : (w : ℕ) (t : Typed) (fs : List Function) (f : ℕ) → functions_sound w t fs ≡ true → nat_lt f (length fs) ≡ true → Stands w t (slice_get fs f)
found w t [] f h e = absurd (none_below f e)
found w t (g ∷ fs) zero h e = left_of _ _ h
found w t (g ∷ fs) (suc f) h e = found w t fs f (right_of _ _ h) (below f (length fs) e)

-- ---- a call

arg_set : (w : ℕ) (vs : List ℕ) (x : ℕ) → Are w vs → Set w (slice_get vs x)
arg_set w [] x h = tt
arg_set w (v ∷ vs) zero h = h.0
arg_set w (v ∷ vs) (suc x) h = arg_set w vs x h.1

given_set : (w : ℕ) (vs : List ℕ) → Are w vs → (x i : ℕ) → Set w (given vs x i)
given_set w vs h x zero = arg_set w vs x h
given_set w vs h x (suc i) = tt

inside_words : (w : ℕ) (vs : List ℕ) (s : State) → Are w vs → Words w s → Words w (inside vs s)
inside_words w vs s h q = record { statics = q.statics; params = given_set w vs h; locals = λ x i. tt; input = q.input }

value_fine : (w : ℕ) (main : Bool) (at : At) (f : Flow) → IsFlow w f → IsValue w (value_at main at f)
value_fine w true at (returns (word v)) h = h
value_fine w false at (returns (word v)) h = h
value_fine w true at (returns (absent a)) h = pow_pos w
value_fine w false at (returns (absent a)) h = tt
value_fine w true at next h = pow_pos w
value_fine w false at next h = tt
value_fine w true at breaks h = pow_pos w
value_fine w false at breaks h = tt
value_fine w true at continues h = pow_pos w
value_fine w false at continues h = tt

back_fine : (w : ℕ) (main : Bool) (at : At) (caller : State) → Words w caller → (f : Flow) → IsFlow w f → (s : State) → Words w s → Fine w (IsValue w) (back main at caller f s)
back_fine w main at caller k f h s q = record { goes = (value_fine w main at f h, record { statics = q.statics; params = k.params; locals = k.locals; input = q.input }) }

enter_fine : (m : Setting) (t : Typed) (o : Option Function) → Stands m.bits t o → (used : ℕ) (body : Function → Does)
    → ((g : Function) → body_sound (known_in m.bits t g) g.body ≡ true → Does_fine m.bits (body g)) → (at : At) (vs : List ℕ) (s : State) → Are m.bits vs → Words m.bits s
    → Fine m.bits (IsValue m.bits) (enter o m used body at vs s)
enter_fine m t None h used body runs at vs s a q = absurd h
enter_fine m t (Some g) h used body runs at vs s a q = by (nat_lt m.stack (256 + (used + m.takes g)))
  where
    by : (b : Bool) → Fine m.bits (IsValue m.bits) (if b then Fails [] Overstack else then_do (body g (inside vs s)) (back (is_main g) at s))
    by true = record { goes = tt }
    by false = then_fine m.bits (IsFlow m.bits) (IsValue m.bits) (body g (inside vs s)) _ (runs g h (inside vs s) (inside_words m.bits vs s a q)) (λ f k s1 q1. back_fine m.bits (is_main g) at s q f k s1 q1)

call_fine : (m : Setting) (t : Typed) → IsWordSize m.bits → functions_sound m.bits t t.functions ≡ true → (n d used : ℕ) → Calls_fine m.bits (length t.functions) (call_at m t n d used)
call_fine m t z sound n zero used at f vs s e a q = record { goes = tt }
call_fine m t z sound n (suc d) used at f vs s e a q =
    let g = slice_get t.functions f in
    let inner = call_at m t n d (used + taken m g) in
    enter_fine m t g (found m.bits t t.functions f sound e) used (λ h. (execution (world m t inner h) n h.body).does)
    (λ h k. (execution_runs (world m t inner h) (length t.functions) z (call_fine m t z sound n d (used + taken m g)) n h.body).does k) at vs s a q

-- ---- the whole

listed_set : (w : ℕ) → IsWordSize w → (o : Option Static) (i : ℕ) → Set w (listed w o i)
listed_set w z None i = tt
listed_set w z (Some x) i = as_type_below w x.object.element _ z

start_words : (w : ℕ) → IsWordSize w → (t : Typed) (input : List ℕ) → AreBytes input → Words w (at_start w t input)
start_words w z t input h = record { statics = λ x i. listed_set w z (slice_get t.statics x) i; params = λ x i. tt; locals = λ x i. tt; input = h }

abbrev Tells : Behaviour → Type 0
Tells (Running out) = ⊤
Tells (Ended out status) = ⊤
Tells (Failed out why) = Told why

tells : (w : ℕ) (p : Part Value) → Fine w (IsValue w) p → Tells (seen p)
tells w (Gives out v s) g = tt
tells w (Cut out) g = tt
tells w (Fails out why) g = g.goes

none : 0 < 0 → ⊥
none h = omega arith

pub meant_never : MeantNeverActZero
meant_never m t input z bytes meant n out line column e =
    none (subst Tells e (tells m.bits (call_at m t n n 0 begin (main_in t.functions) [] (at_start m.bits t input))
    (call_fine m t z (left_of _ _ meant) n n 0 begin (main_in t.functions) [] (at_start m.bits t input) (right_of _ _ meant) tt (start_words m.bits z t input bytes))))
