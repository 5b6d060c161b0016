-- How the code of values composes: a value that is used, and operations behind it.
use Rattle.std.proofs.Common.{◌≡◌, ◌≢◌, ℕ, zero, suc, ◌+◌, ◌*◌, ◌≤◌, ◌<◌, ◌^◌, ◌%◌, List, [], ◌∷◌, ◌++◌, Option, Some, None, Ok, refl, sym, ap, ◌∙◌, subst, arith}
use Rattle.std.specs.Prelude.{Bool, true, false, nat_lt, if◌then◌else◌}
use Rattle.std.proofs.lemmas.Bool.Decides.{nat_tests}
use Rattle.rtl_word.specs.Words.{IsWordSize}
use Rattle.rtl_tree.specs.declared.cells.Cell.TheVariants.{Hard, Temp}
use Rattle.c_tree.specs.declared.types.CType.{CType}
use Rattle.c_tree.specs.declared.typed.Head.{Head}
use Rattle.c_tree.specs.declared.typed.Function.{Function}
use Rattle.c_tree.specs.declared.typed.Typed.{Typed}
use Rattle.c_meaning.specs.Operators.{as_type}
use Rattle.c_meaning.specs.Parts.{State, Part, Gives, then_do, give, act, nothing_meant, demand, Value as Result, word, absent}
use Rattle.c_meaning.specs.Expressions.{World, constant}
use Rattle.md_shapes.specs.Shapes.{Frame as Fixed}
use Rattle.temp_machine.specs.Routines.{Image, Target}
use Rattle.temp_machine.specs.Live.{Place}
use Rattle.temp_machine.specs.Small.{Point}
use Rattle.naive_code.specs.Operations as code
use Rattle.naive_code.specs.Operations.{Op}
use Rattle.naive_code.specs.Storage.{scalar_count}
use Rattle.naive_code.specs.Expressions.{Value, leaf, both, then_on, narrowed, negated}
use Rattle.naive_step.proofs.Doing.{Does, any, does_then, does_on, does_quietly, came}
use Rattle.naive_step.proofs.Making.{Call, Inside, At, routine_in}
use Rattle.naive_assigned.proofs.Ready.{Ready}
use Rattle.naive_assigned.proofs.Working.{rep_works}
use Rattle.naive_values.proofs.Typed.{as_type_small, as_type_twice}
use Rattle.naive_values.proofs.Getting.{To, Ops, Gets, stands_split, narrows, sets_number, gets_sets, to_place}
use Rattle.naive_values.proofs.Asked.{IsFresh, Stands_for, Since, since_refl, since_trans, since_works, Has, Has_word, had_since, needed_does, ValueDoes}

module _ (t : Target) (u : Image) (m : Fixed) (source : Typed) (f : Function) (k : Call) (ready : Ready t u m source f k) (n : ℕ) where
  -- the operations of a value, and then others, where its word is known
  pub value_then : {A : Type 0} (of : CType) (v : Value) (x : State → Part Result) → ValueDoes t u m source f k ready n of x v
      → (os : List Op) (Q : A → State → Point → Type 0) (y : ℕ → State → Part A) (first label : ℕ) (p q : Place) (c : Point) (s : State)
      → scalar_count f ≤ first → Ops t u m source f k ready (v.ops first label ++ os) p q → Inside t u k c → At t u p c → Stands_for t u m source f k ready s c
      → ((r : Place) (d : Point) (a : ℕ) (s1 : State) → Ops t u m source f k ready os r q → Has_word t u m source f k ready of (v.result first) first r c a s1 d → Does t u n d Q (y a s1))
      → Does t u n c Q (then_do (then_do (x s) demand) y)
  value_then of v x does os Q y first label p q c s fresh ops i at rep on =
      let parts = stands_split t u m k (v.ops first label) os p q ops in
      does_then t u n c (Has_word t u m source f k ready of (v.result first) first parts.0 c) Q (then_do (x s) demand) y
      (needed_does t u m source f k ready n of (v.result first) first parts.0 c (x s) (does first label p parts.0 c s fresh parts.1 i at rep))
      (λ a s1 d h. on parts.0 d a s1 parts.2 h)

  -- operations that print nothing, and then a part
  pub to_does : {A : Type 0} (r : Place) (P : Point → Type 0) (Q : A → State → Point → Type 0) (d : Point) (x : Part A) → To t u m source f k ready r P d → ((e : Point) → P e → e.printed ≡ d.printed)
      → ((e : Point) → Inside t u k e → At t u r e → P e → Does t u n e Q x) → Does t u n d Q x
  to_does r P Q d x to quiet on = does_quietly t u n d to.point Q x to.comes (quiet to.point to.fact) (on to.point to.inside to.at to.fact)

  -- operations have brought a word to a temporary
  pub gave : (by : CType) (result first least spare z : ℕ) (q : Place) (c d : Point) (s : State) → scalar_count f ≤ least → first ≤ least → least ≤ result → least ≤ spare
      → Since t u m source f k ready first c d → Stands_for t u m source f k ready s d → as_type t.word by z ≡ z → z < 2 ^ t.word
      → To t u m source f k ready q (Gets t u m source f k ready result z spare d) d → Does t u n d (Has t u m source f k ready by result first q c) (give (word z) s)
  gave by result first least spare z q c d s fresh le le_result le_spare since rep typed small r =
      came t u n d r.point (Has t u m source f k ready by result first q c) (word z) s r.comes r.fact.works.printed (record {
        inside = r.inside;
        at = r.at;
        rep = rep_works t u m source f k ready result spare d r.point (omega (arith, fresh, le_result)) (omega (arith, fresh, le_spare)) r.fact.works s rep;
        since = since_trans t u m source f k ready first least c d r.point le since (since_works t u m source f k ready least result spare d r.point le_result le_spare r.fact.works);
        value = (r.fact.temp, typed, small);
      })

  -- a constant
  pub constant_does : (c : World) (h : Head) (v : ℕ) → c.bits ≡ t.word → as_type t.word h.of v ≡ v → ValueDoes t u m source f k ready n h.of (constant c h v) (leaf (λ a. code.constant a v ∷ []))
  constant_does world h v bits typed first label p q c s fresh (r, one, last) i at rep = by_test (nat_lt v (2 ^ world.bits)) refl
    where
      by_test : (b : Bool) → nat_lt v (2 ^ world.bits) ≡ b → Does t u n c (Has t u m source f k ready h.of first first q c) (if b then give (word v) s else nothing_meant h.at)
      by_test false e = any [] _
      by_test true e =
          let small : v < 2 ^ t.word = subst (λ w. v < 2 ^ w) bits (grind (arith, nat_tests, e)) in
          gave h.of first first first first v q c c s fresh (omega arith) (omega arith) (omega arith) (since_refl t u m source f k ready first c) rep typed small
          (to_place t u m source f k ready r q _ c last (gets_sets t u m source f k ready first v first r c (sets_number t u m source f k ready p r c i at first v one)))

  -- one value and then another, whose result is that of both (C11 6.5.17)
  pub comma_does : (of by : CType) (x y : State → Part Result) (v z : Value) → ValueDoes t u m source f k ready n of x v → ValueDoes t u m source f k ready n by y z
      → ValueDoes t u m source f k ready n by (λ s. then_do (x s) (λ _ s1. y s1)) (both v 0 z)
  comma_does of by x y v z does_x does_y first label p q c s fresh stands i at rep =
      let parts = stands_split t u m k (v.ops first label) (z.ops (first + v.temps) (label + v.labels)) p q stands in
      let next = first + v.temps in
      does_then t u n c (Has t u m source f k ready of (v.result first) first parts.0 c) (Has t u m source f k ready by (z.result next) first q c) (x s) (λ _ s1. y s1)
      (does_x first label p parts.0 c s fresh parts.1 i at rep)
      (λ a s1 d h.
      does_on t u n d (Has t u m source f k ready by (z.result next) next q d) (Has t u m source f k ready by (z.result next) first q c) (y s1)
      (does_y next (label + v.labels) parts.0 q d s1 (omega (arith, fresh)) parts.2 h.inside h.at h.rep)
      (λ b s2 e g. had_since t u m source f k ready by (z.result next) first next q c d b s2 e (omega arith) h.since g))

  -- a conversion (C11 6.3.1.3)
  pub convert_does : (of by : CType) (x : State → Part Result) (v : Value) (fresh : ℕ) (depths : ℕ → List ℕ) → IsFresh v → ValueDoes t u m source f k ready n of x v
      → ValueDoes t u m source f k ready n by (λ s. then_do (then_do (x s) demand) (λ a s1. give (word (as_type t.word by a)) s1)) (then_on v fresh depths (narrowed by))
  convert_does of by x v count depths fresh_v does first label p q c s fresh ops i at rep =
      value_then of v x does (narrowed by (v.result first) (first + v.temps)) (Has t u m source f k ready by (v.result first) first q c) (λ a s1. give (word (as_type t.word by a)) s1)
      first label p q c s fresh ops i at rep
      (λ r d a s1 rest h.
      let value = h.value in
      gave by (v.result first) first first (first + v.temps) (as_type t.word by a) q c d s1 fresh (omega arith) (fresh_v.from first) (omega arith) h.since h.rep
      (as_type_twice t.word by a ready.target.size) (as_type_small t.word by a ready.target.size)
      (narrows t u m source f k ready r q d h.inside h.at by (v.result first) (first + v.temps) a (fresh_v.to first) value.2 h.rep.stack value.0 rest))
