-- The code of a function's body does what the body does.
use Rattle.std.proofs.Common.{◌≡◌, ℕ, ◌≤◌, ◌∙◌, sym, arith, true, false}
use Rattle.std.proofs.Math.Nat.{le-max_right}
use Rattle.md_shapes.specs.Shapes.{Frame as Fixed}
use Rattle.c_tree.specs.declared.typed.Function.{Function}
use Rattle.c_tree.specs.declared.typed.Typed.{Typed}
use Rattle.c_limits.specs.Depths.{arguments_of, greatest_in}
use Rattle.c_meaning.specs.Parts.{State, Part, Gives, Cut, Fails}
use Rattle.c_meaning.specs.Expressions.{Calls as SourceCalls}
use Rattle.c_meaning.specs.Statements.{Flow, next, breaks, continues, returns, Execution, execution}
use Rattle.temp_machine.specs.Routines.{Image, Target}
use Rattle.temp_machine.specs.Live.{Place}
use Rattle.temp_machine.specs.Small.{Point}
use Rattle.naive_code.specs.Storage.{scalar_count}
use Rattle.naive_code.specs.Statements.{Around}
use Rattle.naive_code.specs.Functions.{body_steps}
use Rattle.naive_run.specs.Sound.{Left, left_of}
use Rattle.naive_step.proofs.Doing.{Does, comes, late, any}
use Rattle.naive_step.proofs.Making.{Call as Active, Inside, At}
use Rattle.naive_assigned.proofs.Ready.{Ready, outgoing}
use Rattle.naive_values.proofs.Getting.{Ops}
use Rattle.naive_values.proofs.Asked.{Stands_for}
use Rattle.naive_calls.proofs.Calling.{CallsDo}
use Rattle.naive_assigns.proofs.Assigning.{world}
use Rattle.naive_statements.proofs.Asked.{Past, Back, After}
use Rattle.naive_bodies.proofs.Leaving.{Leaves, Valued, May_of}
use Rattle.naive_bodies.proofs.Initialising.{Lists_do}
use Rattle.naive_bodies.proofs.Statements.{statement_coded}

module _ (t : Target) (u : Image) (m : Fixed) (source : Typed) (f : Function) (k : Active) (ready : Ready t u m source f k) where
  -- how a function's body is left: by its end, at the place behind it, or at a return, in `main` with a value
  abbrev pub Body_left : Place → Point → Flow → State → Point → Type 0
  Body_left q c next s d = Past t u m source f k ready q c s d
  Body_left q c breaks s d = ⊥
  Body_left q c continues s d = ⊥
  Body_left q c (returns v) s d = Back t u m source f k ready c v s d × Valued f v

  -- where neither a break nor `continue` is in it that leads out
  left_whole : (n : ℕ) (l : Left) → l.breaks ≡ false → l.continues ≡ false → (a : Around) (q : Place) (c : Point) (x : Part Flow) → Leaves (May_of f l) x → Does t u n c (After t u m source f k ready a q c) x
      → Does t u n c (Body_left q c) x
  left_whole n l none none' a q c (Gives out next s) h (comes _ _ _ d to p z) = comes out next s d to p z
  left_whole n l none none' a q c (Gives out breaks s) h d = absurd (let e = sym none ∙ h in grind (arith, e))
  left_whole n l none none' a q c (Gives out continues s) h d = absurd (let e = sym none' ∙ h in grind (arith, e))
  left_whole n l none none' a q c (Gives out (returns v) s) h (comes _ _ _ d to p z) = comes out (returns v) s d to p (z, h)
  left_whole n l none none' a q c (Cut out) h (late _ z) = late out z
  left_whole n l none none' a q c (Fails out why) h (any _ _) = any out why

module _ (t : Target) (u : Image) (m : Fixed) (source : Typed) (f : Function) (k : Active) (ready : Ready t u m source f k) (n : ℕ) (call : SourceCalls) (calls : CallsDo t u m source f k ready n call) (most : ℕ) (le : n ≤ most)
    (lists : Lists_do t u m source f k ready n call) where
  abbrev whole : Execution
  whole = execution (world t u m source f k ready n call) most f.body

  abbrev lefts : Left
  lefts = left_of t.word source f f.body

  -- there are words for the arguments of each call
  few : greatest_in arguments_of f.body ≤ outgoing t u m source f k ready
  few = le-max_right 2 (greatest_in arguments_of f.body)

  -- what is asked of a function's code between its entry and its end
  pub body_related : lefts.sound ≡ true → lefts.breaks ≡ false → lefts.continues ≡ false
      → (a : Around) (first label : ℕ) (b q : Place) (c : Point) (s : State) → scalar_count f ≤ first → Ops t u m source f k ready ((body_steps t.kept t.word source f).ops a first label) b q
      → Inside t u k c → At t u b c → Stands_for t u m source f k ready s c → Does t u n c (Body_left t u m source f k ready q c) (whole.does s)
  body_related sound none none' a first label b q c s fresh ops i at rep =
      let r = statement_coded t u m source f k ready n call calls most le lists f.body in
      left_whole t u m source f k ready n lefts none none' a q c (whole.does s) (r.leaves sound s) ((r.executes sound few).does a first label b q c s fresh ops i at rep)
