-- What is asked of the code of a statement.
use Rattle.std.proofs.Common.{◌≡◌, ℕ, ◌+◌, ◌≤◌, List, Some, ◌∙◌, arith}
use Rattle.md_shapes.specs.Shapes.{Frame as Fixed}
use Rattle.c_tree.specs.declared.typed.Function.{Function}
use Rattle.c_tree.specs.declared.typed.Typed.{Typed}
use Rattle.c_limits.specs.Frames.{frame_bytes}
use Rattle.c_meaning.specs.Parts.{State, Part, Gives, Cut, Fails, then_do, give, Value as Result}
use Rattle.c_meaning.specs.Statements.{Flow, next, breaks, continues, returns, Does as SourceDoes, go_on}
use Rattle.temp_machine.specs.Routines.{Image, Target, Returns}
use Rattle.temp_machine.specs.Live.{Place, End, item_at}
use Rattle.temp_machine.specs.Small.{Point}
use Rattle.naive_code.specs.Operations.{Op}
use Rattle.naive_code.specs.Storage.{scalar_count}
use Rattle.naive_code.specs.Statements.{Around, Steps, joined}
use Rattle.behaviour.specs.Steps.{Comes, Leads}
use Rattle.behaviour.proofs.Stepping.{comes_then_leads}
use Rattle.naive_step.proofs.Doing.{M, Does, comes, late, any, does_then, does_on, there}
use Rattle.naive_step.proofs.Making.{Call, Inside, At, routine_in}
use Rattle.naive_step.proofs.Ends.{Opens, begin_of}
use Rattle.naive_assigned.proofs.Ready.{Ready}
use Rattle.naive_assigned.proofs.Working.{rep_works}
use Rattle.naive_values.proofs.Getting.{To, Ops, stands_split}
use Rattle.naive_values.proofs.Asked.{Stands_for, block_at}
use Rattle.naive_values.proofs.Composing.{to_does}
use Rattle.naive_tests.proofs.Tests.{works_opens}
use Rattle.naive_calls.proofs.Calling.{Returned}

module _ (t : Target) (u : Image) (m : Fixed) (source : Typed) (f : Function) (k : Call) (ready : Ready t u m source f k) where
  abbrev Code : List Op → Place → Place → Type 0
  Code = Ops t u m source f k ready

  -- bytes above the frame are as they were
  abbrev pub Above : Point → Point → Type 0
  Above c d = (b : ℕ) → k.base + frame_bytes t.kept t.word f ≤ b → d.view.bytes b ≡ c.view.bytes b

  -- the machine has come to a place, and stands for the storage
  pub record Past (q : Place) (c : Point) (s : State) (d : Point) : Type 0 where
    pub inside : Inside t u k d
    pub at : At t u q d
    pub rep : Stands_for t u m source f k ready s d
    pub above : Above c d

  -- at a return, with the value
  pub record Back (c : Point) (v : Result) (s : State) (d : Point) : Type 0 where
    pub inside : Inside t u k d
    pub place : Place
    pub at : At t u place d
    pub at_return : item_at (routine_in t u k) place ≡ Some (End Returns)
    pub rep : Stands_for t u m source f k ready s d
    pub above : Above c d
    pub result : Returned t u m source f k ready f.result v d

  -- how a statement is left, and where the machine then is; `continue` takes a step, which counts for a turn
  abbrev pub After : Around → Place → Point → Flow → State → Point → Type 0
  After a q c next s d = Past q c s d
  After a q c breaks s d = Past (begin_of (block_at t u m source f k ready a.breaks)) c s d
  After a q c continues s d = Past (begin_of (block_at t u m source f k ready a.continues)) c s d × Leads (M t u) c d
  After a q c (returns v) s d = Back c v s d

  -- the machine has come from one point to another
  pub record Way_from (c d : Point) : Type 0 where
    pub comes : Comes (M t u) c d
    pub above : Above c d

  pub past_since : (q : Place) (b c : Point) (s : State) (d : Point) → Above b c → Past q c s d → Past q b s d
  past_since q b c s d up h = record { inside = h.inside; at = h.at; rep = h.rep; above = λ x from. h.above x from ∙ up x from }

  pub after_since : (a : Around) (q : Place) (b c : Point) (fl : Flow) (s : State) (d : Point) → Way_from b c → After a q c fl s d → After a q b fl s d
  after_since a q b c next s d up h = past_since q b c s d up.above h
  after_since a q b c breaks s d up h = past_since (begin_of (block_at t u m source f k ready a.breaks)) b c s d up.above h
  after_since a q b c continues s d up h = (past_since (begin_of (block_at t u m source f k ready a.continues)) b c s d up.above h.0, comes_then_leads (M t u) b c d up.comes h.1)
  after_since a q b c (returns v) s d up h = record { inside = h.inside; place = h.place; at = h.at; at_return = h.at_return; rep = h.rep; above = λ x from. h.above x from ∙ up.above x from; result = h.result }

  -- where a part comes to the machine has come to
  pub with_way : {A : Type 0} (n : ℕ) (c : Point) (Q : A → State → Point → Type 0) (x : Part A) → Does t u n c Q x → Does t u n c (λ v s d. Q v s d × Comes (M t u) c d) x
  with_way n c Q (Gives out v s) (comes _ _ _ d to p q) = comes out v s d to p (q, to)
  with_way n c Q (Cut out) (late _ l) = late out l
  with_way n c Q (Fails out why) (any _ _) = any out why

  module _ (n : ℕ) where
    -- wherever the operations of a statement stand, the machine is left as the statement is
    abbrev pub StepsDo : SourceDoes → Steps → Type 0
    StepsDo e p =
        (a : Around) (first label : ℕ) (b q : Place) (c : Point) (s : State) → scalar_count f ≤ first → Code (p.ops a first label) b q → Inside t u k c → At t u b c
        → Stands_for t u m source f k ready s c → Does t u n c (After a q c) (e s)

    -- one statement and then others (C11 6.8.2)
    pub joined_does : (e es : SourceDoes) (p ps : Steps) → StepsDo e p → StepsDo es ps → StepsDo (λ s. then_do (e s) (λ fl. go_on fl es)) (joined p ps)
    joined_does e es p ps does_first does_rest a first label b q c s fresh ops i at rep =
        let parts = stands_split t u m k (p.ops a first label) (ps.ops a (first + p.temps) (label + p.labels)) b q ops in
        does_then t u n c (λ fl s1 d. After a parts.0 c fl s1 d × Comes (M t u) c d) (After a q c) (e s) (λ fl. go_on fl es)
        (with_way n c (After a parts.0 c) (e s) (does_first a first label b parts.0 c s fresh parts.1 i at rep))
        (λ fl s1 d h. each fl s1 d parts.0 parts.2 h.0 h.1)
      where
        each : (fl : Flow) (s1 : State) (d : Point) (r : Place) → Code (ps.ops a (first + p.temps) (label + p.labels)) r q → After a r c fl s1 d → Comes (M t u) c d → Does t u n d (After a q c) (go_on fl es s1)
        each next s1 d r rest h way =
            does_on t u n d (After a q d) (After a q c) (es s1) (does_rest a (first + p.temps) (label + p.labels) r q d s1 (omega (arith, fresh)) rest h.inside h.at h.rep)
            (λ fl s2 e g. after_since a q c d fl s2 e (record { comes = way; above = h.above }) g)
        each breaks s1 d r rest h way = there t u n d (After a q c) breaks s1 h
        each continues s1 d r rest h way = there t u n d (After a q c) continues s1 h
        each (returns v) s1 d r rest h way = there t u n d (After a q c) (returns v) s1 h

    -- the next block is begun behind a statement
    pub past_opens : (a : Around) (q x : Place) (c d : Point) (s : State) → Past x c s d → To t u m source f k ready q (Opens d) d → Does t u n d (After a q c) (give next s)
    past_opens a q x c d s h to =
        to_does t u m source f k ready n q (Opens d) (After a q c) d (give next s) to (λ e o. o.printed)
        (λ e j at o.
        let works = works_opens t u m source f k ready n (scalar_count f) (scalar_count f) d e o in
        there t u n e (After a q c) next s (record {
          inside = j;
          at = at;
          rep = rep_works t u m source f k ready (scalar_count f) (scalar_count f) d e (omega arith) (omega arith) works s h.rep;
          above = λ x from. o.bytes x ∙ h.above x from;
        }))
