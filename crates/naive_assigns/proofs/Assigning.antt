-- Assignments: a value is stored in a place, and is the value of the whole.
use Rattle.std.proofs.Common.{◌≡◌, ◌≢◌, ℕ, zero, suc, ◌+◌, ◌*◌, ◌%◌, ◌^◌, ◌≤◌, ◌<◌, List, [], ◌∷◌, ◌++◌, Option, Some, None, refl, sym, ap, ◌∙◌, subst, arith, true}
use Rattle.rtl_word.specs.Words.{IsWordSize}
use Rattle.rtl_tree.specs.declared.cells.Cell.TheVariants.{Temp}
use Rattle.md_shapes.specs.Shapes.{Frame as Fixed}
use Rattle.c_tree.specs.declared.token.At.{At as Spot}
use Rattle.c_tree.specs.declared.types.CType.{CType}
use Rattle.c_tree.specs.declared.types.CType.TheVariants as type
use Rattle.c_tree.specs.declared.syntax.StepOperator.{StepOperator}
use Rattle.c_tree.specs.declared.syntax.StepOperator.TheVariants as step
use Rattle.c_tree.specs.declared.syntax.Arithmetic.TheVariants as arithmetic
use Rattle.c_tree.specs.declared.typed.Function.{Function}
use Rattle.c_tree.specs.declared.typed.Typed.{Typed}
use Rattle.c_meaning.specs.Operators.{Outcome, gives, undefined, as_type, promoted, step_by}
use Rattle.c_meaning.specs.Parts.{State, Part, then_do, give, demand, outcome, store as stored, Value as Result, word, absent}
use Rattle.c_meaning.specs.Expressions.{World, Calls, type_in, Lvalue, read, write}
use Rattle.c_meaning.specs.Run.{kind_in}
use Rattle.temp_machine.specs.Routines.{Image, Target}
use Rattle.temp_machine.specs.Live.{Place}
use Rattle.temp_machine.specs.Small.{Point}
use Rattle.naive_code.specs.Operations as code
use Rattle.naive_code.specs.Operations.{Op}
use Rattle.naive_code.specs.Storage.{Storage, Elements, scalar_count}
use Rattle.naive_code.specs.Expressions.{Value, Designated, object, element, nowhere, opened, storage_in, got_from, put_into, settled, settled_in, narrowed, assigned, step_operator, stepped_before, stepped_after}
use Rattle.naive_run.specs.Sound.{alike}
use Rattle.naive_step.proofs.Doing.{Does, any, does_then, does_quietly, came}
use Rattle.naive_step.proofs.Making.{Call, Inside, At, routine_in}
use Rattle.naive_step.proofs.Acts.{SetsTemp}
use Rattle.naive_assigned.proofs.Ready.{Ready}
use Rattle.naive_assigned.proofs.Working.{rep_works, works_sets, works_fresh}
use Rattle.naive_values.proofs.Calculating.{Gives_word, calculate_gives}
use Rattle.naive_values.proofs.Typed.{as_type_small, as_type_twice, as_word, as_alike}
use Rattle.naive_values.proofs.Getting.{To, Ops, Gets, to_as, to_then, gets_after, gets_sets, stands_split, narrows, sets_number, copies}
use Rattle.naive_values.proofs.Asked.{IsFresh, Place_fresh, Stands_for, Since, since_refl, since_trans, since_works, Has, Has_word, HasPlace, Kept, in_temporary, in_word, in_array, ValueDoes, PlaceDoes}
use Rattle.naive_values.proofs.Places.{Spared, Puts, puts, settles, since_puts}
use Rattle.naive_values.proofs.Operating.{operated}
use Rattle.naive_values.proofs.Composing.{value_then, to_does}
use Rattle.naive_values.proofs.Objects.{read_does}

-- the machine's operator for `++` and `--`
step_gives : (w : ℕ) (of : CType) (o : StepOperator) (x z : ℕ) → IsWordSize w → step_by w of o x ≡ gives z → Gives_word w (step_operator o) x 1 z
step_gives w of step.Increment x z size e = calculate_gives w (promoted of) arithmetic.Add x 1 z size e
step_gives w of step.Decrement x z size e = calculate_gives w (promoted of) arithmetic.Subtract x 1 z size e

module _ (t : Target) (u : Image) (m : Fixed) (source : Typed) (f : Function) (k : Call) (ready : Ready t u m source f k) (n : ℕ) where
  abbrev Code : List Op → Place → Place → Type 0
  Code = Ops t u m source f k ready

  abbrev Kept_at : Designated → Lvalue → ℕ → Point → Type 0
  Kept_at = Kept t u m source f k ready

  -- the place is opened, and then other operations
  pub place_then : {A : Type 0} (of : CType) (p : Designated) (x : State → Part Lvalue) → PlaceDoes t u m source f k ready n of x p
      → (os : List Op) (Q : A → State → Point → Type 0) (y : Lvalue → State → Part A) (first label : ℕ) (b q : Place) (c : Point) (s : State)
      → scalar_count f ≤ first → Code ((opened p).ops first label ++ os) b q → Inside t u k c → At t u b c → Stands_for t u m source f k ready s c
      → ((r : Place) (d : Point) (a : Lvalue) (s1 : State) → Code os r q → HasPlace t u m source f k ready of p ((opened p).result first) first r c a s1 d → Does t u n d Q (y a s1))
      → Does t u n c Q (then_do (x s) y)
  place_then of p x does os Q y first label b q c s fresh ops i at rep on =
      let parts = stands_split t u m k ((opened p).ops first label) os b q ops in
      does_then t u n c (HasPlace t u m source f k ready of p ((opened p).result first) first parts.0 c) Q (x s) y
      (does first label b parts.0 c s fresh parts.1 i at rep)
      (λ a s1 d h. on parts.0 d a s1 parts.2 h)

  -- ---- an element's address stays

  abbrev pub Addressed : Designated → (a below : ℕ) → Type 0
  Addressed (object s) a below = Unit {0}
  Addressed (element s i) a below = (scalar_count f ≤ a) × (a < below)
  Addressed nowhere a below = Unit {0}

  pub kept_since : (p : Designated) (x : Lvalue) (a below : ℕ) (c d : Point) → Addressed p a below → Since t u m source f k ready below c d → Kept_at p x a c → Kept_at p x a d
  kept_since p x a below c d within since (in_temporary j by e place kind zero_is) = in_temporary j by e place kind zero_is
  kept_since p x a below c d within since (in_word y by e place kind zero_is) = in_word y by e place kind zero_is
  kept_since p x a below c d within since (in_array base by length i e place kind lt address) =
      let range : (scalar_count f ≤ a) × (a < below) = subst (λ p. Addressed p a below) e within in
      in_array base by length i e place kind lt (since.temps a range.0 range.1 ∙ address)

  pub addressed_by : (p : Designated) (first : ℕ) → Place_fresh t u m source f k ready p → scalar_count f ≤ first → Addressed p ((opened p).result first) (first + (opened p).temps)
  addressed_by (object s) first fresh le = tt
  addressed_by (element s i) first fresh le = let from = fresh.from first in ((let z : scalar_count f ≤ (opened (element s i)).result first = omega (arith, le, from) in z), fresh.to first)
  addressed_by nowhere first fresh le = tt

  addressed_more : (p : Designated) (a below more : ℕ) → below ≤ more → Addressed p a below → Addressed p a more
  addressed_more (object s) a below more le h = tt
  addressed_more (element s i) a below more le h = let lt = h.1 in (h.0, (let z : a < more = omega (arith, le, lt) in z))
  addressed_more nowhere a below more le h = tt

  pub settled_from : (p : Designated) (first v : ℕ) → Place_fresh t u m source f k ready p → first ≤ v → first ≤ settled_in p ((opened p).result first) v
  settled_from (object s) first v fresh le = le
  settled_from (element s i) first v fresh le = fresh.from first
  settled_from nowhere first v fresh le = le

  pub next_spared : (p : Designated) (v : ℕ) → Spared t u m source f k ready p v v (v + 1)
  next_spared (object s) v = tt
  next_spared (element s i) v = ((let z : v < v + 1 = omega arith in z), (let z : v ≤ v + 1 = omega arith in z))
  next_spared nowhere v = tt

  -- ---- the end of an assignment

  record Ended (result z first : ℕ) (s : State) (c d : Point) : Type 0 where
    rep : Stands_for t u m source f k ready s d
    since : Since t u m source f k ready first c d
    temp : d.view.cells (Temp result) ≡ Some z
    printed : d.printed ≡ c.printed

  -- what the end of an assignment stands on: the value to be stored, and that of the whole, in their temporaries
  pub record Ends_on (of : CType) (p : Designated) (x : Lvalue) (a b v spare first y z : ℕ) (d : Point) : Type 0 where
    pub kept : Kept_at p x a d
    pub holds : d.view.cells (Temp b) ≡ Some y
    pub whole : d.view.cells (Temp v) ≡ Some z
    pub typed : as_type t.word (type_in (kind_in source f x.variable)) y ≡ y
    pub small : y < 2 ^ t.word
    pub whole_typed : as_type t.word of z ≡ z
    pub whole_small : z < 2 ^ t.word
    pub from : first ≤ v
    pub settled_at : first ≤ settled_in p a v
    pub spared : first ≤ spare
    pub other : b ≢ spare
    pub other_whole : v ≢ spare

  pub finish : (of : CType) (p : Designated) (x : Lvalue) (a b v spare first y z : ℕ) (r q : Place) (c d : Point) (s : State) → scalar_count f ≤ first → Ends_on of p x a b v spare first y z d
      → Inside t u k d → At t u r d → Stands_for t u m source f k ready s d → Since t u m source f k ready first c d → Code (put_into (storage_in p) a b spare ++ settled p a v) r q
      → Does t u n d (Has t u m source f k ready of (settled_in p a v) first q c) (give (word z) (stored s x.variable x.index (Some y)))
  finish of p x a b v spare first y z r q c d s fresh e i at rep since ops =
      let parts = stands_split t u m k (put_into (storage_in p) a b spare) (settled p a v) r q ops in
      let s' = stored s x.variable x.index (Some y) in
      let from = e.from in let settled_at = e.settled_at in let spared = e.spared in
      let to = to_then t u m source f k ready parts.0 q (Puts t u m source f k ready spare s' d) (Ended (settled_in p a v) z first s' d) d
      (puts t u m source f k ready r parts.0 d i at s rep x p a b spare y e.kept e.holds e.typed e.small (omega (arith, fresh, spared)) e.other parts.1)
      (λ g j at' h.
      to_as t u m source f k ready q _ _ g
      (settles t u m source f k ready parts.0 q g j at' s' h.rep p a v first z (h.temps v (omega (arith, fresh, from)) e.other_whole ∙ e.whole) parts.2)
      (λ w o. record {
        rep = rep_works t u m source f k ready (settled_in p a v) first g w (omega (arith, fresh, settled_at)) fresh o.works s' h.rep;
        since = since_trans t u m source f k ready first first d g w (omega arith) (since_puts t u m source f k ready first spare s' d g spared h)
            (since_works t u m source f k ready first (settled_in p a v) first g w settled_at (omega arith) o.works);
        temp = o.temp;
        printed = o.works.printed ∙ h.printed;
      })) in
      came t u n d to.point (Has t u m source f k ready of (settled_in p a v) first q c) (word z) s' to.comes to.fact.printed (record {
        inside = to.inside;
        at = to.at;
        rep = to.fact.rep;
        since = since_trans t u m source f k ready first first c d to.point (omega arith) since to.fact.since;
        value = (to.fact.temp, e.whole_typed, e.whole_small);
      })

  module _ (call : Calls) where
    abbrev pub world : World
    world = record { bits = t.word; kind = kind_in source f; call = call }

    -- a value of the left side's type is assigned
    pub assign_does : (of left right : CType) (x : State → Part Lvalue) (p : Designated) (e : State → Part Result) (v : Value) → Place_fresh t u m source f k ready p → IsFresh v
        → PlaceDoes t u m source f k ready n left x p → ValueDoes t u m source f k ready n right e v → alike of left ≡ true → alike right left ≡ true
        → ValueDoes t u m source f k ready n of (λ s. then_do (x s) (λ y s1. then_do (then_do (e s1) demand) (write world y))) (assigned p v)
    assign_does of left right x p e v fresh_p fresh_v does_p does_v same sides first label b q c s fresh ops i at rep =
        let next = first + (opened p).temps in
        let a = (opened p).result first in
        let w = v.result next in
        let spare = next + v.temps in
        let end = put_into (storage_in p) a w spare ++ settled p a w in
        let result = settled_in p a w in
        place_then left p x does_p (v.ops next (label + (opened p).labels) ++ end) (Has t u m source f k ready of result first q c) (λ y s1. then_do (then_do (e s1) demand) (write world y))
        first label b q c s fresh ops i at rep
        (λ r d y s1 rest g.
        value_then t u m source f k ready n right v e does_v end (Has t u m source f k ready of result first q c) (write world y) next (label + (opened p).labels) r q d s1 (omega (arith, fresh)) rest g.inside g.at g.rep
        (λ r' d' z s2 rest' h.
        let value = h.value in
        let of_left : as_type t.word left z ≡ z = sym (as_alike t.word right left z sides) ∙ value.1 in
        let typed : as_type t.word (type_in (kind_in source f y.variable)) z ≡ z = sym (g.typed z) ∙ of_left in
        let from = fresh_v.from next in let to = fresh_v.to next in
        subst (λ z'. Does t u n d' (Has t u m source f k ready of result first q c) (give (word z') (stored s2 y.variable y.index (Some z')))) (sym typed)
        (finish of p y a w w spare first z z r' q c d' s2 fresh
        (record {
          kept = kept_since p y a next d d' (addressed_by p first fresh_p fresh) h.since g.kept;
          holds = value.0;
          whole = value.0;
          typed = typed;
          small = value.2;
          whole_typed = as_alike t.word of left z same ∙ of_left;
          whole_small = value.2;
          from = omega (arith, from);
          settled_at = settled_from p first w fresh_p (omega (arith, from));
          spared = omega arith;
          other = λ eq. omega (arith, to, eq);
          other_whole = λ eq. omega (arith, to, eq);
        })
        h.inside h.at h.rep (since_trans t u m source f k ready first next c d d' (omega arith) g.since h.since) rest')))

    -- ---- `++` and `--` (C11 6.5.2.4, 6.5.3.1)

    -- a step on a value in a temporary
    step_does : (of : CType) (o : StepOperator) (at : Spot) (b one x : ℕ) (r q : Place) (d : Point) (s : State) → scalar_count f ≤ b → b < one → Inside t u k d → At t u r d → Stands_for t u m source f k ready s d
        → d.view.cells (Temp b) ≡ Some x → Code (code.constant one 1 ∷ code.operate (step_operator o) b one ∷ []) r q
        → Does t u n d (Has_word t u m source f k ready type.Unsigned b b q d) (outcome (step_by t.word of o x) at s)
    step_does of o at b one x r q d s fresh lt i at' rep holds (r1, first, second) = by_outcome (step_by t.word of o x) refl
      where
        by_outcome : (w : Outcome) → step_by t.word of o x ≡ w → Does t u n d (Has_word t u m source f k ready type.Unsigned b b q d) (outcome w at s)
        by_outcome (undefined what) e = any [] _
        by_outcome (gives z) e =
            let g = step_gives t.word of o x z ready.target.size e in
            let ne : b ≢ one = λ e. omega (arith, e, lt) in
            let to = gets_after t u m source f k ready b z one r1 q (SetsTemp one (Some 1) d) d (sets_number t u m source f k ready r r1 d i at' one 1 first)
            (λ y h. works_fresh t u m source f k one b one d y (omega arith) (works_sets t u m source f k one one (Some 1) d y h))
            (λ y j at2 h. operated t u m source f k ready r1 q y j at2 (step_operator o) b one x 1 z one (h.others b ne ∙ holds) h.temp g.value second) in
            came t u n d to.point (Has_word t u m source f k ready type.Unsigned b b q d) z s to.comes to.fact.works.printed (record {
              inside = to.inside;
              at = to.at;
              rep = rep_works t u m source f k ready b one d to.point fresh (omega (arith, fresh, lt)) to.fact.works s rep;
              since = since_works t u m source f k ready b b one d to.point (omega arith) (omega (arith, lt)) to.fact.works;
              value = (to.fact.temp, as_word t.word type.Unsigned z refl g.small, g.small);
            })

    -- a value is converted to the left side's type and stored, and is that of the whole
    pub narrow_finish : (of left : CType) (p : Designated) (y : Lvalue) (first b spare last z : ℕ) (r q : Place) (c d e : Point) (s : State) → scalar_count f ≤ first → Place_fresh t u m source f k ready p
        → first + (opened p).temps ≤ b → b < spare → spare < last → alike of left ≡ true → HasPlace t u m source f k ready left p ((opened p).result first) first r c y s d → Since t u m source f k ready b d e
        → (r' : Place) (s' : State) → Inside t u k e → At t u r' e → Stands_for t u m source f k ready s' e → e.view.cells (Temp b) ≡ Some z → z < 2 ^ t.word
        → Code (narrowed left b spare ++ (put_into (storage_in p) ((opened p).result first) b last ++ settled p ((opened p).result first) b)) r' q
        → Does t u n e (Has t u m source f k ready of (settled_in p ((opened p).result first) b) first q c) (write world y z s')
    narrow_finish of left p y first b spare last z r q c d e s fresh fresh_p le lt lt_last same g since r' s' i at rep holds small ops =
        let a = (opened p).result first in
        let parts = stands_split t u m k (narrowed left b spare) (put_into (storage_in p) a b last ++ settled p a b) r' q ops in
        let v = as_type t.word left z in
        to_does t u m source f k ready n parts.0 (Gets t u m source f k ready b v spare e) (Has t u m source f k ready of (settled_in p a b) first q c) e (write world y z s')
        (narrows t u m source f k ready r' parts.0 e i at left b spare z lt small rep.stack holds parts.1) (λ w h. h.works.printed)
        (λ w j at' h.
        let since' = since_trans t u m source f k ready b b d e w (omega arith) since (since_works t u m source f k ready b b spare e w (omega arith) (omega (arith, lt)) h.works) in
        let rep' = rep_works t u m source f k ready b spare e w (omega (arith, fresh, le)) (omega (arith, fresh, le, lt)) h.works s' rep in
        subst (λ z'. Does t u n w (Has t u m source f k ready of (settled_in p a b) first q c) (give (word z') (stored s' y.variable y.index (Some z')))) (g.typed z)
        (finish of p y a b b last first v v parts.0 q c w s' fresh
        (record {
          kept = kept_since p y a b d w (addressed_more p a (first + (opened p).temps) b le (addressed_by p first fresh_p fresh)) since' g.kept;
          holds = h.temp;
          whole = h.temp;
          typed = sym (g.typed v) ∙ as_type_twice t.word left z ready.target.size;
          small = as_type_small t.word left z ready.target.size;
          whole_typed = as_alike t.word of left v same ∙ as_type_twice t.word left z ready.target.size;
          whole_small = as_type_small t.word left z ready.target.size;
          from = omega (arith, le);
          settled_at = settled_from p first b fresh_p (omega (arith, le));
          spared = omega (arith, le, lt, lt_last);
          other = λ eq. omega (arith, lt, lt_last, eq);
          other_whole = λ eq. omega (arith, lt, lt_last, eq);
        })
        j at' rep' (since_trans t u m source f k ready first b c d w (omega (arith, le)) g.since since') parts.2))

    pub before_does : (of left : CType) (at : Spot) (o : StepOperator) (x : State → Part Lvalue) (p : Designated) → Place_fresh t u m source f k ready p → PlaceDoes t u m source f k ready n left x p → alike of left ≡ true
        → ValueDoes t u m source f k ready n of (λ s. then_do (x s) (λ y s1. then_do (read y s1) (λ v s2. then_do (outcome (step_by t.word left o v) at s2) (write world y)))) (stepped_before o left p)
    before_does of left spot o x p fresh_p does same first label b q c s fresh ops i at rep =
        let a = (opened p).result first in
        let v = first + (opened p).temps in
        let end = narrowed left v (v + 3) ++ (put_into (storage_in p) a v (v + 4) ++ settled p a v) in
        let stepped = code.constant (v + 2) 1 ∷ code.operate (step_operator o) v (v + 2) ∷ [] in
        let result = settled_in p a v in
        place_then left p x does (got_from (storage_in p) v a (v + 1) ++ (stepped ++ end)) (Has t u m source f k ready of result first q c)
        (λ y s1. then_do (read y s1) (λ v s2. then_do (outcome (step_by t.word left o v) spot s2) (write world y))) first label b q c s fresh ops i at rep
        (λ r d y s1 rest g.
        let parts = stands_split t u m k (got_from (storage_in p) v a (v + 1)) (stepped ++ end) r q rest in
        let steps = stands_split t u m k stepped end parts.0 q parts.2 in
        does_then t u n d (Has_word t u m source f k ready left v v parts.0 d) (Has t u m source f k ready of result first q c) (read y s1) (λ v s2. then_do (outcome (step_by t.word left o v) spot s2) (write world y))
        (read_does t u m source f k ready n left p a first r parts.0 c y s1 d v v (v + 1) (omega (arith, fresh)) (omega arith) (next_spared p v) g parts.1)
        (λ z s2 e h.
        let value = h.value in
        does_then t u n e (Has_word t u m source f k ready type.Unsigned v v steps.0 e) (Has t u m source f k ready of result first q c) (outcome (step_by t.word left o z) spot s2) (write world y)
        (step_does left o spot v (v + 2) z parts.0 steps.0 e s2 (omega (arith, fresh)) (omega arith) h.inside h.at h.rep value.0 steps.1)
        (λ z' s3 w b.
        let new = b.value in
        narrow_finish of left p y first v (v + 3) (v + 4) z' r q c d w s1 fresh fresh_p (omega arith) (omega arith) (omega arith) same g
        (since_trans t u m source f k ready v v d e w (omega arith) h.since b.since) steps.0 s3 b.inside b.at b.rep new.0 new.2 steps.2)))

    pub after_does : (of left : CType) (at : Spot) (o : StepOperator) (x : State → Part Lvalue) (p : Designated) → Place_fresh t u m source f k ready p → PlaceDoes t u m source f k ready n left x p → alike of left ≡ true
        → ValueDoes t u m source f k ready n of
        (λ s. then_do (x s) (λ y s1. then_do (read y s1) (λ v s2. then_do (outcome (step_by t.word left o v) at s2) (λ r s3. then_do (write world y r s3) (λ _ s4. give (word v) s4))))) (stepped_after o left p)
    after_does of left spot o x p fresh_p does same first label b q c s fresh ops i at rep =
        let a = (opened p).result first in
        let v = first + (opened p).temps in
        let new = v + 2 in
        let end = narrowed left new (v + 4) ++ (put_into (storage_in p) a new (v + 5) ++ settled p a v) in
        let stepped = code.constant (v + 3) 1 ∷ code.operate (step_operator o) new (v + 3) ∷ [] in
        let result = settled_in p a v in
        let Whole = Has t u m source f k ready of result first q c in
        place_then left p x does (got_from (storage_in p) v a (v + 1) ++ (code.copy new v ∷ (stepped ++ end))) Whole
        (λ y s1. then_do (read y s1) (λ v s2. then_do (outcome (step_by t.word left o v) spot s2) (λ r s3. then_do (write world y r s3) (λ _ s4. give (word v) s4)))) first label b q c s fresh ops i at rep
        (λ r d y s1 rest g.
        let parts = stands_split t u m k (got_from (storage_in p) v a (v + 1)) (code.copy new v ∷ (stepped ++ end)) r q rest in
        does_then t u n d (Has_word t u m source f k ready left v v parts.0 d) Whole (read y s1)
        (λ v s2. then_do (outcome (step_by t.word left o v) spot s2) (λ r s3. then_do (write world y r s3) (λ _ s4. give (word v) s4)))
        (read_does t u m source f k ready n left p a first r parts.0 c y s1 d v v (v + 1) (omega (arith, fresh)) (omega arith) (next_spared p v) g parts.1)
        (λ z s2 e h. from_old of left spot o p fresh_p same first q c s1 fresh y r d z s2 e parts.0 g h parts.2))
      where
        from_old : (of left : CType) (spot : Spot) (o : StepOperator) (p : Designated) → Place_fresh t u m source f k ready p → alike of left ≡ true → (first : ℕ) (q : Place) (c : Point) (s1 : State) → scalar_count f ≤ first
            → (y : Lvalue) (r : Place) (d : Point) (z : ℕ) (s2 : State) (e : Point) (r1 : Place) → HasPlace t u m source f k ready left p ((opened p).result first) first r c y s1 d
            → Has_word t u m source f k ready left (first + (opened p).temps) (first + (opened p).temps) r1 d z s2 e
            → Code (code.copy (first + (opened p).temps + 2) (first + (opened p).temps) ∷ ((code.constant (first + (opened p).temps + 3) 1 ∷ code.operate (step_operator o) (first + (opened p).temps + 2) (first + (opened p).temps + 3) ∷ [])
            ++ (narrowed left (first + (opened p).temps + 2) (first + (opened p).temps + 4)
            ++ (put_into (storage_in p) ((opened p).result first) (first + (opened p).temps + 2) (first + (opened p).temps + 5) ++ settled p ((opened p).result first) (first + (opened p).temps))))) r1 q
            → Does t u n e (Has t u m source f k ready of (settled_in p ((opened p).result first) (first + (opened p).temps)) first q c)
            (then_do (outcome (step_by t.word left o z) spot s2) (λ r s3. then_do (write world y r s3) (λ _ s4. give (word z) s4)))
        from_old of left spot o p fresh_p same first q c s1 fresh y r d z s2 e r1 g h (r2, one, rest) =
            let a = (opened p).result first in
            let v = first + (opened p).temps in
            let new = v + 2 in
            let stepped = code.constant (v + 3) 1 ∷ code.operate (step_operator o) new (v + 3) ∷ [] in
            let end = narrowed left new (v + 4) ++ (put_into (storage_in p) a new (v + 5) ++ settled p a v) in
            let value = h.value in
            let Whole = Has t u m source f k ready of (settled_in p a v) first q c in
            to_does t u m source f k ready n r2 (SetsTemp new (Some z) e) Whole e (then_do (outcome (step_by t.word left o z) spot s2) (λ r s3. then_do (write world y r s3) (λ _ s4. give (word z) s4)))
            (copies t u m source f k ready r1 r2 e h.inside h.at new v (Some z) one value.0) (λ w b. b.printed)
            (λ w j at' b.
            let steps = stands_split t u m k stepped end r2 q rest in
            let works = works_sets t u m source f k new new (Some z) e w b in
            let since1 = since_works t u m source f k ready new new new e w (omega arith) (omega arith) works in
            let rep1 = rep_works t u m source f k ready new new e w (omega (arith, fresh)) (omega (arith, fresh)) works s2 h.rep in
            does_then t u n w (Has_word t u m source f k ready type.Unsigned new new steps.0 w) Whole (outcome (step_by t.word left o z) spot s2) (λ r s3. then_do (write world y r s3) (λ _ s4. give (word z) s4))
            (step_does left o spot new (v + 3) z r2 steps.0 w s2 (omega (arith, fresh)) (omega arith) j at' rep1 b.temp steps.1)
            (λ z' s3 w' b'.
            let stored_value = b'.value in
            let parts = stands_split t u m k (narrowed left new (v + 4)) (put_into (storage_in p) a new (v + 5) ++ settled p a v) steps.0 q steps.2 in
            let y' = as_type t.word left z' in
            to_does t u m source f k ready n parts.0 (Gets t u m source f k ready new y' (v + 4) w') Whole w' (then_do (write world y z' s3) (λ _ s4. give (word z) s4))
            (narrows t u m source f k ready steps.0 parts.0 w' b'.inside b'.at left new (v + 4) z' (omega arith) stored_value.2 b'.rep.stack stored_value.0 parts.1) (λ g' h'. h'.works.printed)
            (λ g' j' at'' h'.
            let since2 = since_works t u m source f k ready new new (v + 4) w' g' (omega arith) (omega arith) h'.works in
            let since3 = since_trans t u m source f k ready new new e w g' (omega arith) since1 (since_trans t u m source f k ready new new w w' g' (omega arith) b'.since since2) in
            let since4 = since_trans t u m source f k ready v new d e g' (omega arith) h.since since3 in
            let rep2 = rep_works t u m source f k ready new (v + 4) w' g' (omega (arith, fresh)) (omega (arith, fresh)) h'.works s3 b'.rep in
            subst (λ x'. Does t u n g' Whole (give (word z) (stored s3 y.variable y.index (Some x')))) (g.typed z')
            (finish of p y a new v (v + 5) first y' z parts.0 q c g' s3 fresh
            (record {
              kept = kept_since p y a v d g' (addressed_by p first fresh_p fresh) since4 g.kept;
              holds = h'.temp;
              whole = since3.temps v (omega (arith, fresh)) (omega arith) ∙ value.0;
              typed = sym (g.typed y') ∙ as_type_twice t.word left z' ready.target.size;
              small = as_type_small t.word left z' ready.target.size;
              whole_typed = as_alike t.word of left z same ∙ value.1;
              whole_small = value.2;
              from = omega arith;
              settled_at = settled_from p first v fresh_p (omega arith);
              spared = omega arith;
              other = λ eq. omega (arith, eq);
              other_whole = λ eq. omega (arith, eq);
            })
            j' at'' rep2 (since_trans t u m source f k ready first v c d g' (omega arith) g.since since4) parts.2))))
