-- Tests: jumps by the truth of an expression.
use Rattle.std.proofs.Common.{◌≡◌, ◌≢◌, ℕ, zero, suc, ◌+◌, ◌^◌, ◌≤◌, ◌<◌, List, [], ◌∷◌, ◌++◌, Option, Some, None, refl, sym, ap, ◌∙◌, subst, arith}
use Rattle.std.specs.Prelude.{Bool, true, false, not, cond, if◌then◌else◌, ◌==◌}
use Rattle.std.proofs.lemmas.Bool.Decides.{nat_tests}
use Rattle.behaviour.proofs.Stepping.{leads_comes}
use Rattle.rtl_word.specs.declared.Rel.{Rel}
use Rattle.rtl_word.specs.declared.Rel.TheVariants.{Eq, Ne}
use Rattle.rtl_word.specs.Words.{IsWordSize, word_test, word_rel, negated as opposite}
use Rattle.rtl_word.proofs.Comparisons.{test_negated}
use Rattle.rtl_tree.specs.declared.cells.Cell.TheVariants.{Hard, Temp}
use Rattle.md_shapes.specs.Shapes.{Frame as Fixed}
use Rattle.c_tree.specs.declared.token.At.{At as Spot}
use Rattle.c_tree.specs.declared.types.CType.{CType}
use Rattle.c_tree.specs.declared.typed.Function.{Function}
use Rattle.c_tree.specs.declared.typed.Typed.{Typed}
use Rattle.c_meaning.specs.Operators.{Outcome, gives, undefined, compare, relation_in}
use Rattle.c_meaning.specs.Parts.{State, Part, then_do, give, demand, outcome, Value as Result, word, absent}
use Rattle.c_meaning.specs.Expressions.{at_zero, truth, falsehood, as_value}
use Rattle.temp_machine.specs.Routines.{Image, Target}
use Rattle.temp_machine.specs.Live.{Place}
use Rattle.temp_machine.specs.Small.{Point}
use Rattle.naive_code.specs.Operations as code
use Rattle.naive_code.specs.Operations.{Op, Close, Stop, Branches, Falls}
use Rattle.naive_code.specs.Storage.{scalar_count}
use Rattle.naive_code.specs.Expressions.{Value, Test, relation_if, test_of, compared, decided, in_turn, denied, tested_after, value_of}
use Rattle.naive_run.specs.Sound.{is_word}
use Rattle.naive_run.specs.Standing.{One}
use Rattle.naive_step.proofs.Doing.{M, Does, any, does_then, does_on, does_further, there, came}
use Rattle.naive_step.proofs.Making.{Call, Inside, At, routine_in}
use Rattle.naive_step.proofs.Acts.{SetsTemp}
use Rattle.naive_step.proofs.Ends.{Opens, Opened, begin_of, closed_at, found_at, close_falls, close_branch_on, close_branch_off}
use Rattle.naive_assigned.proofs.Ready.{Ready}
use Rattle.naive_assigned.proofs.Working.{Works, rep_works, works_sets}
use Rattle.naive_values.proofs.Calculating.{Of_words, words_given, same_value, no_outcome}
use Rattle.naive_values.proofs.Typed.{as_word}
use Rattle.naive_values.proofs.Getting.{To, Ops, stands_split, sets_number}
use Rattle.naive_values.proofs.Asked.{Any, Is_truth, IsFresh, Stands_for, Since, since_refl, since_trans, since_works, Has, Has_word, block_at, leaves, reached_at, Tested, Tested_if, Tested_value, Opens_next, ValueDoes, TestDoes}
use Rattle.naive_values.proofs.Composing.{value_then, to_does}

-- where a branch by the truth of a word leaves
zero_leaves : (w : ℕ) (sense : Bool) (v : ℕ) → word_test w (relation_if sense Ne) v 0 ≡ leaves sense v
zero_leaves w true zero = refl
zero_leaves w true (suc n) = grind (arith, nat_tests)
zero_leaves w false zero = refl
zero_leaves w false (suc n) = grind (arith, nat_tests)

-- and one by a relation
relation_leaves : (w : ℕ) (sense : Bool) (r : Rel) (x y : ℕ) (b : Bool) → word_test w r x y ≡ b → word_test w (relation_if sense r) x y ≡ leaves sense (cond b 1 0)
relation_leaves w true r x y true e = e
relation_leaves w true r x y false e = e
relation_leaves w false r x y true e = test_negated w r x y ∙ ap not e
relation_leaves w false r x y false e = test_negated w r x y ∙ ap not e

bit_small : (b : Bool) → cond b 1 0 < 2
bit_small true = omega arith
bit_small false = omega arith

module _ (t : Target) (u : Image) (m : Fixed) (source : Typed) (f : Function) (k : Call) (ready : Ready t u m source f k) (n : ℕ) where
  abbrev Code : List Op → Place → Place → Type 0
  Code = Ops t u m source f k ready

  abbrev To_begin : Place → Point → Type 0
  To_begin q c = To t u m source f k ready q (Opens c) c

  abbrev Closes : Stop → ℕ → Place → Place → Type 0
  Closes stop label = One t.word m (routine_in t u k) (Close stop label)

  pub works_opens : (a first : ℕ) (c d : Point) → Opens c d → Works t u m source f k a first c d
  works_opens a first c d o = record { temps = λ j lt ne. o.temps j; stack = o.regs t.sp; bytes = λ b out. o.bytes b; input = o.input; printed = o.printed }

  pub opened_to : (block : ℕ) (q : Place) (c : Point) → q ≡ begin_of block → Opened t u m k ready.fits block c → To_begin q c
  opened_to block q c same o =
      subst (λ r. To_begin r c) (sym same) (record { point = o.point; comes = leads_comes (M t u) c o.point o.leads; inside = o.inside; at = o.at; fact = o.fact })

  -- where a branch by two temporaries goes
  pub branched : (r : Rel) (a b target next x y : ℕ) (p q : Place) (c : Point) → Inside t u k c → At t u p c → c.view.cells (Temp a) ≡ Some x → c.view.cells (Temp b) ≡ Some y → Closes (Branches r a b target) next p q
      → (leave : Bool) → word_test t.word r x y ≡ leave → To_begin (reached_at t u m source f k ready leave target q) c
  branched r a b target next x y p q c i h left right one true e =
      opened_to (block_at t u m source f k ready target) _ c refl (close_branch_off t u m k ready.fits r a b target next x y p q c i h left right (ap (λ z. cond z 1 0) e) one)
  branched r a b target next x y p q c i h left right one false e =
      opened_to (suc p.block) q c (closed_at t u m k ready.fits (Branches r a b target) next p q one)
      (close_branch_on t u m k ready.fits r a b target next x y p q c i h left right (ap (λ z. cond z 1 0) e) one)

  -- the block that a close opens is the one of its label
  pub closes_at : (stop : Stop) (label : ℕ) (p q : Place) → Closes stop label p q → q ≡ begin_of (block_at t u m source f k ready label)
  closes_at stop label p q one = closed_at t u m k ready.fits stop label p q one ∙ ap begin_of (sym (found_at t u m k ready.fits stop label p q one))

  -- a word was tested
  tested : (P : Result → Type 0) (sense : Bool) (target first v : ℕ) (q : Place) (c d : Point) (s : State) → P (word v) → scalar_count f ≤ first → Stands_for t u m source f k ready s d → Since t u m source f k ready first c d
      → To_begin (reached_at t u m source f k ready (leaves sense v) target q) d → Does t u n d (Tested_value t u m source f k ready P sense target first q c) (give (word v) s)
  tested P sense target first v q c d s known fresh rep since r =
      let works = works_opens first first d r.point r.fact in
      came t u n d r.point (Tested_value t u m source f k ready P sense target first q c) (word v) s r.comes r.fact.printed (
        known,
        record {
          inside = r.inside;
          at = r.at;
          rep = rep_works t u m source f k ready first first d r.point fresh fresh works s rep;
          since = since_trans t u m source f k ready first first c d r.point (omega arith) since (since_works t u m source f k ready first first first d r.point (omega arith) (omega arith) works);
        },
      )

  -- a value is compared with 0
  pub test_of_does : (of : CType) (x : State → Part Result) (v : Value) → IsFresh v → ValueDoes t u m source f k ready n of x v → TestDoes t u m source f k ready n Any x (test_of v)
  test_of_does of x v fresh_v does sense target next first label p q c s fresh ops i at rep =
      let spare = first + v.temps in
      let rest = code.constant spare 0 ∷ Close (Branches (relation_if sense Ne) (v.result first) spare target) next ∷ [] in
      let parts = stands_split t u m k (v.ops first label) rest p q ops in
      does_further t u n c (Has t u m source f k ready of (v.result first) first parts.0 c) (Tested_value t u m source f k ready Any sense target first q c) (x s)
      (does first label p parts.0 c s fresh parts.1 i at rep) (λ w s1 d h. each w s1 d parts.0 parts.2 h)
    where
      each : (w : Result) (s1 : State) (d : Point) (r : Place) → Code (code.constant (first + v.temps) 0 ∷ Close (Branches (relation_if sense Ne) (v.result first) (first + v.temps) target) next ∷ []) r q
          → Has t u m source f k ready of (v.result first) first r c w s1 d → Does t u n d (Tested_value t u m source f k ready Any sense target first q c) (give w s1)
      each (absent spot) s1 d r rest h = there t u n d (Tested_value t u m source f k ready Any sense target first q c) (absent spot) s1 (tt, tt)
      each (word a) s1 d r (r1, one, (r2, two, last)) h =
          let spare = first + v.temps in
          let value = h.value in
          let to = fresh_v.to first in
          let ne : v.result first ≢ spare = λ e. omega (arith, e, to) in
          let closes : Closes (Branches (relation_if sense Ne) (v.result first) spare target) next r1 q = subst (λ z. Closes (Branches (relation_if sense Ne) (v.result first) spare target) next r1 z) (sym last) two in
          to_does t u m source f k ready n r1 (SetsTemp spare (Some 0) d) (Tested_value t u m source f k ready Any sense target first q c) d (give (word a) s1)
          (sets_number t u m source f k ready r r1 d h.inside h.at spare 0 one) (λ e b. b.printed)
          (λ e j at' b.
          let works = works_sets t u m source f k spare spare (Some 0) d e b in
          tested Any sense target first a q c e s1 tt fresh (rep_works t u m source f k ready spare spare d e (omega (arith, fresh)) (omega (arith, fresh)) works s1 h.rep)
          (since_trans t u m source f k ready first first c d e (omega arith) h.since (since_works t u m source f k ready first spare spare d e (omega arith) (omega arith) works))
          (branched (relation_if sense Ne) (v.result first) spare target next a 0 r1 q e j at' (b.others (v.result first) ne ∙ value.0) b.temp closes (leaves sense a) (zero_leaves t.word sense a)))

  pub test_of_opens : (v : Value) → Opens_next t u m source f k ready (test_of v)
  test_of_opens v sense target next first label p q ops =
      let spare = first + v.temps in
      let parts = stands_split t u m k (v.ops first label) (code.constant spare 0 ∷ Close (Branches (relation_if sense Ne) (v.result first) spare target) next ∷ []) p q ops in
      after parts.0 parts.2
    where
      after : (r : Place) → Code (code.constant (first + v.temps) 0 ∷ Close (Branches (relation_if sense Ne) (v.result first) (first + v.temps) target) next ∷ []) r q → q ≡ begin_of (block_at t u m source f k ready next)
      after r (r1, one, (r2, two, last)) = last ∙ closes_at (Branches (relation_if sense Ne) (v.result first) (first + v.temps) target) next r1 r2 two

  -- two values are compared
  pub compared_does : (ty left right : CType) (r un : Rel) (spot : Spot) (x y : State → Part Result) (a b : Value) → IsFresh a → IsFresh b → ValueDoes t u m source f k ready n left x a → ValueDoes t u m source f k ready n right y b
      → TestDoes t u m source f k ready n Is_truth (λ s. then_do (then_do (x s) demand) (λ v s1. then_do (then_do (y s1) demand) (λ w s2. as_value (outcome (compare t.word ty r un v w) spot s2)))) (compared (relation_in ty r un) a b)
  compared_does ty left right r un spot x y a b fresh_a fresh_b does_a does_b sense target next first label p q c s fresh ops i at rep =
      let beyond = first + a.temps in
      let end = Close (Branches (relation_if sense (relation_in ty r un)) (a.result first) (b.result beyond) target) next ∷ [] in
      let Q = Tested_value t u m source f k ready Is_truth sense target first q c in
      value_then t u m source f k ready n left a x does_a (b.ops beyond (label + a.labels) ++ end) Q (λ v s1. then_do (then_do (y s1) demand) (λ w s2. as_value (outcome (compare t.word ty r un v w) spot s2)))
      first label p q c s fresh ops i at rep
      (λ p1 d v s1 rest h.
      let first_value = h.value in
      value_then t u m source f k ready n right b y does_b end Q (λ w s2. as_value (outcome (compare t.word ty r un v w) spot s2)) beyond (label + a.labels) p1 q d s1 (omega (arith, fresh)) rest h.inside h.at h.rep
      (λ p2 e w s2 rest' g.
      let second = g.value in
      let from = fresh_a.from first in
      by_outcome p2 e v w s2 rest' g.inside g.at g.rep (since_trans t u m source f k ready first beyond c d e (omega arith) h.since g.since)
      (g.since.temps (a.result first) (omega (arith, fresh, from)) (fresh_a.to first) ∙ first_value.0) second.0 (compare t.word ty r un v w) refl))
    where
      by_outcome : (p2 : Place) (e : Point) (v w : ℕ) (s2 : State) → Code (Close (Branches (relation_if sense (relation_in ty r un)) (a.result first) (b.result (first + a.temps)) target) next ∷ []) p2 q → Inside t u k e → At t u p2 e
          → Stands_for t u m source f k ready s2 e → Since t u m source f k ready first c e → e.view.cells (Temp (a.result first)) ≡ Some v → e.view.cells (Temp (b.result (first + a.temps))) ≡ Some w
          → (o : Outcome) → compare t.word ty r un v w ≡ o → Does t u n e (Tested_value t u m source f k ready Is_truth sense target first q c) (as_value (outcome o spot s2))
      by_outcome p2 e v w s2 rest j at' rep' since left_is right_is (undefined what) is = any [] _
      by_outcome p2 e v w s2 (r2, one, last) j at' rep' since left_is right_is (gives z) is =
          let R = relation_in ty r un in
          let given = (words_given t.word v w (gives (word_rel t.word R v w)) z is).given in
          subst (λ z'. Does t u n e (Tested_value t u m source f k ready Is_truth sense target first q c) (give (word z') s2)) (same_value (word_rel t.word R v w) z given)
          (by_test (word_test t.word R v w) refl)
        where
          by_test : (b' : Bool) → word_test t.word (relation_in ty r un) v w ≡ b' → Does t u n e (Tested_value t u m source f k ready Is_truth sense target first q c) (give (word (cond b' 1 0)) s2)
          by_test b' holds =
              let R = relation_if sense (relation_in ty r un) in
              let closes : Closes (Branches R (a.result first) (b.result (first + a.temps)) target) next p2 q = subst (λ z. Closes (Branches R (a.result first) (b.result (first + a.temps)) target) next p2 z) (sym last) one in
              tested Is_truth sense target first (cond b' 1 0) q c e s2 (bit_small b') fresh rep' since
              (branched R (a.result first) (b.result (first + a.temps)) target next v w p2 q e j at' left_is right_is closes (leaves sense (cond b' 1 0)) (relation_leaves t.word sense (relation_in ty r un) v w b' holds))

  pub compared_opens : (r : Rel) (a b : Value) → Opens_next t u m source f k ready (compared r a b)
  compared_opens r a b sense target next first label p q ops =
      let beyond = first + a.temps in
      let end = Close (Branches (relation_if sense r) (a.result first) (b.result beyond) target) next ∷ [] in
      let parts = stands_split t u m k (a.ops first label) (b.ops beyond (label + a.labels) ++ end) p q ops in
      let second = stands_split t u m k (b.ops beyond (label + a.labels)) end parts.0 q parts.2 in
      after second.0 second.2
    where
      after : (z : Place) → Code (Close (Branches (relation_if sense r) (a.result first) (b.result (first + a.temps)) target) next ∷ []) z q → q ≡ begin_of (block_at t u m source f k ready next)
      after z (z1, one, last) = last ∙ closes_at (Branches (relation_if sense r) (a.result first) (b.result (first + a.temps)) target) next z z1 one

  -- ---- `&&`, `||`, `!` and the comma

  pub needed_test : (P : Result → Type 0) (sense : Bool) (target first : ℕ) (q : Place) (c : Point) (x : Part Result) → Does t u n c (Tested_value t u m source f k ready P sense target first q c) x
      → Does t u n c (λ v. Tested_value t u m source f k ready P sense target first q c (word v)) (then_do x demand)
  needed_test P sense target first q c x h = does_then t u n c (Tested_value t u m source f k ready P sense target first q c) _ x demand h each
    where
      each : (v : Result) (s : State) (d : Point) → Tested_value t u m source f k ready P sense target first q c v s d
          → Does t u n d (λ v. Tested_value t u m source f k ready P sense target first q c (word v)) (demand v s)
      each (word v) s d g = there t u n d (λ v. Tested_value t u m source f k ready P sense target first q c (word v)) v s g
      each (absent at) s d g = any [] _

  -- what was tested since a later point was so since an earlier one, and so of a value whose truth is the same
  again : (P : Result → Type 0) (sense : Bool) (target first later v w : ℕ) (q : Place) (c d e : Point) (s : State) → P (word w) → leaves sense v ≡ leaves sense w → first ≤ later → Since t u m source f k ready first c d
      → Tested t u m source f k ready sense target later q d v s e → Tested_value t u m source f k ready P sense target first q c (word w) s e
  again P sense target first later v w q c d e s known same le since g = (
    known,
    record {
      inside = g.inside;
      at = subst (λ b. At t u (reached_at t u m source f k ready b target q) e) same g.at;
      rep = g.rep;
      since = since_trans t u m source f k ready first later c d e le since g.since;
    },
  )

  -- the second test decides: its truth is that of the whole
  second_test : (Q : Result → Type 0) (y : State → Part Result) (b : Test) → TestDoes t u m source f k ready n Q y b → (sense : Bool) (target next first label later : ℕ) (r q : Place) (c d : Point) (s : State) → scalar_count f ≤ first
      → first ≤ later → Code (b.ops sense target next later label) r q → Inside t u k d → At t u r d → Stands_for t u m source f k ready s d → Since t u m source f k ready first c d
      → Does t u n d (Tested_value t u m source f k ready Is_truth sense target first q c) (then_do (then_do (y s) demand) (λ v. at_zero v falsehood truth))
  second_test Q y b does sense target next first label later r q c d s fresh le ops i at rep since =
      does_then t u n d (λ v. Tested_value t u m source f k ready Q sense target later q d (word v)) (Tested_value t u m source f k ready Is_truth sense target first q c) (then_do (y s) demand) (λ v. at_zero v falsehood truth)
      (needed_test Q sense target later q d (y s) (does sense target next later label r q d s (omega (arith, fresh, le)) ops i at rep))
      each
    where
      each : (v : ℕ) (s1 : State) (e : Point) → Tested_value t u m source f k ready Q sense target later q d (word v) s1 e
          → Does t u n e (Tested_value t u m source f k ready Is_truth sense target first q c) (at_zero v falsehood truth s1)
      each zero s1 e g = there t u n e (Tested_value t u m source f k ready Is_truth sense target first q c) (word 0) s1 (again Is_truth sense target first later 0 0 q c d e s1 (omega arith) refl le since g.1)
      each (suc v) s1 e g =
          there t u n e (Tested_value t u m source f k ready Is_truth sense target first q c) (word 1) s1
          (again Is_truth sense target first later (suc v) 1 q c d e s1 (omega arith) (same_leave sense v) le since g.1)
        where
          same_leave : (sense : Bool) (v : ℕ) → leaves sense (suc v) ≡ leaves sense 1
          same_leave true v = refl
          same_leave false v = refl

  -- the first test decides: the value is known, and the place is where the whole leaves for or goes on
  first_test : (sense : Bool) (target first v : ℕ) (q there_is : Place) (c d : Point) (s : State) → v < 2 → there_is ≡ reached_at t u m source f k ready (leaves sense v) target q → Inside t u k d → At t u there_is d
      → Stands_for t u m source f k ready s d → Since t u m source f k ready first c d → Tested_value t u m source f k ready Is_truth sense target first q c (word v) s d
  first_test sense target first v q there_is c d s small same i at rep since =
      (small, record { inside = i; at = subst (λ z. At t u z d) same at; rep = rep; since = since })

  module _ (P Q : Result → Type 0) (x y : State → Part Result) (a b : Test) (opens_b : Opens_next t u m source f k ready b) (does_a : TestDoes t u m source f k ready n P x a) (does_b : TestDoes t u m source f k ready n Q y b) where
    pub and_does : TestDoes t u m source f k ready n Is_truth (λ s. then_do (then_do (x s) demand) (λ v. at_zero v falsehood (λ s1. then_do (then_do (y s1) demand) (λ w. at_zero w falsehood truth)))) (in_turn true a b)
    and_does sense target next first label p q c s fresh ops i at rep =
        let later = first + a.temps in
        let to = decided true sense target next in
        let parts = stands_split t u m k (a.ops false to label first (label + 1)) (b.ops sense target next later (label + 1 + a.labels)) p q ops in
        does_then t u n c (λ v. Tested_value t u m source f k ready P false to first parts.0 c (word v)) (Tested_value t u m source f k ready Is_truth sense target first q c) (then_do (x s) demand)
        (λ v. at_zero v falsehood (λ s1. then_do (then_do (y s1) demand) (λ w. at_zero w falsehood truth)))
        (needed_test P false to first parts.0 c (x s) (does_a false to label first (label + 1) p parts.0 c s fresh parts.1 i at rep))
        (λ v s1 d g. each v s1 d parts.0 parts.2 g.1)
      where
        place : (sense : Bool) → q ≡ begin_of (block_at t u m source f k ready next) → begin_of (block_at t u m source f k ready (decided true sense target next)) ≡ reached_at t u m source f k ready (leaves sense 0) target q
        place true e = sym e
        place false e = refl

        each : (v : ℕ) (s1 : State) (d : Point) (r : Place) → Code (b.ops sense target next (first + a.temps) (label + 1 + a.labels)) r q
            → Tested t u m source f k ready false (decided true sense target next) first r c v s1 d
            → Does t u n d (Tested_value t u m source f k ready Is_truth sense target first q c) (at_zero v falsehood (λ s1. then_do (then_do (y s1) demand) (λ w. at_zero w falsehood truth)) s1)
        each zero s1 d r rest g =
            there t u n d (Tested_value t u m source f k ready Is_truth sense target first q c) (word 0) s1
            (first_test sense target first 0 q _ c d s1 (omega arith) (place sense (opens_b sense target next (first + a.temps) (label + 1 + a.labels) r q rest)) g.inside g.at g.rep g.since)
        each (suc v) s1 d r rest g = second_test Q y b does_b sense target next first (label + 1 + a.labels) (first + a.temps) r q c d s1 fresh (omega arith) rest g.inside g.at g.rep g.since

    pub or_does : TestDoes t u m source f k ready n Is_truth (λ s. then_do (then_do (x s) demand) (λ v. at_zero v (λ s1. then_do (then_do (y s1) demand) (λ w. at_zero w falsehood truth)) truth)) (in_turn false a b)
    or_does sense target next first label p q c s fresh ops i at rep =
        let later = first + a.temps in
        let to = decided false sense target next in
        let parts = stands_split t u m k (a.ops true to label first (label + 1)) (b.ops sense target next later (label + 1 + a.labels)) p q ops in
        does_then t u n c (λ v. Tested_value t u m source f k ready P true to first parts.0 c (word v)) (Tested_value t u m source f k ready Is_truth sense target first q c) (then_do (x s) demand)
        (λ v. at_zero v (λ s1. then_do (then_do (y s1) demand) (λ w. at_zero w falsehood truth)) truth)
        (needed_test P true to first parts.0 c (x s) (does_a true to label first (label + 1) p parts.0 c s fresh parts.1 i at rep))
        (λ v s1 d g. each v s1 d parts.0 parts.2 g.1)
      where
        place : (sense : Bool) → q ≡ begin_of (block_at t u m source f k ready next) → begin_of (block_at t u m source f k ready (decided false sense target next)) ≡ reached_at t u m source f k ready (leaves sense 1) target q
        place true e = refl
        place false e = sym e

        each : (v : ℕ) (s1 : State) (d : Point) (r : Place) → Code (b.ops sense target next (first + a.temps) (label + 1 + a.labels)) r q
            → Tested t u m source f k ready true (decided false sense target next) first r c v s1 d
            → Does t u n d (Tested_value t u m source f k ready Is_truth sense target first q c) (at_zero v (λ s1. then_do (then_do (y s1) demand) (λ w. at_zero w falsehood truth)) truth s1)
        each zero s1 d r rest g = second_test Q y b does_b sense target next first (label + 1 + a.labels) (first + a.temps) r q c d s1 fresh (omega arith) rest g.inside g.at g.rep g.since
        each (suc v) s1 d r rest g =
            there t u n d (Tested_value t u m source f k ready Is_truth sense target first q c) (word 1) s1
            (first_test sense target first 1 q _ c d s1 (omega arith) (place sense (opens_b sense target next (first + a.temps) (label + 1 + a.labels) r q rest)) g.inside g.at g.rep g.since)

  pub in_turn_opens : (and : Bool) (a b : Test) → Opens_next t u m source f k ready b → Opens_next t u m source f k ready (in_turn and a b)
  in_turn_opens and a b opens sense target next first label p q ops =
      let to = decided and sense target next in
      let parts = stands_split t u m k (a.ops (not and) to label first (label + 1)) (b.ops sense target next (first + a.temps) (label + 1 + a.labels)) p q ops in
      opens sense target next (first + a.temps) (label + 1 + a.labels) parts.0 q parts.2

  -- the denial of a test
  pub denied_does : (P : Result → Type 0) (x : State → Part Result) (a : Test) (spot : Spot) → TestDoes t u m source f k ready n P x a
      → TestDoes t u m source f k ready n Is_truth (λ s. then_do (then_do (x s) demand) (λ v s1. as_value (outcome (gives (if v == 0 then 1 else 0)) spot s1))) (denied a)
  denied_does P x a spot does sense target next first label p q c s fresh ops i at rep =
      does_then t u n c (λ v. Tested_value t u m source f k ready P (not sense) target first q c (word v)) (Tested_value t u m source f k ready Is_truth sense target first q c) (then_do (x s) demand)
      (λ v s1. as_value (outcome (gives (if v == 0 then 1 else 0)) spot s1))
      (needed_test P (not sense) target first q c (x s) (does (not sense) target next first label p q c s fresh ops i at rep))
      (λ v s1 d g. by_value v s1 d (v == 0) refl g.1)
    where
      opposite_leave : (sense : Bool) (v : ℕ) (b : Bool) → (v == 0) ≡ b → leaves (not sense) v ≡ leaves sense (if b then 1 else 0)
      opposite_leave true zero true e = refl
      opposite_leave true zero false e = absurd (grind (arith, nat_tests, e))
      opposite_leave true (suc v) true e = absurd (grind (arith, nat_tests, e))
      opposite_leave true (suc v) false e = refl
      opposite_leave false zero true e = refl
      opposite_leave false zero false e = absurd (grind (arith, nat_tests, e))
      opposite_leave false (suc v) true e = absurd (grind (arith, nat_tests, e))
      opposite_leave false (suc v) false e = refl

      small : (b : Bool) → (if b then 1 else 0) < 2
      small true = omega arith
      small false = omega arith

      by_value : (v : ℕ) (s1 : State) (d : Point) (b : Bool) → (v == 0) ≡ b → Tested t u m source f k ready (not sense) target first q c v s1 d
          → Does t u n d (Tested_value t u m source f k ready Is_truth sense target first q c) (give (word (if b then 1 else 0)) s1)
      by_value v s1 d b e g =
          there t u n d (Tested_value t u m source f k ready Is_truth sense target first q c) (word (if b then 1 else 0)) s1
          (small b, record { inside = g.inside; at = subst (λ z. At t u (reached_at t u m source f k ready z target q) d) (opposite_leave sense v b e) g.at; rep = g.rep; since = g.since })

  pub denied_opens : (a : Test) → Opens_next t u m source f k ready a → Opens_next t u m source f k ready (denied a)
  denied_opens a opens sense target next first label p q ops = opens (not sense) target next first label p q ops

  -- a value is evaluated before a test
  pub tested_after_does : (P : Result → Type 0) (of : CType) (x y : State → Part Result) (a : Value) (b : Test) → ValueDoes t u m source f k ready n of x a → TestDoes t u m source f k ready n P y b
      → TestDoes t u m source f k ready n P (λ s. then_do (x s) (λ _ s1. y s1)) (tested_after a b)
  tested_after_does P of x y a b does_a does_b sense target next first label p q c s fresh ops i at rep =
      let later = first + a.temps in
      let parts = stands_split t u m k (a.ops first label) (b.ops sense target next later (label + a.labels)) p q ops in
      does_then t u n c (Has t u m source f k ready of (a.result first) first parts.0 c) (Tested_value t u m source f k ready P sense target first q c) (x s) (λ _ s1. y s1)
      (does_a first label p parts.0 c s fresh parts.1 i at rep)
      (λ v s1 d h.
      does_on t u n d (Tested_value t u m source f k ready P sense target later q d) (Tested_value t u m source f k ready P sense target first q c) (y s1)
      (does_b sense target next later (label + a.labels) parts.0 q d s1 (omega (arith, fresh)) parts.2 h.inside h.at h.rep)
      (λ w s2 e g. earlier w s2 d e h.since g))
    where
      earlier : (w : Result) (s2 : State) (d e : Point) → Since t u m source f k ready first c d → Tested_value t u m source f k ready P sense target (first + a.temps) q d w s2 e
          → Tested_value t u m source f k ready P sense target first q c w s2 e
      earlier (word v) s2 d e since g = again P sense target first (first + a.temps) v v q c d e s2 g.0 refl (omega arith) since g.1
      earlier (absent at) s2 d e since g = (g.0, tt)

  pub tested_after_opens : (a : Value) (b : Test) → Opens_next t u m source f k ready b → Opens_next t u m source f k ready (tested_after a b)
  tested_after_opens a b opens sense target next first label p q ops =
      let parts = stands_split t u m k (a.ops first label) (b.ops sense target next (first + a.temps) (label + a.labels)) p q ops in
      opens sense target next (first + a.temps) (label + a.labels) parts.0 q parts.2
