-- The value of a test, and one of two values by a test.
use Rattle.std.proofs.Common.{◌≡◌, ◌≢◌, ℕ, zero, suc, ◌+◌, ◌^◌, ◌≤◌, ◌<◌, List, [], ◌∷◌, ◌++◌, Option, Some, None, refl, sym, ap, ◌∙◌, subst, arith}
use Rattle.std.specs.Prelude.{Bool, true, false}
use Rattle.rtl_word.specs.Words.{IsWordSize}
use Rattle.rtl_word.proofs.Below.{by_size}
use Rattle.rtl_tree.specs.declared.cells.Cell.TheVariants.{Temp}
use Rattle.md_shapes.specs.Shapes.{Frame as Fixed}
use Rattle.c_tree.specs.declared.types.CType.{CType}
use Rattle.c_tree.specs.declared.typed.Function.{Function}
use Rattle.c_tree.specs.declared.typed.Typed.{Typed}
use Rattle.c_meaning.specs.Operators.{as_type}
use Rattle.c_meaning.specs.Parts.{State, Part, then_do, give, demand, Value as Result, word, absent}
use Rattle.c_meaning.specs.Expressions.{at_zero}
use Rattle.temp_machine.specs.Routines.{Image, Target}
use Rattle.temp_machine.specs.Live.{Place}
use Rattle.temp_machine.specs.Small.{Point}
use Rattle.naive_code.specs.Operations as code
use Rattle.naive_code.specs.Operations.{Op, Close, Falls, Jumps}
use Rattle.naive_code.specs.Storage.{scalar_count}
use Rattle.naive_code.specs.Expressions.{Value, Test, value_of, chosen}
use Rattle.naive_run.specs.Sound.{is_word, alike}
use Rattle.naive_run.specs.Standing.{One}
use Rattle.naive_step.proofs.Doing.{Does, any, does_then, does_further, does_on, there}
use Rattle.naive_step.proofs.Making.{Call, Inside, At, routine_in}
use Rattle.naive_step.proofs.Acts.{SetsTemp}
use Rattle.naive_step.proofs.Ends.{Opens, Opened, begin_of, close_falls, close_jumps, found_at, closed_at}
use Rattle.naive_assigned.proofs.Ready.{Ready}
use Rattle.naive_assigned.proofs.Working.{Works, rep_works, works_sets, works_trans}
use Rattle.naive_values.proofs.Typed.{as_word, as_alike}
use Rattle.naive_values.proofs.Getting.{To, Ops, to_then, to_as, stands_split, sets_number, copies}
use Rattle.naive_values.proofs.Asked.{Is_truth, Stands_for, Since, since_refl, since_trans, since_works, Stands_in, Has, had_since, block_at, leaves, reached_at, Tested, Tested_if, Tested_value, Opens_next, ValueDoes, TestDoes}
use Rattle.naive_values.proofs.Composing.{to_does}
use Rattle.naive_tests.proofs.Tests.{works_opens, opened_to, closes_at, needed_test}

one_small : (w v : ℕ) → IsWordSize w → v < 2 → v < 2 ^ w
one_small w v z lt = by_size (λ w. v < 2 ^ w) (omega (arith, lt)) (omega (arith, lt)) w z

module _ (t : Target) (u : Image) (m : Fixed) (source : Typed) (f : Function) (k : Call) (ready : Ready t u m source f k) (n : ℕ) where
  abbrev Code : List Op → Place → Place → Type 0
  Code = Ops t u m source f k ready

  -- a temporary is set, and the open block ends
  record Set_and_left (a : ℕ) (x : Option ℕ) (c d : Point) : Type 0 where
    temp : d.view.cells (Temp a) ≡ x
    works : Works t u m source f k a a c d

  pub falls_to : (l : ℕ) (p q r : Place) (c : Point) → Inside t u k c → At t u p c → One t.word m (routine_in t u k) (Close Falls l) p q → r ≡ q → To t u m source f k ready r (Opens c) c
  falls_to l p q r c i h one last =
      opened_to t u m source f k ready n (suc p.block) r c (last ∙ closed_at t u m k ready.fits Falls l p q one) (close_falls t u m k ready.fits l p q c i h one)

  set_and_fall : (a : ℕ) (x : Option ℕ) (l : ℕ) (r q z : Place) (c : Point) → To t u m source f k ready r (SetsTemp a x c) c → One t.word m (routine_in t u k) (Close Falls l) r z → q ≡ z
      → To t u m source f k ready q (Set_and_left a x c) c
  set_and_fall a x l r q z c set one last =
      to_then t u m source f k ready r q (SetsTemp a x c) (Set_and_left a x c) c set
      (λ d i h g. to_as t u m source f k ready q _ _ d (falls_to l r z q d i h one last) (λ e o. record {
        temp = o.temps a ∙ g.temp;
        works = works_trans t u m source f k a a c d e (works_sets t u m source f k a a x c d g) (works_opens t u m source f k ready n a a d e o);
      }))

  -- the value of a test that gives 0 or 1
  pub value_of_does : (of : CType) (x : State → Part Result) (a : Test) → is_word of ≡ true → TestDoes t u m source f k ready n Is_truth x a → ValueDoes t u m source f k ready n of x (value_of a)
  value_of_does of x a words does first label p q c s fresh (p1, set, rest) i at rep =
      let end = code.constant first 1 ∷ Close Falls label ∷ [] in
      let parts = stands_split t u m k (a.ops false label (label + 1) (first + 1) (label + 2)) end p1 q rest in
      to_does t u m source f k ready n p1 (SetsTemp first (Some 0) c) (Has t u m source f k ready of first first q c) c (x s) (sets_number t u m source f k ready p p1 c i at first 0 set) (λ d g. g.printed)
      (λ d j at' g.
      let works = works_sets t u m source f k first first (Some 0) c d g in
      let rep' = rep_works t u m source f k ready first first c d fresh fresh works s rep in
      let since = since_works t u m source f k ready first first first c d (omega arith) (omega arith) works in
      does_further t u n d (Tested_value t u m source f k ready Is_truth false label (first + 1) parts.0 d) (Has t u m source f k ready of first first q c) (x s)
      (does false label (label + 1) (first + 1) (label + 2) p1 parts.0 d s (omega (arith, fresh)) parts.1 j at' rep')
      (λ v s1 e h. each v s1 d e parts.0 g.temp since parts.2 h))
    where
      typed : (v : ℕ) → v < 2 → v < 2 ^ t.word
      typed v lt = one_small t.word v ready.target.size lt

      each : (v : Result) (s1 : State) (d e : Point) (r : Place) → d.view.cells (Temp first) ≡ Some 0 → Since t u m source f k ready first c d → Code (code.constant first 1 ∷ Close Falls label ∷ []) r q
          → Tested_value t u m source f k ready Is_truth false label (first + 1) r d v s1 e → Does t u n e (Has t u m source f k ready of first first q c) (give v s1)
      each (absent spot) s1 d e r zero_is since ops h = absurd h.0
      each (word zero) s1 d e r zero_is since (r1, one, (r2, two, last)) h =
          there t u n e (Has t u m source f k ready of first first q c) (word 0) s1 (record {
            inside = h.1.inside;
            at = subst (λ z. At t u z e) (sym (last ∙ closes_at t u m source f k ready n Falls label r1 r2 two)) h.1.at;
            rep = h.1.rep;
            since = since_trans t u m source f k ready first (first + 1) c d e (omega arith) since h.1.since;
            value = (h.1.since.temps first fresh (omega arith) ∙ zero_is, as_word t.word of 0 words (typed 0 (omega arith)), typed 0 (omega arith));
          })
      each (word (suc zero)) s1 d e r zero_is since (r1, one, (r2, two, last)) h =
          to_does t u m source f k ready n q (Set_and_left first (Some 1) e) (Has t u m source f k ready of first first q c) e (give (word 1) s1)
          (set_and_fall first (Some 1) label r1 q r2 e (sets_number t u m source f k ready r r1 e h.1.inside h.1.at first 1 one) two last) (λ w g. g.works.printed)
          (λ w j at' g. there t u n w (Has t u m source f k ready of first first q c) (word 1) s1 (record {
            inside = j;
            at = at';
            rep = rep_works t u m source f k ready first first e w fresh fresh g.works s1 h.1.rep;
            since = since_trans t u m source f k ready first first c e w (omega arith) (since_trans t u m source f k ready first (first + 1) c d e (omega arith) since h.1.since)
                (since_works t u m source f k ready first first first e w (omega arith) (omega arith) g.works);
            value = (g.temp, as_word t.word of 1 words (typed 1 (omega arith)), typed 1 (omega arith));
          }))
      each (word (suc (suc v))) s1 d e r zero_is since ops h = absurd (omega (arith, h.0))

  -- ---- `?:` (C11 6.5.15)

  pub jumps_to : (to l : ℕ) (p q r : Place) (c : Point) → Inside t u k c → At t u p c → One t.word m (routine_in t u k) (Close (Jumps to) l) p q → r ≡ begin_of (block_at t u m source f k ready to)
      → To t u m source f k ready r (Opens c) c
  jumps_to to l p q r c i h one last = opened_to t u m source f k ready n (block_at t u m source f k ready to) r c last (close_jumps t u m k ready.fits to l p q c i h one)

  set_and_jump : (a : ℕ) (x : Option ℕ) (to l : ℕ) (r q z : Place) (c : Point) → To t u m source f k ready r (SetsTemp a x c) c → One t.word m (routine_in t u k) (Close (Jumps to) l) r z
      → q ≡ begin_of (block_at t u m source f k ready to) → To t u m source f k ready q (Set_and_left a x c) c
  set_and_jump a x to l r q z c set one last =
      to_then t u m source f k ready r q (SetsTemp a x c) (Set_and_left a x c) c set
      (λ d i h g. to_as t u m source f k ready q _ _ d (jumps_to to l r z q d i h one last) (λ e o. record {
        temp = o.temps a ∙ g.temp;
        works = works_trans t u m source f k a a c d e (works_sets t u m source f k a a x c d g) (works_opens t u m source f k ready n a a d e o);
      }))

  -- the value of one type stands in another temporary as one of a type that counts as the same
  moved : (of by : CType) (a b : ℕ) (v : Result) (d e : Point) → alike of by ≡ true → Stands_in t u m source f k ready by b v d → e.view.cells (Temp a) ≡ d.view.cells (Temp b) → Stands_in t u m source f k ready of a v e
  moved of by a b (word v) d e same h is = (is ∙ h.0, as_alike t.word of by v same ∙ h.1, h.2)
  moved of by a b (absent at) d e same h is = tt

  -- a value was had and goes to the first temporary
  arrives : (of by : CType) (first result later : ℕ) (q : Place) (c b d : Point) (r : Place) (v : Result) (s : State) → alike of by ≡ true → scalar_count f ≤ first → first < later → Since t u m source f k ready first c b
      → Has t u m source f k ready by result later r b v s d → To t u m source f k ready q (Set_and_left first (d.view.cells (Temp result)) d) d
      → Does t u n d (Has t u m source f k ready of first first q c) (give v s)
  arrives of by first result later q c b d r v s same fresh lt since h to =
      to_does t u m source f k ready n q (Set_and_left first (d.view.cells (Temp result)) d) (Has t u m source f k ready of first first q c) d (give v s) to (λ w g. g.works.printed)
      (λ w j at' g. there t u n w (Has t u m source f k ready of first first q c) v s (record {
        inside = j;
        at = at';
        rep = rep_works t u m source f k ready first first d w fresh fresh g.works s h.rep;
        since = since_trans t u m source f k ready first first c d w (omega arith) (since_trans t u m source f k ready first later c b d (omega (arith, lt)) since h.since)
            (since_works t u m source f k ready first first first d w (omega arith) (omega arith) g.works);
        value = moved of by first result v d w same h.value g.temp;
      }))

  pub chosen_does : (P : Result → Type 0) (of left right : CType) (x y z : State → Part Result) (a : Test) (b c : Value) → alike of left ≡ true → alike of right ≡ true → Opens_next t u m source f k ready a
      → TestDoes t u m source f k ready n P x a → ValueDoes t u m source f k ready n left y b → ValueDoes t u m source f k ready n right z c
      → ValueDoes t u m source f k ready n of (λ s. then_do (then_do (x s) demand) (λ v. at_zero v z y)) (chosen a b c)
  chosen_does P of left right x y z a b c same_left same_right opens does_a does_b does_c first label p q at0 s fresh ops i at rep =
      let t1 = first + 1 + a.temps in
      let t2 = t1 + b.temps in
      let l1 = label + 3 + a.labels in
      let last = code.copy first (c.result t2) ∷ Close Falls (label + 2) ∷ [] in
      let after_b = c.ops t2 (l1 + b.labels) ++ last in
      let middle = code.copy first (b.result t1) ∷ Close (Jumps (label + 2)) label ∷ after_b in
      let parts = stands_split t u m k (a.ops false label (label + 1) (first + 1) (label + 3)) (b.ops t1 l1 ++ middle) p q ops in
      let second = stands_split t u m k (b.ops t1 l1) middle parts.0 q parts.2 in
      by_parts parts.0 second.0 parts.1 second.1 second.2
    where
      by_parts : (r1 r2 : Place) → Code (a.ops false label (label + 1) (first + 1) (label + 3)) p r1 → Code (b.ops (first + 1 + a.temps) (label + 3 + a.labels)) r1 r2
          → Code (code.copy first (b.result (first + 1 + a.temps)) ∷ Close (Jumps (label + 2)) label ∷ (c.ops (first + 1 + a.temps + b.temps) (label + 3 + a.labels + b.labels)
          ++ (code.copy first (c.result (first + 1 + a.temps + b.temps)) ∷ Close Falls (label + 2) ∷ []))) r2 q
          → Does t u n at0 (Has t u m source f k ready of first first q at0) (then_do (then_do (x s) demand) (λ v. at_zero v z y))
      by_parts r1 r2 test_ops b_ops (r3, copy_b, (r4, jump, rest)) =
          let t1 = first + 1 + a.temps in
          let t2 = t1 + b.temps in
          let l1 = label + 3 + a.labels in
          let third = stands_split t u m k (c.ops t2 (l1 + b.labels)) (code.copy first (c.result t2) ∷ Close Falls (label + 2) ∷ []) r4 q rest in
          by_end r1 r2 r3 r4 third.0 test_ops b_ops copy_b jump third.1 third.2
        where
          by_end : (r1 r2 r3 r4 r5 : Place) → Code (a.ops false label (label + 1) (first + 1) (label + 3)) p r1 → Code (b.ops (first + 1 + a.temps) (label + 3 + a.labels)) r1 r2
              → One t.word m (routine_in t u k) (code.copy first (b.result (first + 1 + a.temps))) r2 r3 → One t.word m (routine_in t u k) (Close (Jumps (label + 2)) label) r3 r4
              → Code (c.ops (first + 1 + a.temps + b.temps) (label + 3 + a.labels + b.labels)) r4 r5
              → Code (code.copy first (c.result (first + 1 + a.temps + b.temps)) ∷ Close Falls (label + 2) ∷ []) r5 q
              → Does t u n at0 (Has t u m source f k ready of first first q at0) (then_do (then_do (x s) demand) (λ v. at_zero v z y))
          by_end r1 r2 r3 r4 r5 test_ops b_ops copy_b jump c_ops (r6, copy_c, (r7, fall, end)) =
              let t1 = first + 1 + a.temps in
              let t2 = t1 + b.temps in
              let l1 = label + 3 + a.labels in
              let Whole = Has t u m source f k ready of first first q at0 in
              does_then t u n at0 (λ v. Tested_value t u m source f k ready P false label (first + 1) r1 at0 (word v)) Whole (then_do (x s) demand) (λ v. at_zero v z y)
              (needed_test t u m source f k ready n P false label (first + 1) r1 at0 (x s) (does_a false label (label + 1) (first + 1) (label + 3) p r1 at0 s (omega (arith, fresh)) test_ops i at rep))
              (λ v s1 d g. each v s1 d g.1)
            where
              each : (v : ℕ) (s1 : State) (d : Point) → Tested t u m source f k ready false label (first + 1) r1 at0 v s1 d → Does t u n d (Has t u m source f k ready of first first q at0) (at_zero v z y s1)
              each zero s1 d g =
                  let t2 = first + 1 + a.temps + b.temps in
                  let l2 = label + 3 + a.labels + b.labels in
                  let at4 = subst (λ w. At t u w d) (sym (closes_at t u m source f k ready n (Jumps (label + 2)) label r3 r4 jump)) g.at in
                  does_further t u n d (Has t u m source f k ready right (c.result t2) t2 r5 d) (Has t u m source f k ready of first first q at0) (z s1)
                  (does_c t2 l2 r4 r5 d s1 (omega (arith, fresh)) c_ops g.inside at4 g.rep)
                  (λ v s2 e h. arrives of right first (c.result t2) t2 q at0 d e r5 v s2 same_right fresh (omega arith) (since_trans t u m source f k ready first (first + 1) at0 at0 d (omega arith) (since_refl t u m source f k ready first at0) g.since) h
                  (set_and_fall first (e.view.cells (Temp (c.result t2))) (label + 2) r6 q r7 e (copies t u m source f k ready r5 r6 e h.inside h.at first (c.result t2) (e.view.cells (Temp (c.result t2))) copy_c refl) fall end))
              each (suc v) s1 d g =
                  let t1 = first + 1 + a.temps in
                  let l1 = label + 3 + a.labels in
                  does_further t u n d (Has t u m source f k ready left (b.result t1) t1 r2 d) (Has t u m source f k ready of first first q at0) (y s1)
                  (does_b t1 l1 r1 r2 d s1 (omega (arith, fresh)) b_ops g.inside g.at g.rep)
                  (λ v s2 e h. arrives of left first (b.result t1) t1 q at0 d e r2 v s2 same_left fresh (omega arith) (since_trans t u m source f k ready first (first + 1) at0 at0 d (omega arith) (since_refl t u m source f k ready first at0) g.since) h
                  (set_and_jump first (e.view.cells (Temp (b.result t1))) (label + 2) label r3 q r4 e (copies t u m source f k ready r2 r3 e h.inside h.at first (b.result t1) (e.view.cells (Temp (b.result t1))) copy_b refl) jump
                  (end ∙ closes_at t u m source f k ready n Falls (label + 2) r6 r7 fall)))
